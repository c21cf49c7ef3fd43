-- The codes that each entry can give, that the lengths of images and tables fit 32 bits, and that every answer on proper trits has a case and fits its words.
-- Assumes nothing.
use Prim.Native.Nat.{ℕ, zero, suc, ◌/◌, ◌%◌, ◌≤◌, ◌<◌}
use native.Mathlib.Omega.{arith}
use mathlib.Core.Path.{◌≡◌, refl, sym, subst}
use mathlib.Core.Logic.{◌⊎◌, inl, inr}
use mathlib.Core.Bool.{Bool, true, false}
use mathlib.Core.Option.{Option, none, some}
use mathlib.Core.List.{List, [], ◌∷◌, map}
use lib.Dec.{eqb, leb, ltb, lit≤, lit<}
use lib.ListN.{length, get_elem?, get_or, drop}
use borrow.Author.Tests.{ltb-true}
use native.Mathlib.Nat.{not-suc-le-zero}
use Rattle.format.specs.Lists.{All, cons_if, keep, numbered, run, one_to, Below, join}
use Rattle.format.specs.Table.{is_node, words}
use Rattle.format.specs.Trits.{rank, select}
use Rattle.format.specs.Level.{walk}
use Rattle.format.specs.Image.{node_count, root_count, edge_count, marked, marked_nodes, image}
use Rattle.format.specs.Faults.{fault, ◌then◌}
use Rattle.format.specs.Proper.{ProperTrits, check_image, trits_of, shadows_of, ImageCode}
use Rattle.format.specs.Edges.{Edge, is_edge, edge_at, edge_list, operand_edges, use_edges}
use Rattle.format.specs.Question.{Reply, refused, plain, within, place_or33, operand_or33, user_or33, answer, trit_answer, rank_answer, select_answer, operand_count, operand_answer, use_count, use_answer}
use Rattle.format.specs.Answers.{Answerable}
use Rattle.format.specs.Unpack.{unpack, unpack_settled, unpack_outcome}
use Rattle.format.specs.Batch.{answers, batch_ran, batch_settled, tally_holds, batch_fault, batch_outcome, three_words, BatchOutcome}
use Rattle.format.specs.Packing.{image_of, pack_outcome}
use Rattle.std.specs.Prelude.{Ok, Err}
use Rattle.format.specs.declared.Answer.TheVariants.{Value, Listed}
use Rattle.format.specs.declared.Sort.TheVariants.{Real, Shadow}
use Rattle.format.specs.declared.Refusal.TheVariants.{UnknownKind, FirstOutside, SecondOutside}
use Rattle.format.specs.declared.Tally.{Tally}
use Rattle.format.proofs.Laws.{count_le, length_keep, length_run}
use Rattle.format.proofs.Places.{all_imp, all_map}
use Rattle.format.proofs.Select.{select_some}
use Rattle.format.proofs.Sizes.{image_length, length_image}
use Rattle.format.proofs.CheckLaws.{shadow_nodes, limits_nodes, image_passed}
use Rattle.format.proofs.Steps.{image_code}
use Rattle.format.proofs.Facts.{Edged, edge_places, user_node, operand_node, length_edges, operands_le}
use Rattle.format.proofs.Accepting.{each_all, proper_table, reads_as}
use Rattle.format.proofs.Outcomes.{pack_cases, length_words}
use Rattle.format.proofs.Laws.{rank_count}
use Rattle.format.proofs.FaultLaws.{then_in, then_zero, fault_in}
use Rattle.format.proofs.Neighbours.{unpack_accepted, unpack_nodes}
use Rattle.format.proofs.Sums.{roots_nodes}
use Rattle.format.proofs.ImageReads.{each_append}
use Rattle.format.proofs.BatchLaws.{batch_ran_lem, batch_runs, batch_refused_lem}
use Rattle.format.proofs.Digits.{below_drop}

-- ---- the entries

pub pack_codes : (table order work buffer : List ℕ) → (pack_outcome table order work buffer).returned.code ≤ 9
pack_codes table order work buffer =
    pack_cases table order work buffer (λ o. o.returned.code ≤ 9)
    (λ f e l u. omega arith) (λ g e. lit≤ tt) (λ g e w. lit≤ tt) (λ g e w. lit≤ tt) (λ r. lit≤ tt)

-- the longest image has less than 1,000,000 bytes, so a length fits 32 bits
image_short : (trits H : List ℕ) → ProperTrits trits H → length (image trits H) < 4294967296
unfolding image_length marked_nodes
image_short trits H p =
    omega (
      arith,
      length_image trits H p.paired (shadow_nodes trits H p.paired p.seen),
      p.length_high,
      p.paired,
      count_le 2 trits,
      limits_nodes trits p.in_limits,
      length_keep (marked H) (one_to (node_count trits)),
      length_run 1 (node_count trits),
    )

pub pack_fits : (table order work buffer : List ℕ) → (pack_outcome table order work buffer).returned.value < 4294967296
unfolding image_of
pack_fits table order work buffer =
    pack_cases table order work buffer (λ o. o.returned.value < 4294967296)
    (λ f e l u. lit< tt) (λ g e. lit< tt) (λ g e w. lit< tt) (λ g e w. lit< tt)
    (λ r. image_short (walk r.of).trits (walk r.of).shadows (proper_table table r.of r.is))

-- 0, 21 to 26, or 51
pub unpack_codes : (image buffer : List ℕ) → ImageCode (unpack_outcome image buffer).returned.code ⊎ ((unpack_outcome image buffer).returned.code ≡ 51)
unfolding unpack_outcome
unpack_codes image buffer =
    let ws : List ℕ = words (unpack (trits_of image) (shadows_of image)) in
    let P : ℕ → Type 0 = λ x. ImageCode x ⊎ (x ≡ 51) in
    go ws (check_image image then fault 51 (leb (length ws) (length buffer)))
    (then_in P _ _ (inl (image_code image)) (fault_in P (inl (inl refl)) 51 (leb (length ws) (length buffer)) (inr refl)))
  where
    go : (ws : List ℕ) (x : ℕ) → ImageCode x ⊎ (x ≡ 51) → ImageCode (unpack_settled x ws buffer).returned.code ⊎ ((unpack_settled x ws buffer).returned.code ≡ 51)
    go ws zero h = h
    go ws (suc x) h = h

-- a table has at most 125,537 words, so its length fits 32 bits
table_short : (trits H : List ℕ) → ProperTrits trits H → length (words (unpack trits H)) < 4294967296
unfolding unpack
table_short trits H p =
    let g = unpack trits H in
    omega (
      arith,
      length_words g,
      (reads_as (words g) g (unpack_accepted trits H p)).2.edges_fit,
      unpack_nodes trits H p,
      limits_nodes trits p.in_limits,
      length_run 1 (root_count trits),
      roots_nodes trits,
    )

pub unpack_short : (image buffer : List ℕ) → Below 256 image → (unpack_outcome image buffer).returned.value < 4294967296
unfolding unpack_outcome
unpack_short image buffer low =
    let ws : List ℕ = words (unpack (trits_of image) (shadows_of image)) in
    go ws (check_image image then fault 51 (leb (length ws) (length buffer)))
    (λ e. table_short (trits_of image) (shadows_of image) (image_passed image low (then_zero (check_image image) _ e).0).proper)
  where
    go : (ws : List ℕ) (x : ℕ) → (x ≡ 0 → length ws < 4294967296) → (unpack_settled x ws buffer).returned.value < 4294967296
    go ws zero h = h refl
    go ws (suc x) h = lit< tt

-- 0, 21 to 26, or 41 to 43
abbrev pub BatchCode : ℕ → Type 0
BatchCode x = ImageCode x ⊎ ((41 ≤ x) × (x ≤ 43))

pub batch_codes : (image questions buffer : List ℕ) (t : Tally) → BatchCode (batch_outcome image questions buffer t).code
unfolding batch_outcome batch_fault
batch_codes image questions buffer t =
    let z : BatchCode 0 = inl (inl refl) in
    go (batch_fault image questions buffer t)
    (then_in BatchCode _ _ (fault_in BatchCode z 41 (eqb (length questions % 3) 0) (inr (lit≤ tt, lit≤ tt)))
    (then_in BatchCode _ _ (fault_in BatchCode z 42 (leb (length questions) (length buffer)) (inr (lit≤ tt, lit≤ tt)))
    (then_in BatchCode _ _ (fault_in BatchCode z 43 (tally_holds t (length questions / 3)) (inr (lit≤ tt, lit≤ tt))) (inl (image_code image)))))
  where
    go : (x : ℕ) → BatchCode x → BatchCode (batch_settled x buffer t (batch_ran (answers (trits_of image) (shadows_of image) questions) buffer t)).code
    go zero h = h
    go (suc x) h = h

-- ---- one question

fair_31 : Answerable (refused 31)
fair_31 = record { has = (Err UnknownKind, refl); codes = inr (lit≤ tt, lit≤ tt); value_fits = lit≤ tt; sort_fits = lit≤ tt }

fair_32 : Answerable (refused 32)
fair_32 = record { has = (Err FirstOutside, refl); codes = inr (lit≤ tt, lit≤ tt); value_fits = lit≤ tt; sort_fits = lit≤ tt }

fair_33 : Answerable (refused 33)
fair_33 = record { has = (Err SecondOutside, refl); codes = inr (lit≤ tt, lit≤ tt); value_fits = lit≤ tt; sort_fits = lit≤ tt }

fair_plain : (v : ℕ) → v ≤ 125536 → Answerable (plain v)
fair_plain v h = record { has = (Ok (Value v), refl); codes = inl refl; value_fits = h; sort_fits = lit≤ tt }

fair_listed : (v s : ℕ) → v ≤ 125536 → 0 < s → s < 3 → Answerable (record { code = 0; value = v; sort = s })
fair_listed v zero h l u = absurd (omega arith)
fair_listed v (suc zero) h l u = record { has = (Ok (Listed (record { node = v; sort = Real })), refl); codes = inl refl; value_fits = h; sort_fits = lit≤ tt }
fair_listed v (suc (suc zero)) h l u = record { has = (Ok (Listed (record { node = v; sort = Shadow })), refl); codes = inl refl; value_fits = h; sort_fits = lit≤ tt }
fair_listed v (suc (suc (suc s))) h l u = absurd (omega arith)

fair_within : (c : ℕ) (t : Bool) (r : Reply) → Answerable (refused c) → (t ≡ true → Answerable r) → Answerable (within c t r)
fair_within c true r h k = k refl
fair_within c false r h k = h

module _ (F : Option Edge → Reply) (no : Answerable (F none)) where
  fair_element : (es : List Edge) → All (λ (e : Edge). Answerable (F (some e))) es → (j : ℕ) → Answerable (F (get_elem? es j))
  fair_element [] a j = no
  fair_element (e ∷ es) a zero = a.0
  fair_element (e ∷ es) a (suc j) = fair_element es a.1 j

  fair_number : (es : List Edge) → All (λ (e : Edge). Answerable (F (some e))) es → (b : ℕ) → Answerable (F (numbered es b))
  fair_number es a zero = no
  fair_number es a (suc j) = fair_element es a j

all_keep : (P : Edge → Type 0) (f : Edge → Bool) (es : List Edge) → All P es → All P (keep f es)
all_keep P f [] a = tt
all_keep P f (e ∷ es) a = go (f e) (all_keep P f es a.1)
  where
    go : (b : Bool) → All P (keep f es) → All P (cons_if b e (keep f es))
    go true h = (a.0, h)
    go false h = h

module _ (trits H : List ℕ) (p : ProperTrits trits H) where
  all_edges : (P : Edge → Type 0) → ((q : ℕ) → Edged trits q → P (edge_at trits H q)) → All P (edge_list trits H)
  unfolding edge_list
  all_edges P h =
      let qs : List ℕ = keep (is_edge trits) (run 0 (length trits)) in
      all_map P (edge_at trits H) qs (all_imp (Edged trits) (λ (q : ℕ). P (edge_at trits H q)) qs h (each_all (Edged trits) qs (edge_places trits)))

  operands_fair : All (λ (e : Edge). Answerable (operand_or33 (some e))) (edge_list trits H)
  unfolding edge_at
  operands_fair = all_edges (λ (e : Edge). Answerable (operand_or33 (some e))) (λ q d.
      fair_listed _ _ (omega (arith, operand_node trits H p q d.inside, limits_nodes trits p.in_limits)) d.written (p.threes q d.inside))

  users_fair : All (λ (e : Edge). Answerable (user_or33 (some e))) (edge_list trits H)
  unfolding edge_at
  users_fair = all_edges (λ (e : Edge). Answerable (user_or33 (some e))) (λ q d.
      fair_listed _ _ (omega (arith, user_node trits H p q d.inside, limits_nodes trits p.in_limits)) d.written (p.threes q d.inside))

  edges_few : edge_count trits ≤ 125536
  unfolding edge_count
  edges_few = omega (arith, p.length_high)

  uses_le : (a : ℕ) → length (use_edges trits H a) ≤ edge_count trits
  unfolding use_edges
  uses_le a = omega (arith, length_keep (λ e. eqb e.operand a) (edge_list trits H), length_edges trits H p)

  pub fair : (k a b : ℕ) → Answerable (answer trits H k a b)
  unfolding answer trit_answer rank_answer select_answer operand_count operand_answer use_count use_answer operand_edges use_edges
  fair zero a b =
      fair_within 32 (ltb a (length trits)) _ fair_32 (λ h. fair_within 33 (eqb b 0) _ fair_33 (λ k. fair_plain (get_or trits a 0)
      (omega (arith, p.threes a (ltb-true a (length trits) h)))))
  fair (suc zero) a b =
      fair_within 32 (leb a 2) _ fair_32 (λ h. fair_within 33 (leb b (length trits)) _ fair_33 (λ k. fair_plain (rank a trits b)
      (omega (arith, rank_count a trits b, count_le a trits, p.length_high))))
  fair (suc (suc zero)) a b = fair_within 32 (leb a 2) _ fair_32 (λ h. go (select a trits b) refl)
    where
      go : (o : Option ℕ) → select a trits b ≡ o → Answerable (place_or33 o)
      go none e = fair_33
      go (some q) e = fair_plain q (omega (arith, (select_some a trits b q e).inside, p.length_high))
  fair (suc (suc (suc zero))) a b =
      fair_within 32 (is_node (node_count trits) a) _ fair_32 (λ h. fair_within 33 (eqb b 0) _ fair_33 (λ k. fair_plain (length (operand_edges trits H a))
      (omega (arith, operands_le trits H p a, edges_few))))
  fair (suc (suc (suc (suc zero)))) a b =
      fair_within 32 (is_node (node_count trits) a) _ fair_32 (λ h. fair_number operand_or33 fair_33 (operand_edges trits H a)
      (all_keep (λ (e : Edge). Answerable (operand_or33 (some e))) (λ e. eqb e.user a) (edge_list trits H) operands_fair) b)
  fair (suc (suc (suc (suc (suc zero))))) a b =
      fair_within 32 (is_node (node_count trits) a) _ fair_32 (λ h. fair_within 33 (eqb b 0) _ fair_33 (λ k. fair_plain (length (use_edges trits H a))
      (omega (arith, uses_le a, edges_few))))
  fair (suc (suc (suc (suc (suc (suc zero)))))) a b =
      fair_within 32 (is_node (node_count trits) a) _ fair_32 (λ h. fair_number user_or33 fair_33 (use_edges trits H a)
      (all_keep (λ (e : Edge). Answerable (user_or33 (some e))) (λ e. eqb e.operand a) (edge_list trits H) users_fair) b)
  fair (suc (suc (suc (suc (suc (suc (suc k))))))) a b = fair_31

-- ---- the words of a batch fit 32 bits

module _ (trits H : List ℕ) (p : ProperTrits trits H) where
  words_low : (qs : List ℕ) → Below 4294967296 (join (map three_words (answers trits H qs)))
  words_low [] = λ i l. absurd (not-suc-le-zero l)
  words_low (k ∷ []) = λ i l. absurd (not-suc-le-zero l)
  words_low (k ∷ a ∷ []) = λ i l. absurd (not-suc-le-zero l)
  words_low (k ∷ a ∷ b ∷ qs) =
      let r : Reply = answer trits H k a b in
      let f = fair trits H p k a b in
      each_append (λ x. x < 4294967296) (three_words r) (join (map three_words (answers trits H qs))) (three r (code_low r f.codes) (omega (arith, f.value_fits)) (omega (arith, f.sort_fits))) (words_low qs)
    where
      code_low : (r : Reply) → (r.code ≡ 0) ⊎ ((31 ≤ r.code) × (r.code ≤ 33)) → r.code < 4294967296
      code_low r (inl e) = omega arith
      code_low r (inr h) = omega arith

      three : (r : Reply) → r.code < 4294967296 → r.value < 4294967296 → r.sort < 4294967296 → Below 4294967296 (three_words r)
      three r c v s zero l = c
      three r c v s (suc zero) l = v
      three r c v s (suc (suc zero)) l = s
      three r c v s (suc (suc (suc i))) l = absurd (omega arith)

pub batch_fits : (image questions buffer : List ℕ) (t : Tally) → Below 256 image → Below 4294967296 buffer → Below 4294967296 (batch_outcome image questions buffer t).words
batch_fits image questions buffer t low h = go (batch_fault image questions buffer t) refl
  where
    go : (x : ℕ) → batch_fault image questions buffer t ≡ x → Below 4294967296 (batch_outcome image questions buffer t).words
    go zero e =
        let ws : List ℕ = join (map three_words (answers (trits_of image) (shadows_of image) questions)) in
        subst (λ (o : BatchOutcome). Below 4294967296 o.words) (sym (batch_ran_lem image questions buffer t e))
        (each_append (λ x. x < 4294967296) ws (drop (length ws) buffer)
        (words_low (trits_of image) (shadows_of image) (image_passed image low (batch_runs image questions buffer t e).proper).proper questions)
        (below_drop 4294967296 (length ws) buffer h))
    go (suc c) e = subst (λ (o : BatchOutcome). Below 4294967296 o.words) (sym (batch_refused_lem image questions buffer t c e)) h
