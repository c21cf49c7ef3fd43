-- What each kind answers, by what code finds: places of zeros and ones, trits, ranks and a node's group. Assumes nothing.
use Prim.Native.Nat.{ℕ, zero, suc, ◌+◌, ◌-◌, ◌≤◌, ◌<◌}
use native.Mathlib.Omega.{arith}
use native.Mathlib.Decide.{dec_le}
use native.Mathlib.Numerals.{add-one}
use mathlib.Core.Path.{◌≡◌, refl, sym, ap, ◌∙◌}
use mathlib.Core.Option.{Option, none, some, none-ne-some}
use Rattle.std.specs.Prelude.{Option as Maybe, Some, None, IsSome}
use Rattle.format.specs.Answers.{found_place}
use mathlib.Core.List.{List}
use lib.Dec.{eqb, ltb}
use lib.ListN.{length, get_or}
use borrow.Author.Tests.{le-leb, lt-ltb, le-ltb}
use Rattle.format.specs.Lists.{bit, count_in, numbered}
use Rattle.format.specs.Trits.{rank, places, select, Selected, nth}
use Rattle.format.specs.Image.{node_count, root_count, shadow_at, group, grouped}
use Rattle.format.specs.Proper.{trits_of, shadows_of, ProperTrits}
use Rattle.format.specs.Edges.{Edge, operand_at, edge_at, use_edges}
use Rattle.format.specs.Question.{Reply, refused, plain, says, operand_or33, user_or33, answer, select_answer, operand_count, operand_answer, use_count, use_answer}
use Rattle.format.proofs.Laws.{rank_mono, rank_here, rank_count, rank_three}
use Rattle.format.proofs.Select.{select_found, place_of_lem, place_rank, length_places}
use Rattle.format.proofs.Sizes.{grouped_suc, length_grouped}
use Rattle.format.proofs.ImageReads.{Each, each_append, each_kept}
use Rattle.format.proofs.CheckLaws.{limits_nodes, shadow_nodes}
use Rattle.format.proofs.ProperLaws.{nth_selected, zeros_ones, length_trits, operand_count_lem, use_count_lem}
use Rattle.format.proofs.Lookups.{operand_at_lem, operand_none, use_real, use_shadow, use_none}
use Rattle.format.proofs.Outcomes.{kind_3, kind_4, kind_5, kind_6}
use Rattle.format.proofs.OnImage.{proper}
use Rattle.trits.specs.declared.Layout.{Layout}
use Rattle.trits.specs.Layout.{layout_of, Laid}
use Rattle.asking.specs.Nodes.{NodeIn}

-- ---- what a layout says

module _ {b : List ℕ} {lay : Layout} (L : Laid b lay) where
  pub nodes_is : lay.nodes ≡ node_count (trits_of b)
  unfolding layout_of
  nodes_is = rw L.is

  pub roots_is : lay.roots ≡ root_count (trits_of b)
  unfolding layout_of
  roots_is = rw L.is

-- ---- kind 2

pub select_nothing : (a : ℕ) (trits : List ℕ) (b : ℕ) → a ≤ 2 → none ≡ select a trits b → refused 33 ≡ select_answer trits a b
unfolding select_answer
select_nothing a trits b h e = rw (le-leb a 2 h, ← e)

pub select_value : (a : ℕ) (trits : List ℕ) (b : ℕ) {p : ℕ} → a ≤ 2 → some p ≡ select a trits b → plain p ≡ select_answer trits a b
unfolding select_answer
select_value a trits b h e = rw (le-leb a 2 h, ← e)

-- ---- places

-- a number up to the count has its place
pub never_nothing : (t : ℕ) (xs : List ℕ) (j : ℕ) → 0 < j → j ≤ count_in t xs → none ≡ select t xs j → ⊥
never_nothing t xs zero h l e = absurd (omega arith)
never_nothing t xs (suc j) h l e = none-ne-some _ (e ∙ select_found t xs j l)

pub found_there : (t : ℕ) (xs : List ℕ) (j : ℕ) → 0 < j → j ≤ count_in t xs → (r : Maybe ℕ) → found_place r ≡ select t xs j → IsSome r
found_there t xs j h l None e = absurd (never_nothing t xs j h l e)
found_there t xs j h l (Some p) e = refl

selected_nth : {t : ℕ} {xs : List ℕ} {j p : ℕ} → Selected t xs j p → p ≡ nth t xs j
unfolding nth
selected_nth {t} {xs} {j} {p} s =
    let e : j - 1 ≡ rank t xs p = omega (arith, s.ranked) in
    sym (ap (λ (k : ℕ). get_or (places t xs) k 0) e ∙ place_rank t xs p s.inside s.holds)

pub selected_apart : {t : ℕ} {xs : List ℕ} {j z n : ℕ} → Selected t xs j z → Selected t xs (j + 1) n → z < n
selected_apart {t} {xs} {j} {z} {n} Z N = go (dec_le n z)
  where
    go : Dec (n ≤ z) → z < n
    go (yes l) = absurd (omega (arith, rank_mono t xs n z l, Z.ranked, N.ranked))
    go (no l) = omega arith

module _ {trits H : List ℕ} (p : ProperTrits trits H) where
  pub nodes_few : node_count trits ≤ 30000
  nodes_few = limits_nodes trits p.in_limits

  -- each entry of section 5 is the place of a 2
  abbrev pub Two : ℕ → Type 0
  Two q = (q < length trits) × (get_or trits q 0 ≡ 2)

  pub grouped_twos : (j : ℕ) → Each Two (grouped trits H j)
  unfolding grouped group
  grouped_twos zero = λ i l. absurd (omega arith)
  grouped_twos (suc j) =
      rw grouped_suc
      (each_append Two (grouped trits H j) (group trits H (suc j)) (grouped_twos j)
      (each_kept Two (λ q. eqb (shadow_at trits H q) (suc j)) (places 2 trits)
      (λ i l. let s = place_of_lem 2 trits i (omega (arith, length_places 2 trits)) in (s.inside, s.holds))))

  pub place_two : {j q : ℕ} → j < length H → q ≡ get_or (grouped trits H (node_count trits)) j 0 → Two q
  place_two {j} l e =
      rw e
      (grouped_twos (node_count trits) j (omega (arith, length_grouped trits H p.paired (shadow_nodes trits H p.paired p.seen))))

  pub shadows_few : length H < 125536
  shadows_few = omega (arith, length_trits trits H p, p.length_high)

  -- ---- edges at a place

  -- a 1 is the next node, a 2 the next entry of H
  pub edge_real : (q : ℕ) {o s : ℕ} → get_or trits q 0 ≡ 1 → o ≡ rank 1 trits q → s ≡ 1 → says 0 (o + 1) s ≡ operand_or33 (some (edge_at trits H q))
  unfolding edge_at operand_at
  edge_real q e eo es = rw (eo, es, e)

  pub edge_shadow : (q : ℕ) {x s : ℕ} → get_or trits q 0 ≡ 2 → x ≡ get_or H (rank 2 trits q) 0 → s ≡ 2 → says 0 x s ≡ operand_or33 (some (edge_at trits H q))
  unfolding edge_at operand_at shadow_at
  edge_shadow q e ex es = rw (ex, es, e)

  pub edge_user : (q : ℕ) {u s : ℕ} → get_or trits q 0 ≡ s → u ≡ rank 0 trits q → says 0 u s ≡ user_or33 (some (edge_at trits H q))
  unfolding edge_at
  edge_user q e eu = rw (eu, e)

  pub ones_few : (q : ℕ) → rank 1 trits q ≤ 30000
  unfolding node_count
  ones_few q = omega (arith, rank_count 1 trits q, nodes_few)

  pub zeros_few : (q : ℕ) → rank 0 trits q ≤ 30001
  zeros_few q = omega (arith, rank_count 0 trits q, zeros_ones trits p.is_balanced, nodes_few)

  -- the twos are what zeros and ones leave, and each has its entry of H
  pub record Twos (q z o : ℕ) : Type 0 where
    pub room : z + o ≤ q
    pub left : q - z - o ≡ rank 2 trits q
    pub inside : get_or trits q 0 ≡ 2 → q - z - o < length H

  pub twos : {q z o : ℕ} → q < length trits → z ≡ rank 0 trits q → o ≡ rank 1 trits q → Twos q z o
  twos {q} {z} {o} l ez eo =
      let three : rank 0 trits q + rank 1 trits q + rank 2 trits q ≡ q = rank_three trits p.threes q (omega arith) in
      record {
        room = omega arith;
        left = omega arith;
        inside = λ e. omega (arith, rank_here 2 trits q l e, rank_count 2 trits (suc q), p.paired);
      }

-- ---- kinds 3 to 6, of a node

module _ {image : List ℕ} {lay : Layout} {a : ℕ} (n : NodeIn image lay a) where
  abbrev trits : List ℕ
  trits = trits_of image

  abbrev H : List ℕ
  H = shadows_of image

  abbrev p : ProperTrits trits H
  p = proper n.laid.whole

  abbrev low : 1 ≤ a
  low = n.low

  abbrev high : a ≤ node_count trits
  high = n.high

  pub zero_there : a + 1 ≤ count_in 0 trits
  zero_there = omega (arith, zeros_ones trits p.is_balanced)

  pub one_there : a ≤ count_in 1 trits
  unfolding node_count
  one_there = high

  -- kind 3
  pub operands_value : {b z y : ℕ} → b ≡ 0 → Selected 0 trits a z → Selected 0 trits (a + 1) y → plain (y - z - 1) ≡ operand_count trits H a b
  unfolding answer
  operands_value eb Z Y =
      rw (eb, selected_nth Z, selected_nth Y, add-one a) (sym (kind_3 trits H a low high ∙ ap plain (operand_count_lem trits H p a low high)))

  -- kind 4
  pub operand_zero : {b : ℕ} → b ≡ 0 → refused 33 ≡ operand_answer trits H a b
  unfolding answer
  operand_zero eb = rw eb (sym (kind_4 trits H a low high 0))

  next : ℕ
  next = nth 0 trits (suc a)

  Next : Selected 0 trits (suc a) next
  unfolding next
  Next = nth_selected 0 trits (suc a) (omega arith) (omega (arith, zeros_ones trits p.is_balanced))

  module _ {b z : ℕ} (hb : 1 ≤ b) (Z : Selected 0 trits a z) where
    -- no zero stands between z and the next
    between : z + b < next → (rank 0 trits (z + b) ≡ a) × (get_or trits (z + b) 0 ≡ 0 → ⊥)
    between l =
        let from : a ≤ rank 0 trits (z + b) = omega (arith, Z.ranked, rank_here 0 trits z Z.inside Z.holds, rank_mono 0 trits (suc z) (z + b) (omega arith)) in
        let to : rank 0 trits (suc (z + b)) ≤ a = omega (arith, Next.ranked, rank_mono 0 trits (suc (z + b)) next l) in (
          omega (arith, rank_mono 0 trits (z + b) (suc (z + b)) (omega arith)),
          λ e. omega (arith, rank_here 0 trits (z + b) (omega (arith, Next.inside)) e),
        )

    gone : next ≤ z + b → refused 33 ≡ operand_answer trits H a b
    unfolding answer next
    gone l = sym (kind_4 trits H a low high b ∙ ap operand_or33 (operand_none trits H p a b low high (omega (arith, selected_nth Z))))

    missing : ((rank 0 trits (z + b) ≡ a) × (get_or trits (z + b) 0 ≡ 0 → ⊥) → ⊥) → refused 33 ≡ operand_answer trits H a b
    missing h = go (dec_le next (z + b))
      where
        go : Dec (next ≤ z + b) → refused 33 ≡ operand_answer trits H a b
        go (yes l) = gone l
        go (no l) = absurd (h (between (omega arith)))

    pub operand_outside : length trits - z ≤ b → refused 33 ≡ operand_answer trits H a b
    operand_outside l = gone (omega (arith, Next.inside))

    pub operand_end : {t : ℕ} → t ≡ get_or trits (z + b) 0 → t ≡ 0 → refused 33 ≡ operand_answer trits H a b
    operand_end et e = missing (λ h. h.1 (sym et ∙ e))

    pub operand_other : {x : ℕ} → x ≡ rank 0 trits (z + b) → (x ≡ a → ⊥) → refused 33 ≡ operand_answer trits H a b
    operand_other ex ne = missing (λ h. ne (ex ∙ h.0))

    pub operand_there : rank 0 trits (z + b) ≡ a → (get_or trits (z + b) 0 ≡ 0 → ⊥)
        → operand_or33 (some (edge_at trits H (z + b))) ≡ operand_answer trits H a b
    unfolding answer next
    operand_there er ne = go (dec_le next (z + b))
      where
        go : Dec (next ≤ z + b) → operand_or33 (some (edge_at trits H (z + b))) ≡ operand_answer trits H a b
        go (no q) =
            sym (kind_4 trits H a low high b
            ∙ ap operand_or33 (operand_at_lem trits H p a b low high hb (omega (arith, selected_nth Z)) ∙ ap {B = Option Edge} (λ k. some (edge_at trits H (k + b))) (sym (selected_nth Z))))
        go (yes q) = absurd (at_end (dec_le (z + b) next))
          where
            at_end : Dec (z + b ≤ next) → ⊥
            at_end (yes k) = let e : z + b ≡ next = omega arith in ne (ap (λ (k : ℕ). get_or trits k 0) e ∙ Next.holds)
            at_end (no k) = omega (arith, Next.ranked, rank_here 0 trits next Next.inside Next.holds, rank_mono 0 trits (suc next) (z + b) (omega arith))

  -- kind 5
  pub uses_root : {b k : ℕ} → b ≡ 0 → a ≤ root_count trits → k ≡ count_in a H → plain k ≡ use_count trits H a b
  unfolding answer
  uses_root eb r ek =
      rw eb (sym (kind_5 trits H a low high ∙ ap plain (omega (arith, use_count_lem trits H p a low high, ap bit (le-ltb (root_count trits) a r)))))

  pub uses_real : {b k : ℕ} → b ≡ 0 → root_count trits < a → k ≡ count_in a H + 1 → plain k ≡ use_count trits H a b
  unfolding answer
  uses_real eb r ek =
      rw eb (sym (kind_5 trits H a low high ∙ ap plain (omega (arith, use_count_lem trits H p a low high, ap bit (lt-ltb (root_count trits) a r)))))

  -- kind 6: shadow use j, counted from 1
  abbrev shadow_use : ℕ → Option Edge
  shadow_use j = numbered (use_edges trits H a) (bit (ltb (root_count trits) a) + j)

  pub use_past : {j : ℕ} → count_in a H < j → refused 33 ≡ user_or33 (shadow_use j)
  use_past {j} l = ap user_or33 (sym (use_none trits H p a (bit (ltb (root_count trits) a) + j) low high (omega arith)))

  pub use_there : {j f q : ℕ} → 1 ≤ j → j ≤ count_in a H → f ≡ length (grouped trits H (a - 1))
      → q ≡ get_or (grouped trits H (node_count trits)) (f + (j - 1)) 0 → shadow_use j ≡ some (edge_at trits H q)
  use_there {j} k l ef eq =
      let e : suc (a - 1) ≡ a = omega arith in
      let m : bit (ltb (root_count trits) a) + j ≡ suc (bit (ltb (root_count trits) a) + (j - 1)) = omega arith in
      let there = rw e at (use_shadow trits H p (a - 1) (j - 1) (omega arith) (rw e (omega arith))) in
      rw (eq, ef) (ap (numbered (use_edges trits H a)) m ∙ there)

  pub user_zero : {b : ℕ} → b ≡ 0 → refused 33 ≡ use_answer trits H a b
  unfolding answer
  user_zero eb = rw eb (sym (kind_6 trits H a low high 0))

  pub user_shadow : (j : ℕ) {b : ℕ} {r : Reply} → r ≡ user_or33 (shadow_use j) → bit (ltb (root_count trits) a) + j ≡ b → r ≡ use_answer trits H a b
  unfolding answer
  user_shadow j {b} e eb = e ∙ ap (λ (k : ℕ). user_or33 (numbered (use_edges trits H a) k)) eb ∙ sym (kind_6 trits H a low high b)

  pub user_real : {b q u : ℕ} → b ≡ 1 → root_count trits < a → Selected 1 trits a q → u ≡ rank 0 trits q → says 0 u 1 ≡ use_answer trits H a b
  unfolding answer
  user_real {b} {q} eb r S eu =
      edge_user p q S.holds eu
      ∙ ap (λ (k : ℕ). user_or33 (some (edge_at trits H k))) (selected_nth S)
      ∙ rw eb (sym (kind_6 trits H a low high 1 ∙ ap user_or33 (use_real trits H p a r high)))
