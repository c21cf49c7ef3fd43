-- Section 4 beside section 5: where its places come to another node, their index is the next number of section 4. Assumes nothing.
use Prim.Native.Nat.{ℕ, zero, suc, ◌+◌, ◌-◌, ◌*◌, ◌/◌, ◌≤◌, ◌<◌, zero-le, suc-le-suc}
use native.Mathlib.Nat.{add-zero, zero-add}
use native.Mathlib.Omega.{arith}
use native.Mathlib.Numerals.{add-one, sub-one}
use mathlib.Core.Path.{◌≡◌, refl, sym, ap, ◌∙◌}
use mathlib.Core.Bool.{Bool, true, false}
use mathlib.Core.List.{List, [], ◌∷◌, ◌++◌, map}
use lib.Dec.{eqb, leb, ltb, lit<}
use lib.ListN.{length, get_or, drop, length-append, length-drop, drop_of_length-le}
use lib.Seq.{drop-cons, get_or-drop, drop-drop}
use borrow.Author.Count.{below_none, below_more}
use borrow.Author.Tests.{eqb-true, eq-eqb, le-leb, lt-ltb, le-ltb}
use Rattle.format.specs.Lists.{run, cons_if, keep, join, same, Below}
use Rattle.format.specs.Image.{bytes, node_count, shadow_at, marked, marked_nodes, group, grouped, starts, read}
use Rattle.format.specs.Trits.{places}
use Rattle.format.specs.Proper.{ProperTrits}
use Rattle.format.proofs.Laws.{both_true, true_both, last_false, same_eq}
use Rattle.format.proofs.Sizes.{length_bytes, length_group, length_starts, grouped_suc}
use Rattle.format.proofs.Steps.{bytes_same}
use Rattle.format.proofs.ImageReads.{Each, fits4, fits5}
use Rattle.proper.specs.Places.{key, Rises, number_is, Long, both_right}
use Rattle.proper.proofs.KeyLaws.{Climbed, entries, number_in_lem, refuted, many, climbed_none, climbed_next, climbed_wrong, climbed_all}

-- ---- the first indices

-- the indices, from e on, of the places whose node is above the node before, v; then how many places there are
abbrev pub firsts : (ℕ → ℕ) → ℕ → ℕ → List ℕ → List ℕ
firsts node e v [] = e ∷ []
firsts node e v (p ∷ ps) = cons_if (ltb v (node p)) e (firsts node (suc e) (node p) ps)

-- places of the node before have none
firsts_same : (node : ℕ → ℕ) (e v : ℕ) (xs ys : List ℕ) → Each (λ p. node p ≡ v) xs → firsts node e v (xs ++ ys) ≡ firsts node (e + length xs) v ys
firsts_same node e v [] ys h = ap (λ (i : ℕ). firsts node i v ys) (sym (add-zero e))
firsts_same node e v (p ∷ xs) ys h =
    let s : suc e + length xs ≡ e + suc (length xs) = omega arith in
    rw (h 0 (omega arith), le-ltb v v (omega arith), ← s) (firsts_same node (suc e) v xs ys (λ i l. h (suc i) (suc-le-suc l)))

-- groups of nodes 1, 2, ..: g counts the places of the first ones, and m says which have places
module _ (node : ℕ → ℕ) (f : ℕ → List ℕ) (m : ℕ → Bool) (g : ℕ → ℕ) (own : (i : ℕ) → Each (λ p. node p ≡ i) (f i))
    (next : (i : ℕ) → g (suc i) ≡ g i + length (f (suc i))) (some : (i : ℕ) → m i ≡ ltb 0 (length (f i))) where
  firsts_groups : (n a v : ℕ) → v ≤ a → firsts node (g a) v (join (map f (run (suc a) n))) ≡ map (λ i. g (i - 1)) (keep m (run (suc a) n)) ++ (g (a + n) ∷ [])
  firsts_groups zero a v l = rw (add-zero a)
  firsts_groups (suc n) a v l = go (f (suc a)) (own (suc a)) (next a) (some (suc a)) (λ w k. firsts_groups n (suc a) w k)
    where
      rest : List ℕ
      rest = run (suc (suc a)) n

      end : suc a + n ≡ a + suc n
      end = omega arith

      go : (xs : List ℕ) → Each (λ p. node p ≡ suc a) xs → g (suc a) ≡ g a + length xs → m (suc a) ≡ ltb 0 (length xs)
          → ((w : ℕ) → w ≤ suc a → firsts node (g (suc a)) w (join (map f rest)) ≡ map (λ i. g (i - 1)) (keep m rest) ++ (g (suc a + n) ∷ []))
          → firsts node (g a) v (xs ++ join (map f rest)) ≡ map (λ i. g (i - 1)) (cons_if (m (suc a)) (suc a) (keep m rest)) ++ (g (a + suc n) ∷ [])
      go [] h e s on = let k : g a ≡ g (suc a) = omega arith in rw (s, k, ← end) (on v (omega arith))
      go (p ∷ xs) h e s on =
          let k : suc (g a) + length xs ≡ g (suc a) = omega arith in
          rw (
            s,
            lt-ltb 0 (suc (length xs)) (omega arith),
            h 0 (omega arith),
            lt-ltb v (suc a) (omega arith),
            sub-one,
            ← end,
            firsts_same node (suc (g a)) (suc a) xs (join (map f rest)) (λ i q. h (suc i) (suc-le-suc q)),
            k,
            on (suc a) (omega arith),
          )

-- a place that is kept by its key has it
each_key : (f : ℕ → ℕ) (i : ℕ) (xs : List ℕ) → Each (λ p. f p ≡ i) (keep (λ p. eqb (f p) i) xs)
each_key f i [] = λ j l. absurd (omega arith)
each_key f i (x ∷ xs) = go (eqb (f x) i) refl (each_key f i xs)
  where
    go : (b : Bool) → eqb (f x) i ≡ b → Each (λ p. f p ≡ i) (keep (λ p. eqb (f p) i) xs) → Each (λ p. f p ≡ i) (cons_if b x (keep (λ p. eqb (f p) i) xs))
    go true e h zero l = eqb-true (f x) i e
    go true e h (suc j) l = h j (omega arith)
    go false e h j l = h j l

-- those of section 5 are section 4
firsts_starts : {trits H : List ℕ} → ProperTrits trits H → starts trits H ≡ firsts (shadow_at trits H) 0 0 (grouped trits H (node_count trits))
unfolding starts marked_nodes grouped group marked
firsts_starts {trits} {H} P =
    let n : ℕ = node_count trits in
    let e : length H ≡ length (grouped trits H (0 + n)) = sym (many P) ∙ ap (λ (i : ℕ). length (grouped trits H i)) (sym (zero-add n)) in
    rw e
    (sym (firsts_groups (shadow_at trits H) (group trits H) (marked H) (λ i. length (grouped trits H i)) (λ i. each_key (shadow_at trits H) i (places 2 trits))
    (λ i. ap length (grouped_suc trits H i) ∙ length-append (grouped trits H i) (group trits H (suc i)))
    (λ i. ap (ltb 0) (sym (length_group trits H P.paired i))) n 0 0 zero-le))

-- ---- number by number

-- where a list goes on with x, x is its next element
cut : (j : ℕ) (l : List ℕ) {x : ℕ} {xs : List ℕ} → drop j l ≡ x ∷ xs → (j < length l) × (get_or l j 0 ≡ x) × (drop (j + 1) l ≡ xs)
cut j l e = (
  omega (arith, length-drop j l, ap length e),
  ap (λ (i : ℕ). get_or l i 0) (sym (add-zero j)) ∙ sym (get_or-drop j l 0 0) ∙ ap (λ (k : List ℕ). get_or k 0 0) e,
  sym (drop-drop 1 j l) ∙ ap (drop 1) e,
)

-- section 4's numbers before j are right; those from j on are the first indices of section 5's places from e on, whose node before is v
record Along (trits H numbers : List ℕ) (e v j : ℕ) : Type 0 where
  left : drop j (starts trits H) ≡ firsts (shadow_at trits H) e v (drop e (grouped trits H (node_count trits)))
  right : (i : ℕ) → i < j → read 4 (4 * i) numbers ≡ get_or (starts trits H) i 0

-- part is section 5's contents
abbrev Right5 : List ℕ → List ℕ → List ℕ → Type 0
Right5 trits H part = part ≡ bytes 4 (grouped trits H (node_count trits))

-- the places before e rise; if section 5 is right, section 4's numbers before j are
pub record Indexed (trits H numbers part : List ℕ) (e low j : ℕ) : Type 0 where
  climbed : Climbed trits H part e low
  along : Right5 trits H part → Along trits H numbers e (low / 131072) j

pub indexed_none : {trits H numbers part : List ℕ} → ProperTrits trits H → Indexed trits H numbers part 0 0 0
indexed_none P = record { climbed = climbed_none; along = λ s. record { left = firsts_starts P; right = below_none _ } }

module _ {trits H numbers part : List ℕ} {e low j : ℕ} (I : Indexed trits H numbers part e low j) (P : ProperTrits trits H) where
  abbrev G : List ℕ
  G = grouped trits H (node_count trits)

  abbrev S : List ℕ
  S = starts trits H

  -- a right section 4 has the number that it goes on with
  number_right : {x : ℕ} {xs : List ℕ} → numbers ≡ bytes 4 S → drop j S ≡ x ∷ xs → number_is numbers j x ≡ true
  number_right {x} s d =
      let c = cut j S d in
      true_both _ _ (le-leb (4 * j + 4) (length numbers) (omega (arith, c.0, ap length s, length_bytes 4 S)))
      (eq-eqb (read 4 (4 * j) numbers) x (number_in_lem 4 S s (fits4 trits H P.paired P.length_high) j c.0 ∙ c.1))

  -- so a wrong number shows
  number_wrong : {x : ℕ} {xs : List ℕ} → (Right5 trits H part → drop j S ≡ x ∷ xs) → number_is numbers j x ≡ false → false ≡ both_right trits H numbers part
  number_wrong d n = sym (refuted _ (λ b.
      let s = both_true (same numbers (bytes 4 S)) _ b in
      let t : true ≡ false = sym (number_right (same_eq numbers _ s.0) (d (same_eq part _ s.1))) ∙ n in
      let z : ◌≡◌ {A = ℕ} 0 1 = cc in omega arith))

  -- a right number, and those before it
  number_more : {x : ℕ} {xs : List ℕ} → Right5 trits H part → drop j S ≡ x ∷ xs → number_is numbers j x ≡ true
      → (i : ℕ) → i < j + 1 → read 4 (4 * i) numbers ≡ get_or S i 0
  number_more {x} s d n = below_more _ j (I.along s).right (eqb-true (read 4 (4 * j) numbers) x (both_true (leb (4 * j + 4) (length numbers)) _ n).1 ∙ sym (cut j S d).1)

  pub indexed_wrong : e < length H → (Rises trits H low (entries part e) → ⊥) → false ≡ both_right trits H numbers part
  indexed_wrong l n = sym (last_false (same numbers (bytes 4 S)) _ (sym (climbed_wrong I.climbed P l n)))

  -- an entry that is right
  module _ {k : ℕ} (l : e < length H) (r : Rises trits H low (entries part e)) (ek : k ≡ key trits H (entries part e)) where
    abbrev rest : List ℕ
    rest = firsts (shadow_at trits H) (e + 1) ((k + 1) / 131072) (drop (e + 1) G)

    goes_on : Right5 trits H part → drop j S ≡ cons_if (ltb (low / 131072) (k / 131072)) e rest
    unfolding key
    goes_on s =
        let w : shadow_at trits H (entries part e) ≡ shadow_at trits H (get_or G e 0) = ap (shadow_at trits H) (number_in_lem 4 G s (fits5 trits H P.length_high) e (omega (arith, many P))) in
        let k0 : k / 131072 ≡ shadow_at trits H (entries part e) = omega (arith, r.inside, P.length_high) in
        let k1 : (k + 1) / 131072 ≡ shadow_at trits H (entries part e) = omega (arith, r.inside, P.length_high) in
        rw (k0, k1, w, add-one e) ((I.along s).left ∙ rw (drop-cons G e 0 (omega (arith, many P))))

    -- of the node before
    pub indexed_same : k / 131072 ≤ low / 131072 → Indexed trits H numbers part (e + 1) (k + 1) j
    indexed_same h = record {
      climbed = climbed_next I.climbed r ek;
      along = λ s. record { left = rw (le-ltb (low / 131072) (k / 131072) h) at (goes_on s); right = (I.along s).right };
    }

    -- of another node, with its index
    module _ (h : low / 131072 < k / 131072) {x : ℕ} (ex : x ≡ e) where
      begins : Right5 trits H part → drop j S ≡ x ∷ rest
      begins s = rw ex (rw (lt-ltb (low / 131072) (k / 131072) h) at (goes_on s))

      pub indexed_differs : number_is numbers j x ≡ false → false ≡ both_right trits H numbers part
      indexed_differs n = number_wrong begins n

      pub indexed_next : number_is numbers j x ≡ true → Indexed trits H numbers part (e + 1) (k + 1) (j + 1)
      indexed_next n = record {
        climbed = climbed_next I.climbed r ek;
        along = λ s. record { left = (cut j S (begins s)).2; right = number_more s (begins s) n };
      }

  -- behind the last place
  pub indexed_all : e ≡ length H → Below 256 part → Below 256 numbers → Long trits H numbers part → {k : ℕ} → k ≡ e → number_is numbers j k ≡ both_right trits H numbers part
  indexed_all ee low low4 long {k} ek = go (number_is numbers j k) refl
    where
      ends : Right5 trits H part → drop j S ≡ k ∷ []
      ends s = (I.along s).left ∙ rw (drop_of_length-le G {i = e} (omega (arith, many P)), ek)

      right5 : true ≡ same part (bytes 4 G)
      right5 = climbed_all I.climbed P ee long.long5 low

      go : (t : Bool) → number_is numbers j k ≡ t → t ≡ both_right trits H numbers part
      go false n = number_wrong ends n
      go true n =
          let s = same_eq part _ (sym right5) in
          let c = cut j S (ends s) in
          let all : length S ≡ j + 1 = omega (arith, c.0, length-drop (j + 1) S, ap length c.2) in
          sym (true_both _ _ (bytes_same 4 numbers S (lit< tt) low4 (omega (arith, length_starts trits H)) (λ i l. number_more s (ends s) n i (omega arith))) (sym right5))
