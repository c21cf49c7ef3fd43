-- Section 5 by keys: places of twos whose keys rise, as many as there are twos, are the groups of nodes 1 to n. Assumes nothing.
use Prim.Native.Nat.{ℕ, zero, suc, ◌+◌, ◌*◌, ◌^◌, ◌≤◌, ◌<◌, zero-le}
use native.Mathlib.Nat.{add-zero, le_trans, le_of_suc-le-suc, not-suc-le-zero}
use native.Mathlib.Omega.{arith}
use native.Mathlib.Numerals.{add-one}
use mathlib.Core.Path.{◌≡◌, refl, sym, ap, ◌∙◌, subst}
use mathlib.Core.Bool.{Bool, true, false, ◌&&◌}
use mathlib.Core.List.Memᴰ
use mathlib.Core.List.{List, [], ◌∷◌, ◌++◌, append-nil, map, map-append, Memᴰ}
use lib.Dec.{eqb, lit<}
use lib.ListN.{length, get_or, length-map, get_or-map}
use borrow.Author.Count.{below_none, below_more}
use borrow.Author.Tests.{eqb-true, eq-eqb}
use Rattle.format.specs.Lists.{run, each, cons_if, keep, join, same, Below, RisingFrom}
use Rattle.format.specs.Trits.{rank, places}
use Rattle.format.specs.Image.{bytes, node_count, shadow_at, group, grouped, read}
use Rattle.format.specs.Proper.{ProperTrits}
use Rattle.format.proofs.Laws.{both_true, keep_keep, get_or_other, get_or_each, length_each, same_eq, rank_here, rank_count}
use Rattle.format.proofs.Select.{place_of_lem, length_places}
use Rattle.format.proofs.Sizes.{grouped_suc, length_grouped, length_bytes}
use Rattle.format.proofs.Places.{mem_run, all_run, all_mem}
use Rattle.format.proofs.Rising.{Within, rising_within}
use Rattle.format.proofs.CheckLaws.{shadow_seen, shadow_nodes, shadows_small, limits_nodes}
use Rattle.format.proofs.Steps.{bytes_same}
use Rattle.format.proofs.ImageReads.{number_at, Each, each_append, each_kept, fits5}
use Rattle.proper.specs.Known.{Known}
use Rattle.proper.specs.Places.{key, Rises}

-- ---- rising from a, and below b

abbrev Between : ℕ → ℕ → List ℕ → Type 0
Between a b [] = a ≤ b
Between a b (x ∷ xs) = (a ≤ x) × Between (suc x) b xs

between_lower : (a b c : ℕ) (xs : List ℕ) → a ≤ b → Between b c xs → Between a c xs
between_lower a b c [] h r = le_trans h r
between_lower a b c (x ∷ xs) h r = (le_trans h r.0, r.1)

between_append : (a b c : ℕ) (xs ys : List ℕ) → Between a b xs → Between b c ys → Between a c (xs ++ ys)
between_append a b c [] ys r s = between_lower a b c ys r s
between_append a b c (x ∷ xs) ys r s = (r.0, between_append (suc x) b c xs ys r.1 s)

between_rising : (a b : ℕ) (xs : List ℕ) → Between a b xs → RisingFrom a xs
between_rising a b [] r = tt
between_rising a b (x ∷ xs) r = (r.0, between_rising (suc x) b xs r.1)

-- rising, step by step
rising_next : (a : ℕ) (xs : List ℕ) → RisingFrom a xs → (i d : ℕ) → suc i < length xs → get_or xs i d < get_or xs (suc i) d
rising_next a [] r i d l = absurd (not-suc-le-zero l)
rising_next a (x ∷ []) r i d l = absurd (not-suc-le-zero (le_of_suc-le-suc l))
rising_next a (x ∷ y ∷ xs) r zero d l = r.1.0
rising_next a (x ∷ y ∷ xs) r (suc i) d l = rising_next (suc x) (y ∷ xs) r.1 i d (le_of_suc-le-suc l)

rising_run : (f : ℕ → ℕ) (n s a : ℕ) → (0 < n → a ≤ f s) → ((i : ℕ) → suc i < s + n → f i < f (suc i)) → RisingFrom a (map f (run s n))
rising_run f zero s a h k = tt
rising_run f (suc n) s a h k = (h (omega arith), rising_run f n (suc s) (suc (f s)) (λ p. k s (omega arith)) (λ i l. k i (omega arith)))

-- ---- members

mem_keep : (t : ℕ → Bool) {x : ℕ} (xs : List ℕ) → t x ≡ true → Memᴰ x xs → Memᴰ x (keep t xs)
mem_keep t {x} [] e m = elim m [ ]
mem_keep t {x} (y ∷ xs) e (Memᴰ.head q) = subst (λ (b : Bool). Memᴰ x (cons_if b y (keep t xs))) (sym e ∙ ap t q) (Memᴰ.head q)
mem_keep t {x} (y ∷ xs) e (Memᴰ.tail m) = go (t y) (mem_keep t xs e m)
  where
    go : (b : Bool) → Memᴰ x (keep t xs) → Memᴰ x (cons_if b y (keep t xs))
    go true k = Memᴰ.tail k
    go false k = k

mem_join : {x : ℕ} {xs : List ℕ} (xss : List (List ℕ)) → Memᴰ x xs → Memᴰ xs xss → Memᴰ x (join xss)
mem_join {x} {xs} [] m k = elim k [ ]
mem_join {x} (ys ∷ xss) m (Memᴰ.head e) = Memᴰ.append_left (join xss) (subst (λ (l : List ℕ). Memᴰ x l) e m)
mem_join (ys ∷ xss) m (Memᴰ.tail k) = Memᴰ.append_right ys (mem_join xss m k)

-- ---- the groups, by keys

-- a 2 stands at place p
abbrev Two : List ℕ → ℕ → Type 0
Two trits p = (p < length trits) × (get_or trits p 0 ≡ 2)

module _ (trits H : List ℕ) where
  -- the keys of one node's places lie above those of the nodes before it
  keys_run : (i : ℕ) (t : ℕ → Bool) → ((p : ℕ) → t p ≡ true → shadow_at trits H p ≡ i) → (n a : ℕ) → a + n ≤ 131072
      → Between (131072 * i + a) (131072 * suc i) (map (key trits H) (keep t (run a n)))
  unfolding key
  keys_run i t h zero a l = omega arith
  keys_run i t h (suc n) a l = go (t a) refl (keys_run i t h n (suc a) (omega arith))
    where
      go : (b : Bool) → t a ≡ b → Between (131072 * i + suc a) (131072 * suc i) (map (key trits H) (keep t (run (suc a) n)))
          → Between (131072 * i + a) (131072 * suc i) (map (key trits H) (cons_if b a (keep t (run (suc a) n))))
      go true e m =
          let k : 131072 * i + suc a ≡ suc (131072 * shadow_at trits H a + a) = omega (arith, h a e) in
          (omega (arith, h a e), subst (λ (b : ℕ). Between b (131072 * suc i) (map (key trits H) (keep t (run (suc a) n)))) k m)
      go false e m = between_lower _ _ _ (map (key trits H) (keep t (run (suc a) n))) (omega arith) m

  module _ (few : length trits ≤ 125536) where
    keys_group : (i : ℕ) → Between (131072 * i) (131072 * suc i) (map (key trits H) (group trits H i))
    unfolding group places
    keys_group i =
        rw (keep_keep (λ p. eqb (shadow_at trits H p) i) (λ p. eqb (get_or trits p 3) 2) (run 0 (length trits)), ← add-zero (131072 * i))
        (keys_run i (λ p. eqb (get_or trits p 3) 2 && eqb (shadow_at trits H p) i) (λ p e. eqb-true _ i (both_true (eqb (get_or trits p 3) 2) _ e).1) (length trits) 0 (omega arith))

    keys_grouped : (n : ℕ) → Between 131072 (131072 * suc n) (map (key trits H) (grouped trits H n))
    unfolding grouped
    keys_grouped zero = omega arith
    keys_grouped (suc n) = rw (grouped_suc, map-append) (between_append _ _ _ (map (key trits H) (grouped trits H n)) _ (keys_grouped n) (keys_group (suc n)))

  -- they hold twos, and every 2
  grouped_twos : (n : ℕ) → Each (Two trits) (grouped trits H n)
  unfolding grouped group places
  grouped_twos zero = λ i l. absurd (not-suc-le-zero l)
  grouped_twos (suc n) =
      rw grouped_suc
      (each_append (Two trits) (grouped trits H n) (group trits H (suc n)) (grouped_twos n)
      (each_kept (Two trits) (λ p. eqb (shadow_at trits H p) (suc n)) (places 2 trits)
      (λ i l. let s = place_of_lem 2 trits i (omega (arith, length_places 2 trits)) in (s.inside, s.holds))))

  two_grouped : (n p : ℕ) → Two trits p → 1 ≤ shadow_at trits H p → shadow_at trits H p ≤ n → Memᴰ p (grouped trits H n)
  unfolding grouped group places
  two_grouped n p t a b =
      mem_join (map (group trits H) (run 1 n))
      (mem_keep (λ q. eqb (shadow_at trits H q) (shadow_at trits H p)) (places 2 trits) (eq-eqb (shadow_at trits H p) (shadow_at trits H p) refl)
      (mem_keep (λ q. eqb (get_or trits q 3) 2) (run 0 (length trits)) (eq-eqb (get_or trits p 3) 2 (get_or_other trits p 3 0 t.0 ∙ t.1)) (mem_run 0 (length trits) p zero-le (omega arith))))
      (Memᴰ.map (group trits H) (mem_run 1 n (shadow_at trits H p) a (omega arith)))

  key_place : (p q : ℕ) → p < 131072 → q < 131072 → key trits H p ≡ key trits H q → p ≡ q
  unfolding key
  key_place p q lp lq e = omega arith

-- ---- entries x 0, x 1, .. that rise

-- what the key of entry e has to reach: one more than the key before
pub low_at : List ℕ → List ℕ → (ℕ → ℕ) → ℕ → ℕ
low_at trits H x zero = 0
low_at trits H x (suc e) = suc (key trits H (x e))

module _ {trits H : List ℕ} (P : ProperTrits trits H) where
  abbrev G : List ℕ
  G = grouped trits H (node_count trits)

  abbrev f : ℕ → ℕ
  f = key trits H

  pub many : length G ≡ length H
  many = length_grouped trits H P.paired (shadow_nodes trits H P.paired P.seen)

  keys_rise : RisingFrom 131072 (map f G)
  keys_rise = between_rising 131072 _ (map f G) (keys_grouped trits H P.length_high (node_count trits))

  inside : (p : ℕ) → Two trits p → Memᴰ p G
  unfolding node_count
  inside p t = let n = shadow_seen trits H P.seen p t.0 t.1 in two_grouped trits H (node_count trits) p t n.0 (le_trans n.1 (rank_count 1 trits p))

  module _ (x : ℕ → ℕ) where
    -- as many as there are twos are the groups
    risen : ((e : ℕ) → e < length H → Rises trits H (low_at trits H x e) (x e)) → (e : ℕ) → e < length H → x e ≡ get_or G e 0
    unfolding low_at
    risen h e l =
        let k : ℕ = length H in
        let up : RisingFrom 0 (each k (λ i. f (x i))) = rising_run (λ i. f (x i)) k 0 0 (λ p. zero-le) (λ i l. (h (suc i) (omega arith)).above) in
        let all : each k (λ i. f (x i)) ≡ map f G =
        (rising_within 0 131072 (each k (λ i. f (x i))) (map f G) up keys_rise within).1 (omega (arith, length_each k (λ i. f (x i)), length-map G f, many)) in
        key_place trits H (x e) (get_or G e 0) (omega (arith, (h e l).inside, P.length_high)) (omega (arith, (grouped_twos trits H (node_count trits) e (omega (arith, many))).0, P.length_high))
        (sym (get_or_each k (λ i. f (x i)) e (f 0) l) ∙ ap (λ (ks : List ℕ). get_or ks e (f 0)) all ∙ get_or-map f G e 0)
      where
        within : Within (each (length H) (λ i. f (x i))) (map f G)
        within y m =
            let w = Memᴰ.of_map (λ i. f (x i)) (run 0 (length H)) m in
            let l = all_mem (λ i. (0 ≤ i) × (i < 0 + length H)) (run 0 (length H)) (all_run 0 (length H)) w.1 in
            let r = h w.0 (omega (arith, l)) in
            subst (λ (z : ℕ). Memᴰ z (map f G)) w.2 (Memᴰ.map f (inside (x w.0) (r.inside, r.two)))

    -- and the groups rise
    rise : ((e : ℕ) → e < length H → x e ≡ get_or G e 0) → (e : ℕ) → e < length H → Rises trits H (low_at trits H x e) (x e)
    unfolding low_at
    rise h e l =
        let t = grouped_twos trits H (node_count trits) e (omega (arith, many)) in
        record { inside = rw (h e l) t.0; two = rw (h e l) t.1; above = above e l }
      where
        above : (e : ℕ) → e < length H → low_at trits H x e ≤ key trits H (x e)
        above zero l = zero-le
        above (suc e) l =
            rw (h e (omega arith), h (suc e) l, ← get_or-map f G e 0, ← get_or-map f G (suc e) 0)
            (rising_next 131072 (map f G) keys_rise e (f 0) (omega (arith, length-map G f, many)))

-- ---- entry by entry

-- a part's entries
abbrev pub entries : List ℕ → ℕ → ℕ
entries part e = read 4 (4 * e) part

-- the entries before e rise, and low is one more than the last key
pub record Climbed (trits H part : List ℕ) (e low : ℕ) : Type 0 where
  pub next : low ≡ low_at trits H (entries part) e
  pub right : (i : ℕ) → i < e → Rises trits H (low_at trits H (entries part) i) (entries part i)

pub climbed_none : {trits H part : List ℕ} → Climbed trits H part 0 0
unfolding low_at
climbed_none = record { next = refl; right = below_none _ }

-- numbers come back from bytes that are theirs
pub number_in_lem : (w : ℕ) {bs : List ℕ} (xs : List ℕ) → bs ≡ bytes w xs → Below (256 ^ w) xs → (i : ℕ) → i < length xs → read w (w * i) bs ≡ get_or xs i 0
number_in_lem w xs e fits i l = ap (λ (b : List ℕ). read w (w * i) b) (e ∙ sym (append-nil (bytes w xs))) ∙ number_at w xs [] i l (fits i l)

pub refuted : (b : Bool) → (b ≡ true → ⊥) → b ≡ false
refuted true h = absurd (h refl)
refuted false h = refl

module _ {trits H part : List ℕ} {e low : ℕ} (C : Climbed trits H part e low) where
  pub climbed_next : {k : ℕ} → Rises trits H low (entries part e) → k ≡ key trits H (entries part e) → Climbed trits H part (e + 1) (k + 1)
  unfolding low_at
  climbed_next r k = record {
    next = rw (k, add-one (key trits H (entries part e)), add-one e);
    right = below_more (λ i. Rises trits H (low_at trits H (entries part) i) (entries part i)) e C.right (rw C.next at r);
  }

  module _ (P : ProperTrits trits H) where
    pub climbed_wrong : e < length H → (Rises trits H low (entries part e) → ⊥) → false ≡ same part (bytes 4 (grouped trits H (node_count trits)))
    climbed_wrong l n =
        let xs : List ℕ = grouped trits H (node_count trits) in
        sym (refuted _ (λ s. n (rw C.next (rise P (entries part) (λ i m. number_in_lem 4 xs (same_eq part (bytes 4 xs) s) (fits5 trits H P.length_high) i (omega (arith, many P))) e l))))

    pub climbed_all : e ≡ length H → length part ≡ 4 * length H → Below 256 part → true ≡ same part (bytes 4 (grouped trits H (node_count trits)))
    climbed_all ee len low =
        sym (bytes_same 4 part (grouped trits H (node_count trits)) (lit< tt) low (omega (arith, many P))
        (λ i l. risen P (entries part) (rw ee at C.right) i (omega (arith, many P))))

-- ---- the key of an entry, as code has it

module _ {trits H bs hs : List ℕ} (K : Known trits H bs hs) where
  pub many_are : length hs ≡ 2 * length H
  many_are = ap length K.shadowed.shadows_are ∙ length_bytes 2 H

  module _ {p : ℕ} (l : p < length trits) (two : get_or trits p 0 ≡ 2) where
    pub shadow_room : rank 2 trits p < length H
    shadow_room = omega (arith, K.shadowed.proper.paired, rank_here 2 trits p l two, rank_count 2 trits (suc p))

    pub key_is : {j v : ℕ} → j ≡ rank 2 trits p → v ≡ read 2 (2 * j) hs → 131072 * v + p ≡ key trits H p
    unfolding key shadow_at
    key_is {j} ej ev =
        let h : j < length H = omega (arith, shadow_room) in
        rw (← ej) (omega (arith, number_in_lem 2 H K.shadowed.shadows_are (shadows_small trits H K.shadowed.proper) j h))

    pub key_small : key trits H p ≤ 131072 * 30000 + 125536
    unfolding key shadow_at node_count
    key_small = let q = K.shadowed.proper in omega (arith, shadow_nodes trits H q.paired q.seen (rank 2 trits p) shadow_room, limits_nodes trits q.in_limits, q.length_high)
