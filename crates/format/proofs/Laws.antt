-- Laws of the tools on lists, of rank and of select: what code proofs cite. Assumes nothing.
use Prim.Native.Nat.{ℕ, zero, suc, ◌+◌, ◌-◌, ◌≤◌, ◌<◌, zero-le, suc-le-suc}
use native.Mathlib.Nat.{zero-add, suc-add, add-suc, add-zero, add_assoc, le_of_suc-le-suc, not-suc-le-zero, le_refl}
use native.Mathlib.Omega.{arith}
use native.Mathlib.Numerals.{add-one, one-add}
use mathlib.Core.Path.{◌≡◌, refl, sym, ap, ◌∙◌, subst}
use mathlib.Core.Bool.{Bool, true, false, ◌&&◌}
use mathlib.Core.List.{List, [], ◌∷◌, ◌++◌, map, append_assoc}
use lib.Dec.{T, eqb, leb}
use lib.ListN.{length, get_or, take, drop, length-map, length-take, take-append-drop}
use lib.Seq.{take-add, take-suc, take_all}
use borrow.Author.Tests.{eqb-true, eq-eqb, ne_eqb, leb-true, le-leb}
use Rattle.format.specs.Lists.{bit, run, each, every, cons_if, keep, join, same, count_in, Below}
use Rattle.format.specs.Trits.{rank}
use Rattle.format.specs.Table.{is_node, Node}

-- ---- run and each

pub length_run : (a n : ℕ) → length (run a n) ≡ n
length_run a zero = refl
length_run a (suc n) = ap suc (length_run (suc a) n)

pub get_or_run : (a n i d : ℕ) → i < n → get_or (run a n) i d ≡ a + i
get_or_run a zero i d h = absurd (not-suc-le-zero h)
get_or_run a (suc n) zero d h = sym (add-zero a)
get_or_run a (suc n) (suc i) d h = get_or_run (suc a) n i d (le_of_suc-le-suc h) ∙ suc-add a i ∙ sym (add-suc a i)

pub run_snoc : (a n : ℕ) → run a (suc n) ≡ run a n ++ ((a + n) ∷ [])
run_snoc a zero = ap (λ (x : ℕ). x ∷ []) (sym (add-zero a))
run_snoc a (suc n) = ap {B = List ℕ} (λ r. a ∷ r) (run_snoc (suc a) n ∙ ap {B = List ℕ} (λ x. run (suc a) n ++ (x ∷ [])) (suc-add a n ∙ sym (add-suc a n)))

pub run_add : (a n m : ℕ) → run a (n + m) ≡ run a n ++ run (a + n) m
run_add a zero m = ap (run a) (zero-add m) ∙ ap (λ (x : ℕ). run x m) (sym (add-zero a))
run_add a (suc n) m = ap (run a) (suc-add n m) ∙ ap {B = List ℕ} (λ r. a ∷ r) (run_add (suc a) n m ∙ ap {B = List ℕ} (λ x. run (suc a) n ++ run x m) (suc-add a n ∙ sym (add-suc a n)))

module _ {ℓ} {A : Type ℓ} where
  pub length_each : (n : ℕ) (f : ℕ → A) → length (each n f) ≡ n
  length_each n f = length-map (run 0 n) f ∙ length_run 0 n

  pub get_or_map_run : (f : ℕ → A) (a n i : ℕ) (d : A) → i < n → get_or (map f (run a n)) i d ≡ f (a + i)
  get_or_map_run f a zero i d h = absurd (not-suc-le-zero h)
  get_or_map_run f a (suc n) zero d h = ap f (sym (add-zero a))
  get_or_map_run f a (suc n) (suc i) d h = get_or_map_run f (suc a) n i d (le_of_suc-le-suc h) ∙ ap f (suc-add a i ∙ sym (add-suc a i))

  pub get_or_each : (n : ℕ) (f : ℕ → A) (i : ℕ) (d : A) → i < n → get_or (each n f) i d ≡ f i
  get_or_each n f i d h = get_or_map_run f 0 n i d h ∙ ap f (zero-add i)

  pub length_cons_if : (b : Bool) (x : A) → length (cons_if b x []) ≡ bit b
  length_cons_if true x = refl
  length_cons_if false x = refl

  pub keep_append : (f : A → Bool) (xs ys : List A) → keep f (xs ++ ys) ≡ keep f xs ++ keep f ys
  keep_append f [] ys = refl
  keep_append f (x ∷ xs) ys = go (f x) (keep_append f xs ys)
    where
      go : (b : Bool) → keep f (xs ++ ys) ≡ keep f xs ++ keep f ys → cons_if b x (keep f (xs ++ ys)) ≡ cons_if b x (keep f xs) ++ keep f ys
      go true e = ap {B = List A} (λ r. x ∷ r) e
      go false e = e

  -- a test after a test
  pub keep_keep : (f g : A → Bool) (xs : List A) → keep f (keep g xs) ≡ keep (λ x. g x && f x) xs
  keep_keep f g [] = refl
  keep_keep f g (x ∷ xs) = go (g x) (keep_keep f g xs)
    where
      go : (b : Bool) → keep f (keep g xs) ≡ keep (λ x. g x && f x) xs → keep f (cons_if b x (keep g xs)) ≡ cons_if (b && f x) x (keep (λ x. g x && f x) xs)
      go true e = ap (cons_if (f x) x) e
      go false e = e

  pub length_keep : (f : A → Bool) (xs : List A) → length (keep f xs) ≤ length xs
  length_keep f [] = zero-le
  length_keep f (x ∷ xs) = go (f x) (length_keep f xs)
    where
      go : (b : Bool) → length (keep f xs) ≤ length xs → length (cons_if b x (keep f xs)) ≤ suc (length xs)
      go true h = suc-le-suc h
      go false h = omega arith

  -- as many as the key is i
  pub length_keep_key : (key : A → ℕ) (i : ℕ) (xs : List A) → length (keep (λ x. eqb (key x) i) xs) ≡ count_in i (map key xs)
  length_keep_key key i [] = refl
  length_keep_key key i (x ∷ xs) = go (eqb (key x) i) (length_keep_key key i xs)
    where
      go : (b : Bool) → length (keep (λ x. eqb (key x) i) xs) ≡ count_in i (map key xs) → length (cons_if b x (keep (λ x. eqb (key x) i) xs)) ≡ bit b + count_in i (map key xs)
      go true e = ap suc e ∙ sym (one-add (count_in i (map key xs)))
      go false e = e ∙ sym (zero-add (count_in i (map key xs)))

  pub join_append : (xs ys : List (List A)) → join (xs ++ ys) ≡ join xs ++ join ys
  join_append [] ys = refl
  join_append (x ∷ xs) ys = ap (λ (r : List A). x ++ r) (join_append xs ys) ∙ sym (append_assoc x (join xs) (join ys))

-- inside a list the value past its end does not matter
pub get_or_other : (xs : List ℕ) (i d e : ℕ) → i < length xs → get_or xs i d ≡ get_or xs i e
get_or_other [] i d e h = absurd (not-suc-le-zero h)
get_or_other (x ∷ xs) zero d e h = refl
get_or_other (x ∷ xs) (suc i) d e h = get_or_other xs i d e (le_of_suc-le-suc h)

-- a pair, for long rows of facts
infixr 5 ◌and◌
pub ◌and◌ : {A B : Type 0} → A → B → A × B
a and b = (a, b)

-- ---- every

both_left : (a b : Bool) → (a && b) ≡ true → a ≡ true
both_left true b e = refl
both_left false b e = e

both_right_lem : (a b : Bool) → (a && b) ≡ true → b ≡ true
both_right_lem true b e = e
both_right_lem false b e = absurd (subst T (sym e) tt)

pub both_true : (a b : Bool) → (a && b) ≡ true → (a ≡ true) × (b ≡ true)
both_true a b e = (both_left a b e, both_right_lem a b e)

pub true_both : (a b : Bool) → a ≡ true → b ≡ true → (a && b) ≡ true
true_both true b p q = q
true_both false b p q = p

pub last_false : (a b : Bool) → b ≡ false → (a && b) ≡ false
last_false true b e = e
last_false false b e = refl

module _ {ℓ} {A : Type ℓ} (f : A → Bool) where
  pub every_at : (xs : List A) → every f xs ≡ true → (i : ℕ) (d : A) → i < length xs → f (get_or xs i d) ≡ true
  every_at [] e i d h = absurd (not-suc-le-zero h)
  every_at (x ∷ xs) e zero d h = both_left (f x) (every f xs) e
  every_at (x ∷ xs) e (suc i) d h = every_at xs (both_right_lem (f x) (every f xs) e) i d (le_of_suc-le-suc h)

  pub at_every : (d : A) (xs : List A) → ((i : ℕ) → i < length xs → f (get_or xs i d) ≡ true) → every f xs ≡ true
  at_every d [] h = refl
  at_every d (x ∷ xs) h = true_both (f x) (every f xs) (h zero (suc-le-suc zero-le)) (at_every d xs (λ i l. h (suc i) (suc-le-suc l)))

pub every_run : (f : ℕ → Bool) (a n : ℕ) → every f (run a n) ≡ true → (i : ℕ) → i < n → f (a + i) ≡ true
every_run f a n e i h =
    subst (λ (x : ℕ). f x ≡ true) (get_or_run a n i 0 h) (every_at f (run a n) e i 0 (subst (λ (k : ℕ). i < k) (sym (length_run a n)) h))

pub run_every : (f : ℕ → Bool) (a n : ℕ) → ((i : ℕ) → i < n → f (a + i) ≡ true) → every f (run a n) ≡ true
run_every f a n h =
    at_every f 0 (run a n) (λ i l.
    let l' : i < n = subst (λ (k : ℕ). i < k) (length_run a n) l in
    subst (λ (x : ℕ). f x ≡ true) (sym (get_or_run a n i 0 l')) (h i l'))

-- ---- same

pub same_eq : (xs ys : List ℕ) → same xs ys ≡ true → xs ≡ ys
same_eq [] [] e = refl
same_eq [] (y ∷ ys) e = absurd (subst T (sym e) tt)
same_eq (x ∷ xs) [] e = absurd (subst T (sym e) tt)
same_eq (x ∷ xs) (y ∷ ys) e =
    let e1 : x ≡ y = eqb-true x y (both_left (eqb x y) (same xs ys) e) in
    let e2 : xs ≡ ys = same_eq xs ys (both_right_lem (eqb x y) (same xs ys) e) in
    cc

pub same_refl : (xs : List ℕ) → same xs xs ≡ true
same_refl [] = refl
same_refl (x ∷ xs) = true_both (eqb x x) (same xs xs) (eq-eqb x x refl) (same_refl xs)

-- ---- count

pub count_append : (t : ℕ) (xs ys : List ℕ) → count_in t (xs ++ ys) ≡ count_in t xs + count_in t ys
count_append t [] ys = sym (zero-add (count_in t ys))
count_append t (x ∷ xs) ys = ap (λ (n : ℕ). bit (eqb x t) + n) (count_append t xs ys) ∙ sym (add_assoc (bit (eqb x t)) (count_in t xs) (count_in t ys))

pub bit_le : (b : Bool) → bit b ≤ 1
bit_le true = le_refl 1
bit_le false = zero-le

pub count_le : (t : ℕ) (xs : List ℕ) → count_in t xs ≤ length xs
count_le t [] = zero-le
count_le t (x ∷ xs) = omega (arith, bit_le (eqb x t), count_le t xs)

one_of_three : (x : ℕ) → x < 3 → bit (eqb x 0) + bit (eqb x 1) + bit (eqb x 2) ≡ 1
one_of_three zero h = refl
one_of_three (suc zero) h = refl
one_of_three (suc (suc zero)) h = refl
one_of_three (suc (suc (suc x))) h = absurd (not-suc-le-zero (le_of_suc-le-suc (le_of_suc-le-suc (le_of_suc-le-suc h))))

pub count_three : (xs : List ℕ) → Below 3 xs → count_in 0 xs + count_in 1 xs + count_in 2 xs ≡ length xs
count_three [] h = refl
count_three (x ∷ xs) h =
    omega (arith, count_three xs (λ i l. h (suc i) (suc-le-suc l)), one_of_three x (h zero (suc-le-suc zero-le)))

-- ---- rank

pub rank_add : (t : ℕ) (xs : List ℕ) (a b : ℕ) → rank t xs (a + b) ≡ rank t xs a + rank t (drop a xs) b
unfolding rank
rank_add t xs a b = ap (count_in t) (take-add a b xs) ∙ count_append t (take a xs) (take b (drop a xs))

pub rank_zero : (t : ℕ) (xs : List ℕ) → rank t xs 0 ≡ 0
unfolding rank
rank_zero t xs = refl

-- before the end and past it rank is the whole count
pub rank_past : (t : ℕ) (xs : List ℕ) (p : ℕ) → length xs ≤ p → rank t xs p ≡ count_in t xs
unfolding rank
rank_past t xs p h = ap (count_in t) (take_all p xs h)

-- one more trit
pub rank_suc : (t : ℕ) (xs : List ℕ) (p : ℕ) → p < length xs → rank t xs (suc p) ≡ rank t xs p + bit (eqb (get_or xs p 0) t)
unfolding rank
rank_suc t xs p h =
    ap (count_in t) (take-suc xs p 0 h) ∙ count_append t (take p xs) (get_or xs p 0 ∷ []) ∙ ap (λ (n : ℕ). rank t xs p + n) (add-zero (bit (eqb (get_or xs p 0) t)))

pub rank_mono : (t : ℕ) (xs : List ℕ) (p q : ℕ) → p ≤ q → rank t xs p ≤ rank t xs q
rank_mono t xs p q h =
    let e : p + (q - p) ≡ q = omega arith in
    subst (λ (k : ℕ). rank t xs p ≤ rank t xs k) e (omega (arith, rank_add t xs p (q - p)))

pub rank_le : (t : ℕ) (xs : List ℕ) (p : ℕ) → rank t xs p ≤ p
unfolding rank
rank_le t xs p = omega (arith, count_le t (take p xs), length-take p xs)

-- rank 0 + rank 1 + rank 2 = p
pub rank_three : (xs : List ℕ) → Below 3 xs → (p : ℕ) → p ≤ length xs → rank 0 xs p + rank 1 xs p + rank 2 xs p ≡ p
unfolding rank
rank_three [] h zero l = refl
rank_three [] h (suc p) l = absurd (not-suc-le-zero l)
rank_three (x ∷ xs) h zero l = refl
rank_three (x ∷ xs) h (suc p) l =
    omega (arith, rank_three xs (λ i q. h (suc i) (suc-le-suc q)) p (le_of_suc-le-suc l), one_of_three x (h zero (suc-le-suc zero-le)))

-- one more place, in the code's words: a hit and a miss
pub rank_hit : (t : ℕ) (xs : List ℕ) (p : ℕ) → p < length xs → get_or xs p 0 ≡ t → rank t xs (p + 1) ≡ rank t xs p + 1
rank_hit t xs p h e =
    ap (rank t xs) (add-one p) ∙ rank_suc t xs p h ∙ ap (λ (b : Bool). rank t xs p + bit b) (eq-eqb (get_or xs p 0) t e)

pub rank_miss : (t : ℕ) (xs : List ℕ) (p : ℕ) → p < length xs → (get_or xs p 0 ≡ t → ⊥) → rank t xs (p + 1) ≡ rank t xs p
rank_miss t xs p h e =
    ap (rank t xs) (add-one p) ∙ rank_suc t xs p h ∙ ap (λ (b : Bool). rank t xs p + bit b) (ne_eqb (get_or xs p 0) t e) ∙ add-zero (rank t xs p)

pub rank_here : (t : ℕ) (xs : List ℕ) (p : ℕ) → p < length xs → get_or xs p 0 ≡ t → rank t xs (suc p) ≡ suc (rank t xs p)
rank_here t xs p h e = rank_suc t xs p h ∙ ap (λ (b : Bool). rank t xs p + bit b) (eq-eqb (get_or xs p 0) t e) ∙ add-one (rank t xs p)

pub rank_count : (t : ℕ) (xs : List ℕ) (p : ℕ) → rank t xs p ≤ count_in t xs
unfolding rank
rank_count t xs p =
    let e : count_in t (take p xs ++ drop p xs) ≡ count_in t xs = ap (count_in t) (take-append-drop p xs) in
    omega (arith, count_append t (take p xs) (drop p xs))

-- an element that a key keeps stands behind those of the same key before it
pub keep_at : (key : ℕ → ℕ) (v : ℕ) (xs : List ℕ) (c : ℕ) → c < length xs → key (get_or xs c 0) ≡ v → get_or (keep (λ x. eqb (key x) v) xs) (rank v (map key xs) c) 0 ≡ get_or xs c 0
unfolding rank
keep_at key v [] c h e = absurd (not-suc-le-zero h)
keep_at key v (x ∷ xs) zero h e = rw (eq-eqb (key x) v e)
keep_at key v (x ∷ xs) (suc c) h e = skip (eqb (key x) v) (keep (λ x. eqb (key x) v) xs) (rank v (map key xs) c) ∙ keep_at key v xs c (le_of_suc-le-suc h) e
  where
    skip : (b : Bool) (ys : List ℕ) (r : ℕ) → get_or (cons_if b x ys) (bit b + r) 0 ≡ get_or ys r 0
    skip true ys r = ap (λ (k : ℕ). get_or (x ∷ ys) k 0) (one-add r)
    skip false ys r = ap (λ (k : ℕ). get_or ys k 0) (zero-add r)

-- ---- a node, by its test

pub is_node_node : (n v : ℕ) → is_node n v ≡ true → Node n v
is_node_node n v e = let b = both_true (leb 1 v) (leb v n) e in (leb-true 1 v b.0, leb-true v n b.1)

pub node_is_node : (n v : ℕ) → Node n v → is_node n v ≡ true
node_is_node n v h = true_both (leb 1 v) (leb v n) (le-leb 1 v h.0) (le-leb v n h.1)
