-- Laws of `place`, lists with no number twice, and permutations: what the proofs about the walk use. Nothing here knows of graphs. Assumes nothing.
use mathlib.Core.Path.{◌≡◌, refl, sym, ap, ◌∙◌, subst}
use mathlib.Core.Logic.{◌≢◌, ◌⊎◌, inl, inr}
use Prim.Native.Nat.{ℕ, zero, suc, ◌+◌, ◌≤◌, ◌<◌}
use native.Mathlib.Nat.{zero-add, suc-add, add-zero, suc_inj, suc-ne-zero, le_of_suc-le-suc, not-suc-le-zero, add_left_comm}
use native.Mathlib.Decide.{ℕ_discrete}
use native.Mathlib.Omega.{arith}
use mathlib.Core.Bool.{Bool, true, false, not, cond}
use mathlib.Core.List.Memᴰ
use mathlib.Core.List.Permᴰ
use mathlib.Core.List.{List, [], ◌∷◌, ◌++◌, map, Memᴰ, Permᴰ, cons≢nil, nil≢cons, head-eq_of_cons-eq}
use lib.ListN.{length, get_or, take, drop}
use lib.Dec.{T, eqb, eqb→eq, eqb_refl, not_T}
use native.Mathlib.Numerals.{one-add}
use Rattle.format.specs.Lists.{All, run, one_to, sum_of, onward, number_in, node_at, Nodup}
use Rattle.format.proofs.Laws.{length_run, get_or_run}

-- ---- each element

module _ {A : Type 0} (P : A → Type 0) where
  pub all_append : (xs ys : List A) → All P xs → All P ys → All P (xs ++ ys)
  all_append [] ys a b = b
  all_append (x ∷ xs) ys a b = (a.0, all_append xs ys a.1 b)

  pub all_get_or : (xs : List A) (i : ℕ) (d : A) → All P xs → P d → P (get_or xs i d)
  all_get_or [] i d a b = b
  all_get_or (x ∷ xs) zero d a b = a.0
  all_get_or (x ∷ xs) (suc i) d a b = all_get_or xs i d a.1 b

  pub all_at : (xs : List A) (i : ℕ) (d : A) → All P xs → i < length xs → P (get_or xs i d)
  all_at [] i d a h = absurd (not-suc-le-zero h)
  all_at (x ∷ xs) zero d a h = a.0
  all_at (x ∷ xs) (suc i) d a h = all_at xs i d a.1 (le_of_suc-le-suc h)

  pub all_drop : (i : ℕ) (xs : List A) → All P xs → All P (drop i xs)
  all_drop zero xs a = a
  all_drop (suc i) [] a = a
  all_drop (suc i) (x ∷ xs) a = all_drop i xs a.1

  pub all_imp : (Q : A → Type 0) (xs : List A) → ((x : A) → P x → Q x) → All P xs → All Q xs
  all_imp Q [] f a = tt
  all_imp Q (x ∷ xs) f a = (f x a.0, all_imp Q xs f a.1)

  pub all_mem : {x : A} (xs : List A) → All P xs → Memᴰ x xs → P x
  all_mem [] a m = elim m [ ]
  all_mem (y ∷ xs) a (Memᴰ.head e) = rw e a.0
  all_mem (y ∷ xs) a (Memᴰ.tail m) = all_mem xs a.1 m

pub all_map : {A B : Type 0} (P : B → Type 0) (f : A → B) (xs : List A) → All (λ x. P (f x)) xs → All P (map f xs)
all_map P f [] a = tt
all_map P f (x ∷ xs) a = (a.0, all_map P f xs a.1)

pub map_same : {A B : Type 0} (f g : A → B) (xs : List A) → All (λ x. f x ≡ g x) xs → map f xs ≡ map g xs
map_same f g [] a = refl
map_same f g (x ∷ xs) a = λ i. a.0 i ∷ map_same f g xs a.1 i

pub map_id : {A : Type 0} (f : A → A) (xs : List A) → All (λ x. f x ≡ x) xs → map f xs ≡ xs
map_id f [] a = refl
map_id f (x ∷ xs) a = λ i. a.0 i ∷ map_id f xs a.1 i

-- ---- the place of a number

cond_yes : {X : Type 0} (b : Bool) (x y : X) → T b → cond b x y ≡ x
cond_yes true x y t = refl
cond_yes false x y t = absurd t

cond_no : {X : Type 0} (b : Bool) (x y : X) → T (not b) → cond b x y ≡ y
cond_no true x y t = absurd t
cond_no false x y t = refl

number_here : (v x : ℕ) (q : List ℕ) → v ≡ x → number_in v (x ∷ q) ≡ 1
unfolding number_in
number_here v x q e = cond_yes (eqb v x) 1 (onward (number_in v q)) (rw e (eqb_refl x))

pub number_there : (v x : ℕ) (q : List ℕ) → v ≢ x → number_in v (x ∷ q) ≡ onward (number_in v q)
unfolding number_in
number_there v x q h = cond_no (eqb v x) 1 (onward (number_in v q)) (not_T (eqb v x) (λ t. h (eqb→eq v x t)))

onward_zero : (p : ℕ) → onward p ≡ 0 → p ≡ 0
onward_zero zero e = refl
onward_zero (suc p) e = absurd (suc-ne-zero (suc p) e)

onward_one : (p : ℕ) → onward p ≢ 1
onward_one zero e = absurd (suc-ne-zero 0 (sym e))
onward_one (suc p) e = absurd (suc-ne-zero p (suc_inj e))

onward_suc : (p k : ℕ) → onward p ≡ suc (suc k) → p ≡ suc k
onward_suc zero k e = absurd (suc-ne-zero (suc k) (sym e))
onward_suc (suc p) k e = suc_inj e

-- a number that does not stand in x ∷ q
number_zero : (v x : ℕ) (q : List ℕ) → number_in v (x ∷ q) ≡ 0 → (v ≢ x) × (number_in v q ≡ 0)
number_zero v x q e = elim (ℕ_discrete v x) [ yes h ↦ absurd (suc-ne-zero 0 (sym (number_here v x q h) ∙ e)) | no h ↦ (h, onward_zero (number_in v q) (sym (number_there v x q h) ∙ e)) ]

-- the place in q ++ r, from the places in q and in r
abbrev pub number_after : ℕ → ℕ → ℕ → ℕ
number_after (suc k) l j = suc k
number_after zero l zero = zero
number_after zero l (suc j) = suc (l + j)

after_nil : (j : ℕ) → j ≡ number_after 0 0 j
after_nil zero = refl
after_nil (suc j) = ap suc (sym (zero-add j))

after_cons : (p l j : ℕ) → onward (number_after p l j) ≡ number_after (onward p) (suc l) j
after_cons (suc p) l j = refl
after_cons zero l zero = refl
after_cons zero l (suc j) = ap suc (sym (suc-add l j))

number_append : (v : ℕ) (q r : List ℕ) → number_in v (q ++ r) ≡ number_after (number_in v q) (length q) (number_in v r)
unfolding number_in
number_append v [] r = after_nil (number_in v r)
number_append v (x ∷ q) r = elim (ℕ_discrete v x) [
  | yes h ↦ number_here v x (q ++ r) h ∙ ap (λ (p : ℕ). number_after p (suc (length q)) (number_in v r)) (sym (number_here v x q h))
  | no h ↦ number_there v x (q ++ r) h ∙ ap onward (number_append v q r) ∙ after_cons (number_in v q) (length q) (number_in v r)
      ∙ ap (λ (p : ℕ). number_after p (suc (length q)) (number_in v r)) (sym (number_there v x q h))
]

pub number_in_lem : (v k : ℕ) (q r : List ℕ) → number_in v q ≡ suc k → number_in v (q ++ r) ≡ suc k
number_in_lem v k q r e = number_append v q r ∙ ap (λ (p : ℕ). number_after p (length q) (number_in v r)) e

pub number_out : (v : ℕ) (q r : List ℕ) → number_in v q ≡ 0 → number_in v r ≡ 0 → number_in v (q ++ r) ≡ 0
number_out v q r e f = number_append v q r ∙ ap (λ (p : ℕ). number_after p (length q) (number_in v r)) e ∙ ap (number_after 0 (length q)) f

pub number_new : (v : ℕ) (q r : List ℕ) → number_in v q ≡ 0 → number_in v (q ++ v ∷ r) ≡ suc (length q)
number_new v q r e =
    number_append v q (v ∷ r) ∙ ap (λ (p : ℕ). number_after p (length q) (number_in v (v ∷ r))) e
    ∙ ap (number_after 0 (length q)) (number_here v v r refl) ∙ ap suc (add-zero (length q))

pub get_or_number : (v : ℕ) (q : List ℕ) (k : ℕ) → number_in v q ≡ suc k → (k < length q) × (get_or q k 0 ≡ v)
unfolding number_in
get_or_number v [] k e = absurd (suc-ne-zero k (sym e))
get_or_number v (x ∷ q) zero e = elim (ℕ_discrete v x) [ yes h ↦ (omega arith, sym h) | no h ↦ absurd (onward_one (number_in v q) (sym (number_there v x q h) ∙ e)) ]
get_or_number v (x ∷ q) (suc k) e = elim (ℕ_discrete v x) [
  | yes h ↦ absurd (suc-ne-zero k (suc_inj (sym e ∙ number_here v x q h)))
  | no h ↦ let r = get_or_number v q k (onward_suc (number_in v q) k (sym (number_there v x q h) ∙ e)) in (omega arith, r.1)
]

pub number_map : (f : ℕ → ℕ) (v : ℕ) (q : List ℕ) → All (λ x. f v ≡ f x → v ≡ x) q → number_in (f v) (map f q) ≡ number_in v q
unfolding number_in
number_map f v [] a = refl
number_map f v (x ∷ q) a = elim (ℕ_discrete v x) [
  | yes h ↦ number_here (f v) (f x) (map f q) (ap f h) ∙ sym (number_here v x q h)
  | no h ↦ number_there (f v) (f x) (map f q) (λ e. h (a.0 e)) ∙ ap onward (number_map f v q a.1) ∙ sym (number_there v x q h)
]

pub mem_number : {v : ℕ} {q : List ℕ} → Memᴰ v q → number_in v q ≢ 0
mem_number {v} (Memᴰ.head {x = x} {xs = q} e) z = suc-ne-zero 0 (sym (number_here v x q e) ∙ z)
mem_number {v} (Memᴰ.tail {x = x} {xs = q} m) z = mem_number m (number_zero v x q z).1

pub number_mem : (v : ℕ) (q : List ℕ) → number_in v q ≢ 0 → Memᴰ v q
unfolding number_in
number_mem v [] h = absurd (h refl)
number_mem v (x ∷ q) h = elim (ℕ_discrete v x) [ yes e ↦ Memᴰ.head e | no e ↦ Memᴰ.tail (number_mem v q (λ z. h (number_there v x q e ∙ ap onward z))) ]

-- a number that is not 0 has a predecessor
pub above : (p : ℕ) → p ≢ 0 → (k : ℕ) × (p ≡ suc k)
above zero h = absurd (h refl)
above (suc k) h = (k, refl)

-- ---- no number twice

pub nodup_snoc : (q : List ℕ) (v : ℕ) → Nodup q → number_in v q ≡ 0 → Nodup (q ++ v ∷ [])
unfolding number_in
nodup_snoc [] v n e = (refl, tt)
nodup_snoc (x ∷ q) v n e =
    let r = number_zero v x q e in
    (number_out x q (v ∷ []) n.0 (number_there x v [] (λ h. r.0 (sym h))), nodup_snoc q v n.1 r.1)

pub number_get_or : (q : List ℕ) (k : ℕ) → Nodup q → k < length q → number_in (get_or q k 0) q ≡ suc k
number_get_or [] k n h = absurd (not-suc-le-zero h)
number_get_or (x ∷ q) zero n h = number_here x x q refl
number_get_or (x ∷ q) (suc k) n h =
    let ih = number_get_or q k n.1 (le_of_suc-le-suc h) in
    number_there (get_or q k 0) x q (λ e. suc-ne-zero k (sym ih ∙ ap (λ (y : ℕ). number_in y q) e ∙ n.0)) ∙ ap onward ih

-- in the middle of such a list: not before
pub nodup_mid : (q : List ℕ) (v : ℕ) (r : List ℕ) → Nodup (q ++ v ∷ r) → number_in v q ≡ 0
unfolding number_in
nodup_mid [] v r n = refl
nodup_mid (x ∷ q) v r n =
    number_there v x q (λ e. mem_number (Memᴰ.append_right q (Memᴰ.head (sym e))) n.0) ∙ ap onward (nodup_mid q v r n.1)

-- ---- the numbers from a on

pub mem_run : (a k v : ℕ) → a ≤ v → v < a + k → Memᴰ v (run a k)
mem_run a zero v l u = absurd (omega arith)
mem_run a (suc k) v l u = elim (ℕ_discrete v a) [ yes e ↦ Memᴰ.head e | no h ↦ Memᴰ.tail (mem_run (suc a) k v (omega arith) (omega arith)) ]

pub all_run : (a k : ℕ) → All (λ x. (a ≤ x) × (x < a + k)) (run a k)
all_run a zero = tt
all_run a (suc k) =
    (omega arith, all_imp (λ x. (suc a ≤ x) × (x < suc a + k)) (λ x. (a ≤ x) × (x < a + suc k)) (run (suc a) k) (λ x h. omega arith) (all_run (suc a) k))

number_none : (v : ℕ) (q : List ℕ) → All (λ x. v ≢ x) q → number_in v q ≡ 0
unfolding number_in
number_none v [] a = refl
number_none v (x ∷ q) a = number_there v x q a.0 ∙ ap onward (number_none v q a.1)

pub nodup_run : (a k : ℕ) → Nodup (run a k)
nodup_run a zero = tt
nodup_run a (suc k) = (
  number_none a (run (suc a) k) (all_imp (λ x. (suc a ≤ x) × (x < suc a + k)) (λ x. a ≢ x) (run (suc a) k) (λ x h e. omega arith) (all_run (suc a) k)),
  nodup_run (suc a) k,
)

-- in the numbers 1 to r, h is its own place, and r + 1 has none
pub number_one_to : (r h : ℕ) → 1 ≤ h → h ≤ r → number_in h (one_to r) ≡ h
number_one_to r zero a b = absurd (omega arith)
number_one_to r (suc k) a b =
    ap (λ (x : ℕ). number_in x (one_to r)) (sym (get_or_run 1 r k 0 b ∙ one-add k)) ∙ number_get_or (one_to r) k (nodup_run 1 r) (omega (arith, length_run 1 r))

pub number_next : (r : ℕ) → number_in (suc r) (one_to r) ≡ 0
number_next r = number_none (suc r) (one_to r) (all_imp (λ x. (1 ≤ x) × (x < 1 + r)) (λ x. suc r ≢ x) (one_to r) (λ x h e. omega arith) (all_run 1 r))

-- ---- permutations

-- what stands in a list, cut around it
cut_at : {A : Type 0} {x : A} {ys : List A} → Memᴰ x ys → (a : List A) × (b : List A) × (ys ≡ a ++ x ∷ b)
cut_at {A} {x} (Memᴰ.head {xs = xs} e) = ([], xs, ap (λ (z : A). z ∷ xs) (sym e))
cut_at {A} {x} (Memᴰ.tail {x = y} m) = let r = cut_at m in (y ∷ r.0, r.1, ap (λ (l : List A). y ∷ l) r.2)

-- another than x, with x taken out
without : {y : ℕ} (x : ℕ) (a b : List ℕ) → Memᴰ y (a ++ x ∷ b) → x ≢ y → Memᴰ y (a ++ b)
without {y} x a b m h = front (Memᴰ.append_cases a m)
  where
    back : (y ≡ x) ⊎ Memᴰ y b → Memᴰ y (a ++ b)
    back (inl e) = absurd (h (sym e))
    back (inr k) = Memᴰ.append_right a k

    front : Memᴰ y a ⊎ Memᴰ y (x ∷ b) → Memᴰ y (a ++ b)
    front (inl k) = Memᴰ.append_left b k
    front (inr k) = back (Memᴰ.cases_cons k)

all_without : (x : ℕ) (a b xs : List ℕ) → number_in x xs ≡ 0 → All (λ y. Memᴰ y (a ++ x ∷ b)) xs → All (λ y. Memᴰ y (a ++ b)) xs
all_without x a b [] e m = tt
all_without x a b (y ∷ xs) e m =
    let r = number_zero x y xs e in
    (without x a b m.0 r.0, all_without x a b xs r.1 m.1)

-- a list with no number twice, each of them in ys, is a part of a permutation of ys
pub complete : (xs ys : List ℕ) → Nodup xs → All (λ x. Memᴰ x ys) xs → (r : List ℕ) × Permᴰ (xs ++ r) ys
complete [] ys n a = (ys, Permᴰ.refl ys)
complete (x ∷ xs) ys n a =
    let c = cut_at a.0 in
    let ih = complete xs (c.0 ++ c.1) n.1 (all_without x c.0 c.1 xs n.0 (subst (λ (l : List ℕ). All (λ y. Memᴰ y l) xs) c.2 a.1)) in
    (ih.0, subst (λ (l : List ℕ). Permᴰ (x ∷ xs ++ ih.0) l) (sym c.2) (Permᴰ.trans (Permᴰ.cons refl ih.1) (Permᴰ.symm (Permᴰ.middle x c.0 c.1))))

pub perm_length : {A : Type 0} {xs ys : List A} → Permᴰ xs ys → length xs ≡ length ys
perm_length Permᴰ.nil = refl
perm_length (Permᴰ.cons e p) = ap suc (perm_length p)
perm_length (Permᴰ.swap e f) = refl
perm_length (Permᴰ.trans p q) = perm_length p ∙ perm_length q

pub perm_mem : {A : Type 0} {v : A} {xs ys : List A} → Permᴰ xs ys → Memᴰ v xs → Memᴰ v ys
perm_mem Permᴰ.nil m = m
perm_mem (Permᴰ.cons e p) (Memᴰ.head h) = Memᴰ.head (h ∙ e)
perm_mem (Permᴰ.cons e p) (Memᴰ.tail m) = Memᴰ.tail (perm_mem p m)
perm_mem (Permᴰ.swap e f) (Memᴰ.head h) = Memᴰ.tail (Memᴰ.head (h ∙ e))
perm_mem (Permᴰ.swap e f) (Memᴰ.tail (Memᴰ.head h)) = Memᴰ.head (h ∙ f)
perm_mem (Permᴰ.swap e f) (Memᴰ.tail (Memᴰ.tail m)) = Memᴰ.tail (Memᴰ.tail m)
perm_mem (Permᴰ.trans p q) m = perm_mem q (perm_mem p m)

pub perm_sum : {A : Type 0} (f : A → ℕ) {xs ys : List A} → Permᴰ xs ys → sum_of f xs ≡ sum_of f ys
unfolding sum_of
perm_sum f Permᴰ.nil = refl
perm_sum f (Permᴰ.cons e p) = λ i. f (e i) + perm_sum f p i
perm_sum f (Permᴰ.swap {a = a} {b = b} {l = l} e g) = add_left_comm (f a) (f b) (sum_of f l) ∙ (λ i. f (g i) + (f (e i) + sum_of f l))
perm_sum f (Permᴰ.trans p q) = perm_sum f p ∙ perm_sum f q

pub sum_append : {A : Type 0} (f : A → ℕ) (xs ys : List A) → sum_of f (xs ++ ys) ≡ sum_of f xs + sum_of f ys
unfolding sum_of
sum_append f [] ys = sym (zero-add (sum_of f ys))
sum_append f (x ∷ xs) ys = omega (arith, sum_append f xs ys)

-- ---- cuts of a list at i

pub take_end : {A : Type 0} (i : ℕ) (q : List A) → drop i q ≡ [] → take (suc i) q ≡ take i q
take_end zero [] e = refl
take_end zero (x ∷ q) e = absurd (cons≢nil e)
take_end (suc i) [] e = refl
take_end {A} (suc i) (x ∷ q) e = ap (λ (l : List A). x ∷ l) (take_end i q e)

pub take_next : {A : Type 0} (i : ℕ) (q : List A) (v : A) (rest r : List A) → drop i q ≡ v ∷ rest → take (suc i) (q ++ r) ≡ take i q ++ v ∷ []
take_next zero [] v rest r e = absurd (nil≢cons e)
take_next {A} zero (x ∷ q) v rest r e = ap (λ (y : A). y ∷ []) (head-eq_of_cons-eq e)
take_next (suc i) [] v rest r e = absurd (nil≢cons e)
take_next {A} (suc i) (x ∷ q) v rest r e = ap (λ (l : List A). x ∷ l) (take_next i q v rest r e)

pub drop_map : {A B : Type 0} (f : A → B) (i : ℕ) (q : List A) → drop i (map f q) ≡ map f (drop i q)
drop_map f zero q = refl
drop_map f (suc i) [] = refl
drop_map f (suc i) (x ∷ q) = drop_map f i q

pub number_le : (v : ℕ) (q : List ℕ) → number_in v q ≤ length q
number_le v q = go (number_in v q) refl
  where
    go : (p : ℕ) → number_in v q ≡ p → p ≤ length q
    go zero e = omega arith
    go (suc k) e = (get_or_number v q k e).0

pub node_number : (q : List ℕ) (v : ℕ) → number_in v q ≢ 0 → node_at q (number_in v q) ≡ v
node_number q v h = let a = above (number_in v q) h in ap (node_at q) a.1 ∙ (get_or_number v q a.0 a.1).1

pub number_node : (q : List ℕ) (p : ℕ) → Nodup q → 1 ≤ p → p ≤ length q → number_in (node_at q p) q ≡ p
number_node q zero d a b = absurd (omega arith)
number_node q (suc k) d a b = number_get_or q k d b

pub all_node_at : (P : ℕ → Type 0) (q : List ℕ) (p : ℕ) → All P q → 1 ≤ p → p ≤ length q → P (node_at q p)
all_node_at P q zero h a b = absurd (omega arith)
all_node_at P q (suc k) h a b = all_at P q k 0 h b

-- images
pub nodup_map : (f : ℕ → ℕ) (P : ℕ → Type 0) → ((u v : ℕ) → P u → P v → f u ≡ f v → u ≡ v) → (q : List ℕ) → All P q → Nodup q → Nodup (map f q)
nodup_map f P inj [] a d = tt
nodup_map f P inj (x ∷ q) a d =
    (number_map f x q (all_imp P (λ y. f x ≡ f y → x ≡ y) q (λ y h e. inj x y a.0 h e) a.1) ∙ d.0, nodup_map f P inj q a.1 d.1)
