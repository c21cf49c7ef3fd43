-- The few tools on lists that the definitions of this folder are written with. Places in a list of trits count from 0. Assumes nothing.
use Rattle.std.specs.Prelude.{ℕ, zero, suc, ◌+◌, ◌-◌, ◌*◌, ◌/◌, ◌%◌, ◌≤◌, ◌<◌, ◌≡◌, Bool, true, false, ◌&&◌, cond, List, [], ◌∷◌, ◌++◌, map, eqb, take, drop, length, get_or}
use Rattle.std.proofs.Math.Option.{Option, none}
use Rattle.std.proofs.Math.ListN.{get_elem?}

-- a test as a number
abbrev pub bit : Bool → ℕ
bit true = 1
bit false = 0

-- n numbers from a on: a, a + 1, ..
abbrev pub run : ℕ → ℕ → List ℕ
run a zero = []
run a (suc n) = a ∷ run (suc a) n

-- 1 to n
abbrev pub one_to : ℕ → List ℕ
one_to n = run 1 n

-- f 0, f 1, .., f (n - 1)
abbrev pub each {ℓ} : {A : Type ℓ} → ℕ → (ℕ → A) → List A
each n f = map f (run 0 n)

-- the test passes at every element
abbrev pub every {ℓ} : {A : Type ℓ} → (A → Bool) → List A → Bool
every f [] = true
every f (x ∷ xs) = f x && every f xs

-- x in front, where the test passes
abbrev pub cons_if {ℓ} : {A : Type ℓ} → Bool → A → List A → List A
cons_if true x xs = x ∷ xs
cons_if false x xs = xs

-- the elements at which the test passes, in their order
abbrev pub keep {ℓ} : {A : Type ℓ} → (A → Bool) → List A → List A
keep f [] = []
keep f (x ∷ xs) = cons_if (f x) x (keep f xs)

-- lists, one after the other
abbrev pub join {ℓ} : {A : Type ℓ} → List (List A) → List A
join [] = []
join (xs ∷ xss) = xs ++ join xss

-- the sum of f over a list
unfoldable pub sum_of : {A : Type 0} → (A → ℕ) → List A → ℕ
sum_of f [] = 0
sum_of f (x ∷ xs) = f x + sum_of f xs

-- two lists of numbers are the same
abbrev pub same : List ℕ → List ℕ → Bool
same [] [] = true
same [] (y ∷ ys) = false
same (x ∷ xs) [] = false
same (x ∷ xs) (y ∷ ys) = eqb x y && same xs ys

-- the first words of a buffer replaced by xs, the others as they were
abbrev pub over : List ℕ → List ℕ → List ℕ
over xs buffer = xs ++ drop (length xs) buffer

-- element number j, j from 1
abbrev pub numbered {ℓ} : {A : Type ℓ} → List A → ℕ → Option A
numbered xs zero = none
numbered xs (suc j) = get_elem? xs j

-- node number k of a list of nodes, counted from 1; 0 where there is none
abbrev pub node_at : List ℕ → ℕ → ℕ
node_at q zero = 0
node_at q (suc k) = get_or q k 0

-- one further on, where it was found
abbrev pub onward : ℕ → ℕ
onward zero = zero
onward (suc k) = suc (suc k)

-- the number of v in the list, counted from 1; 0 where it does not stand there
unfoldable pub number_in : ℕ → List ℕ → ℕ
number_in v [] = 0
number_in v (x ∷ xs) = cond (eqb v x) 1 (onward (number_in v xs))

-- how often t stands in xs
abbrev pub count_in : ℕ → List ℕ → ℕ
count_in t [] = 0
count_in t (x ∷ xs) = bit (eqb x t) + count_in t xs

-- n / d rounded up
abbrev pub up : ℕ → ℕ → ℕ
up n d = (n + (d - 1)) / d

-- digits to base b, the lowest first: d0 + b·d1 + b²·d2 + ..
abbrev pub horner : ℕ → List ℕ → ℕ
horner b [] = 0
horner b (d ∷ ds) = d + b * horner b ds

-- the w lowest digits of x to base b, the lowest first
abbrev pub low_digits : ℕ → ℕ → ℕ → List ℕ
low_digits b zero x = []
low_digits b (suc w) x = x % b ∷ low_digits b w (x / b)

-- digits to base b, w of them a word; digits that are missing from the last word are 0
unfoldable pub gather : ℕ → ℕ → List ℕ → List ℕ
gather b w ds = each (up (length ds) w) (λ i. horner b (take w (drop (w * i) ds)))

-- words, each by its w lowest digits to base b
unfoldable pub spread : ℕ → ℕ → List ℕ → List ℕ
spread b w ws = join (map (low_digits b w) ws)

-- ---- what statements say of every element

abbrev pub All : {A : Type 0} → (A → Type 0) → List A → Type 0
All P [] = Unit {0}
All P (x ∷ xs) = P x × All P xs

-- no number stands twice
abbrev pub Nodup : List ℕ → Type 0
Nodup [] = Unit {0}
Nodup (x ∷ xs) = (number_in x xs ≡ 0) × Nodup xs

-- every number of the list is below b
abbrev pub Below : ℕ → List ℕ → Type 0
Below b ds = (i : ℕ) → i < length ds → get_or ds i 0 < b

-- every element is at least a, and each is above the one before
abbrev pub RisingFrom : ℕ → List ℕ → Type 0
RisingFrom a [] = Unit {0}
RisingFrom a (x ∷ xs) = (a ≤ x) × RisingFrom (suc x) xs
