-- Document 01, "The table": a directed graph whose nodes are numbered from 1, each with an ordered list of operands, and a list of roots; the
-- run of words that writes it; and the reader of words, with the number of each refusal, 1 to 6. Assumes nothing.
use Rattle.std.specs.Prelude.{ℕ, zero, suc, ◌+◌, ◌≤◌, ◌<◌, ◌≡◌, Bool, ◌&&◌, cond, length, get_or, leb, eqb}
use mathlib.Core.List.{List, [], ◌∷◌, ◌++◌, Memᴰ}
use Rattle.format.specs.Lists.{number_in, sum_of, All, Nodup}

-- a graph: the operand list of each node, from node 1 on, and the roots
pub record Graph : Type 0 where
  pub operands : List (List ℕ)
  pub roots : List ℕ

-- n, the count of nodes
abbrev pub nodes : Graph → ℕ
nodes g = length g.operands

-- m, the count of edges
abbrev pub edges : Graph → ℕ
edges g = sum_of length g.operands

-- the operands of node v, from 1; none for a number that is no node
unfoldable pub operands_of : Graph → ℕ → List ℕ
operands_of g zero = []
operands_of g (suc i) = get_or g.operands i []

-- a node: a number from 1 to n
abbrev pub Node : ℕ → ℕ → Type 0
Node n v = (1 ≤ v) × (v ≤ n)

-- every number of the list is a node
abbrev pub AllNodes : ℕ → List ℕ → Type 0
AllNodes n xs = (j : ℕ) → j < length xs → Node n (get_or xs j 0)

abbrev pub is_node : ℕ → ℕ → Bool
is_node n v = leb 1 v && leb v n

-- ---- the words of a table: n; for each node the count of its operands, then these; the count of roots, then these

abbrev pub counted : List ℕ → List ℕ
counted xs = length xs ∷ xs

unfoldable pub list_words : List (List ℕ) → List ℕ
list_words [] = []
list_words (xs ∷ rest) = counted xs ++ list_words rest

unfoldable pub words : Graph → List ℕ
words g = nodes g ∷ list_words g.operands ++ counted g.roots

-- ---- reading words, front to back

-- what was read and the words after it, or the number of the first fault
pub data Got (X : Type 0) : Type 0 where
  stopped : ℕ → Got X
  got : X → List ℕ → Got X

abbrev pub and_then : {X Y : Type 0} → Got X → (X → List ℕ → Got Y) → Got Y
and_then (stopped f) next = stopped f
and_then (got x ws) next = next x ws

-- a fault where the test fails
abbrev pub need : {X : Type 0} → Bool → ℕ → Got X → Got X
need test f x = cond test x (stopped f)

unfoldable pub word : List ℕ → Got ℕ
word [] = stopped 1
word (w ∷ ws) = got w ws

-- k operands
unfoldable pub read_operands : ℕ → ℕ → List ℕ → Got (List ℕ)
read_operands n zero ws = got [] ws
read_operands n (suc k) ws =
    and_then (word ws) λ v ws₁. need (is_node n v) 3
    (and_then (read_operands n k ws₁) λ vs ws₂. got (v ∷ vs) ws₂)

-- the operand lists of k nodes, after m edges
unfoldable pub read_nodes : ℕ → ℕ → ℕ → List ℕ → Got (List (List ℕ))
read_nodes n zero m ws = got [] ws
read_nodes n (suc k) m ws =
    and_then (word ws) λ c ws₁. need (leb (m + c) 65535) 2
    (and_then (read_operands n c ws₁) λ vs ws₂.
    and_then (read_nodes n k (m + c) ws₂) λ rest ws₃. got (vs ∷ rest) ws₃)

-- k roots, after those in `before`
unfoldable pub read_roots : ℕ → ℕ → List ℕ → List ℕ → Got (List ℕ)
read_roots n zero before ws = got [] ws
read_roots n (suc k) before ws =
    and_then (word ws) λ v ws₁. need (is_node n v) 4 (need (eqb (number_in v before) 0) 5
    (and_then (read_roots n k (before ++ v ∷ []) ws₁) λ vs ws₂. got (v ∷ vs) ws₂))

-- behind the operand lists: the count c, then the roots
abbrev pub read_end : ℕ → List (List ℕ) → List ℕ → Got Graph
read_end n os ws =
    and_then (word ws) λ c ws₁.
    and_then (read_roots n c [] ws₁) λ rs ws₂. got (record { operands = os; roots = rs }) ws₂

unfoldable pub read_graph : List ℕ → Got Graph
read_graph ws = and_then (word ws) λ n ws₁. need (leb n 30000) 2 (and_then (read_nodes n n 0 ws₁) (read_end n))

pub data Read : Type 0 where
  faulty : ℕ → Read
  graph : Graph → Read

-- nothing may follow the roots
abbrev pub whole_table : Got Graph → Read
whole_table (stopped f) = faulty f
whole_table (got g []) = graph g
whole_table (got g (w ∷ ws)) = faulty 6

unfoldable pub read_table : List ℕ → Read
read_table ws = whole_table (read_graph ws)

-- ---- what statements say of it

-- every operand and every root is a node, and no root is named twice
pub record WellFormed (g : Graph) : Type 0 where
  pub inside : All (All (Node (nodes g))) g.operands
  pub roots_inside : All (Node (nodes g)) g.roots
  pub roots_nodup : Nodup g.roots

pub record WithinLimits (g : Graph) : Type 0 where
  pub nodes_fit : nodes g ≤ 30000
  pub edges_fit : edges g ≤ 65535

-- The first words of a table, all in order: n and the operand lists of the first nodes.
pub record Front (n : ℕ) (os : List (List ℕ)) : Type 0 where
  pub nodes_fit : n ≤ 30000
  pub lists_fit : length os ≤ n
  pub edges_fit : sum_of length os ≤ 65535
  pub inside : All (All (Node n)) os

-- Then a count of k operands, of which the first are read.
pub record OperandsFront (n : ℕ) (os : List (List ℕ)) (k : ℕ) (vs : List ℕ) : Type 0 where
  pub front : Front n os
  pub due : length os < n
  pub count_fits : sum_of length os + k ≤ 65535
  pub inside : All (Node n) vs
  pub more : length vs < k

-- Or, after n operand lists, a count of c roots, of which the first are read.
pub record RootsFront (n : ℕ) (os : List (List ℕ)) (c : ℕ) (rs : List ℕ) : Type 0 where
  pub front : Front n os
  pub lists : length os ≡ n
  pub inside : All (Node n) rs
  pub nodup : Nodup rs
  pub more : length rs < c

-- What each number of a faulty table means, apart from the reader: all is in order before the fault, and the fault stands there.
pub data FirstFault (table : List ℕ) : ℕ → Type 0 where
  -- 1: the table ends before n, a count, an operand or a root
  no_size : table ≡ [] → FirstFault table 1
  no_count : (n : ℕ) (os : List (List ℕ)) → Front n os → table ≡ n ∷ list_words os → FirstFault table 1
  no_operand : (n : ℕ) (os : List (List ℕ)) (k : ℕ) (vs : List ℕ) → OperandsFront n os k vs → table ≡ n ∷ list_words os ++ k ∷ vs → FirstFault table 1
  no_root : (n : ℕ) (os : List (List ℕ)) (c : ℕ) (rs : List ℕ) → RootsFront n os c rs → table ≡ n ∷ list_words os ++ c ∷ rs → FirstFault table 1
  -- 2: n above 30,000, or an operand count takes m above 65,535
  nodes_above : (n : ℕ) (rest : List ℕ) → 30000 < n → table ≡ n ∷ rest → FirstFault table 2
  edges_above : (n : ℕ) (os : List (List ℕ)) (k : ℕ) (rest : List ℕ) → Front n os → length os < n → 65535 < sum_of length os + k
      → table ≡ n ∷ list_words os ++ k ∷ rest → FirstFault table 2
  -- 3: operand outside 1 to n
  operand_outside : (n : ℕ) (os : List (List ℕ)) (k : ℕ) (vs : List ℕ) (v : ℕ) (rest : List ℕ) → OperandsFront n os k vs → (Node n v → ⊥)
      → table ≡ n ∷ list_words os ++ k ∷ vs ++ v ∷ rest → FirstFault table 3
  -- 4: root outside 1 to n
  root_outside : (n : ℕ) (os : List (List ℕ)) (c : ℕ) (rs : List ℕ) (r : ℕ) (rest : List ℕ) → RootsFront n os c rs → (Node n r → ⊥)
      → table ≡ n ∷ list_words os ++ c ∷ rs ++ r ∷ rest → FirstFault table 4
  -- 5: root named before
  root_again : (n : ℕ) (os : List (List ℕ)) (c : ℕ) (rs : List ℕ) (r : ℕ) (rest : List ℕ) → RootsFront n os c rs → Node n r → Memᴰ r rs
      → table ≡ n ∷ list_words os ++ c ∷ rs ++ r ∷ rest → FirstFault table 5
  -- 6: words after the roots
  words_after : (g : Graph) (w : ℕ) (rest : List ℕ) → WellFormed g → WithinLimits g → table ≡ words g ++ w ∷ rest → FirstFault table 6
