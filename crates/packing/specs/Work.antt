-- The work buffer of the walk, in three parts of n words: for each node the index of its count in the table; its level number, with 65,536 for each of
-- its shadow uses, and 0 while it is not seen; the queue. Assumes nothing.
use Rattle.std.specs.Prelude.{◌≡◌, List, [], ℕ, zero, suc, ◌+◌, ◌-◌, ◌*◌, ◌≤◌, ◌<◌, length, get_or, take, drop}
use Rattle.format.specs.Lists.{All, Nodup, each, number_in, count_in}
use Rattle.format.specs.Table.{Graph, nodes, list_words, Node, Read, faulty, graph, read_table}
use Rattle.format.specs.Level.{Walk, see_all}

-- ---- a table that is read

abbrev pub graph_or : Read → Graph
graph_or (faulty f) = record { operands = []; roots = [] }
graph_or (graph g) = g

-- its graph
unfoldable pub graph_of : List ℕ → Graph
graph_of table = graph_or (read_table table)

-- a table that is read, of n nodes
pub record Sized (table : List ℕ) (n : ℕ) : Type 0 where
  pub read : read_table table ≡ graph (graph_of table)
  pub many : nodes (graph_of table) ≡ n

-- the index in the table of the count of node i + 1; for i = n, of the count of roots
unfoldable pub start_of : Graph → ℕ → ℕ
start_of g i = suc (length (list_words (take i g.operands)))

-- the words after the count at `at`, as many as it says
abbrev pub run_at : ℕ → List ℕ → List ℕ
run_at at table = take (get_or table at 0) (drop (at + 1) table)

-- they stand in the table, and are nodes
pub record RunIn (n at : ℕ) (table : List ℕ) : Type 0 where
  pub inside : at + 1 + get_or table at 0 ≤ length table
  pub are_nodes : All (Node n) (run_at at table)

-- ---- the buffer

-- the word of a node: its level number p, with 65,536 for each of its uses among the shadows H; 0 while it is not seen
unfoldable pub seen_word : ℕ → List ℕ → ℕ
seen_word zero H = 0
seen_word (suc k) H = suc k + 65536 * count_in (suc k) H

-- each node that the walk has seen is in the queue once; a 1 was written for each of them, and a 2 for each shadow
pub record Sound (n : ℕ) (w : Walk) : Type 0 where
  pub nodup : Nodup w.queue
  pub inside : All (Node n) w.queue
  pub ones : count_in 1 w.trits ≡ length w.queue
  pub twos : count_in 2 w.trits ≡ length w.shadows

-- the buffer holds the words of the nodes seen and the queue of the walk w, in which `tail` nodes are seen
pub record Held (n : ℕ) (w : Walk) (tail : ℕ) (work : List ℕ) : Type 0 where
  pub room : 3 * n ≤ length work
  pub small : n ≤ 30000
  pub tail_is : tail ≡ length w.queue
  pub fits : tail ≤ n
  pub sound : Sound n w
  pub below : All (λ h. h ≤ length w.queue) w.shadows
  pub seen : (v : ℕ) → Node n v → get_or work (n + v - 1) 0 ≡ seen_word (number_in v w.queue) w.shadows
  pub order : (i : ℕ) → i < tail → get_or work (2 * n + i) 0 ≡ get_or w.queue i 0
  pub spare : (i : ℕ) → tail ≤ i → i < n → get_or work (2 * n + i) 0 ≡ 0

-- and the walk may have k shadows more
pub record Holding (n tail k : ℕ) (work : List ℕ) : Type 0 where
  pub w : Walk
  pub held : Held n w tail work
  pub few : length w.shadows + k ≤ 65535

-- the buffer holds a walk that has seen every node
pub record Full (n : ℕ) (work : List ℕ) : Type 0 where
  pub w : Walk
  pub held : Held n w n work

-- how many shadow uses each of the level numbers 1 to n has
unfoldable pub uses_of : ℕ → List ℕ → List ℕ
uses_of n H = each n (λ i. count_in (suc i) H)

-- nothing changes but in places a to b - 1
abbrev pub Kept : ℕ → ℕ → List ℕ → List ℕ → Type 0
Kept a b l l' = (k : ℕ) → (a ≤ k → k < b → ⊥) → get_or l' k 0 ≡ get_or l k 0

-- the nodes vs were seen
pub record Saw (n : ℕ) (vs : List ℕ) (tail tail' : ℕ) (work work' : List ℕ) : Type 0 where
  pub held : (w : Walk) → Held n w tail work → Held n (see_all vs w) tail' work'
  pub kept : Kept n (3 * n) work work'

-- the buffer holds the starts of a table of n nodes, and the walk w
pub record WorkAt (table : List ℕ) (n : ℕ) (w : Walk) (tail : ℕ) (work : List ℕ) : Type 0 where
  pub sized : Sized table n
  pub starts : (i : ℕ) → i < n → get_or work i 0 ≡ start_of (graph_of table) i
  pub held : Held n w tail work
