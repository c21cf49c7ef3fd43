-- How long the listing's text can be. Assumes nothing.
use Prim.Native.Nat.{ℕ, zero, suc, ◌+◌, ◌*◌, ◌/◌, ◌%◌, ◌≤◌, zero-le}
use native.Mathlib.Omega.{arith}
use mathlib.Core.Path.{◌≡◌, refl, ap, ◌∙◌}
use mathlib.Core.Bool.{Bool, true, false, ◌&&◌, cond}
use mathlib.Core.List.{List, [], ◌∷◌, ◌++◌, map}
use lib.Dec.{ltb, leb, eqb, lit≤}
use lib.ListN.{length, length-append}
use borrow.Author.Tests.{leb-true}
use Rattle.format.specs.Lists.{join, one_to}
use Rattle.format.specs.Table.{Graph, nodes, edges, Read, faulty, graph, read_table}
use Rattle.format.specs.Level.{walk, reached}
use Rattle.format.specs.Image.{from_bytes, node_count, root_count, edge_count, image}
use Rattle.format.specs.Edges.{Edge, operand_edges, use_edges}
use Rattle.format.specs.Packing.{Accepted}
use Rattle.format.specs.Listing.{text, decimal_in, decimal, starred, newline, operand_text, user_text, node_line, count_line, listing, refusal, table_text, listing_text}
use Rattle.format.proofs.Laws.{both_true}
use Rattle.format.proofs.Digits.{length_gather}
use Rattle.format.proofs.Sizes.{total, length_join_run}
use Rattle.format.proofs.Sums.{operands_sum, uses_sum}
use Rattle.format.proofs.Order.{counts}
use Rattle.format.proofs.Accepting.{reads_as, packable, edge_count_lem, proper_table}
use Rattle.format.proofs.Outcomes.{length_words, T_of}

digits_few : (d x : ℕ) → length (decimal_in d x) ≤ d
digits_few zero x = zero-le
digits_few (suc d) x = go (ltb x 10) (digits_few d (x / 10))
  where
    go : (b : Bool) → length (decimal_in d (x / 10)) ≤ d → length {A = ℕ} (elim b [ true ↦ (48 + x) ∷ [] | false ↦ decimal_in d (x / 10) ++ ((48 + x % 10) ∷ []) ]) ≤ suc d
    go true h = omega arith
    go false h = omega (arith, length-append (decimal_in d (x / 10)) ((48 + x % 10) ∷ []))

decimal_few : (x : ℕ) → length (decimal x) ≤ 10
unfolding decimal
decimal_few x = digits_few 10 x

star_few : (e : Edge) → length (starred e) ≤ 1
star_few e = go (eqb e.sort 2)
  where
    go : (b : Bool) → length (cond b (text "*") []) ≤ 1
    go true = lit≤ tt
    go false = lit≤ tt

operand_few : (e : Edge) → length (operand_text e) ≤ 12
unfolding operand_text
operand_few e = omega (arith, length-append (decimal e.operand) (starred e), decimal_few e.operand, star_few e)

user_few : (e : Edge) → length (user_text e) ≤ 12
unfolding user_text
user_few e = omega (arith, length-append (decimal e.user) (starred e), decimal_few e.user, star_few e)

joined_few : (f : Edge → List ℕ) → ((e : Edge) → length (f e) ≤ 12) → (es : List Edge) → length (join (map f es)) ≤ 12 * length es
joined_few f h [] = lit≤ tt
joined_few f h (e ∷ es) = omega (arith, length-append (f e) (join (map f es)), h e, joined_few f h es)

line_few : (trits H : List ℕ) (i : ℕ) → length (node_line trits H i) ≤ 14 + 12 * length (operand_edges trits H i) + 12 * length (use_edges trits H i)
unfolding node_line
line_few trits H i =
    simp length-append
    (omega (arith, decimal_few i, joined_few operand_text operand_few (operand_edges trits H i), joined_few user_text user_few (use_edges trits H i)))

lines_few : (trits H : List ℕ) (n : ℕ)
    → total (λ i. length (node_line trits H i)) n ≤ 14 * n + 12 * total (λ i. length (operand_edges trits H i)) n + 12 * total (λ i. length (use_edges trits H i)) n
lines_few trits H zero = lit≤ tt
lines_few trits H (suc n) = omega (arith, lines_few trits H n, line_few trits H (suc n))

refusal_few : (c : ℕ) → length (refusal c) ≤ 19
unfolding refusal
refusal_few c = omega (arith, length-append (decimal c) newline, decimal_few c)

counts_few : (trits H : List ℕ) → length (count_line trits H) ≤ 130
unfolding count_line
counts_few trits H =
    let d = decimal_few in
    simp length-append
    (omega (arith, d (node_count trits), d (edge_count trits), d (root_count trits), d (length trits), d (length H), d (length (image trits H))))

listed_few : (table : List ℕ) (g : Graph) → Accepted table g → length table ≤ 4000 → length (listing (walk g).trits (walk g).shadows) ≤ 100000
unfolding listing node_count
listed_few table g a l =
    let ts : List ℕ = (walk g).trits in
    let hs : List ℕ = (walk g).shadows in
    let p = packable table g a in
    let t : length table ≡ 2 + nodes g + edges g + length g.roots = ap length (reads_as table g a).0 ∙ length_words g in
    omega (
      arith,
      length-append (count_line ts hs) (join (map (node_line ts hs) (one_to (node_count ts)))),
      counts_few ts hs,
      length_join_run (node_line ts hs) (node_count ts),
      lines_few ts hs (node_count ts),
      operands_sum ts hs (proper_table table g a),
      uses_sum ts hs (proper_table table g a),
      edge_count_lem g p,
      (counts g p).ones,
    )

-- a table of at most 4,000 words has at most 3,998 nodes and edges together
table_few : (table : List ℕ) → length table ≤ 4000 → length (table_text (read_table table)) ≤ 100000
unfolding table_text
table_few table l = go (read_table table) refl
  where
    few : (f : ℕ) → length (refusal f) ≤ 100000
    few f = omega (arith, refusal_few f)

    settled : (g : Graph) → read_table table ≡ graph g → (b : Bool) → reached g ≡ b → length (cond b (listing (walk g).trits (walk g).shadows) (refusal 8)) ≤ 100000
    settled g e false r = omega (arith, refusal_few 8)
    settled g e true r = listed_few table g (record { read = e; reaches = T_of (reached g) r }) l

    go : (r : Read) → read_table table ≡ r → length (table_text r) ≤ 100000
    go (faulty f) e = few f
    go (graph g) e = settled g e (reached g) refl

pub text_few : (input : List ℕ) → length (listing_text input) ≤ 100000
unfolding listing_text from_bytes
text_few input = go (eqb (length input % 2) 0 && leb (length input) 8000) refl
  where
    go : (b : Bool) → (eqb (length input % 2) 0 && leb (length input) 8000) ≡ b → length (cond b (table_text (read_table (from_bytes 2 input))) (refusal 61)) ≤ 100000
    go false e = omega (arith, refusal_few 61)
    go true e =
        let h : length input ≤ 8000 = leb-true (length input) 8000 (both_true (eqb (length input % 2) 0) (leb (length input) 8000) e).1 in
        table_few (from_bytes 2 input) (omega (arith, length_gather 256 2 input))
