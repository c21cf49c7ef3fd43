-- The cases of document 01 marked P, from table words: one list, one claim, computed. Assumes nothing.
use Prim.Native.Nat.{ℕ, ◌+◌}
use mathlib.Core.Path.{◌≡◌, refl}
use mathlib.Core.Bool.{Bool, true}
use Prim.Native.String.{String}
use mathlib.Core.List.{List, [], ◌∷◌, ◌++◌, map}
use lib.ListN.{length, take, replicate}
use Rattle.format.specs.Lists.{every, same, join, sum_of, number_in, gather, spread}
use Rattle.format.specs.Table.{Read, faulty, graph, read_table, operands_of, list_words, words, word, read_operands, read_nodes, read_roots, read_graph}
use Rattle.format.specs.Level.{Walk, walk, see, see_all, visit, super_root, turns, level_order, reached}
use Rattle.format.specs.Trits.{trytes, rank, places, select, untrytes, tryte_count}
use Rattle.format.specs.Image.{bytes, node_count, mark_words, marked_nodes, starts, grouped, from_bytes, root_count, edge_count, shadow_at, marked, marks, group, pair, pairs, mark_samples, section1, section2, section3, section4, section5, section6, section7, section8, section9, given, image}
use Rattle.format.specs.Batch.{batch_outcome, tally_holds, batch_fault}
use Rattle.format.specs.Listing.{text, listing_text, decimal, operand_text, user_text, node_line, count_line, listing, refusal, table_text, listing_outcome}
use Rattle.format.specs.Packing.{PackOutcome, pack_outcome, image_of, pack_fault}
use Rattle.format.specs.Edges.{operand_at, edge_at, edge_list, operand_edges, use_edges}
use Rattle.format.specs.Proper.{bytes_low, padded, roots_first, balanced, grown, limits, shadows_seen, section_fault, trits_of, contents_fault1, fault1, fault2, shadows_of, after2, given_fault, check_given, check_image}
use Rattle.format.specs.Unpack.{unpack, unpack_outcome}
use Rattle.format.specs.Renumbering.{renumbered}
use Rattle.format.specs.Question.{trit_answer, rank_answer, select_answer, operand_count, operand_answer, use_count, use_answer, answer}

-- the definitions, all of them, are computed with
computed : Unit {0}
unfolding sum_of number_in gather spread operands_of list_words words word read_operands read_nodes read_roots read_graph read_table see see_all visit super_root turns walk level_order reached rank places select trytes untrytes tryte_count bytes from_bytes node_count root_count edge_count shadow_at marked marks mark_words group grouped marked_nodes starts pair pairs mark_samples section1 section2 section3 section4 section5 section6 section7 section8 section9 given image image_of pack_fault pack_outcome bytes_low padded roots_first balanced grown limits shadows_seen section_fault trits_of contents_fault1 fault1 fault2 shadows_of after2 given_fault check_given check_image operand_at edge_at edge_list operand_edges use_edges trit_answer rank_answer select_answer operand_count operand_answer use_count use_answer answer unpack unpack_outcome tally_holds batch_fault batch_outcome decimal operand_text user_text node_line count_line listing refusal table_text listing_text listing_outcome renumbered
computed = tt

walk_of : Read → Walk
unfolding computed
walk_of (faulty f) = record { queue = []; trits = []; shadows = [] }
walk_of (graph g) = walk g

-- trits and H
trits : List ℕ → List ℕ
unfolding computed
trits table = (walk_of (read_table table)).trits

shadows : List ℕ → List ℕ
unfolding computed
shadows table = (walk_of (read_table table)).shadows

-- what packing leaves of buffers that hold nines
packed : List ℕ → PackOutcome
unfolding computed
packed table = pack_outcome table (replicate 8 9) (replicate 24 9) (replicate 105 9)

-- what a batch on the packed bytes leaves of an answer buffer of nines that is one word longer than the questions
asked : List ℕ → List ℕ → List ℕ
unfolding computed packed
asked table questions =
    let o = packed table in
    (batch_outcome (take o.returned.value o.image) questions (replicate (length questions + 1) 9) (record { asked = 0; answered = 0; refused = 0 })).words

-- a refusal's number, or 0 and the image's length
abbrev reply : PackOutcome → List ℕ
reply o = o.returned.code ∷ o.returned.value ∷ []

abbrev only : ℕ → List ℕ
only x = x ∷ []

abbrev first : List ℕ
first = 3 ∷ 2 ∷ 2 ∷ 3 ∷ 1 ∷ 3 ∷ 0 ∷ 1 ∷ 1 ∷ []

abbrev drawn : List ℕ
drawn = 8 ∷ 2 ∷ 2 ∷ 3 ∷ 1 ∷ 4 ∷ 2 ∷ 4 ∷ 5 ∷ 2 ∷ 6 ∷ 7 ∷ 2 ∷ 7 ∷ 8 ∷ 1 ∷ 8 ∷ 0 ∷ 1 ∷ 7 ∷ 1 ∷ 1 ∷ []

-- its image, section by section
abbrev drawn_image : List ℕ
drawn_image =
    21 ∷ 0 ∷ 0 ∷ 0 ∷ 37 ∷ 46 ∷ 139 ∷ 168 ∷ 0
    ∷ 4 ∷ 0 ∷ 0 ∷ 0 ∷ 4 ∷ 0 ∷ 7 ∷ 0 ∷ 8 ∷ 0 ∷ 7 ∷ 0
    ∷ 8 ∷ 0 ∷ 0 ∷ 0 ∷ 200 ∷ 0 ∷ 0 ∷ 0 ∷ 0 ∷ 0 ∷ 0 ∷ 0
    ∷ 4 ∷ 0 ∷ 0 ∷ 0 ∷ 0 ∷ 0 ∷ 0 ∷ 0 ∷ 1 ∷ 0 ∷ 0 ∷ 0 ∷ 3 ∷ 0 ∷ 0 ∷ 0 ∷ 4 ∷ 0 ∷ 0 ∷ 0
    ∷ 4 ∷ 0 ∷ 0 ∷ 0 ∷ 7 ∷ 0 ∷ 0 ∷ 0 ∷ 13 ∷ 0 ∷ 0 ∷ 0 ∷ 19 ∷ 0 ∷ 0 ∷ 0 ∷ 16 ∷ 0 ∷ 0 ∷ 0
    ∷ 1 ∷ 0 ∷ 0 ∷ 0 ∷ 0 ∷ 0 ∷ 0 ∷ 0 ∷ 0 ∷ 0 ∷ 0 ∷ 0
    ∷ 1 ∷ 0 ∷ 0 ∷ 0 ∷ 0 ∷ 0 ∷ 0 ∷ 0
    ∷ 1 ∷ 0 ∷ 0 ∷ 0 ∷ 0 ∷ 0
    ∷ 1 ∷ 0 ∷ 0 ∷ 0 ∷ 0 ∷ 0 ∷ []

infix 15 ◌gives◌
abbrev ◌gives◌ : List ℕ → List ℕ → Bool
got gives want = same got want

pub cases : List Bool
unfolding computed trits shadows packed asked
cases =
    -- 0 0: trits 0, H empty, image of 55 bytes
    (trits (0 ∷ 0 ∷ []) gives 0 ∷ [])
    ∷ (shadows (0 ∷ 0 ∷ []) gives [])
    ∷ (reply (packed (0 ∷ 0 ∷ [])) gives 0 ∷ 55 ∷ [])
    -- 1 0 1 1: trits 100
    ∷ (trits (1 ∷ 0 ∷ 1 ∷ 1 ∷ []) gives 1 ∷ 0 ∷ 0 ∷ [])
    -- 1 1 1 1 1: trits 1020, H 1, node 1 marked; it has one use, by itself, sort 2
    ∷ (trits (1 ∷ 1 ∷ 1 ∷ 1 ∷ 1 ∷ []) gives 1 ∷ 0 ∷ 2 ∷ 0 ∷ [])
    ∷ (shadows (1 ∷ 1 ∷ 1 ∷ 1 ∷ 1 ∷ []) gives only 1)
    ∷ (marked_nodes (trits (1 ∷ 1 ∷ 1 ∷ 1 ∷ 1 ∷ [])) (shadows (1 ∷ 1 ∷ 1 ∷ 1 ∷ 1 ∷ [])) gives only 1)
    ∷ (asked (1 ∷ 1 ∷ 1 ∷ 1 ∷ 1 ∷ []) (5 ∷ 1 ∷ 0 ∷ 6 ∷ 1 ∷ 1 ∷ []) gives 0 ∷ 1 ∷ 0 ∷ 0 ∷ 1 ∷ 2 ∷ 9 ∷ [])
    -- 2 2 2 2 0 1 1: trits 101200, H 2; node 2 has two uses, by 1 and 1
    ∷ (trits (2 ∷ 2 ∷ 2 ∷ 2 ∷ 0 ∷ 1 ∷ 1 ∷ []) gives 1 ∷ 0 ∷ 1 ∷ 2 ∷ 0 ∷ 0 ∷ [])
    ∷ (shadows (2 ∷ 2 ∷ 2 ∷ 2 ∷ 0 ∷ 1 ∷ 1 ∷ []) gives only 2)
    ∷ (asked (2 ∷ 2 ∷ 2 ∷ 2 ∷ 0 ∷ 1 ∷ 1 ∷ []) (5 ∷ 2 ∷ 0 ∷ 6 ∷ 2 ∷ 1 ∷ 6 ∷ 2 ∷ 2 ∷ []) gives 0 ∷ 2 ∷ 0 ∷ 0 ∷ 1 ∷ 1 ∷ 0 ∷ 1 ∷ 2 ∷ 9 ∷ [])
    -- 2 1 2 0 2 1 2: trits 110200, H 2
    ∷ (trits (2 ∷ 1 ∷ 2 ∷ 0 ∷ 2 ∷ 1 ∷ 2 ∷ []) gives 1 ∷ 1 ∷ 0 ∷ 2 ∷ 0 ∷ 0 ∷ [])
    ∷ (shadows (2 ∷ 1 ∷ 2 ∷ 0 ∷ 2 ∷ 1 ∷ 2 ∷ []) gives only 2)
    -- roots exchanged, 2 1 2 0 2 2 1: trits 110020, H 1, order 2 1
    ∷ (trits (2 ∷ 1 ∷ 2 ∷ 0 ∷ 2 ∷ 2 ∷ 1 ∷ []) gives 1 ∷ 1 ∷ 0 ∷ 0 ∷ 2 ∷ 0 ∷ [])
    ∷ (shadows (2 ∷ 1 ∷ 2 ∷ 0 ∷ 2 ∷ 2 ∷ 1 ∷ []) gives only 1)
    ∷ ((packed (2 ∷ 1 ∷ 2 ∷ 0 ∷ 2 ∷ 2 ∷ 1 ∷ [])).order gives 2 ∷ 1 ∷ 9 ∷ 9 ∷ 9 ∷ 9 ∷ 9 ∷ 9 ∷ [])
    -- 3 2 2 3 1 3 0 1 1: trits 10110200, H 3
    ∷ (trits first gives 1 ∷ 0 ∷ 1 ∷ 1 ∷ 0 ∷ 2 ∷ 0 ∷ 0 ∷ [])
    ∷ (shadows first gives only 3)
    -- 3 2 3 2 1 3 0 1 1: trits 10110020, H 2
    ∷ (trits (3 ∷ 2 ∷ 3 ∷ 2 ∷ 1 ∷ 3 ∷ 0 ∷ 1 ∷ 1 ∷ []) gives 1 ∷ 0 ∷ 1 ∷ 1 ∷ 0 ∷ 0 ∷ 2 ∷ 0 ∷ [])
    ∷ (shadows (3 ∷ 2 ∷ 3 ∷ 2 ∷ 1 ∷ 3 ∷ 0 ∷ 1 ∷ 1 ∷ []) gives only 2)
    -- 3 2 3 2 0 1 2 1 1: order 1 3 2, image equal to the first of these three
    ∷ ((packed (3 ∷ 2 ∷ 3 ∷ 2 ∷ 0 ∷ 1 ∷ 2 ∷ 1 ∷ 1 ∷ [])).order gives 1 ∷ 3 ∷ 2 ∷ 9 ∷ 9 ∷ 9 ∷ 9 ∷ 9 ∷ [])
    ∷ ((packed (3 ∷ 2 ∷ 3 ∷ 2 ∷ 0 ∷ 1 ∷ 2 ∷ 1 ∷ 1 ∷ [])).image gives (packed first).image)
    -- the drawn graph
    ∷ (trits drawn gives 1 ∷ 0 ∷ 1 ∷ 1 ∷ 0 ∷ 1 ∷ 0 ∷ 2 ∷ 1 ∷ 0 ∷ 1 ∷ 1 ∷ 0 ∷ 2 ∷ 1 ∷ 0 ∷ 2 ∷ 0 ∷ 0 ∷ 2 ∷ 0 ∷ [])
    ∷ (trytes (trits drawn) gives 37 ∷ 46 ∷ 139 ∷ 168 ∷ 0 ∷ [])
    ∷ (shadows drawn gives 4 ∷ 7 ∷ 8 ∷ 7 ∷ [])
    ∷ (mark_words (trits drawn) (shadows drawn) gives only 200)
    ∷ (starts (trits drawn) (shadows drawn) gives 0 ∷ 1 ∷ 3 ∷ 4 ∷ [])
    ∷ (grouped (trits drawn) (shadows drawn) (node_count (trits drawn)) gives 7 ∷ 13 ∷ 19 ∷ 16 ∷ [])
    ∷ (reply (packed drawn) gives 0 ∷ 105 ∷ [])
    ∷ ((packed drawn).image gives drawn_image)
    -- rank of 1 before 11 is 6; select of 0, number 4, is 9; and the second operand of 3, the third user of 7
    ∷ (asked drawn (1 ∷ 1 ∷ 11 ∷ 2 ∷ 0 ∷ 4 ∷ 4 ∷ 3 ∷ 2 ∷ 6 ∷ 7 ∷ 3 ∷ []) gives 0 ∷ 6 ∷ 0 ∷ 0 ∷ 9 ∷ 0 ∷ 0 ∷ 5 ∷ 1 ∷ 0 ∷ 8 ∷ 2 ∷ 9 ∷ [])
    -- 2 0 0 1 1 gives 8; 1 0 0 gives 8
    ∷ (reply (packed (2 ∷ 0 ∷ 0 ∷ 1 ∷ 1 ∷ [])) gives 8 ∷ 0 ∷ [])
    ∷ (reply (packed (1 ∷ 0 ∷ 0 ∷ [])) gives 8 ∷ 0 ∷ [])
    ∷ []

pub cases_hold : every (λ b. b) cases ≡ true
unfolding computed cases walk_of
cases_hold = refl

-- lines of text, each with its newline
abbrev lines : List String → List ℕ
lines ls = join (map (λ (l : String). text l ++ (10 ∷ [])) ls)

-- the listing of the drawn graph, as it stands in document 01; two roots, of which the second is used, and two digits; what is refused
pub listing_holds : (listing_text (bytes 2 drawn) ≡ lines (
    "nodes 8 edges 11 roots 1 trits 21 shadows 4 bytes 105"
    ∷ "1: 2 3 |"
    ∷ "2: 4 | 1"
    ∷ "3: 4* 5 | 1"
    ∷ "4: 6 7 | 2 3*"
    ∷ "5: 7* 8 | 3"
    ∷ "6: 8* | 4"
    ∷ "7: | 4 5* 8*"
    ∷ "8: 7* | 5 6*"
    ∷ []))
    × (listing_text (bytes 2 (2 ∷ 1 ∷ 2 ∷ 0 ∷ 2 ∷ 1 ∷ 2 ∷ [])) ≡ lines ("nodes 2 edges 1 roots 2 trits 6 shadows 1 bytes 76" ∷ "1: 2* |" ∷ "2: | 1*" ∷ []))
    × (listing_text (bytes 2 (1 ∷ 0 ∷ 0 ∷ [])) ≡ lines ("refused 8" ∷ []))
    × (listing_text (bytes 2 (30001 ∷ [])) ≡ lines ("refused 2" ∷ []))
    × (listing_text (replicate 8000 0) ≡ lines ("refused 6" ∷ []))
    × (listing_text (7 ∷ []) ≡ lines ("refused 61" ∷ []))
    × (listing_text (replicate 8002 0) ≡ lines ("refused 61" ∷ []))
unfolding computed
listing_holds = (refl, refl, refl, refl, refl, refl, refl)
