-- The image checker gives 0 exactly for the images of proper trits and shadows. Assumes nothing.
use Prim.Native.Nat.{ℕ, suc, ◌+◌, ◌-◌, ◌*◌, ◌^◌, ◌≤◌, ◌<◌}
use native.Mathlib.Nat.{le_trans, suc_inj}
use native.Mathlib.Omega.{arith}
use native.Mathlib.Decide.{dec_le}
use mathlib.Core.Path.{◌≡◌, refl, sym, ap, ap₂, ◌∙◌, subst}
use mathlib.Core.Bool.{Bool, true, false}
use mathlib.Core.List.{List, [], ◌∷◌, ◌++◌}
use lib.Dec.{eqb, leb, lit<}
use lib.ListN.{length, get_or, take, drop, length-append, take-append-drop, length-drop, get_or-eq_default}
use lib.Seq.{take_at, drop_at, length-take-le, get_or-drop}
use borrow.Author.Tests.{eqb-true, eq-eqb, le-leb, leb-true, lt-leb}
use Rattle.format.specs.Lists.{run, same, count_in, up, horner, spread, Below}
use Rattle.format.specs.Trits.{rank, places, trytes, untrytes}
use Rattle.format.specs.Image.{le_bytes, bytes, from_bytes, node_count, marked, marked_nodes, Section, section2, given, written, image, shadow_at, section3, section1, section4, section5, section6, section7, section8, section9}
use Rattle.format.specs.Faults.{fault, ◌then◌}
use Rattle.format.specs.Proper.{bytes_low, padded, roots_first, balanced, grown, limits, shadows_seen, count_of, contents_of, rest_of, section_fault, size1, size2, after1, after2, contents_fault1, fault1, fault2, check_given, check_image, trits_of, shadows_of, ProperTrits, SectionGives, Contents1Gives}
use Rattle.format.specs.Table.{Node, is_node, AllNodes}
use Rattle.format.proofs.Laws.{both_true, at_every, every_at, same_eq, same_refl, count_le, length_run, length_keep, rank_count, rank_here, is_node_node}
use Rattle.format.proofs.Digits.{horner_digits, horner_lt, digits_horner, below_take, below_drop, length_gather, length_spread, gather_at, gather_spread, spread_gather, spread_gather_at, spread_gather_whole, gather_pad, below_spread, length_block, below_block, up_mul, le_up}
use Rattle.format.proofs.Sizes.{length_trytes, length_bytes}
use Rattle.format.proofs.Select.{place_of_lem, length_places, place_rank}
use Rattle.format.proofs.FaultLaws.{then_yes, then_zero, fault_zero, fault_yes, then_no, fault_no}

-- ---- one section

-- a section in front of the rest: its count, its contents and the rest come back
module _ (c : ℕ) (bs rest : List ℕ) where
  pub count_back : c < 256 ^ 4 → count_of (le_bytes 4 c ++ (bs ++ rest)) ≡ c
  count_back h = horner_digits 256 4 c (lit< tt) h

  pub contents_back : (size : ℕ) → size ≡ length bs → contents_of size (le_bytes 4 c ++ (bs ++ rest)) ≡ bs
  contents_back size e = take_at bs rest size (sym e)

  pub rest_back : (size : ℕ) → size ≡ length bs → rest_of size (le_bytes 4 c ++ (bs ++ rest)) ≡ rest
  rest_back size e = drop_at bs rest size (sym e)

  long_enough : (size : ℕ) → size ≡ length bs → (4 ≤ length (le_bytes 4 c ++ (bs ++ rest))) × (size ≤ length (bs ++ rest))
  long_enough size e = (omega (arith, length-append (le_bytes 4 c) (bs ++ rest)), omega (arith, length-append bs rest))

-- one section, in the order of its faults
module _ (cf size ct : ℕ) (b : List ℕ) where
  -- count missing
  pub section_missing : length b < 4 → section_fault cf size ct b ≡ 21
  unfolding section_fault
  section_missing h =
      let e : fault 21 (leb 4 (length b)) ≡ 21 = ap (fault 21) (lt-leb 4 (length b) h) in
      then_no (fault 21 (leb 4 (length b))) _ (omega (arith, e)) ∙ e

  module _ (h4 : 4 ≤ length b) where
    counted : (x : ℕ) → (fault 21 (leb 4 (length b)) then x) ≡ x
    counted x = then_yes (fault 21 (leb 4 (length b))) x (fault_yes 21 (leb 4 (length b)) (le-leb 4 (length b) h4))

    -- count wrong
    pub section_count : 0 < cf → section_fault cf size ct b ≡ cf
    unfolding section_fault
    section_count h = counted _ ∙ then_no cf _ h

    -- contents missing
    section_short : cf ≡ 0 → length (drop 4 b) < size → section_fault cf size ct b ≡ 21
    unfolding section_fault
    section_short hc h = counted _ ∙ then_yes cf _ hc ∙ ap (λ (t : Bool). fault 21 t then ct) (lt-leb size (length (drop 4 b)) h)

    -- contents wrong, or nothing wrong
    section_contents : cf ≡ 0 → size ≤ length (drop 4 b) → section_fault cf size ct b ≡ ct
    unfolding section_fault
    section_contents hc hs = counted _ ∙ then_yes cf _ hc ∙ ap (λ (t : Bool). fault 21 t then ct) (le-leb size (length (drop 4 b)) hs)

  -- a count that is right or not
  pub section_gives : (R : Type 0) (wrong : ℕ) → 0 < wrong → (R → cf ≡ 0) → ((R → ⊥) → cf ≡ wrong) → SectionGives (section_fault cf size ct b) b R wrong size ct
  section_gives R wrong p right bad = record {
    count_missing = section_missing;
    count_wrong = λ h r. section_count h (omega (arith, bad r)) ∙ bad r;
    contents_missing = λ h r l. section_short h (right r) l;
    contents_there = λ h r l. section_contents h (right r) l;
  }

  section_passes : 4 ≤ length b → cf ≡ 0 → size ≤ length (drop 4 b) → ct ≡ 0 → section_fault cf size ct b ≡ 0
  section_passes h c l t = section_contents h c l ∙ t

  -- what a section that was passed holds
  pub record Passed : Type 0 where
    pub whole : b ≡ le_bytes 4 (count_of b) ++ (contents_of size b ++ rest_of size b)
    pub counted : cf ≡ 0
    pub full : length (contents_of size b) ≡ size
    pub sound : ct ≡ 0

  pub section_passed : Below 256 b → section_fault cf size ct b ≡ 0 → Passed
  unfolding section_fault
  section_passed low e =
      let s1 = then_zero _ _ e in
      let s2 = then_zero _ _ s1.1 in
      let s3 = then_zero _ _ s2.1 in
      let l4 : 4 ≤ length b = leb-true 4 (length b) (fault_zero 21 (leb 4 (length b)) (lit< tt) s1.0) in
      let ls : size ≤ length (drop 4 b) = leb-true size (length (drop 4 b)) (fault_zero 21 (leb size (length (drop 4 b))) (lit< tt) s3.0) in
      record {
        whole =
            sym (ap₂ (λ (x y : List ℕ). x ++ y)
            (digits_horner 256 4 (take 4 b) (lit< tt) (below_take 256 4 b low) (length-take-le 4 b l4))
            (take-append-drop size (drop 4 b))
            ∙ take-append-drop 4 b);
        counted = s2.0;
        full = length-take-le size (drop 4 b) ls;
        sound = s3.1;
      }

below_rest : (size : ℕ) (b : List ℕ) → Below 256 b → Below 256 (rest_of size b)
below_rest size b low = below_drop 256 size (drop 4 b) (below_drop 256 4 b low)

pub below_contents : (size : ℕ) (b : List ℕ) → Below 256 b → Below 256 (contents_of size b)
below_contents size b low = below_take 256 size (drop 4 b) (below_drop 256 4 b low)

-- ---- sections 3 to 9

abbrev pub Small : List Section → Type 0
Small [] = Unit {0}
Small (s ∷ ss) = (s.entries < 256 ^ 4) × Small ss

given_passes : (ss : List Section) → Small ss → check_given ss (written ss) ≡ 0
unfolding check_given Rattle.format.specs.Proper.given_fault section_fault
given_passes [] h = refl
given_passes (s ∷ ss) h =
    let c : ℕ = s.entries in
    let bs : List ℕ = s.contents in
    let b : List ℕ = written (s ∷ ss) in
    let l = long_enough c bs (written ss) (length bs) refl in
    then_yes _ _ (section_passes _ (length bs) _ b l.0
    (fault_yes 25 _ (eq-eqb (count_of b) c (count_back c bs (written ss) h.0))) l.1
    (fault_yes 25 _ (ap (λ (x : List ℕ). same x bs) (contents_back c bs (written ss) (length bs) refl) ∙ same_refl bs)))
    ∙ ap (check_given ss) (rest_back c bs (written ss) (length bs) refl)
    ∙ given_passes ss h.1

given_passed : (ss : List Section) (b : List ℕ) → Below 256 b → check_given ss b ≡ 0 → b ≡ written ss
unfolding check_given section_fault Rattle.format.specs.Proper.given_fault
given_passed [] [] low e = refl
given_passed [] (x ∷ b) low e =
    let z : suc (length b) ≡ 0 = eqb-true (suc (length b)) 0 (fault_zero 26 (eqb (suc (length b)) 0) (lit< tt) e) in
    absurd (omega arith)
given_passed (s ∷ ss) b low e =
    let size : ℕ = length s.contents in
    let z = then_zero _ _ e in
    let r = section_passed _ size _ b low z.0 in
    let ec : count_of b ≡ s.entries = eqb-true (count_of b) s.entries (fault_zero 25 _ (lit< tt) r.counted) in
    let eb : contents_of size b ≡ s.contents = same_eq (contents_of size b) s.contents (fault_zero 25 _ (lit< tt) r.sound) in
    let er : rest_of size b ≡ written ss = given_passed ss (rest_of size b) (below_rest size b low) z.1 in
    r.whole ∙ ap₂ (λ (x : ℕ) (y : List ℕ). le_bytes 4 x ++ y) ec (ap₂ (λ (x y : List ℕ). x ++ y) eb er)

-- ---- shadows

-- the entry of each 2 is a node that stands before it
pub shadow_seen : (trits H : List ℕ) → shadows_seen trits H ≡ true → (p : ℕ) → p < length trits → get_or trits p 0 ≡ 2 → Node (rank 1 trits p) (shadow_at trits H p)
unfolding shadows_seen
shadow_seen trits H e p l two =
    let f : ℕ → Bool = λ q. is_node (rank 1 trits q) (shadow_at trits H q) in
    let j : rank 2 trits p < length (places 2 trits) = omega (arith, length_places 2 trits, rank_here 2 trits p l two, rank_count 2 trits (suc p)) in
    is_node_node (rank 1 trits p) (shadow_at trits H p) (ap f (sym (place_rank 2 trits p l two)) ∙ every_at f (places 2 trits) e (rank 2 trits p) 0 j)

-- so every entry of H is a node
pub shadow_nodes : (trits H : List ℕ) → length H ≡ count_in 2 trits → shadows_seen trits H ≡ true → AllNodes (node_count trits) H
unfolding node_count shadow_at
shadow_nodes trits H k e j h =
    let p : ℕ = get_or (places 2 trits) j 0 in
    let s = place_of_lem 2 trits j (omega arith) in
    let n : Node (rank 1 trits p) (get_or H (rank 2 trits p) 0) = shadow_seen trits H e p s.inside s.holds in
    subst (λ (i : ℕ). Node (count_in 1 trits) (get_or H i 0)) (suc_inj s.ranked) (n.0, le_trans n.1 (rank_count 1 trits p))

pub limits_nodes : (trits : List ℕ) → limits trits ≡ true → node_count trits ≤ 30000
unfolding limits
limits_nodes trits e = leb-true (node_count trits) 30000 (both_true _ _ e).0

-- ---- section 1

-- one of five tests fails
one_of_five : (a b c d e : Bool) (x : ℕ) → ((a ≡ true) × (b ≡ true) × (c ≡ true) × (d ≡ true) × (e ≡ true) → ⊥)
    → (fault 23 a then fault 23 b then fault 23 c then fault 23 d then fault 23 e then x) ≡ 23
one_of_five false b c d e x h = refl
one_of_five true false c d e x h = refl
one_of_five true true false d e x h = refl
one_of_five true true true false e x h = refl
one_of_five true true true true false x h = refl
one_of_five true true true true true x h = absurd (h (refl, refl, refl, refl, refl))

pub contents_1_gives : (L : ℕ) (bs : List ℕ) → Contents1Gives L bs
unfolding contents_fault1
contents_1_gives L bs =
    let t : List ℕ = untrytes L bs in
    let pass : (b : Bool) (x : ℕ) → b ≡ true → (fault 23 b then x) ≡ x = λ b x e. then_yes (fault 23 b) x (fault_yes 23 b e) in
    record {
      rule_broken = λ h. one_of_five (bytes_low bs) (padded L bs) (roots_first t) (balanced t) (grown t) (fault 22 (limits t))
          (λ r. h (record { is_low = r.0; is_padded = r.1; roots_are_first = r.2; is_balanced = r.3; is_grown = r.4 }));
      limit_passed = λ r h.
          pass (bytes_low bs) _ r.is_low ∙ pass (padded L bs) _ r.is_padded ∙ pass (roots_first t) _ r.roots_are_first ∙ pass (balanced t) _ r.is_balanced
          ∙ pass (grown t) _ r.is_grown ∙ fault_no 22 (limits t) h;
    }

pub untrytes_trytes : (trits : List ℕ) → Below 3 trits → untrytes (length trits) (trytes trits) ≡ trits
unfolding untrytes trytes
untrytes_trytes trits h = spread_gather 3 5 (lit< tt) (lit< tt) trits h

trytes_low : (trits : List ℕ) → Below 3 trits → bytes_low (trytes trits) ≡ true
unfolding bytes_low trytes
trytes_low trits h =
    at_every (λ x. leb x 242) 0 (trytes trits)
    (λ i l.
    let lt : i < up (length trits) 5 = subst (λ (k : ℕ). i < k) (length_gather 3 5 trits) l in
    let e : get_or (trytes trits) i 0 ≡ horner 3 (take 5 (drop (5 * i) trits)) = gather_at 3 5 trits i lt in
    let s : horner 3 (take 5 (drop (5 * i) trits)) < 3 ^ 5 =
    horner_lt 3 5 (take 5 (drop (5 * i) trits)) (lit< tt) (below_block 3 5 (lit< tt) (lit< tt) trits h i) (length_block 3 5 (lit< tt) (lit< tt) trits i) in
    le-leb (get_or (trytes trits) i 0) 242 (omega arith))

trytes_padded : (trits : List ℕ) → Below 3 trits → padded (length trits) (trytes trits) ≡ true
unfolding padded trytes
trytes_padded trits h =
    let S : List ℕ = spread 3 5 (trytes trits) in
    at_every (eqb 0) 0 (drop (length trits) S)
    (λ i l.
    let e : get_or (drop (length trits) S) i 0 ≡ 0 =
    get_or-drop (length trits) S i 0 ∙ spread_gather_at 3 5 (lit< tt) (lit< tt) trits h (length trits + i)
    ∙ get_or-eq_default trits 0 (omega arith) in
    eq-eqb 0 (get_or (drop (length trits) S) i 0) (sym e))

sound1 : (trits H : List ℕ) → ProperTrits trits H → contents_fault1 (length trits) (trytes trits) ≡ 0
unfolding contents_fault1
sound1 trits H p =
    ap (λ (t : List ℕ). fault 23 (bytes_low (trytes trits)) then fault 23 (padded (length trits) (trytes trits)) then fault 23 (roots_first t) then fault 23 (balanced t)
    then fault 23 (grown t) then fault 22 (limits t)) (untrytes_trytes trits p.threes)
    ∙ then_yes _ _ (fault_yes 23 _ (trytes_low trits p.threes)) ∙ then_yes _ _ (fault_yes 23 _ (trytes_padded trits p.threes))
    ∙ then_yes _ _ (fault_yes 23 _ p.roots_are_first) ∙ then_yes _ _ (fault_yes 23 _ p.is_balanced) ∙ then_yes _ _ (fault_yes 23 _ p.is_grown)
    ∙ fault_yes 22 _ p.in_limits

-- ---- section 2

pub from_bytes_bytes : (w : ℕ) (xs : List ℕ) → 0 < w → Below (256 ^ w) xs → from_bytes w (bytes w xs) ≡ xs
unfolding from_bytes bytes
from_bytes_bytes w xs pw h = gather_spread 256 w (lit< tt) pw xs h

pub bytes_from_bytes : (w : ℕ) (bs : List ℕ) (k : ℕ) → 0 < w → Below 256 bs → length bs ≡ w * k → bytes w (from_bytes w bs) ≡ bs
unfolding from_bytes bytes
bytes_from_bytes w bs k pw h e = spread_gather_whole 256 w (lit< tt) pw bs k h e

pub shadows_small : (trits H : List ℕ) → ProperTrits trits H → Below (256 ^ 2) H
shadows_small trits H p j h = omega (arith, (shadow_nodes trits H p.paired p.seen j h).1, limits_nodes trits p.in_limits)

-- ---- an image of proper trits and shadows is passed

given_small : (trits H : List ℕ) → ProperTrits trits H → Small (given trits H)
unfolding given marked_nodes section3 section4 section5 section6 section7 section8 section9 node_count
given_small trits H p =
    let n : node_count trits ≤ 30000 = limits_nodes trits p.in_limits in
    let few : length trits ≤ 125536 = p.length_high in
    let k : length H ≤ length trits = omega (arith, p.paired, count_le 2 trits) in
    let h : length (marked_nodes trits H) ≤ node_count trits = omega (arith, length_keep (marked H) (run 1 (node_count trits)), length_run 1 (node_count trits)) in
    (omega arith, (omega arith, (omega arith, (omega arith, (omega arith, (omega arith, (omega arith, tt)))))))

-- the image of proper trits and shadows gives these back
module _ (trits H : List ℕ) (p : ProperTrits trits H) where
  abbrev b : List ℕ
  b = image trits H

  abbrev rest1 : List ℕ
  rest1 = written (section2 trits H ∷ given trits H)

  abbrev rest2 : List ℕ
  rest2 = written (given trits H)

  count1 : count_of b ≡ length trits
  unfolding image Rattle.format.specs.Image.section1
  count1 = count_back (length trits) (trytes trits) rest1 (omega (arith, p.length_high))

  full1 : size1 b ≡ length (trytes trits)
  full1 = ap (λ (L : ℕ). up L 5) count1 ∙ sym (length_trytes trits)

  contents1 : contents_of (size1 b) b ≡ trytes trits
  unfolding image Rattle.format.specs.Image.section1 trytes
  contents1 = contents_back (length trits) (trytes trits) rest1 (size1 b) full1

  pub trits_of_image : trits_of b ≡ trits
  unfolding trits_of
  trits_of_image = ap₂ untrytes count1 contents1 ∙ untrytes_trytes trits p.threes

  after1_image : after1 b ≡ rest1
  unfolding image Rattle.format.specs.Image.section1 trytes
  after1_image = rest_back (length trits) (trytes trits) rest1 (size1 b) full1

  full2 : size2 trits ≡ length (bytes 2 H)
  full2 = omega (arith, length_bytes 2 H, p.paired)

  contents2 : from_bytes 2 (contents_of (size2 trits) rest1) ≡ H
  unfolding section2 bytes
  contents2 = ap (from_bytes 2) (contents_back (length H) (bytes 2 H) rest2 (size2 trits) full2) ∙ from_bytes_bytes 2 H (lit< tt) (shadows_small trits H p)

  pub shadows_of_image : shadows_of b ≡ H
  unfolding shadows_of
  shadows_of_image = ap₂ (λ (t r : List ℕ). from_bytes 2 (contents_of (size2 t) r)) trits_of_image after1_image ∙ contents2

  after2_image : after2 b ≡ rest2
  unfolding after2 section2 bytes given
  after2_image = ap₂ (λ (t r : List ℕ). rest_of (size2 t) r) trits_of_image after1_image ∙ rest_back (length H) (bytes 2 H) rest2 (size2 trits) full2

  -- and is passed, section by section
  passes1 : fault1 b ≡ 0
  unfolding fault1 image Rattle.format.specs.Image.section1 trytes
  passes1 =
      let l = long_enough (length trits) (trytes trits) rest1 (size1 b) full1 in
      section_passes _ (size1 b) _ b l.0
      (ap (λ (L : ℕ). fault 22 (leb L 125536) then fault 23 (leb 1 L)) count1 ∙ then_yes _ _ (fault_yes 22 _ (le-leb (length trits) 125536 p.length_high))
      ∙ fault_yes 23 _ (le-leb 1 (length trits) p.length_low))
      l.1 (ap₂ contents_fault1 count1 contents1 ∙ sound1 trits H p)

  passes2 : fault2 trits rest1 ≡ 0
  unfolding fault2 section2 bytes
  passes2 =
      let l = long_enough (length H) (bytes 2 H) rest2 (size2 trits) full2 in
      let k : count_of rest1 ≡ length H = count_back (length H) (bytes 2 H) rest2 (omega (arith, p.length_high, p.paired, count_le 2 trits)) in
      section_passes _ (size2 trits) _ rest1 l.0 (fault_yes 24 _ (eq-eqb (count_of rest1) (count_in 2 trits) (k ∙ p.paired))) l.1
      (fault_yes 24 _ (ap (shadows_seen trits) contents2 ∙ p.seen))

  pub image_passes : check_image b ≡ 0
  unfolding check_image
  image_passes =
      then_yes _ _ passes1
      ∙ (λ i. fault2 (trits_of_image i) (after1_image i) then check_given (given (trits_of_image i) (shadows_of_image i)) (after2_image i))
      ∙ then_yes _ _ passes2 ∙ given_passes (given trits H) (given_small trits H p)

-- ---- and whatever is passed is such an image

-- bytes that keep section 1's rules are the trytes of their trits
pub trytes_untrytes : (L : ℕ) (bs : List ℕ) → length bs ≡ up L 5 → bytes_low bs ≡ true → padded L bs ≡ true → trytes (untrytes L bs) ≡ bs
unfolding trytes untrytes bytes_low padded
trytes_untrytes L bs len low pad =
    let S : List ℕ = spread 3 5 bs in
    let lS : length S ≡ 5 * length bs = length_spread 3 5 bs in
    gather_pad 3 5 (lit< tt) (lit< tt) S L (omega (arith, le_up L 5 (lit< tt)))
    (sym (ap (λ (k : ℕ). up k 5) lS ∙ up_mul 5 (length bs) (lit< tt) ∙ len))
    (λ p l. zeros p l (dec_le (suc p) (length S)))
    ∙ gather_spread 3 5 (lit< tt) (lit< tt) bs (λ i l. omega (arith, leb-true (get_or bs i 0) 242 (every_at (λ x. leb x 242) bs low i 0 l)))
  where
    zeros : (p : ℕ) → L ≤ p → Dec (suc p ≤ length (spread 3 5 bs)) → get_or (spread 3 5 bs) p 0 ≡ 0
    zeros p l (no f) = get_or-eq_default (spread 3 5 bs) 0 (omega arith)
    zeros p l (yes h) =
        let e : L + (p - L) ≡ p = omega arith in
        let z : get_or (drop L (spread 3 5 bs)) (p - L) 0 ≡ get_or (spread 3 5 bs) p 0 = get_or-drop L (spread 3 5 bs) (p - L) 0 ∙ ap (λ (k : ℕ). get_or (spread 3 5 bs) k 0) e in
        sym z ∙ sym (eqb-true 0 (get_or (drop L (spread 3 5 bs)) (p - L) 0) (every_at (eqb 0) (drop L (spread 3 5 bs)) pad (p - L) 0 (omega (arith, length-drop L (spread 3 5 bs)))))

pub length_untrytes : (L : ℕ) (bs : List ℕ) → length bs ≡ up L 5 → length (untrytes L bs) ≡ L
unfolding untrytes
length_untrytes L bs e = length-take-le L (spread 3 5 bs) (omega (arith, length_spread 3 5 bs, le_up L 5 (lit< tt)))

pub trits_untrytes : (L : ℕ) (bs : List ℕ) → Below 3 (untrytes L bs)
unfolding untrytes
trits_untrytes L bs = below_take 3 L (spread 3 5 bs) (below_spread 3 5 (lit< tt) (lit< tt) bs)

pub record Sound (b : List ℕ) : Type 0 where
  pub proper : ProperTrits (trits_of b) (shadows_of b)
  pub same : b ≡ image (trits_of b) (shadows_of b)

pub image_passed : (b : List ℕ) → Below 256 b → check_image b ≡ 0 → Sound b
unfolding check_image fault1 fault2 contents_fault1 image trits_of shadows_of after2 section1 section2 from_bytes untrytes
image_passed b low e =
    let z1 = then_zero (fault1 b) _ e in
    let z2 = then_zero (fault2 (trits_of b) (after1 b)) _ z1.1 in
    let L : ℕ = count_of b in
    let bs : List ℕ = contents_of (size1 b) b in
    let trits : List ℕ = trits_of b in
    let b2 : List ℕ = after1 b in
    let low2 : Below 256 b2 = below_rest (size1 b) b low in
    let r1 = section_passed _ (size1 b) (contents_fault1 L bs) b low z1.0 in
    let r2 = section_passed _ (size2 trits) _ b2 low2 z2.0 in
    let k : ℕ = count_in 2 trits in
    let bs2 : List ℕ = contents_of (size2 trits) b2 in
    let H : List ℕ = shadows_of b in
    let c1 = then_zero (fault 22 (leb L 125536)) (fault 23 (leb 1 L)) r1.counted in
    let s1 = then_zero _ _ r1.sound in
    let s2 = then_zero _ _ s1.1 in
    let s3 = then_zero _ _ s2.1 in
    let s4 = then_zero _ _ s3.1 in
    let s5 = then_zero _ _ s4.1 in
    let lL : length trits ≡ L = length_untrytes L bs r1.full in
    let lH : length H ≡ k = length_gather 256 2 bs2 ∙ ap (λ (x : ℕ). up x 2) r2.full ∙ up_mul 2 k (lit< tt) in
    let ek : count_of b2 ≡ k = eqb-true (count_of b2) k (fault_zero 24 _ (lit< tt) r2.counted) in
    let eT : trytes trits ≡ bs = trytes_untrytes L bs r1.full (fault_zero 23 _ (lit< tt) s1.0) (fault_zero 23 _ (lit< tt) s2.0) in
    let eB : bytes 2 H ≡ bs2 = bytes_from_bytes 2 bs2 k (lit< tt) (below_contents (size2 trits) b2 low2) r2.full in
    let eR : after2 b ≡ written (given trits H) = given_passed (given trits H) (after2 b) (below_rest (size2 trits) b2 low2) z2.1 in
    let e2 : b2 ≡ le_bytes 4 (length H) ++ (bytes 2 H ++ written (given trits H)) =
    r2.whole ∙ ap₂ (λ (x : ℕ) (y : List ℕ). le_bytes 4 x ++ y) (ek ∙ sym lH) (ap₂ (λ (x y : List ℕ). x ++ y) (sym eB) eR) in
    record {
      proper = record {
        threes = trits_untrytes L bs;
        length_low = subst (λ (x : ℕ). 1 ≤ x) (sym lL) (leb-true 1 L (fault_zero 23 (leb 1 L) (lit< tt) c1.1));
        length_high = subst (λ (x : ℕ). x ≤ 125536) (sym lL) (leb-true L 125536 (fault_zero 22 (leb L 125536) (lit< tt) c1.0));
        roots_are_first = fault_zero 23 _ (lit< tt) s3.0;
        is_balanced = fault_zero 23 _ (lit< tt) s4.0;
        is_grown = fault_zero 23 _ (lit< tt) s5.0;
        in_limits = fault_zero 22 _ (lit< tt) s5.1;
        paired = lH;
        seen = fault_zero 24 _ (lit< tt) r2.sound;
      };
      same = r1.whole ∙ ap₂ (λ (x : ℕ) (y : List ℕ). le_bytes 4 x ++ y) (sym lL) (ap₂ (λ (x y : List ℕ). x ++ y) (sym eT) e2);
    }
