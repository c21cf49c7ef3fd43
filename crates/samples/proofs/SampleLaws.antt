-- Samples one after the other: a step's trytes are counted on from the sample before, and its pair is put behind the pairs before. Assumes nothing.
use Prim.Native.Nat.{ℕ, ◌+◌, ◌-◌, ◌*◌, ◌/◌, ◌%◌, ◌≤◌, ◌<◌}
use native.Mathlib.Nat.{zero-add, add-zero, sub-zero, add_assoc, mul_assoc, mul_comm, mul-add, mul-one, mul-suc, mul-le-mul_left, mul-div-le, mul-div-mul_left, div-add-mod, mod-add-mod, mod_self, mod-eq_of_lt, zero-mod}
use native.Mathlib.Omega.{arith}
use native.Mathlib.Numerals.{add-one}
use mathlib.Core.Path.{◌≡◌, refl, sym, ap, ap₂, ◌∙◌, subst}
use mathlib.Core.List.{List, [], ◌∷◌, ◌++◌, append-nil, append_assoc, map, map-append}
use lib.Dec.{lit<, lit≤}
use lib.ListN.{length, get_or, take, drop, length-take, length-drop, length-append}
use lib.Seq.{take-append-le, drop-append-le, take-append_seam, drop-append-add, ext_get_or, get_or-take, get_or-drop}
use Rattle.format.specs.Lists.{run, each, join, low_digits, spread, up}
use Rattle.format.specs.Trits.{rank, trytes, tryte_count, tryte_table}
use Rattle.format.specs.Image.{le_bytes, bytes, pair, pairs, last_multiple, section6}
use Rattle.format.proofs.Laws.{rank_le, run_snoc, join_append, length_run}
use Rattle.format.proofs.Digits.{gather_at, horner_lt, below_block, length_digits, length_block, length_blocks, lt_up}
use Rattle.format.proofs.Select.{rank_tryte}
use Rattle.format.proofs.Tryte.{tryte_entry}
use Rattle.format.proofs.Sizes.{length_trytes, length_bytes, length_pairs}
use Rattle.format.proofs.ImageReads.{pairs_at}
use Rattle.trits.specs.declared.Ranks.{Ranks}
use Rattle.trits.specs.Search.{front_of}
use Rattle.little.specs.Put.{put_at}
use Rattle.little.proofs.Laws.{put_more, put_before, bytes_append}
use Rattle.samples.specs.declared.Counts.{Counts}
use Rattle.samples.specs.Lent.{TritsIn, TritsAt}
use Rattle.samples.specs.Samples.{Sampling, far, middle, near, sample_section, Paced, Plan, CountedFrom, Counting, Step}

-- ---- one tryte

module _ {trits bs : List ℕ} (T : TritsIn trits bs) (i : ℕ) (l : 5 * i + 5 ≤ length trits) where
  held : i < up (length trits) 5
  held = lt_up (length trits) 5 (lit< tt) i (omega arith)

  inside : i < length bs
  inside = omega (arith, held, length_trytes trits, ap length T.trytes_are)

  low : get_or bs i 0 < 243
  unfolding trytes
  low =
      let b : List ℕ = take 5 (drop (5 * i) trits) in
      rw T.trytes_are (omega (arith, gather_at 3 5 trits i held, horner_lt 3 5 b (lit< tt) (below_block 3 5 (lit< tt) (lit< tt) trits T.threes i) (length_block 3 5 (lit< tt) (lit< tt) trits i)))

  -- it can be looked up, and the counts are small
  pub tryte_room : {start zeros ones : ℕ} → CountedFrom trits start (5 * i) zeros ones → (i < length bs) × (get_or bs i 0 < 243) × (zeros ≤ 125536) × (ones ≤ 125536)
  tryte_room c = (inside, low, omega (arith, T.few, c.zeros_are, rank_le 0 trits (5 * i)), omega (arith, T.few, c.ones_are, rank_le 1 trits (5 * i)))

  -- rank grows by the tryte's count
  rank_on : (t : ℕ) → rank t trits (5 * (i + 1)) ≡ rank t trits (5 * i) + tryte_count t (get_or bs i 0) 5
  rank_on t =
      let e : 5 * (i + 1) ≡ 5 * i + 5 = omega arith in
      rw (T.trytes_are, e) (rank_tryte t trits T.threes i 5 (lit≤ tt) l)

  -- a table entry's zeros and ones
  pub count_on : {table : List ℕ} → table ≡ tryte_table → {x e start zeros ones : ℕ} → x ≡ get_or bs i 0 → e ≡ get_or table x 0
      → CountedFrom trits start (5 * i) zeros ones → CountedFrom trits start (5 * (i + 1)) (zeros + e % 8) (ones + e / 8)
  unfolding tryte_count rank
  count_on {table} is {x} ex ee c =
      let entry : get_or table x 0 ≡ tryte_count 0 x 5 + 8 * tryte_count 1 x 5 = ap (λ (l : List ℕ). get_or l x 0) is ∙ tryte_entry x (omega (arith, low)) in
      let few : tryte_count 0 x 5 ≤ 5 = rank_le 0 (low_digits 3 5 x) 5 in
      let on : (t : ℕ) → rank t trits (5 * (i + 1)) ≡ rank t trits (5 * i) + tryte_count t x 5 = rw ex rank_on in
      record { zeros_are = omega (arith, entry, on 0, c.zeros_are); ones_are = omega (arith, entry, on 1, c.ones_are) }

  -- the same by its ranks
  count_front : {x start zeros ones : ℕ} {more : Ranks} → x ≡ get_or bs i 0 → more ≡ front_of x 5
      → CountedFrom trits start (5 * i) zeros ones → CountedFrom trits start (5 * (i + 1)) (zeros + more.zeros) (ones + more.ones)
  count_front {x} ex em c =
      let on : (t : ℕ) → rank t trits (5 * (i + 1)) ≡ rank t trits (5 * i) + tryte_count t x 5 = rw ex rank_on in
      rw em (record { zeros_are = omega (arith, on 0, c.zeros_are); ones_are = omega (arith, on 1, c.ones_are) })

-- what is put from `at` on leaves section 1 as it was
pub trits_stay : {trits old image : List ℕ} {a e at : ℕ} (vs : List ℕ) → TritsAt trits old a e at → at ≤ length old → image ≡ put_at old at vs → TritsIn trits (take (e - a) (drop a image))
trits_stay {old = old} {a = a} {e} {at} vs T fits put = rw (put, put_before a (e - a) at old vs (omega (arith, T.rises, T.before)) fits) T.trits_in

-- ---- an image, cut where a section's contents start

pub record Cut (at : ℕ) (image front out : List ℕ) : Type 0 where
  pub whole : image ≡ front ++ out
  pub seam : length front ≡ at

module _ {at : ℕ} {image front out : List ℕ} (C : Cut at image front out) where
  -- what lies before the cut
  pub cut_before : (a n : ℕ) → a + n ≤ at → take n (drop a front) ≡ take n (drop a image)
  cut_before a n h =
      rw (C.whole, drop-append-le a front out (omega (arith, C.seam)))
      (sym (take-append-le n (drop a front) out (omega (arith, C.seam, length-drop a front))))

  pub cut_trits : {trits : List ℕ} {a e : ℕ} → TritsAt trits image a e at → TritsIn trits (take (e - a) (drop a front))
  cut_trits {a = a} {e} T = rw (cut_before a (e - a) (omega (arith, T.rises, T.before))) T.trits_in

  -- what is put behind it
  pub cut_put : {new : List ℕ} (vs : List ℕ) → new ≡ put_at out 0 vs → front ++ new ≡ put_at image at vs
  cut_put vs e = rw (C.whole, ← C.seam, take-append_seam, drop-append-add, e, zero-add) (simp append_assoc)

  pub cut_plan : {step fan width L : ℕ} → Plan step fan width L at image → Plan step fan width L 0 out
  cut_plan P = record { paced = P.paced; room = omega (arith, P.room, C.seam, ap length C.whole, length-append front out) }

-- ---- one sample

-- counting begins anew at the last multiple of fan steps
last_steps : (step fan q : ℕ) → 0 < step → last_multiple (step * fan) (step * q) ≡ step * (q - q % fan)
last_steps step fan q pos =
    let e : fan * (q / fan) ≡ q - q % fan = omega (arith, div-add-mod q fan) in
    rw (mul-div-mul_left q fan pos, mul_assoc, e)

abbrev pub none : Counts
none = record { zeros = 0; ones = 0; steps = 0 }

pub counting_anew : {trits : List ℕ} {step fan q : ℕ} → 0 < fan → q % fan ≡ 0 → Counting trits step fan q none
counting_anew pos e =
    record { steps_are = sym e; below = pos; counted = rw sub-zero (record { zeros_are = sym (add-zero _); ones_are = sym (add-zero _) }) }

-- the sample behind it: after fan steps anew, and else one step more
module _ {trits : List ℕ} {step fan q : ℕ} {c : Counts} (C : Counting trits step fan q c) where
  next_steps : (q + 1) % fan ≡ (c.steps + 1) % fan
  next_steps = rw C.steps_are (sym (mod-add-mod q fan 1))

  pub steps_full : c.steps + 1 ≡ fan → (q + 1) % fan ≡ 0
  steps_full e = next_steps ∙ rw e (mod_self fan)

  counting_on : {d : Counts} → (c.steps + 1 ≡ fan → ⊥) → d.steps ≡ c.steps + 1 → CountedFrom trits (step * (q - c.steps)) (step * (q + 1)) d.zeros d.ones
      → Counting trits step fan (q + 1) d
  counting_on n ed h =
      let e : q + 1 - (c.steps + 1) ≡ q - c.steps = omega arith in
      record { steps_are = ed ∙ sym (next_steps ∙ mod-eq_of_lt (omega (arith, C.below))); below = omega (arith, C.below); counted = rw (ed, e) h }

  -- the pair of sample q
  pub pair_is : 0 < step → pair trits (last_multiple (step * fan)) (step * q) ≡ c.zeros ∷ c.ones ∷ []
  unfolding pair
  pair_is pos =
      let e : last_multiple (step * fan) (step * q) ≡ step * (q - c.steps) = rw C.steps_are (last_steps step fan q pos) in
      rw e (ap₂ (λ (x y : ℕ). x ∷ y ∷ []) (omega (arith, C.counted.zeros_are)) (omega (arith, C.counted.ones_are)))

-- a step by its trytes
module _ {trits bs : List ℕ} {many fan q : ℕ} {c : Counts} (S : Step trits bs many fan q c) where
  pub step_begins : CountedFrom trits (5 * many * (q - c.steps)) (5 * (many * q)) c.zeros c.ones
  step_begins = rw (← mul_assoc 5 many q) S.counting.counted

  pub step_room : many * q + many ≤ length bs
  step_room = omega (arith, S.inside, length_trytes trits, ap length S.trits_in.trytes_are)

  -- tryte i of the step, which is x
  module _ {i x zeros ones : ℕ} (l : i < many) (ex : x ≡ get_or bs (many * q + i) 0)
      (h : CountedFrom trits (5 * many * (q - c.steps)) (5 * (many * q + i)) zeros ones) where
    pub step_low : (x < 243) × (zeros ≤ 125536) × (ones ≤ 125536)
    step_low = let r = tryte_room S.trits_in (many * q + i) (omega (arith, S.inside)) h in rw ex (r.1, r.2, r.3)

    pub step_more : {more : Ranks} → more ≡ front_of x 5 → CountedFrom trits (5 * many * (q - c.steps)) (5 * (many * q + (i + 1))) (zeros + more.zeros) (ones + more.ones)
    step_more em = rw (← add_assoc) (count_front S.trits_in (many * q + i) (omega (arith, S.inside)) ex em h)

  pub step_ends : {i : ℕ} {d : Counts} → (c.steps + 1 ≡ fan → ⊥) → d.steps ≡ c.steps + 1 → i ≡ many → CountedFrom trits (5 * many * (q - c.steps)) (5 * (many * q + i)) d.zeros d.ones
      → Counting trits (5 * many) fan (q + 1) d
  step_ends {i} n ed ei h =
      let e : 5 * many * (q + 1) ≡ 5 * (many * q + i) = rw (ei, mul_assoc, mul-add, mul-one) in
      counting_on S.counting n ed (rw e h)

-- a part of n entries
pub part_size : (l : List ℕ) (a n : ℕ) → a + n ≤ length l → length (take (a + n - a) (drop a l)) ≡ n
part_size l a n h = omega (arith, length-take (a + n - a) (drop a l), length-drop a l)

pub in_part : (l : List ℕ) (a n i : ℕ) → i < length (take (a + n - a) (drop a l)) → (i < n) × (get_or (take (a + n - a) (drop a l)) i 0 ≡ get_or l (a + i) 0)
in_part l a n i h =
    let lt : i < a + n - a = omega (arith, length-take (a + n - a) (drop a l)) in
    (omega arith, get_or-take (a + n - a) (drop a l) i 0 lt ∙ get_or-drop a l i 0)

-- ---- the pairs, one behind the other

-- the pairs before sample q
pub pairs_to : ℕ → (ℕ → ℕ) → List ℕ → ℕ → List ℕ
pairs_to step from trits q = join (each q (λ q. pair trits from (step * q)))

pairs_to_more : (step : ℕ) (from : ℕ → ℕ) (trits : List ℕ) (q : ℕ) → pairs_to step from trits (q + 1) ≡ pairs_to step from trits q ++ pair trits from (step * q)
unfolding pairs_to
pairs_to_more step from trits q =
    ap (λ (l : List ℕ). join (map (λ q. pair trits from (step * q)) l)) (ap (run 0) (add-one q) ∙ run_snoc 0 q) ∙ simp (map-append, join_append, append-nil, zero-add)

length_pairs_to : (step : ℕ) (from : ℕ → ℕ) (trits : List ℕ) (q : ℕ) → length (pairs_to step from trits q) ≡ 2 * q
unfolding pairs_to pair
length_pairs_to step from trits q = length_blocks 2 (λ q. pair trits from (step * q)) (λ q. refl) (run 0 q) ∙ ap (λ (k : ℕ). 2 * k) (length_run 0 q)

-- zeros put, then ones behind them
pub pair_put : (w at zeros ones : ℕ) (l : List ℕ) {m r : List ℕ} → at ≤ length l → m ≡ put_at l at (le_bytes w zeros) → r ≡ put_at m (at + w) (le_bytes w ones)
    → r ≡ put_at l at (bytes w (zeros ∷ ones ∷ []))
unfolding bytes spread
pair_put w at zeros ones l h ez eo = rw append-nil (put_more at (at + w) l (le_bytes w zeros) (le_bytes w ones) h (rw length_digits) ez eo)

-- ---- a section

pub paced : {i step fan width : ℕ} → Sampling i step fan width → Paced step fan width
paced far = record { trytewise = refl; steps = lit< tt; fans = lit< tt; widths = λ n _. absurd (n refl) }
paced middle = record { trytewise = refl; steps = lit< tt; fans = lit< tt; widths = λ _ n. absurd (n refl) }
paced near = record { trytewise = refl; steps = lit< tt; fans = lit< tt; widths = λ _ _. refl }

-- before the last sample a whole step follows
pub step_follows : {trits bs : List ℕ} {step fan width q L : ℕ} {c : Counts} → Paced step fan width → TritsIn trits bs → Counting trits step fan q c → length trits ≡ L → q < L / step
    → Step trits bs (step / 5) fan q c
step_follows {step = step} {q = q} {L} P T C n h =
    let m : ℕ = step / 5 in
    let s : 5 * (m * q + m) ≡ step * q + step = rw (mul-add 5, ← mul_assoc, P.trytewise) in
    record { trits_in = T; counting = rw P.trytewise C; inside = omega (arith, mul-le-mul_left step h, mul-suc step q, mul-div-le L step) }

-- the samples before q are put over the old contents, and c has the counts at sample q
pub record Sampled (trits : List ℕ) (step fan width q : ℕ) (c : Counts) (old out : List ℕ) : Type 0 where
  pub counting : Counting trits step fan q c
  pub done : out ≡ put_at old 0 (bytes width (pairs_to step (last_multiple (step * fan)) trits q))

module _ {step fan width L : ℕ} {old : List ℕ} (P : Plan step fan width L 0 old) where
  abbrev own : Paced step fan width
  own = P.paced

  -- sample q lies in the section
  pub sample_room : (q : ℕ) → q ≤ L / step → 2 * width * q + 2 * width ≤ length old
  sample_room q h =
      let w : ℕ = 2 * width in
      let e : width * (2 * (L / step + 1)) ≡ w * (L / step + 1) = rw (mul_comm 2 width, mul_assoc) in
      omega (arith, P.room, mul-le-mul_left w h, mul-add w (L / step) 1, mul-one w)

  pub sampled_none : {trits : List ℕ} → Sampled trits step fan width 0 none old old
  unfolding pairs_to bytes spread
  sampled_none = record { counting = counting_anew own.fans (zero-mod fan); done = refl }

  module _ {trits : List ℕ} {q : ℕ} {c : Counts} {out new : List ℕ} (S : Sampled trits step fan width q c old out)
      (put : new ≡ put_at out (2 * width * q) (bytes width (c.zeros ∷ c.ones ∷ []))) where
    more : new ≡ put_at old 0 (bytes width (pairs_to step (last_multiple (step * fan)) trits (q + 1)))
    more =
        let f : ℕ → ℕ = last_multiple (step * fan) in
        let seam : 2 * width * q ≡ 0 + length (bytes width (pairs_to step f trits q)) = rw (length_bytes, length_pairs_to, mul_comm 2 width, mul_assoc, zero-add) in
        rw (pairs_to_more step f trits q, pair_is S.counting own.steps, bytes_append) (put_more 0 _ old _ _ (omega arith) seam S.done put)

    pub sampled_next : {d : Counts} → Counting trits (5 * (step / 5)) fan (q + 1) d → Sampled trits step fan width (q + 1) d old new
    sampled_next C = record { counting = rw own.trytewise at C; done = more }

    pub sampled_all : length trits ≡ L → q ≡ L / step → new ≡ put_at old 0 (bytes width (pairs step (last_multiple (step * fan)) trits))
    unfolding pairs pairs_to
    sampled_all n e = rw (n, ← e) more

-- section 6 counts from the first place: from the last multiple of 131,450, which no place up to 125,536 reaches
pub far_pairs : (trits : List ℕ) → length trits ≤ 125536 → pairs 65725 (last_multiple (65725 * 2)) trits ≡ pairs 65725 (λ p. 0) trits
far_pairs trits h =
    let f : ℕ → ℕ = last_multiple (65725 * 2) in
    ext_get_or 0 (pairs 65725 f trits) (pairs 65725 (λ p. 0) trits) (length_pairs 65725 f trits ∙ sym (length_pairs 65725 (λ p. 0) trits))
    (λ i l.
    let q : ℕ = i / 2 in
    let lq : q < length trits / 65725 + 1 = omega (arith, length_pairs 65725 f trits) in
    let lt : i % 2 < 2 = omega arith in
    let e : f (65725 * q) ≡ 0 = omega arith in
    subst (λ (k : ℕ). get_or (pairs 65725 f trits) k 0 ≡ get_or (pairs 65725 (λ p. 0) trits) k 0) (div-add-mod i 2)
    (pairs_at 65725 f trits q (i % 2) lq lt ∙ rw e (sym (pairs_at 65725 (λ p. 0) trits q (i % 2) lq lt))))

pub far_section : (trits H : List ℕ) → length trits ≤ 125536 → sample_section 65725 2 4 trits ≡ section6 trits H
unfolding sample_section section6
far_section trits H few = λ i. record { entries = length trits / 65725 + 1; contents = bytes 4 (far_pairs trits few i) }
