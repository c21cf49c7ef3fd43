-- Sections 1 and 2, one tryte or one trit further. Assumes nothing.
use Rattle.std.specs.Prelude.{Some}
use mathlib.Core.Path.{◌≡◌, refl, sym, ap, ◌∙◌}
use mathlib.Core.List.{List, [], ◌∷◌, ◌++◌, append_assoc, append-nil}
use Prim.Native.Nat.{ℕ, ◌+◌, ◌*◌, ◌≤◌, ◌<◌}
use native.Mathlib.Omega.{arith}
use lib.ListN.{length, take, drop, set, length-append}
use lib.Seq.{drop-drop}
use Rattle.format.specs.Lists.{up, horner, spread}
use Rattle.format.specs.Level.{Walk, level_order, walk}
use Rattle.format.specs.Trits.{trytes}
use Rattle.format.specs.Image.{le_bytes, bytes}
use Rattle.format.proofs.Digits.{gather_at}
use Rattle.format.proofs.Sizes.{length_bytes}
use Rattle.format.proofs.Order.{counts}
use Rattle.format.proofs.Outcomes.{length_words}
use Rattle.little.specs.Put.{put_at}
use Rattle.little.proofs.Laws.{put_next}
use Rattle.packing.specs.Work.{graph_of}
use Rattle.packing.specs.Walked.{Walked}
use Rattle.packing.specs.Stream.{Rest, Wrote, Stepped, Took}
use Rattle.packing.specs.declared.stream.Cursor.{Cursor}
use Rattle.packing.specs.declared.stream.Trit.{Trit}
use Rattle.packing.specs.declared.stream.Trit.TheVariants.{End, Real, Shadow}
use Rattle.format.proofs.Over.{Over, over_next}
use Rattle.packing.proofs.RunLaws.{are_words, formed}

-- ---- section 1, after i trytes

pub record Putting (t : List ℕ) (n : ℕ) (old out : List ℕ) (c : Cursor) (i : ℕ) : Type 0 where
  pub written : Over (trytes (walk (graph_of t)).trits) (length old) old out i
  pub next : Walk
  pub trits : next.trits ≡ drop (5 * i) (walk (graph_of t)).trits
  pub rest : Rest t n next c

pub put_tryte : {t : List ℕ} {n : ℕ} {old out : List ℕ} {c : Cursor} {i : ℕ} → Putting t n old out c i → i < length old
    → length old ≡ up (length (walk (graph_of t)).trits) 5 → {x : ℕ} {d : Cursor} → ((left : Walk) → Rest t n left c → Took t n 5 left x d) → Putting t n old (set out i x) d (i + 1)
unfolding trytes
put_tryte {t} {i = i} p h l {x} said =
    let ts = (walk (graph_of t)).trits in
    let took = said p.next p.rest in
    let e : 5 * i + 5 ≡ 5 * (i + 1) = omega arith in
    record {
      written = over_next p.written h x (took.value ∙ ap (λ (a : List ℕ). horner 3 (take 5 a)) p.trits ∙ sym (gather_at 3 5 ts i (omega arith)));
      next = took.next;
      trits = took.trits ∙ ap (drop 5) p.trits ∙ drop-drop 5 (5 * i) ts ∙ ap (λ (j : ℕ). drop j ts) e;
      rest = took.rest;
    }

-- ---- section 2, after some trits

-- a table has one word more than trits
pub length_trits : {t : List ℕ} {n : ℕ} {work : List ℕ} → Walked t n work → length t ≡ length (walk (graph_of t)).trits + 1
unfolding level_order
length_trits {t} k =
    omega (
      arith,
      (counts (graph_of t) (record { formed = formed k.sized; all_reached = sym k.held.tail_is ∙ sym k.sized.many })).size,
      length_words (graph_of t),
      ap length (are_words k.sized),
    )

-- the shadows `done` stand in the first p bytes
pub record Shadowing (t : List ℕ) (n : ℕ) (out : List ℕ) (c : Cursor) (p : ℕ) : Type 0 where
  pub size : length out ≡ 2 * length (walk (graph_of t)).shadows
  pub done : List ℕ
  pub behind : List ℕ
  pub are : out ≡ bytes 2 done ++ behind
  pub place : p ≡ 2 * length done
  pub next : Walk
  pub split : (walk (graph_of t)).shadows ≡ done ++ next.shadows
  pub rest : Rest t n next c

pub shadows_none : {t : List ℕ} {n : ℕ} {c : Cursor} (out : List ℕ) → length out ≡ 2 * length (walk (graph_of t)).shadows → Rest t n (walk (graph_of t)) c
    → Shadowing t n out c 0
unfolding bytes spread
shadows_none {t} out l r = record { size = l; done = []; behind = out; are = refl; place = refl; next = walk (graph_of t); split = refl; rest = r }

module _ {t : List ℕ} {n : ℕ} {out : List ℕ} {c : Cursor} {p : ℕ} (s : Shadowing t n out c p) where
  -- a trit that writes the shadows H
  module _ {a : ℕ} {H : List ℕ} {d : Cursor} (w : Wrote t n a H s.next d) where
    pub room : p + 2 * length H ≤ length out
    room = omega (arith, s.size, s.place, ap length s.split, length-append s.done s.next.shadows, ap length w.shadows, length-append H w.next.shadows)

    moved : (out' : List ℕ) (p' : ℕ) (behind : List ℕ) → length out' ≡ length out → out' ≡ bytes 2 (s.done ++ H) ++ behind → p' ≡ p + 2 * length H
        → Shadowing t n out' d p'
    moved out' p' behind l e ep = record {
      size = l ∙ s.size;
      done = s.done ++ H;
      behind = behind;
      are = e;
      place = omega (arith, s.place, length-append s.done H);
      next = w.next;
      split = s.split ∙ ap (λ (x : List ℕ). s.done ++ x) w.shadows ∙ sym (append_assoc s.done H w.next.shadows);
      rest = w.rest;
    }

  pub no_shadow : {a : ℕ} {d : Cursor} → Wrote t n a [] s.next d → Shadowing t n out d p
  no_shadow w = moved w out p s.behind refl (s.are ∙ ap (λ (x : List ℕ). bytes 2 x ++ s.behind) (sym (append-nil s.done))) (omega arith)

  pub other_trit : (r : Trit) {d : Cursor} → ((h : ℕ) → r ≡ Shadow h → ⊥) → Stepped t n s.next (Some r) d → Shadowing t n out d p
  other_trit End o w = no_shadow w
  other_trit Real o w = no_shadow w
  other_trit (Shadow h) o w = absurd (o h refl)

  pub one_shadow : {h : ℕ} {d : Cursor} → Wrote t n 2 (h ∷ []) s.next d → (out' : List ℕ) → length out' ≡ length out → out' ≡ put_at out p (le_bytes 2 h)
      → Shadowing t n out' d (p + 2)
  one_shadow {h} w out' l e = moved w out' (p + 2) (drop 2 s.behind) l (e ∙ put_next 2 h p out [] s.done s.behind s.are (omega (arith, s.place))) (omega arith)

  none : (l : List ℕ) → length l ≡ 0 → l ≡ []
  none [] e = refl
  none (x ∷ l) e = absurd (omega arith)

  -- no shadow is left
  pub all_shadows : s.next.shadows ≡ [] → out ≡ bytes 2 (walk (graph_of t)).shadows
  all_shadows e =
      let H = (walk (graph_of t)).shadows in
      let d : H ≡ s.done = s.split ∙ ap (λ (x : List ℕ). s.done ++ x) e ∙ append-nil s.done in
      let b : s.behind ≡ [] = none s.behind (omega (arith, s.size, ap length s.are, length-append (bytes 2 s.done) s.behind, length_bytes 2 s.done, ap length d)) in
      s.are ∙ ap (λ (x : List ℕ). bytes 2 s.done ++ x) b ∙ append-nil (bytes 2 s.done) ∙ ap (bytes 2) (sym d)
