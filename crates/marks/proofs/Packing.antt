-- The loop that packs a chunk's text into a buffer: its invariant, `Packed`, and that a turn keeps
-- it. Assumes nothing.
use mathlib.Core.Path.{◌≡◌, refl, ◌∙◌, subst}
use mathlib.Core.List.{List, [], ◌∷◌}
use Prim.Native.Nat.{ℕ, ◌+◌, ◌≤◌, ◌<◌}
use native.Mathlib.Omega.{arith}
use lib.ListN.{length, get_or, take, set, length-set}
use lib.Seq.{take_all}
use Rattle.text.specs.Writing.{Wrote}
use Rattle.text.proofs.Pieces.{wrote_none, wrote_byte, wrote_more}
use Rattle.marks.specs.Marks.{text_of}
use Rattle.marks.proofs.Laws.{skipped, kept}

module _ (w before : List ℕ) where
  pub record Packed (after : List ℕ) (n i : ℕ) : Type 0 where
    pub within : i ≤ length w
    pub few : n ≤ i
    pub room : length w ≤ length before
    pub same : length after ≡ length before
    pub wrote : Wrote before 0 (text_of (take i w)) after n

  pub begun : length w ≤ length before → Packed before 0 0
  unfolding text_of
  begun h = record { within = omega arith; few = omega arith; room = h; same = refl; wrote = wrote_none before 0 }

  module _ (after : List ℕ) (n i : ℕ) (p : Packed after n i) (h : i < length w) where
    pub passed : get_or w i 0 ≡ 255 → Packed after n (i + 1)
    passed e = record {
      within = omega arith;
      few = omega (arith, p.few);
      room = p.room;
      same = p.same;
      wrote = subst (λ (t : List ℕ). Wrote before 0 t after n) (skipped w i h e) p.wrote;
    }

    pub put : (get_or w i 0 ≡ 255 → ⊥) → Packed (set after n (get_or w i 0)) (n + 1) (i + 1)
    put ne =
        let text = text_of (take i w) in
        let fits : 0 + length text ≤ length before = omega (arith, p.wrote.ends, p.few, p.room) in
        record {
          within = omega arith;
          few = omega (arith, p.few);
          room = p.room;
          same = length-set after n (get_or w i 0) ∙ p.same;
          wrote =
              subst (λ (t : List ℕ). Wrote before 0 t (set after n (get_or w i 0)) (n + 1)) (kept w i h ne)
              (wrote_more before 0 text (get_or w i 0 ∷ []) fits after (set after n (get_or w i 0)) n (n + 1) p.wrote
              (wrote_byte after n (get_or w i 0) (omega (arith, p.same, p.few, p.room))));
        }

  pub whole : (after : List ℕ) (n i : ℕ) → Packed after n i → length w ≤ i → Wrote before 0 (text_of w) after n
  whole after n i p h = subst (λ (t : List ℕ). Wrote before 0 (text_of t) after n) (take_all i w h) p.wrote
