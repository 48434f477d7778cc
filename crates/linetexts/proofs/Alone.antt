-- What is written to a text of lines that stand alone are their answers. Assumes nothing.
--
--   answered, answered_lines    every text is answered right
--   line_put, stray_put         the answer to a line that is held was written
use mathlib.Core.Path.{◌≡◌, refl, ap, ◌∙◌, subst}
use mathlib.Core.List.{List, [], ◌∷◌, ◌++◌, flatten}
use mathlib.Core.Bool.{true, false}
use Prim.Native.Nat.{ℕ, ◌+◌, ◌<◌}
use lib.ListN.{length, take}
use Rattle.lines.specs.Splitting.{lines_of}
use Rattle.longlines.specs.declared.Held.{Held}
use Rattle.longlines.specs.declared.Seen.{Seen}
use Rattle.longlines.specs.Holding.{seen_of}
use Rattle.longlines.proofs.Standing.{by_bytes, by_stray}
use Rattle.text.specs.Writing.{Wrote}
use Rattle.linetexts.specs.Feeding.{Outcome, LineMachine}
use Rattle.linetexts.specs.Beginnings.{KeepsLine, held_step}
use Rattle.linetexts.specs.Claims.{lines_step, KeepsLines}
use Rattle.linetexts.specs.Functions.{Promised, Ended}
use Rattle.linetexts.specs.Alone.{alone, answer_teller, answering, answers_to, Answers}
use Rattle.linetexts.proofs.Whole.{whole, written_is}
use Rattle.linetexts.proofs.Beginnings.{keeps_lines, told_longest}
use Rattle.linetexts.proofs.Functions.{all_written}

module _ {K : Type 0} (m : LineMachine K (Unit {0})) (answer : List ℕ → List ℕ) (by : m.step ≡ alone answer) where
  answers : (ls : List (List ℕ)) → (lines_step m tt ls).text ≡ answers_to answer ls
  unfolding lines_step answers_to
  answers [] = refl
  answers (l ∷ ls) =
      ap (λ (f : Unit {0} → List ℕ → Outcome (Unit {0})). (f tt l).text ++ (lines_step m (f tt l).state ls).text) by
      ∙ ap (λ (t : List ℕ). answer l ++ t) (answers ls)

  pub answered : {Keeps : K → List ℕ → Type 0} → KeepsLines m Keeps → Answers m answer Keeps
  answered keeps = record {
    whole = λ blocks k begun. ap (λ (o : Outcome (Unit {0})). o.text) (whole m keeps blocks tt k begun) ∙ answers (lines_of (flatten blocks));
    written = λ {s} {blocks} {k} {text} begun b. written_is m keeps begun b ∙ answers (lines_of (flatten blocks));
    fed = λ {s} {blocks} {k} {text} {before} {after} {n} begun f end.
        all_written m (Promised m) (λ s t before block after at next written may. may) keeps (Ended m) (λ s before after written may. may) begun f end
        ∙ answers (lines_of (flatten blocks));
  }

-- ---- lines of which every one that is too long has the same answer
module _ (answer : List ℕ → List ℕ) (bad : List ℕ) (longest most : ℕ) (same : (w : List ℕ) → longest < length w → answer w ≡ bad) where
  pub told_answers : KeepsLines (answering answer bad longest most) (KeepsLine (longest + 1))
  told_answers =
      keeps_lines (answer_teller answer bad longest most)
      (λ j. told_longest longest (alone answer j) (record { text = bad; state = j }) (λ w long. ap (λ (t : List ℕ). record { text = t; state = j }) (same w long)))

  pub answered_lines : Answers (answering answer bad longest most) answer (KeepsLine (longest + 1))
  answered_lines = answered (answering answer bad longest most) answer refl told_answers

-- ---- for functions: the answer to a line that is held
module _ (answer : List ℕ → List ℕ) (bad : List ℕ) (longest most : ℕ) (line : List ℕ) (held : Held) (seen : Seen) (is : seen ≡ seen_of line held) {before after : List ℕ} {at end : ℕ} where
  pub line_put : seen.hex ≡ true → Wrote before at (answer (take seen.length line)) after end
      → Wrote before at (held_step (answering answer bad longest most) tt line held).text after end
  line_put hex wrote =
      subst (λ (o : Outcome (Unit {0})). Wrote before at o.text after end) (by_bytes (alone answer tt) (record { text = bad; state = tt }) line held seen is hex) wrote

  pub stray_put : seen.hex ≡ false → Wrote before at bad after end
      → Wrote before at (held_step (answering answer bad longest most) tt line held).text after end
  stray_put hex wrote =
      subst (λ (o : Outcome (Unit {0})). Wrote before at o.text after end) (by_stray (alone answer tt) (record { text = bad; state = tt }) line held seen is hex) wrote
