-- What the functions do with a line that is held is what the definitions say. Assumes nothing.
--
--   read_within, read_whole     how many bytes stand for it
--   ask_inside, run_inside      the bytes that it carries are inside them
--   verdict_came, ask_came, run_came   what comes of one that asks, and of one that is run
--   verdict_text, ask_text, run_text   the same of the answer alone
use mathlib.Core.Path.{◌≡◌, sym, ap, ◌∙◌, subst}
use mathlib.Core.Bool.{Bool, false}
use mathlib.Core.List.{List}
use Prim.Native.Nat.{ℕ, ◌≤◌}
use lib.ListN.{length, take}
use lib.Seq.{length-take-le}
use Rattle.text.specs.Writing.{Wrote}
use Rattle.calls.specs.declared.Judge.{Judge}
use Rattle.calls.specs.Replies.{judged}
use Rattle.calls.specs.mirror.Steps.{report_of}
use Rattle.calltext.specs.declared.Line.{Line}
use Rattle.calltext.specs.Meaning.{malformed, line_means, bytes_from}
use Rattle.calltext.specs.Answers.{replied, response_text}
use Rattle.questions.specs.declared.Query.{Query}
use Rattle.questions.specs.declared.TextLine.{TextLine}
use Rattle.questions.specs.declared.TextLine.TheVariants.{Verdict, Asks, Runs}
use Rattle.questions.specs.Meaning.{recorded, meaning_in, query_means, query_from, text_means, text_from}
use Rattle.longlines.specs.declared.Held.{Held}
use Rattle.longlines.specs.Holding.{held_meaning as held_by}
use Rattle.longlines.proofs.Standing.{meaning_on}
use Rattle.linetexts.specs.Feeding.{Outcome}
use Rattle.linetexts.specs.Beginnings.{held_step}
use Rattle.linetexts.specs.Lists.{Listed, list_of, skips_held}
use Rattle.linetexts.proofs.Lists.{run_held}
use Rattle.linebuffer.specs.declared.ReadLine.{ReadLine}
use Rattle.linebuffer.specs.Meanings.{line_told, held_meaning, HeldAs}
use Rattle.stream.specs.Texts.{call_list, call_lines}

held_as : (j : Judge) (line : List ℕ) (held : Held) → line_told j (held_meaning line held) ≡ held_by (call_list.step j) (call_list.stray j) line held
held_as j line held = meaning_on (line_told j) meaning_in (recorded malformed) line held

-- ---- the bytes that a line carries
module _ (line : List ℕ) (held : Held) (r : ReadLine) (read : HeldAs line held r) where
  pub read_within : r.length ≤ length line
  read_within = read.within

  pub read_whole : r.length ≡ length (take r.length line)
  read_whole = sym (length-take-le r.length line read.within)

  pub ask_inside : (q : Query) → r.line ≡ Asks q → query_from q ≤ length (take r.length line)
  ask_inside q e = subst (λ (x : TextLine). text_from x ≤ length (take r.length line)) e read.inside

  pub run_inside : (x : Line) → r.line ≡ Runs x → bytes_from x ≤ length (take r.length line)
  run_inside x e = subst (λ (y : TextLine). text_from y ≤ length (take r.length line)) e read.inside

-- ---- what comes of it: `b` is what `skips` answered
module _ (j : Judge) (ended : Bool) (line : List ℕ) (held : Held) (b : Bool) (tested : b ≡ skips_held ended line held) where
  abbrev came_of : Outcome (Listed Judge)
  came_of = held_step call_lines (list_of j ended) line held

  module _ (left : b ≡ false) (r : ReadLine) (read : HeldAs line held r) where
    read_as : (x : TextLine) → r.line ≡ x → came_of ≡ line_told j (text_means (take r.length line) x)
    read_as x e =
        sym (run_held call_list j ended line held b tested left)
        ∙ sym (held_as j line held)
        ∙ ap (line_told j) (read.means ∙ ap (text_means (take r.length line)) e)

    left_as : (o : Outcome (Listed Judge)) → came_of ≡ o → (s : Listed Judge) → s ≡ o.state → came_of ≡ record { text = o.text; state = s }
    left_as o e s l = e ∙ ap (λ (x : Listed Judge). record { text = o.text; state = x }) (sym l)

    text_as : (o : Outcome (Listed Judge)) → came_of ≡ o → (out last : List ℕ) (end : ℕ) → Wrote out 0 o.text last end → Wrote out 0 came_of.text last end
    text_as o e out last end wrote = subst (λ (x : Outcome (Listed Judge)). Wrote out 0 x.text last end) (sym e) wrote

    module _ (e : r.line ≡ Verdict) where
      pub verdict_came : came_of ≡ record { text = response_text (replied (judged (report_of j))); state = list_of j false }
      verdict_came = read_as Verdict e

      pub verdict_text : (out last : List ℕ) (end : ℕ) → Wrote out 0 (response_text (replied (judged (report_of j)))) last end
          → Wrote out 0 came_of.text last end
      verdict_text = text_as _ (read_as Verdict e)

    module _ (q : Query) (e : r.line ≡ Asks q) where
      pub ask_came : (after : Bool) → list_of j after ≡ (line_told j (query_means (take r.length line) q)).state
          → came_of ≡ record { text = (line_told j (query_means (take r.length line) q)).text; state = list_of j after }
      ask_came after = left_as _ (read_as (Asks q) e) (list_of j after)

      pub ask_text : (out last : List ℕ) (end : ℕ) → Wrote out 0 (line_told j (query_means (take r.length line) q)).text last end
          → Wrote out 0 came_of.text last end
      ask_text = text_as _ (read_as (Asks q) e)

    module _ (x : Line) (e : r.line ≡ Runs x) where
      pub run_came : (next : Judge) (after : Bool) → list_of next after ≡ (line_told j (recorded (line_means (take r.length line) x))).state
          → came_of ≡ record { text = (line_told j (recorded (line_means (take r.length line) x))).text; state = list_of next after }
      run_came next after = left_as _ (read_as (Runs x) e) (list_of next after)

      pub run_text : (out last : List ℕ) (end : ℕ) → Wrote out 0 (line_told j (recorded (line_means (take r.length line) x))).text last end
          → Wrote out 0 came_of.text last end
      run_text = text_as _ (read_as (Runs x) e)
