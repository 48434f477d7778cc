-- What the functions make of a line is what the definitions say, and what a buffer keeps of a line
-- stands for it. Assumes nothing.
--
--   held_line, held_stray              what `read_line` reads
--   asked_text, found_text             the answers to `verdict` and `diagnose`
--   malformed-.., put-..               the ways through `ask_location`
--   diagnose-.., locate-..             the ways through `ask`
--   run_state, run_text                a line that was run
--   held_step_lem                      what is kept has the outcome of the line
use mathlib.Core.Path.{◌≡◌, refl, sym, ap, ◌∙◌, subst}
use mathlib.Core.Bool.{Bool, true, false}
use mathlib.Core.List.{List}
use mathlib.Core.Option.{some}
use Prim.Native.Nat.{ℕ, ◌-◌, ◌≤◌}
use native.Mathlib.Omega.{arith}
use lib.ListN.{length, take, drop}
use Rattle.text.specs.Writing.{Wrote}
use Rattle.answers.specs.Answers.{malformed_text}
use Rattle.std.proofs.Common.{Some, None}
use Rattle.std.proofs.Common as code
use Rattle.base.specs.Options.{option_of}
use Rattle.fields.specs.Bytes.{parse_bytes, Took}
use Rattle.fields.proofs.Taking.{carries, not_bytes}
use Rattle.calls.specs.declared.Judge.{Judge}
use Rattle.calls.specs.declared.Report.{Report}
use Rattle.calls.specs.Replies.{Reported, judged, report_means}
use Rattle.calls.specs.mirror.Steps.{report_of}
use Rattle.calltext.specs.declared.Line.{Line}
use Rattle.calltext.specs.declared.Line.TheVariants as line
use Rattle.calltext.specs.Meaning.{malformed, line_means}
use Rattle.calltext.specs.Answers.{replied, is_malformed, response_text, answer_means}
use Rattle.calltext.proofs.Readings.{to_the_end}
use Rattle.callrun.specs.declared.LineRun.{LineRun}
use Rattle.callrun.specs.Running.{line_step, run_outcome}
use Rattle.diagnoses.specs.Diagnosing.{Finding, diagnosis_of}
use Rattle.locating.specs.Locating.{Spot, spot_of}
use Rattle.questions.specs.declared.Query.{Query}
use Rattle.questions.specs.declared.Query.TheVariants.{Diagnose, Locate}
use Rattle.questions.specs.declared.TextLine.{TextLine}
use Rattle.questions.specs.declared.TextLine.TheVariants.{Runs}
use Rattle.questions.specs.Meaning.{LineMeaning, recorded, locate_by, meaning_by, meaning_in, query_means, query_from, Parsed}
use Rattle.questions.specs.Answers.{finding_text, spot_text}
use Rattle.longlines.specs.declared.Held.{Held}
use Rattle.longlines.specs.declared.Seen.{Seen}
use Rattle.longlines.specs.Holding.{seen_of}
use Rattle.longlines.specs.Claims.{Keeps}
use Rattle.longlines.proofs.Standing.{by_bytes, by_stray, meaning_on, held_means}
use Rattle.linetexts.specs.Feeding.{Outcome}
use Rattle.linetexts.specs.Lists.{Listed, list_of}
use Rattle.linebuffer.specs.Meanings.{told_as, line_told, held_meaning, HeldAs}
use Rattle.linebuffer.proofs.Clipped.{spots_clip}
use Rattle.linebuffer.proofs.Asking.{told}

-- ---- what a line is read as
module _ (buffer : List ℕ) (held : Held) (seen : Seen) (is : seen ≡ seen_of buffer held) (within : seen.length ≤ length buffer) where
  pub held_line : seen.hex ≡ true → (x : TextLine) → Parsed (take seen.length buffer) x → HeldAs buffer held (record { line = x; length = seen.length })
  held_line e x parsed = record {
    means = sym (by_bytes meaning_in (recorded malformed) buffer held seen is e) ∙ parsed.means;
    inside = parsed.inside;
    within = within;
  }

  pub held_stray : seen.hex ≡ false → HeldAs buffer held (record { line = Runs line.Malformed; length = seen.length })
  held_stray e = record {
    means = sym (by_stray meaning_in (recorded malformed) buffer held seen is e);
    inside = omega arith;
    within = within;
  }

-- ---- a line that asks
pub asked_text : (j : Judge) (v : Report) → report_means v ≡ report_of j → (before after : List ℕ) (end : ℕ)
    → Wrote before 0 (response_text (replied (judged (report_means v)))) after end → Wrote before 0 (response_text (replied (judged (report_of j)))) after end
asked_text j v is before after end wrote = subst (λ (a : Reported). Wrote before 0 (response_text (replied (judged a))) after end) is wrote

pub found_text : (j : Judge) (f : Finding) → f ≡ diagnosis_of j → (before after : List ℕ) (end : ℕ)
    → Wrote before 0 (finding_text f) after end → Wrote before 0 (finding_text (diagnosis_of j)) after end
found_text j f is before after end wrote = subst (λ (g : Finding). Wrote before 0 (finding_text g) after end) is wrote

module _ (field before after : List ℕ) (x : code.Option ℕ) (took : Took field before (option_of x) after) (j : Judge) (p : ℕ) where
  abbrev field_means : LineMeaning
  field_means = meaning_by (locate_by (some p) (parse_bytes field)) malformed

  module _ (e : x ≡ None) where
    pub malformed_state : list_of j true ≡ (line_told j field_means).state
    malformed_state = rw (not_bytes field before after (option_of x) took (ap option_of e))

    pub malformed_text_lem : (out last : List ℕ) (end : ℕ) → Wrote out 0 malformed_text last end → Wrote out 0 (line_told j field_means).text last end
    malformed_text_lem out last end wrote = rw (not_bytes field before after (option_of x) took (ap option_of e)) wrote

  module _ (room : 65537 ≤ length before) (n : ℕ) (e : x ≡ Some n) where
    pub put_state : list_of j false ≡ (line_told j field_means).state
    put_state = rw (carries field before after (option_of x) took n (ap option_of e)).said

    pub put_text : (s : Spot) → s ≡ spot_of j p (take n after) → (out last : List ℕ) (end : ℕ)
        → Wrote out 0 (spot_text s) last end → Wrote out 0 (line_told j field_means).text last end
    put_text s is out last end wrote =
        let k = carries field before after (option_of x) took n (ap option_of e) in
        let whole = is ∙ ap (spot_of j p) k.is ∙ spots_clip j p k.bytes (length before) (omega arith) in
        rw k.said (subst (λ (u : Spot). Wrote out 0 (spot_text u) last end) whole wrote)

-- by what is asked
module _ (w : List ℕ) (q : Query) where
  pub locate_inside : query_from q ≤ length w → (p from : ℕ) → q ≡ Locate p from → from ≤ length w
  locate_inside l p from e = subst (λ (x : Query). query_from x ≤ length w) e l

  module _ (j : Judge) where
    abbrev here : Outcome (Listed Judge)
    here = line_told j (query_means w q)

    diagnose_here : q ≡ Diagnose → here ≡ record { text = finding_text (diagnosis_of j); state = list_of j false }
    diagnose_here e = ap (λ (x : Query). line_told j (query_means w x)) e

    locate_here : (p from : ℕ) → q ≡ Locate p from
        → here ≡ line_told j (meaning_by (locate_by (some p) (parse_bytes (take (length w - from) (drop from w)))) malformed)
    locate_here p from e =
        ap (λ (x : Query). line_told j (query_means w x)) e
        ∙ ap (λ (v : List ℕ). line_told j (meaning_by (locate_by (some p) (parse_bytes v)) malformed)) (sym (to_the_end w from))

    state_of_lem : (o : Outcome (Listed Judge)) → here ≡ o → (s : Listed Judge) → s ≡ o.state → s ≡ here.state
    state_of_lem o e s l = l ∙ ap (λ (x : Outcome (Listed Judge)). x.state) (sym e)

    text-of : (o : Outcome (Listed Judge)) → here ≡ o → (out last : List ℕ) (end : ℕ) → Wrote out 0 o.text last end → Wrote out 0 here.text last end
    text-of o e out last end wrote = subst (λ (x : Outcome (Listed Judge)). Wrote out 0 x.text last end) (sym e) wrote

    pub diagnose_state : q ≡ Diagnose → list_of j false ≡ here.state
    diagnose_state e = state_of_lem _ (diagnose_here e) (list_of j false) refl

    pub diagnose_text : q ≡ Diagnose → (out last : List ℕ) (end : ℕ) → Wrote out 0 (finding_text (diagnosis_of j)) last end → Wrote out 0 here.text last end
    diagnose_text e = text-of _ (diagnose_here e)

    module _ (p from : ℕ) (e : q ≡ Locate p from) where
      pub locate_state : (s : Listed Judge)
          → s ≡ (line_told j (meaning_by (locate_by (some p) (parse_bytes (take (length w - from) (drop from w)))) malformed)).state → s ≡ here.state
      locate_state = state_of_lem _ (locate_here p from e)

      pub locate_text : (out last : List ℕ) (end : ℕ)
          → Wrote out 0 (line_told j (meaning_by (locate_by (some p) (parse_bytes (take (length w - from) (drop from w)))) malformed)).text last end
          → Wrote out 0 here.text last end
      locate_text = text-of _ (locate_here p from e)

-- ---- a line that was run
module _ (j : Judge) (w : List ℕ) (x : Line) (run : LineRun) (is : run_outcome run ≡ line_step j (line_means w x)) where
  pub run_state : (ended : Bool) → ended ≡ is_malformed (answer_means run.answer) → list_of run.judge ended ≡ (line_told j (recorded (line_means w x))).state
  run_state ended e = ap (list_of run.judge) e ∙ ap (λ (o : Outcome (Listed Judge)). o.state) (ap told_as is)

  pub run_text : (before after : List ℕ) (end : ℕ) → Wrote before 0 (response_text (answer_means run.answer)) after end
      → Wrote before 0 (line_told j (recorded (line_means w x))).text after end
  run_text before after end wrote = subst (λ (o : Outcome (Listed Judge)). Wrote before 0 o.text after end) (ap told_as is) wrote

pub held_step_lem : (buffer : List ℕ) (held : Held) (w : List ℕ) → 131125 ≤ length buffer → Keeps buffer held w
    → (j : Judge) → line_told j (held_meaning buffer held) ≡ line_told j (meaning_in w)
held_step_lem buffer held w big kept j =
    meaning_on (line_told j) meaning_in (recorded malformed) buffer held
    ∙ held_means 131124 (λ (v : List ℕ). line_told j (meaning_in v)) (line_told j (recorded malformed)) (told j) buffer held w big kept
