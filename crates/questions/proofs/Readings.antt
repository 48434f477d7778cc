-- What the ways through `parse` come to. Assumes nothing.
use mathlib.Core.Path.{◌≡◌, sym, ap, ◌∙◌}
use mathlib.Core.Bool.{Bool, true, false, and-eq-true_iff, and-false, and-true}
use mathlib.Core.List.{List, ◌++◌, append-nil}
use mathlib.Core.Option.{none, some}
use Prim.Native.Nat.{ℕ, ◌+◌, ◌-◌, ◌≤◌, ◌<◌}
use native.Mathlib.Omega.{arith}
use borrow.Author.Tests.{eq-eqb, ne_eqb, eqb-true}
use lib.Dec.{eqb}
use lib.ListN.{length, take, drop, drop_of_length-le}
use Rattle.lines.specs.Splitting.{begins, up_to, past}
use Rattle.lines.proofs.Splits.{begins_whole}
use Rattle.std.proofs.Common.{Some, None}
use Rattle.std.proofs.Common as code
use Rattle.base.specs.Options.{option_of}
use Rattle.fields.specs.Numbers.{parse_number}
use Rattle.fields.specs.Bytes.{parse_bytes}
use Rattle.calltext.specs.declared.Line.{Line}
use Rattle.calltext.specs.Meaning.{malformed, verdict_word, call_in, line_in}
use Rattle.calltext.specs.Meaning as calls
use Rattle.calltext.proofs.Readings.{none_behind, behind_is, says, begins_long}
use Rattle.calltext.proofs.RoundTrip.{not_empty}
use Rattle.questions.specs.declared.Query.TheVariants.{Diagnose}
use Rattle.questions.specs.declared.TextLine.{TextLine}
use Rattle.questions.specs.declared.TextLine.TheVariants.{Verdict, Asks, Runs}
use Rattle.questions.specs.Meaning.{recorded, diagnose_word, locate_word, is_word, locate_by, locate_fields, question_in, meaning_by, meaning_in, text_means, text_from, Parsed}

-- ---- whether the line is a word
module _ (h w : List ℕ) where
  pub word-is : is_word h w ≡ true → w ≡ h
  word-is e =
      let both = (and-eq-true_iff (begins h w) (eqb (length w) (length h))).0 e in
      begins_whole h w both.0
      ∙ ap (λ (v : List ℕ). h ++ v) (drop_of_length-le w {i = length h} (omega (arith, eqb-true (length w) (length h) both.1)))
      ∙ append-nil h

  pub other_length : (length w ≡ length h → ⊥) → false ≡ is_word h w
  other_length ne = sym (rw (ne_eqb (length w) (length h) ne) (and-false (begins h w)))

  pub same_length : length w ≡ length h → (b : Bool) → b ≡ begins h w → b ≡ is_word h w
  same_length e b is = is ∙ sym (rw (eq-eqb (length w) (length h) e) (and-true (begins h w)))

-- ---- the fields of `locate`: `space` is the index of the first space behind the word
module _ (w : List ℕ) (long : 7 ≤ length w) (space : ℕ) (found : space ≡ 7 + length (up_to 32 (drop 7 w))) where
  pub location_alone : length w ≤ space → recorded malformed ≡ meaning_by (locate_fields (up_to 32 (drop 7 w)) (past 32 (drop 7 w))) malformed
  location_alone l = rw (none_behind w 7 long space found l)

  module _ (here : space < length w) (x : code.Option ℕ) (said : option_of x ≡ parse_number (take (space - 7) (drop 7 w))) where
    pub location_malformed : x ≡ None → recorded malformed ≡ meaning_by (locate_fields (up_to 32 (drop 7 w)) (past 32 (drop 7 w))) malformed
    location_malformed e = rw (behind_is w 7 long space found here, says w 7 long space found here x said none (ap option_of e))

    pub location_value : (p : ℕ) → x ≡ Some p
        → meaning_by (locate_by (some p) (parse_bytes (drop (space + 1) w))) malformed ≡ meaning_by (locate_fields (up_to 32 (drop 7 w)) (past 32 (drop 7 w))) malformed
    location_value p e = rw (behind_is w 7 long space found here, says w 7 long space found here x said (some p) (ap option_of e))

-- ---- the line
locate_recorded : (w : List ℕ) → begins locate_word w ≡ true → line_in w ≡ malformed
unfolding begins call_in
locate_recorded w t = ap line_in (begins_whole locate_word w t) ∙ not_empty (locate_word ++ drop 7 w) (omega arith)

module _ (w : List ℕ) where
  pub long_locate : begins locate_word w ≡ true → 7 ≤ length w
  long_locate t = begins_long locate_word w t

  pub parsed_verdict : is_word verdict_word w ≡ true → Parsed w Verdict
  unfolding begins call_in question_in
  parsed_verdict t = record { means = ap meaning_in (word-is verdict_word w t); inside = omega arith }

  pub parsed_diagnose : is_word diagnose_word w ≡ true → Parsed w (Asks Diagnose)
  unfolding question_in
  parsed_diagnose t = record { means = rw t; inside = omega arith }

  module _ (no-diagnose : is_word diagnose_word w ≡ false) where
    pub parsed_location : begins locate_word w ≡ true → (r : TextLine) → text_from r ≤ length w
        → text_means w r ≡ meaning_by (locate_fields (up_to 32 (drop 7 w)) (past 32 (drop 7 w))) malformed → Parsed w r
    unfolding question_in
    parsed_location t r inside e = record { means = rw (no-diagnose, t, locate_recorded w t) (sym e); inside = inside }

    pub parsed_other : begins locate_word w ≡ false → (x : Line) → calls.Parsed w x → Parsed w (Runs x)
    unfolding question_in
    parsed_other f x p = record { means = rw (no-diagnose, f) (ap recorded p.means); inside = p.inside }
