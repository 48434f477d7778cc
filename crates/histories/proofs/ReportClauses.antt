-- What is reported with the verdict that a list of calls says, as `ReportClauses` of
-- specs/Claims.antt has it: the law of a report, and the lengths of the standing chunks, which sum
-- up to that of the text. Assumes nothing.
use mathlib.Core.Path.{◌≡◌, sym, subst}
use mathlib.Core.List.{List}
use Prim.Native.Nat.{ℕ}
use lib.ListN.{length}
use Rattle.base.proofs.Lists.{length_joined}
use Rattle.calls.specs.Calls.{Call}
use Rattle.calls.specs.Claims.{Divided}
use Rattle.calls.proofs.Reporting.{report_law}
use Rattle.histories.specs.History.{places_in, standing, standing_text, bytes_in, text_in, verdict_in, report_in}
use Rattle.histories.specs.Claims.{ReportClauses}

pub report_words : (h : List Call) → ReportClauses h
report_words h =
    let law = report_law (verdict_in h) (bytes_in h) in
    let bytes : bytes_in h ≡ length (text_in h) = sym (length_joined (λ p. standing_text (standing h p)) (places_in h)) in
    record {
      verdict = law.verdict;
      text_bytes = bytes;
      divided = λ count says. subst (λ (b : ℕ). Divided count b (report_in h)) bytes (law.divided count says);
      zeros = law.zeros;
    }
