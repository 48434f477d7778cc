-- specs/Lists.antt proved. Assumes nothing.
use mathlib.Core.Path.{◌≡◌, ap}
use mathlib.Core.List.{List}
use mathlib.Core.Option.{Option, none, some}
use Prim.Native.Nat.{ℕ}
use borrow.Author.Tests.{eq-eqb}
use Rattle.automaton.specs.declared.Rule.{Rule}
use Rattle.calls.specs.declared.Judge.{Judge}
use Rattle.histories.specs.History.{rule_there}
use Rattle.histories.specs.Claims.{judge_after, BuiltBy}
use Rattle.histories.proofs.EveryList.{good}
use Rattle.fillings.proofs.Claims as fillings
use Rattle.summaries.specs.declared.Summary.{Summary}
use Rattle.summaries.specs.Summaries.{summary_number, summarize_of, conclude_number, conclude_of}
use Rattle.summaryverdict.specs.Lists.{summary_there, conclude_there, ListClaims}
use Rattle.summaryverdict.proofs.Claims.{claims}

-- a judge in which the rule that is there, if there is one, is built
module _ (j : Judge) where
  summarize : (o : Option Rule) → BuiltBy o j → (number : ℕ) (w : List ℕ) → summarize_of j number w ≡ summary_there o number w
  unfolding summarize_of summary_number
  summarize none e number w = let z : j.built.n ≡ 0 = ap (λ b. b.n) e in rw (eq-eqb j.built.n 0 z)
  summarize (some r) x number w = (claims.any_judge j r x.0).0 number w

  conclude : (o : Option Rule) → BuiltBy o j → (a : Summary) (chunks : ℕ) → conclude_of j a chunks ≡ conclude_there o a chunks
  unfolding conclude_of conclude_number
  conclude none e a chunks = let z : j.built.n ≡ 0 = ap (λ b. b.n) e in rw (eq-eqb j.built.n 0 z)
  conclude (some r) x a chunks = (claims.any_judge j r x.0).1 a chunks

pub list_claims : ListClaims
list_claims = record {
  summarize = λ h. summarize (judge_after h) (rule_there h) (good h).rule;
  conclude = λ h. conclude (judge_after h) (rule_there h) (good h).rule;
  installs = (fillings.claims).installs;
}
