-- Table P about the code that runs: the replies and the state are any that the functions' own
-- contracts allow for the calls of a case, of every library that meets the judge's definitions.
-- Assumes nothing.
use mathlib.Core.Path.{refl, sym, subst₂}
use mathlib.Core.List.{List}
use Rattle.executions.specs.Executions.{Library, Meets}
use Rattle.executions.proofs.Executions.{execution_law}
use Rattle.calls.specs.declared.Judge.{Judge}
use Rattle.calls.specs.Replies.{Reply}
use Rattle.calls.specs.Calls.{Call}
use Rattle.histories.specs.Claims.{judge_machine, judge_after, replies_to}
use Rattle.histories.specs.TableP.{Case, calls_of, AsTabled, Tabled, Each, cases}
use Rattle.histories.proofs.TableP.{CaseHolds, each, cases_hold}

module _ (l : Library Judge Call Reply) (meets : Meets l judge_machine) where
  pub tabled : (c : Case) → CaseHolds c → Tabled l c
  tabled c says = record {
    any = λ rs j ran.
        let t = (execution_law l judge_machine meets (calls_of c) rs j).0 ran in
        subst₂ (λ (x : List Reply) (y : Judge). AsTabled c x y) (sym t.0) (sym t.1) says;
    one = (
      replies_to (calls_of c),
      judge_after (calls_of c),
      (execution_law l judge_machine meets (calls_of c) (replies_to (calls_of c)) (judge_after (calls_of c))).1 (refl, refl),
    );
  }

-- of two such libraries at once
module _ (l m : Library Judge Call Reply) (meets : Meets l judge_machine) (meets-too : Meets m judge_machine) where
  pub table_P : Each (λ c. Tabled l c × Tabled m c) cases
  table_P =
      each {P = CaseHolds} {Q = λ c. Tabled l c × Tabled m c} (λ c says. (tabled l meets c says, tabled m meets-too c says)) cases cases_hold
