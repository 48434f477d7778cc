-- From the texts of a rule to the verdict: where the rule of the judge is r, the board is open and no
-- place is empty, and r accepts the standing text exactly where P holds, the verdict is yes exactly
-- where P holds, and no exactly where it does not. Assumes nothing.
use mathlib.Core.Path.{◌≡◌, sym, subst}
use mathlib.Core.Logic.{◌↔◌}
use mathlib.Core.Bool.{true}
use mathlib.Core.List.{List}
use Rattle.automaton.specs.declared.Rule.{Rule}
use Rattle.automaton.specs.Automaton.{Accepts}
use Rattle.automaton.specs.Rules.{automaton_of}
use Rattle.calls.specs.Replies.{yes_with, no_with}
use Rattle.calls.specs.Calls.{Call}
use Rattle.histories.specs.History.{rule_in, board_in, empties_in, summed_in, text_in, verdict_in}
use Rattle.histories.proofs.EveryList.{every_list}

module _ (h : List Call) (r : Rule) (P : Type 0) (rule : rule_in h ≡ r) (law : Accepts (automaton_of r) (text_in h) ↔ P) (board : board_in h ≡ true) (full : empties_in h ≡ 0) where
  judges : Accepts (automaton_of (rule_in h)) (text_in h) ↔ P
  judges = subst (λ (x : Rule). Accepts (automaton_of x) (text_in h) ↔ P) (sym rule) law

  pub yes_exactly : (verdict_in h ≡ yes_with (summed_in h)) ↔ P
  yes_exactly =
      let v = (every_list h).verdict.accepts board full in ((λ y. judges.0 (v.0 y)), λ p. v.1 (judges.1 p))

  pub no_exactly : (verdict_in h ≡ no_with (summed_in h)) ↔ (P → ⊥)
  no_exactly =
      let v = (every_list h).verdict.rejects board full in ((λ n p. v.0 n (judges.1 p)), λ n. v.1 (λ a. n (judges.0 a)))
