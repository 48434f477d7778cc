-- What reducing a rule answers, whatever numbers stand in it: refused with the number with which
-- its installation is refused (3, 4, 6, 8 or 9), and zeros then. A reduced rule can have more than
-- 512 sets though the rule that it came from has not, so the answer says whether it installs.
--
--   Reducing        what reducing answers: the number, or none; a rule; and whether that rule
--                   installs: its installation is accepted
--   refused_by number  a refusal, with zeros
--   reduce_outcome  what each case of the code's result stands for
--   reduce_of r     what reducing the rule r answers
use Rattle.std.specs.Prelude.{Result, Ok, Err, Bool, false, ℕ}
use Rattle.std.proofs.Math.Option.{Option, none, some}
use Rattle.base.specs.declared.Refusal.{Refusal}
use Rattle.base.specs.Answers.{refusal_number}
use Rattle.base.specs.Options.{is_none}
use Rattle.automaton.specs.declared.Rule.{Rule}
use Rattle.ruleformat.specs.Reader.{no_rule}
use Rattle.calls.specs.Calls.{install_number}
use Rattle.reducing.specs.declared.Reduced.{Reduced}
use Rattle.reducing.specs.Reduced.{reduced_of}

pub record Reducing : Type 0 where
  pub number : Option ℕ
  pub installs : Bool
  pub rule : Rule

abbrev pub refused_by : ℕ → Reducing
refused_by number = record { number = some number; installs = false; rule = no_rule }

abbrev pub reduce_outcome : Result Reduced Refusal → Reducing
reduce_outcome (Ok reduced) = record { number = none; installs = reduced.installs; rule = reduced.rule }
reduce_outcome (Err refusal) = refused_by (refusal_number refusal)

abbrev pub reducing_by : Option ℕ → Rule → Reducing
reducing_by none r = record { number = none; installs = is_none (install_number r); rule = r }
reducing_by (some number) r = refused_by number

abbrev pub reduce_of : Rule → Reducing
reduce_of r = reducing_by (install_number r) (reduced_of r)
