-- What the lookup of a delegate answers.
--
--   delegate_means  the delegate that each case of the code's answer says
use Rattle.std.proofs.Math.Option.{Option, none, some}
use Rattle.std.specs.Prelude.{ℕ}
use Rattle.delegates.specs.declared.DelegateAnswer.{DelegateAnswer}
use Rattle.delegates.specs.declared.DelegateAnswer.TheVariants.{State, None}

abbrev pub delegate_means : DelegateAnswer → Option ℕ
delegate_means (State q) = some q.0
delegate_means None = none
