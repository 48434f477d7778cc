-- `meets` meets its contract, wish by wish. Assumes nothing.
use mathlib.Core.Path.{sym, ap, ◌∙◌}
use lib.Bits.{bit_and}
use lib.Dec.{eqb}
use Rattle.samples.specs.declared.Wish.{Wish}
use Rattle.samples.specs.Search.{meets}
use Rattle.sampling.proofs.Ways.{not-not}
use Rattle.sampling.proofs.meets.Goals as goal

pub returns-in-Accepted : goal.returns-in-Accepted
returns-in-Accepted c = let a = c.args in sym (ap (λ (x : Wish). meets a.finals x a.set) c.in-Accepted.is)

pub returns-in-Rejected : goal.returns-in-Rejected
returns-in-Rejected c =
    let a = c.args in
    sym (ap (λ (x : Wish). meets a.finals x a.set) c.in-Rejected.is ∙ not-not (eqb (bit_and a.set a.finals) 0))
