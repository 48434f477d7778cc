-- `has_foreign` meets its contract. Assumes nothing.
use Rattle.traycalls.proofs.has_foreign.Goals as goal

pub returns-then-has_foreign : goal.returns-then-has_foreign
returns-then-has_foreign c = rw (← c.has_foreign.ensures, c.if-has_foreign.true)

pub returns : goal.returns
returns c = rw (← c.has_foreign.ensures, c.if-has_foreign.false) c.has_foreign-2.ensures
