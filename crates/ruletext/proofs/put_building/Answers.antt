-- `put_building` meets its contract. Assumes nothing.
use Rattle.ruletext.proofs.put_building.Goals as goal

pub returns-in-Ok : goal.returns-in-Ok
returns-in-Ok c = rw c.in-Ok.is c.put_rule.ensures

pub returns-in-Err : goal.returns-in-Err
returns-in-Err c = rw (c.in-Err.is, ← c.number.ensures) c.put_refused.ensures
