-- `put_verdict` meets its contract. Assumes nothing.
use Rattle.traytext.proofs.put_verdict.Goals as goal

pub returns-in-Waiting : goal.returns-in-Waiting
returns-in-Waiting c = rw c.in-Waiting.is c.put_waiting.ensures

pub returns-in-Yes : goal.returns-in-Yes
returns-in-Yes c = rw c.in-Yes.is c.put_bytes.ensures

pub returns-in-No : goal.returns-in-No
returns-in-No c = rw c.in-No.is c.put_bytes-in-No.ensures

pub returns-in-Refused : goal.returns-in-Refused
returns-in-Refused c = rw (c.in-Refused.is, ← c.number.ensures) c.put_refused.ensures
