-- `put_answer` meets its contract. Assumes nothing.
use Rattle.traytext.proofs.put_answer.Goals as goal

pub returns-in-Began : goal.returns-in-Began
returns-in-Began c = rw c.in-Began.is c.put_byte.ensures

pub returns-in-Install : goal.returns-in-Install
returns-in-Install c = rw c.in-Install.is c.put_install.ensures

pub returns-in-Call : goal.returns-in-Call
returns-in-Call c = rw c.in-Call.is c.put_call.ensures

pub returns-in-Verdict : goal.returns-in-Verdict
returns-in-Verdict c = rw c.in-Verdict.is c.put_verdict.ensures

pub returns-in-Malformed : goal.returns-in-Malformed
returns-in-Malformed c = rw c.in-Malformed.is c.put_malformed.ensures
