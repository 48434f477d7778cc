-- EVERY NUMBER THAT C IS GIVEN by the judge's functions, to the last field, whatever the judge.
-- To believe the theorems, read the definitions that they name:
--
--   install_shown .. read_shown   the numbers that C is given         capi/specs/Numbers
--   Laws; FlagLaw                 each field of them, the kinds       capi/, flags/specs
--   RefusedFromC, NoVerdictFromC  what a refused call gives C         demands/specs/Shown
--   MayBegin .. MayRead           what contracts allow                demands/specs/Functions
--   install_of .. report_of       the outcome of a call on any state  calls/specs/mirror/Steps
--   read_of f                      reading a file                      ruleformat/specs/Reader
--
-- Assumes nothing.
-- All that they rest on stands in these files of specs/ (tests/believed):
--   base Conditions, Lists, Totals; limits Limits; flags Flags; masks Masks; automaton Rules,
--   Successor; rulecheck Checking; ruleformat Format, Reader, Refusals; numbering Numbering;
--   subsets Sets, mirror/Singles; delegates Alike, Claims, mirror/Classes; build mirror/Building;
--   marks Marks; walks mirror/Steps; chunks Chunks, mirror/Walks; board Boards; joins Joining;
--   calls Calls, Replies, mirror/Steps; verdicts Shown; replay Records; capi Laws, Numbers;
--   demands Functions, Shown.
use mathlib.Core.Path.{◌≡◌}
use mathlib.Core.Logic.{◌↔◌}
use mathlib.Core.List.{List}
use Prim.Native.Nat.{ℕ}
use contract.Lifetimes.{Lfts}
use denote.Ref.{Bor}
use Rattle.automaton.specs.declared.Rule.{Rule}
use Rattle.ruleformat.specs.Reader.{read_of}
use Rattle.calls.specs.declared.Judge.{Judge}
use Rattle.calls.specs.mirror.Steps.{fresh, install_of, open_of, deliver_of, withdraw_of, report_of, load_of}
use Rattle.capi.specs.declared.ReadNumbers.{ReadNumbers}
use Rattle.capi.specs.declared.InstallNumbers.{InstallNumbers}
use Rattle.capi.specs.declared.CallNumbers.{CallNumbers}
use Rattle.capi.specs.declared.DeliverNumbers.{DeliverNumbers}
use Rattle.capi.specs.declared.VerdictNumbers.{VerdictNumbers}
use Rattle.capi.specs.Numbers.{read_shown, install_shown, call_shown, deliver_shown, verdict_shown}
use Rattle.capi.specs.Laws.{Laws}
use Rattle.capi.proofs.Laws as capi_laws
use Rattle.capi.proofs.Asks as capi_asks
use Rattle.capi.proofs.bellbadger_read.Reads as read_reads
use Rattle.demands.specs.Functions.{MayBegin, MayInstall, MayRead, MayLoad, MayOpen, MayDeliver, MayWithdraw, MayJudge}
use Rattle.demands.specs.Shown.{RefusedFromC, NoVerdictFromC}
use Rattle.demands.proofs.Functions.{read_fixed, load_fixed}
use Rattle.demands.proofs.Shown.{new_fixed, install_fixed, open_fixed, deliver_fixed, withdraw_fixed, verdict_fixed, refused_so, no_verdict}

-- Of those that C links every number of a result is fixed, whatever the judge; a load, reading and
-- a recorded list stand below.
pub new_from_C : (j : Judge) → MayBegin j ↔ j ≡ fresh
new_from_C = new_fixed

pub install_from_C : (j : Judge) (rule : Rule) (r : InstallNumbers) → MayInstall j rule r ↔ r ≡ install_shown (install_of j rule)
install_from_C = install_fixed

pub open_from_C : (j : Judge) (n : ℕ) (r : CallNumbers) → MayOpen j n r ↔ r ≡ call_shown (open_of j n)
open_from_C = open_fixed

pub deliver_from_C : (j : Judge) (p v : ℕ) (w : List ℕ) (r : DeliverNumbers) → MayDeliver j p v w r ↔ r ≡ deliver_shown (deliver_of j p v w)
deliver_from_C = deliver_fixed

pub withdraw_from_C : (j : Judge) (p : ℕ) (r : CallNumbers) → MayWithdraw j p r ↔ r ≡ call_shown (withdraw_of j p)
withdraw_from_C = withdraw_fixed

pub verdict_from_C : (j : Judge) (v : VerdictNumbers) → MayJudge j v ↔ v ≡ verdict_shown (report_of j)
verdict_from_C = verdict_fixed

pub load_from_C : (j : Judge) (f : List ℕ) (r : InstallNumbers) → MayLoad j f r ↔ r ≡ install_shown (load_of j f)
load_from_C = load_fixed

pub read_from_C : (f : List ℕ) (r : ReadNumbers) → MayRead f r ↔ r ≡ read_shown (read_of f)
read_from_C = read_fixed

-- Of what C links reading answers the number and the rule, zeros where it is refused, and nothing
-- is asked of it; and every number that a load gives is fixed.
pub read_from_C_asks_nothing : (κs : Lfts 1) (c : Bor (List ℕ)) → read_reads.Asked κs (c, tt)
read_from_C_asks_nothing = capi_asks.read_asks_nothing

-- In other words than the definitions': `accepted` is 1 or 0 and 0 exactly beside the number of a
-- refusal, each case's fields, and the numbers of the kinds. A refused call gives the flag 0, the
-- number, zeros and the judge that came; a verdict that is refused or waits has three zeros.
pub each_number : Laws
each_number = capi_laws.laws

pub refused_from_C : (j : Judge) (x : ℕ) → RefusedFromC j x × NoVerdictFromC j x
refused_from_C j x = (refused_so j x, no_verdict j x)
