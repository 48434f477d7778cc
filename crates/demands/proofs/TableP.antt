-- TABLE P of document 01, over one list of cases. To believe the theorem, read the definitions that
-- it names: `Tabled`, `AsTabled` and `cases` (histories/specs/TableP), the libraries (histories/,
-- demands/specs/Functions). A list of calls has the last call first. Assumes nothing.
-- All that they rest on stands in these files of specs/ (tests/believed):
--   base Answers, Conditions, Lists; limits Limits; masks Masks; rulecheck Checking; ruleformat
--   Format, Reader, Refusals, Worked; calls Calls, Replies; executions Executions; histories
--   Functions, TableP; capi Numbers; demands Functions.
use Rattle.histories.specs.Functions.{judge_library}
use Rattle.histories.specs.TableP.{Tabled, Each, cases}
use Rattle.histories.proofs.Refinement.{judge_meets}
use Rattle.histories.proofs.TablePRuns as histories_table
use Rattle.demands.specs.Functions.{c_library}
use Rattle.demands.proofs.Functions.{c_meets}

-- Table P, over one list of cases, from the bytes of the files, through the functions: whatever
-- these allow for the calls of a case, of which the load is the first, the replies and the judge
-- are as the case says; and they allow something. Of the judge's functions, and of those that C
-- links. (The last case of the list is not the paper's: it is worked by hand.)
pub table_P : Each (λ c. Tabled judge_library c × Tabled c_library c) cases
table_P = histories_table.table_P judge_library c_library judge_meets c_meets
