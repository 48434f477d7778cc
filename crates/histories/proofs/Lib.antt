-- In the order in which they build on each other: to every list of calls, to what follows from it,
-- and to table P.
pub mod Running
pub mod Agreement
pub mod Numbers
pub mod Steps
pub mod SameArcs
pub mod Method
pub mod VerdictAgrees
pub mod VerdictClauses
pub mod ReportClauses
pub mod Conditions
pub mod EveryList
pub mod VerdictSays
pub mod Refinement
pub mod CountBound
pub mod FormerStarts
pub mod Orders
pub mod Revisions
pub mod Last
pub mod Empties
pub mod NoOther
pub mod Fewest
pub mod TwoRules
pub mod TableP
pub mod TablePRuns
