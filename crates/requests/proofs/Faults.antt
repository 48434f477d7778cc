-- WHERE A TRAY GOES WRONG, sentence by sentence. Under each stands the theorem that meets it; its
-- proof only cites the file that has it. To believe them, read the definitions that they name:
--
--   Continued a w             some text can follow w so that a accepts   live/specs/Continued
--   RowFault h b i            the first wrong row                        trayfaults/specs/Faults
--   RowsRight h               there is none                              trayfaults/specs/Faults
--   Before h m                m bands stand before the first empty one   trayfaults/specs/Faults
--   column_text h m c k       column c of the first k rows               trayfaults/specs/Faults
--   ColumnLost h m c b i      column c is the first that is lost, with   trayfaults/specs/Faults
--                             row i of band b
--   Short h c, Open h m       the first short column; none of these      trayfaults/specs/Faults
--   Faulted h f               the finding f is the list's                trayfaults/specs/Faults
--   IsFault f                 f is a row, a column or a short one        trayfaults/specs/Faults
--   AcceptsNothing h          the column rule accepts no text            trayfaults/specs/Faults
--   rows_below at b           how many rows the bands below b have       trays/specs/Claims
--   column_of c rows          the event at c of each row                 trays/specs/Rows
--   Finding                   what is answered                           faults/specs/Faulting
--   row_in h, standing h p, .. what R-13 says of a list of calls         trayhistories/specs/History
--   Accepts                   automata and their runs (000)              automaton/specs/Automaton
--   MayFault                  what the function's contract allows        trayfaults/specs/Functions
--   MayFaultC                 the same of the one that C links           specs/FaultFunctions
--   fault_shown               C's numbers                                c_faults/specs/Numbers
--
-- h is any list of calls, the last one first. fault_of, what the code does on any state, need not be
-- believed: `faulted` says that after every list it is the words', and no other answer is. A proved
-- function ends and stays within its bounds. Assumes nothing.
-- All that they rest on stands in these files of specs/ (tests/believed):
--   base Answers, Conditions, Lists, Options, Totals; limits Limits; masks Masks, Turns;
--   automaton Automaton, Rules, Successor; rulecheck Checking, Worked; ruleformat Reader;
--   numbering Numbering; subsets Sets, mirror/Singles; delegates Alike, Claims, mirror/Classes;
--   live Continued, Live; chunks Chunks; calls Calls; executions Executions; histories History;
--   trays Boards, Calls, Claims, Replies, Rows, Sizes, Worked, mirror/Steps; faults Faulting,
--   First; trayhistories Claims, Functions, History, Worked; trayfaults Faults, Functions,
--   Worked; c_trays Numbers; c_faults Numbers; requests FaultFunctions, TrayFunctions.
use Rattle.std.proofs.Common.{Result}
use mathlib.Core.Path.{◌≡◌, refl, sym, ap, ◌∙◌}
use mathlib.Core.Logic.{◌↔◌}
use mathlib.Core.List.{List}
use mathlib.Core.Option.{none}
use Prim.Native.Nat.{ℕ, ◌≤◌}
use Rattle.executions.specs.Executions.{Execution}
use Rattle.base.specs.declared.Refusal.{Refusal}
use Rattle.trays.specs.declared.Tray.{Tray}
use Rattle.trays.specs.Replies.{Reply, says_yes, says_no}
use Rattle.trays.specs.Calls.{Call}
use Rattle.trayhistories.specs.History.{column_in, board_there, bands_in, standing, empties_in, verdict_in}
use Rattle.trayhistories.specs.Claims.{tray_after}
use Rattle.trayhistories.specs.Functions.{tray_library}
use Rattle.faults.specs.declared.TrayFault.{TrayFault}
use Rattle.faults.specs.Faulting.{Finding, refused_as, row_at, column_at, short_at, open_with, fault_means, fault_of}
use Rattle.faults.proofs.fault.Reads as fault_reads
use Rattle.trayfaults.specs.Faults.{RowFault, RowsRight, Before, ColumnLost, Short, Open, Faulted, IsFault, AcceptsNothing}
use Rattle.trayfaults.specs.Worked.{lists, Answered}
use Rattle.trayfaults.specs.Functions.{MayFault}
use Rattle.trayfaults.proofs.Claims as trayfaults
use Rattle.trayfaults.proofs.Functions as fault_functions
use Rattle.c_faults.specs.declared.FaultNumbers.{FaultNumbers}
use Rattle.c_faults.specs.Numbers.{fault_shown, fault_read_back}
use Rattle.c_faults.specs.Numbers as c_claims
use Rattle.c_faults.proofs.Numbers as numbers_of_C
use Rattle.c_faults.proofs.Asks as asks_of_C
use Rattle.requests.specs.TrayFunctions.{tray_library_of_C}
use Rattle.requests.specs.FaultFunctions.{AsksFaultC, MayFaultC}
use Rattle.requests.proofs.TrayFunctions.{after_any_list}

-- ---- WHAT IS FOUND
-- Over every list of calls the finding is exactly the one that the list says, and there is only
-- one.
pub faulted : (h : List Call) (f : Finding) → (fault_of (tray_after h) ≡ f) ↔ Faulted h f
faulted = (trayfaults.claims).fault

pub only_finding : (h : List Call) (f g : Finding) → Faulted h f → Faulted h g → f ≡ g
only_finding h f g x y = sym ((faulted h f).1 x) ∙ (faulted h g).1 y

-- Lists worked by hand are answered with what stands beside them.
pub by_hand : Answered lists
by_hand = (trayfaults.claims).answered

-- 21 exactly without a board.
pub without_board : (h : List Call) → (fault_of (tray_after h) ≡ refused_as 21) ↔ (board_there h ≡ none)
without_board h = ((λ e. ((faulted h (refused_as 21)).0 e).0), λ b. (faulted h (refused_as 21)).1 (b, refl))

-- A row: the first standing row, by band and then by row, that the row rule does not accept, also
-- behind an empty band.
pub wrong_row : (h : List Call) (b i : ℕ) → (fault_of (tray_after h) ≡ row_at b i) ↔ RowFault h b i
wrong_row h b i = faulted h (row_at b i)

-- Else a column: the first that is lost over the bands up to the first empty one, with the first
-- row with which its text cannot be continued. It is known before the later bands are filled.
pub lost_column : (h : List Call) (c b i : ℕ) → (fault_of (tray_after h) ≡ column_at c b i)
    ↔ ((board_there h ≡ none → ⊥) × RowsRight h × ((m : ℕ) × Before h m × ColumnLost h m c b i))
lost_column h c b i = faulted h (column_at c b i)

-- Else, on a full board, the first column that is not accepted though it could go on.
pub short_column : (h : List Call) (c : ℕ) → (fault_of (tray_after h) ≡ short_at c) ↔ ((board_there h ≡ none → ⊥) × RowsRight h × Short h c)
short_column h c = faulted h (short_at c)

-- Else open, with the number of bands before the first empty one.
pub open_with_lem : (h : List Call) (m : ℕ) → (fault_of (tray_after h) ≡ open_with m) ↔ ((board_there h ≡ none → ⊥) × RowsRight h × Open h m)
open_with_lem h m = faulted h (open_with m)

-- ---- BESIDE THE VERDICT
-- With every band there, no is said exactly where a row, a column or a short column is found, and
-- yes exactly where all bands are open.
pub explained : (h : List Call) → (board_there h ≡ none → ⊥) → empties_in h ≡ 0
    → (verdict_in h ≡ says_no) ↔ IsFault (fault_of (tray_after h))
explained = (trayfaults.claims).no_exactly

pub yes_open : (h : List Call) → (board_there h ≡ none → ⊥) → empties_in h ≡ 0
    → (verdict_in h ≡ says_yes) ↔ (fault_of (tray_after h) ≡ open_with (bands_in h))
yes_open = (trayfaults.claims).yes_exactly

-- Of a column rule that accepts nothing it is column 0, band 0, row 0, whatever stands.
pub nothing_accepted : (h : List Call) → (board_there h ≡ none → ⊥) → RowsRight h → AcceptsNothing h
    → fault_of (tray_after h) ≡ column_at 0 0 0
nothing_accepted = (trayfaults.claims).accepts_nothing

-- A lost column stays lost, by the same row, while the column rule, the board and the bands up to
-- that row stay and no row goes wrong; a column before it may be found instead.
pub stays : (h g : List Call) (c b i : ℕ) → fault_of (tray_after h) ≡ column_at c b i
    → column_in g ≡ column_in h → board_there g ≡ board_there h → ((p : ℕ) → p ≤ b → standing g p ≡ standing h p) → RowsRight g
    → (d : ℕ) × (a : ℕ) × (j : ℕ) × (fault_of (tray_after g) ≡ column_at d a j) × (d ≤ c) × (d ≡ c → (a ≡ b) × (j ≡ i))
stays = (trayfaults.claims).stays

-- ---- THE FUNCTIONS
-- `fault`, on a tray that a list of calls through the tray's functions left, says what the list
-- says, and asks nothing.
pub fault_says : (h : List Call) (rs : List Reply) (t : Tray) → Execution tray_library h rs t
    → (r : Result TrayFault Refusal) → MayFault t r → Faulted h (fault_means r)
fault_says = (fault_functions.function_claims).fault

pub fault_asks : (t : Tray) → fault_reads.Asked tt (t, tt)
fault_asks = (fault_functions.function_claims).fault_asks

-- The one that C links fixes every number of its result, on any tray whatever,
pub any_fault : (t : Tray) (r : FaultNumbers) → MayFaultC t r ↔ (r ≡ fault_shown (fault_of t))
any_fault t r = ((λ m. m.1), λ e. ((t, tt), e))

-- and asks nothing.
pub asks_nothing : (t : Tray) → AsksFaultC t
asks_nothing = asks_of_C.fault_asks_nothing

-- So on a tray that a list of calls through C's functions left its numbers are those of what the
-- list says,
pub fault_from_C : (h : List Call) (rs : List Reply) (t : Tray) → Execution tray_library_of_C h rs t
    → (r : FaultNumbers) → MayFaultC t r → (f : Finding) × Faulted h f × (r ≡ fault_shown f)
fault_from_C h rs t ran r m =
    let is = ((after_any_list h rs t).0 ran).1 in
    (fault_of (tray_after h), (faulted h (fault_of (tray_after h))).0 refl, (any_fault t r).0 m ∙ ap (λ (k : Tray). fault_shown (fault_of k)) is)

-- and of them nothing is lost.
pub finding_back : (f : Finding) → fault_read_back (fault_shown f) ≡ f
finding_back = (numbers_of_C.claims).fault_back

-- Each of C's numbers in other words than the definition's: the kinds with what stands
-- beside them.
pub each_number : c_claims.Claims
each_number = numbers_of_C.claims
