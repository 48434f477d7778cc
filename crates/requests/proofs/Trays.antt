-- R-13, TRAYS, sentence by sentence. Under each stands the theorem that meets it; its proof only cites
-- the file that has it. To believe them, read the definitions that they name:
--
--   Call; Reply, Judgement        a tray's calls; what is answered to them  trays/specs/Calls, Replies
--   step_of t c                    reply and state of a call on any state   trays/specs/mirror/Steps
--   rows_of w n b, column_of c rows rows out of bytes, and columns         trays/specs/Rows
--   AllAccepted                   every row and every column is accepted   trays/specs/Rows
--   row_there h, column_there h   the rules that a list of calls leaves    trayhistories/specs/History
--   board_there h, width_in h, ..  its board; what stands at each band      trayhistories/specs/History
--   rows_at h p, rows_there h      the rows of a standing band, of all       trayhistories/specs/History
--   rows_below at p               how many rows the bands below p have     trays/specs/Claims
--   verdict_in h, answer_of h c    the verdict; what is answered to a call  trayhistories/specs/History
--   Installation, WholeRows,      the numbers, one by one                  trayhistories/specs/Conditions
--   AtOrAbove, AcceptedExactly, RefusedExactly
--   LastRow .. LastStanding       by the last accepted call of a kind      trayhistories/specs/Last
--   EmptyBands; numbers_of        the empty bands; the numbers of a call   trayhistories/specs
--   Changes, AnyOrder, Unchanged, what a call changes; the whole theorem   trayhistories/specs/Claims
--   VerdictClauses, EveryList
--   tray_library, EveryRun        what the functions' contracts allow      trayhistories/specs/Functions
--   install_row_of, open_of, ..   the outcome of a call on any tray        trays/specs/mirror/Steps
--   install_shown, call_shown,    the numbers that C is given for it       c_trays/specs/Numbers
--   verdict_shown
--   MayOpen, ..; tray_library_of_C  what the functions for C allow           specs/TrayFunctions
--   Blocks; right_text            what is written for lines, and is right  linetexts/specs/Claims, traystream/specs/Texts
--   list_text; list_of, skipped_lines  lists that a malformed line ends      linetexts/specs/Lists
--   Gathers; FedBlocks            a round; blocks through functions        linetexts/specs/Feeding, Functions
--   MayGather, MayFinish          what their contracts allow               specs/TrayTexts
--   SaysLine; SaysNumber, ..      which lines and fields say what          traytext/, fields/specs/Claims
--   sample_text, cut_text ..      texts and their answers, byte by byte    traystream/specs/Worked
--   answers                       each kind of answer, byte by byte        traytext/specs/Worked
--   Accepts; automaton_of r       automata and their runs (000)            automaton/specs/Automaton, Rules
--
-- h is any list of calls, the last first. A proved function ends and stays within its bounds. Assumes
-- nothing.
-- All that they rest on stands in these files of specs/ (tests/believed):
--   base Answers, Conditions, Lists, Options, Totals; limits Limits; flags Flags; text Numerals,
--   Writing; answers Answers; masks Masks; automaton Automaton, Rules, Successor; rulecheck
--   Checking, Claims, Worked; ruleformat Format, Reader, Refusals; numbering Claims, Numbering,
--   Order, Texts; subsets Sets, mirror/Singles; delegates Alike, Claims, mirror/Classes; build
--   mirror/Building; marks Marks; chunks Chunks; joins Joining; calls Calls, Replies; executions
--   Executions, Last; histories History, Method; fields Bytes, Claims, Numbers; lines Splitting;
--   longlines Holding; linetexts Beginnings, Claims, Feeding, Functions, Lists, Parts; trays
--   Boards, Calls, Claims, Replies, Rows, Sizes, Worked, mirror/Steps; trayhistories Claims,
--   Conditions, Empties, Functions, History, Last, Worked; traytext Answers, Claims, Lines,
--   Worked; traylines Running; traystream Texts, Worked; c_trays Claims, Numbers; demands
--   TextFunctions; requests TrayFunctions, TrayTexts.
use mathlib.Core.Path.{◌≡◌, refl}
use mathlib.Core.Logic.{◌↔◌, ◌⊎◌}
use mathlib.Core.Bool.{false}
use mathlib.Core.List.{List, [], ◌∷◌, ◌++◌, flatten}
use mathlib.Core.Option.{none, some}
use Prim.Native.Nat.{ℕ, ◌+◌, ◌*◌, ◌≤◌, ◌<◌}
use lib.ListN.{length, take, get_or}
use Rattle.text.specs.Writing.{Wrote}
use Rattle.executions.specs.Executions.{Execution, Meets}
use Rattle.lines.specs.Splitting.{lines_of}
use Rattle.longlines.specs.Holding.{line_begin}
use Rattle.linetexts.specs.Feeding.{State, finish_of, gather_at, Gathers}
use Rattle.linetexts.specs.Beginnings.{Beginning, state_of}
use Rattle.linetexts.specs.Lists.{Listed, list_of, NoneEmpty, skipped_lines}
use Rattle.linetexts.specs.Claims.{Blocks}
use Rattle.linetexts.specs.Functions.{FedBlocks}
use Rattle.marks.specs.Marks.{idle_mark}
use Rattle.automaton.specs.declared.Rule.{Rule}
use Rattle.automaton.specs.Automaton.{Accepts}
use Rattle.automaton.specs.Rules.{automaton_of}
use Rattle.build.specs.mirror.Building.{built_of}
use Rattle.calls.specs.Calls.{install_number}
use Rattle.histories.specs.Method.{Method}
use Rattle.trays.specs.declared.Tray.{Tray}
use Rattle.trays.specs.Sizes.{most_width, most_bands, most_rows}
use Rattle.trays.specs.Rows.{column_of, AllAccepted}
use Rattle.trays.specs.Replies.{Reply, refused, waiting, says_yes, says_no, refused_with, refusal_of}
use Rattle.trays.specs.Calls.{Call, installs_row, installs_column, opens, delivers}
use Rattle.trays.specs.mirror.Steps.{fresh, install_row_of, install_column_of, open_of, deliver_of, withdraw_of, verdict_of, step_of}
use Rattle.trays.specs.Claims.{RowsLaw, ColumnLaw, rows_below}
use Rattle.trays.proofs.Claims as trays
use Rattle.trayhistories.specs.History.{row_there, column_there, row_in, column_in, Size, board_there, width_in, bands_in, standing, empties_in, rows_at, rows_there, verdict_in, answer_of, answers_to}
use Rattle.trayhistories.specs.Last.{LastRow, LastColumn, LastBoard, LastStanding}
use Rattle.trayhistories.specs.Empties.{EmptyBands}
use Rattle.trayhistories.specs.Conditions.{Installation, WholeRows, AtOrAbove, AcceptedExactly, RefusedExactly, NoOtherNumber}
use Rattle.trayhistories.specs.Claims.{tray_machine, tray_after, Invariant, NoBoard, Changes, AnyOrder, Unchanged, EveryList}
use Rattle.trayhistories.specs.Functions.{tray_library, EveryRun}
use Rattle.trayhistories.specs.Worked.{lists, Answered}
use Rattle.trayhistories.proofs.EveryList as tray_lists
use Rattle.trayhistories.proofs.Last as tray_last
use Rattle.trayhistories.proofs.Empties as tray_empties
use Rattle.trayhistories.proofs.NoOther as tray_numbers
use Rattle.trayhistories.proofs.Refinement as tray_functions
use Rattle.trayhistories.proofs.Examples as tray_examples
use Rattle.ruleformat.specs.Refusals.{refusal}
use Rattle.traystream.specs.Texts.{tray_room, tray_lines, history_after, right_response, right_text}
use Rattle.traystream.specs.Worked.{cut_text, cut_answers, sample_text, sample_answers}
use Rattle.traystream.proofs.Claimed as traystream
use Rattle.traytext.specs.Lines.{Meaning, row_file, column_file, malformed, line_in}
use Rattle.traytext.specs.Answers.{replied}
use Rattle.traytext.specs.Claims.{SaysLine}
use Rattle.traytext.specs.Worked.{answers, Written}
use Rattle.traytext.proofs.Exact as traytext
use Rattle.traytext.proofs.Examples as traytext_examples
use Rattle.answers.specs.Answers.{malformed_text}
use Rattle.c_trays.specs.declared.InstallNumbers.{InstallNumbers}
use Rattle.c_trays.specs.declared.CallNumbers.{CallNumbers}
use Rattle.c_trays.specs.declared.VerdictNumbers.{VerdictNumbers}
use Rattle.c_trays.specs.Numbers.{install_shown, call_shown, verdict_shown}
use Rattle.c_trays.specs.Claims as c_claims
use Rattle.c_trays.proofs.ReadBack as c_trays
use Rattle.requests.specs.TrayFunctions.{MayInstallRow, MayInstallColumn, MayOpen, MayDeliver, MayWithdraw, MayJudge, tray_library_of_C}
use Rattle.requests.specs.TrayTexts.{MayGather, MayFinish}
use Rattle.requests.proofs.TrayFunctions as functions
use Rattle.requests.proofs.TrayTexts as tray_texts
use Rattle.requests.proofs.TraySample as tray_sample

-- The limits that are named below:
pub limits : (most_width ≡ 16) × (most_bands ≡ 8) × (most_rows ≡ 64) × (idle_mark ≡ 255)
limits = (refl, refl, refl, refl)

-- ---- ALL OF IT
-- "Over every list of a tray's calls the verdict is this one, with bands in the part of chunks; revisions
-- and R-2's number do not apply." All that is promised of every list, in one place, over the definitions;
-- the sentences below are its parts. A delivery has no revision, and is answered only that it was accepted.
pub every_list : (h : List Call) → EveryList h
every_list = tray_lists.every_list

-- and about the functions: however the calls of a list were made through `new_tray`, `install_row`,
-- `install_column`, `open`, `deliver`, `withdraw` and `ask_verdict`, by what their own contracts allow,
-- the replies were the list's own answers and the tray is as the list says; they ask nothing.
pub every_run : (h : List Call) → EveryRun h
every_run = tray_functions.every_run

pub functions_meet : Meets tray_library tray_machine
functions_meet = tray_functions.tray_meets

pub replies : (h : List Call) (rs : List Reply) (t : Tray) → Execution tray_library h rs t → rs ≡ answers_to h
replies h = (every_run h).replies

-- lists worked by hand are answered with what stands beside them:
pub by_hand : Answered lists
by_hand = tray_examples.answered

-- ---- ROWS AND COLUMNS
-- "The tray machine writes a row of 1 to 16 valve events for each tick."
pub width : (h : List Call) (s : Size) → board_there h ≡ some s → (1 ≤ width_in h) × (width_in h ≤ most_width)
width h = (every_list h).board.width

pub rows : (w n : ℕ) (b : List ℕ) → n * w ≤ length b → RowsLaw w n b
rows = (trays.claims).rows_law

-- "A row is judged by one rule and each column, from the first tick to the last, by another."
pub columns : (c : ℕ) (rows : List (List ℕ)) → ColumnLaw c rows
columns = (trays.claims).column_law

-- ---- THE RULES
-- "A tray installs its row rule and its column rule as R-3 does": answered as the judge answers, with the
-- same numbers, and the number of sets and M are those of the rule's automaton;
pub row_installation : (h : List Call) → Installation (λ r. answer_of h (installs_row r))
row_installation h = (every_list h).row_installation

pub column_installation : (h : List Call) → Installation (λ r. answer_of h (installs_column r))
column_installation h = (every_list h).column_installation

pub sets_and_starts : (r : Rule) → install_number r ≡ none → Method (automaton_of r) (built_of r)
sets_and_starts = (every_list []).method

-- "either installation removes its board."
pub row_removes : (h : List Call) (r : Rule) → install_number r ≡ none
    → (row_there (installs_row r ∷ h) ≡ some r) × (column_there (installs_row r ∷ h) ≡ column_there h) × NoBoard (installs_row r ∷ h)
row_removes h = (every_list h).changes.row_installed

pub column_removes : (h : List Call) (r : Rule) → install_number r ≡ none
    → (row_there (installs_column r ∷ h) ≡ row_there h) × (column_there (installs_column r ∷ h) ≡ some r) × NoBoard (installs_column r ∷ h)
column_removes h = (every_list h).changes.column_installed

-- ---- THE BANDS
-- "Rows arrive in up to 8 bands of 0 to 64 whole rows, in any order, each withdrawable."
pub bands : (h : List Call) (s : Size) → board_there h ≡ some s → (1 ≤ bands_in h) × (bands_in h ≤ most_bands)
bands h = (every_list h).board.bands

pub taken : (h : List Call) → AcceptedExactly h
taken h = (every_list h).accepted_exactly

pub changed : (h : List Call) → Changes h
changed h = (every_list h).changes

pub any_order : (h : List Call) (p q : ℕ) → (p ≡ q → ⊥) → (b c : List ℕ) → AnyOrder h p q b c
any_order h = (every_list h).any_order

-- The rows of all standing bands are in the order of the bands' numbers, however they came: row i of
-- band p is behind all rows of the bands below p, and there are no others.
pub in_order : (h : List Call) (p i : ℕ) → p < bands_in h → i < length (rows_at h p)
    → get_or (rows_there h) (rows_below (rows_at h) p + i) [] ≡ get_or (rows_at h p) i []
in_order h = ((trays.claims).bands_law (rows_at h) (bands_in h)).row

pub no_others : (h : List Call) → length (rows_there h) ≡ rows_below (rows_at h) (bands_in h)
no_others h = ((trays.claims).bands_law (rows_at h) (bands_in h)).rows

-- ---- THE VERDICT
-- "The tray's verdict is yes exactly when every row and every column is accepted, without a count":
-- of the rows of the standing bands, in the order of the bands, and no otherwise.
pub says_yes_lem : (h : List Call) → (board_there h ≡ none → ⊥) → empties_in h ≡ 0
    → (verdict_in h ≡ says_yes) ↔ AllAccepted (row_in h) (column_in h) (width_in h) (rows_there h)
says_yes_lem h = (every_list h).verdict.accepts

pub says_no_lem : (h : List Call) → (board_there h ≡ none → ⊥) → empties_in h ≡ 0
    → (verdict_in h ≡ says_no) ↔ (AllAccepted (row_in h) (column_in h) (width_in h) (rows_there h) → ⊥)
says_no_lem h = (every_list h).verdict.rejects

-- "waiting as on a board": with the number of empty bands, exactly when one is empty.
pub waits : (h : List Call) (e : ℕ) → (verdict_in h ≡ waiting e) ↔ ((board_there h ≡ none → ⊥) × (0 < e) × (e ≡ empties_in h))
waits h = (every_list h).verdict.waits

pub one_empty : (h : List Call) → (0 < empties_in h) ↔ ((p : ℕ) × (p < bands_in h) × (standing h p ≡ none))
one_empty h = (every_list h).verdict.one_empty

-- "With no rows at all, each column is the empty text."
pub no_rows : (h : List Call) → rows_there h ≡ [] → (c : ℕ) → column_of c (rows_there h) ≡ []
no_rows h = (every_list h).verdict.no_rows

pub no_rows_verdict : (h : List Call) → (board_there h ≡ none → ⊥) → empties_in h ≡ 0 → rows_there h ≡ []
    → (verdict_in h ≡ says_yes) ↔ Accepts (automaton_of (column_in h)) []
no_rows_verdict h = (every_list h).verdict.no_rows_verdict

-- ---- THE NUMBERS
-- "Idle marks are not allowed, and 13 is a byte at or above either rule's k."
pub no_marks : (h : List Call) (p : ℕ) (b : List ℕ) → p < bands_in h → WholeRows (width_in h) b
    → (i : ℕ) → i < length b → get_or b i 0 ≡ idle_mark → answer_of h (delivers p b) ≡ refused 13
no_marks h = (every_list h).board.no_marks

pub refused_13 : (h : List Call) (p : ℕ) (b : List ℕ)
    → (answer_of h (delivers p b) ≡ refused 13)
    ↔ ((p < bands_in h) × WholeRows (width_in h) b × (AtOrAbove (row_in h).k b ⊎ AtOrAbove (column_in h).k b))
refused_13 h = (every_list h).refused_exactly.deliver_13

-- "New are 38, a width outside 1 to 16, and 39, a band that is not whole rows or has over 64":
pub refused_38 : (h : List Call) (w n : ℕ)
    → (answer_of h (opens w n) ≡ refused 38)
    ↔ (((row_there h ≡ none → ⊥) × (column_there h ≡ none → ⊥)) × ((w < 1) ⊎ (most_width < w)))
refused_38 h = (every_list h).refused_exactly.open_38

pub refused_39 : (h : List Call) (p : ℕ) (b : List ℕ)
    → (answer_of h (delivers p b) ≡ refused 39) ↔ ((p < bands_in h) × (WholeRows (width_in h) b → ⊥))
refused_39 h = (every_list h).refused_exactly.deliver_39

-- "opening gives 20 (either rule absent), 38, 10 (bands outside 1 to 8); delivering 21, 11, 39, 13, 22;
-- withdrawing 21, 11, 23; verdict 21." Number by number, each by what holds when it is the first:
pub refusals : (h : List Call) → RefusedExactly h
refusals h = (every_list h).refused_exactly

pub refused_21 : (h : List Call) → (verdict_in h ≡ refused_with 21) ↔ (board_there h ≡ none)
refused_21 h = (every_list h).verdict.none_there

-- and a refused call changes nothing, after every list of calls,
pub unchanged : (h : List Call) (c : Call) (x : ℕ) → refusal_of (answer_of h c) ≡ some x → Unchanged h c
unchanged h = (every_list h).unchanged

-- and on any state whatever, also one that no list of calls leaves.
pub unchanged_in_any_state : (t : Tray) (c : Call) (x : ℕ) → refusal_of (step_of t c).reply ≡ some x → (step_of t c).state ≡ t
unchanged_in_any_state = (trays.claims).unchanged

-- ---- THE LIST IN OTHER WORDS
-- What the sentences above say of a list of calls goes through it call by call
-- (trayhistories/specs/History). So that none rests on that alone, each is said once more, by the
-- list cut at one call, or call by call where it counts. The row rule and the column rule are those
-- of the last accepted installation of each;
pub last_row : (h : List Call) → LastRow h
last_row = tray_last.last_row

pub last_column : (h : List Call) → LastColumn h
last_column = tray_last.last_column

-- a board is there exactly when the last accepted call among installations and openings is an
-- opening, with its width and bands;
pub last_board : (h : List Call) → LastBoard h
last_board = tray_last.last_board

-- what stands at a band is what was last accepted there since that opening, and not withdrawn
-- since.
pub last_standing : (h : List Call) → LastStanding h
last_standing = tray_last.last_standing

-- "waiting as on a board": the number of empty bands is 0 at first and where a rule goes in, n
-- after an opening of n; one less after a delivery, one more after a withdrawal, else the same.
pub empty_bands_lem : EmptyBands empties_in
empty_bands_lem = tray_empties.empty_bands_lem

-- and a refused call has one of its own numbers: 3, 4, 6, 8, 9 of an installation, 20, 38, 10 of an
-- opening, 21, 11, 39, 13, 22 of a delivery, 21, 11, 23 of a withdrawal, 21 of a verdict.
pub no_other_number : (h : List Call) → NoOtherNumber h
no_other_number = tray_numbers.no_other_number

-- ---- FROM C
-- The functions that C links ask nothing; what their numbers say, and the tray that they leave, is what
-- the definitions give, for any tray whatever.
pub c_functions_meet : Meets tray_library_of_C tray_machine
c_functions_meet = functions.c_meets

-- Each allows these numbers and no others, which in other words than the definitions' are so: accepted
-- and refused, each field case by case, the kinds; and nothing of an outcome is lost in them.
pub any_row : (t : Tray) (rule : Rule) (r : InstallNumbers) → MayInstallRow t rule r ↔ r ≡ install_shown (install_row_of t rule)
any_row = functions.row_fixed

pub any_column : (t : Tray) (rule : Rule) (r : InstallNumbers) → MayInstallColumn t rule r ↔ r ≡ install_shown (install_column_of t rule)
any_column = functions.column_fixed

pub any_opening : (t : Tray) (w n : ℕ) (r : CallNumbers) → MayOpen t w n r ↔ r ≡ call_shown (open_of t w n)
any_opening = functions.open_fixed

pub any_delivery : (t : Tray) (p : ℕ) (b : List ℕ) (r : CallNumbers) → MayDeliver t p b r ↔ r ≡ call_shown (deliver_of t p b)
any_delivery = functions.deliver_fixed

pub any_withdrawal : (t : Tray) (p : ℕ) (r : CallNumbers) → MayWithdraw t p r ↔ r ≡ call_shown (withdraw_of t p)
any_withdrawal = functions.withdraw_fixed

pub any_verdict : (t : Tray) (v : VerdictNumbers) → MayJudge t v ↔ v ≡ verdict_shown (verdict_of t)
any_verdict = functions.verdict_fixed

pub each_number : c_claims.Claims
each_number = c_trays.claims

-- So a list of calls can be made through them, and whenever it was, their numbers said the list's own
-- answers, and the tray is as the list says.
pub made_from_C : (h : List Call) → Execution tray_library_of_C h (answers_to h) (tray_after h)
made_from_C = functions.made

pub replies_from_C : (h : List Call) (rs : List Reply) (t : Tray) → Execution tray_library_of_C h rs t → rs ≡ answers_to h
replies_from_C = functions.replies

pub state_from_C : (h : List Call) (rs : List Reply) (t : Tray) → Execution tray_library_of_C h rs t → Invariant h t
state_from_C = functions.state

-- and what `bellbadger_tray_verdict` then returns is the list's verdict: with a board and no empty band,
-- yes (kind 2) exactly when every row and every column is accepted, and no (kind 3) otherwise.
module _ (h : List Call) (rs : List Reply) (t : Tray) (ran : Execution tray_library_of_C h rs t) (v : VerdictNumbers) where
  pub verdict_from_C : MayJudge t v ↔ v ≡ verdict_shown (verdict_in h)
  verdict_from_C = functions.asked h rs t ran v

  pub yes_from_C : MayJudge t v → (board_there h ≡ none → ⊥) → empties_in h ≡ 0
      → (v.kind ≡ 2) ↔ AllAccepted (row_in h) (column_in h) (width_in h) (rows_there h)
  yes_from_C = functions.yes h rs t ran v

  pub no_from_C : MayJudge t v → (board_there h ≡ none → ⊥) → empties_in h ≡ 0
      → (v.kind ≡ 3) ↔ (AllAccepted (row_in h) (column_in h) (width_in h) (rows_there h) → ⊥)
  no_from_C = functions.no h rs t ran v

-- ---- LINES
-- All that `trayjudge` writes, in whatever rounds the blocks of its input are fed, is right line by line:
-- the answer that is due after the calls of the lines before it. (A round is what the contract of
-- `gather` promises, and the end what that of `finish` does: traystream/src/lib.rt.)
pub lines_written : {s' : State Beginning (Listed Tray)} {blocks : List (List ℕ)} {line text : List ℕ} → tray_room + 1 ≤ length line
    → Blocks tray_lines (state_of (list_of fresh false) line_begin line) blocks s' text
    → text ++ (finish_of tray_lines s').text ≡ right_text (some []) (lines_of (flatten blocks))
lines_written = (traystream.claims).written

-- After a malformed line no call is made and no verdict given until an empty line: each line is
-- answered `skipped`, whatever it says. The empty line begins afresh.
pub malformed_ends : (h : List Call) (l : List ℕ) (ls : List (List ℕ)) → line_in l ≡ malformed → NoneEmpty ls
    → right_text (some h) (l ∷ ls) ≡ malformed_text ++ skipped_lines ls
malformed_ends = (traystream.claims).ends_list

pub begins_afresh : (h : List Call) (l : List ℕ) (ls more : List (List ℕ)) → line_in l ≡ malformed → NoneEmpty ls
    → right_text (some h) ((l ∷ ls) ++ ([] ∷ more)) ≡ malformed_text ++ (skipped_lines ls ++ ((10 ∷ []) ++ right_text (some []) more))
begins_afresh = (traystream.claims).afresh

-- So from the functions: what the contract of `gather` allows is a round, that of `finish` the end, and
-- nothing else; fed through them, block by block, a text is answered right.
pub gather_allows : (s t : State Beginning (Listed Tray)) (before block after : List ℕ) (at next written : ℕ)
    → MayGather s before block at t next written after ↔ Gathers (gather_at tray_lines block at (length before) s) at t next written before after
gather_allows = tray_texts.gather_fixed

pub finish_allows : (s : State Beginning (Listed Tray)) (before after : List ℕ) (written : ℕ)
    → MayFinish s before written after ↔ Wrote before 0 (finish_of tray_lines s).text after written
finish_allows = tray_texts.finish_fixed

pub lines_fed : {written : ℕ} {s' : State Beginning (Listed Tray)} {blocks : List (List ℕ)} {line text before after : List ℕ} → tray_room + 1 ≤ length line
    → FedBlocks MayGather (state_of (list_of fresh false) line_begin line) blocks s' text → MayFinish s' before written after
    → text ++ take written after ≡ right_text (some []) (lines_of (flatten blocks))
lines_fed = tray_texts.fed

-- A line means a call or a rule file exactly when it is its line, but for leading zeros and the case of
-- hex digits; any other is malformed.
pub line_means_lem : (l : List ℕ) (m : Meaning) → (m ≡ malformed → ⊥) → (line_in l ≡ m) ↔ SaysLine l m
line_means_lem = (traytext.claims).line_exactly

pub line_malformed : (l : List ℕ) → (line_in l ≡ malformed) ↔ ((m : Meaning) → SaysLine l m → ⊥)
line_malformed = (traytext.claims).malformed_exactly

-- Worked, byte by byte: samples/tray.calls is answered with what docs/PROGRAMS.md prints for it, and a
-- text in which a line was cut with `malformed` and `skipped`.
pub sample_text_lem : right_text (some []) (lines_of sample_text) ≡ sample_answers
sample_text_lem = tray_sample.sample

pub cut_text_lem : right_text (some []) (lines_of cut_text) ≡ cut_answers
cut_text_lem = (traystream.claims).worked

-- An empty line begins afresh in a list that goes on too. A file that reading refuses (R-3) is
-- answered with its number, is no call and changes nothing. And each kind of answer, byte by byte.
pub empty_line : (h : List Call) (ls : List (List ℕ)) → right_text (some h) ([] ∷ ls) ≡ (10 ∷ []) ++ right_text (some []) ls
empty_line = (traystream.claims).fresh_line

pub row_file_refused : (h : List Call) (f : List ℕ) (x : ℕ) → refusal f ≡ some x
    → (history_after h (row_file f) ≡ some h) × (right_response h (row_file f) ≡ replied (refused x))
row_file_refused = (traystream.claims).row_refused

pub column_file_refused : (h : List Call) (f : List ℕ) (x : ℕ) → refusal f ≡ some x
    → (history_after h (column_file f) ≡ some h) × (right_response h (column_file f) ≡ replied (refused x))
column_file_refused = (traystream.claims).column_refused

pub answers_written : Written answers
answers_written = traytext_examples.written
