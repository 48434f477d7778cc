-- R-13 over every list of a tray's calls. `every_list` of proofs/EveryList.antt proves `EveryList` of
-- every list. `after_any_list` of proofs/Refinement.antt ties it to the functions: what their own
-- contracts allow is `replies_to` and `tray_after`.
--
--   tray_machine        a tray as a machine: the outcome of a call is crates/trays' `step_of`
--   tray_after h        the tray that the calls h leave, from a fresh one
--   replies_to h        the replies to them
--   Invariant h t       what holds of the state t after the calls h
--   BoardClauses h      what holds of the rules, the board and the bands that a list says are there
--   VerdictClauses h    R-13's words for the verdict asked after h
--   Unchanged h c       nothing has changed by the call c
--   Changes h           what an accepted call changes, and that it changes nothing else
--   AnyOrder h p q b c  the bands p and q may come in any order
--   EveryList h         R-13, one claim over a whole list
use Rattle.std.specs.Prelude.{◌≡◌, ◌↔◌, List, [], ◌∷◌, ℕ, ◌≤◌, ◌<◌, length, get_or}
use Rattle.std.proofs.Math.Option.{Option, none, some}
use Rattle.base.specs.Options.{is_none}
use Rattle.executions.specs.Executions.{Machine, state_after, replies_to as machine_replies}
use Rattle.marks.specs.Marks.{idle_mark}
use Rattle.automaton.specs.declared.Rule.{Rule}
use Rattle.automaton.specs.Automaton.{Accepts, Text}
use Rattle.automaton.specs.Rules.{automaton_of}
use Rattle.build.specs.mirror.Building.{built_of}
use Rattle.calls.specs.Calls.{install_number}
use Rattle.histories.specs.Method.{Method}
use Rattle.trays.specs.declared.Tray.{Tray}
use Rattle.trays.specs.Sizes.{most_width, most_bands}
use Rattle.trays.specs.Rows.{column_of, AllAccepted}
use Rattle.trays.specs.Replies.{Reply, accepted, refused, waiting, says_yes, says_no, refused_with, refusal_of}
use Rattle.trays.specs.Calls.{Call, installs_row, installs_column, opens, delivers, withdraws, asks_verdict}
use Rattle.trays.specs.Boards.{band_rows, is_empty, empty_bands, rows_held}
use Rattle.trays.specs.mirror.Steps.{fresh, lacks_rule, lacks_board, verdict_of, step_of}
use Rattle.trayhistories.specs.History.{row_there, column_there, row_in, column_in, lacks_rule_in, Size, board_there, width_in, bands_in, standing, empties_in, rows_at, rows_there, verdict_in, answer_of, answers_to}
use Rattle.trayhistories.specs.Conditions.{Installation, RulesIn, WholeRows, AcceptedExactly, RefusedExactly}

abbrev pub tray_machine : Machine Tray Call Reply
tray_machine = record { fresh = fresh; reply = λ t c. (step_of t c).reply; next = λ t c. (step_of t c).state }

abbrev pub tray_after : List Call → Tray
tray_after h = state_after tray_machine h

abbrev pub replies_to : List Call → List Reply
replies_to h = machine_replies tray_machine h

-- the state: the rules, the board's width and bands, which bands are empty, and the rows of each
pub record Invariant (h : List Call) (t : Tray) : Type 0 where
  pub row : t.row ≡ row_in h
  pub column : t.column ≡ column_in h
  pub lacks_rule_lem : lacks_rule t ≡ lacks_rule_in h
  pub lacks_board_lem : lacks_board t ≡ is_none (board_there h)
  pub width : t.board.width ≡ width_in h
  pub bands : t.board.bands ≡ bands_in h
  pub empty : (p : ℕ) → p < most_bands → is_empty t.board p ≡ is_none (standing h p)
  pub rows : (p : ℕ) → p < most_bands → band_rows t.board p ≡ rows_at h p
  -- so the number of empty bands, all rows and a verdict asked now are those that the list says
  pub empties : empty_bands t.board ≡ empties_in h
  pub held : rows_held t.board ≡ rows_there h
  pub asked : verdict_of t ≡ verdict_in h

pub record BoardClauses (h : List Call) : Type 0 where
  -- the rules that are there are ones that an installation accepts
  pub row : (r : Rule) → row_there h ≡ some r → install_number r ≡ none
  pub column : (r : Rule) → column_there h ≡ some r → install_number r ≡ none
  -- a board is there only with both rules, and within the limits
  pub rules : (s : Size) → board_there h ≡ some s → RulesIn h
  pub width : (s : Size) → board_there h ≡ some s → (1 ≤ width_in h) × (width_in h ≤ most_width)
  pub bands : (s : Size) → board_there h ≡ some s → (1 ≤ bands_in h) × (bands_in h ≤ most_bands)
  -- what stands, stands at a band of the board and is whole rows, at most 64, of symbols of both rules
  pub stands : (p : ℕ) (b : List ℕ) → standing h p ≡ some b
      → (p < bands_in h) × WholeRows (width_in h) b × (Text (row_in h).k b × Text (column_in h).k b)
  -- idle marks are not allowed: each is at or above either rule's k
  pub no_marks : (p : ℕ) (b : List ℕ) → p < bands_in h → WholeRows (width_in h) b
      → (i : ℕ) → i < length b → get_or b i 0 ≡ idle_mark → answer_of h (delivers p b) ≡ refused 13

-- every row of the standing bands in order is accepted by the row rule, every column by the other
abbrev pub AllStandingAccepted : List Call → Type 0
AllStandingAccepted h = AllAccepted (row_in h) (column_in h) (width_in h) (rows_there h)

pub record VerdictClauses (h : List Call) : Type 0 where
  -- refused with 21 unless a board is there
  pub none_there : (verdict_in h ≡ refused_with 21) ↔ (board_there h ≡ none)
  -- waiting with the number of empty bands exactly when one is empty
  pub waits : (e : ℕ) → (verdict_in h ≡ waiting e) ↔ ((board_there h ≡ none → ⊥) × (0 < e) × (e ≡ empties_in h))
  pub one_empty : (0 < empties_in h) ↔ ((p : ℕ) × (p < bands_in h) × (standing h p ≡ none))
  -- else yes exactly when every row and every column is accepted, and no otherwise
  pub accepts : (board_there h ≡ none → ⊥) → empties_in h ≡ 0 → (verdict_in h ≡ says_yes) ↔ AllStandingAccepted h
  pub rejects : (board_there h ≡ none → ⊥) → empties_in h ≡ 0 → (verdict_in h ≡ says_no) ↔ (AllStandingAccepted h → ⊥)
  -- with no rows at all each column is the empty text, and alone decides
  pub no_rows : rows_there h ≡ [] → (c : ℕ) → column_of c (rows_there h) ≡ []
  pub no_rows_verdict : (board_there h ≡ none → ⊥) → empties_in h ≡ 0 → rows_there h ≡ []
      → (verdict_in h ≡ says_yes) ↔ Accepts (automaton_of (column_in h)) []

pub record Unchanged (h : List Call) (c : Call) : Type 0 where
  pub tray : tray_after (c ∷ h) ≡ tray_after h
  pub row : row_there (c ∷ h) ≡ row_there h
  pub column : column_there (c ∷ h) ≡ column_there h
  pub board : board_there (c ∷ h) ≡ board_there h
  pub bands : (p : ℕ) → standing (c ∷ h) p ≡ standing h p

-- no board is there, and no band
abbrev pub NoBoard : List Call → Type 0
NoBoard h = (board_there h ≡ none) × ((p : ℕ) → standing h p ≡ none)

abbrev pub RulesKept : List Call → Call → Type 0
RulesKept h c = (row_there (c ∷ h) ≡ row_there h) × (column_there (c ∷ h) ≡ column_there h)

-- band p has the bytes o, or none, and the board and the other bands are as they were
abbrev pub OneBand : List Call → Call → ℕ → Option (List ℕ) → Type 0
OneBand h c p o = (board_there (c ∷ h) ≡ board_there h) × (standing (c ∷ h) p ≡ o) × ((q : ℕ) → (q ≡ p → ⊥) → standing (c ∷ h) q ≡ standing h q)

pub record Changes (h : List Call) : Type 0 where
  -- an installation replaces its rule, keeps the other one and removes the board
  pub row_installed : (r : Rule) → install_number r ≡ none
      → (row_there (installs_row r ∷ h) ≡ some r) × (column_there (installs_row r ∷ h) ≡ column_there h) × NoBoard (installs_row r ∷ h)
  pub column_installed : (r : Rule) → install_number r ≡ none
      → (row_there (installs_column r ∷ h) ≡ row_there h) × (column_there (installs_column r ∷ h) ≡ some r) × NoBoard (installs_column r ∷ h)
  -- an opening drops an earlier board; all bands are empty
  pub opened : (w n : ℕ) → answer_of h (opens w n) ≡ accepted
      → RulesKept h (opens w n) × (board_there (opens w n ∷ h) ≡ some (record { width = w; bands = n }))
      × ((p : ℕ) → standing (opens w n ∷ h) p ≡ none)
  -- a delivery and a withdrawal change their band alone
  pub delivered : (p : ℕ) (b : List ℕ) → answer_of h (delivers p b) ≡ accepted
      → RulesKept h (delivers p b) × OneBand h (delivers p b) p (some b)
  pub withdrawn : (p : ℕ) → answer_of h (withdraws p) ≡ accepted → RulesKept h (withdraws p) × OneBand h (withdraws p) p none
  -- a verdict changes nothing
  pub asked : Unchanged h asks_verdict

-- the bytes b for band p and c for band q: each delivery is answered as without the other, and in
-- either order they leave the same bands and the same verdict
pub record AnyOrder (h : List Call) (p q : ℕ) (b c : List ℕ) : Type 0 where
  pub answered : answer_of (delivers q c ∷ h) (delivers p b) ≡ answer_of h (delivers p b)
  pub bands : (i : ℕ) → standing (delivers p b ∷ delivers q c ∷ h) i ≡ standing (delivers q c ∷ delivers p b ∷ h) i
  pub verdict : verdict_in (delivers p b ∷ delivers q c ∷ h) ≡ verdict_in (delivers q c ∷ delivers p b ∷ h)

-- ONE CLAIM over a list of calls h
pub record EveryList (h : List Call) : Type 0 where
  -- each reply is document 02's answer after the calls before it
  pub correct : replies_to h ≡ answers_to h
  -- the installations of either rule answer as the judge's; the number of sets and M with which they
  -- do are, of each rule that they accept, those of its automaton
  pub row_installation : Installation (λ r. answer_of h (installs_row r))
  pub column_installation : Installation (λ r. answer_of h (installs_column r))
  pub method : (r : Rule) → install_number r ≡ none → Method (automaton_of r) (built_of r)
  -- another call is accepted exactly when none of its conditions holds, and refused with a number
  -- exactly when that one is the first that holds
  pub accepted_exactly : AcceptedExactly h
  pub refused_exactly : RefusedExactly h
  -- an accepted call changes what it says, a refused call nothing; bands may come in any order
  pub changes : Changes h
  pub any_order : (p q : ℕ) → (p ≡ q → ⊥) → (b c : List ℕ) → AnyOrder h p q b c
  pub unchanged : (c : Call) (x : ℕ) → refusal_of (answer_of h c) ≡ some x → Unchanged h c
  pub after : Invariant h (tray_after h)
  pub board : BoardClauses h
  pub verdict : VerdictClauses h
