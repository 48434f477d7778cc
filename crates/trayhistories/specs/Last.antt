-- Document 01's sentences on the last accepted call, of a tray (document 02, R-13): a rule is that
-- of the last accepted installation of its kind, a board that of the last accepted call among
-- installations and openings where this is an opening, and what stands at a band is what was last
-- accepted there since that opening, and not withdrawn since. Here they stand over the list cut in
-- two at that call, where specs/History.antt goes through the list; proofs/Last.antt proves that
-- both say the same. Of the state nothing is named but which calls are accepted, by the answers.
--
--   Accepted h c      after the calls h the call c is accepted: it is answered with no refusal
--   Last P h c e      c is the last accepted call of the kind P in the list h, after the calls e
--   RowRules c, ColumnRules c   c installs the row rule, the column rule
--   Begins c          c is an installation of either rule or an opening
--   Touches p c       it is one of these, or a delivery or a withdrawal at band p
--   LastRow .. LastStanding     what each definition of specs/History.antt is, by the last call
--                     of a kind
use Rattle.std.specs.Prelude.{◌≡◌, ◌↔◌, List, ℕ}
use Rattle.std.proofs.Math.Option.{none, some}
use Rattle.executions.specs.Last.{LastAccepted}
use Rattle.automaton.specs.declared.Rule.{Rule}
use Rattle.trays.specs.Replies.{refusal_of}
use Rattle.trays.specs.Calls.{Call, installs_row, installs_column, opens, delivers, withdraws, asks_verdict}
use Rattle.trayhistories.specs.History.{row_there, column_there, Size, board_there, standing, answer_of}

abbrev pub Accepted : List Call → Call → Type 0
Accepted h c = refusal_of (answer_of h c) ≡ none

abbrev pub Last : (Call → Type 0) → List Call → Call → List Call → Type 0
Last P h c earlier = LastAccepted Accepted P h c earlier

-- ---- kinds of calls
abbrev pub RowRules : Call → Type 0
RowRules (installs_row r) = Unit {0}
RowRules (installs_column r) = ⊥
RowRules (opens w n) = ⊥
RowRules (delivers p b) = ⊥
RowRules (withdraws p) = ⊥
RowRules asks_verdict = ⊥

abbrev pub ColumnRules : Call → Type 0
ColumnRules (installs_row r) = ⊥
ColumnRules (installs_column r) = Unit {0}
ColumnRules (opens w n) = ⊥
ColumnRules (delivers p b) = ⊥
ColumnRules (withdraws p) = ⊥
ColumnRules asks_verdict = ⊥

abbrev pub Begins : Call → Type 0
Begins (installs_row r) = Unit {0}
Begins (installs_column r) = Unit {0}
Begins (opens w n) = Unit {0}
Begins (delivers p b) = ⊥
Begins (withdraws p) = ⊥
Begins asks_verdict = ⊥

abbrev pub Touches : ℕ → Call → Type 0
Touches p (installs_row r) = Unit {0}
Touches p (installs_column r) = Unit {0}
Touches p (opens w n) = Unit {0}
Touches p (delivers q b) = q ≡ p
Touches p (withdraws q) = q ≡ p
Touches p asks_verdict = ⊥

-- ---- what the last one of a kind says
module _ (h : List Call) where
  abbrev pub LastRow : Type 0
  LastRow = (r : Rule) → (row_there h ≡ some r) ↔ (earlier : List Call) × Last RowRules h (installs_row r) earlier

  abbrev pub LastColumn : Type 0
  LastColumn = (r : Rule) → (column_there h ≡ some r) ↔ (earlier : List Call) × Last ColumnRules h (installs_column r) earlier

  -- with its width and bands
  abbrev pub LastBoard : Type 0
  LastBoard = (s : Size) → (board_there h ≡ some s) ↔ (earlier : List Call) × Last Begins h (opens s.width s.bands) earlier

  abbrev pub LastStanding : Type 0
  LastStanding = (p : ℕ) (b : List ℕ) → (standing h p ≡ some b) ↔ (earlier : List Call) × Last (Touches p) h (delivers p b) earlier
