-- Lists of a tray's calls, and what such a list says by itself (document 02, R-13, with document 01's
-- "The board and its calls", bands in the part of chunks). A list has the LAST call first. Nothing
-- here looks at a state.
--
--   row_there h, column_there h  the row rule and the column rule that are there: that of the last
--                               accepted installation of each, if there is one
--   row_in h, column_in h        the same, or zeros
--   lacks_rule_in h             either rule is absent
--   open_number h w n           the number with which an opening is refused: 20, 38, 10
--   Size, board_there h         the width and the number of bands of the board that is there: those
--                               of the last accepted opening, if no accepted installation of either
--                               rule came after it
--   width_in h, bands_in h       the same; 0 where no board is there
--   deliver_check, withdraw_check  the number with which a delivery and a withdrawal at band p are
--                                  refused, by the rules' symbols, the board and what stands at p
--   standing h p                the bytes last accepted at band p since that opening and not
--                               withdrawn since, or none
--   deliver_number, withdraw_number  21, 11, 39, 13, 22 and 21, 11, 23 after the calls h
--   empties_in h                how many bands are empty
--   rows_at h p, rows_there h    the rows of the standing band p, and of all in their order
--   yes_in h, verdict_in h       every row and every column is accepted; the verdict
--   answer_of h c                what document 02 answers to the call c after the calls h
--   answers_to h                its answers to all calls of the list
use Rattle.std.specs.Prelude.{Bool, cond, ◌&&◌, ◌||◌, List, [], ◌∷◌, ℕ, eqb}
use Rattle.std.proofs.Math.Option.{Option, none, some}
use Rattle.base.specs.Conditions.{first_of}
use Rattle.base.specs.Options.{is_none, is_some}
use Rattle.base.specs.Totals.{total}
use Rattle.automaton.specs.declared.Rule.{Rule}
use Rattle.calls.specs.Calls.{install_number}
use Rattle.histories.specs.History.{rule_from}
use Rattle.trays.specs.Rows.{rows_in, rows_up_to, passes}
use Rattle.trays.specs.Replies.{Judgement, Reply, accepted, judged, reply_by, with_sets}
use Rattle.trays.specs.Calls.{Call, installs_row, installs_column, opens, delivers, withdraws, asks_verdict, open_conditions, deliver_conditions, withdraw_conditions, verdict_by}

-- ---- which rules are there
unfoldable pub row_there : List Call → Option Rule
row_there [] = none
row_there (installs_row r ∷ h) = cond (is_none (install_number r)) (some r) (row_there h)
row_there (installs_column r ∷ h) = row_there h
row_there (opens w n ∷ h) = row_there h
row_there (delivers p b ∷ h) = row_there h
row_there (withdraws p ∷ h) = row_there h
row_there (asks_verdict ∷ h) = row_there h

unfoldable pub column_there : List Call → Option Rule
column_there [] = none
column_there (installs_row r ∷ h) = column_there h
column_there (installs_column r ∷ h) = cond (is_none (install_number r)) (some r) (column_there h)
column_there (opens w n ∷ h) = column_there h
column_there (delivers p b ∷ h) = column_there h
column_there (withdraws p ∷ h) = column_there h
column_there (asks_verdict ∷ h) = column_there h

abbrev pub row_in : List Call → Rule
row_in h = rule_from (row_there h)

abbrev pub column_in : List Call → Rule
column_in h = rule_from (column_there h)

abbrev pub lacks_rule_in : List Call → Bool
lacks_rule_in h = is_none (row_there h) || is_none (column_there h)

-- ---- which board is there
abbrev pub open_number : List Call → ℕ → ℕ → Option ℕ
open_number h w n = first_of (open_conditions (lacks_rule_in h) w n)

pub record Size : Type 0 where
  pub width : ℕ
  pub bands : ℕ

-- an accepted installation of either rule removes it
unfoldable pub board_there : List Call → Option Size
board_there [] = none
board_there (installs_row r ∷ h) = cond (is_none (install_number r)) none (board_there h)
board_there (installs_column r ∷ h) = cond (is_none (install_number r)) none (board_there h)
board_there (opens w n ∷ h) = cond (is_none (open_number h w n)) (some (record { width = w; bands = n })) (board_there h)
board_there (delivers p b ∷ h) = board_there h
board_there (withdraws p ∷ h) = board_there h
board_there (asks_verdict ∷ h) = board_there h

abbrev pub width_from : Option Size → ℕ
width_from none = 0
width_from (some s) = s.width

abbrev pub bands_from : Option Size → ℕ
bands_from none = 0
bands_from (some s) = s.bands

abbrev pub width_in : List Call → ℕ
width_in h = width_from (board_there h)

abbrev pub bands_in : List Call → ℕ
bands_in h = bands_from (board_there h)

-- ---- which bytes stand where. `kr` and `kc` are the rules' numbers of symbols, `board` is the board
-- that is there, `at_p` what stands at band p: a filled band refuses, there are no revisions
abbrev pub deliver_check : ℕ → ℕ → Option Size → Option (List ℕ) → ℕ → List ℕ → Option ℕ
deliver_check kr kc board at_p p b = first_of (deliver_conditions (is_none board) (bands_from board) (width_from board) kr kc (is_some at_p) p b)

abbrev pub withdraw_check : Option Size → Option (List ℕ) → ℕ → Option ℕ
withdraw_check board at_p p = first_of (withdraw_conditions (is_none board) (bands_from board) (is_none at_p) p)

unfoldable pub standing : List Call → ℕ → Option (List ℕ)
standing [] p = none
standing (installs_row r ∷ h) p = cond (is_none (install_number r)) none (standing h p)
standing (installs_column r ∷ h) p = cond (is_none (install_number r)) none (standing h p)
standing (opens w n ∷ h) p = cond (is_none (open_number h w n)) none (standing h p)
standing (delivers q b ∷ h) p =
    cond (eqb q p && is_none (deliver_check (row_in h).k (column_in h).k (board_there h) (standing h q) q b)) (some b) (standing h p)
standing (withdraws q ∷ h) p = cond (eqb q p && is_none (withdraw_check (board_there h) (standing h q) q)) none (standing h p)
standing (asks_verdict ∷ h) p = standing h p

-- the rows of what stands, of w events each; an empty band has none
abbrev pub rows_from : ℕ → Option (List ℕ) → List (List ℕ)
rows_from w none = []
rows_from w (some b) = rows_in w b

-- of what stands at the first n bands, one band after the other
abbrev pub joined_rows : ℕ → (ℕ → Option (List ℕ)) → ℕ → List (List ℕ)
joined_rows w at n = rows_up_to (λ p. rows_from w (at p)) n

module _ (h : List Call) where
  abbrev pub deliver_number : ℕ → List ℕ → Option ℕ
  deliver_number p b = deliver_check (row_in h).k (column_in h).k (board_there h) (standing h p) p b

  abbrev pub withdraw_number : ℕ → Option ℕ
  withdraw_number p = withdraw_check (board_there h) (standing h p) p

  abbrev pub empties_in : ℕ
  empties_in = total (λ p. cond (is_none (standing h p)) 1 0) (bands_in h)

  abbrev pub rows_at : ℕ → List (List ℕ)
  rows_at p = rows_from (width_in h) (standing h p)

  abbrev pub rows_there : List (List ℕ)
  rows_there = joined_rows (width_in h) (standing h) (bands_in h)

  abbrev pub yes_in : Bool
  yes_in = passes (row_in h) (column_in h) (width_in h) rows_there

  abbrev pub verdict_in : Judgement
  verdict_in = verdict_by (is_none (board_there h)) empties_in yes_in

-- ---- the answers
abbrev pub answer_of : List Call → Call → Reply
answer_of h (installs_row r) = reply_by (install_number r) (with_sets r)
answer_of h (installs_column r) = reply_by (install_number r) (with_sets r)
answer_of h (opens w n) = reply_by (open_number h w n) accepted
answer_of h (delivers p b) = reply_by (deliver_number h p b) accepted
answer_of h (withdraws p) = reply_by (withdraw_number h p) accepted
answer_of h asks_verdict = judged (verdict_in h)

-- the answers to a list of calls, the last first
unfoldable pub answers_to : List Call → List Reply
answers_to [] = []
answers_to (c ∷ h) = answer_of h c ∷ answers_to h
