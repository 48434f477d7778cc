-- The number of empty bands, call by call (document 02, R-13: "waiting as on a board"): by
-- equations between the number after a call and the number before it, where `empties_in` of
-- specs/History.antt counts the bands at which nothing stands. proofs/Empties.antt proves that
-- `empties_in` is that number.
--
--   EmptyBands empties   empties h is the number of empty bands after the calls h
use Rattle.std.specs.Prelude.{◌≡◌, List, [], ◌∷◌, ℕ, ◌+◌}
use Rattle.std.proofs.Math.Option.{some}
use Rattle.automaton.specs.declared.Rule.{Rule}
use Rattle.trays.specs.Replies.{refusal_of}
use Rattle.trays.specs.Calls.{Call, installs_row, installs_column, opens, delivers, withdraws, asks_verdict}
use Rattle.trayhistories.specs.History.{answer_of}
use Rattle.trayhistories.specs.Last.{Accepted}

pub record EmptyBands (empties : List Call → ℕ) : Type 0 where
  -- a fresh tray has no board
  pub at_first : empties [] ≡ 0
  -- a board of n bands, all empty
  pub opened : (h : List Call) (w n : ℕ) → Accepted h (opens w n) → empties (opens w n ∷ h) ≡ n
  -- a delivery fills an empty band: a filled one refuses it
  pub filled : (h : List Call) (p : ℕ) (b : List ℕ) → Accepted h (delivers p b) → empties (delivers p b ∷ h) + 1 ≡ empties h
  -- band p becomes empty
  pub withdrawn : (h : List Call) (p : ℕ) → Accepted h (withdraws p) → empties (withdraws p ∷ h) ≡ empties h + 1
  -- "either installation removes its board"
  pub row_installed : (h : List Call) (r : Rule) → Accepted h (installs_row r) → empties (installs_row r ∷ h) ≡ 0
  pub column_installed : (h : List Call) (r : Rule) → Accepted h (installs_column r) → empties (installs_column r ∷ h) ≡ 0
  -- a verdict and a refused call change nothing
  pub asked : (h : List Call) → empties (asks_verdict ∷ h) ≡ empties h
  pub refused : (h : List Call) (c : Call) (x : ℕ) → refusal_of (answer_of h c) ≡ some x → empties (c ∷ h) ≡ empties h
