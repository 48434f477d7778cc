-- The number of empty places, call by call (document 01, "The board and its calls"): by equations
-- between the number after a call and the number before it, where `empties_in` of specs/History.antt
-- counts the places at which nothing stands. proofs/Empties.antt proves that `empties_in` is that
-- number.
--
--   EmptyPlaces empties   empties h is the number of empty places after the calls h
use Rattle.std.specs.Prelude.{◌≡◌, List, [], ◌∷◌, ℕ, ◌+◌}
use Rattle.std.proofs.Math.Option.{none, some}
use Rattle.automaton.specs.declared.Rule.{Rule}
use Rattle.calls.specs.Replies.{refusal_of}
use Rattle.calls.specs.Calls.{Call, installs, loads, opens, delivers, withdraws, asks_verdict}
use Rattle.histories.specs.History.{standing, answer_of}
use Rattle.histories.specs.Last.{Accepted}

pub record EmptyPlaces (empties : List Call → ℕ) : Type 0 where
  -- a fresh judge has no board
  pub at_first : empties [] ≡ 0
  -- "a board of N places, 1 to 64, all empty"
  pub opened : (h : List Call) (n : ℕ) → Accepted h (opens n) → empties (opens n ∷ h) ≡ n
  -- a delivery fills an empty place, and replaces what stands at another
  pub filled : (h : List Call) (p v : ℕ) (w : List ℕ) → Accepted h (delivers p v w) → standing h p ≡ none
      → empties (delivers p v w ∷ h) + 1 ≡ empties h
  pub replaced : (h : List Call) (p v : ℕ) (w : List ℕ) → Accepted h (delivers p v w) → (standing h p ≡ none → ⊥)
      → empties (delivers p v w ∷ h) ≡ empties h
  -- "place p becomes empty"
  pub withdrawn : (h : List Call) (p : ℕ) → Accepted h (withdraws p) → empties (withdraws p ∷ h) ≡ empties h + 1
  -- a load or an installation removes the board
  pub loaded : (h : List Call) (f : List ℕ) → Accepted h (loads f) → empties (loads f ∷ h) ≡ 0
  pub installed : (h : List Call) (r : Rule) → Accepted h (installs r) → empties (installs r ∷ h) ≡ 0
  -- a verdict and a refused call change nothing
  pub asked : (h : List Call) → empties (asks_verdict ∷ h) ≡ empties h
  pub refused : (h : List Call) (c : Call) (x : ℕ) → refusal_of (answer_of h c) ≡ some x → empties (c ∷ h) ≡ empties h
