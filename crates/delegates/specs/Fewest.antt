-- The fewest starts (document 02, R-12).
--
--   Covers a S      S is a choice of starting states, as a list of any numbers: each state from
--                   which a final state can be reached has an alike one in it
--   start_list d n  the starts, as a list, the highest first: the states below n that are their own
--                   delegate, where d lists each state's delegate
use Rattle.std.specs.Prelude.{◌≡◌, ◌↔◌, cond, List, [], ◌∷◌, ℕ, zero, suc, ◌≤◌, ◌<◌, eqb, length, get_or}
use Rattle.automaton.specs.Automaton.{Automaton}
use Rattle.delegates.specs.Alike.{Alike, Live, Merged}

abbrev pub Covers : Automaton → List ℕ → Type 0
Covers a S = (q : ℕ) → q < a.n → Live a q → (i : ℕ) × (i < length S) × Alike a q (get_or S i 0)

unfoldable pub start_list : List ℕ → ℕ → List ℕ
start_list d zero = []
start_list d (suc q) = cond (eqb (get_or d q 0) q) (q ∷ start_list d q) (start_list d q)

pub record FewestClaims : Type 1 where
  -- every choice has at least M members
  pub fewest : (a : Automaton) (d : List ℕ) (m : ℕ) → Merged a d m → (S : List ℕ) → Covers a S → m ≤ length S
  -- the starts are a choice, and it has M members
  pub starts_cover : (a : Automaton) (d : List ℕ) (m : ℕ) → Merged a d m → Covers a (start_list d a.n)
  pub start_count_lem : (a : Automaton) (d : List ℕ) (m : ℕ) → Merged a d m → length (start_list d a.n) ≡ m
  -- the list has the states that are their own delegate, and no other
  pub start_list_lem : (d : List ℕ) (n q : ℕ)
      → ((i : ℕ) × (i < length (start_list d n)) × (get_or (start_list d n) i 0 ≡ q)) ↔ ((q < n) × (get_or d q 0 ≡ q))
