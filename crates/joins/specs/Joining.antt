-- Joining (document 01, "The board and its calls"): C begins with the initial states, and for each
-- place in order becomes the union of the end sets of the delegates of its members (from R-7 on of
-- those that have one). Yes when C has a final state.
--
--   join_of e d n m p        C after the first p places, for n states: e p q is the end set of state
--                           q at place p, d q the delegate of q, and m the set of initial states. A
--                           member that has no delegate is passed over
--   yes_of e d n m f p       yes: C has a final state, f being the set of final states
--   join_up_to, says_yes    the same as the code does it, over arrays that may hold anything; n
--                           above 32 counts as 32
use Rattle.std.specs.Prelude.{Bool, List, ℕ, zero, suc, min}
use Rattle.std.proofs.Math.Option.{Option}
use Rattle.limits.specs.Limits.{most_states}
use Rattle.masks.specs.Masks.{union, shares}
use Rattle.delegates.specs.Alike.{delegate_in, of_delegate}
use Rattle.board.specs.Boards.{held_in}

unfoldable pub join_of : (ℕ → ℕ → ℕ) → (ℕ → Option ℕ) → ℕ → ℕ → ℕ → ℕ
join_of e d n m zero = m
join_of e d n m (suc p) = union (λ q. of_delegate (e p) (d q)) (join_of e d n m p) n

abbrev pub yes_of : (ℕ → ℕ → ℕ) → (ℕ → Option ℕ) → ℕ → ℕ → ℕ → ℕ → Bool
yes_of e d n m f p = shares (join_of e d n m p) f

abbrev pub join_up_to : List ℕ → List ℕ → ℕ → ℕ → ℕ → ℕ
join_up_to ends d n m p = join_of (held_in ends) (delegate_in d) (min n most_states) m p

abbrev pub says_yes : List ℕ → List ℕ → ℕ → ℕ → ℕ → ℕ → Bool
says_yes ends d n m f p = shares (join_up_to ends d n m p) f
