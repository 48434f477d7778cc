-- Alike states, live states, delegates and starts (document 01, "Merged starts"; document 004,
-- section 3.4; document 02, R-7, which leaves a state that leads nowhere without a delegate).
--
--   AcceptsFrom a q w   an accepting run over w starts in q
--   Alike a q r         over every text an accepting run starts in both or in neither
--   Live a q            a final state can be reached: an accepting run over some text starts in q
--   Lowest a q d        d is the lowest state alike to q
--   Delegate a q o      o is the delegate of q: none exactly where no final state can be reached,
--                       else the lowest state alike to q
--   delegate_in d q     the delegate of q in the list d, where any number from 32 on says that
--                       there is none
--   delegate_cell o     the number by which a list of delegates says o
--   of_delegate f o     the set f x of the delegate x, and the empty set where there is none
--   start_set d n        the starts, as a set: the states below n that are their own delegate,
--                       where d lists each state's delegate and n is at most 32, so that a number
--                       that says none is no state below n
--   start_count d n     M: how many they are
--   Merged a d m        d lists the delegate of each state, with zeros after them, and m is M
use Rattle.std.specs.Prelude.{◌≡◌, ◌↔◌, cond, List, ℕ, zero, suc, ◌+◌, ◌≤◌, ◌<◌, eqb, ltb, length, get_or}
use Rattle.std.proofs.Math.Option.{Option, none, some}
use Rattle.std.specs.Int.Bits.{bit_or}
use Rattle.limits.specs.Limits.{most_states, no_delegate}
use Rattle.masks.specs.Masks.{single}
use Rattle.automaton.specs.Automaton.{Automaton, Text, Run}

pub record AcceptsFrom (a : Automaton) (q : ℕ) (w : List ℕ) : Type 0 where
  pub to : ℕ
  pub ends : a.Final to
  pub run : Run a q w to

abbrev pub Alike : Automaton → ℕ → ℕ → Type 0
Alike a q r = (w : List ℕ) → Text a.k w → AcceptsFrom a q w ↔ AcceptsFrom a r w

pub record Live (a : Automaton) (q : ℕ) : Type 0 where
  pub text : List ℕ
  pub accepts : AcceptsFrom a q text

pub record Lowest (a : Automaton) (q d : ℕ) : Type 0 where
  pub state : d < a.n
  pub alike : Alike a q d
  pub lowest : (r : ℕ) → r < a.n → Alike a q r → d ≤ r

abbrev pub Delegate : Automaton → ℕ → Option ℕ → Type 0
Delegate a q none = Live a q → ⊥
Delegate a q (some d) = Live a q × Lowest a q d

-- ---- lists of delegates
unfoldable pub delegate_in : List ℕ → ℕ → Option ℕ
delegate_in d q = cond (ltb (get_or d q 0) most_states) (some (get_or d q 0)) none

abbrev pub delegate_cell : Option ℕ → ℕ
delegate_cell none = no_delegate
delegate_cell (some d) = d

abbrev pub of_delegate : (ℕ → ℕ) → Option ℕ → ℕ
of_delegate f none = 0
of_delegate f (some d) = f d

unfoldable pub start_set : List ℕ → ℕ → ℕ
start_set d zero = 0
start_set d (suc q) = bit_or (start_set d q) (cond (eqb (get_or d q 0) q) (single q) 0)

unfoldable pub start_count : List ℕ → ℕ → ℕ
start_count d zero = 0
start_count d (suc q) = start_count d q + cond (eqb (get_or d q 0) q) 1 0

pub record Merged (a : Automaton) (d : List ℕ) (m : ℕ) : Type 0 where
  pub cells : length d ≡ most_states
  pub delegates : (q : ℕ) → q < a.n → (o : Option ℕ) × Delegate a q o × (get_or d q 0 ≡ delegate_cell o)
  pub zeros : (q : ℕ) → a.n ≤ q → get_or d q 0 ≡ 0
  pub starts : m ≡ start_count d a.n
