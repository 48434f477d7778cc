-- Two automata made one (document 02, R-10). The first has n1 states, the second n2.
--
--   Moving               the way in which a pair of states moves: both members together, or one
--                        alone
--   pair_of n2 q1 q2      the state that is the pair (q1, q2): q1 × n2 + q2
--   first_in, second_in  the members of the pair that a state is
--   Moves way a b ..     the pair (q1, q2) moves by the symbol s to the pair (p1, p2)
--   OfBoth n2 P R q      what the pair q is when both its members are
--   product way a b      the automaton of pairs
--   Own n1 P R q         what the state q is in its own automaton, where the second's states follow
--                        the first's
--   sum a b              the automaton of the states of both
use Rattle.std.specs.Prelude.{◌≡◌, ◌⊎◌, ℕ, ◌+◌, ◌-◌, ◌*◌, ◌/◌, ◌%◌, ◌<◌, ◌≤◌}
use Rattle.automaton.specs.Automaton.{Automaton}

pub data Moving : Type 0 where
  together : Moving
  alone : Moving

-- ---- pairs
abbrev pub pair_of : ℕ → ℕ → ℕ → ℕ
pair_of n2 q1 q2 = q1 * n2 + q2

abbrev pub first_in : ℕ → ℕ → ℕ
first_in n2 q = q / n2

abbrev pub second_in : ℕ → ℕ → ℕ
second_in n2 q = q % n2

abbrev pub Moves : Moving → Automaton → Automaton → ℕ → ℕ → ℕ → ℕ → ℕ → Type 0
Moves together a b q1 q2 s p1 p2 = (a.Delta q1 s p1) × (b.Delta q2 s p2)
Moves alone a b q1 q2 s p1 p2 =
    ((a.Delta q1 s p1) × (p2 ≡ q2)) ⊎ ((p1 ≡ q1) × (b.Delta q2 s p2))

-- a pair is initial or final when both its members are
abbrev pub OfBoth : ℕ → (ℕ → Type 0) → (ℕ → Type 0) → ℕ → Type 0
OfBoth n2 P R q = P (first_in n2 q) × R (second_in n2 q)

abbrev pub product : Moving → Automaton → Automaton → Automaton
product way a b = record {
  n = a.n * b.n;
  k = a.k;
  Delta = λ q s p.
      Moves way a b (first_in b.n q) (second_in b.n q) s (first_in b.n p) (second_in b.n p);
  Initial = OfBoth b.n a.Initial b.Initial;
  Final = OfBoth b.n a.Final b.Final;
}

-- ---- the states of both
abbrev pub Own : ℕ → (ℕ → Type 0) → (ℕ → Type 0) → ℕ → Type 0
Own n1 P R q = ((q < n1) × P q) ⊎ ((n1 ≤ q) × R (q - n1))

abbrev pub sum : Automaton → Automaton → Automaton
sum a b = record {
  n = a.n + b.n;
  k = a.k;
  Delta = λ q s p.
      Own a.n (λ q1. (p < a.n) × a.Delta q1 s p) (λ q2. (a.n ≤ p) × b.Delta q2 s (p - a.n)) q;
  Initial = Own a.n a.Initial b.Initial;
  Final = Own a.n a.Final b.Final;
}
