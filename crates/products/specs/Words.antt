-- The request's own words (document 02, R-10) on an automaton c that is made of a, with n1 states,
-- and b, with n2: by the numbers of pairs, without quotients. A second way to say what
-- Products.antt defines; Claims.antt says that both agree.
--
--   ArcMoves way a b ..   arcs of a and b that move the pair (q1, q2) by s to (p1, p2): one of
--                         each, or one alone, while the other member stays
--   InPairs way a b c     the states of c are the pairs, and move so
--   SideBySide a b c      the states of c are those of a, and after them those of b
use Rattle.std.specs.Prelude.{◌≡◌, ◌↔◌, ◌⊎◌, ℕ, ◌+◌, ◌*◌, ◌<◌}
use Rattle.automaton.specs.Automaton.{Automaton, Arc}
use Rattle.products.specs.Products.{Moving, together, alone, pair_of}

abbrev pub ArcMoves : Moving → Automaton → Automaton → ℕ → ℕ → ℕ → ℕ → ℕ → Type 0
ArcMoves together a b q1 q2 s p1 p2 = Arc a q1 s p1 × Arc b q2 s p2
ArcMoves alone a b q1 q2 s p1 p2 = (Arc a q1 s p1 × (p2 ≡ q2)) ⊎ ((p1 ≡ q1) × Arc b q2 s p2)

pub record InPairs (way : Moving) (a b c : Automaton) : Type 0 where
  pub states : c.n ≡ a.n * b.n
  pub symbols : (c.k ≡ a.k) × (c.k ≡ b.k)
  -- the pair (q1, q2) is state q1 × n2 + q2, and every state is one
  pub pair : (q1 q2 : ℕ) → q1 < a.n → q2 < b.n → pair_of b.n q1 q2 < c.n
  pub every : (q : ℕ) → q < c.n → (q1 : ℕ) × (q2 : ℕ) × (q1 < a.n) × (q2 < b.n) × (q ≡ pair_of b.n q1 q2)
  -- it is initial or final when both its members are
  pub initial : (q1 q2 : ℕ) → q2 < b.n → c.Initial (pair_of b.n q1 q2) ↔ (a.Initial q1 × b.Initial q2)
  pub final : (q1 q2 : ℕ) → q2 < b.n → c.Final (pair_of b.n q1 q2) ↔ (a.Final q1 × b.Final q2)
  -- an arc moves both, or one alone
  pub arc : (q1 q2 s p1 p2 : ℕ) → q1 < a.n → q2 < b.n → p1 < a.n → p2 < b.n
      → Arc c (pair_of b.n q1 q2) s (pair_of b.n p1 p2) ↔ ArcMoves way a b q1 q2 s p1 p2

pub record SideBySide (a b c : Automaton) : Type 0 where
  pub states : c.n ≡ a.n + b.n
  pub symbols : (c.k ≡ a.k) × (c.k ≡ b.k)
  -- a state is what it is in its own automaton
  pub initial_first : (q : ℕ) → q < a.n → c.Initial q ↔ a.Initial q
  pub initial_second : (q : ℕ) → c.Initial (a.n + q) ↔ b.Initial q
  pub final_first : (q : ℕ) → q < a.n → c.Final q ↔ a.Final q
  pub final_second : (q : ℕ) → c.Final (a.n + q) ↔ b.Final q
  -- arcs included: none leads from one automaton to the other
  pub arc_first : (q s p : ℕ) → q < a.n → Arc c q s p ↔ Arc a q s p
  pub arc_second : (q s p : ℕ) → Arc c (a.n + q) s (a.n + p) ↔ Arc b q s p
  pub none_back : (q s p : ℕ) → p < a.n → Arc c (a.n + q) s p → ⊥
