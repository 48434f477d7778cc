-- What is claimed of two automata made one, for every text; proofs/Claims.antt proves it.
--
--   Woven way u v w            w comes of u and v by the way of moving: moved together both are w;
--                              moved alone w is an interleaving of them
--   TwoRuns way a b ..         runs from q1 to p1 and from q2 to p2 whose texts come to w so
--   TwoTexts way a b w         a text that a accepts and one that b accepts come to w so
--   Interleaved a b w          w is an interleaving of a text that a accepts and one that b accepts
use Rattle.std.specs.Prelude.{◌≡◌, ◌↔◌, ◌⊎◌, Bool, true, false, List, ℕ, ◌<◌, length}
use Rattle.automaton.specs.Automaton.{Automaton, Run, Accepts}
use Rattle.products.specs.Interleavings.{Interleaving, marked}
use Rattle.products.specs.Products.{Moving, together, alone, pair_of, first_in, second_in, product, sum}
use Rattle.products.specs.Words.{InPairs, SideBySide}

abbrev pub Woven : Moving → List ℕ → List ℕ → List ℕ → Type 0
Woven together u v w = (u ≡ w) × (v ≡ w)
Woven alone u v w = Interleaving u v w

pub record TwoRuns (way : Moving) (a b : Automaton) (q1 q2 : ℕ) (w : List ℕ) (p1 p2 : ℕ) : Type 0 where
  pub u : List ℕ
  pub v : List ℕ
  pub woven : Woven way u v w
  pub first : Run a q1 u p1
  pub second : Run b q2 v p2

pub record TwoTexts (way : Moving) (a b : Automaton) (w : List ℕ) : Type 0 where
  pub u : List ℕ
  pub v : List ℕ
  pub woven : Woven way u v w
  pub first : Accepts a u
  pub second : Accepts b v

pub record Interleaved (a b : Automaton) (w : List ℕ) : Type 0 where
  pub u : List ℕ
  pub v : List ℕ
  pub first : Accepts a u
  pub second : Accepts b v
  pub interleaves : Interleaving u v w

pub record Claims : Type 1 where
  -- a second way to say it: the symbols of an interleaving can be marked so that those with one
  -- mark are the first text and the others the second
  pub by_marks : (u v w : List ℕ) → Interleaving u v w
      ↔ (marks : List Bool) × (length marks ≡ length w) × (u ≡ marked true marks w) × (v ≡ marked false marks w)
  -- the members of the pair that the state q1 × n2 + q2 is
  pub members : (n2 q1 q2 : ℕ) → q2 < n2
      → (first_in n2 (pair_of n2 q1 q2) ≡ q1) × (second_in n2 (pair_of n2 q1 q2) ≡ q2)
  -- both automata are what the request's words say
  pub in_pairs : (a b : Automaton) → a.k ≡ b.k → (way : Moving) → InPairs way a b (product way a b)
  pub side_by_side : (a b : Automaton) → a.k ≡ b.k → SideBySide a b (sum a b)
  -- a run over pairs is a run of each automaton, whichever way a pair moves
  pub runs : (a b : Automaton) → a.k ≡ b.k → (way : Moving) (q1 q2 p1 p2 : ℕ) (w : List ℕ) → q2 < b.n → p2 < b.n
      → Run (product way a b) (pair_of b.n q1 q2) w (pair_of b.n p1 p2) ↔ TwoRuns way a b q1 q2 w p1 p2
  -- and so are the texts that pairs accept
  pub texts : (a b : Automaton) → a.k ≡ b.k → (way : Moving) (w : List ℕ)
      → Accepts (product way a b) w ↔ TwoTexts way a b w
  -- each way's language
  pub both : (a b : Automaton) → a.k ≡ b.k → (w : List ℕ)
      → Accepts (product together a b) w ↔ (Accepts a w × Accepts b w)
  pub interleaving : (a b : Automaton) → a.k ≡ b.k → (w : List ℕ)
      → Accepts (product alone a b) w ↔ Interleaved a b w
  pub either : (a b : Automaton) → a.k ≡ b.k → (w : List ℕ)
      → Accepts (sum a b) w ↔ (Accepts a w ⊎ Accepts b w)
