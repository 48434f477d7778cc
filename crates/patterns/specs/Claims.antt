-- What is claimed of patterns and their positions, for every pattern that some bytes stand for;
-- proofs/Claims.antt proves it.
--
--   Few p          the pattern has at most 31 letters
--   Letter p i s   the i-th letter of p from the left is s; there is none before the first
use Rattle.std.specs.Prelude.{◌≡◌, ◌↔◌, ◌⊎◌, true, List, [], ℕ, zero, suc, ◌≤◌, ◌<◌, length, get_or}
use Rattle.std.proofs.Math.Option.{none}
use Rattle.masks.specs.Masks.{◌∈◌}
use Rattle.automaton.specs.Automaton.{Arc, Accepts}
use Rattle.automaton.specs.Rules.{automaton_of, WellFormed}
use Rattle.ruleformat.specs.Reader.{read_of}
use Rattle.ruleformat.specs.Language.{automaton_in}
use Rattle.ruleformat.specs.Writing.{file_of}
use Rattle.patterns.specs.Limits.{most_letters, longest_pattern_file}
use Rattle.patterns.specs.Patterns.{Pattern, Matches, letters, count}
use Rattle.patterns.specs.Grammar.{StandsFor}
use Rattle.patterns.specs.Positions.{nullable, first, last, follow, position_rule}
use Rattle.patterns.specs.Marked.{Begins, Ends, Comes}

abbrev pub Few : Pattern → Type 0
Few p = count p ≤ most_letters

abbrev pub Letter : Pattern → ℕ → ℕ → Type 0
Letter p zero s = ⊥
Letter p (suc j) s = (j < count p) × (get_or (letters p) j 0 ≡ s)

pub record Claims : Type 0 where
  -- the empty text, and how many letters there are
  pub empty_text : (p : Pattern) → (nullable p ≡ true) ↔ Matches p []
  pub counted : (p : Pattern) → length (letters p) ≡ count p
  -- the sets of positions are those that the texts of the marked pattern show
  pub firsts : (p : Pattern) (j : ℕ) → (j ∈ first p 0) ↔ Begins p j
  pub lasts : (p : Pattern) (i : ℕ) → (i ∈ last p 0) ↔ Ends p i
  pub follows : (p : Pattern) (i j : ℕ) → (j ∈ follow p 0 i) ↔ Comes p i j
  -- the positions' rule is well formed and accepts exactly the pattern's texts
  pub well_formed : (p : Pattern) → Few p → WellFormed (position_rule p)
  pub language : (p : Pattern) (b : List ℕ) → StandsFor p b → Few p → (w : List ℕ)
      → Accepts (automaton_of (position_rule p)) w ↔ Matches p w
  -- state 0 alone is initial, and an arc to state i is by the i-th letter
  pub initial : (p : Pattern) (q : ℕ) → (q ∈ (position_rule p).initials) ↔ (q ≡ 0)
  pub arc_letter : (p : Pattern) → Few p → (q s i : ℕ) → Arc (automaton_of (position_rule p)) q s i → Letter p i s
  -- exactly: there is an arc from q by s to i where the i-th letter is s, and a text begins with
  -- position i and q is 0, or i comes right after q; a state is final where a text ends with it,
  -- and state 0 where the empty text is one
  pub arc : (p : Pattern) (b : List ℕ) → StandsFor p b → Few p → (q s i : ℕ)
      → Arc (automaton_of (position_rule p)) q s i ↔ (Letter p i s × (((q ≡ 0) × Begins p i) ⊎ Comes p q i))
  pub final : (p : Pattern) (q : ℕ) → (q ∈ (position_rule p).finals) ↔ (Ends p q ⊎ ((q ≡ 0) × Matches p []))
  -- its file has at most 2,122 bytes, reading it gives this rule, and the automaton of the file's
  -- bytes accepts exactly the pattern's texts
  pub small_file : (p : Pattern) → Few p → length (file_of (position_rule p)) ≤ longest_pattern_file
  pub file_read : (p : Pattern) → Few p → read_of (file_of (position_rule p)) ≡ record { number = none; rule = position_rule p }
  pub file_language : (p : Pattern) (b : List ℕ) → StandsFor p b → Few p → (w : List ℕ)
      → Accepts (automaton_in (file_of (position_rule p))) w ↔ Matches p w
