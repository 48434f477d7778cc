-- What is claimed of reading a pattern, for every list of bytes, in the words of the request
-- (document 02, R-6) and of the grammar (crates/patterns, specs/Grammar.antt); proofs/Claims.antt
-- proves it.
--
--   LetterIn b i s     the i-th letter of the bytes b, from the left, is the symbol s; there is none
--                      before the first
--   automaton_for b    the automaton of the file that reading the bytes b answers, from its bytes
--   States b a         what the states of the automaton a are: state 0 the start and alone initial,
--                      state i the i-th letter of the bytes b; and it has 16 symbols
--   RefusedExactly b   which number the bytes b are refused with, in words
--   AllZero o          the outcome o has length 0, and every byte of it is 0
--   AcceptedFor p b    what is answered where the bytes b are accepted, for every pattern p that
--                      they stand for
use Rattle.std.specs.Prelude.{◌≡◌, ◌↔◌, ◌⊎◌, List, ℕ, zero, suc, ◌≤◌, ◌<◌, length, get_or, replicate}
use Rattle.std.proofs.Math.Option.{none, some}
use Rattle.limits.specs.Limits.{most_symbols}
use Rattle.automaton.specs.Automaton.{Automaton, Arc, Accepts}
use Rattle.ruleformat.specs.Reader.{read_of}
use Rattle.ruleformat.specs.Language.{automaton_in}
use Rattle.ruleformat.specs.Writing.{file_of}
use Rattle.rulewriter.specs.Written.{padded, Writing}
use Rattle.patterns.specs.Limits.{longest_pattern, most_letters, longest_pattern_file}
use Rattle.patterns.specs.Patterns.{Pattern, Matches, count}
use Rattle.patterns.specs.Grammar.{StandsFor}
use Rattle.patterns.specs.Positions.{position_rule}
use Rattle.patterns.specs.Claims.{Few}
use Rattle.patternscan.specs.Signs.{letters_in}
use Rattle.patternfile.specs.Answers.{pattern_number, pattern_of, refused_with, file_in}
use Rattle.patternfile.specs.Worked.{patterns, Answered}

abbrev pub LetterIn : List ℕ → ℕ → ℕ → Type 0
LetterIn b zero s = ⊥
LetterIn b (suc j) s = (j < length (letters_in b)) × (get_or (letters_in b) j 0 ≡ s)

abbrev pub automaton_for : List ℕ → Automaton
automaton_for b = automaton_in (file_in (pattern_of b))

pub record States (b : List ℕ) (a : Automaton) : Type 0 where
  pub number : a.n ≡ suc (length (letters_in b))
  pub symbols : a.k ≡ most_symbols
  pub start : (q : ℕ) → a.Initial q ↔ (q ≡ 0)
  pub arcs : (q s i : ℕ) → Arc a q s i → LetterIn b i s

pub record RefusedExactly (b : List ℕ) : Type 0 where
  -- over 128 bytes
  pub number_30 : (pattern_number b ≡ some 30) ↔ (longest_pattern < length b)
  -- no longer, and they stand for no pattern
  pub number_31 : (pattern_number b ≡ some 31) ↔ ((length b ≤ longest_pattern) × ((p : Pattern) → StandsFor p b → ⊥))
  -- no longer, and they stand for a pattern with more than 31 letters
  pub number_32 : (pattern_number b ≡ some 32)
      ↔ ((length b ≤ longest_pattern) × ((p : Pattern) × StandsFor p b × (most_letters < count p)))
  -- no other number
  pub no_other : (x : ℕ) → pattern_number b ≡ some x → (x ≡ 30) ⊎ (x ≡ 31) ⊎ (x ≡ 32)

abbrev pub AllZero : Writing → Type 0
AllZero o = (o.length ≡ 0) × (o.bytes ≡ replicate longest_pattern_file 0)

pub record AcceptedFor (p : Pattern) (b : List ℕ) : Type 0 where
  -- the file of the rule of the positions, zeros after it
  pub file : pattern_of b ≡ record {
    number = none;
    length = length (file_of (position_rule p));
    bytes = padded longest_pattern_file (file_of (position_rule p));
  }
  -- none of 1 to 8 holds of it, and reading it gives this rule
  pub read : read_of (file_in (pattern_of b)) ≡ record { number = none; rule = position_rule p }
  -- it accepts exactly the pattern's texts
  pub language : (w : List ℕ) → Accepts (automaton_for b) w ↔ Matches p w
  -- and its states are the letters
  pub states : States b (automaton_for b)

pub record Claims : Type 0 where
  -- patterns worked by hand are answered as their list says
  pub answered : Answered patterns
  pub refused : (b : List ℕ) → RefusedExactly b
  -- a refusal carries zeros
  pub zeros : (b : List ℕ) (x : ℕ) → pattern_number b ≡ some x → pattern_of b ≡ refused_with x
  pub each_zero : (b : List ℕ) (x : ℕ) → pattern_number b ≡ some x → AllZero (pattern_of b)
  -- accepted exactly where none of these holds
  pub accepted : (b : List ℕ) → (pattern_number b ≡ none) ↔ ((length b ≤ longest_pattern) × ((p : Pattern) × StandsFor p b × Few p))
  pub accepted_for : (p : Pattern) (b : List ℕ) → StandsFor p b → pattern_number b ≡ none → AcceptedFor p b
  -- the value always has room for the file
  pub fits : (b : List ℕ) → (pattern_of b).length ≤ longest_pattern_file
  pub room : (b : List ℕ) → length (pattern_of b).bytes ≡ longest_pattern_file
