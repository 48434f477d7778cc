-- Each way out of reading a pattern, from what the tests on the way answered. Assumes nothing.
--
--   on_30, on_31, on_32   a refusal
--   none_on               no condition holds
--   Read, read            then the bytes stand for a pattern of at most 31 letters, and what was
--                         read is the rule of its positions
--   passes, room          which is well formed, and its file has room in the value
--   written               the file, by value
use mathlib.Core.Path.{◌≡◌, sym, ap, ◌∙◌, subst}
use mathlib.Core.Bool.{true, false, not}
use mathlib.Core.List.{List}
use mathlib.Core.Option.{Option, none, some}
use Prim.Native.Nat.{ℕ, ◌≤◌, ◌<◌}
use lib.ListN.{length, drop, replicate}
use borrow.Author.Tests.{lt-ltb, le-ltb}
use Rattle.base.specs.Conditions.{Condition, first_of}
use Rattle.base.proofs.Conditions.{holds, skips}
use Rattle.automaton.specs.declared.Rule.{Rule}
use Rattle.text.specs.Writing.{Wrote}
use Rattle.rulecheck.specs.Checking.{rule_number}
use Rattle.rulecheck.proofs.Laws as rulecheck
use Rattle.ruleformat.specs.Writing.{file_of}
use Rattle.rulewriter.specs.Written.{padded, Writing}
use Rattle.rulewriter.proofs.Values.{padded_is, length_is}
use Rattle.patterns.specs.Limits.{longest_pattern_file}
use Rattle.patterns.specs.Patterns.{Pattern}
use Rattle.patterns.specs.Grammar.{StandsFor}
use Rattle.patterns.specs.Positions.{position_rule}
use Rattle.patterns.specs.Claims.{Few}
use Rattle.patterns.proofs.Claims as patterns
use Rattle.patternscan.specs.Signs.{letters_in}
use Rattle.patternscan.specs.Scanning.{grammatical}
use Rattle.patternscan.proofs.Claims as scan
use Rattle.patternreader.specs.Rules.{rule_read}
use Rattle.patternreader.proofs.Claims as reader
use Rattle.patternfile.specs.Answers.{too_long, no_pattern, too_many_letters, pattern_conditions, pattern_number, pattern_file_by, pattern_of, refused_with}

-- the number decides the whole outcome
abbrev pub outcome_by_lem : Option ℕ → List ℕ → Writing
outcome_by_lem o b = record { number = o; length = length (pattern_file_by o b); bytes = padded longest_pattern_file (pattern_file_by o b) }

pub refuses : (b : List ℕ) {x : ℕ} → pattern_number b ≡ some x → refused_with x ≡ pattern_of b
refuses b e = ap (λ (o : Option ℕ). outcome_by_lem o b) (sym e)

-- the conditions behind the first, and behind the second
abbrev pub from_31 : List ℕ → List Condition
from_31 b = drop 1 (pattern_conditions b)

abbrev pub from_32 : List ℕ → List Condition
from_32 b = drop 2 (pattern_conditions b)

module _ (b : List ℕ) where
  pub on_30 : 128 < length b → refused_with 30 ≡ pattern_of b
  on_30 h =
      refuses b (holds 30 (too_long b) (first_of (from_31 b)) (lt-ltb 128 (length b) h))

  module _ (short : length b ≤ 128) where
    past_30 : pattern_number b ≡ first_of (from_31 b)
    past_30 = skips 30 (too_long b) (first_of (from_31 b)) (le-ltb 128 (length b) short)

    pub on_31 : grammatical b ≡ false → refused_with 31 ≡ pattern_of b
    on_31 e = refuses b (past_30 ∙ holds 31 (no_pattern b) (first_of (from_32 b)) (ap not e))

    module _ (is : grammatical b ≡ true) where
      past_31 : pattern_number b ≡ first_of (from_32 b)
      past_31 = past_30 ∙ skips 31 (no_pattern b) (first_of (from_32 b)) (ap not is)

      pub on_32 : 31 < length (letters_in b) → refused_with 32 ≡ pattern_of b
      on_32 h = refuses b (past_31 ∙ holds 32 (too_many_letters b) none (lt-ltb 31 (length (letters_in b)) h))

      module _ (few : length (letters_in b) ≤ 31) where
        pub none_on : pattern_number b ≡ none
        none_on = past_31 ∙ skips 32 (too_many_letters b) none (le-ltb 31 (length (letters_in b)) few)

-- ---- what is read
pub record Read (b : List ℕ) : Type 0 where
  pub pattern : Pattern
  pub stands : StandsFor pattern b
  pub few : Few pattern
  pub rule : rule_read b ≡ position_rule pattern

pub counted : (p : Pattern) (b : List ℕ) → StandsFor p b → length (letters_in b) ≤ 31 → Few p
counted p b s few = subst (λ (x : ℕ). x ≤ 31) (ap length ((scan.claims).lettered p b s) ∙ (patterns.claims).counted p) few

pub read : (b : List ℕ) → length b ≤ 128 → grammatical b ≡ true → length (letters_in b) ≤ 31 → Read b
read b short is few =
    let t = ((scan.claims).decides b).0 is in
    let f = counted t.0 b t.1 few in
    record { pattern = t.0; stands = t.1; few = f; rule = (reader.claims).rule t.0 b t.1 short f }

module _ (b : List ℕ) (r : Read b) where
  pub passes : rule_number (rule_read b) ≡ none
  passes =
      subst (λ (x : Rule). rule_number x ≡ none) (sym r.rule)
      ((rulecheck.passes (position_rule r.pattern)).1 ((patterns.claims).well_formed r.pattern r.few))

  pub room : length (file_of (rule_read b)) ≤ 2122
  room = subst (λ (x : Rule). length (file_of x) ≤ 2122) (sym r.rule) ((patterns.claims).small_file r.pattern r.few)

same : {a b : ℕ} {s t : List ℕ} → a ≡ b → s ≡ t
    → ◌≡◌ {A = Writing} (record { number = none; length = a; bytes = s }) (record { number = none; length = b; bytes = t })
same p q = cc

pub written : (b : List ℕ) → pattern_number b ≡ none → {after : List ℕ} {end : ℕ}
    → Wrote (replicate longest_pattern_file 0) 0 (file_of (rule_read b)) after end
    → record { number = none; length = end; bytes = after } ≡ pattern_of b
written b e w =
    same (length_is longest_pattern_file w) (padded_is longest_pattern_file w) ∙ ap (λ (o : Option ℕ). outcome_by_lem o b) (sym e)
