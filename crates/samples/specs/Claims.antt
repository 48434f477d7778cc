-- What is claimed of the answer, for rules worked by hand, for every rule and either wish;
-- proofs/Claims.antt proves it.
--
--   RefusedExactly r wish    which number the rule is refused with, condition by condition
use Rattle.std.specs.Prelude.{◌≡◌, ◌↔◌, ◌⊎◌, List, ℕ, ◌≤◌, length}
use Rattle.std.proofs.Math.Option.{some}
use Rattle.automaton.specs.declared.Rule.{Rule}
use Rattle.automaton.specs.Rules.{WellFormed}
use Rattle.rulecheck.specs.Checking.{rule_number}
use Rattle.samples.specs.declared.Wish.{Wish}
use Rattle.samples.specs.Samples.{ManySets, Sample, text, refused, Due}
use Rattle.samples.specs.Values.{longest_sample, Outcome, Carries, outcome_of, sample_in}
use Rattle.samples.specs.Search.{search_number, sample_of}
use Rattle.samples.specs.Worked.{samples, Answered}

pub record RefusedExactly (r : Rule) (wish : Wish) : Type 0 where
  -- 3, 4, 6 and 8 as installing gives them
  pub checked : (x : ℕ) → x ≤ 8 → (sample_of r wish ≡ refused x) ↔ (rule_number r ≡ some x)
  -- a checked rule that reaches more than 512 sets
  pub number_35 : (sample_of r wish ≡ refused 35) ↔ (WellFormed r × ManySets r)
  -- no other number
  pub no_other : (x : ℕ) → sample_of r wish ≡ refused x → (x ≤ 8) ⊎ (x ≡ 35)

pub record Claims : Type 0 where
  -- samples worked by hand are what stands beside them
  pub answered : Answered samples
  -- it is the answer that is due, and no other is
  pub exactly : (r : Rule) (wish : Wish) (a : Sample) → (sample_of r wish ≡ a) ↔ Due r wish a
  pub numbers : (r : Rule) (wish : Wish) → RefusedExactly r wish
  -- a text has at most 511 symbols
  pub short : (r : Rule) (wish : Wish) (w : List ℕ) → sample_of r wish ≡ text w → length w ≤ longest_sample
  -- a value is that of the answer exactly where it carries an answer that is due
  pub value : (r : Rule) (wish : Wish) (o : Outcome)
      → (o ≡ outcome_of (sample_of r wish)) ↔ (a : Sample) × Due r wish a × Carries a o
  -- and tells it
  pub told : (r : Rule) (wish : Wish) → sample_in (outcome_of (sample_of r wish)) ≡ sample_of r wish
  -- the rule alone decides whether it is refused, and not the wish
  pub refused_alike : (r : Rule) (wish : Wish) (x : ℕ) → (sample_of r wish ≡ refused x) ↔ (search_number r ≡ some x)
