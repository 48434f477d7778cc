-- What is claimed of checking a rule, for the rules worked by hand and for every rule;
-- proofs/Claims.antt proves it.
--
--   Stray r             a target mask is bad: that of a state and a symbol of the table
--   StatesIn, SymbolsIn, MasksIn   n is 1 to 32, k is 1 to 16, both masks are below 2 ^ n
--   RefusedExactly r    which number the rule has, condition by condition
use Rattle.std.specs.Prelude.{◌≡◌, ◌↔◌, ◌⊎◌, ℕ, ◌^◌, ◌≤◌, ◌<◌}
use Rattle.std.proofs.Math.Option.{none, some}
use Rattle.limits.specs.Limits.{most_states, most_symbols}
use Rattle.automaton.specs.declared.Rule.{Rule}
use Rattle.automaton.specs.Rules.{target_mask, WellFormed}
use Rattle.rulecheck.specs.Checking.{rule_number}
use Rattle.rulecheck.specs.Worked.{rules, Answered}

pub record Stray (r : Rule) : Type 0 where
  pub state : ℕ
  pub symbol : ℕ
  pub row : state < most_states
  pub column : symbol < most_symbols
  -- it has a bit at n or above, or it is kept for a state or symbol outside n or k and is not 0
  pub bad : (2 ^ r.n ≤ target_mask r.targets state symbol)
      ⊎ (((r.n ≤ state) ⊎ (r.k ≤ symbol)) × (target_mask r.targets state symbol ≡ 0 → ⊥))

abbrev pub StatesIn : Rule → Type 0
StatesIn r = (1 ≤ r.n) × (r.n ≤ most_states)

abbrev pub SymbolsIn : Rule → Type 0
SymbolsIn r = (1 ≤ r.k) × (r.k ≤ most_symbols)

abbrev pub MasksIn : Rule → Type 0
MasksIn r = (r.initials < 2 ^ r.n) × (r.finals < 2 ^ r.n)

pub record RefusedExactly (r : Rule) : Type 0 where
  -- n outside 1 to 32
  pub number_3 : (rule_number r ≡ some 3) ↔ ((r.n < 1) ⊎ (most_states < r.n))
  -- n within, k outside 1 to 16
  pub number_4 : (rule_number r ≡ some 4) ↔ (StatesIn r × ((r.k < 1) ⊎ (most_symbols < r.k)))
  -- both within, a mask that is not below 2 ^ n
  pub number_6 : (rule_number r ≡ some 6)
      ↔ (StatesIn r × SymbolsIn r × ((2 ^ r.n ≤ r.initials) ⊎ (2 ^ r.n ≤ r.finals)))
  -- both within, the masks below 2 ^ n, and a bad target mask
  pub number_8 : (rule_number r ≡ some 8) ↔ (StatesIn r × SymbolsIn r × MasksIn r × Stray r)
  -- no other number
  pub no_other : (x : ℕ) → rule_number r ≡ some x → (x ≡ 3) ⊎ (x ≡ 4) ⊎ (x ≡ 6) ⊎ (x ≡ 8)

pub record Claims : Type 0 where
  -- rules at the edges, some for each number, are answered as their list says
  pub answered : Answered rules
  -- none of the conditions holds exactly where the rule is well formed
  pub passes : (r : Rule) → (rule_number r ≡ none) ↔ WellFormed r
  pub refused : (r : Rule) → RefusedExactly r
