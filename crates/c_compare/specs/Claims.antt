-- The law of the numbers that C is given for two rules compared: the kinds, and what comparing answers
-- read back from them. proofs/ReadBack.antt proves it.
use Rattle.std.specs.Prelude.{◌≡◌, List, ℕ}
use Rattle.automaton.specs.declared.Rule.{Rule}
use Rattle.compare.specs.declared.Which.TheVariants.{First, Second}
use Rattle.compare.specs.Values.{Reply, apart, same, refused, Outcome, outcome_of, comparison_in}
use Rattle.compare.specs.Search.{compare_of}
use Rattle.c_compare.specs.Numbers.{comparison_shown, comparison_read_back}

-- an answer with the reply p is shown as kind k with the number x of a refusal, and the length and
-- the text as they are
abbrev pub Shows : Reply → ℕ → ℕ → Type 0
Shows p k x = (n : ℕ) (t : List ℕ) → comparison_shown (record { reply = p; length = n; text = t }) ≡ record { kind = k; refused = x; length = n; text = t }

pub record Claims : Type 0 where
  -- the kinds
  pub refused : (x : ℕ) → Shows (refused x) 0 x
  pub first_alone : Shows (apart First) 10 0
  pub second_alone : Shows (apart Second) 11 0
  pub the_same : Shows same 12 0
  -- nothing is lost
  pub read_back : (o : Outcome) → comparison_read_back (comparison_shown o) ≡ o
  -- and so the numbers tell the answer
  pub told : (one two : Rule) → comparison_in (comparison_read_back (comparison_shown (outcome_of (compare_of one two)))) ≡ compare_of one two
