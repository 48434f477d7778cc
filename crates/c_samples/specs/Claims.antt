-- The law of the numbers that C is given for a sample: the kinds, what asking for one answers read
-- back from them, and that every number is that of a wish. proofs/ReadBack.antt proves it.
use Rattle.std.specs.Prelude.{◌≡◌, List, ℕ, ◌≤◌}
use Rattle.automaton.specs.declared.Rule.{Rule}
use Rattle.samples.specs.declared.Wish.{Wish}
use Rattle.samples.specs.declared.Wish.TheVariants.{Accepted, Rejected}
use Rattle.samples.specs.Values.{Reply, found, none_there, refused, Outcome, outcome_of, sample_in}
use Rattle.samples.specs.Search.{sample_of}
use Rattle.c_samples.specs.Numbers.{wish_of, sample_shown, sample_read_back}

-- an answer with the reply p is shown as kind k with the number x of a refusal, and the length and
-- the text as they are
abbrev pub Shows : Reply → ℕ → ℕ → Type 0
Shows p k x = (n : ℕ) (t : List ℕ) → sample_shown (record { reply = p; length = n; text = t }) ≡ record { kind = k; refused = x; length = n; text = t }

pub record Claims : Type 0 where
  -- the kinds
  pub refused : (x : ℕ) → Shows (refused x) 0 x
  pub a_text : Shows found 1 0
  pub no_text : Shows none_there 2 0
  -- nothing is lost
  pub read_back : (o : Outcome) → sample_read_back (sample_shown o) ≡ o
  -- and so the numbers tell the answer
  pub told : (r : Rule) (wish : Wish) → sample_in (sample_read_back (sample_shown (outcome_of (sample_of r wish)))) ≡ sample_of r wish
  -- what every number of the wish means
  pub wish_0 : wish_of 0 ≡ Accepted
  pub wish_other : (x : ℕ) → 1 ≤ x → wish_of x ≡ Rejected
