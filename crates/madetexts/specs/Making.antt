-- What making a text answers, and what it leaves in the lent buffer, on all inputs (document 02,
-- R-14): "The text fills the lent buffer; k outside 1 to 16 gives 4", "refuses, after 4, with 41 a
-- zero seed". Where it refuses, the buffer is as it was.
--
--   made_conditions k seed    the conditions, in order
--   made_number k seed        the number of the first that holds
--   buffer_after k seed b     the buffer b after the call
--   Makes                     what `make_text` promises
use Rattle.std.specs.Prelude.{Result, ◌≡◌, List, [], ◌∷◌, ℕ, eqb, length}
use Rattle.std.proofs.Math.Option.{Option, none, some}
use Rattle.base.specs.Answers.{result_number}
use Rattle.base.specs.Conditions.{Condition, on, first_of, outside}
use Rattle.limits.specs.Limits.{most_symbols}
use Rattle.base.specs.declared.Refusal.{Refusal}
use Rattle.madetexts.specs.Values.{made_text}

abbrev pub made_conditions : ℕ → ℕ → List Condition
made_conditions k seed = on 4 (outside 1 most_symbols k) ∷ on 41 (eqb seed 0) ∷ []

abbrev pub made_number : ℕ → ℕ → Option ℕ
made_number k seed = first_of (made_conditions k seed)

abbrev pub buffer_by : Option ℕ → ℕ → ℕ → List ℕ → List ℕ
buffer_by none k seed buffer = made_text k seed (length buffer)
buffer_by (some number) k seed buffer = buffer

abbrev pub buffer_after : ℕ → ℕ → List ℕ → List ℕ
buffer_after k seed buffer = buffer_by (made_number k seed) k seed buffer

pub record Makes (k seed : ℕ) (before : List ℕ) (r : Result (Unit {0}) Refusal) (after : List ℕ) : Type 0 where
  pub answer : result_number r ≡ made_number k seed
  pub buffer : after ≡ buffer_after k seed before
