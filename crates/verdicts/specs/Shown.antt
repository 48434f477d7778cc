-- A verdict in two numbers, as C is given it: its kind, and the number that it has.
--
--   kind_of v, number_of v  a verdict: kind 0 refused, 1 waiting, 2 yes, 3 no, each with its number
--   InNumbers v k x         the verdict v has the kind k and the number x
--   KindLaw                 the kinds, one by one; proofs/Shown.antt proves it
use Rattle.std.specs.Prelude.{◌≡◌, ℕ}
use Rattle.calls.specs.Replies.{Judgement, waiting, yes_with, no_with, refused_with}

abbrev pub kind_of : Judgement → ℕ
kind_of (refused_with number) = 0
kind_of (waiting empty) = 1
kind_of (yes_with count) = 2
kind_of (no_with count) = 3

abbrev pub number_of : Judgement → ℕ
number_of (refused_with number) = number
number_of (waiting empty) = empty
number_of (yes_with count) = count
number_of (no_with count) = count

abbrev pub InNumbers : Judgement → ℕ → ℕ → Type 0
InNumbers v kind number = (kind_of v ≡ kind) × (number_of v ≡ number)

pub record KindLaw : Type 0 where
  pub refused_is_0 : (x : ℕ) → InNumbers (refused_with x) 0 x
  pub waiting_is_1 : (empty : ℕ) → InNumbers (waiting empty) 1 empty
  pub yes_is_2 : (count : ℕ) → InNumbers (yes_with count) 2 count
  pub no_is_3 : (count : ℕ) → InNumbers (no_with count) 3 count
