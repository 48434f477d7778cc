-- The fields that the answers for C have in common. The header says: "Wherever accepted stands: it
-- is 1 or 0; where it is 0, refused has the number."
--
--   flag_by x, refused_by x  the fields `accepted` and `refused` for the number x of a refusal, or
--                           none: 0 and the number, or 1 and 0
--   bit_by t                a field that is 1 where t holds, else 0
--   refusal_by a n          the number of the refusal, or none, that the two fields say
--   FlagLaw x a n           the fields a and n for the number x, or none, in the header's words
--   BitLaw t b              the same of a field that is 1 or 0
--   Claims                  the two are so for the definitions; proofs/Flags.antt proves it
use Rattle.std.specs.Prelude.{◌≡◌, ◌↔◌, ◌⊎◌, Bool, true, cond, ℕ, eqb}
use Rattle.std.proofs.Math.Option.{Option, none, some}

abbrev pub flag_by : Option ℕ → ℕ
flag_by none = 1
flag_by (some number) = 0

abbrev pub refused_by : Option ℕ → ℕ
refused_by none = 0
refused_by (some number) = number

abbrev pub bit_by : Bool → ℕ
bit_by test = cond test 1 0

abbrev pub refusal_by : ℕ → ℕ → Option ℕ
refusal_by accepted refused = cond (eqb accepted 1) none (some refused)

pub record FlagLaw (number : Option ℕ) (accepted refused : ℕ) : Type 0 where
  -- it is 1 or 0: `if (r.accepted)` holds of no refusal
  pub one_or_zero : (accepted ≡ 1) ⊎ (accepted ≡ 0)
  -- 1 exactly where nothing is refused, and then no number stands beside it
  pub accepted_exactly : (accepted ≡ 1) ↔ (number ≡ none)
  pub no_number : accepted ≡ 1 → refused ≡ 0
  -- where it is 0, refused has the number
  pub refused_exactly : (x : ℕ) → ((accepted ≡ 0) × (refused ≡ x)) ↔ (number ≡ some x)

pub record BitLaw (test : Bool) (bit : ℕ) : Type 0 where
  pub one_or_zero : (bit ≡ 1) ⊎ (bit ≡ 0)
  pub one_exactly : (bit ≡ 1) ↔ (test ≡ true)

pub record Claims : Type 0 where
  pub flags : (number : Option ℕ) → FlagLaw number (flag_by number) (refused_by number)
  pub bits : (test : Bool) → BitLaw test (bit_by test)
  -- nothing is lost
  pub refusal_back : (number : Option ℕ) → refusal_by (flag_by number) (refused_by number) ≡ number
  pub bit_back : (test : Bool) → eqb (bit_by test) 1 ≡ test
