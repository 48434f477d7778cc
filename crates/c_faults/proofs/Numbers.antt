-- The numbers are read back. Assumes nothing.
use mathlib.Core.Path.{◌≡◌, refl}
use Rattle.faults.specs.Faulting.{Finding, refused_as, row_at, column_at, short_at, open_with}
use Rattle.c_faults.specs.Numbers.{fault_shown, fault_read_back, Claims}

fault_back : (f : Finding) → fault_read_back (fault_shown f) ≡ f
fault_back (refused_as x) = refl
fault_back (row_at b i) = refl
fault_back (column_at c b i) = refl
fault_back (short_at c) = refl
fault_back (open_with m) = refl

pub claims : Claims
claims = record {
  refused = λ x. refl;
  still_open = λ m. refl;
  row = λ b i. refl;
  column = λ c b i. refl;
  short = λ c. refl;
  fault_back = fault_back;
}
