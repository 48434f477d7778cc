-- The numbers that C is given are read back. Assumes nothing.
use mathlib.Core.Path.{◌≡◌, refl}
use Rattle.diagnoses.specs.Diagnosing.{Finding, refused_as, lost_at, open_with}
use Rattle.locating.specs.Locating.{Spot, refused_for, stuck_after, nowhere}
use Rattle.c_losses.specs.Numbers.{diagnosis_shown, spot_shown, diagnosis_read_back, spot_read_back, Claims}

diagnosis_back : (f : Finding) → diagnosis_read_back (diagnosis_shown f) ≡ f
diagnosis_back (refused_as x) = refl
diagnosis_back (lost_at p) = refl
diagnosis_back (open_with m) = refl

spot_back : (s : Spot) → spot_read_back (spot_shown s) ≡ s
spot_back (refused_for x) = refl
spot_back (stuck_after b) = refl
spot_back nowhere = refl

pub claims : Claims
claims = record {
  refused = λ x. refl;
  lost = λ p. refl;
  still_open = λ m. refl;
  spot_refused = λ x. refl;
  lost_after_lem = λ b. refl;
  lost_nowhere = refl;
  diagnosis_back = diagnosis_back;
  spot_back = spot_back;
}
