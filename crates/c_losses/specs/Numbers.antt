-- The numbers that C is given for a loss. Every field is fixed: what an answer has no use for is 0.
-- A kind is none of a verdict's, 1 to 4, so that none passes for a yes.
--
--   diagnosis_shown f     kind 0 refused, 5 lost, 6 open, each with its number
--   spot_shown s          kind 0 refused, 5 lost after so many bytes, 6 nowhere
--   diagnosis_read_back, spot_read_back  what such a result says, read back from its numbers
--   Claims                the kinds, and that nothing is lost by it; proofs/Numbers.antt proves it
use Rattle.std.specs.Prelude.{◌≡◌, cond, ℕ, eqb}
use Rattle.diagnoses.specs.Diagnosing.{Finding, refused_as, lost_at, open_with}
use Rattle.locating.specs.Locating.{Spot, refused_for, stuck_after, nowhere}
use Rattle.c_losses.specs.declared.DiagnosisNumbers.{DiagnosisNumbers}
use Rattle.c_losses.specs.declared.SpotNumbers.{SpotNumbers}

abbrev pub diagnosis_shown : Finding → DiagnosisNumbers
diagnosis_shown (refused_as x) = record { kind = 0; number = x }
diagnosis_shown (lost_at p) = record { kind = 5; number = p }
diagnosis_shown (open_with m) = record { kind = 6; number = m }

abbrev pub spot_shown : Spot → SpotNumbers
spot_shown (refused_for x) = record { kind = 0; number = x }
spot_shown (stuck_after b) = record { kind = 5; number = b }
spot_shown nowhere = record { kind = 6; number = 0 }

abbrev pub diagnosis_read_back : DiagnosisNumbers → Finding
diagnosis_read_back r = cond (eqb r.kind 0) (refused_as r.number) (cond (eqb r.kind 5) (lost_at r.number) (open_with r.number))

abbrev pub spot_read_back : SpotNumbers → Spot
spot_read_back r = cond (eqb r.kind 0) (refused_for r.number) (cond (eqb r.kind 5) (stuck_after r.number) nowhere)

pub record Claims : Type 0 where
  -- the kinds
  pub refused : (x : ℕ) → diagnosis_shown (refused_as x) ≡ record { kind = 0; number = x }
  pub lost : (p : ℕ) → diagnosis_shown (lost_at p) ≡ record { kind = 5; number = p }
  pub still_open : (m : ℕ) → diagnosis_shown (open_with m) ≡ record { kind = 6; number = m }
  pub spot_refused : (x : ℕ) → spot_shown (refused_for x) ≡ record { kind = 0; number = x }
  pub lost_after_lem : (b : ℕ) → spot_shown (stuck_after b) ≡ record { kind = 5; number = b }
  pub lost_nowhere : spot_shown nowhere ≡ record { kind = 6; number = 0 }
  -- nothing is lost
  pub diagnosis_back : (f : Finding) → diagnosis_read_back (diagnosis_shown f) ≡ f
  pub spot_back : (s : Spot) → spot_read_back (spot_shown s) ≡ s
