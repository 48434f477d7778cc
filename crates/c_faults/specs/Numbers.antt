-- The numbers that C is given for what goes wrong in a tray. Every field is fixed: what an answer
-- has no use for is 0. A kind is none of a verdict's, 1 to 4, so that none passes for a yes; refused
-- and open are those of a diagnosis.
--
--   fault_shown f     kind 0 refused, 6 open, each with its number; 7 a row, 8 a column that is
--                     lost, 9 a short one
--   fault_read_back r  what such a result says, read back from its numbers
--   Claims            the kinds, and that nothing is lost by it; proofs/Numbers.antt proves it
use Rattle.std.specs.Prelude.{◌≡◌, cond, ℕ, eqb}
use Rattle.faults.specs.Faulting.{Finding, refused_as, row_at, column_at, short_at, open_with}
use Rattle.c_faults.specs.declared.FaultNumbers.{FaultNumbers}

abbrev pub fault_shown : Finding → FaultNumbers
fault_shown (refused_as x) = record { kind = 0; number = x; column = 0; band = 0; row = 0 }
fault_shown (row_at b i) = record { kind = 7; number = 0; column = 0; band = b; row = i }
fault_shown (column_at c b i) = record { kind = 8; number = 0; column = c; band = b; row = i }
fault_shown (short_at c) = record { kind = 9; number = 0; column = c; band = 0; row = 0 }
fault_shown (open_with m) = record { kind = 6; number = m; column = 0; band = 0; row = 0 }

abbrev pub fault_read_back : FaultNumbers → Finding
fault_read_back r =
    cond (eqb r.kind 0) (refused_as r.number)
    (cond (eqb r.kind 7) (row_at r.band r.row)
    (cond (eqb r.kind 8) (column_at r.column r.band r.row)
    (cond (eqb r.kind 9) (short_at r.column) (open_with r.number))))

pub record Claims : Type 0 where
  -- the kinds
  pub refused : (x : ℕ) → fault_shown (refused_as x) ≡ record { kind = 0; number = x; column = 0; band = 0; row = 0 }
  pub still_open : (m : ℕ) → fault_shown (open_with m) ≡ record { kind = 6; number = m; column = 0; band = 0; row = 0 }
  pub row : (b i : ℕ) → fault_shown (row_at b i) ≡ record { kind = 7; number = 0; column = 0; band = b; row = i }
  pub column : (c b i : ℕ) → fault_shown (column_at c b i) ≡ record { kind = 8; number = 0; column = c; band = b; row = i }
  pub short : (c : ℕ) → fault_shown (short_at c) ≡ record { kind = 9; number = 0; column = c; band = 0; row = 0 }
  -- nothing is lost
  pub fault_back : (f : Finding) → fault_read_back (fault_shown f) ≡ f
