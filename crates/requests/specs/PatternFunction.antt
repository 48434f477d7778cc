-- What the function that C links for patterns (R-6) asks and allows by its own contract, as the
-- checker reads it (`Reads`): any result that the contract does not rule out.
--
--   AsksPattern b     what `bellbadger_pattern` asks before it is called on the bytes b
--   MayPattern b r    it may return the numbers r for the bytes b, which are lent
use Rattle.std.specs.Prelude.{◌≡◌, List, ℕ}
use contract.Lifetimes.{Lfts}
use Rattle.std.specs.Borrow.{Bor}
use denote.Triple.Clauses.{AtExit}
use borrow.Fn.Kinds.{ended_of}
use Rattle.c_patterns.specs.declared.PatternNumbers.{PatternNumbers}
use Rattle.c_patterns.proofs.bellbadger_pattern.Reads as pattern_reads
use Rattle.c_patterns.proofs.bellbadger_pattern.Kinds as pattern_kinds

abbrev pub AsksPattern : List ℕ → Type 0
AsksPattern b = (κs : Lfts 1) (c : Bor (List ℕ)) → c.now ≡ b → pattern_reads.Asked κs (c, tt)

abbrev pub MayPattern : List ℕ → PatternNumbers → Type 0
MayPattern b r =
    (κs : Lfts 1) × (c : Bor (List ℕ)) × (s : AtExit (ended_of 1 pattern_kinds.ps pattern_kinds.r) κs) × (c.now ≡ b)
    × pattern_reads.Learnt κs (c, tt) r s
