-- What the function that C links for made texts (R-14) asks and allows by its own contract, as the
-- checker reads it (`Reads`): any result and any last buffer that the contract does not rule out.
--
--   AsksText k seed before         what `bellbadger_make_text` asks before it is called
--   MayMake k seed before r after  it may return the numbers r, and leave the lent buffer so
use Rattle.std.specs.Prelude.{◌≡◌, List, ℕ}
use contract.Lifetimes.{Lfts}
use Rattle.std.specs.Borrow.{MutBor}
use denote.Triple.Clauses.{AtExit}
use borrow.Fn.Kinds.{ended_of}
use Rattle.c_texts.specs.declared.MadeNumbers.{MadeNumbers}
use Rattle.c_texts.proofs.bellbadger_make_text.Reads as text_reads
use Rattle.c_texts.proofs.bellbadger_make_text.Kinds as text_kinds

abbrev pub AsksText : ℕ → ℕ → List ℕ → Type 0
AsksText k seed before = (κs : Lfts 1) (c : MutBor (List ℕ)) → c.now ≡ before → text_reads.Asked κs (k, (seed, (c, tt)))

abbrev pub MayMake : ℕ → ℕ → List ℕ → MadeNumbers → List ℕ → Type 0
MayMake k seed before r after =
    (κs : Lfts 1) × (c : MutBor (List ℕ)) × (s : AtExit (ended_of 1 text_kinds.ps text_kinds.r) κs) × (c.now ≡ before)
    × (s.1.1.0.now ≡ after) × text_reads.Learnt κs (k, (seed, (c, tt))) r s
