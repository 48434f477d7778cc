-- What the functions that find a sample (R-9) ask and allow by their own contracts, as the checker reads
-- them (`Reads`): any result that the contract does not rule out.
--
--   AsksSample, MaySample    `find_sample`: before it is called on a rule and a wish, and what it may
--                            return for them
--   AsksSampleC, MaySampleC  `bellbadger_sample`, which C links: the same, the wish being a number
use Rattle.base.specs.declared.Refusal.{Refusal}
use Rattle.searches.specs.declared.Spelled.{Spelled}
use Rattle.std.specs.Prelude as code
use Rattle.std.specs.Prelude.{Result, ℕ}
use denote.Triple.Clauses.{AtExit}
use borrow.Fn.Kinds.{ended_of}
use Rattle.automaton.specs.declared.Rule.{Rule}
use Rattle.samples.specs.declared.Wish.{Wish}
use Rattle.sampling.proofs.find_sample.Reads as sample_reads
use Rattle.sampling.proofs.find_sample.Kinds as sample_kinds
use Rattle.c_samples.specs.declared.SampleNumbers.{SampleNumbers}
use Rattle.c_samples.proofs.bellbadger_sample.Reads as c_reads
use Rattle.c_samples.proofs.bellbadger_sample.Kinds as c_kinds

abbrev pub AsksSample : Rule → Wish → Type 0
AsksSample r wish = sample_reads.Asked tt (r, (wish, tt))

abbrev pub MaySample : Rule → Wish → Result (code.Option Spelled) Refusal → Type 0
MaySample r wish s =
    (e : AtExit (ended_of 0 sample_kinds.ps sample_kinds.r) tt) × sample_reads.Learnt tt (r, (wish, tt)) s e

abbrev pub AsksSampleC : ℕ → Rule → Type 0
AsksSampleC wish r = c_reads.Asked tt (wish, (r, tt))

abbrev pub MaySampleC : ℕ → Rule → SampleNumbers → Type 0
MaySampleC wish r s = (e : AtExit (ended_of 0 c_kinds.ps c_kinds.r) tt) × c_reads.Learnt tt (wish, (r, tt)) s e
