-- What the functions of crates/stream allow by their own contracts, as the checker reads them
-- (`Reads.Learnt`), over what is left between the blocks of a text: any result and any last buffers
-- that a contract does not rule out.
--
--   pending_of s    what the code keeps of the state s beside the judge and the line's buffer
--   MayGather       what `gather` may do (linetexts/specs/Functions says of which numbers)
--   MayFinish       what `finish` may do
use Rattle.std.specs.Prelude.{◌≡◌, List, ℕ}
use contract.Lifetimes.{Lfts}
use Rattle.std.specs.Borrow.{Bor, MutBor}
use denote.Triple.Clauses.{AtExit}
use borrow.Fn.Kinds.{ended_of}
use Rattle.linetexts.specs.declared.Pending.{Pending}
use Rattle.linetexts.specs.Feeding.{State}
use Rattle.linetexts.specs.Beginnings.{Beginning}
use Rattle.linetexts.specs.Lists.{Listed, text_state}
use Rattle.linetexts.specs.Functions.{GatheringFunction, FinishingFunction}
use Rattle.calls.specs.declared.Judge.{Judge}
use Rattle.stream.specs.declared.Gathered.{Gathered}
use Rattle.stream.proofs.gather.Reads as gather_reads
use Rattle.stream.proofs.gather.Kinds as gather_kinds
use Rattle.stream.proofs.finish.Reads as finish_reads
use Rattle.stream.proofs.finish.Kinds as finish_kinds

abbrev pub pending_of : {J : Type 0} → State Beginning (Listed J) → Pending
pending_of s = record { held = s.kept.held; ended = s.machine.ended }

abbrev pub MayGather : GatheringFunction (State Beginning (Listed Judge))
MayGather s before block at t next written after =
    (κs : Lfts 4) × (line bytes out : MutBor (List ℕ)) × (text : Bor (List ℕ)) × (r : Gathered) × (e : AtExit (ended_of 4 gather_kinds.ps gather_kinds.r) κs)
    × (line.now ≡ s.kept.line) × (out.now ≡ before) × (text.now ≡ block)
    × gather_reads.Learnt κs (s.machine.machine, (pending_of s, (line, (bytes, (out, (text, (at, tt))))))) r e
    × (t ≡ text_state r.judge r.pending e.1.1.0.now) × (next ≡ r.at) × (written ≡ r.written) × (after ≡ e.1.1.1.1.0.now)

abbrev pub MayFinish : FinishingFunction (State Beginning (Listed Judge))
MayFinish s before written after =
    (κs : Lfts 3) × (line : Bor (List ℕ)) × (bytes out : MutBor (List ℕ)) × (e : AtExit (ended_of 3 finish_kinds.ps finish_kinds.r) κs)
    × (line.now ≡ s.kept.line) × (out.now ≡ before)
    × finish_reads.Learnt κs (s.machine.machine, (pending_of s, (line, (bytes, (out, tt))))) written e × (after ≡ e.1.1.1.1.0.now)
