-- `has_stray` meets its contract. The loop's invariant: found says what is foreign in the bytes
-- passed. Assumes nothing.
use Rattle.std.proofs.Common.{◌≡◌, take}
use Rattle.marks.specs.Marks.{text_of}
use Rattle.chunks.specs.Chunks.{foreign}
use Rattle.follow.proofs.has_stray.Given as goal

abbrev pub invariant-loop-byte : goal.invariant-loop-byte
invariant-loop-byte l = l.found ≡ foreign (text_of (take l.byte-index l.chunk)) l.k
