-- `scan_bytes` meets its contract. Assumes nothing.
use Rattle.mergescan.specs.Scanning.{scanned, scan_all}
use lib.ListN.{length, drop}
use mathlib.Core.Path.{◌≡◌}
use Rattle.mergescan.proofs.scan_bytes.Given as goal

abbrev pub invariant-loop-byte : goal.invariant-loop-byte
invariant-loop-byte l =
    (length l.one ≡ length l.initial.one) × (length l.two ≡ length l.initial.two)
    × (scan_all (scanned l.initial.scan l.initial.one l.initial.two) l.bytes ≡ scan_all (scanned l.scan l.one l.two) (drop l.byte-index l.bytes))
