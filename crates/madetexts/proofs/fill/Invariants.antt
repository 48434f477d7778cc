-- `fill` meets its contract. The loop's invariant: what is filled in, and then the text made from the
-- value reached, is the whole text. Assumes nothing.
use mathlib.Core.Path.{◌≡◌}
use mathlib.Core.List.{◌++◌}
use Prim.Native.Nat.{◌≤◌, ◌-◌}
use lib.ListN.{length, take}
use Rattle.madetexts.specs.Values.{made_text}
use Rattle.madetexts.proofs.fill.Given as goal

abbrev pub invariant-loop-byte : goal.invariant-loop-byte
invariant-loop-byte l =
    (l.byte-index ≤ length l.text) × (length l.text ≡ length l.initial.text) × (made_text l.k l.seed (length l.initial.text) ≡ take l.byte-index l.text ++ made_text l.k l.x (length l.initial.text - l.byte-index))
