-- The text of a reply is written. Assumes nothing.
--
--   mapped_room, mapped_whole   the digits of a mapping, and a line feed behind them
use mathlib.Core.List.{List, [], ◌∷◌}
use Prim.Native.Nat.{ℕ, ◌+◌, ◌≤◌, ◌<◌}
use native.Mathlib.Omega.{arith}
use lib.ListN.{length}
use Rattle.text.specs.Writing.{Wrote}
use Rattle.text.proofs.Rooms.{exact, more, two}
use Rattle.maptext.specs.MappingText.{mapping_text}
use Rattle.maptext.proofs.RoundTrip as maptext
use Rattle.mapcalls.specs.Calls.{mapped}
use Rattle.mapreplies.specs.Replies.{reply_text}

module _ (f before mid : List ℕ) (e : ℕ) (room : 17 ≤ length before) (wrote : Wrote before 0 (mapping_text f) mid e) where
  pub mapped_room : e < length mid
  mapped_room = more 16 0 (omega arith) (maptext_piece)
    where
      maptext_piece : Wrote before 0 (mapping_text f) mid e × (e ≤ 0 + 16)
      maptext_piece = (wrote, omega (arith, wrote.ends, (maptext.claims).sixteen f))

  pub mapped_whole : (after : List ℕ) (end : ℕ) → Wrote mid e (10 ∷ []) after end → Wrote before 0 (reply_text (mapped f)) after end
  mapped_whole after end last =
      (two 16 1 (omega arith) (wrote, omega (arith, wrote.ends, (maptext.claims).sixteen f)) (λ h. exact last)).0
