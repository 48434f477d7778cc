-- A text fed through two functions, of which no more is known than their contracts allow: one that is
-- given a block from an index on and room for answers, and one that is given the end of the text.
-- proofs/Functions.antt proves that what is written is then what `Blocks` says.
--
--   Gather s before block at t next written after   what the first may do: from the state s, with the
--                  buffer `before` for answers, it leaves the state t, goes on at `next`, and has put
--                  `written` bytes of answers at the start of the buffer, which is `after` then
--   Finish s before written after                    what the second may do
--   FedBlock block at s s' text   the first is called again and again with a block, from the index at
--                  which the call before left off, up to the block's end, each time with any buffer:
--                  `text` is what the calls have put, one behind the other
--   FedBlocks s blocks s' text    so with blocks, one after the other
--   Promised m, Ended m                what the definitions say of the two
--   Kept m Gather, Ends m Finish       what they may do is that
use Rattle.std.specs.Prelude.{List, [], ◌∷◌, ◌++◌, ℕ, ◌≤◌, length, take}
use Rattle.text.specs.Writing.{Wrote}
use Rattle.linetexts.specs.Feeding.{LineMachine, State, finish_of, gather_at, Gathers}

abbrev pub GatheringFunction : Type 0 → Type 1
GatheringFunction S = S → List ℕ → List ℕ → ℕ → S → ℕ → ℕ → List ℕ → Type 0

abbrev pub FinishingFunction : Type 0 → Type 1
FinishingFunction S = S → List ℕ → ℕ → List ℕ → Type 0

module _ {S : Type 0} (Gather : GatheringFunction S) where
  pub data FedBlock (block : List ℕ) : ℕ → S → S → List ℕ → Type 0 where
    over : {at : ℕ} {s : S} → length block ≤ at → FedBlock block at s s []
    round : {at next written : ℕ} {s t s' : S} {before after text : List ℕ}
        → Gather s before block at t next written after → FedBlock block next t s' text
        → FedBlock block at s s' (take written after ++ text)

  pub data FedBlocks : S → List (List ℕ) → S → List ℕ → Type 0 where
    no_block : {s : S} → FedBlocks s [] s []
    one_more : {s s' s'' : S} {block text more : List ℕ} {blocks : List (List ℕ)} → FedBlock block 0 s s' text → FedBlocks s' blocks s'' more
        → FedBlocks s (block ∷ blocks) s'' (text ++ more)

module _ {K J : Type 0} (m : LineMachine K J) where
  abbrev pub Promised : GatheringFunction (State K J)
  Promised s before block at t next written after = Gathers (gather_at m block at (length before) s) at t next written before after

  abbrev pub Ended : FinishingFunction (State K J)
  Ended s before written after = Wrote before 0 (finish_of m s).text after written

  abbrev pub Kept : GatheringFunction (State K J) → Type 0
  Kept Gather =
      (s t : State K J) (before block after : List ℕ) (at next written : ℕ) → Gather s before block at t next written after
      → Promised s before block at t next written after

  abbrev pub Ends : FinishingFunction (State K J) → Type 0
  Ends Finish = (s : State K J) (before after : List ℕ) (written : ℕ) → Finish s before written after → Ended s before written after
