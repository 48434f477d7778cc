-- What is written through functions is what the rounds of the blocks answer, where the functions may
-- do no more than the definitions say. Assumes nothing.
use mathlib.Core.Path.{◌≡◌, refl, sym, ap, ◌∙◌, subst}
use mathlib.Core.List.{List, [], ◌∷◌, ◌++◌, flatten}
use Prim.Native.Nat.{ℕ}
use lib.ListN.{length, take, drop, drop_of_length-le}
use Rattle.text.proofs.Fitting.{taken}
use Rattle.lines.specs.Splitting.{lines_of}
use Rattle.linetexts.specs.Feeding.{LineMachine, State, keeping}
use Rattle.linetexts.specs.Claims.{KeepsLines, lines_step, Rounds, Blocks}
use Rattle.linetexts.specs.Claims as claims
use Rattle.linetexts.specs.Functions.{GatheringFunction, FinishingFunction, FedBlock, over, round, FedBlocks, no_block, one_more, Kept, Ends}
use Rattle.linetexts.proofs.Fed.{gathered}
use Rattle.linetexts.proofs.Whole.{written_is}

module _ {K J : Type 0} (m : LineMachine K J) (Gather : GatheringFunction (State K J)) (kept : Kept m Gather) where
  block_rounds : {block : List ℕ} {at : ℕ} {s s' : State K J} {text : List ℕ} → FedBlock Gather block at s s' text
      → (texts : List (List ℕ)) × (flatten texts ≡ text) × Rounds m s (drop at block) s' texts
  unfolding flatten
  block_rounds {block} {at} {s} (over l) = ([], refl, subst (λ (b : List ℕ). Rounds m s b s []) (sym (drop_of_length-le block l)) claims.over)
  block_rounds {block} {at} {s} {s'} (round {next = next} {written = written} {t = t} {before = before} {after = after} may rest) =
      let others = block_rounds rest in (
        take written after ∷ others.0,
        ap (λ (v : List ℕ). take written after ++ v) others.1,
        gathered m (length before) at block s s' t next written before after others.0
            (kept s t before block after at next written may)
            others.2,
      )

  pub are_blocks : {s s' : State K J} {blocks : List (List ℕ)} {text : List ℕ} → FedBlocks Gather s blocks s' text → Blocks m s blocks s' text
  are_blocks no_block = claims.no_block
  are_blocks (one_more {s} {s'' = s''} {block = block} {text = text} {more = more} {blocks = blocks} fed rest) =
      let r = block_rounds fed in
      subst (λ (v : List ℕ). Blocks m s (block ∷ blocks) s'' (v ++ more)) r.1 (claims.one_more r.2 (are_blocks rest))

  pub all_written : {Keeps : K → List ℕ → Type 0} → KeepsLines m Keeps → (Finish : FinishingFunction (State K J)) → Ends m Finish
      → {written : ℕ} {s' : State K J} {blocks : List (List ℕ)} {j : J} {k : K} {text before after : List ℕ} → Keeps k []
      → FedBlocks Gather (keeping j k) blocks s' text → Finish s' before written after
      → text ++ take written after ≡ (lines_step m j (lines_of (flatten blocks))).text
  all_written keeps Finish ends {written = written} {s' = s'} {text = text} {before = before} {after = after} begun fed may =
      ap (λ (v : List ℕ). text ++ v) (taken (ends s' before after written may)) ∙ written_is m keeps begun (are_blocks fed)
