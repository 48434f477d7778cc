-- What the code's rounds are, and that every list of blocks has them. Assumes nothing.
use mathlib.Core.Path.{◌≡◌, sym, ap, ◌∙◌, subst}
use mathlib.Core.List.{List, [], ◌∷◌, ◌++◌, flatten}
use Prim.Native.Nat.{ℕ, zero, suc, ◌≤◌}
use native.Mathlib.Omega.{arith}
use lib.ListN.{length, take, drop, length-drop}
use lib.Seq.{drop-drop}
use Rattle.text.proofs.Fitting.{taken}
use Rattle.linetexts.specs.Parts.{parts_of}
use Rattle.linetexts.specs.Feeding.{LineMachine, State, gather_parts, gather_at, Gathers}
use Rattle.linetexts.specs.Claims.{Rounds, over, round, Blocks, no_block, one_more}
use Rattle.linetexts.proofs.Rounds.{forward}

module _ {K J : Type 0} (m : LineMachine K J) where
  pub gathered : (room at : ℕ) (block : List ℕ) (s s' t : State K J) (next written : ℕ) (before now : List ℕ) (texts : List (List ℕ))
      → Gathers (gather_at m block at room s) at t next written before now
      → Rounds m t (drop next block) s' texts
      → Rounds m s (drop at block) s' (take written now ∷ texts)
  gathered room at block s s' t next written before now texts came rest =
      let g = gather_at m block at room s in
      let left : drop next block ≡ drop g.taken (drop at block) =
      ap (λ (n : ℕ). drop n block) came.place ∙ sym (drop-drop g.taken at block) in
      let here : Rounds m g.state (drop next block) s' texts =
      subst (λ (x : State K J). Rounds m x (drop next block) s' texts) came.state rest in
      let from : Rounds m g.state (drop g.taken (drop at block)) s' texts =
      subst (λ (v : List ℕ). Rounds m g.state v s' texts) left here in
      subst (λ (v : List ℕ). Rounds m s (drop at block) s' (v ∷ texts)) (sym (taken came.response)) (round room from)

  -- by a number that the length of the block is at most
  rounds_by : (n room : ℕ) → m.most ≤ room → (block : List ℕ) (s : State K J) → length block ≤ n → (s' : State K J) × (texts : List (List ℕ)) × Rounds m s block s' texts
  rounds_by zero room enough [] s l = (s, [], over)
  rounds_by zero room enough (x ∷ block) s l = absurd (omega arith)
  rounds_by (suc n) room enough [] s l = (s, [], over)
  rounds_by (suc n) room enough (x ∷ block) s l =
      let g = gather_parts m room s (parts_of (x ∷ block)) in
      let some = forward m room s (x ∷ block) enough (omega arith) in
      let rest = rounds_by n room enough (drop g.taken (x ∷ block)) g.state (omega (arith, some, length-drop g.taken (x ∷ block))) in
      (rest.0, g.text ∷ rest.1, round room rest.2)

  pub fed : (room : ℕ) → m.most ≤ room → (blocks : List (List ℕ)) (s : State K J) → (s' : State K J) × (text : List ℕ) × Blocks m s blocks s' text
  fed room enough [] s = (s, [], no_block)
  fed room enough (block ∷ blocks) s =
      let here = rounds_by (length block) room enough block s (omega arith) in
      let rest = fed room enough blocks here.0 in
      (rest.0, flatten here.1 ++ rest.1, one_more here.2 rest.2)
