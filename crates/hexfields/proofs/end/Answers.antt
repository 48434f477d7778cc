-- `end` meets its contract. Assumes nothing.
use mathlib.Core.Logic.{inl, inr}
use Rattle.hexfields.proofs.end.Goals as goal

pub returns-in-Nothing : goal.returns-in-Nothing
returns-in-Nothing c =
    elim c.in-Nothing.is [
      | inl nothing ↦ rw nothing
      | inr (inl odd) ↦ rw odd.2
      | inr (inr stray) ↦ rw stray
    ]
