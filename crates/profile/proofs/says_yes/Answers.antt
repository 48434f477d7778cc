-- `says_yes` meets its contract. Assumes nothing.
use mathlib.Core.Path.{ap}
use Prim.Native.Nat.{ℕ}
use Rattle.masks.specs.Masks.{shares}
use Rattle.profile.proofs.says_yes.Goals as goal

pub returns : goal.returns
returns c = ap (λ (x : ℕ). shares x c.args.profile.finals) c.image.ensures
