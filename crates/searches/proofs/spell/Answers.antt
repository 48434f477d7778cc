-- `spell` meets its contract. Assumes nothing.
use mathlib.Core.Path.{◌∙◌, subst}
use mathlib.Core.List.{List}
use Prim.Native.Nat.{ℕ, ◌-◌}
use native.Mathlib.Omega.{arith}
use lib.ListN.{drop, length-drop}
use lib.Seq.{take_all}
use Rattle.searches.specs.mirror.Tables.{Spells}
use Rattle.searches.proofs.spell.Goals as goal

pub slice_bounds-front_text-end : goal.slice_bounds-front_text-end
slice_bounds-front_text-end c = let w = c.walk_back-back in omega (arith, w.ensures.0, w.ensures.1)

pub returns : goal.returns
returns c =
    let w = c.walk_back-back in
    subst (λ (x : List ℕ). Spells c.front_text.result x)
    (take_all (511 - w.result.from) (drop w.result.from w.result.text) (omega (arith, w.ensures.1, length-drop w.result.from w.result.text))
    ∙ w.ensures.2)
    c.front_text.ensures
