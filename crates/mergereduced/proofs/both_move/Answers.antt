-- `both_move` meets its contract. Assumes nothing.
use Rattle.mergereduced.proofs.Ways.{left_low, right_low, read_both}
use mathlib.Core.Path.{ap₂, ◌∙◌}
use Prim.Native.Nat.{ℕ}
use Rattle.masks.specs.Masks.{has}
use Rattle.merging.specs.Merged.{pairs}
use Rattle.mergereduced.proofs.both_move.Goals as goal

pub mask_at-a-requires : goal.mask_at-a-requires
mask_at-a-requires c = let a = c.args in let g = c.requires in (left_low a.n1 a.n2 a.q g.tabled.sizes g.from, g.symbol)

pub mask_at-b-requires : goal.mask_at-b-requires
mask_at-b-requires c = let a = c.args in let g = c.requires in (right_low a.n1 a.n2 a.q g.tabled.sizes g.from, g.symbol)

pub in_pairs-requires : goal.in_pairs-requires
in_pairs-requires c = let a = c.args in let g = c.requires in (read_both a.n1 a.n2 a.t1.now a.t2.now g.tabled a.q a.s c.mask_at-a.result c.mask_at-b.result g.from c.mask_at-a.ensures c.mask_at-b.ensures, g.tabled.sizes, g.to)

pub returns : goal.returns
returns c = let a = c.args in c.in_pairs.ensures ∙ ap₂ (λ (x y : ℕ). has (pairs x y a.n2) a.p) c.mask_at-a.ensures c.mask_at-b.ensures
