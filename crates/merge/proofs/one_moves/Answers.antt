-- `one_moves` meets its contract. Assumes nothing.
use native.Mathlib.Omega.{arith}
use Rattle.merge.proofs.Numbers.{small_left, small_right}
use Rattle.merge.proofs.Ways.{first_moves, second_moves, moved}
use mathlib.Core.Path.{◌∙◌}
use Rattle.merge.proofs.one_moves.Goals as goal

pub singleton-requires : goal.singleton-requires
singleton-requires c =
    let a = c.args in
    let p = c.requires in
    small_right a.n1 a.n2 a.x.0 a.y.0 p.1 p.2 p.3

pub pairs-first-requires : goal.pairs-first-requires
pairs-first-requires c =
    let a = c.args in
    let p = c.requires in (
      first_moves a.a a.b a.n1 a.n2 p.0 a.y.0 c.singleton.result p.2 c.singleton.ensures,
      omega (arith, p.2),
      p.3,
    )

pub singleton-requires-2 : goal.singleton-requires-2
singleton-requires-2 c =
    let a = c.args in
    let p = c.requires in
    small_left a.n1 a.n2 a.x.0 a.y.0 p.1 p.2 p.3

pub pairs-second-requires : goal.pairs-second-requires
pairs-second-requires c =
    let a = c.args in
    let p = c.requires in (
      second_moves a.a a.b a.n1 a.n2 p.0 a.x.0 c.singleton-2.result p.1 c.singleton-2.ensures,
      omega (arith, p.2),
      p.3,
    )

pub returns : goal.returns
returns c =
    let a = c.args in
    c.union.ensures
    ∙ moved a.n2 a.x.0 a.y.0 a.a a.b c.pairs-first.result c.pairs-second.result c.singleton.result c.singleton-2.result
    c.singleton.ensures
    c.singleton-2.ensures
    c.pairs-first.ensures
    c.pairs-second.ensures
