-- `byte_at` meets its contract. Assumes nothing.
use native.Mathlib.Omega.{arith}
use mathlib.Core.Path.{sym}
use lib.ListN.{get_or-eq_default}
use Rattle.mergescan.proofs.byte_at.Goals as goal

pub returns : goal.returns
returns c =
    sym (get_or-eq_default c.args.word.now 0 {n = c.args.at} (omega (arith, c.if-at-word.false)))
