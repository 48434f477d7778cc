-- `delivery_at` meets its contract. Assumes nothing.
use Prim.Native.Nat.{◌<◌}
use native.Mathlib.Omega.{arith}
use borrow.Author.Rules.{rules}
use Rattle.calltext.proofs.Readings.{revision_alone, revision_malformed, revision_large, revision_value}
use Rattle.calltext.proofs.delivery_at.Goals as goal

pub returns-then-line-space : goal.returns-then-line-space
returns-then-line-space c = (omega arith, search (rules, revision_alone))

pub returns-in_default : goal.returns-in_default
returns-in_default c = (omega arith, search (rules, revision_malformed))

pub returns-then-revision-gt-REVISION : goal.returns-then-revision-gt-REVISION
returns-then-revision-gt-REVISION c = let large : 4294967295 < c.in-Some.revision = omega arith in (omega arith, search (rules, revision_large))

pub returns : goal.returns
returns c = (search rules, search (rules, revision_value))
