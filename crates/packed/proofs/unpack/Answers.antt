-- `unpack` meets its contract. The loop's invariant: the cells passed are the words at their places.
-- Assumes nothing.
use mathlib.Core.Path.{◌≡◌, refl, ◌∙◌}
use Prim.Native.Nat.{◌+◌, ◌*◌}
use native.Mathlib.Omega.{arith}
use lib.ListN.{length-set}
use Rattle.base.proofs.Lists.{is_list_from, cell_stored}
use Rattle.ruleformat.specs.Format.{byte_at, word_at}
use Rattle.packed.proofs.unpack.Goals as goal

pub loop-cell-init : goal.loop-cell-init
loop-cell-init c = (omega arith, c.requires, refl, λ i h. absurd (omega (arith, h)))

pub loop-cell-preserved : goal.loop-cell-preserved
loop-cell-preserved c =
    let x = c.loop-cell in
    let bytes = c.args.bytes.now in (
      omega arith,
      x.invariant.1,
      length-set x.target-items x.cell c.word.result ∙ x.invariant.2,
      cell_stored x.target-items (λ cell. word_at bytes (10 + 4 * cell)) x.cell c.word.result (omega arith) c.word.ensures x.invariant.3,
    )

pub returns : goal.returns
returns c =
    let x = c.loop-cell in
    let bytes = c.args.bytes.now in
    let all : x.cell ≡ 512 = omega arith in
    let table = is_list_from x.target-items 512 (λ cell. word_at bytes (10 + 4 * cell)) x.invariant.2 (λ cell h. x.invariant.3 cell (omega (arith, h, all))) in
    λ i. record {
      n = byte_at bytes 0;
      k = byte_at bytes 1;
      initials = c.word-initials.ensures i;
      finals = c.word-finals.ensures i;
      targets = table i;
    }
