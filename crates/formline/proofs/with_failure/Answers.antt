-- `with_failure` meets its contract. Assumes nothing.
use mathlib.Core.Path.{sym, ap, ◌∙◌}
use mathlib.Core.List.{List}
use Prim.Native.Nat.{ℕ}
use native.Mathlib.Omega.{arith}
use borrow.Author.Rules.{rules}
use lib.Seq.{length-take-le}
use Rattle.limits.specs.Limits.{most_sets}
use Rattle.wordfields.specs.Words.{parse_words}
use Rattle.formline.specs.Lines.{masks_in, cells_in, held_of}
use Rattle.formline.proofs.Fields.{to_the_end, alone, unsaid, goes_on}
use Rattle.formline.proofs.with_failure.Goals as goal

pub returns-then-rest-space : goal.returns-then-rest-space
unfolding masks_in
returns-then-rest-space c =
    let a = c.args in
    let f = c.find-space in
    alone (parse_words most_sets) (cells_in a.sets a.symbols a.failure) a.rest.now f.result f.ensures c.if-rest-space.true

pub slice_bounds-read_sets-end : goal.slice_bounds-read_sets-end
slice_bounds-read_sets-end c = sym (length-take-le _ c.args.rest.now (omega arith))

pub returns : goal.returns
unfolding masks_in
returns c =
    let a = c.args in
    let f = c.find-space in
    goes_on (parse_words most_sets) (cells_in a.sets a.symbols a.failure) a.rest.now f.result f.ensures (omega arith) _ c.in_ok-kept.ensures _
    (c.with_masks.ensures ∙ ap (λ (l : List ℕ). held_of (cells_in a.sets a.symbols a.failure c.in_ok-kept.kept l)) (to_the_end a.rest.now f.result))

pub returns-in_err-kept : goal.returns-in_err-kept
unfolding masks_in
returns-in_err-kept c =
    let a = c.args in
    let f = c.find-space in
    let e = unsaid (parse_words most_sets) (cells_in a.sets a.symbols a.failure) a.rest.now f.result f.ensures (omega arith) c.in_err-kept.ensures in search (rules, e)
