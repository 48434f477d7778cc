-- `with_symbols` meets its contract. Assumes nothing.
use mathlib.Core.Path.{sym, ap, ◌∙◌}
use mathlib.Core.List.{List}
use Prim.Native.Nat.{ℕ}
use native.Mathlib.Omega.{arith}
use borrow.Author.Rules.{rules}
use lib.Seq.{length-take-le}
use Rattle.limits.specs.Limits.{most_sets}
use Rattle.wordfields.specs.Words.{parse_words}
use Rattle.formline.specs.Lines.{failure_in, masks_in, held_of}
use Rattle.formline.proofs.Fields.{to_the_end, alone, unsaid, goes_on}
use Rattle.formline.proofs.with_symbols.Goals as goal

pub returns-then-rest-space : goal.returns-then-rest-space
unfolding failure_in
returns-then-rest-space c =
    let a = c.args in
    let f = c.find-space in
    alone (parse_words most_sets) (masks_in a.sets a.symbols) a.rest.now f.result f.ensures c.if-rest-space.true

pub slice_bounds-read_sets-end : goal.slice_bounds-read_sets-end
slice_bounds-read_sets-end c = sym (length-take-le _ c.args.rest.now (omega arith))

pub returns : goal.returns
unfolding failure_in
returns c =
    let a = c.args in
    let f = c.find-space in
    goes_on (parse_words most_sets) (masks_in a.sets a.symbols) a.rest.now f.result f.ensures (omega arith) _ c.in_ok-failure.ensures _
    (c.with_failure.ensures ∙ ap (λ (l : List ℕ). held_of (masks_in a.sets a.symbols c.in_ok-failure.failure l)) (to_the_end a.rest.now f.result))

pub returns-in_err-failure : goal.returns-in_err-failure
unfolding failure_in
returns-in_err-failure c =
    let a = c.args in
    let f = c.find-space in
    let e = unsaid (parse_words most_sets) (masks_in a.sets a.symbols) a.rest.now f.result f.ensures (omega arith) c.in_err-failure.ensures in search (rules, e)
