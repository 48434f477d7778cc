-- `with_sets` meets its contract. Assumes nothing.
use mathlib.Core.Path.{sym, ap, ◌∙◌}
use mathlib.Core.List.{List}
use Prim.Native.Nat.{ℕ}
use native.Mathlib.Omega.{arith}
use borrow.Author.Rules.{rules}
use lib.Seq.{length-take-le}
use Rattle.fields.specs.Numbers.{parse_number}
use Rattle.formline.specs.Lines.{symbols_in, failure_in, held_of}
use Rattle.formline.proofs.Fields.{to_the_end, alone, unsaid, goes_on}
use Rattle.formline.proofs.with_sets.Goals as goal

pub returns-then-rest-space : goal.returns-then-rest-space
unfolding symbols_in
returns-then-rest-space c =
    let a = c.args in
    let f = c.find-space in
    alone parse_number (failure_in a.sets) a.rest.now f.result f.ensures c.if-rest-space.true

pub slice_bounds-read_number-end : goal.slice_bounds-read_number-end
slice_bounds-read_number-end c = sym (length-take-le _ c.args.rest.now (omega arith))

pub returns : goal.returns
unfolding symbols_in
returns c =
    let a = c.args in
    let f = c.find-space in
    goes_on parse_number (failure_in a.sets) a.rest.now f.result f.ensures (omega arith) _ c.in_ok-symbols.ensures _
    (c.with_symbols.ensures ∙ ap (λ (l : List ℕ). held_of (failure_in a.sets c.in_ok-symbols.symbols l)) (to_the_end a.rest.now f.result))

pub returns-in_err-symbols : goal.returns-in_err-symbols
unfolding symbols_in
returns-in_err-symbols c =
    let a = c.args in
    let f = c.find-space in
    let e = unsaid parse_number (failure_in a.sets) a.rest.now f.result f.ensures (omega arith) c.in_err-symbols.ensures in search (rules, e)
