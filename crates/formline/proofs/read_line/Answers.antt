-- `read_line` meets its contract. Assumes nothing.
use mathlib.Core.Path.{sym, ap, ◌∙◌}
use mathlib.Core.List.{List}
use Prim.Native.Nat.{ℕ}
use native.Mathlib.Omega.{arith}
use borrow.Author.Rules.{rules}
use lib.Seq.{length-take-le}
use Rattle.fields.specs.Numbers.{parse_number}
use Rattle.formline.specs.Lines.{line_in, symbols_in, held_of}
use Rattle.formline.proofs.Fields.{to_the_end, alone, unsaid, goes_on}
use Rattle.formline.proofs.read_line.Goals as goal

pub returns-then-line-space : goal.returns-then-line-space
unfolding line_in
returns-then-line-space c =
    let a = c.args in
    let f = c.find-space in
    alone parse_number symbols_in a.line.now f.result f.ensures c.if-line-space.true

pub slice_bounds-read_number-end : goal.slice_bounds-read_number-end
slice_bounds-read_number-end c = sym (length-take-le _ c.args.line.now (omega arith))

pub returns : goal.returns
unfolding line_in
returns c =
    let a = c.args in
    let f = c.find-space in
    goes_on parse_number symbols_in a.line.now f.result f.ensures (omega arith) _ c.in_ok-sets.ensures _
    (c.with_sets.ensures ∙ ap (λ (l : List ℕ). held_of (symbols_in c.in_ok-sets.sets l)) (to_the_end a.line.now f.result))

pub returns-in_err-sets : goal.returns-in_err-sets
unfolding line_in
returns-in_err-sets c =
    let a = c.args in
    let f = c.find-space in
    let e = unsaid parse_number symbols_in a.line.now f.result f.ensures (omega arith) c.in_err-sets.ensures in search (rules, e)
