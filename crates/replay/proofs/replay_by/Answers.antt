-- `replay_by` meets its contract. Assumes nothing.
use mathlib.Core.Path.{refl, sym, ap, ◌∙◌}
use native.Mathlib.Omega.{arith}
use borrow.Author.Rules.{rules}
use Rattle.replay.specs.Records.{verdict}
use Rattle.lines.proofs.Parts.{part_from, part_to}
use Rattle.replay.proofs.Reading.{going_first, going_last, going_wrong, going_on}
use Rattle.replay.proofs.replay_by.Goals as goal

pub loop-at-init : goal.loop-at-init
loop-at-init c = (search rules, search rules, search rules, refl, search (rules, going_first))

pub slice_bounds-run_line-count : goal.slice_bounds-run_line-count
slice_bounds-run_line-count c = search (rules, part_from, part_to)

pub slice_bounds-run_line-start : goal.slice_bounds-run_line-start
slice_bounds-run_line-start c = search (rules, part_from, part_to)

pub slice_bounds-run_line-end : goal.slice_bounds-run_line-end
slice_bounds-run_line-end c = search (rules, part_from, part_to)

pub returns-then-is_malformed : goal.returns-then-is_malformed
returns-then-is_malformed c =
    let l = c.loop-at in
    let r = c.run_line-run in
    record { result_value = going_wrong _ l.judge l.line l.at l.invariant.4 _ c.loop-at-test.true c.find-end.ensures r.result r.ensures.result_value (sym c.is_malformed.ensures ∙ c.if-is_malformed.true) _ refl; scratch = search rules }

pub loop-at-smaller : goal.loop-at-smaller
loop-at-smaller c =
    let l = c.loop-at in
    let here = c.loop-at-test.true in
    let from = part_from _ l.at _ here c.find-end.ensures in
    let to = part_to _ l.at _ here c.find-end.ensures in
    omega (arith, c.past-at.ensures, here, from, to)

pub loop-at-preserved : goal.loop-at-preserved
loop-at-preserved c =
    let l = c.loop-at in
    let here = c.loop-at-test.true in
    let find = c.find-end.ensures in
    let from = part_from _ l.at _ here find in
    let to = part_to _ l.at _ here find in
    let r = c.run_line-run in (
      omega (arith, c.past-at.ensures, here, from, to),
      omega (arith, c.past-at.ensures, here, from, to, l.invariant),
      search rules,
      search rules,
      going_on _ l.judge l.line l.at l.invariant.4 _ here find r.result r.ensures.result_value (sym c.is_malformed.ensures ∙ c.if-is_malformed.false) _ c.past-at.ensures,
    )

pub returns : goal.returns
returns c =
    let l = c.loop-at in
    record { result_value = going_last _ l.judge l.line l.at l.invariant.4 c.loop-at-test.false _ (ap verdict c.ask_verdict.ensures); scratch = search rules }
