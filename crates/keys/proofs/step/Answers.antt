-- `step` meets its contract, one way out at a time. What is not left out goes to a cell of the key's
-- own row, as the contract asks. Assumes nothing.
use mathlib.Core.Path.{◌≡◌, sym, ap, ◌∙◌}
use mathlib.Core.Bool.{false}
use native.Mathlib.Omega.{arith}
use lib.ListN.{get_or, take}
use Rattle.numbering.proofs.Arrays.{entered_any, stepped_skipped, stepped_whole, stepped_over}
use Rattle.keys.specs.Kinds.{step_by, nothing, skips_by}
use Rattle.keys.specs.mirror.Steps.{turn_means}
use Rattle.keys.proofs.step.Goals as goal

pub returns-then-left_out : goal.returns-then-left_out
returns-then-left_out c =
    let a = c.args in
    let is : c.step_key-key.result ≡ step_by a.kind a.targets.now a.others.now (get_or a.keys.now a.i.0 0) a.symbol = c.step_key-key.ensures in
    stepped_skipped (step_by a.kind a.targets.now a.others.now) (skips_by a.omit) a.keys.now a.next.now a.count a.i.0 a.symbol c.step_key-key.result c.requires.count_le_most_sets.0 c.requires.count_le_most_sets.1 c.requires.count_le_most_sets.2 is
    (sym c.left_out.ensures ∙ c.if-left_out.true)

pub bounds-next-row : goal.bounds-next-row
bounds-next-row c =
    let a = c.args in
    let kept : skips_by a.omit c.step_key-key.result ≡ false = sym c.left_out.ensures ∙ c.if-left_out.false in
    omega (arith, c.requires.count_le_most_sets, c.requires.symbol_lt_most_symbols (ap (skips_by a.omit) (sym c.step_key-key.ensures) ∙ kept))

pub returns : goal.returns
returns c =
    let a = c.args in
    let is : c.step_key-key.result ≡ step_by a.kind a.targets.now a.others.now (get_or a.keys.now a.i.0 0) a.symbol = c.step_key-key.ensures in
    let kept : skips_by a.omit c.step_key-key.result ≡ false = sym c.left_out.ensures ∙ c.if-left_out.false in
    let w = c.number in
    stepped_whole (step_by a.kind a.targets.now a.others.now) (skips_by a.omit) a.keys.now a.next.now a.count a.i.0 a.symbol c.step_key-key.result c.requires.count_le_most_sets.0 c.requires.count_le_most_sets.1 c.requires.count_le_most_sets.2 is kept
    (turn_means w.result) w.new.keys (entered_any nothing (skips_by a.omit) (take a.count a.keys.now) c.step_key-key.result (sym kept) w.ensures) c.in_ok-number.number.0 c.in_ok-number.after (ap turn_means c.in_ok-number.was)

pub returns-in_err-number : goal.returns-in_err-number
returns-in_err-number c =
    let a = c.args in
    let is : c.step_key-key.result ≡ step_by a.kind a.targets.now a.others.now (get_or a.keys.now a.i.0 0) a.symbol = c.step_key-key.ensures in
    let kept : skips_by a.omit c.step_key-key.result ≡ false = sym c.left_out.ensures ∙ c.if-left_out.false in
    let w = c.number in
    rw c.from_residual.ensures
    (stepped_over (step_by a.kind a.targets.now a.others.now) (skips_by a.omit) a.keys.now a.next.now a.count a.i.0 a.symbol c.step_key-key.result c.requires.count_le_most_sets.0 c.requires.count_le_most_sets.1 c.requires.count_le_most_sets.2 is kept
    (turn_means w.result) w.new.keys (entered_any nothing (skips_by a.omit) (take a.count a.keys.now) c.step_key-key.result (sym kept) w.ensures) (ap turn_means c.in_err-number.was))
