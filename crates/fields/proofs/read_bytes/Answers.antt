-- `read_bytes` meets its contract. Assumes nothing.
use mathlib.Core.Path.{sym, ◌∙◌}
use Rattle.fields.proofs.Pairs.{took_dash, took_stray, took_empty, took_odd, took_other, took_pairs}
use Rattle.fields.proofs.read_bytes.Goals as goal

pub returns-then-field-eq45 : goal.returns-then-field-eq45
returns-then-field-eq45 c = let a = c.args in took_dash a.field.now a.out.now c.if-field-eq1.true c.if-field-eq45.true

pub returns-then-field-eq1 : goal.returns-then-field-eq1
returns-then-field-eq1 c = let a = c.args in took_stray a.field.now a.out.now c.if-field-eq1.true c.if-field-eq45.false

pub returns-then-field-eq0 : goal.returns-then-field-eq0
returns-then-field-eq0 c = let a = c.args in took_empty a.field.now a.out.now c.if-field-eq0.true

pub returns-then-field-eq1-2 : goal.returns-then-field-eq1-2
returns-then-field-eq1-2 c = let a = c.args in took_odd a.field.now a.out.now c.if-field-eq1.false c.if-field-eq1-2.true

pub put_pairs-requires : goal.put_pairs-requires
put_pairs-requires c = sym c.all_hex.ensures ∙ c.if-all_hex.true

pub returns-then-all_hex : goal.returns-then-all_hex
returns-then-all_hex c =
    let a = c.args in
    let p = c.put_pairs in
    let hex = sym c.all_hex.ensures ∙ c.if-all_hex.true in
    took_pairs a.field.now a.out.now c.if-field-eq1.false c.if-field-eq0.false c.if-field-eq1-2.false hex p.new.out p.result p.ensures

pub returns-else-all_hex : goal.returns-else-all_hex
returns-else-all_hex c =
    let a = c.args in
    took_other a.field.now a.out.now c.if-field-eq1.false (sym c.all_hex.ensures ∙ c.if-all_hex.false)
