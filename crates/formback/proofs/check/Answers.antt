-- `check` meets its contract: after each test that fails the next one decides. Assumes nothing.
use Rattle.formback.specs.mirror.Parts.{form_by}
use Rattle.formback.proofs.Turns.{few, on_1, on_2, on_3, on_4, on_5, passed}
use Rattle.formback.proofs.check.Goals as goal

pub returns-then-bad_numbers : goal.returns-then-bad_numbers
returns-then-bad_numbers c =
    let a = c.args in
    on_1 (form_by a.sets a.k a.failure.now a.kept.now a.cells.now)
    c.bad_numbers.ensures c.if-bad_numbers.true

pub some_not_below-requires : goal.some_not_below-requires
some_not_below-requires c =
    let a = c.args in
    (few a.sets a.k c.bad_numbers.result c.bad_numbers.ensures c.if-bad_numbers.false).0

pub returns-then-some_not_below : goal.returns-then-some_not_below
returns-then-some_not_below c =
    let a = c.args in
    on_2 (form_by a.sets a.k a.failure.now a.kept.now a.cells.now)
    c.bad_numbers.ensures c.if-bad_numbers.false
    c.some_not_below.ensures c.if-some_not_below.true

pub first_lacks-requires : goal.first_lacks-requires
first_lacks-requires c =
    let a = c.args in
    (few a.sets a.k c.bad_numbers.result c.bad_numbers.ensures c.if-bad_numbers.false).1

pub returns-then-first_lacks : goal.returns-then-first_lacks
returns-then-first_lacks c =
    let a = c.args in
    on_3 (form_by a.sets a.k a.failure.now a.kept.now a.cells.now)
    c.bad_numbers.ensures c.if-bad_numbers.false
    c.some_not_below.ensures c.if-some_not_below.false
    c.first_lacks.ensures c.if-first_lacks.true

pub stray_bits-requires : goal.stray_bits-requires
stray_bits-requires c =
    let a = c.args in
    few a.sets a.k c.bad_numbers.result c.bad_numbers.ensures c.if-bad_numbers.false

pub returns-then-stray_bits : goal.returns-then-stray_bits
returns-then-stray_bits c =
    let a = c.args in
    on_4 (form_by a.sets a.k a.failure.now a.kept.now a.cells.now)
    c.bad_numbers.ensures c.if-bad_numbers.false
    c.some_not_below.ensures c.if-some_not_below.false
    c.first_lacks.ensures c.if-first_lacks.false
    c.stray_bits.ensures c.if-stray_bits.true

pub count_kept-requires : goal.count_kept-requires
count_kept-requires c =
    let a = c.args in
    (few a.sets a.k c.bad_numbers.result c.bad_numbers.ensures c.if-bad_numbers.false).0

pub returns-then-some_lacking : goal.returns-then-some_lacking
returns-then-some_lacking c =
    let a = c.args in
    on_5 (form_by a.sets a.k a.failure.now a.kept.now a.cells.now)
    c.bad_numbers.ensures c.if-bad_numbers.false
    c.some_not_below.ensures c.if-some_not_below.false
    c.first_lacks.ensures c.if-first_lacks.false
    c.stray_bits.ensures c.if-stray_bits.false
    c.count_kept.ensures.1 c.some_lacking.ensures c.if-some_lacking.true

pub returns : goal.returns
returns c =
    let a = c.args in
    passed (form_by a.sets a.k a.failure.now a.kept.now a.cells.now)
    c.bad_numbers.ensures c.if-bad_numbers.false
    c.some_not_below.ensures c.if-some_not_below.false
    c.first_lacks.ensures c.if-first_lacks.false
    c.stray_bits.ensures c.if-stray_bits.false
    c.count_kept.ensures.1 c.some_lacking.ensures c.if-some_lacking.false
