-- `write_pattern` meets its contract. Assumes nothing.
use Rattle.patternfile.proofs.Ways.{on_30, on_31, on_32, none_on, read, passes, room, written}
use Rattle.text.proofs.Rooms.{made}
use lib.ListN.{length-replicate}
use mathlib.Core.Path.{sym, ◌∙◌}
use Rattle.patternfile.proofs.write_pattern.Goals as goal

pub returns-then-pattern-gt-PATTERN : goal.returns-then-pattern-gt-PATTERN
returns-then-pattern-gt-PATTERN c = on_30 c.args.pattern.now c.if-pattern-gt-PATTERN.true

pub returns-then-not-grammatical : goal.returns-then-not-grammatical
returns-then-not-grammatical c =
    on_31 c.args.pattern.now c.if-pattern-gt-PATTERN.false (sym c.grammatical.ensures ∙ c.if-not-grammatical.true)

pub returns-then-count_letters-gt-LETTERS : goal.returns-then-count_letters-gt-LETTERS
returns-then-count_letters-gt-LETTERS c =
    let text = c.args.pattern.now in
    let count = c.count_letters.ensures in
    on_32 text c.if-pattern-gt-PATTERN.false (sym c.grammatical.ensures ∙ c.if-not-grammatical.false) (rw (← count) c.if-count_letters-gt-LETTERS.true)

pub slice_bounds-put_file-end : goal.slice_bounds-put_file-end
slice_bounds-put_file-end c = sym (made _)

pub put_file-length-requires : goal.put_file-length-requires
put_file-length-requires c =
    let text = c.args.pattern.now in
    let count = c.count_letters.ensures in
    let r = read text c.if-pattern-gt-PATTERN.false (sym c.grammatical.ensures ∙ c.if-not-grammatical.false) (rw (← count) c.if-count_letters-gt-LETTERS.false) in
    let e = c.read_rule-rule.ensures in
    (rw e (passes text r), rw e (simp length-replicate (room text r)))

pub returns : goal.returns
returns c =
    let text = c.args.pattern.now in
    let count = c.count_letters.ensures in
    let n = none_on text c.if-pattern-gt-PATTERN.false (sym c.grammatical.ensures ∙ c.if-not-grammatical.false) (rw (← count) c.if-count_letters-gt-LETTERS.false) in
    written text n (rw c.read_rule-rule.ensures at c.put_file-length.ensures)
