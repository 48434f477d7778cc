-- `put_rule` meets its contract. Assumes nothing.
use mathlib.Core.Path.{sym, ap, ◌∙◌}
use native.Mathlib.Omega.{arith}
use lib.ListN.{length, length-replicate}
use lib.Seq.{length-take-le}
use Rattle.rulewriter.proofs.Claims as writer
use Rattle.text.proofs.Fitting.{taken}
use Rattle.text.proofs.Rooms.{made, still_within}
use Rattle.mergetext.proofs.Ways.{length_most, room_left, file_line}
use Rattle.mergetext.proofs.put_rule.Goals as goal

pub slice_bounds-put_file-end : goal.slice_bounds-put_file-end
slice_bounds-put_file-end c = sym (made _)

pub put_file-n-requires : goal.put_file-n-requires
put_file-n-requires c =
    (c.requires.0, simp length-replicate ((writer.claims).fits c.args.rule c.requires.0))

pub slice_bounds-bytes-end : goal.slice_bounds-bytes-end
slice_bounds-bytes-end c =
    let w = c.put_file-n in
    let most = (writer.claims).fits c.args.rule c.requires.0 in
    still_within (length_most most w.ensures) (w.auto.out ∙ made _)

pub slice_bounds-put_digits-end : goal.slice_bounds-put_digits-end
slice_bounds-put_digits-end c =
    let w = c.put_file-n in
    let most = (writer.claims).fits c.args.rule c.requires.0 in
    sym (length-take-le w.result w.new.out (still_within (length_most most w.ensures) (w.auto.out ∙ made _)))

pub put_digits-end-requires : goal.put_digits-end-requires
put_digits-end-requires c =
    let w = c.put_file-n in
    let most = (writer.claims).fits c.args.rule c.requires.0 in
    omega (arith, ap length (taken w.ensures), c.requires.1)

pub put_byte-requires : goal.put_byte-requires
put_byte-requires c =
    let w = c.put_file-n in
    let most = (writer.claims).fits c.args.rule c.requires.0 in
    room_left most w.ensures c.requires.1 c.put_digits-end.ensures

pub returns : goal.returns
returns c =
    let w = c.put_file-n in
    let most = (writer.claims).fits c.args.rule c.requires.0 in
    file_line most w.ensures c.requires.1 c.put_digits-end.ensures c.put_byte.ensures
