-- `put_answer` meets its contract. Assumes nothing.
use Rattle.patterntext.proofs.Answers.{told-length, told-room, accepted, refused}
use Rattle.rulewriter.proofs.Parts.{both}
use Rattle.hexfields.proofs.Digits.{digits_length}
use lib.Seq.{length-take-le}
use lib.ListN.{take}
use native.Mathlib.Omega.{arith}
use mathlib.Core.Path.{sym}
use Rattle.patterntext.proofs.put_answer.Goals as goal

pub slice_bounds-bytes-end : goal.slice_bounds-bytes-end
slice_bounds-bytes-end c =
    let t = c.args.pattern.now in
    let f = c.in-Ok.file in
    omega (arith, told-length t f c.in-Ok.ensures, told-room t f c.in-Ok.ensures)

pub slice_bounds-put_digits-end : goal.slice_bounds-put_digits-end
slice_bounds-put_digits-end c =
    let t = c.args.pattern.now in
    let f = c.in-Ok.file in
    sym (length-take-le f.length f.bytes (omega (arith, told-length t f c.in-Ok.ensures, told-room t f c.in-Ok.ensures)))

pub put_digits-end-requires : goal.put_digits-end-requires
put_digits-end-requires c =
    let t = c.args.pattern.now in
    let f = c.in-Ok.file in
    let h = told-length t f c.in-Ok.ensures in
    let e = length-take-le f.length f.bytes (omega (arith, h, told-room t f c.in-Ok.ensures)) in
    omega (arith, c.requires)

pub put_byte-requires : goal.put_byte-requires
put_byte-requires c =
    let t = c.args.pattern.now in
    let f = c.in-Ok.file in
    let h = told-length t f c.in-Ok.ensures in
    let e = length-take-le f.length f.bytes (omega (arith, h, told-room t f c.in-Ok.ensures)) in
    let w = c.put_digits-end in
    omega (arith, c.requires, w.ensures.ends, w.auto.out, digits_length (take f.length f.bytes))

pub returns-in-Ok : goal.returns-in-Ok
returns-in-Ok c =
    let t = c.args.pattern.now in
    let f = c.in-Ok.file in
    let h = told-length t f c.in-Ok.ensures in
    let l = length-take-le f.length f.bytes (omega (arith, h, told-room t f c.in-Ok.ensures)) in
    rw (← accepted t f c.in-Ok.ensures)
    (both (omega (arith, c.requires, digits_length (take f.length f.bytes))) c.put_digits-end.ensures (λ _. c.put_byte.ensures))

pub returns-in-Err : goal.returns-in-Err
returns-in-Err c = rw (← refused c.args.pattern.now c.in-Err.refusal c.in-Err.ensures, ← c.number.ensures) c.put_refused.ensures
