-- `put_delegates` meets its contract. Assumes nothing.
use native.Mathlib.Omega.{arith}
use Rattle.text.proofs.Fitting.{put, ◌then◌}
use Rattle.ruletext.proofs.put_delegates.Goals as goal

pub returns : goal.returns
returns c =
    let pre = c.requires in
    let w = c.put_fields-end in
    let z = c.put_byte in
    let u = put (omega (arith, pre)) c.put_bytes-first.ensures in
    let v = put (omega (arith, pre, u, w.ensures.1, w.ensures.0.ends)) w.ensures.0 in
    let x = put (omega (arith, pre, u, v, w.ensures.1)) z.ensures in
    ((u then v then x).wrote, omega (arith, pre, u, w.ensures.1, z.ensures.ends))
