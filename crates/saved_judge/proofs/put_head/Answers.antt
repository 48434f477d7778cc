-- `put_head` meets its contract. Assumes nothing.
use Rattle.std.proofs.Common.{◌≤◌, length, arith}
use Rattle.saved_judge.specs.Saved.{head_fields}
use Rattle.saved_judge.proofs.Goes.{all_left, next_one, none_left}
use Rattle.saved_judge.proofs.Ways.{fields_length}
use Rattle.saved_judge.proofs.put_head.Goals as goal

pub returns : goal.returns
returns c =
    let room : 8 ≤ length c.args.out.now = omega (arith, c.requires) in
    let all = all_left c.args.out.now 0 head_fields (omega (arith, fields_length head_fields)) in
    let a = next_one all c.put_little-a.ensures.0 in
    let b = next_one a c.put_little-b.ensures.0 in
    let d = next_one b c.put_little-c.ensures.0 in
    let e = next_one d c.put_little-d.ensures.0 in
    (none_left (next_one e c.put_little.ensures.0), omega (arith, c.put_little-a.ensures.1, c.put_little-b.ensures.1, c.put_little-c.ensures.1, c.put_little-d.ensures.1, c.put_little.ensures.1))
