-- `put_numbers` meets its contract. Assumes nothing.
use Rattle.std.proofs.Common.{◌∙◌, arith}
use Rattle.saved_judge.specs.Saved.{number_fields}
use Rattle.saved_judge.proofs.Goes.{all_left, next_one, none_left}
use Rattle.saved_judge.proofs.Ways.{fields_length}
use Rattle.saved_judge.proofs.put_numbers.Goals as goal

pub put_little-e-requires : goal.put_little-e-requires
put_little-e-requires c = omega (arith, c.requires, c.put_little-a.ensures.1, c.put_little-a.auto.out, c.put_little-b.ensures.1, c.put_little-b.auto.out, c.put_little-c.ensures.1, c.put_little-c.auto.out, c.put_little-d.ensures.1, c.put_little-d.auto.out)

pub put_little-requires : goal.put_little-requires
put_little-requires c = omega (arith, c.requires, c.put_little-a.ensures.1, c.put_little-a.auto.out, c.put_little-b.ensures.1, c.put_little-b.auto.out, c.put_little-c.ensures.1, c.put_little-c.auto.out, c.put_little-d.ensures.1, c.put_little-d.auto.out, c.put_little-e.ensures.1, c.put_little-e.auto.out)

pub shape_of-out : goal.shape_of-out
shape_of-out c = c.put_little.auto.out ∙ c.put_little-e.auto.out ∙ c.put_little-d.auto.out ∙ c.put_little-c.auto.out ∙ c.put_little-b.auto.out ∙ c.put_little-a.auto.out

pub returns : goal.returns
returns c =
    let fs = number_fields c.args.built in
    let all = all_left c.args.out.now c.args.start fs (omega (arith, fields_length fs, c.requires)) in
    let a = next_one all c.put_little-a.ensures.0 in
    let b = next_one a c.put_little-b.ensures.0 in
    let d = next_one b c.put_little-c.ensures.0 in
    let e = next_one d c.put_little-d.ensures.0 in
    let f = next_one e c.put_little-e.ensures.0 in
    (none_left (next_one f c.put_little.ensures.0), omega (arith, c.put_little-a.ensures.1, c.put_little-b.ensures.1, c.put_little-c.ensures.1, c.put_little-d.ensures.1, c.put_little-e.ensures.1, c.put_little.ensures.1))
