-- `put_board` meets its contract. Assumes nothing.
use Rattle.std.proofs.Common.{◌≡◌, length, ◌∙◌, arith, rules}
use Rattle.saved_judge.specs.Saved.{board_fields}
use Rattle.saved_judge.proofs.Goes.{all_left, next_one, next_cells, none_left}
use Rattle.saved_judge.proofs.Ways.{fields_length}
use Rattle.saved_judge.proofs.put_board.Goals as goal

pub put_cells-requires : goal.put_cells-requires
put_cells-requires c =
    let board = c.args.board in
    let filled : length board.filled ≡ 64 = search rules in
    let counts : length board.counts ≡ 64 = search rules in
    let lengths : length board.lengths ≡ 64 = search rules in
    let revisions : length board.revisions ≡ 64 = search rules in
    let ends : length board.ends ≡ 2048 = search rules in
    omega (arith, c.requires, c.put_little-a.ensures.1, c.put_little-a.auto.out, c.put_cells-b.ensures.1, c.put_cells-b.auto.out, c.put_cells-c.ensures.1, c.put_cells-c.auto.out, c.put_cells-d.ensures.1, c.put_cells-d.auto.out, c.put_cells-e.ensures.1, c.put_cells-e.auto.out)

pub shape_of-out : goal.shape_of-out
shape_of-out c = c.put_cells.auto.out ∙ c.put_cells-e.auto.out ∙ c.put_cells-d.auto.out ∙ c.put_cells-c.auto.out ∙ c.put_cells-b.auto.out ∙ c.put_little-a.auto.out

pub returns : goal.returns
returns c =
    let board = c.args.board in
    let filled : length board.filled ≡ 64 = search rules in
    let counts : length board.counts ≡ 64 = search rules in
    let lengths : length board.lengths ≡ 64 = search rules in
    let revisions : length board.revisions ≡ 64 = search rules in
    let ends : length board.ends ≡ 2048 = search rules in
    let fs = board_fields board in
    let all = all_left c.args.out.now c.args.start fs (omega (arith, fields_length fs, c.requires)) in
    let a = next_one all c.put_little-a.ensures.0 in
    let b = next_cells a c.put_cells-b.ensures.0 in
    let d = next_cells b c.put_cells-c.ensures.0 in
    let e = next_cells d c.put_cells-d.ensures.0 in
    let f = next_cells e c.put_cells-e.ensures.0 in
    (none_left (next_cells f c.put_cells.ensures.0), omega (arith, c.put_little-a.ensures.1, c.put_cells-b.ensures.1, c.put_cells-c.ensures.1, c.put_cells-d.ensures.1, c.put_cells-e.ensures.1, c.put_cells.ensures.1))
