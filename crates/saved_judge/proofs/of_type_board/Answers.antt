-- `of_type_board` meets its contract: what the checker knows of any value of the type. Assumes nothing.
use Rattle.std.proofs.Common.{ℕ, get_or, w8, w32, w64, Fits, rules}
use Rattle.saved_judge.proofs.of_type_board.Goals as goal

pub returns : goal.returns
returns c =
    let board = c.args.board in
    let filled : (i : ℕ) → Fits w8 (get_or board.filled i 0) = λ i. search rules in
    let counts : (i : ℕ) → Fits w32 (get_or board.counts i 0) = λ i. search rules in
    let lengths : (i : ℕ) → Fits w32 (get_or board.lengths i 0) = λ i. search rules in
    let revisions : (i : ℕ) → Fits w64 (get_or board.revisions i 0) = λ i. search rules in
    let ends : (i : ℕ) → Fits w32 (get_or board.ends i 0) = λ i. search rules in
    record {
      places = search rules;
      filled = record { size = search rules; below = λ i. (filled i).fits };
      counts = record { size = search rules; below = λ i. (counts i).fits };
      lengths = record { size = search rules; below = λ i. (lengths i).fits };
      revisions = record { size = search rules; below = λ i. (revisions i).fits };
      ends = record { size = search rules; below = λ i. (ends i).fits };
    }
