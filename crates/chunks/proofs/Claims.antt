-- The one proof of all that specs/Claims.antt claims. Assumes nothing.
use Rattle.chunks.specs.Claims.{Claims}
use Rattle.chunks.proofs.Texts as texts
use Rattle.chunks.proofs.Taking.{taking}
use Rattle.chunks.proofs.Starts as starts
use Rattle.chunks.proofs.Counts as counts
use Rattle.chunks.proofs.Counting as counting
use Rattle.chunks.proofs.Walks as walks
use Rattle.chunks.proofs.Looked as looked
use Rattle.chunks.proofs.Ends as ends

pub claims : Claims
claims = record {
  text_law = texts.text_law;
  taking = taking;
  run_end = ends.run_end;
  run_count = ends.run_count;
  own_count = walks.row_count_lem;
  run_most = walks.count_most;
  ends = ends.ends;
  count = ends.count;
  looks = ends.looks;
  looked_most = looked.looked_most;
  looked_all_empty = looked.looked_all_empty;
  looked_least = looked.looked_least;
  counted_most = counts.counted_most;
  chunk_most = counts.chunk_most;
  counted_runs = counting.counted_runs;
  chunk_counts = counting.chunk_counts;
  start_law = starts.start_law;
  start_own = starts.start_own;
  delegate_law = starts.delegate_law;
  delegate_mask_lem = starts.delegate_mask_lem;
  run_mask_lem = starts.run_mask_lem;
}
