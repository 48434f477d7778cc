-- The numbers that C is given, read back. Assumes nothing.
use Rattle.mergereduce.specs.MergeReduced.{merge_reduced_number, merge_reduced_rule}
use Rattle.c_merge.proofs.ReadBack.{merge_by}
use Rattle.c_mergereduced.specs.Claims.{Claims}

pub claims : Claims
claims = record {
  merge_reduced_read_back = λ way one two. merge_by (merge_reduced_number way one two) (merge_reduced_rule way one two);
}
