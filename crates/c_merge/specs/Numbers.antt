-- The numbers that C is given for two rules made one. Every field is fixed.
--
--   merge_shown m     what merging answers: accepted 1 and refused 0, or accepted 0 and the number
--                     of the refusal; the rule is all zeros where it is refused
--   merge_read_back r  what such a result says, read back from its numbers
use Rattle.flags.specs.Flags.{flag_by, refused_by, refusal_by}
use Rattle.merging.specs.Merging.{Merging}
use Rattle.c_merge.specs.declared.MergeNumbers.{MergeNumbers}

abbrev pub merge_shown : Merging → MergeNumbers
merge_shown m = record {
  accepted = flag_by m.number;
  refused = refused_by m.number;
  rule = m.rule;
}

abbrev pub merge_read_back : MergeNumbers → Merging
merge_read_back r = record { number = refusal_by r.accepted r.refused; rule = r.rule }
