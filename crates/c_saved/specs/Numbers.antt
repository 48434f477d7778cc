-- The numbers that C is given for bytes that were restored. Every field is fixed.
--
--   restore_shown r     what restoring answers: accepted 1 and refused 0, or accepted 0 and the number
--                       of the refusal; the judge is the fresh one, all zeros, where it is refused
--   restore_read_back n  what such a result says, read back from its numbers
use Rattle.flags.specs.Flags.{flag_by, refused_by, refusal_by}
use Rattle.saved_judge.specs.Saved.{Restored}
use Rattle.c_saved.specs.declared.RestoreNumbers.{RestoreNumbers}

abbrev pub restore_shown : Restored → RestoreNumbers
restore_shown r = record { accepted = flag_by r.number; refused = refused_by r.number; judge = r.judge }

abbrev pub restore_read_back : RestoreNumbers → Restored
restore_read_back n = record { number = refusal_by n.accepted n.refused; judge = n.judge }
