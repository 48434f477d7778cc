-- The numbers that C is given for a rule reduced. Every field is fixed.
--
--   reduce_shown m     what reducing answers: accepted 1 and refused 0, or accepted 0 and the
--                      number of the refusal; whether the result installs; the rule is all zeros
--                      where it is refused
--   reduce_read_back r  what such a result says, read back from its numbers
use Rattle.std.specs.Prelude.{eqb}
use Rattle.flags.specs.Flags.{flag_by, refused_by, bit_by, refusal_by}
use Rattle.reducing.specs.Reducing.{Reducing}
use Rattle.c_reduce.specs.declared.ReduceNumbers.{ReduceNumbers}

abbrev pub reduce_shown : Reducing → ReduceNumbers
reduce_shown m = record {
  accepted = flag_by m.number;
  refused = refused_by m.number;
  installs = bit_by m.installs;
  rule = m.rule;
}

abbrev pub reduce_read_back : ReduceNumbers → Reducing
reduce_read_back r = record {
  number = refusal_by r.accepted r.refused;
  installs = eqb r.installs 1;
  rule = r.rule;
}
