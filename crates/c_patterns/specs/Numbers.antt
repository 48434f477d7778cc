-- The numbers that C is given for what reading a pattern answers. Every field is fixed: what a
-- refusal has no use for is 0.
--
--   pattern_shown o     the outcome o as a result: `accepted` 1 and `refused` 0, or 0 and the number;
--                       the length of the file, and its bytes
--   pattern_read_back r  what such a result says, read back from its numbers
use Rattle.flags.specs.Flags.{flag_by, refused_by, refusal_by}
use Rattle.rulewriter.specs.Written.{Writing}
use Rattle.c_patterns.specs.declared.PatternNumbers.{PatternNumbers}

abbrev pub pattern_shown : Writing → PatternNumbers
pattern_shown o = record {
  accepted = flag_by o.number;
  refused = refused_by o.number;
  length = o.length;
  bytes = o.bytes;
}

abbrev pub pattern_read_back : PatternNumbers → Writing
pattern_read_back r = record {
  number = refusal_by r.accepted r.refused;
  length = r.length;
  bytes = r.bytes;
}
