-- The one proof of all that specs/Claims.antt claims. Assumes nothing.
use Rattle.mappings.specs.Claims.{Claims}
use Rattle.mappings.proofs.Composing as composing
use Rattle.mappings.proofs.Packing as packing
use Rattle.mappings.proofs.Rules as rules
use Rattle.mappings.proofs.Numbered as numbered

pub claims : Claims
claims = record {
  members = composing.members;
  composes = composing.composes;
  associative = composing.associative;
  brackets = composing.brackets;
  bracketing = composing.bracketing;
  identity_first = composing.identity_first;
  identity_last = composing.identity_last;
  values = composing.values;
  unpacked = packing.unpacked;
  packed = packing.packed;
  repacked = packing.repacked;
  runs = rules.runs;
  within = rules.within;
  of_nothing = rules.of_nothing;
  of_one_more = rules.of_one_more;
  of_both = rules.of_both;
  of_all = rules.of_all;
  says = rules.says;
  start = numbered.start;
  sound = numbered.sound;
  once = numbered.once;
  complete = numbered.complete;
  cell = numbered.cell;
  in_order = numbered.in_order;
  over = numbered.over;
}
