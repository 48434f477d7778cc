-- The one proof of all that specs/Claims.antt claims. Assumes nothing.
use Rattle.mergetext.specs.Claims.{Claims}
use Rattle.mergetext.proofs.Files.{refused_first, refused_second, as_rules, result_read, language}
use Rattle.mergetext.proofs.Others.{compared_first, compared_second, compared_rules, compared_apart, compared_same, compared_refused, reduced_first, reduced_rule, reduced_accepted, reduced_refused, reduced_read, fits}
use Rattle.mergetext.proofs.Exact.{line_exactly, compare_exactly, reduce_exactly, malformed_exactly, line_round_trip, compare_round_trip, reduce_round_trip}
use Rattle.mergetext.proofs.Examples.{worked_lines, answers_written}

pub claims : Claims
claims = record {
  line_exactly = line_exactly;
  compare_exactly = compare_exactly;
  reduce_exactly = reduce_exactly;
  malformed_exactly = malformed_exactly;
  line_round_trip = line_round_trip;
  compare_round_trip = compare_round_trip;
  reduce_round_trip = reduce_round_trip;
  worked_lines = worked_lines;
  refused_first = refused_first;
  refused_second = refused_second;
  as_rules = as_rules;
  result_read = result_read;
  language = language;
  compared_first = compared_first;
  compared_second = compared_second;
  compared_rules = compared_rules;
  reduced_first = reduced_first;
  reduced_rule = reduced_rule;
  compared_apart = compared_apart;
  compared_same = compared_same;
  compared_refused = compared_refused;
  reduced_accepted = reduced_accepted;
  reduced_refused = reduced_refused;
  reduced_read = reduced_read;
  answers_written = answers_written;
  fits = fits;
}
