-- The one proof of all that specs/Claims.antt claims. Assumes nothing.
use Rattle.trays.specs.Claims.{Claims}
use Rattle.trays.proofs.Examples as examples
use Rattle.trays.proofs.Rows as rows
use Rattle.trays.proofs.Passing as passing
use Rattle.trays.proofs.Refusing as refusing
use Rattle.trays.proofs.Verdicts as verdicts

pub claims : Claims
claims = record {
  answered = examples.answered;
  rows_law = rows.rows_law;
  column_law = rows.column_law;
  bands_law = rows.bands_law;
  passes_law = rows.passes_law;
  whole_rows = passing.whole_rows;
  both_texts = passing.both_texts;
  unchanged = refusing.unchanged;
  install_law = passing.install_law;
  verdict_law = verdicts.verdict_law;
}
