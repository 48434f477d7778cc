-- A line ends within the text.
use Rattle.std.proofs.Common.{rules}
use Rattle.lines.proofs.Parts.{part_to}
use Rattle.rule_cases.proofs.run_cases.Goals as goal

pub slice_bounds-run_case-end : goal.slice_bounds-run_case-end
slice_bounds-run_case-end g c = search (rules, part_to)
