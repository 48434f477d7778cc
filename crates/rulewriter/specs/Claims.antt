-- What is claimed of a rule's file, for every rule that passes; proofs/Claims.antt proves it.
use Rattle.std.specs.Prelude.{◌≡◌, ◌≤◌, length}
use Rattle.std.proofs.Math.Option.{none}
use Rattle.limits.specs.Limits.{longest_file, target_cells}
use Rattle.automaton.specs.declared.Rule.{Rule}
use Rattle.rulecheck.specs.Checking.{rule_number}
use Rattle.ruleformat.specs.Reader.{read_of}
use Rattle.ruleformat.specs.Writing.{file_of}

pub record Claims : Type 0 where
  -- reading what was written gives the rule; every value of the type has 512 cells
  pub read_back : (r : Rule) → length r.targets ≡ target_cells → rule_number r ≡ none
      → read_of (file_of r) ≡ record { number = none; rule = r }
  -- the longest file has room for it
  pub fits : (r : Rule) → rule_number r ≡ none → length (file_of r) ≤ longest_file
