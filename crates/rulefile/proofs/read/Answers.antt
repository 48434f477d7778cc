-- `read` meets its contract. Assumes nothing.
use mathlib.Core.List.{List}
use mathlib.Core.Option.{Option, none}
use mathlib.Core.Path.{◌≡◌, ap, ◌∙◌}
use Prim.Native.Nat.{ℕ}
use Rattle.automaton.specs.declared.Rule.{Rule}
use Rattle.ruleformat.specs.Refusals.{refusal}
use Rattle.ruleformat.specs.Reader.{rule_of, rule_by, read_of}
use Rattle.rulefile.proofs.read.Goals as goal

-- the rule in a file that is not refused
in_file : (f : List ℕ) → none ≡ refusal f → record { number = none; rule = rule_of f } ≡ read_of f
in_file f e = ap (λ (o : Option ℕ). record { number = o; rule = rule_by o f }) e

pub returns : goal.returns
returns c =
    ap (λ (r : Rule). record { number = none; rule = r }) c.build.ensures ∙ in_file c.args.file.now c.in_ok-check.ensures
