-- The proof of all that specs/Claims.antt claims. Assumes nothing.
use mathlib.Core.Option.{Option, none, some}
use Prim.Native.Nat.{ℕ, ◌≤◌}
use native.Mathlib.Omega.{arith}
use lib.ListN.{length}
use Rattle.automaton.specs.declared.Rule.{Rule}
use Rattle.ruleformat.specs.Refusals.{refusal}
use Rattle.ruleformat.specs.Reader.{rule_of}
use Rattle.dotgraph.specs.DotText.{most_bytes}
use Rattle.dottext.specs.Answers.{drawing_by}
use Rattle.dottext.specs.Claims.{Claims}
use Rattle.dotgraph.proofs.Lengths.{dot_most}

by_number : (o : Option ℕ) (r : Rule) → length (drawing_by o r) ≤ most_bytes
by_number none r = dot_most r
by_number (some x) r = omega arith

pub claims : Claims
claims = record { fits = λ f. by_number (refusal f) (rule_of f) }
