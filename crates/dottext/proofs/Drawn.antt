-- The length of a drawing has its bound. Assumes nothing.
use mathlib.Core.Path.{◌≡◌}
use mathlib.Core.List.{List}
use mathlib.Core.Option.{Option, none, some}
use Prim.Native.Nat.{ℕ, ◌≤◌}
use native.Mathlib.Omega.{arith}
use lib.ListN.{length}
use Rattle.std.proofs.Common.{Ok}
use Rattle.base.proofs.Tests.{zero_one}
use Rattle.automaton.specs.declared.Rule.{Rule}
use Rattle.ruleformat.specs.Refusals.{refusal}
use Rattle.ruleformat.specs.Reader.{rule_of}
use Rattle.dotgraph.specs.DotText.{dot_text, most_bytes}
use Rattle.dotgraph.proofs.Lengths.{dot_most}
use Rattle.dottext.specs.Answers.{drawn, reply_by, Draws}

said_most : (o : Option ℕ) (r : Rule) (end : ℕ) → drawn end ≡ reply_by o r → end ≤ most_bytes
said_most none r end e = let z : end ≡ length (dot_text r) = cc in omega (arith, dot_most r)
said_most (some number) r end e = zero_one cc

pub drawn_most : {f room text : List ℕ} {end : ℕ} → Draws f room text (Ok end) → end ≤ most_bytes
drawn_most {f} {room} {text} {end} d = said_most (refusal f) (rule_of f) end d.answer
