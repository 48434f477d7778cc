-- A round goes on in the block, and leads where its part of the block leads.
use Rattle.std.proofs.Common.{rules, arith, sym, ◌∙◌}
use Rattle.linetexts.proofs.Rounds.{round_forward, round_on, rounds_over, in_first_lem, past_first}
use Rattle.mapstream.specs.Texts.{map_lines}
use Rattle.mapjudge.proofs.run_block.Goals as goal

pub loop-at-smaller : goal.loop-at-smaller
loop-at-smaller g c = omega (arith, round_forward map_lines _ _ _ (in_first_lem _ _ _ c.requires c.loop-at-test.true) _ _ _ _ _ _ c.gather-round.ensures.gathers (search rules), c.loop-at-test.true)

pub loop-at-preserved : goal.loop-at-preserved
loop-at-preserved g c = c.loop-at.invariant ∙ round_on map_lines _ _ _ (in_first_lem _ _ _ c.requires c.loop-at-test.true) _ _ _ _ _ _ c.gather-round.ensures.gathers

pub returns : goal.returns
returns g c = λ e. rounds_over map_lines _ _ _ (past_first _ _ _ c.requires c.loop-at-test.false) ∙ sym c.loop-at.invariant
