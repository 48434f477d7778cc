-- `run_text` meets its contract, from 13 on. Assumes nothing.
use mathlib.Core.Path.{sym, ◌∙◌}
use Rattle.profile.proofs.Ways.{lent_13, lent_whole}
use Rattle.profile.proofs.run_text.Goals as goal

pub returns-then-has_foreign : goal.returns-then-has_foreign
returns-then-has_foreign c =
    λ p w lends short is.
    lent_13 c.args.k c.args.next.now c.args.packed.now c.args.text.now p w lends short is (sym c.has_foreign.ensures ∙ c.if-has_foreign.true)

pub returns : goal.returns
returns c =
    let walked = c.walk-number in
    λ p w lends short is.
    lent_whole c.args.k c.args.next.now c.args.packed.now c.args.text.now p w lends short is (sym c.has_foreign.ensures ∙ c.if-has_foreign.false) walked.result walked.ensures
    c.unpack.result c.unpack.ensures
