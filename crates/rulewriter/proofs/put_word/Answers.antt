-- `put_word` meets its contract. Assumes nothing.
use Rattle.rulewriter.proofs.Parts.{both}
use Rattle.rulewriter.proofs.put_word.Goals as goal

pub returns : goal.returns
returns c = both c.requires c.put_half-a.ensures (λ _. c.put_half.ensures)
