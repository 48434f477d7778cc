-- `put_pair` meets its contract. Assumes nothing.
use Rattle.rulewriter.proofs.Parts.{both}
use Rattle.rulewriter.proofs.put_pair.Goals as goal

pub returns : goal.returns
returns c = both c.requires.2 c.put_half-a.ensures (λ _. c.put_half.ensures)
