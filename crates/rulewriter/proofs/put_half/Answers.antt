-- `put_half` meets its contract. Assumes nothing.
use Rattle.rulewriter.proofs.Parts.{both}
use Rattle.rulewriter.proofs.put_half.Goals as goal

pub returns : goal.returns
returns c = both c.requires.1 c.put_byte-a.ensures (λ _. c.put_byte.ensures)
