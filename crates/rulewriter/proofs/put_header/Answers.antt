-- `put_header` meets its contract. Assumes nothing.
use Rattle.rulewriter.proofs.Parts.{both}
use Rattle.rulewriter.proofs.put_header.Goals as goal

pub returns : goal.returns
returns c =
    both c.requires c.put_byte-a.ensures λ r.
    both r c.put_byte-b.ensures λ s.
    both s c.put_word-c.ensures λ _. c.put_word.ensures
