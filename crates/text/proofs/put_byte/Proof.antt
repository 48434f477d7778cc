-- `put_byte` meets its contract. Assumes nothing.
use Rattle.text.proofs.Pieces.{wrote_byte}
use borrow.Author.Rules.{rules}
use Rattle.text.proofs.put_byte.Statement.{statement}
use Rattle.text.proofs.put_byte.Tie as tie

returns : tie.Need-returns
returns c = let a = c.args in wrote_byte a.out.now a.at a.byte c.requires

pub put_byte_spec : {M : Type 1} → statement M
put_byte_spec =
    tie.close
    (tie.spec
    (λ c. search rules) (λ c. search rules) (λ c. search rules) returns)
