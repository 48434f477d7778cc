-- `cell` meets its contract. Assumes nothing.
use borrow.Author.Tests.{lt-ltb}
use borrow.Author.Rules.{rules}
use Rattle.dotlabels.proofs.cell.Statement.{statement}
use Rattle.dotlabels.proofs.cell.Tie as tie

returns : tie.Need-returns
returns c = rw (lt-ltb c.before.before.args.s 16 c.before.before.requires.1)

pub cell_spec : {M : Type 1} → statement M
cell_spec =
    tie.close
    (tie.spec
    (λ c. search rules) (λ c. search rules) (λ c. search rules) (λ c. search rules)
    (λ c. search rules) returns)
