-- `states` meets its contract. Assumes nothing.
use native.Mathlib.Omega.{arith}
use borrow.Author.Rules.{rules}
use Rattle.merge.proofs.Numbers.{product_most}
use Rattle.merge.proofs.Ways.{states_both, states_either, states_interleaving}
use Rattle.merge.proofs.states.Goals as goal

pub overflow_mul-result : goal.overflow_mul-result
overflow_mul-result c =
    let p = c.requires in
    omega (arith, product_most c.args.n1 c.args.n2 p.0 p.1)

pub overflow_mul-result-in-Interleaving : goal.overflow_mul-result-in-Interleaving
overflow_mul-result-in-Interleaving c =
    let p = c.requires in
    omega (arith, product_most c.args.n1 c.args.n2 p.0 p.1)

pub returns-in-Both : goal.returns-in-Both
returns-in-Both c = search (rules, states_both)

pub returns-in-Either : goal.returns-in-Either
returns-in-Either c = search (rules, states_either)

pub returns-in-Interleaving : goal.returns-in-Interleaving
returns-in-Interleaving c = search (rules, states_interleaving)
