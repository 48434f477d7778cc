-- `put_file` meets its contract. Assumes nothing.
use Rattle.rulewriter.proofs.Values.{well_formed, file_put}
use native.Mathlib.Omega.{arith}
use Rattle.rulewriter.proofs.put_file.Goals as goal

pub put_states-requires : goal.put_states-requires
put_states-requires c =
    let good = well_formed c.args.rule c.requires.0 in
    (good.states.1, good.symbols.1, omega (arith, c.requires.1, c.put_header.auto.out))

pub returns : goal.returns
returns c = file_put c.args.rule c.requires.1 c.put_header.ensures c.put_states.ensures
