-- `put_dot` meets its contract. Assumes nothing.
use Rattle.dotgraph.proofs.Whole.{whole}
use Rattle.dotgraph.proofs.put_dot.Goals as goal

pub returns : goal.returns
returns c =
    let n = c.min-n in
    let k = c.min-k in
    whole c.args.rule n.result k.result n.ensures k.ensures c.requires
    c.put_head-a.ensures
    c.put_states-b.ensures
    c.put_initials-c.ensures
    c.put_arrows-d.ensures
    c.put_bytes.ensures
