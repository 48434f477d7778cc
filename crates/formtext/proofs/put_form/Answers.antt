-- `put_form` meets its contract. Assumes nothing.
use Rattle.formtext.proofs.Whole.{whole}
use Rattle.formtext.proofs.put_form.Goals as goal

pub returns : goal.returns
returns c =
    let n = c.min-count in
    let k = c.count_kept-total in
    whole c.args.form n.result k.result n.ensures k.ensures.1 c.requires c.put_head-lines.ensures c.put_sets.ensures
