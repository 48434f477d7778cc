-- `put_profile` meets its contract. Assumes nothing.
use Rattle.profiletext.proofs.Whole.{whole}
use Rattle.profiletext.proofs.put_profile.Goals as goal

pub returns : goal.returns
returns c =
    whole c.args.profile c.min-count.result c.min-k.result c.min-count.ensures c.min-k.ensures c.requires c.put_head-lines.ensures c.put_lines.ensures
