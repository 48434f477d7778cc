-- `put_rejected` meets its contract. Assumes nothing.
use Rattle.samples.specs.declared.Wish.TheVariants.{Rejected}
use Rattle.sampletext.proofs.Lines.{sample_is}
use Rattle.sampletext.proofs.put_rejected.Goals as goal

pub returns : goal.returns
returns c =
    rw (← sample_is c.args.rule Rejected c.find_sample-sample.result c.find_sample-sample.ensures) c.put_sample.ensures
