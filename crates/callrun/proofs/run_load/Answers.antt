-- `run_load` meets its contract. Assumes nothing.
use mathlib.Core.Path.{ap}
use borrow.Author.Rules.{rules}
use Rattle.base.specs.Options.{option_of}
use Rattle.fields.proofs.Taking.{put_within, put_prefix}
use Rattle.callrun.proofs.Carried.{load_malformed, load_put}
use Rattle.callrun.proofs.run_load.Goals as goal

pub slice_bounds-load-end : goal.slice_bounds-load-end
slice_bounds-load-end c = put_within _ _ _ _ c.read_bytes.ensures _ (ap option_of c.in-Some.is)

pub slice_bounds-load-end-2 : goal.slice_bounds-load-end-2
slice_bounds-load-end-2 c = put_prefix _ _ _ _ c.read_bytes.ensures _ (ap option_of c.in-Some.is)

pub returns-in_default : goal.returns-in_default
returns-in_default c = search (rules, load_malformed)

pub returns : goal.returns
returns c = search (rules, load_put)
