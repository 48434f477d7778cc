-- `run_install` meets its contract. Assumes nothing.
use mathlib.Core.Path.{ap}
use borrow.Author.Rules.{rules}
use Rattle.base.specs.Options.{option_of}
use Rattle.fields.proofs.Taking.{put_within, put_prefix}
use Rattle.callrun.proofs.Carried.{install_malformed, install_put}
use Rattle.callrun.proofs.run_install.Goals as goal

pub slice_bounds-install_bytes-end : goal.slice_bounds-install_bytes-end
slice_bounds-install_bytes-end c = put_within _ _ _ _ c.read_bytes.ensures _ (ap option_of c.in-Some.is)

pub slice_bounds-install_bytes-end-2 : goal.slice_bounds-install_bytes-end-2
slice_bounds-install_bytes-end-2 c = put_prefix _ _ _ _ c.read_bytes.ensures _ (ap option_of c.in-Some.is)

pub returns-in_default : goal.returns-in_default
returns-in_default c = search (rules, install_malformed)

pub returns : goal.returns
returns c = search (rules, install_put)
