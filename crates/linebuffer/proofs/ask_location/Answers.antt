-- `ask_location` meets its contract. Assumes nothing.
use mathlib.Core.Path.{ap}
use Rattle.base.specs.Options.{option_of}
use Rattle.fields.proofs.Taking.{put_within, put_prefix}
use Rattle.linebuffer.proofs.Standing.{malformed_state, malformed_text_lem, put_state, put_text}
use borrow.Author.Rules.{rules}
use Rattle.linebuffer.proofs.ask_location.Goals as goal

pub slice_bounds-locate-end : goal.slice_bounds-locate-end
slice_bounds-locate-end c = put_within _ _ _ _ c.read_bytes.ensures _ (ap option_of c.in-Some.is)

pub slice_bounds-locate-end-2 : goal.slice_bounds-locate-end-2
slice_bounds-locate-end-2 c = put_prefix _ _ _ _ c.read_bytes.ensures _ (ap option_of c.in-Some.is)

pub returns-in_default : goal.returns-in_default
returns-in_default c = record { ended_value = search (rules, malformed_state); text = search (rules, malformed_text_lem); scratch = search rules }

pub returns : goal.returns
returns c = record { ended_value = search (rules, put_state); text = search (rules, put_text); scratch = search rules }
