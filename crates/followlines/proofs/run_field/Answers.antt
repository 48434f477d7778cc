-- `run_field` meets its contract. Assumes nothing.
use Rattle.std.proofs.Common.{refl}
use Rattle.followlines.proofs.Ways.{not_field, field_put}
use Rattle.fields.proofs.Taking.{put_within, put_prefix}
use borrow.Author.Rules.{rules}
use Rattle.followlines.proofs.run_field.Goals as goal

pub slice_bounds-make-end : goal.slice_bounds-make-end
slice_bounds-make-end c = put_within c.args.field.now _ _ _ c.in-Some.ensures _ refl

pub slice_bounds-make-end-in-Some : goal.slice_bounds-make-end-in-Some
slice_bounds-make-end-in-Some c = put_prefix c.args.field.now _ _ _ c.in-Some.ensures _ refl

pub returns-in-None : goal.returns-in-None
returns-in-None c = search (rules, not_field)

pub returns-in-Some : goal.returns-in-Some
returns-in-Some c = search (rules, field_put)
