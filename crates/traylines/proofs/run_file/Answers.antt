-- `run_file` meets its contract. Assumes nothing.
use mathlib.Core.Path.{refl}
use Rattle.traylines.proofs.Carried.{file_malformed, file_put}
use Rattle.fields.proofs.Taking.{put_within, put_prefix}
use borrow.Author.Rules.{rules}
use Rattle.traylines.proofs.run_file.Goals as goal

pub slice_bounds-load-end : goal.slice_bounds-load-end
slice_bounds-load-end c = put_within c.args.field.now _ _ _ c.in-Some.ensures _ refl

pub slice_bounds-load-end-in-Some : goal.slice_bounds-load-end-in-Some
slice_bounds-load-end-in-Some c = put_prefix c.args.field.now _ _ _ c.in-Some.ensures _ refl

pub returns-in-None : goal.returns-in-None
returns-in-None c = search (rules, file_malformed)

pub returns-in-Some-clause-result_value : goal.returns-in-Some-clause-result_value
returns-in-Some-clause-result_value c =
    let a = c.args in
    file_put a.field.now _ _ a.tray c.requires _ c.in-Some.ensures _ _ a.rows c.load-loading.ensures
