-- `answer_run` meets its contract. Assumes nothing.
use mathlib.Core.Path.{refl}
use Rattle.maplines.proofs.Ways.{run_malformed, run_put}
use Rattle.fields.proofs.Taking.{put_within, put_prefix}
use borrow.Author.Rules.{rules}
use Rattle.maplines.proofs.answer_run.Goals as goal

pub slice_bounds-run-end : goal.slice_bounds-run-end
slice_bounds-run-end c = search (rules, put_within)

pub slice_bounds-run-end-2 : goal.slice_bounds-run-end-2
slice_bounds-run-end-2 c = search (rules, put_prefix)

pub returns-in_default : goal.returns-in_default
returns-in_default c =
    record {
      says = run_malformed _ _ _ _ c.in_default.ensures c.args.state.now refl _ _ _ c.say_malformed.ensures;
      scratch = search rules;
    }

pub returns : goal.returns
returns c =
    record {
      says = run_put _ _ _ _ c.in-Some.ensures c.args.state.now c.requires.0 _ refl _ _ _ _ c.say_reply.ensures c.run.ensures;
      scratch = search rules;
    }
