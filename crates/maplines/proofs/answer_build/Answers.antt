-- `answer_build` meets its contract. Assumes nothing.
use mathlib.Core.Path.{refl}
use Rattle.maplines.proofs.Ways.{build_malformed, build_stays, build_put, build_left}
use Rattle.fields.proofs.Taking.{put_within, put_prefix}
use borrow.Author.Rules.{rules}
use Rattle.maplines.proofs.answer_build.Goals as goal

pub slice_bounds-build-end : goal.slice_bounds-build-end
slice_bounds-build-end c = search (rules, put_within)

pub slice_bounds-build-end-2 : goal.slice_bounds-build-end-2
slice_bounds-build-end-2 c = search (rules, put_prefix)

pub returns-in_default : goal.returns-in_default
returns-in_default c =
    record {
      state_value = build_stays _ _ _ _ c.in_default.ensures c.args.state refl;
      text = build_malformed _ _ _ _ c.in_default.ensures c.args.state refl _ _ _ c.say_malformed-said.ensures;
      scratch = search rules;
    }

pub returns : goal.returns
returns c =
    let built = c.build-building.ensures in
    record {
      state_value = build_left _ _ _ _ c.in-Some.ensures c.args.state c.requires.0 _ refl _ built.1;
      text = build_put _ _ _ _ c.in-Some.ensures c.args.state c.requires.0 _ refl _ _ _ _ c.say_reply-said.ensures built.0;
      scratch = search rules;
    }
