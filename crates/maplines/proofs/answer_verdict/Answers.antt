-- `answer_verdict` meets its contract. Assumes nothing.
use Rattle.maplines.proofs.Ways.{ask_malformed, ask_put}
use Rattle.maplines.proofs.answer_verdict.Goals as goal

pub returns-in_default : goal.returns-in_default
returns-in_default c = ask_malformed _ c.args.state.now _ _ _ c.in_default.ensures c.say_malformed.ensures

pub returns : goal.returns
returns c = ask_put _ c.args.state.now _ _ _ c.in-Some.mapping c.in-Some.ensures _ c.ask.ensures c.say_reply.ensures
