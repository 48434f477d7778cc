-- `answer_compose` meets its contract. Assumes nothing.
use Rattle.maplines.proofs.Ways.{compose_alone, compose_first, compose_second, compose_put}
use borrow.Author.Rules.{rules}
use Rattle.maplines.proofs.answer_compose.Goals as goal

pub returns-then-line-space : goal.returns-then-line-space
returns-then-line-space c = search (rules, compose_alone)

pub returns-in_default : goal.returns-in_default
returns-in_default c =
    compose_first c.args.line.now c.requires.0 _ c.find-space.ensures _ _ _ c.if-line-space.false c.in_default.ensures
    c.say_malformed-in_default.ensures

pub returns-in_default-read_mapping : goal.returns-in_default-read_mapping
returns-in_default-read_mapping c =
    compose_second c.args.line.now c.requires.0 _ c.find-space.ensures _ _ _ c.if-line-space.false c.in-Some.earlier c.in-Some.ensures
    c.in_default-read_mapping.ensures
    c.say_malformed-in_default-read_mapping.ensures

pub returns : goal.returns
returns c =
    let later = c.in-Some-read_mapping in
    compose_put c.args.line.now c.requires.0 _ c.find-space.ensures _ _ _ c.if-line-space.false c.in-Some.earlier c.in-Some.ensures
    later.later
    later.ensures
    _
    c.compose.ensures
    c.say_reply.ensures
