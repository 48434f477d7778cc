-- `make_text` meets its contract: a lemma for each answer. Assumes nothing.
use borrow.Author.Rules.{rules}
use native.Mathlib.Omega.{arith}
use Rattle.madetexts.proofs.Answers.{too_few, too_many, no_seed, made}
use Rattle.madetexts.proofs.make_text.Goals as goal

pub returns-then-k-lt1 : goal.returns-then-k-lt1
returns-then-k-lt1 c = search (rules, too_few)

pub returns-then-k-gt-SYMBOLS : goal.returns-then-k-gt-SYMBOLS
returns-then-k-gt-SYMBOLS c = search (rules, too_many)

pub returns-then-seed-eq0 : goal.returns-then-seed-eq0
returns-then-seed-eq0 c = search (rules, no_seed)

pub returns : goal.returns
returns c =
    let s = c.args in
    made s.k s.seed s.text.now c.fill.new.text (omega arith) (omega arith) (omega arith) c.fill.ensures
