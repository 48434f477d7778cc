-- `bad_target` meets its contract: a mask kept for a state or symbol outside n or k has to be 0,
-- any other below 2 ^ n. Assumes nothing.
use mathlib.Core.Logic.{inl, inr}
use mathlib.Core.Path.{sym, ◌∙◌}
use Rattle.rulecheck.proofs.Targets.{kept_cell_lem, own_cell}
use Rattle.rulecheck.proofs.bad_target.Goals as goal

pub returns-then-n-q : goal.returns-then-n-q
returns-then-n-q c =
    let a = c.args in
    sym (kept_cell_lem a.n a.k a.q a.s a.mask (inl c.if-n-q.true))

pub returns-then-k-s : goal.returns-then-k-s
returns-then-k-s c =
    let a = c.args in
    sym (kept_cell_lem a.n a.k a.q a.s a.mask (inr c.if-k-s.true))

pub returns : goal.returns
returns c =
    let a = c.args in
    let q = c.if-n-q.false in
    let s = c.if-k-s.false in
    c.beyond.ensures ∙ sym (own_cell a.n a.k a.q a.s a.mask q s)
