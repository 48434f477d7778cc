-- `fill_words` meets its contract. The loop's invariant: the numbers passed are stored, and zeros
-- stand behind them. Assumes nothing.
use mathlib.Core.Path.{refl, ◌∙◌}
use native.Mathlib.Omega.{arith}
use lib.ListN.{length, length-set}
use Rattle.forms.proofs.Filling.{filled_none, fill_more}
use Rattle.wordfields.specs.Words.{word_at}
use Rattle.wordfields.proofs.Words.{all_words}
use Rattle.wordfields.proofs.fill_words.Goals as goal

pub loop-i-init : goal.loop-i-init
loop-i-init c =
    let a = c.args in
    (omega arith, c.requires.0, c.requires.1, refl, filled_none (length a.words.now) 0 (word_at a.bytes.now) a.words.now c.requires.2)

pub loop-i-preserved : goal.loop-i-preserved
loop-i-preserved c =
    let l = c.loop-i in
    let a = c.args in
    let t = c.loop-i-test.true in
    let p = c.pair in (
      omega (arith, l.invariant, t),
      l.invariant.1,
      l.invariant.2,
      length-set l.words l.i p.result ∙ l.invariant.3,
      fill_more (length a.words.now) 0 (word_at a.bytes.now) l.i p.result l.words p.ensures (omega (arith, l.invariant, t)) l.invariant.4,
    )

pub shape_of-words : goal.shape_of-words
shape_of-words c = c.loop-i.invariant.3

pub returns : goal.returns
returns c =
    let l = c.loop-i in
    let a = c.args in
    all_words (length a.words.now) l.i a.bytes.now l.words l.invariant.3 c.loop-i-test.false l.invariant.4
