-- `walk_blocks` meets its contract: after i bytes the runs stand where these lead. Assumes nothing.
use mathlib.Core.Path.{◌≡◌, ap, ◌∙◌}
use Prim.Native.Nat.{◌-◌, ◌≤◌}
use native.Mathlib.Omega.{arith}
use borrow.Author.Rules.{rules}
use lib.ListN.{length, take, drop, length-take, length-drop}
use lib.Seq.{take_all}
use Rattle.lanes.specs.mirror.Offsets.{Rows}
use Rattle.lanes.proofs.Offsets.{rows_low}
use Rattle.blocks.specs.declared.Walked.{Walked}
use Rattle.blocks.specs.mirror.Blocks.{walked_of}
use Rattle.blocks.proofs.Parts.{walked_none, counts_small, looked_small, block_on, block_last}
use Rattle.blocks.proofs.walk_blocks.Goals as goal

pub loop-i-init : goal.loop-i-init
loop-i-init c =
    let u = c.unwalked-walked in
    let size : length c.args.rows ≡ 32 = search rules in
    (omega arith, rw u.ensures (walked_none c.args.t.now c.args.rows size))

pub walk_block-block-requires : goal.walk_block-block-requires
walk_block-block-requires c =
    let l = c.loop-i in
    let u = c.unwalked-walked in
    let low : Rows u.result.rows = rw u.ensures c.requires.1 in
    (c.requires.0, rw l.invariant.1 (rows_low c.args.t.now c.requires.0 (take l.i c.args.text.now) u.result.rows 32 low))

pub then-walked-requires : goal.then-walked-requires
then-walked-requires c =
    let l = c.loop-i in
    let t = c.args.t.now in
    let text = c.args.text.now in
    let rows = c.unwalked-walked.result.rows in
    let b = c.walk_block-block in
    let e = c.block_end-end.result in
    let part = take (e - l.i) (drop l.i text) in
    let first : length (take l.i text) ≤ 65536 = omega (arith, length-take l.i text, c.requires.2) in
    let second : length part ≤ 65536 = omega (arith, length-take (e - l.i) (drop l.i text), length-drop l.i text, c.requires.2) in (
      record {
        looked = rw l.invariant.1 (looked_small t (take l.i text) rows 65536 first);
        counts = λ j. rw l.invariant.1 (counts_small t (take l.i text) rows 65536 first j);
      },
      record {
        looked = rw b.ensures (looked_small t part l.walked.rows 65536 second);
        counts = λ j. rw b.ensures (counts_small t part l.walked.rows 65536 second j);
      },
    )

pub loop-i-preserved-then-block-eq0 : goal.loop-i-preserved-then-block-eq0
loop-i-preserved-then-block-eq0 c =
    let l = c.loop-i in
    let t = c.args.t.now in
    let text = c.args.text.now in
    let u = c.unwalked-walked in
    let rows = u.result.rows in
    let low : Rows rows = rw u.ensures c.requires.1 in
    let e = c.block_end-end in
    let b = c.walk_block-block in
    (omega arith, c.then-walked.ensures ∙ block_last t c.requires.0 text rows low l.i e.result e.ensures.0 e.ensures.1 l.walked b.result l.invariant.1 b.ensures c.if-block-eq0.true)

pub loop-i-preserved : goal.loop-i-preserved
loop-i-preserved c =
    let l = c.loop-i in
    let t = c.args.t.now in
    let text = c.args.text.now in
    let u = c.unwalked-walked in
    let rows = u.result.rows in
    let low : Rows rows = rw u.ensures c.requires.1 in
    let e = c.block_end-end in
    let b = c.walk_block-block in
    (e.ensures.1, c.then-walked.ensures ∙ block_on t c.requires.0 text rows low l.i e.result e.ensures.0 e.ensures.1 l.walked b.result l.invariant.1 b.ensures)

pub returns : goal.returns
returns c =
    let l = c.loop-i in
    let t = c.args.t.now in
    let text = c.args.text.now in
    let all : take l.i text ≡ text = take_all l.i text c.loop-i-test.false in
    l.invariant.1 ∙ rw all (ap (λ (x : Walked). walked_of t text x.rows) c.unwalked-walked.ensures)
