-- `start_rows` meets its contract. The cells from q on are still the empty set's. Assumes nothing.
use mathlib.Core.Path.{◌≡◌, sym, ◌∙◌}
use Prim.Native.Nat.{ℕ}
use native.Mathlib.Omega.{arith}
use borrow.Author.Count.{below_more}
use lib.ListN.{get_or, length-set, length-replicate, get_or-replicate}
use lib.Seq.{get_or-set_other}
use Rattle.base.proofs.Lists.{is_list_from, cell_stored}
use Rattle.chunks.proofs.Running.{start_row}
use Rattle.chunks.proofs.start_rows.Goals.{else-member, then-member}
use Rattle.chunks.proofs.start_rows.Goals as goal

pub loop-q-init : goal.loop-q-init
loop-q-init c = (length-replicate {A = ℕ} 32 8192, λ p h. absurd (omega arith), λ p h b. get_or-replicate {A = ℕ} 32 p 8192 0 b)

pub loop-q-preserved : goal.loop-q-preserved
loop-q-preserved c =
    let l = c.loop-q in
    let singles = c.args.singles.now in
    let mask = c.args.mask in
    let m = c.member.ensures in
    (elim c.if-member.branch [
      | then-member w ↦ let v = w.row_of in (
        rw w.rows-is (length-set l.rows l.q v.result ∙ l.invariant.0),
        rw w.rows-is (cell_stored l.rows (start_row singles mask) l.q v.result (omega (arith, l.invariant.0)) (v.ensures ∙ rw (sym m ∙ w.if-member.true)) l.invariant.1),
        λ p h b. rw w.rows-is (get_or-set_other l.rows l.q p v.result 0 (λ e. omega arith) ∙ l.invariant.2 p (omega arith) b),
      )
      | else-member w ↦ (
        rw w.rows-is l.invariant.0,
        rw w.rows-is (below_more (λ p. get_or l.rows p 0 ≡ start_row singles mask p) l.q l.invariant.1 (l.invariant.2 l.q (omega arith) (omega arith) ∙ rw (sym m ∙ w.if-member.false))),
        λ p h b. rw w.rows-is (l.invariant.2 p (omega arith) b),
      )
    ])

pub returns : goal.returns
returns c =
    let l = c.loop-q in
    is_list_from l.rows 32 (start_row c.args.singles.now c.args.mask) l.invariant.0 (λ p h. l.invariant.1 p (omega arith))
