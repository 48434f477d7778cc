-- `expand` meets its contract. The invariant of the outer loop: the arrays hold the first count
-- keys and the cells of the keys below number i, and expanding these keys from i on comes to the
-- list that the contract names. Within key i the same of the symbols below the present one. The
-- fuel of the definition is 512 at the first key and one less with each key, so it lasts while
-- there are at most 512 keys. Where the 513th turns up, that list goes on from the keys so far,
-- since the procedure only appends. Assumes nothing.
use mathlib.Core.Path.{◌≡◌, refl, ap, ◌∙◌}
use Prim.Native.Nat.{ℕ, ◌+◌, ◌-◌, ◌<◌}
use native.Mathlib.Omega.{arith}
use lib.ListN.{length, get_or, take}
use Rattle.numbering.specs.Numbering.{close_from}
use Rattle.numbering.proofs.Closure.{keys_end}
use Rattle.numbering.proofs.Arrays.{count-is}
use Rattle.numbering.proofs.Table.{row_begins, row_ends}
use Rattle.numbering.proofs.Turns.{turn_whole, row_done, row_more, row_over, grown_whole, grown_over}
use Rattle.keys.specs.Kinds.{free_by, walk_in}
use Rattle.base.specs.Options.{option_of}
use Rattle.keys.proofs.expand.Goals as goal

pub expand-init : goal.expand-init
expand-init c =
    let a = c.args in
    let e : 512 ≡ 512 + a.first.0 - a.first.0 = omega arith in
    (c.requires.from_le_most_sets.0, omega arith, c.requires.from_le_most_sets.1, c.requires.from_le_most_sets.2, ap (λ (x : ℕ). close_from (walk_in a.kind a.omit a.targets.now a.others.now a.k) x a.first.0 (take a.from a.keys.now)) e)

pub loop-symbol-init : goal.loop-symbol-init
loop-symbol-init c =
    let x = c.expand in
    let a = c.args in
    (x.invariant.0, omega arith, omega arith, row_begins (walk_in a.kind a.omit a.targets.now a.others.now a.k) (free_by a.omit) x.i x.invariant.3, refl)

pub step-requires : goal.step-requires
step-requires c =
    let e = c.loop-symbol in
    let i : ℕ = c.expand.i in
    record { count_le_most_sets = (e.invariant.0, e.invariant.3.keys_are, e.invariant.1); symbol_lt_most_symbols = c.requires.in_row (get_or e.keys i 0) e.symbol (omega arith) }

pub loop-symbol-preserved : goal.loop-symbol-preserved
loop-symbol-preserved c =
    let e = c.loop-symbol in
    let i : ℕ = c.expand.i in
    let a = c.args in
    let w = c.step in
    let l = take e.count e.keys in
    let below : i < length l = rw (count-is e.keys e.count e.invariant.0 e.invariant.3.keys_are) e.invariant.1 in
    let symbol : e.symbol < a.k = omega arith in
    let m = turn_whole (walk_in a.kind a.omit a.targets.now a.others.now a.k) (free_by a.omit) l i e.symbol below symbol w.ensures (c.requires.in_row (get_or l i 0) e.symbol symbol) e.invariant.3 c.in-Some.after (ap option_of c.in-Some.is) in
    (m.0, m.1, omega arith, m.2, e.invariant.4 ∙ m.3)

pub expand-preserved : goal.expand-preserved
expand-preserved c =
    let e = c.loop-symbol in
    let x = c.expand in
    let a = c.args in
    let l₀ = take x.count x.keys in
    let n : length l₀ ≡ x.count = count-is x.keys x.count x.invariant.0 x.invariant.3.keys_are in (
      e.invariant.0,
      omega arith,
      omega arith,
      row_ends (walk_in a.kind a.omit a.targets.now a.others.now a.k) (free_by a.omit) x.i e.symbol c.loop-symbol-test.false e.invariant.3,
      x.invariant.4
          ∙ row_done (walk_in a.kind a.omit a.targets.now a.others.now a.k) (free_by a.omit) (512 + a.first.0) x.i e.symbol l₀ (take e.count e.keys) (omega arith) (omega arith) e.invariant.4 c.loop-symbol-test.false,
    )

pub returns-then-i-count : goal.returns-then-i-count
returns-then-i-count c =
    let x = c.expand in
    let a = c.args in
    let w = walk_in a.kind a.omit a.targets.now a.others.now a.k in
    let f = close_from w 512 a.first.0 (take a.from a.keys.now) in
    let l = take x.count x.keys in
    let n : length l ≡ x.count = count-is x.keys x.count x.invariant.0 x.invariant.3.keys_are in
    let whole : f ≡ l = x.invariant.4 ∙ keys_end w (512 + a.first.0 - x.i) x.i l (omega arith) in
    record {
      grown = grown_whole w (free_by a.omit) f x.keys x.next x.count x.invariant.0 whole (rw c.if-i-count.true at x.invariant.3);
      stopped = λ long. absurd (omega (arith, ap length whole, x.invariant.0));
    }

pub returns-in-None : goal.returns-in-None
returns-in-None c =
    let e = c.loop-symbol in
    let x = c.expand in
    let a = c.args in
    let s = c.step in
    let w = walk_in a.kind a.omit a.targets.now a.others.now a.k in
    let l₀ = take x.count x.keys in
    let n₀ : length l₀ ≡ x.count = count-is x.keys x.count x.invariant.0 x.invariant.3.keys_are in
    let l = take e.count e.keys in
    let n : length l ≡ e.count = count-is e.keys e.count e.invariant.0 e.invariant.3.keys_are in
    let over = ap option_of c.in-None.is in
    let f = close_from w (512 + a.first.0 - x.i) x.i l₀ in
    rw x.invariant.4
    (record {
      grown = grown_over w (free_by a.omit) f s.new.keys s.new.next
          (row_over w (free_by a.omit) (512 + a.first.0) x.i e.symbol l₀ l (omega arith) (omega arith) e.invariant.4 (omega arith) (omega arith) s.ensures over);
      stopped = λ _. record {
        l = l;
        i = x.i;
        s = e.symbol;
        few = omega arith;
        row = omega arith;
        symbol = omega arith;
        keys₀ = e.keys;
        next₀ = e.next;
        held = e.invariant.3;
        last = rw over at s.ensures;
        goes_on = row_more w (free_by a.omit) (512 + a.first.0) x.i e.symbol l₀ l (omega arith) (omega arith) e.invariant.4 (omega arith) (omega arith);
      };
    })
