-- `check` meets its contract: where the conditions before one fail and it holds, the number is its
-- number. Assumes nothing.
use mathlib.Core.Bool.{Bool, true, false}
use mathlib.Core.List.{List}
use mathlib.Core.Path.{◌≡◌, sym, ap, ◌∙◌}
use Prim.Native.Nat.{ℕ}
use native.Mathlib.Omega.{arith}
use Rattle.rulecheck.specs.Checking.{bad_state_count, bad_symbol_count, bad_masks}
use Rattle.ruleformat.specs.Format.{state_count, symbol_count, initial_mask, final_mask}
use Rattle.ruleformat.specs.Refusals.{bad_states, bad_symbols, bad_mask, bad_pairs, bad_arcs}
use Rattle.ruleformat.proofs.Refused.{short, not_short, long, not_long, states_test, symbols_test, lacks_room, room, masks_test, from_1}
use Rattle.rulefile.proofs.check.Goals as goal

-- ---- what the tests of the numbers in the file say
states : (f : List ℕ) {n : ℕ} {t : Bool} → n ≡ state_count f → t ≡ bad_state_count n → bad_states f ≡ t
states f e r = states_test f ∙ sym (r ∙ ap bad_state_count e)

symbols : (f : List ℕ) {k : ℕ} {t : Bool} → k ≡ symbol_count f → t ≡ bad_symbol_count k
    → bad_symbols f ≡ t
symbols f e r = symbols_test f ∙ sym (r ∙ ap bad_symbol_count e)

masks : (f : List ℕ) {n i m : ℕ} {t : Bool} → n ≡ state_count f → i ≡ initial_mask f → m ≡ final_mask f
    → t ≡ bad_masks n i m → bad_mask f ≡ t
masks f en ei em r = masks_test f ∙ sym (rw (en, ei, em) at r)

-- ---- the goals
pub returns-then-len-lt10 : goal.returns-then-len-lt10
returns-then-len-lt10 c =
    let f = c.args.file.now in
    let e1 = short f c.if-len-lt10.true in
    rw (from_1 f, e1)

pub returns-then-len-gt-FILE : goal.returns-then-len-gt-FILE
returns-then-len-gt-FILE c =
    let f = c.args.file.now in
    let e1 = not_short f c.if-len-lt10.false in
    let e2 = long f c.if-len-gt-FILE.true in
    rw (from_1 f, e1, e2)

pub returns-then-outside : goal.returns-then-outside
returns-then-outside c =
    let f = c.args.file.now in
    let e1 = not_short f c.if-len-lt10.false in
    let e2 = not_long f c.if-len-gt-FILE.false in
    let e3 : bad_states f ≡ true = states f c.byte-n.ensures.0 c.outside.ensures ∙ c.if-outside.true in
    rw (from_1 f, e1, e2, e3)

pub returns-then-outside-2 : goal.returns-then-outside-2
returns-then-outside-2 c =
    let f = c.args.file.now in
    let e1 = not_short f c.if-len-lt10.false in
    let e2 = not_long f c.if-len-gt-FILE.false in
    let e3 : bad_states f ≡ false = states f c.byte-n.ensures.0 c.outside.ensures ∙ c.if-outside.false in
    let e4 : bad_symbols f ≡ true = symbols f c.byte-k.ensures.0 c.outside-2.ensures ∙ c.if-outside-2.true in
    rw (from_1 f, e1, e2, e3, e4)

pub returns-then-len-n : goal.returns-then-len-n
returns-then-len-n c =
    let f = c.args.file.now in
    let e1 = not_short f c.if-len-lt10.false in
    let e2 = not_long f c.if-len-gt-FILE.false in
    let e3 : bad_states f ≡ false = states f c.byte-n.ensures.0 c.outside.ensures ∙ c.if-outside.false in
    let e4 : bad_symbols f ≡ false = symbols f c.byte-k.ensures.0 c.outside-2.ensures ∙ c.if-outside-2.false in
    let e5 = lacks_room f (omega (arith, c.byte-n.ensures.0)) in
    rw (from_1 f, e1, e2, e3, e4, e5)

pub returns-then-bad_masks : goal.returns-then-bad_masks
returns-then-bad_masks c =
    let f = c.args.file.now in
    let e1 = not_short f c.if-len-lt10.false in
    let e2 = not_long f c.if-len-gt-FILE.false in
    let e3 : bad_states f ≡ false = states f c.byte-n.ensures.0 c.outside.ensures ∙ c.if-outside.false in
    let e4 : bad_symbols f ≡ false = symbols f c.byte-k.ensures.0 c.outside-2.ensures ∙ c.if-outside-2.false in
    let e5 = room f (omega (arith, c.byte-n.ensures.0)) in
    let e6 : bad_mask f ≡ true = masks f c.byte-n.ensures.0 c.word-initials.ensures c.word-finals.ensures c.bad_masks.ensures ∙ c.if-bad_masks.true in
    rw (from_1 f, e1, e2, e3, e4, e5, e6)

pub returns-then-pairs_break : goal.returns-then-pairs_break
returns-then-pairs_break c =
    let f = c.args.file.now in
    let e1 = not_short f c.if-len-lt10.false in
    let e2 = not_long f c.if-len-gt-FILE.false in
    let e3 : bad_states f ≡ false = states f c.byte-n.ensures.0 c.outside.ensures ∙ c.if-outside.false in
    let e4 : bad_symbols f ≡ false = symbols f c.byte-k.ensures.0 c.outside-2.ensures ∙ c.if-outside-2.false in
    let e5 = room f (omega (arith, c.byte-n.ensures.0)) in
    let e6 : bad_mask f ≡ false = masks f c.byte-n.ensures.0 c.word-initials.ensures c.word-finals.ensures c.bad_masks.ensures ∙ c.if-bad_masks.false in
    let e7 : bad_pairs f ≡ true = sym c.pairs_break.ensures ∙ c.if-pairs_break.true in
    rw (from_1 f, e1, e2, e3, e4, e5, e6, e7)

pub arcs_break-requires : goal.arcs_break-requires
arcs_break-requires c =
    (omega arith, omega (arith, c.byte-n.ensures.0), sym c.pairs_break.ensures ∙ c.if-pairs_break.false)

pub returns-then-arcs_break : goal.returns-then-arcs_break
returns-then-arcs_break c =
    let f = c.args.file.now in
    let e1 = not_short f c.if-len-lt10.false in
    let e2 = not_long f c.if-len-gt-FILE.false in
    let e3 : bad_states f ≡ false = states f c.byte-n.ensures.0 c.outside.ensures ∙ c.if-outside.false in
    let e4 : bad_symbols f ≡ false = symbols f c.byte-k.ensures.0 c.outside-2.ensures ∙ c.if-outside-2.false in
    let e5 = room f (omega (arith, c.byte-n.ensures.0)) in
    let e6 : bad_mask f ≡ false = masks f c.byte-n.ensures.0 c.word-initials.ensures c.word-finals.ensures c.bad_masks.ensures ∙ c.if-bad_masks.false in
    let e7 : bad_pairs f ≡ false = sym c.pairs_break.ensures ∙ c.if-pairs_break.false in
    let e8 : bad_arcs f ≡ true = sym c.arcs_break.ensures ∙ c.if-arcs_break.true in
    rw (from_1 f, e1, e2, e3, e4, e5, e6, e7, e8)

pub returns : goal.returns
returns c =
    let f = c.args.file.now in
    let e1 = not_short f c.if-len-lt10.false in
    let e2 = not_long f c.if-len-gt-FILE.false in
    let e3 : bad_states f ≡ false = states f c.byte-n.ensures.0 c.outside.ensures ∙ c.if-outside.false in
    let e4 : bad_symbols f ≡ false = symbols f c.byte-k.ensures.0 c.outside-2.ensures ∙ c.if-outside-2.false in
    let e5 = room f (omega (arith, c.byte-n.ensures.0)) in
    let e6 : bad_mask f ≡ false = masks f c.byte-n.ensures.0 c.word-initials.ensures c.word-finals.ensures c.bad_masks.ensures ∙ c.if-bad_masks.false in
    let e7 : bad_pairs f ≡ false = sym c.pairs_break.ensures ∙ c.if-pairs_break.false in
    let e8 : bad_arcs f ≡ false = sym c.arcs_break.ensures ∙ c.if-arcs_break.false in
    rw (from_1 f, e1, e2, e3, e4, e5, e6, e7, e8)
