-- How long the parts of the text are at most. Assumes nothing.
--
--   number_most             3
--   index_most, mask_most   3 and 8
--   field_most, cell_most, delegate_most   4
--   row_most, cells_most    4 for each symbol, 64 for a row
--   line_most               77
--   fields-most, lines-most 4 for each state, 77 for each set
--   head_most, last_most    20 and 138
--   rule_most               39,582
use mathlib.Core.Path.{◌≡◌, refl}
use mathlib.Core.List.{List, [], ◌∷◌, ◌++◌}
use mathlib.Core.Option.{Option, none, some}
use Prim.Native.Nat.{ℕ, ◌+◌, ◌*◌, ◌≤◌, ◌<◌, min}
use native.Mathlib.Omega.{arith}
use lib.Dec.{ltb}
use lib.ListN.{length, get_or, length-append}
use borrow.Author.Tests.{ltb-true}
use Rattle.base.specs.Lists.{joined}
use Rattle.base.proofs.Lists.{joined_length}
use Rattle.base.proofs.Tests.{by_test}
use Rattle.text.specs.Numerals.{decimal, hex}
use Rattle.text.proofs.Digits.{decimal_most, hex_length}
pub use Rattle.answers.proofs.Lengths.{byte_most, refused_most}
use Rattle.delegates.specs.Alike.{delegate_in}
use Rattle.delegates.proofs.Alike.{some_said}
use Rattle.build.specs.declared.Built.{Built}
use Rattle.ruletext.specs.RuleText.{field, cell_text, row_text, set_line, head_line, delegate_text, delegates_line, rule_text, starts_word, space, line_feed}
use Rattle.ruletext.specs.Printing.{most_bytes}

pub number_most : (n : ℕ) → n ≤ 512 → length (decimal n) ≤ 3
number_most n h = decimal_most 2 n (omega arith)

pub index_most : (i : ℕ) → i < 512 → length (decimal i) ≤ 3
index_most i h = number_most i (omega arith)

pub mask_most : (n : ℕ) → length (hex 8 n) ≤ 8
mask_most n = omega (arith, hex_length 8 n)

pub field_most : (n : ℕ) → n < 256 → length (field n) ≤ 4
field_most n h = omega (arith, byte_most n h)

pub cell_most : (to : ℕ) → length (cell_text to) ≤ 4
cell_most to =
    by_test (ltb to 512)
    (λ e. rw e (omega (arith, number_most to (omega (arith, ltb-true to 512 e)))))
    (λ e. rw e (omega arith))

pub row_most : (next : List ℕ) (k i : ℕ) → length (row_text next k i) ≤ k * 4
row_most next k i = joined_length (λ s. cell_text (get_or next (i * 16 + s) 0)) k 4 (λ s h. cell_most (get_or next (i * 16 + s) 0))

pub cells_most : (next : List ℕ) (k i : ℕ) → k ≤ 16 → length (row_text next k i) ≤ 64
cells_most next k i h = omega (arith, row_most next k i)

pub cells_room : (k : ℕ) → k ≤ 16 → 4 * k ≤ 64
cells_room k h = omega arith

pub line_most : (sets next : List ℕ) (k i : ℕ) → k ≤ 16 → i < 512 → length (set_line sets next k i) ≤ 77
line_most sets next k i hk hi =
    let r = row_most next k i in
    let h = hex_length 8 (get_or sets i 0) in
    let d = index_most i hi in
    omega (
      arith,
      length-append (decimal i) ((space ∷ []) ++ (hex 8 (get_or sets i 0) ++ (row_text next k i ++ (line_feed ∷ [])))),
      length-append (hex 8 (get_or sets i 0)) (row_text next k i ++ (line_feed ∷ [])),
      length-append (row_text next k i) (line_feed ∷ []),
    )

-- a delegate that a list says is below 32
pub delegate_most : (d : List ℕ) (q : ℕ) → length (delegate_text (delegate_in d q)) ≤ 4
delegate_most d q = of (delegate_in d q) refl
  where
    of : (o : Option ℕ) → delegate_in d q ≡ o → length (delegate_text o) ≤ 4
    of none e = omega arith
    of (some x) e = field_most x (omega (arith, (some_said d q x e).1))

pub fields_most : (d : List ℕ) (n : ℕ) → length (joined (λ q. delegate_text (delegate_in d q)) n) ≤ n * 4
fields_most d n = joined_length (λ q. delegate_text (delegate_in d q)) n 4 (λ q l. delegate_most d q)

pub lines_most : (sets next : List ℕ) (k : ℕ) → k ≤ 16 → (n : ℕ) → n ≤ 512 → length (joined (set_line sets next k) n) ≤ n * 77
lines_most sets next k hk n hn = joined_length (set_line sets next k) n 77 (λ i l. line_most sets next k i hk (omega arith))

pub head_most : (count starts : ℕ) → count ≤ 512 → starts < 256 → length (head_line count starts) ≤ 20
head_most count starts hc hs =
    omega (
      arith,
      number_most count hc,
      byte_most starts hs,
      length-append (decimal count) (starts_word ++ (decimal starts ++ (line_feed ∷ []))),
      length-append (decimal starts) (line_feed ∷ []),
    )

pub last_most : (d : List ℕ) (n : ℕ) → n ≤ 32 → length (delegates_line d n) ≤ 138
last_most d n hn = omega (arith, fields_most d n, length-append (joined (λ q. delegate_text (delegate_in d q)) n) (line_feed ∷ []))

pub rule_most : (b : Built) → b.startcount < 256 → length (rule_text b) ≤ most_bytes
rule_most b hs =
    let count = min b.setcount 512 in
    let first = head_line count b.startcount in
    let lines = joined (set_line b.sets b.next (min b.k 16)) count in
    let last = delegates_line b.delegates (min b.n 32) in
    let hf = head_most count b.startcount (omega arith) hs in
    let hl = lines_most b.sets b.next (min b.k 16) (omega arith) count (omega arith) in
    let ht = last_most b.delegates (min b.n 32) (omega arith) in
    omega (arith, length-append first (lines ++ last), length-append lines last)
