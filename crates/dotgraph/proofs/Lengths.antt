-- How long the parts of the drawing are at most. A number that is drawn is below 100. Assumes
-- nothing.
--
--   arrow_most      8
--   state_most      25
--   initial_most    30
--   line_most       69
--   from_most       2,208 for the arrows of a state
--   dot_most        72,466
use mathlib.Core.Bool.{cond}
use mathlib.Core.List.{List, [], ◌++◌}
use Prim.Native.Nat.{ℕ, ◌≤◌, ◌<◌, min}
use native.Mathlib.Omega.{arith}
use lib.ListN.{length, length-append}
use Rattle.base.specs.Lists.{joined}
use Rattle.base.specs.Conditions.{any_below}
use Rattle.base.proofs.Lists.{joined_length}
use Rattle.masks.specs.Masks.{has}
use Rattle.automaton.specs.declared.Rule.{Rule}
use Rattle.text.specs.Numerals.{decimal}
use Rattle.dotlabels.specs.Labels.{leads, label}
use Rattle.dotlabels.proofs.Lengths.{both, one_of, number_most, label_most}
use Rattle.dotgraph.specs.Words.{
  final_mark,
  point_mark,
  line_end,
  entry_name,
  arrow_sign,
  label_start,
  label_end,
  closing,
}
use Rattle.dotgraph.specs.DotText.{
  head_lines,
  state_line,
  arrow,
  point_line,
  entry_line,
  initial_lines,
  arrow_line,
  arrow_lines,
  arrows_from,
  arrows_text,
  dot_text,
  most_bytes,
}

arrow_most : (q t : ℕ) → q < 100 → t < 100 → length (arrow q t) ≤ 8
arrow_most q t hq ht =
    both 2 6 (decimal q) (arrow_sign ++ decimal t) (number_most q hq)
    (both 4 2 arrow_sign (decimal t) (omega arith) (number_most t ht))

state_most : (finals q : ℕ) → q < 100 → length (state_line finals q) ≤ 25
state_most finals q h =
    both 2 23 (decimal q) (cond (has finals q) final_mark line_end) (number_most q h)
    (one_of 23 (has finals q) final_mark line_end (omega arith) (omega arith))

initial_most : (initials q : ℕ) → q < 100 → length (initial_lines initials q) ≤ 30
initial_most initials q h =
    one_of 30 (has initials q) (point_line q ++ entry_line q) []
    (both 19 11 (point_line q) (entry_line q)
    (both 1 18 entry_name (decimal q ++ point_mark) (omega arith) (both 2 16 (decimal q) point_mark (number_most q h) (omega arith)))
    (both 1 10 entry_name (arrow q q ++ line_end) (omega arith) (both 8 2 (arrow q q) line_end (arrow_most q q h h) (omega arith))))
    (omega arith)

module _ (ts : List ℕ) (n k : ℕ) (hn : n ≤ 32) (hk : k ≤ 16) where
  line_most : (q t : ℕ) → q < n → t < n → length (arrow_lines ts k q t) ≤ 69
  line_most q t hq ht =
      let p = leads ts k q t in
      one_of 69 (any_below p k) (arrow_line ts k q t) []
      (both 8 61 (arrow q t) (label_start ++ (label p k ++ label_end)) (arrow_most q t (omega arith) (omega arith))
      (both 9 52 label_start (label p k ++ label_end) (omega arith) (both 48 4 (label p k) label_end (label_most p k hk) (omega arith))))
      (omega arith)

  from_most : (q : ℕ) → q < n → length (arrows_from ts n k q) ≤ 2208
  from_most q hq = omega (arith, joined_length (arrow_lines ts k q) n 69 (λ t l. line_most q t hq l))

  arrows_most : length (arrows_text ts n k) ≤ 70656
  arrows_most = omega (arith, joined_length (arrows_from ts n k) n 2208 (λ q l. from_most q l))

pub dot_most : (r : Rule) → length (dot_text r) ≤ most_bytes
dot_most r =
    let n = min r.n 32 in
    let k = min r.k 16 in
    let states = joined (state_line r.finals) n in
    let initials = joined (initial_lines r.initials) n in
    let arrows = arrows_text r.targets n k in
    let hs = joined_length (state_line r.finals) n 25 (λ q l. state_most r.finals q (omega arith)) in
    let hi = joined_length (initial_lines r.initials) n 30 (λ q l. initial_most r.initials q (omega arith)) in
    let ha = arrows_most r.targets n k (omega arith) (omega arith) in
    omega (
      arith,
      length-append head_lines (states ++ (initials ++ (arrows ++ closing))),
      length-append states (initials ++ (arrows ++ closing)),
      length-append initials (arrows ++ closing),
      length-append arrows closing,
    )
