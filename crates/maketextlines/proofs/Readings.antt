-- What the ways through `numbers` and `parse` come to. Assumes nothing.
use mathlib.Core.Path.{◌≡◌, sym, ap, ◌∙◌}
use mathlib.Core.List.{List}
use mathlib.Core.Option.{none, some}
use Prim.Native.Nat.{ℕ, suc, ◌+◌, ◌-◌, ◌≤◌, ◌<◌}
use native.Mathlib.Omega.{arith}
use borrow.Author.Tests.{le-leb, lt-leb}
use lib.ListN.{length, take, drop, length-drop}
use lib.Seq.{take_all, drop-drop}
use Rattle.lines.specs.Splitting.{up_to, past}
use Rattle.lines.proofs.Splits.{up_take, past_there, past_none}
use Rattle.fields.specs.Numbers.{parse_number}
use Rattle.maketextlines.specs.Lines.{Meaning, makes, malformed, up_to_most, makes_by, line_in}

-- ---- the three numbers
module _ (k s n : List ℕ) (v : ℕ) (e : some v ≡ parse_number k) (u : ℕ) (d : some u ≡ parse_number s) (m : ℕ) (f : some m ≡ parse_number n) where
  abbrev meant : Meaning
  meant = makes_by (parse_number k) (parse_number s) (up_to_most 65536 (parse_number n))

  pub great_length : 65536 < m → malformed ≡ meant
  great_length l = rw (← e, ← d, ← f, lt-leb m 65536 l)

  pub all_three : m ≤ 65536 → makes v u m ≡ meant
  all_three l = rw (← e, ← d, ← f, le-leb m 65536 l)

-- ---- `space` is the index of the first space from `from` on
module _ (w : List ℕ) (from space : ℕ) (long : from ≤ length w) (found : space ≡ from + length (up_to 32 (drop from w))) where
  rest_length : length (drop from w) + from ≡ length w
  rest_length = omega (arith, length-drop from w)

  pub none_behind : length w ≤ space → past 32 (drop from w) ≡ none
  none_behind l = past_none 32 (drop from w) (omega (arith, rest_length))

  pub part_is : take (space - from) (drop from w) ≡ up_to 32 (drop from w)
  part_is =
      let size : space - from ≡ length (up_to 32 (drop from w)) = omega (arith, found) in
      ap (λ (x : ℕ). take x (drop from w)) size ∙ sym (up_take 32 (drop from w))

  pub behind_is : space < length w → past 32 (drop from w) ≡ some (drop (space + 1) w)
  behind_is here =
      let m = length (up_to 32 (drop from w)) in
      let next : from + suc m ≡ space + 1 = omega (arith, found) in
      past_there 32 (drop from w) (omega (arith, rest_length))
      ∙ ap (λ (l : List ℕ). some l) (drop-drop (suc m) from w ∙ ap (λ (x : ℕ). drop x w) next)

module _ (w : List ℕ) (first : ℕ) (found : first ≡ 0 + length (up_to 32 (drop 0 w))) where
  pub no_space : length w ≤ first → malformed ≡ line_in w
  unfolding line_in
  no_space l = rw (none_behind w 0 first (omega arith) found l)

  module _ (here : first < length w) (second : ℕ) (next : second ≡ first + 1 + length (up_to 32 (drop (first + 1) w))) where
    pub one_space : length w ≤ second → malformed ≡ line_in w
    unfolding line_in
    one_space l =
        rw (behind_is w 0 first (omega arith) found here, none_behind w (first + 1) second (omega arith) next l)

    pub two_spaces : second < length w → (m : Meaning)
        → m ≡ makes_by (parse_number (take first w)) (parse_number (take (second - (first + 1)) (drop (first + 1) w)))
        (up_to_most 65536 (parse_number (take (length w - (second + 1)) (drop (second + 1) w))))
        → m ≡ line_in w
    unfolding line_in
    two_spaces l m e =
        let z : first - 0 ≡ first = omega arith in
        let one : take first w ≡ up_to 32 w = rw z at (part_is w 0 first (omega arith) found) in
        let two = part_is w (first + 1) second (omega arith) next in
        let three : take (length w - (second + 1)) (drop (second + 1) w) ≡ drop (second + 1) w =
        take_all (length w - (second + 1)) (drop (second + 1) w) (omega (arith, length-drop (second + 1) w)) in
        rw (behind_is w 0 first (omega arith) found here, behind_is w (first + 1) second (omega arith) next l) (rw (one, two, three) at e)
