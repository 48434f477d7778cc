-- A rule's text is its first line, its sets' lines and its last line. Assumes nothing.
use mathlib.Core.Path.{◌≡◌, sym}
use mathlib.Core.List.{List}
use Prim.Native.Nat.{ℕ, ◌+◌, ◌≤◌, min}
use native.Mathlib.Omega.{arith}
use lib.ListN.{length}
use Rattle.base.specs.Lists.{joined}
use Rattle.text.specs.Writing.{Wrote}
use Rattle.text.proofs.Fitting.{put, ◌then◌}
use Rattle.build.specs.declared.Built.{Built}
use Rattle.ruletext.specs.RuleText.{set_line, head_line, delegates_line, rule_text}
use Rattle.ruletext.proofs.Lengths.{lines_most}

pub whole : (b : Built) (count k n : ℕ) {out m₁ m₂ after : List ℕ} {lines last end : ℕ}
    → count ≡ min b.setcount 512 → k ≡ min b.k 16 → n ≡ min b.n 32 → 39582 ≤ length out
    → Wrote out 0 (head_line count b.startcount) m₁ lines × (lines ≤ 20)
    → Wrote m₁ lines (joined (set_line b.sets b.next k) count) m₂ last
    → Wrote m₂ last (delegates_line b.delegates n) after end × (end ≤ last + 138)
    → Wrote out 0 (rule_text b) after end
whole b count k n {out} {m₁} {m₂} {after} {lines} {last} {end} count-is k-is n-is room first sets delegates =
    let l = lines_most b.sets b.next k (omega arith) count (omega arith) in
    let u = put (omega (arith, first.0.ends)) first.0 in
    let v = put (omega arith) sets in
    let w = put (omega (arith, delegates.0.ends)) delegates.0 in
    rw (sym count-is, sym k-is, sym n-is) (u then v then w).wrote
