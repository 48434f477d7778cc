-- A rule's text is its head, the lines of its states, of its initial states and of its arrows, and
-- the closing line; and the buffer it is written to has room for it. Assumes nothing.
use mathlib.Core.Path.{◌≡◌, sym}
use mathlib.Core.List.{List}
use Prim.Native.Nat.{ℕ, ◌+◌, ◌*◌, ◌≤◌, min}
use native.Mathlib.Omega.{arith}
use lib.ListN.{length}
use Rattle.base.specs.Lists.{joined}
use Rattle.text.specs.Writing.{Wrote}
use Rattle.automaton.specs.declared.Rule.{Rule}
use Rattle.dotgraph.specs.Words.{closing}
use Rattle.dotgraph.specs.DotText.{head_lines, state_line, initial_lines, arrows_text, graph, dot_text, most_bytes}
use Rattle.text.proofs.Rooms.{exact, two}

pub whole : (r : Rule) (n k : ℕ) {out m₁ m₂ m₃ m₄ after : List ℕ} {a b c d e : ℕ} → n ≡ min r.n 32 → k ≡ min r.k 16 → most_bytes ≤ length out
    → Wrote out 0 head_lines m₁ a × (a ≤ 0 + 48)
    → Wrote m₁ a (joined (state_line r.finals) n) m₂ b × (b ≤ a + 25 * n)
    → Wrote m₂ b (joined (initial_lines r.initials) n) m₃ c × (c ≤ b + 30 * n)
    → Wrote m₃ c (arrows_text r.targets n k) m₄ d × (d ≤ c + 2208 * n)
    → Wrote m₄ d closing after e
    → Wrote out 0 (dot_text r) after e × (e ≤ most_bytes)
whole r n k {out} {m₁} {m₂} {m₃} {m₄} {after} {a} {b} {c} {d} {e} n-is k-is room head states initials arrows end =
    let w : Wrote out 0 (graph r n k) after e × (e ≤ 0 + (48 + (25 * n + (30 * n + (2208 * n + 2))))) =
    two 48 (25 * n + (30 * n + (2208 * n + 2))) (omega arith) head
    (λ h₁. two (25 * n) (30 * n + (2208 * n + 2)) h₁ states
    (λ h₂. two (30 * n) (2208 * n + 2) h₂ initials
    (λ h₃. two (2208 * n) 2 h₃ arrows (λ h₄. exact end)))) in
    (rw (sym n-is, sym k-is) w.0, omega (arith, w.1))
