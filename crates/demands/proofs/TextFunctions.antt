-- A text fed through the functions of crates/stream: what their contracts allow is what the
-- definitions say, and that they allow. Assumes nothing.
use mathlib.Core.Path.{◌≡◌, refl, sym, ◌∙◌, subst}
use mathlib.Core.Logic.{◌↔◌}
use mathlib.Core.Bool.{false}
use mathlib.Core.List.{List, [], ◌++◌, flatten}
use mathlib.Core.Option.{some}
use Prim.Native.Nat.{ℕ, ◌≤◌}
use lib.ListN.{length, take}
use Rattle.limits.specs.Limits.{line_room}
use Rattle.lines.specs.Splitting.{lines_of}
use Rattle.longlines.specs.Holding.{line_begin}
use Rattle.text.specs.Writing.{Wrote}
use Rattle.linetexts.specs.Feeding.{LineMachine, State, gather_at, Gathers, finish_of}
use Rattle.linetexts.specs.Beginnings.{Beginning, state_of}
use Rattle.linetexts.specs.Lists.{Listed, list_of, list_teller}
use Rattle.linetexts.specs.Functions.{FedBlocks, Kept, Ends}
use Rattle.linetexts.proofs.Functions.{all_written}
use Rattle.linetexts.proofs.Beginnings.{begun, keeps_lines}
use Rattle.calls.specs.declared.Judge.{Judge}
use Rattle.std.specs.Borrow.{MutBor}
use Rattle.histories.proofs.Refinement.{lent}
use Rattle.calls.specs.mirror.Steps.{fresh}
use Rattle.stream.specs.Texts.{call_lines, right_text, call_list}
use Rattle.stream.proofs.Claimed as stream
use Rattle.demands.specs.TextFunctions.{pending_of, MayGather, MayFinish}

-- ---- what is promised of a function's arguments and results, in other words for them
module _ {J : Type 0} (m : LineMachine Beginning J) (s : State Beginning J) where
  pub round_so : {t t' : State Beginning J} {line out text before block after after' : List ℕ} {at next next' written written' : ℕ}
      → line ≡ s.kept.line → out ≡ before → text ≡ block → t ≡ t' → next ≡ next' → written ≡ written' → after ≡ after'
      → Gathers (gather_at m text at (length out) (state_of s.machine s.kept.held line)) at t' next' written' out after'
      → Gathers (gather_at m block at (length before) s) at t next written before after
  round_so {t' = t'} {out = out} {text = text} {after' = after'} {at = at} {next' = next'} {written' = written'} l o b u n w a g =
      rw (u, n, w, a, sym o, sym b) (subst (λ (v : List ℕ). Gathers (gather_at m text at (length out) (state_of s.machine s.kept.held v)) at t' next' written' out after') l g)

  pub end_so : {line out before after after' : List ℕ} {written : ℕ} → line ≡ s.kept.line → out ≡ before → after ≡ after'
      → Wrote out 0 (finish_of m (state_of s.machine s.kept.held line)).text after' written → Wrote before 0 (finish_of m s).text after written
  end_so {out = out} {after' = after'} {written = written} l o a g =
      rw (a, sym o) (subst (λ (v : List ℕ). Wrote out 0 (finish_of m (state_of s.machine s.kept.held v)).text after' written) l g)

kept : Kept call_lines MayGather
kept s t before block after at next written may =
    round_so call_lines s may.7 may.8 may.9 may.11 may.12 may.13 may.14 may.10.0

ends : Ends call_lines MayFinish
ends s before after written may = end_so call_lines s may.5 may.6 may.8 may.7.0

-- ---- and that they allow
abbrev pub lent_mut : List ℕ → MutBor (List ℕ)
lent_mut f = record { ref_ptr = (0, 0); ghost_name = 0; now = f }

pub gather_fixed : (s t : State Beginning (Listed Judge)) (before block after : List ℕ) (at next written : ℕ)
    → MayGather s before block at t next written after ↔ Gathers (gather_at call_lines block at (length before) s) at t next written before after
gather_fixed s t before block after at next written = (
  kept s t before block after at next written,
  λ g.
      let j = s.machine.machine in (
        ([], ([], ([], ([], tt)))),
        lent_mut s.kept.line,
        lent_mut [],
        lent_mut before,
        lent block,
        record { judge = t.machine.machine; pending = pending_of t; at = next; written = written },
        (j, (pending_of s, (lent_mut t.kept.line, (lent_mut [], (lent_mut after, (lent block, (at, tt))))))),
        refl,
        refl,
        refl,
        (g, refl),
        refl,
        refl,
        refl,
        refl,
      ),
)

pub finish_fixed : (s : State Beginning (Listed Judge)) (before after : List ℕ) (written : ℕ)
    → MayFinish s before written after ↔ Wrote before 0 (finish_of call_lines s).text after written
finish_fixed s before after written = (
  ends s before after written,
  λ g.
      let j = s.machine.machine in (
        ([], ([], ([], tt))),
        lent s.kept.line,
        lent_mut [],
        lent_mut before,
        (j, (pending_of s, (lent s.kept.line, (lent_mut [], (lent_mut after, tt))))),
        refl,
        refl,
        (g, refl),
        refl,
      ),
)

-- ---- so all that is written is right
pub fed : {written : ℕ} {s' : State Beginning (Listed Judge)} {blocks : List (List ℕ)} {line text before after : List ℕ} → line_room ≤ length line
    → FedBlocks MayGather (state_of (list_of fresh false) line_begin line) blocks s' text → MayFinish s' before written after
    → text ++ take written after ≡ right_text (some []) (lines_of (flatten blocks))
fed {blocks = blocks} large f may =
    all_written call_lines MayGather kept (keeps_lines (list_teller call_list) (stream.claims).told) MayFinish ends (begun _ large) f may ∙ (stream.claims).right (lines_of (flatten blocks))
