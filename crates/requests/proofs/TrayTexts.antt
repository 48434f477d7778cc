-- A text fed through the functions of crates/traystream: what their contracts allow is what the
-- definitions say, and that they allow. Assumes nothing.
use mathlib.Core.Path.{◌≡◌, refl, ◌∙◌}
use mathlib.Core.Logic.{◌↔◌}
use mathlib.Core.Bool.{false}
use mathlib.Core.List.{List, [], ◌++◌, flatten}
use mathlib.Core.Option.{some}
use Prim.Native.Nat.{ℕ, ◌+◌, ◌≤◌}
use lib.ListN.{length, take}
use Rattle.lines.specs.Splitting.{lines_of}
use Rattle.longlines.specs.Holding.{line_begin}
use Rattle.text.specs.Writing.{Wrote}
use Rattle.linetexts.specs.Feeding.{State, gather_at, Gathers, finish_of}
use Rattle.linetexts.specs.Beginnings.{Beginning, state_of}
use Rattle.linetexts.specs.Lists.{Listed, list_of, list_teller}
use Rattle.linetexts.specs.Functions.{FedBlocks, Kept, Ends}
use Rattle.linetexts.proofs.Functions.{all_written}
use Rattle.linetexts.proofs.Beginnings.{begun, keeps_lines}
use Rattle.trays.specs.declared.Tray.{Tray}
use Rattle.histories.proofs.Refinement.{lent}
use Rattle.demands.proofs.TextFunctions.{lent_mut}
use Rattle.trays.specs.mirror.Steps.{fresh}
use Rattle.traystream.specs.Texts.{tray_room, tray_lines, right_text, tray_list}
use Rattle.traystream.proofs.Claimed as traystream
use Rattle.requests.specs.TrayTexts.{MayGather, MayFinish}
use Rattle.demands.specs.TextFunctions.{pending_of}
use Rattle.demands.proofs.TextFunctions.{round_so, end_so}

kept : Kept tray_lines MayGather
kept s t before block after at next written may =
    round_so tray_lines s may.7 may.8 may.9 may.11 may.12 may.13 may.14 may.10.0

ends : Ends tray_lines MayFinish
ends s before after written may = end_so tray_lines s may.5 may.6 may.8 may.7.0

-- ---- and that they allow
pub gather_fixed : (s t : State Beginning (Listed Tray)) (before block after : List ℕ) (at next written : ℕ)
    → MayGather s before block at t next written after ↔ Gathers (gather_at tray_lines block at (length before) s) at t next written before after
gather_fixed s t before block after at next written = (
  kept s t before block after at next written,
  λ g.
      let tray = s.machine.machine in (
        ([], ([], ([], ([], tt)))),
        lent_mut s.kept.line,
        lent_mut [],
        lent_mut before,
        lent block,
        record { tray = t.machine.machine; pending = pending_of t; at = next; written = written },
        (tray, (pending_of s, (lent_mut t.kept.line, (lent_mut [], (lent_mut after, (lent block, (at, tt))))))),
        refl,
        refl,
        refl,
        (g, refl),
        refl,
        refl,
        refl,
        refl,
      ),
)

pub finish_fixed : (s : State Beginning (Listed Tray)) (before after : List ℕ) (written : ℕ)
    → MayFinish s before written after ↔ Wrote before 0 (finish_of tray_lines s).text after written
finish_fixed s before after written = (
  ends s before after written,
  λ g.
      let tray = s.machine.machine in (
        ([], ([], ([], tt))),
        lent s.kept.line,
        lent_mut [],
        lent_mut before,
        (tray, (pending_of s, (lent s.kept.line, (lent_mut [], (lent_mut after, tt))))),
        refl,
        refl,
        (g, refl),
        refl,
      ),
)

-- ---- so all that is written is right
pub fed : {written : ℕ} {s' : State Beginning (Listed Tray)} {blocks : List (List ℕ)} {line text before after : List ℕ} → tray_room + 1 ≤ length line
    → FedBlocks MayGather (state_of (list_of fresh false) line_begin line) blocks s' text → MayFinish s' before written after
    → text ++ take written after ≡ right_text (some []) (lines_of (flatten blocks))
fed {blocks = blocks} large f may =
    all_written tray_lines MayGather kept (keeps_lines (list_teller tray_list) (traystream.claims).told) MayFinish ends (begun _ large) f may ∙ (traystream.claims).right (lines_of (flatten blocks))
