-- What is claimed of the finding after a list of a tray's calls, for every list; proofs/Claims.antt
-- proves it.
use Rattle.std.specs.Prelude.{◌≡◌, ◌↔◌, List, ℕ, ◌≤◌}
use Rattle.std.proofs.Math.Option.{none}
use Rattle.trays.specs.Replies.{says_yes, says_no}
use Rattle.trays.specs.Calls.{Call}
use Rattle.trayhistories.specs.History.{column_in, board_there, bands_in, standing, empties_in, verdict_in}
use Rattle.trayhistories.specs.Claims.{tray_after}
use Rattle.faults.specs.Faulting.{Finding, column_at, open_with, fault_of}
use Rattle.trayfaults.specs.Worked.{lists, Answered}
use Rattle.trayfaults.specs.Faults.{RowsRight, Faulted, AcceptsNothing, IsFault}

pub record Claims : Type 0 where
  -- lists worked by hand
  pub answered : Answered lists
  -- after every list of calls the finding is the one that the list says, and there is only one
  pub fault : (h : List Call) (f : Finding) → (fault_of (tray_after h) ≡ f) ↔ Faulted h f
  -- with every band there, no is said exactly where the finding is a row, a column or a short one,
  -- and yes exactly where all bands are open
  pub no_exactly : (h : List Call) → (board_there h ≡ none → ⊥) → empties_in h ≡ 0
      → (verdict_in h ≡ says_no) ↔ IsFault (fault_of (tray_after h))
  pub yes_exactly : (h : List Call) → (board_there h ≡ none → ⊥) → empties_in h ≡ 0
      → (verdict_in h ≡ says_yes) ↔ (fault_of (tray_after h) ≡ open_with (bands_in h))
  -- of a column rule that accepts nothing the first column is lost with the first row, whatever
  -- stands
  pub accepts_nothing : (h : List Call) → (board_there h ≡ none → ⊥) → RowsRight h → AcceptsNothing h
      → fault_of (tray_after h) ≡ column_at 0 0 0
  -- a lost column stays lost while the column rule, the board and the bands up to the one by which
  -- it is lost are the same, and no row fault comes up: it, by the same row, or one before it is
  -- found
  pub stays : (h g : List Call) (c b i : ℕ) → fault_of (tray_after h) ≡ column_at c b i
      → column_in g ≡ column_in h → board_there g ≡ board_there h → ((p : ℕ) → p ≤ b → standing g p ≡ standing h p) → RowsRight g
      → (d : ℕ) × (a : ℕ) × (j : ℕ) × (fault_of (tray_after g) ≡ column_at d a j) × (d ≤ c) × (d ≡ c → (a ≡ b) × (j ≡ i))
