-- EVERY LIST OF A TRAY'S CALLS, over the definitions alone: of the replies to the calls h and of the
-- tray that they leave, all that R-13 says holds. Assumes nothing.
use mathlib.Core.Path.{◌≡◌, refl, ap, ap₂, ◌∙◌}
use mathlib.Core.List.{List, [], ◌∷◌}
use mathlib.Core.Option.{some}
use Prim.Native.Nat.{ℕ}
use Rattle.executions.specs.Executions.{state_after, replies_to as machine_replies}
use Rattle.histories.proofs.Method.{method}
use Rattle.trays.specs.declared.Tray.{Tray}
use Rattle.trays.specs.Replies.{judged, refusal_of}
use Rattle.trays.specs.Calls.{Call, installs_row, installs_column, opens, delivers, withdraws, asks_verdict}
use Rattle.trays.specs.mirror.Steps.{step_of}
use Rattle.trays.proofs.Claims as trays
use Rattle.trayhistories.specs.History.{row_there, column_there, board_there, standing, answer_of, answers_to}
use Rattle.trayhistories.specs.Claims.{tray_after, replies_to, Unchanged, EveryList}
use Rattle.trayhistories.proofs.Numbers.{empties_same, held_same}
use Rattle.trayhistories.proofs.Agreement.{no_rule_lem, no_board}
use Rattle.trayhistories.proofs.Steps.{AgreesWith, good_fresh, install_row_good, install_row_says, install_column_good, install_column_says, open_good, open_says, withdraw_good, withdraw_says, deliver_good, deliver_says, ask_good, verdict_says}
use Rattle.trayhistories.proofs.Installing.{installation}
use Rattle.trayhistories.proofs.Conditions.{accepted_exactly, refused_exactly}
use Rattle.trayhistories.proofs.Clauses.{wide, board_words, verdict_words}
use Rattle.trayhistories.proofs.Refusing.{refused_same}
use Rattle.trayhistories.proofs.Changing.{changes, any_order}

-- ---- one call
module _ (h : List Call) (t : Tray) (g : AgreesWith h t) where
  step_good : (c : Call) → AgreesWith (c ∷ h) (step_of t c).state
  step_good (installs_row r) = install_row_good h t g r
  step_good (installs_column r) = install_column_good h t g r
  step_good (opens w n) = open_good h t g w n
  step_good (delivers p b) = deliver_good h t g p b
  step_good (withdraws p) = withdraw_good h t g p
  step_good asks_verdict = ask_good h t g

  step_right : (c : Call) → (step_of t c).reply ≡ answer_of h c
  step_right (installs_row r) = install_row_says h t g r
  step_right (installs_column r) = install_column_says h t g r
  step_right (opens w n) = open_says h t g w n
  step_right (delivers p b) = deliver_says h t g p b
  step_right (withdraws p) = withdraw_says h t g p
  step_right asks_verdict = ap judged (verdict_says h t g)

-- ---- every list
good : (h : List Call) → AgreesWith h (tray_after h)
unfolding state_after
good [] = good_fresh
good (c ∷ h) = step_good h (tray_after h) (good h) c

correct : (h : List Call) → replies_to h ≡ answers_to h
unfolding machine_replies answers_to
correct [] = refl
correct (c ∷ h) = ap₂ ◌∷◌ (step_right h (tray_after h) (good h) c) (correct h)

-- a call made then is answered as the list says
pub answer_after : (h : List Call) (c : Call) → (step_of (tray_after h) c).reply ≡ answer_of h c
answer_after h = step_right h (tray_after h) (good h)

unchanged : (h : List Call) (c : Call) (x : ℕ) → refusal_of (answer_of h c) ≡ some x → Unchanged h c
unfolding state_after
unchanged h c x e =
    let same = refused_same h c x e in record {
      tray = (trays.claims).unchanged (tray_after h) c x (ap refusal_of (answer_after h c) ∙ e);
      row = same.row;
      column = same.column;
      board = same.board;
      bands = same.bands;
    }

unchanged_asked : (h : List Call) → Unchanged h asks_verdict
unfolding state_after row_there column_there board_there standing
unchanged_asked h = record { tray = refl; row = refl; column = refl; board = refl; bands = λ p. refl }

-- THE THEOREM
pub every_list : (h : List Call) → EveryList h
every_list h =
    let t = tray_after h in
    let g = good h in record {
      correct = correct h;
      row_installation = installation;
      column_installation = installation;
      method = method;
      accepted_exactly = accepted_exactly h (λ s e. (wide h t g s e).0);
      refused_exactly = refused_exactly h (λ s e. (wide h t g s e).0);
      changes = changes h (unchanged_asked h);
      any_order = any_order h;
      unchanged = unchanged h;
      after = record {
        row = g.rules.row_is;
        column = g.rules.column-is;
        lacks_rule_lem = no_rule_lem (row_there h) (column_there h) (board_there h) (standing h) t g;
        lacks_board_lem = no_board (row_there h) (column_there h) (board_there h) (standing h) t g;
        width = g.width_is;
        bands = g.bands_are;
        empty = λ p l. (g.bands_hold p l).empty;
        rows = λ p l. (g.bands_hold p l).rows;
        empties = empties_same (row_there h) (column_there h) (board_there h) (standing h) t g;
        held = held_same (row_there h) (column_there h) (board_there h) (standing h) t g;
        asked = verdict_says h t g;
      };
      board = board_words h t g;
      verdict = verdict_words h t g;
    }
