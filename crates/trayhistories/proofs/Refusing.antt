-- A refused call changes nothing: what the list says is there after it is what was there before.
-- Assumes nothing.
use mathlib.Core.Path.{◌≡◌, refl}
use mathlib.Core.Bool.{false}
use mathlib.Core.List.{List, ◌∷◌}
use mathlib.Core.Option.{Option, none, some}
use Prim.Native.Nat.{ℕ}
use lib.Dec.{eqb}
use Rattle.base.specs.Options.{is_none}
use Rattle.base.proofs.Options.{none-some}
use Rattle.calls.specs.Calls.{install_number}
use Rattle.trays.specs.Replies.{Reply, accepted, refusal_of, reply_by, with_sets}
use Rattle.trays.specs.Calls.{Call, installs_row, installs_column, opens, delivers, withdraws, asks_verdict}
use Rattle.trayhistories.specs.History.{row_there, column_there, open_number, board_there, standing, deliver_number, withdraw_number, answer_of}
use Rattle.trayhistories.proofs.Steps.{refused_band}

-- what a list says is there, before and after the call c
pub record Same (h : List Call) (c : Call) : Type 0 where
  pub row : row_there (c ∷ h) ≡ row_there h
  pub column : column_there (c ∷ h) ≡ column_there h
  pub board : board_there (c ∷ h) ≡ board_there h
  pub bands : (p : ℕ) → standing (c ∷ h) p ≡ standing h p

-- a refusal has a number
numbered : (o : Option ℕ) (a : Reply) → refusal_of a ≡ none → (x : ℕ) → refusal_of (reply_by o a) ≡ some x → is_none o ≡ false
numbered none a taken x e = none-some taken e
numbered (some y) a taken x e = refl

pub refused_same : (h : List Call) (c : Call) (x : ℕ) → refusal_of (answer_of h c) ≡ some x → Same h c
unfolding row_there column_there board_there standing
refused_same h (installs_row r) x e =
    let n = numbered (install_number r) (with_sets r) refl x e in
    record { row = rw n; column = refl; board = rw n; bands = λ p. rw n }
refused_same h (installs_column r) x e =
    let n = numbered (install_number r) (with_sets r) refl x e in
    record { row = refl; column = rw n; board = rw n; bands = λ p. rw n }
refused_same h (opens w m) x e =
    let n = numbered (open_number h w m) accepted refl x e in
    record { row = refl; column = refl; board = rw n; bands = λ p. rw n }
refused_same h (delivers q b) x e =
    let n = numbered (deliver_number h q b) accepted refl x e in
    record { row = refl; column = refl; board = refl; bands = λ p. refused_band (eqb q p) (deliver_number h q b) (some b) (standing h p) n }
refused_same h (withdraws q) x e =
    let n = numbered (withdraw_number h q) accepted refl x e in
    record { row = refl; column = refl; board = refl; bands = λ p. refused_band (eqb q p) (withdraw_number h q) none (standing h p) n }
refused_same h asks_verdict x e = record { row = refl; column = refl; board = refl; bands = λ p. refl }
