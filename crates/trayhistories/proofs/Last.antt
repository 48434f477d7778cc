-- Which rules, board and bands are there, by the last accepted call of a kind, as specs/Last.antt
-- says: the law of crates/executions, as for the judge (crates/histories/proofs/Last.antt). Assumes
-- nothing.
use mathlib.Core.Path.{◌≡◌, refl, subst, subst₂}
use mathlib.Core.Logic.Iff
use mathlib.Core.Logic.{◌⊎◌, inl, inr}
use mathlib.Core.List.{List, [], ◌∷◌}
use mathlib.Core.Option.{Option, none, some}
use Prim.Native.Nat.{ℕ}
use Rattle.base.proofs.Options.{none-some}
use Rattle.executions.proofs.Last as executions
use Rattle.automaton.specs.declared.Rule.{Rule}
use Rattle.calls.specs.Calls.{install_number}
use Rattle.histories.proofs.Last.{sets_it, keeps_it, sets_at, keeps_at, none_or, same_or}
use Rattle.trays.specs.Replies.{Reply, accepted, refusal_of, reply_by, with_sets}
use Rattle.trays.specs.Calls.{Call, installs_row, installs_column, opens, delivers, withdraws, asks_verdict}
use Rattle.trayhistories.specs.History.{row_there, column_there, open_number, Size, board_there, standing, deliver_number, withdraw_number, answer_of}
use Rattle.trayhistories.specs.Last.{Accepted, Last, RowRules, ColumnRules, Begins, Touches, LastRow, LastColumn, LastBoard, LastStanding}

-- ---- the number of each call
pub number_of : (o : Option ℕ) (a : Reply) → refusal_of a ≡ none → refusal_of (reply_by o a) ≡ o
number_of none a taken = taken
number_of (some x) a taken = refl

module _ (h : List Call) where
  pub row_is : (r : Rule) → refusal_of (answer_of h (installs_row r)) ≡ install_number r
  row_is r = number_of (install_number r) (with_sets r) refl

  pub column-is : (r : Rule) → refusal_of (answer_of h (installs_column r)) ≡ install_number r
  column-is r = number_of (install_number r) (with_sets r) refl

  pub open_is : (w n : ℕ) → refusal_of (answer_of h (opens w n)) ≡ open_number h w n
  open_is w n = number_of (open_number h w n) accepted refl

  pub deliver_is : (p : ℕ) (b : List ℕ) → refusal_of (answer_of h (delivers p b)) ≡ deliver_number h p b
  deliver_is p b = number_of (deliver_number h p b) accepted refl

  pub withdraw_is : (p : ℕ) → refusal_of (answer_of h (withdraws p)) ≡ withdraw_number h p
  withdraw_is p = number_of (withdraw_number h p) accepted refl

-- ---- calls are told apart
accepted? : (h : List Call) (c : Call) → Accepted h c ⊎ (Accepted h c → ⊥)
accepted? h c = none_or (refusal_of (answer_of h c))

row? : (c : Call) → RowRules c ⊎ (RowRules c → ⊥)
row? (installs_row r) = inl tt
row? (installs_column r) = inr (λ x. x)
row? (opens w n) = inr (λ x. x)
row? (delivers p b) = inr (λ x. x)
row? (withdraws p) = inr (λ x. x)
row? asks_verdict = inr (λ x. x)

column? : (c : Call) → ColumnRules c ⊎ (ColumnRules c → ⊥)
column? (installs_row r) = inr (λ x. x)
column? (installs_column r) = inl tt
column? (opens w n) = inr (λ x. x)
column? (delivers p b) = inr (λ x. x)
column? (withdraws p) = inr (λ x. x)
column? asks_verdict = inr (λ x. x)

begins? : (c : Call) → Begins c ⊎ (Begins c → ⊥)
begins? (installs_row r) = inl tt
begins? (installs_column r) = inl tt
begins? (opens w n) = inl tt
begins? (delivers p b) = inr (λ x. x)
begins? (withdraws p) = inr (λ x. x)
begins? asks_verdict = inr (λ x. x)

touches? : (p : ℕ) (c : Call) → Touches p c ⊎ (Touches p c → ⊥)
touches? p (installs_row r) = inl tt
touches? p (installs_column r) = inl tt
touches? p (opens w n) = inl tt
touches? p (delivers q b) = same_or q p
touches? p (withdraws q) = same_or q p
touches? p asks_verdict = inr (λ x. x)

-- ---- the row rule
abbrev row_said : Call → Option Rule
row_said (installs_row r) = some r
row_said (installs_column r) = none
row_said (opens w n) = none
row_said (delivers p b) = none
row_said (withdraws p) = none
row_said asks_verdict = none

row_set_lem : (h : List Call) (c : Call) → RowRules c → Accepted h c → row_there (c ∷ h) ≡ row_said c
unfolding row_there
row_set_lem h (installs_row r) k a = sets_it (row_is h r) (some r) (row_there h) a
row_set_lem h (installs_column r) k a = absurd k
row_set_lem h (opens w n) k a = absurd k
row_set_lem h (delivers p b) k a = absurd k
row_set_lem h (withdraws p) k a = absurd k
row_set_lem h asks_verdict k a = absurd k

row_kept : (h : List Call) (c : Call) → (RowRules c → Accepted h c → ⊥) → row_there (c ∷ h) ≡ row_there h
unfolding row_there
row_kept h (installs_row r) n = keeps_it (row_is h r) (some r) (row_there h) (n tt)
row_kept h (installs_column r) n = refl
row_kept h (opens w m) n = refl
row_kept h (delivers p b) n = refl
row_kept h (withdraws p) n = refl
row_kept h asks_verdict n = refl

no_row_yet : (r : Rule) → row_there [] ≡ some r → ⊥
unfolding row_there
no_row_yet r e = none-some refl e

pub last_row : (h : List Call) → LastRow h
last_row h r =
    Iff.trans (executions.last_law Accepted RowRules row_there row_said row_set_lem row_kept row? accepted? h (some r) (no_row_yet r))
    ((λ x. to x.0 x.1 x.2 x.3), λ x. (installs_row r, x.0, x.1, refl))
  where
    to : (c : Call) (earlier : List Call) → Last RowRules h c earlier → row_said c ≡ some r → (e : List Call) × Last RowRules h (installs_row r) e
    to (installs_row s) e l z = let same : s ≡ r = cc in (e, subst (λ (x : Rule). Last RowRules h (installs_row x) e) same l)
    to (installs_column s) e l z = none-some refl z
    to (opens w n) e l z = none-some refl z
    to (delivers p b) e l z = none-some refl z
    to (withdraws p) e l z = none-some refl z
    to asks_verdict e l z = none-some refl z

-- ---- the column rule
abbrev column_said : Call → Option Rule
column_said (installs_row r) = none
column_said (installs_column r) = some r
column_said (opens w n) = none
column_said (delivers p b) = none
column_said (withdraws p) = none
column_said asks_verdict = none

column_set : (h : List Call) (c : Call) → ColumnRules c → Accepted h c → column_there (c ∷ h) ≡ column_said c
unfolding column_there
column_set h (installs_row r) k a = absurd k
column_set h (installs_column r) k a = sets_it (column-is h r) (some r) (column_there h) a
column_set h (opens w n) k a = absurd k
column_set h (delivers p b) k a = absurd k
column_set h (withdraws p) k a = absurd k
column_set h asks_verdict k a = absurd k

column_kept : (h : List Call) (c : Call) → (ColumnRules c → Accepted h c → ⊥) → column_there (c ∷ h) ≡ column_there h
unfolding column_there
column_kept h (installs_row r) n = refl
column_kept h (installs_column r) n = keeps_it (column-is h r) (some r) (column_there h) (n tt)
column_kept h (opens w m) n = refl
column_kept h (delivers p b) n = refl
column_kept h (withdraws p) n = refl
column_kept h asks_verdict n = refl

no_column_yet : (r : Rule) → column_there [] ≡ some r → ⊥
unfolding column_there
no_column_yet r e = none-some refl e

pub last_column : (h : List Call) → LastColumn h
last_column h r =
    Iff.trans
    (executions.last_law Accepted ColumnRules column_there column_said column_set column_kept column? accepted? h (some r) (no_column_yet r))
    ((λ x. to x.0 x.1 x.2 x.3), λ x. (installs_column r, x.0, x.1, refl))
  where
    to : (c : Call) (earlier : List Call) → Last ColumnRules h c earlier → column_said c ≡ some r
        → (e : List Call) × Last ColumnRules h (installs_column r) e
    to (installs_row s) e l z = none-some refl z
    to (installs_column s) e l z = let same : s ≡ r = cc in (e, subst (λ (x : Rule). Last ColumnRules h (installs_column x) e) same l)
    to (opens w n) e l z = none-some refl z
    to (delivers p b) e l z = none-some refl z
    to (withdraws p) e l z = none-some refl z
    to asks_verdict e l z = none-some refl z

-- ---- the board
abbrev board_said : Call → Option Size
board_said (installs_row r) = none
board_said (installs_column r) = none
board_said (opens w n) = some (record { width = w; bands = n })
board_said (delivers p b) = none
board_said (withdraws p) = none
board_said asks_verdict = none

pub board_set : (h : List Call) (c : Call) → Begins c → Accepted h c → board_there (c ∷ h) ≡ board_said c
unfolding board_there
board_set h (installs_row r) k a = sets_it (row_is h r) none (board_there h) a
board_set h (installs_column r) k a = sets_it (column-is h r) none (board_there h) a
board_set h (opens w n) k a = sets_it (open_is h w n) (some (record { width = w; bands = n })) (board_there h) a
board_set h (delivers p b) k a = absurd k
board_set h (withdraws p) k a = absurd k
board_set h asks_verdict k a = absurd k

pub board_kept : (h : List Call) (c : Call) → (Begins c → Accepted h c → ⊥) → board_there (c ∷ h) ≡ board_there h
unfolding board_there
board_kept h (installs_row r) n = keeps_it (row_is h r) none (board_there h) (n tt)
board_kept h (installs_column r) n = keeps_it (column-is h r) none (board_there h) (n tt)
board_kept h (opens w m) n = keeps_it (open_is h w m) (some (record { width = w; bands = m })) (board_there h) (n tt)
board_kept h (delivers p b) n = refl
board_kept h (withdraws p) n = refl
board_kept h asks_verdict n = refl

no_board_yet : (s : Size) → board_there [] ≡ some s → ⊥
unfolding board_there
no_board_yet s e = none-some refl e

pub last_board : (h : List Call) → LastBoard h
last_board h s =
    Iff.trans (executions.last_law Accepted Begins board_there board_said board_set board_kept begins? accepted? h (some s) (no_board_yet s))
    ((λ x. to x.0 x.1 x.2 x.3), λ x. (opens s.width s.bands, x.0, x.1, refl))
  where
    to : (c : Call) (earlier : List Call) → Last Begins h c earlier → board_said c ≡ some s
        → (e : List Call) × Last Begins h (opens s.width s.bands) e
    to (installs_row r) e l z = none-some refl z
    to (installs_column r) e l z = none-some refl z
    to (opens w n) e l z =
        let same : record { width = w; bands = n } ≡ s = cc in
        (e, subst (λ (x : Size). Last Begins h (opens x.width x.bands) e) same l)
    to (delivers p b) e l z = none-some refl z
    to (withdraws p) e l z = none-some refl z
    to asks_verdict e l z = none-some refl z

-- ---- what stands at a band
abbrev band_said : Call → Option (List ℕ)
band_said (installs_row r) = none
band_said (installs_column r) = none
band_said (opens w n) = none
band_said (delivers p b) = some b
band_said (withdraws p) = none
band_said asks_verdict = none

module _ (p : ℕ) where
  pub band_set_lem : (h : List Call) (c : Call) → Touches p c → Accepted h c → standing (c ∷ h) p ≡ band_said c
  unfolding standing
  band_set_lem h (installs_row r) k a = sets_it (row_is h r) none (standing h p) a
  band_set_lem h (installs_column r) k a = sets_it (column-is h r) none (standing h p) a
  band_set_lem h (opens w n) k a = sets_it (open_is h w n) none (standing h p) a
  band_set_lem h (delivers q b) k a = sets_at (deliver_is h q b) (some b) (standing h p) p q k a
  band_set_lem h (withdraws q) k a = sets_at (withdraw_is h q) none (standing h p) p q k a
  band_set_lem h asks_verdict k a = absurd k

  pub band_kept : (h : List Call) (c : Call) → (Touches p c → Accepted h c → ⊥) → standing (c ∷ h) p ≡ standing h p
  unfolding standing
  band_kept h (installs_row r) n = keeps_it (row_is h r) none (standing h p) (n tt)
  band_kept h (installs_column r) n = keeps_it (column-is h r) none (standing h p) (n tt)
  band_kept h (opens w m) n = keeps_it (open_is h w m) none (standing h p) (n tt)
  band_kept h (delivers q b) n = keeps_at (deliver_is h q b) (some b) (standing h p) p q n
  band_kept h (withdraws q) n = keeps_at (withdraw_is h q) none (standing h p) p q n
  band_kept h asks_verdict n = refl

  no_band_yet : (b : List ℕ) → standing [] p ≡ some b → ⊥
  unfolding standing
  no_band_yet b e = none-some refl e

pub last_standing : (h : List Call) → LastStanding h
last_standing h p b =
    Iff.trans
    (executions.last_law Accepted (Touches p) (λ g. standing g p) band_said (band_set_lem p) (band_kept p) (touches? p) accepted? h (some b) (no_band_yet p b))
    ((λ x. to x.0 x.1 x.2 x.3), λ x. (delivers p b, x.0, x.1, refl))
  where
    to : (c : Call) (earlier : List Call) → Last (Touches p) h c earlier → band_said c ≡ some b
        → (e : List Call) × Last (Touches p) h (delivers p b) e
    to (installs_row r) e l z = none-some refl z
    to (installs_column r) e l z = none-some refl z
    to (opens w n) e l z = none-some refl z
    to (delivers q a) e l z =
        let same : a ≡ b = cc in
        (e, subst₂ (λ (x : ℕ) (y : List ℕ). Last (Touches p) h (delivers x y) e) l.kind same l)
    to (withdraws q) e l z = none-some refl z
    to asks_verdict e l z = none-some refl z
