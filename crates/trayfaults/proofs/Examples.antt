-- The lists of calls worked by hand are answered as specs/Worked.antt says. Assumes nothing.
--
-- Behind two rules that are installed, what calls other than installations leave is told without
-- looking at the rules but for their numbers of symbols (`board_by`, `stand_by`). With that what is
-- found computes.
use mathlib.Core.Path.{◌≡◌, refl, ◌∙◌, fun_ext}
use mathlib.Core.Bool.{Bool, true, false, cond, ◌&&◌}
use mathlib.Core.List.{List, [], ◌∷◌, ◌++◌}
use mathlib.Core.Option.{Option, none, some}
use Prim.Native.Nat.{ℕ}
use lib.Dec.{eqb}
use lib.ListN.{drop}
use Rattle.base.specs.Conditions.{first_of, any_below}
use Rattle.base.specs.Options.{is_none}
use Rattle.base.proofs.Tests.{not_both}
use Rattle.masks.specs.Masks.{union, mask_of}
use Rattle.masks.specs.Turns.{turns}
use Rattle.automaton.specs.declared.Rule.{Rule}
use Rattle.rulecheck.specs.Checking.{bad_targets}
use Rattle.numbering.specs.Numbering.{index_of, numbered, expand_from, close_from, keys_up_to}
use Rattle.subsets.specs.Sets.{sets_of, too_many}
use Rattle.chunks.specs.Chunks.{foreign}
use Rattle.calls.specs.Calls.{install_number}
use Rattle.histories.specs.History.{rule_from}
use Rattle.trays.specs.Rows.{rows_of, rows_up_to, column_of}
use Rattle.trays.specs.Calls.{Call, installs_row, installs_column, opens, delivers, withdraws, asks_verdict, open_conditions}
use Rattle.trayhistories.specs.History.{row_there, column_there, Size, board_there, width_from, bands_from, deliver_check, withdraw_check, standing, rows_from}
use Rattle.trayhistories.specs.Worked.{ruled}
use Rattle.trayhistories.proofs.Examples.{A_installs, even_installs}
use Rattle.faults.specs.First.{first_found}
use Rattle.faults.specs.Faulting.{Finding, fault_by}
use Rattle.trayfaults.specs.Worked.{zeros, never, Case, case, lists, Answered}
use Rattle.trayfaults.proofs.Same.{fault_in, fault_after}

zeros_installs : install_number zeros ≡ none
unfolding install_number bad_targets any_below union index_of numbered expand_from close_from keys_up_to sets_of too_many
zeros_installs = refl

never_installs : install_number never ≡ none
unfolding install_number bad_targets any_below union index_of numbered expand_from close_from keys_up_to sets_of too_many
never_installs = refl

-- ---- calls other than installations
abbrev plain : List Call → Bool
plain [] = true
plain (installs_row r ∷ cs) = false
plain (installs_column r ∷ cs) = false
plain (opens w n ∷ cs) = plain cs
plain (delivers p b ∷ cs) = plain cs
plain (withdraws p ∷ cs) = plain cs
plain (asks_verdict ∷ cs) = plain cs

abbrev board_by : List Call → Option Size
board_by [] = none
board_by (installs_row r ∷ cs) = none
board_by (installs_column r ∷ cs) = none
board_by (opens w n ∷ cs) = cond (is_none (first_of (open_conditions false w n))) (some (record { width = w; bands = n })) (board_by cs)
board_by (delivers p b ∷ cs) = board_by cs
board_by (withdraws p ∷ cs) = board_by cs
board_by (asks_verdict ∷ cs) = board_by cs

-- by rules of kr and kc symbols
abbrev stand_by : ℕ → ℕ → List Call → ℕ → Option (List ℕ)
stand_by kr kc [] p = none
stand_by kr kc (installs_row r ∷ cs) p = none
stand_by kr kc (installs_column r ∷ cs) p = none
stand_by kr kc (opens w n ∷ cs) p = cond (is_none (first_of (open_conditions false w n))) none (stand_by kr kc cs p)
stand_by kr kc (delivers q b ∷ cs) p =
    cond (eqb q p && is_none (deliver_check kr kc (board_by cs) (stand_by kr kc cs q) q b)) (some b) (stand_by kr kc cs p)
stand_by kr kc (withdraws q ∷ cs) p = cond (eqb q p && is_none (withdraw_check (board_by cs) (stand_by kr kc cs q) q)) none (stand_by kr kc cs p)
stand_by kr kc (asks_verdict ∷ cs) p = stand_by kr kc cs p

module _ (r c : Rule) (row : install_number r ≡ none) (column : install_number c ≡ none) where
  row_there_lem : (cs : List Call) → plain cs ≡ true → row_there (cs ++ ruled r c) ≡ some r
  unfolding row_there
  row_there_lem [] e = rw row
  row_there_lem (installs_row x ∷ cs) e = not_both e refl
  row_there_lem (installs_column x ∷ cs) e = not_both e refl
  row_there_lem (opens w n ∷ cs) e = row_there_lem cs e
  row_there_lem (delivers p b ∷ cs) e = row_there_lem cs e
  row_there_lem (withdraws p ∷ cs) e = row_there_lem cs e
  row_there_lem (asks_verdict ∷ cs) e = row_there_lem cs e

  column_there_lem : (cs : List Call) → plain cs ≡ true → column_there (cs ++ ruled r c) ≡ some c
  unfolding column_there
  column_there_lem [] e = rw column
  column_there_lem (installs_row x ∷ cs) e = not_both e refl
  column_there_lem (installs_column x ∷ cs) e = not_both e refl
  column_there_lem (opens w n ∷ cs) e = column_there_lem cs e
  column_there_lem (delivers p b ∷ cs) e = column_there_lem cs e
  column_there_lem (withdraws p ∷ cs) e = column_there_lem cs e
  column_there_lem (asks_verdict ∷ cs) e = column_there_lem cs e

  board_there_lem : (cs : List Call) → plain cs ≡ true → board_there (cs ++ ruled r c) ≡ board_by cs
  unfolding board_there
  board_there_lem [] e = rw column
  board_there_lem (installs_row x ∷ cs) e = not_both e refl
  board_there_lem (installs_column x ∷ cs) e = not_both e refl
  board_there_lem (opens w n ∷ cs) e = rw (row_there_lem cs e, column_there_lem cs e, board_there_lem cs e)
  board_there_lem (delivers p b ∷ cs) e = board_there_lem cs e
  board_there_lem (withdraws p ∷ cs) e = board_there_lem cs e
  board_there_lem (asks_verdict ∷ cs) e = board_there_lem cs e

  stand_there : (cs : List Call) → plain cs ≡ true → (p : ℕ) → standing (cs ++ ruled r c) p ≡ stand_by r.k c.k cs p
  unfolding standing
  stand_there [] e p = rw column
  stand_there (installs_row x ∷ cs) e p = not_both e refl
  stand_there (installs_column x ∷ cs) e p = not_both e refl
  stand_there (opens w n ∷ cs) e p = rw (row_there_lem cs e, column_there_lem cs e, stand_there cs e p)
  stand_there (delivers q b ∷ cs) e p = rw (row_there_lem cs e, column_there_lem cs e, board_there_lem cs e, stand_there cs e q, stand_there cs e p)
  stand_there (withdraws q ∷ cs) e p = rw (board_there_lem cs e, stand_there cs e q, stand_there cs e p)
  stand_there (asks_verdict ∷ cs) e p = stand_there cs e p

abbrev found_by : Rule → Rule → Option Size → (ℕ → Option (List ℕ)) → Finding
found_by r c board at = fault_by (is_none board) r c (width_from board) (λ p. rows_from (width_from board) (at p)) (λ p. is_none (at p)) (bands_from board)

abbrev worked_out : Rule → Rule → List Call → Finding
worked_out r c cs = found_by r c (board_by cs) (stand_by r.k c.k cs)

by_list : (r c : Rule) → install_number r ≡ none → install_number c ≡ none → (cs : List Call) → plain cs ≡ true
    → fault_in (cs ++ ruled r c) ≡ worked_out r c cs
by_list r c row column cs e =
    same (row_there_lem r c row column cs e) (column_there_lem r c row column cs e) (board_there_lem r c row column cs e) (fun_ext (stand_there r c row column cs e))
  where
    same : {x y : Option Rule} {board : Option Size} {at : ℕ → Option (List ℕ)} → x ≡ some r → y ≡ some c → board ≡ board_by cs → at ≡ stand_by r.k c.k cs
        → found_by (rule_from x) (rule_from y) board at ≡ worked_out r c cs
    same p q s u = rw (p, q, s, u)

-- ---- the lists
-- each rule of the list installs, and no call is an installation
abbrev Ready : List Case → Type 0
Ready [] = Unit {0}
Ready (case row column calls f ∷ cases) = (install_number row ≡ none) × (install_number column ≡ none) × (plain calls ≡ true) × Ready cases

abbrev given : List Case → List Finding
given [] = []
given (case row column calls f ∷ cases) = worked_out row column calls ∷ given cases

abbrev due : List Case → List Finding
due [] = []
due (case row column calls f ∷ cases) = f ∷ due cases

told : given lists ≡ due lists
unfolding union foreign rows_of rows_up_to column_of any_below mask_of turns first_found
told = refl

one_by_one : (cases : List Case) → Ready cases → given cases ≡ due cases → Answered cases
one_by_one [] ready e = tt
one_by_one (case row column calls f ∷ cases) ready e =
    let here : worked_out row column calls ≡ f = cc in
    let rest : given cases ≡ due cases = cc in (
      fault_after (calls ++ ruled row column) ∙ by_list row column ready.0 ready.1 calls ready.2 ∙ here,
      one_by_one cases ready.3 rest,
    )

ready : Ready lists
ready =
    let from12 : Ready (drop 12 lists) = (A_installs, even_installs, refl, tt) in
    let from10 : Ready (drop 10 lists) = (even_installs, A_installs, refl, (even_installs, even_installs, refl, from12)) in
    let from8 : Ready (drop 8 lists) = (even_installs, never_installs, refl, (even_installs, even_installs, refl, from10)) in
    let from6 : Ready (drop 6 lists) = (even_installs, zeros_installs, refl, (even_installs, zeros_installs, refl, from8)) in
    let from4 : Ready (drop 4 lists) = (even_installs, zeros_installs, refl, (even_installs, zeros_installs, refl, from6)) in
    let from2 : Ready (drop 2 lists) = (A_installs, even_installs, refl, (A_installs, even_installs, refl, from4)) in
    (A_installs, zeros_installs, refl, (A_installs, zeros_installs, refl, from2))

pub answered : Answered lists
answered = one_by_one lists ready told
