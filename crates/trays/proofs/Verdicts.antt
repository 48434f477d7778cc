-- What the verdict of a tray says, case by case. Assumes nothing.
--
--   by_cases      what `verdict_by` gives, for any of the three facts that it looks at; a list of
--                 calls has them too
--   verdict_law   the claim
use mathlib.Core.Path.{◌≡◌, refl}
use mathlib.Core.Logic.{◌↔◌}
use mathlib.Core.Bool.{Bool, true, false}
use Prim.Native.Nat.{ℕ, zero, suc, ◌<◌}
use native.Mathlib.Omega.{arith}
use borrow.Author.Tests.{ne_eqb}
use Rattle.base.proofs.Tests.{by_test, zero_one, not_both}
use Rattle.trays.specs.declared.Tray.{Tray}
use Rattle.trays.specs.Replies.{waiting, says_yes, says_no, refused_with}
use Rattle.trays.specs.Calls.{verdict_by}
use Rattle.trays.specs.Boards.{width_of, empty_bands, rows_held}
use Rattle.trays.specs.mirror.Steps.{lacks_board, is_yes, verdict_of}
use Rattle.trays.specs.Claims.{VerdictLaw}
use Rattle.trays.proofs.Rows.{passes_law}

pub record Cases (lacks : Bool) (empty : ℕ) (all : Bool) : Type 0 where
  pub none_there : (verdict_by lacks empty all ≡ refused_with 21) ↔ (lacks ≡ true)
  pub waits : (e : ℕ) → (verdict_by lacks empty all ≡ waiting e) ↔ ((lacks ≡ false) × (0 < e) × (e ≡ empty))
  pub accepts : lacks ≡ false → empty ≡ 0 → (verdict_by lacks empty all ≡ says_yes) ↔ (all ≡ true)
  pub rejects : lacks ≡ false → empty ≡ 0 → (verdict_by lacks empty all ≡ says_no) ↔ (all ≡ false)

pub by_cases : (lacks : Bool) (empty : ℕ) (all : Bool) → Cases lacks empty all
by_cases true empty all = record {
  none_there = (λ e. refl, λ e. refl);
  waits = λ e. (λ z. zero_one cc, λ z. not_both refl z.0);
  accepts = λ l z. not_both refl l;
  rejects = λ l z. not_both refl l;
}
by_cases false zero true = record {
  none_there = (λ e. zero_one cc, λ e. zero_one cc);
  waits = λ e. (λ z. zero_one cc, λ z. absurd (omega (arith, z.1, z.2)));
  accepts = λ l z. (λ e. refl, λ e. refl);
  rejects = λ l z. (λ e. zero_one cc, λ e. zero_one cc);
}
by_cases false zero false = record {
  none_there = (λ e. zero_one cc, λ e. zero_one cc);
  waits = λ e. (λ z. zero_one cc, λ z. absurd (omega (arith, z.1, z.2)));
  accepts = λ l z. (λ e. zero_one cc, λ e. zero_one cc);
  rejects = λ l z. (λ e. refl, λ e. refl);
}
by_cases false (suc n) all =
    let is : verdict_by false (suc n) all ≡ waiting (suc n) = rw (ne_eqb (suc n) 0 (λ z. absurd (omega arith))) in record {
      none_there = (λ e. zero_one cc, λ e. zero_one cc);
      waits = λ e. (λ z. let same : e ≡ suc n = cc in (refl, omega arith, same), λ z. rw z.2 is);
      accepts = λ l z. absurd (omega arith);
      rejects = λ l z. absurd (omega arith);
    }

pub verdict_law : (t : Tray) → VerdictLaw t
unfolding verdict_of
verdict_law t =
    let cases = by_cases (lacks_board t) (empty_bands t.board) (is_yes t) in record {
      none_there = cases.none_there;
      waits = cases.waits;
      accepts = λ row column there full.
          let says = cases.accepts there full in
          let law = passes_law t.row t.column row column (width_of t.board) (rows_held t.board) in
          (λ e. law.0 (says.0 e), λ all. says.1 (law.1 all));
      rejects = λ row column there full.
          let says = cases.rejects there full in
          let law = passes_law t.row t.column row column (width_of t.board) (rows_held t.board) in (
            (λ e all. not_both (law.1 all) (says.0 e)),
            λ never. says.1 (by_test (is_yes t) (λ y. absurd (never (law.0 y))) (λ n. n)),
          );
    }
