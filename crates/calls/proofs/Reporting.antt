-- What a report comes to, as `ReportLaw` of specs/Claims.antt says. Assumes nothing.
use mathlib.Core.Path.{◌≡◌, refl, sym, subst}
use mathlib.Core.Logic.{⊎_elim}
use Prim.Native.Nat.{ℕ}
use native.Mathlib.Nat.{div-add-mod', mod-lt}
use native.Mathlib.Omega.{arith}
use borrow.Author.Tests.{eq-eqb, ne_eqb}
use Rattle.calls.specs.Replies.{Judgement, waiting, yes_with, no_with, refused_with}
use Rattle.calls.specs.Calls.{per_byte, report_by}
use Rattle.calls.specs.Claims.{Divided, ThreeZeros, ReportLaw}

by_bytes : (v : Judgement) (count bytes : ℕ) → Divided count bytes (per_byte v count bytes)
by_bytes v count bytes = record {
  bytes_are = refl;
  whole = λ l. rw (ne_eqb bytes 0 (λ z. omega arith)) (sym (div-add-mod' count bytes));
  below = λ l. rw (ne_eqb bytes 0 (λ z. omega arith)) (mod-lt count l);
  no_bytes = λ z. (rw (eq-eqb bytes 0 z), rw (eq-eqb bytes 0 z));
}

pub report_law : (v : Judgement) (bytes : ℕ) → ReportLaw v bytes
report_law v bytes = record {
  verdict = same v;
  divided = λ count. ⊎_elim
      (λ e. subst (λ (x : Judgement). Divided count bytes (report_by x bytes)) (sym e) (by_bytes (yes_with count) count bytes))
      (λ e. subst (λ (x : Judgement). Divided count bytes (report_by x bytes)) (sym e) (by_bytes (no_with count) count bytes));
  zeros = λ x. ⊎_elim
      (λ e. subst (λ (y : Judgement). ThreeZeros (report_by y bytes)) (sym e) (refl, refl, refl))
      (λ e. subst (λ (y : Judgement). ThreeZeros (report_by y bytes)) (sym e) (refl, refl, refl));
}
  where
    same : (w : Judgement) → (report_by w bytes).verdict ≡ w
    same (waiting empty) = refl
    same (yes_with count) = refl
    same (no_with count) = refl
    same (refused_with number) = refl
