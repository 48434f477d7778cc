-- What reading a field of bytes into a lent buffer leaves there. Assumes nothing.
--
--   carries, not_bytes        the field says bytes, of which those that fit are at the buffer's
--                             beginning; or it says none
--   put_prefix, put_within    the bytes that were put are within the buffer
use mathlib.Core.Path.{◌≡◌, refl, sym, ap, ◌∙◌, subst}
use mathlib.Core.List.{List}
use mathlib.Core.Option.{Option, none, some}
use Prim.Native.Nat.{ℕ, ◌≤◌}
use native.Mathlib.Omega.{arith}
use lib.ListN.{length, take, length-take}
use Rattle.base.proofs.Options.{none-some}
use Rattle.text.proofs.Fitting.{taken}
use Rattle.fields.specs.Bytes.{parse_bytes, TookOf, Took}

-- the field says bytes, and the first n of the buffer are those that fit
pub record Carries (o : Option (List ℕ)) (before after : List ℕ) (n : ℕ) : Type 0 where
  pub bytes : List ℕ
  pub said : o ≡ some bytes
  pub is : take n after ≡ take (length before) bytes
  pub size : n ≡ length (take (length before) bytes)

carries_by : (o : Option (List ℕ)) (before after : List ℕ) (n : ℕ) → TookOf o before (some n) after → Carries o before after n
carries_by none before after n t = none-some refl (sym t.0)
carries_by (some b) before after n t =
    let e : n ≡ t.0 = cc in
    record { bytes = b; said = refl; is = ap (λ (x : ℕ). take x after) e ∙ taken t.2; size = e ∙ t.2.ends ∙ omega arith }

not_by : (o : Option (List ℕ)) (before after : List ℕ) → TookOf o before none after → o ≡ none
not_by none before after t = refl
not_by (some b) before after t = none-some refl t.1

module _ (field before after : List ℕ) (x : Option ℕ) (took : Took field before x after) where
  pub carries : (n : ℕ) → x ≡ some n → Carries (parse_bytes field) before after n
  carries n e = carries_by (parse_bytes field) before after n (subst (λ (y : Option ℕ). Took field before y after) e took)

  pub not_bytes : x ≡ none → parse_bytes field ≡ none
  not_bytes e = not_by (parse_bytes field) before after (subst (λ (y : Option ℕ). Took field before y after) e took)

  pub put_prefix : (n : ℕ) → x ≡ some n → n ≡ length (take n after)
  put_prefix n e = let k = carries n e in k.size ∙ sym (ap length k.is)

  pub put_within : (n : ℕ) → x ≡ some n → n ≤ length after
  put_within n e = omega (arith, put_prefix n e, length-take n after)
