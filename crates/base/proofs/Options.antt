-- The laws of what may be missing. Assumes nothing.
--
--   none-some            there is no value or there is one, not both
--   is-none, is_some_lem  what `is_none` decides
--   not_some, not_none   what `is_some` decides, and that it is the other test
use mathlib.Core.Path.{◌≡◌, refl}
use mathlib.Core.Logic.{◌↔◌}
use mathlib.Core.Bool.{true, false, not}
use mathlib.Core.Option.{Option, none, some}
use Rattle.base.specs.Options.{is_none, is_some}
use Rattle.base.proofs.Tests.{zero_one}

pub none-some : {A B : Type 0} {o : Option A} {x : A} → o ≡ none → o ≡ some x → B
none-some e f = zero_one cc

module _ {A : Type 0} where
  pub is-none : (o : Option A) → (is_none o ≡ true) ↔ (o ≡ none)
  is-none none = (λ e. refl, λ e. refl)
  is-none (some x) = (λ e. zero_one cc, λ e. zero_one cc)

  pub is_some_lem : (o : Option A) → (is_none o ≡ false) ↔ (o ≡ none → ⊥)
  is_some_lem none = (λ e z. zero_one cc, λ n. absurd (n refl))
  is_some_lem (some x) = (λ e z. zero_one cc, λ n. refl)

  pub not_some : (o : Option A) → (is_some o ≡ false) ↔ (o ≡ none)
  not_some none = (λ e. refl, λ e. refl)
  not_some (some x) = (λ e. zero_one cc, λ e. zero_one cc)

  pub not_none : (o : Option A) → not (is_none o) ≡ is_some o
  not_none none = refl
  not_none (some x) = refl
