-- What the answer of a lookup tells of the list of delegates. Assumes nothing.
use mathlib.Core.Path.{◌≡◌, sym, ap, ◌∙◌}
use mathlib.Core.List.{List}
use mathlib.Core.Option.{none, some}
use Prim.Native.Nat.{ℕ, ◌<◌}
use Rattle.masks.specs.declared.StateNumber.{StateNumber}
use Rattle.delegates.specs.declared.DelegateAnswer.{DelegateAnswer}
use Rattle.delegates.specs.declared.DelegateAnswer.TheVariants.{State, None}
use Rattle.delegates.specs.Alike.{delegate_in}
use Rattle.delegates.specs.mirror.Answer.{delegate_means}
use Rattle.delegates.proofs.Alike.{some_said}

module _ (d : List ℕ) (q : ℕ) (r : DelegateAnswer) (is : delegate_means r ≡ delegate_in d q) where
  pub told_state : (x : StateNumber) → r ≡ State x → (delegate_in d q ≡ some x.0) × (x.0 < 32)
  told_state x e =
      let s : delegate_in d q ≡ some x.0 = sym is ∙ ap delegate_means e in
      (s, (some_said d q x.0 s).1)

  pub told_none : r ≡ None → delegate_in d q ≡ none
  told_none e = sym is ∙ ap delegate_means e
