-- A library that meets a machine executes every list of calls, and as the machine does. By
-- induction over the list. Assumes nothing.
use mathlib.Core.Path.{◌≡◌, refl, sym, ap, ap₂, ◌∙◌, subst₂}
use mathlib.Core.Logic.{◌↔◌}
use mathlib.Core.List.{List, [], ◌∷◌, ◌++◌}
use mathlib.Core.Option.{some}
use lib.ListN.{length, get_elem?}
use Rattle.executions.specs.Executions.{Machine, state_after, replies_to, Library, Execution, begin, call, Meets}

-- the reply to a call has as many before it as calls are made after that one
module _ {S C R : Type 0} (m : Machine S C R) where
  pub reply_at : (later : List C) (c : C) (earlier : List C)
      → get_elem? (replies_to m (later ++ (c ∷ earlier))) (length later) ≡ some (m.reply (state_after m earlier) c)
  unfolding replies_to
  reply_at [] c earlier = refl
  reply_at (d ∷ later) c earlier = reply_at later c earlier

module _ {S C R : Type 0} (l : Library S C R) (m : Machine S C R) (meets : Meets l m) where
  -- whatever the library allows is what the machine does
  to : {h : List C} {rs : List R} {s : S} → Execution l h rs s → (rs ≡ replies_to m h) × (s ≡ state_after m h)
  unfolding replies_to state_after
  to (begin a b) = (refl, (meets.begins _).0 b)
  to (call {h} {rs} {s} {c} {r} {t} before asked may) =
      let e = to before in
      let step = (meets.steps s c r t).0 may in (
        ap₂ ◌∷◌ (step.0 ∙ ap (λ (x : S). m.reply x c) e.1) e.0,
        step.1 ∙ ap (λ (x : S). m.next x c) e.1,
      )

  -- and the library allows that, after every list
  runs : (h : List C) → Execution l h (replies_to m h) (state_after m h)
  unfolding replies_to state_after
  runs [] = begin meets.new_asks_nothing ((meets.begins m.fresh).1 refl)
  runs (c ∷ h) =
      call (runs h) (meets.asks_nothing (state_after m h) c) ((meets.steps (state_after m h) c (m.reply (state_after m h) c) (m.next (state_after m h) c)).1 (refl, refl))

  -- THE LAW
  pub execution_law : (h : List C) (rs : List R) (s : S) → Execution l h rs s ↔ (rs ≡ replies_to m h) × (s ≡ state_after m h)
  execution_law h rs s = (to, λ e. subst₂ (λ (x : List R) (y : S). Execution l h x y) (sym e.0) (sym e.1) (runs h))
