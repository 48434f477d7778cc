-- The last accepted call of a kind (document 01: "the last accepted load", "the last accepted call
-- among loads and openings"), in a list of calls to any machine and whatever accepted means there.
-- The list is cut in two at the call; nothing goes through it call by call. A list has the LAST
-- call first.
--
--   LastAccepted Accepted P h c earlier   in the list h, after the calls `earlier`, the call c was
--                                         made, it is of the kind P and was accepted, and no call
--                                         of that kind was accepted after it
use Rattle.std.specs.Prelude.{◌≡◌, List, ◌∷◌, ◌++◌}

pub record LastAccepted {C : Type 0} (Accepted : List C → C → Type 0) (P : C → Type 0) (h : List C) (c : C) (earlier : List C) : Type 0 where
  -- the calls that were made after it
  pub later : List C
  pub cut : h ≡ later ++ (c ∷ earlier)
  pub kind : P c
  pub taken : Accepted earlier c
  pub no_later : (after : List C) (d : C) (before : List C) → later ≡ after ++ (d ∷ before) → P d → Accepted (before ++ (c ∷ earlier)) d → ⊥
