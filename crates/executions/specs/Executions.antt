-- Lists of calls to any machine that has a state and answers each call (document 01: "In a list the
-- first call gets the fresh judge and each other one the judge that the call before it left,
-- refused or not"). A list has the LAST call first.
--
--   Machine              the state to begin with, and of each state and call the reply and the next
--                        state
--   state_after, replies_to  the state that the calls leave, and the replies to them
--   Library              what functions ask and allow by their contracts: `NewAsks` and `Asks s c`
--                        what must hold before a new state is asked for and before the call c on
--                        the state s; `Begins s` that a new state is s, `May s c r t` that on the
--                        state s the call c is answered with r and leaves t
--   Execution l h rs s   the calls h, made one after the other through the library l, were answered
--                        with rs and left the state s
--   Meets l m            the library asks nothing, and allows what the machine does and nothing
--                        else
use Rattle.std.specs.Prelude.{◌≡◌, ◌↔◌, List, [], ◌∷◌}

pub record Machine (S C R : Type 0) : Type 0 where
  pub fresh : S
  pub reply : S → C → R
  pub next : S → C → S

module _ {S C R : Type 0} (m : Machine S C R) where
  unfoldable pub state_after : List C → S
  state_after [] = m.fresh
  state_after (c ∷ h) = m.next (state_after h) c

  unfoldable pub replies_to : List C → List R
  replies_to [] = []
  replies_to (c ∷ h) = m.reply (state_after h) c ∷ replies_to h

pub record Library (S C R : Type 0) : Type 1 where
  pub NewAsks : Type 0
  pub Begins : S → Type 0
  pub Asks : S → C → Type 0
  pub May : S → C → R → S → Type 0

pub data Execution {S C R : Type 0} (l : Library S C R) : List C → List R → S → Type 0 where
  begin : {s : S} → l.NewAsks → l.Begins s → Execution l [] [] s
  call : {h : List C} {rs : List R} {s : S} {c : C} {r : R} {t : S} → Execution l h rs s → l.Asks s c → l.May s c r t → Execution l (c ∷ h) (r ∷ rs) t

pub record Meets {S C R : Type 0} (l : Library S C R) (m : Machine S C R) : Type 0 where
  pub new_asks_nothing : l.NewAsks
  pub asks_nothing : (s : S) (c : C) → l.Asks s c
  pub begins : (s : S) → l.Begins s ↔ s ≡ m.fresh
  pub steps : (s : S) (c : C) (r : R) (t : S) → l.May s c r t ↔ (r ≡ m.reply s c) × (t ≡ m.next s c)
