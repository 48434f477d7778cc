-- The positions of a pattern as places in its tree, and the two laws of the language: how a text of
-- the pattern begins, and how what may follow a position goes on. No numbers and no masks. Assumes
-- nothing.
--
--   Position p            a letter's place in p
--   letter_at p x         the letter
--   First, Last, Follow   as in specs/Positions.antt, of places
--   Residual p x w        the text w may follow position x
--   begins                a text of p is empty, where p is nullable, or a first letter with what
--                         may follow it
--   goes_on               what may follow x is nothing, where x is a last position, or a letter
--                         that follows x with what may follow that
--   began_empty, began_at, ended, went_on   the same, the other way
use mathlib.Core.Path.{◌≡◌, refl, sym, ap, ◌∙◌, subst}
use mathlib.Core.Logic.{◌⊎◌, inl, inr, ⊎_elim}
use mathlib.Core.Bool.{Bool, true, false, ◌&&◌, ◌||◌}
use mathlib.Core.List.{List, [], ◌∷◌, ◌++◌}
use Prim.Native.Nat.{ℕ}
use Rattle.base.proofs.Tests.{not_both, or_either}
use Rattle.patterns.specs.Patterns.{Pattern, empty, letter, then, or, star, Matches, Joined, Times, none, more}
use Rattle.patterns.specs.Positions.{nullable}

abbrev pub Position : Pattern → Type 0
Position empty = ⊥
Position (letter s) = Unit {0}
Position (then p q) = Position p ⊎ Position q
Position (or p q) = Position p ⊎ Position q
Position (star p) = Position p

abbrev pub letter_at : (p : Pattern) → Position p → ℕ
letter_at empty x = absurd x
letter_at (letter s) x = s
letter_at (then p q) (inl x) = letter_at p x
letter_at (then p q) (inr y) = letter_at q y
letter_at (or p q) (inl x) = letter_at p x
letter_at (or p q) (inr y) = letter_at q y
letter_at (star p) x = letter_at p x

abbrev pub First : (p : Pattern) → Position p → Type 0
First empty x = ⊥
First (letter s) x = Unit {0}
First (then p q) (inl x) = First p x
First (then p q) (inr y) = (nullable p ≡ true) × First q y
First (or p q) (inl x) = First p x
First (or p q) (inr y) = First q y
First (star p) x = First p x

abbrev pub Last : (p : Pattern) → Position p → Type 0
Last empty x = ⊥
Last (letter s) x = Unit {0}
Last (then p q) (inl x) = (nullable q ≡ true) × Last p x
Last (then p q) (inr y) = Last q y
Last (or p q) (inl x) = Last p x
Last (or p q) (inr y) = Last q y
Last (star p) x = Last p x

abbrev pub Follow : (p : Pattern) → Position p → Position p → Type 0
Follow empty x y = ⊥
Follow (letter s) x y = ⊥
Follow (then p q) (inl x) (inl y) = Follow p x y
Follow (then p q) (inl x) (inr y) = Last p x × First q y
Follow (then p q) (inr x) (inl y) = ⊥
Follow (then p q) (inr x) (inr y) = Follow q x y
Follow (or p q) (inl x) (inl y) = Follow p x y
Follow (or p q) (inl x) (inr y) = ⊥
Follow (or p q) (inr x) (inl y) = ⊥
Follow (or p q) (inr x) (inr y) = Follow q x y
Follow (star p) x y = Follow p x y ⊎ (Last p x × First p y)

abbrev pub Residual : (p : Pattern) → Position p → List ℕ → Type 0
Residual empty x w = ⊥
Residual (letter s) x w = w ≡ []
Residual (then p q) (inl x) w = Joined (Residual p x) (Matches q) w
Residual (then p q) (inr y) w = Residual q y w
Residual (or p q) (inl x) w = Residual p x w
Residual (or p q) (inr y) w = Residual q y w
Residual (star p) x w = Joined (Residual p x) (Times (Matches p)) w

-- w is a letter of P, with what may follow it
pub record Enters (p : Pattern) (P : Position p → Type 0) (w : List ℕ) : Type 0 where
  pub at : Position p
  pub rest : List ℕ
  pub shape : w ≡ letter_at p at ∷ rest
  pub allowed : P at
  pub residual : Residual p at rest

abbrev pub Begins : Pattern → List ℕ → Type 0
Begins p w = ((nullable p ≡ true) × (w ≡ [])) ⊎ Enters p (First p) w

abbrev pub GoesOn : (p : Pattern) → Position p → List ℕ → Type 0
GoesOn p x w = (Last p x × (w ≡ [])) ⊎ Enters p (Follow p x) w

-- ---- tests
both : (a b : Bool) → a ≡ true → b ≡ true → (a && b) ≡ true
both a b e f = rw (e, f)

both_left : (a b : Bool) → (a && b) ≡ true → a ≡ true
both_left true b e = refl
both_left false b e = e

both_right : (a b : Bool) → (a && b) ≡ true → b ≡ true
both_right true b e = e
both_right false b e = not_both e refl

one_of : (a b : Bool) → (a || b) ≡ true → (a ≡ true) ⊎ (b ≡ true)
one_of true b e = inl refl
one_of false b e = inr e

-- ---- from the parts to the whole
pub began_empty : (p : Pattern) → nullable p ≡ true → Matches p []
began_empty empty e = refl
began_empty (letter s) e = not_both e refl
began_empty (then p q) e = record {
  front = [];
  back = [];
  whole = refl;
  left = began_empty p (both_left (nullable p) (nullable q) e);
  right = began_empty q (both_right (nullable p) (nullable q) e);
}
began_empty (or p q) e = ⊎_elim (λ h. inl (began_empty p h)) (λ h. inr (began_empty q h)) (one_of (nullable p) (nullable q) e)
began_empty (star p) e = none

-- a letter before what is joined
longer : {L L' M : List ℕ → Type 0} {w : List ℕ} (a : ℕ) (r : Joined L M w) → L' (a ∷ r.front) → Joined L' M (a ∷ w)
longer a r l = record { front = a ∷ r.front; back = r.back; whole = ap (a ∷◌) r.whole; left = l; right = r.right }

-- an empty text before one
alone : {L M : List ℕ → Type 0} {w : List ℕ} → L [] → M w → Joined L M w
alone {w = w} l m = record { front = []; back = w; whole = refl; left = l; right = m }

once_more : {L : List ℕ → Type 0} {w : List ℕ} → Joined L (Times L) w → Times L w
once_more {L = L} r = subst (Times L) (sym r.whole) (more r.left r.right)

pub began_at : (p : Pattern) (x : Position p) (v : List ℕ) → First p x → Residual p x v → Matches p (letter_at p x ∷ v)
began_at empty x v f r = absurd x
began_at (letter s) x v f r = ap (s ∷◌) r
began_at (then p q) (inl x) v f r = longer (letter_at p x) r (began_at p x r.front f r.left)
began_at (then p q) (inr y) v f r = alone (began_empty p f.0) (began_at q y v f.1 r)
began_at (or p q) (inl x) v f r = inl (began_at p x v f r)
began_at (or p q) (inr y) v f r = inr (began_at q y v f r)
began_at (star p) x v f r = once_more (longer (letter_at p x) r (began_at p x r.front f r.left))

pub ended : (p : Pattern) (x : Position p) → Last p x → Residual p x []
ended empty x l = absurd x
ended (letter s) x l = refl
ended (then p q) (inl x) l = alone (ended p x l.1) (began_empty q l.0)
ended (then p q) (inr y) l = ended q y l
ended (or p q) (inl x) l = ended p x l
ended (or p q) (inr y) l = ended q y l
ended (star p) x l = alone (ended p x l) none

pub went_on : (p : Pattern) (x y : Position p) (v : List ℕ) → Follow p x y → Residual p y v → Residual p x (letter_at p y ∷ v)
went_on empty x y v f r = absurd x
went_on (letter s) x y v f r = absurd f
went_on (then p q) (inl x) (inl y) v f r = longer (letter_at p y) r (went_on p x y r.front f r.left)
went_on (then p q) (inl x) (inr y) v f r = alone (ended p x f.0) (began_at q y v f.1 r)
went_on (then p q) (inr x) (inl y) v f r = absurd f
went_on (then p q) (inr x) (inr y) v f r = went_on q x y v f r
went_on (or p q) (inl x) (inl y) v f r = went_on p x y v f r
went_on (or p q) (inl x) (inr y) v f r = absurd f
went_on (or p q) (inr x) (inl y) v f r = absurd f
went_on (or p q) (inr x) (inr y) v f r = went_on q x y v f r
went_on (star p) x y v (inl f) r = longer (letter_at p y) r (went_on p x y r.front f r.left)
went_on (star p) x y v (inr f) r = alone (ended p x f.0) (began_at (star p) y v f.1 r)

-- ---- from the whole to the parts
-- a front that enters at x, and what is joined to it
entered : (p : Pattern) (P : Position p → Type 0) (M : List ℕ → Type 0) (v : List ℕ) {u w : List ℕ} → w ≡ u ++ v → M v → Enters p P u
    → (x : Position p) × (r : List ℕ) × (w ≡ letter_at p x ∷ r) × P x × Joined (Residual p x) M r
entered p P M v e m t = (
  t.at,
  t.rest ++ v,
  e ∙ ap (λ (l : List ℕ). l ++ v) t.shape,
  t.allowed,
  record { front = t.rest; back = v; whole = refl; left = t.residual; right = m },
)

-- an empty front falls away
fallen : {u v w : List ℕ} → w ≡ u ++ v → u ≡ [] → w ≡ v
fallen {v = v} e z = e ∙ ap (λ (l : List ℕ). l ++ v) z

then_begins : (p q : Pattern) {u v w : List ℕ} → w ≡ u ++ v → Matches q v → Begins p u → Begins q v → Begins (then p q) w
then_begins p q {v = v} e m (inr t) b =
    let j = entered p (First p) (Matches q) v e m t in
    inr (record { at = inl j.0; rest = j.1; shape = j.2; allowed = j.3; residual = j.4 })
then_begins p q e m (inl h) (inl g) = inl (both (nullable p) (nullable q) h.0 g.0, fallen e h.1 ∙ g.1)
then_begins p q e m (inl h) (inr t) =
    inr (record { at = inr t.at; rest = t.rest; shape = fallen e h.1 ∙ t.shape; allowed = (h.0, t.allowed); residual = t.residual })

star_joined : (p : Pattern) {u v w : List ℕ} → w ≡ u ++ v → Times (Matches p) v → Begins p u → Begins (star p) v → Begins (star p) w
star_joined p {v = v} e m (inr t) b =
    let j = entered p (First p) (Times (Matches p)) v e m t in
    inr (record { at = j.0; rest = j.1; shape = j.2; allowed = j.3; residual = j.4 })
star_joined p e m (inl h) (inl g) = inl (refl, fallen e h.1 ∙ g.1)
star_joined p e m (inl h) (inr t) =
    inr (record { at = t.at; rest = t.rest; shape = fallen e h.1 ∙ t.shape; allowed = t.allowed; residual = t.residual })

star_begins : (p : Pattern) → ((w : List ℕ) → Matches p w → Begins p w) → {w : List ℕ} → Times (Matches p) w → Begins (star p) w
star_begins p f none = inl (refl, refl)
star_begins p f (more {u = u} m t) = star_joined p refl t (f u m) (star_begins p f t)

or_begins_left : (p q : Pattern) (w : List ℕ) → Begins p w → Begins (or p q) w
or_begins_left p q w (inl h) = inl (or_either (nullable p) (nullable q) (inl h.0), h.1)
or_begins_left p q w (inr t) =
    inr (record { at = inl t.at; rest = t.rest; shape = t.shape; allowed = t.allowed; residual = t.residual })

or_begins_right : (p q : Pattern) (w : List ℕ) → Begins q w → Begins (or p q) w
or_begins_right p q w (inl h) = inl (or_either (nullable p) (nullable q) (inr h.0), h.1)
or_begins_right p q w (inr t) =
    inr (record { at = inr t.at; rest = t.rest; shape = t.shape; allowed = t.allowed; residual = t.residual })

pub begins : (p : Pattern) (w : List ℕ) → Matches p w → Begins p w
begins empty w m = inl (refl, m)
begins (letter s) w m = inr (record { at = tt; rest = []; shape = m; allowed = tt; residual = refl })
begins (then p q) w m = then_begins p q m.whole m.right (begins p m.front m.left) (begins q m.back m.right)
begins (or p q) w m = ⊎_elim (λ h. or_begins_left p q w (begins p w h)) (λ h. or_begins_right p q w (begins q w h)) m
begins (star p) w m = star_begins p (begins p) m

then_goes_on : (p q : Pattern) (x : Position p) {u v w : List ℕ} → w ≡ u ++ v → Matches q v → GoesOn p x u → Begins q v
    → GoesOn (then p q) (inl x) w
then_goes_on p q x {v = v} e m (inr t) b =
    let j = entered p (Follow p x) (Matches q) v e m t in
    inr (record { at = inl j.0; rest = j.1; shape = j.2; allowed = j.3; residual = j.4 })
then_goes_on p q x e m (inl h) (inl g) = inl ((g.0, h.0), fallen e h.1 ∙ g.1)
then_goes_on p q x e m (inl h) (inr t) =
    inr (record { at = inr t.at; rest = t.rest; shape = fallen e h.1 ∙ t.shape; allowed = (h.0, t.allowed); residual = t.residual })

star_goes_on : (p : Pattern) (x : Position p) {u v w : List ℕ} → w ≡ u ++ v → Times (Matches p) v → GoesOn p x u → Begins (star p) v
    → GoesOn (star p) x w
star_goes_on p x {v = v} e m (inr t) b =
    let j = entered p (Follow p x) (Times (Matches p)) v e m t in
    inr (record { at = j.0; rest = j.1; shape = j.2; allowed = inl j.3; residual = j.4 })
star_goes_on p x e m (inl h) (inl g) = inl (h.0, fallen e h.1 ∙ g.1)
star_goes_on p x e m (inl h) (inr t) =
    inr (record { at = t.at; rest = t.rest; shape = fallen e h.1 ∙ t.shape; allowed = inr (h.0, t.allowed); residual = t.residual })

-- what goes on within a part goes on in the whole
goes_on_within : {p q : Pattern} (x : Position p) (y : Position q) {w : List ℕ} (f : Position p → Position q)
    → (Last p x → Last q y)
    → ((z : Position p) → letter_at p z ≡ letter_at q (f z))
    → ((z : Position p) → Follow p x z → Follow q y (f z))
    → ((z : Position p) (v : List ℕ) → Residual p z v → Residual q (f z) v)
    → GoesOn p x w → GoesOn q y w
goes_on_within x y f l a g r (inl h) = inl (l h.0, h.1)
goes_on_within x y f l a g r (inr t) =
    inr (record {
      at = f t.at;
      rest = t.rest;
      shape = t.shape ∙ ap (λ (c : ℕ). c ∷ t.rest) (a t.at);
      allowed = g t.at t.allowed;
      residual = r t.at t.rest t.residual;
    })

pub goes_on : (p : Pattern) (x : Position p) (w : List ℕ) → Residual p x w → GoesOn p x w
goes_on empty x w r = absurd x
goes_on (letter s) x w r = inl (tt, r)
goes_on (then p q) (inl x) w r = then_goes_on p q x r.whole r.right (goes_on p x r.front r.left) (begins q r.back r.right)
goes_on (then p q) (inr y) w r = goes_on_within {p = q} {q = then p q} y (inr y) inr (λ l. l) (λ z. refl) (λ z f. f) (λ z v t. t) (goes_on q y w r)
goes_on (or p q) (inl x) w r = goes_on_within {p = p} {q = or p q} x (inl x) inl (λ l. l) (λ z. refl) (λ z f. f) (λ z v t. t) (goes_on p x w r)
goes_on (or p q) (inr y) w r = goes_on_within {p = q} {q = or p q} y (inr y) inr (λ l. l) (λ z. refl) (λ z f. f) (λ z v t. t) (goes_on q y w r)
goes_on (star p) x w r = star_goes_on p x r.whole r.right (goes_on p x r.front r.left) (star_begins p (begins p) r.right)
