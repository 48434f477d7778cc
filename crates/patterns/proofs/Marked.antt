-- The sets of positions are those that the texts of the marked pattern show: a number is in a set
-- exactly where such a text begins with it, ends with it, or has it right after another. In the
-- marked pattern the letter at a place is the place's number (`letter_number`), so that the laws of
-- places (proofs/Theory.antt) speak of numbers; and every place is reached by some text, which goes
-- on (`reached`, `some_rest`). Assumes nothing.
use mathlib.Core.Path.{◌≡◌, refl, sym, ap, ◌∙◌, subst}
use mathlib.Core.Logic.{◌↔◌, inl, inr}
use mathlib.Core.List.{List, [], ◌∷◌, ◌++◌, append_assoc}
use Prim.Native.Nat.{ℕ, ◌+◌}
use Rattle.masks.specs.Masks.{◌∈◌}
use Rattle.patterns.specs.Patterns.{Pattern, empty, letter, then, or, star, Matches, Times, none, more, count}
use Rattle.patterns.specs.Positions.{nullable, first, last, follow}
use Rattle.patterns.specs.Marked as spec
use Rattle.patterns.specs.Marked.{marked}
use Rattle.patterns.proofs.Theory.{Position, letter_at, First, Last, Follow, Residual, Enters, Begins, GoesOn, began_at, ended, went_on, begins, goes_on}
use Rattle.patterns.proofs.Numbers.{number, first_of, last_of, follow_of_lem, in_first_lem, in_last, in_follow}
use Rattle.patterns.proofs.Language.{cons_not_nil, rest-is}

-- ---- marking changes no set
same_count : (p : Pattern) (o : ℕ) → count (marked p o) ≡ count p
same_count empty o = refl
same_count (letter s) o = refl
same_count (then p q) o = rw (same_count p o, same_count q (o + count p)) refl
same_count (or p q) o = rw (same_count p o, same_count q (o + count p)) refl
same_count (star p) o = same_count p o

same_nullable : (p : Pattern) (o : ℕ) → nullable (marked p o) ≡ nullable p
same_nullable empty o = refl
same_nullable (letter s) o = refl
same_nullable (then p q) o = rw (same_nullable p o, same_nullable q (o + count p)) refl
same_nullable (or p q) o = rw (same_nullable p o, same_nullable q (o + count p)) refl
same_nullable (star p) o = refl

same_first : (p : Pattern) (o : ℕ) → first (marked p o) o ≡ first p o
same_first empty o = refl
same_first (letter s) o = refl
same_first (then p q) o = rw (same_count p o, same_nullable p o, same_first p o, same_first q (o + count p)) refl
same_first (or p q) o = rw (same_count p o, same_first p o, same_first q (o + count p)) refl
same_first (star p) o = same_first p o

same_last : (p : Pattern) (o : ℕ) → last (marked p o) o ≡ last p o
same_last empty o = refl
same_last (letter s) o = refl
same_last (then p q) o = rw (same_count p o, same_nullable q (o + count p), same_last p o, same_last q (o + count p)) refl
same_last (or p q) o = rw (same_count p o, same_last p o, same_last q (o + count p)) refl
same_last (star p) o = same_last p o

same_follow : (p : Pattern) (o i : ℕ) → follow (marked p o) o i ≡ follow p o i
same_follow empty o i = refl
same_follow (letter s) o i = refl
same_follow (then p q) o i =
    rw (same_count p o, same_last p o, same_first q (o + count p), same_follow p o i, same_follow q (o + count p) i) refl
same_follow (or p q) o i = rw (same_count p o, same_follow p o i, same_follow q (o + count p) i) refl
same_follow (star p) o i = rw (same_last p o, same_first p o, same_follow p o i) refl

-- the letter at a place is its number
letter_number : (p : Pattern) (o : ℕ) (x : Position (marked p o)) → letter_at (marked p o) x ≡ number (marked p o) o x
letter_number empty o x = absurd x
letter_number (letter s) o x = refl
letter_number (then p q) o (inl x) = letter_number p o x
letter_number (then p q) o (inr y) =
    letter_number q (o + count p) y ∙ ap (λ (c : ℕ). number (marked q (o + count p)) (o + c) y) (sym (same_count p o))
letter_number (or p q) o (inl x) = letter_number p o x
letter_number (or p q) o (inr y) =
    letter_number q (o + count p) y ∙ ap (λ (c : ℕ). number (marked q (o + count p)) (o + c) y) (sym (same_count p o))
letter_number (star p) o x = letter_number p o x

-- ---- every place is reached, and goes on
some_text : (p : Pattern) → (w : List ℕ) × Matches p w
some_text empty = ([], refl)
some_text (letter s) = (s ∷ [], refl)
some_text (then p q) =
    let a = some_text p in
    let b = some_text q in
    (a.0 ++ b.0, record { front = a.0; back = b.0; whole = refl; left = a.1; right = b.1 })
some_text (or p q) = let a = some_text p in (a.0, inl a.1)
some_text (star p) = ([], none)

some_rest : (p : Pattern) (x : Position p) → (v : List ℕ) × Residual p x v
some_rest empty x = absurd x
some_rest (letter s) x = ([], refl)
some_rest (then p q) (inl x) =
    let a = some_rest p x in
    let b = some_text q in
    (a.0 ++ b.0, record { front = a.0; back = b.0; whole = refl; left = a.1; right = b.1 })
some_rest (then p q) (inr y) = some_rest q y
some_rest (or p q) (inl x) = some_rest p x
some_rest (or p q) (inr y) = some_rest q y
some_rest (star p) x =
    let a = some_rest p x in
    (a.0 ++ [], record { front = a.0; back = []; whole = refl; left = a.1; right = none })

-- a text that leads to place x: with whatever may follow x it is one of p
Reached : (p : Pattern) → Position p → Type 0
Reached p x = (u : List ℕ) × ((v : List ℕ) → Residual p x v → Matches p (u ++ (letter_at p x ∷ v)))

-- the letter's text in front of what is joined to it
regrouped : (u : List ℕ) (a : ℕ) {v : List ℕ} (front back : List ℕ) → v ≡ front ++ back → u ++ (a ∷ v) ≡ (u ++ (a ∷ front)) ++ back
regrouped u a front back e = ap (λ (l : List ℕ). u ++ (a ∷ l)) e ∙ sym (append_assoc u (a ∷ front) back)

reached : (p : Pattern) (x : Position p) → Reached p x
unfolding Reached
reached empty x = absurd x
reached (letter s) x = ([], λ v r. ap (s ∷◌) r)
reached (then p q) (inl x) =
    let a = reached p x in (
      a.0,
      λ v r. record {
        front = a.0 ++ (letter_at p x ∷ r.front);
        back = r.back;
        whole = regrouped a.0 (letter_at p x) r.front r.back r.whole;
        left = a.1 r.front r.left;
        right = r.right;
      },
    )
reached (then p q) (inr y) =
    let t = some_text p in
    let a = reached q y in (
      t.0 ++ a.0,
      λ v r. record {
        front = t.0;
        back = a.0 ++ (letter_at q y ∷ v);
        whole = append_assoc t.0 a.0 (letter_at q y ∷ v);
        left = t.1;
        right = a.1 v r;
      },
    )
reached (or p q) (inl x) = let a = reached p x in (a.0, λ v r. inl (a.1 v r))
reached (or p q) (inr y) = let a = reached q y in (a.0, λ v r. inr (a.1 v r))
reached (star p) x =
    let a = reached p x in (
      a.0,
      λ v r.
          subst (Times (Matches p)) (sym (regrouped a.0 (letter_at p x) r.front r.back r.whole))
          (more (a.1 r.front r.left) r.right),
    )

-- ---- a letter in a text stands at a place
head_is : {a b : ℕ} {v w : List ℕ} → a ∷ v ≡ b ∷ w → a ≡ b
head_is e = cc

-- a place with the letter a and the property P, after which the text w may come
pub record At (p : Pattern) (P : Position p → Type 0) (a : ℕ) (w : List ℕ) : Type 0 where
  pub at : Position p
  pub is : letter_at p at ≡ a
  pub holds : P at
  pub rest : Residual p at w

entered : {p : Pattern} {P : Position p → Type 0} {a : ℕ} {w : List ℕ} → Enters p P (a ∷ w) → At p P a w
entered {p} t = record {
  at = t.at;
  is = sym (head_is t.shape);
  holds = t.allowed;
  rest = subst (Residual p t.at) (sym (rest-is t.shape)) t.residual;
}

first-at : {p : Pattern} {a : ℕ} {w : List ℕ} → Begins p (a ∷ w) → At p (First p) a w
first-at (inl h) = absurd (cons_not_nil h.1)
first-at (inr t) = entered t

next_at_lem : (p : Pattern) (x : Position p) {a : ℕ} {w : List ℕ} → GoesOn p x (a ∷ w) → At p (Follow p x) a w
next_at_lem p x (inl h) = absurd (cons_not_nil h.1)
next_at_lem p x (inr t) = entered t

last_at_lem : (p : Pattern) (x : Position p) → GoesOn p x [] → Last p x
last_at_lem p x (inl h) = h.0
last_at_lem p x (inr t) = absurd (cons_not_nil (sym t.shape))

abbrev Anywhere : (p : Pattern) → Position p → Type 0
Anywhere p x = Unit {0}

onward : (p : Pattern) (u : List ℕ) (a : ℕ) (w : List ℕ) (x : Position p) → Residual p x (u ++ (a ∷ w)) → At p (Anywhere p) a w
onward p [] a w x r =
    let n = next_at_lem p x (goes_on p x (a ∷ w) r) in record { at = n.at; is = n.is; holds = tt; rest = n.rest }
onward p (c ∷ u) a w x r = let n = next_at_lem p x (goes_on p x (c ∷ (u ++ (a ∷ w))) r) in onward p u a w n.at n.rest

found : (p : Pattern) (u : List ℕ) (a : ℕ) (w : List ℕ) → Matches p (u ++ (a ∷ w)) → At p (Anywhere p) a w
found p [] a w m = let n = first-at (begins p (a ∷ w) m) in record { at = n.at; is = n.is; holds = tt; rest = n.rest }
found p (c ∷ u) a w m = let n = first-at (begins p (c ∷ (u ++ (a ∷ w))) m) in onward p u a w n.at n.rest

-- ---- the three laws
module _ (p : Pattern) where
  named : {i : ℕ} (x : Position (marked p 0)) → number (marked p 0) 0 x ≡ i → letter_at (marked p 0) x ≡ i
  named x e = letter_number p 0 x ∙ e

  numbered : {i : ℕ} (x : Position (marked p 0)) → letter_at (marked p 0) x ≡ i → number (marked p 0) 0 x ≡ i
  numbered x e = sym (letter_number p 0 x) ∙ e

  pub first_law : (j : ℕ) → (j ∈ first p 0) ↔ spec.Begins p j
  first_law j = (
    (λ h.
        let t = first_of (marked p 0) 0 j (subst (λ (s : ℕ). j ∈ s) (sym (same_first p 0)) h) in
        let v = some_rest (marked p 0) t.at in
        (v.0, subst (λ (a : ℕ). Matches (marked p 0) (a ∷ v.0)) (named t.at t.is) (began_at (marked p 0) t.at v.0 t.holds v.1))),
    λ h.
        let t = first-at (begins (marked p 0) (j ∷ h.0) h.1) in
        subst (λ (s : ℕ). j ∈ s) (same_first p 0)
        (subst (λ (i : ℕ). i ∈ first (marked p 0) 0) (numbered t.at t.is) (in_first_lem (marked p 0) 0 t.at t.holds)),
  )

  pub last_law : (i : ℕ) → (i ∈ last p 0) ↔ spec.Ends p i
  unfolding Reached
  last_law i = (
    (λ h.
        let t = last_of (marked p 0) 0 i (subst (λ (s : ℕ). i ∈ s) (sym (same_last p 0)) h) in
        let u = reached (marked p 0) t.at in
        (u.0, subst (λ (a : ℕ). Matches (marked p 0) (u.0 ++ (a ∷ []))) (named t.at t.is) (u.1 [] (ended (marked p 0) t.at t.holds)))),
    λ h.
        let t = found (marked p 0) h.0 i [] h.1 in
        subst (λ (s : ℕ). i ∈ s) (same_last p 0)
        (subst (λ (a : ℕ). a ∈ last (marked p 0) 0) (numbered t.at t.is)
        (in_last (marked p 0) 0 t.at (last_at_lem (marked p 0) t.at (goes_on (marked p 0) t.at [] t.rest)))),
  )

  pub follow_law : (i j : ℕ) → (j ∈ follow p 0 i) ↔ spec.Comes p i j
  unfolding Reached
  follow_law i j = (
    (λ h.
        let t = follow_of_lem (marked p 0) 0 i j (subst (λ (s : ℕ). j ∈ s) (sym (same_follow p 0 i)) h) in
        let v = some_rest (marked p 0) t.target in
        let u = reached (marked p 0) t.source in
        let r : Residual (marked p 0) t.source (j ∷ v.0) =
        subst (λ (a : ℕ). Residual (marked p 0) t.source (a ∷ v.0)) (named t.target t.to)
        (went_on (marked p 0) t.source t.target v.0 t.follows v.1) in
        (u.0, v.0, subst (λ (a : ℕ). Matches (marked p 0) (u.0 ++ (a ∷ j ∷ v.0))) (named t.source t.from) (u.1 (j ∷ v.0) r))),
    λ h.
        let s = found (marked p 0) h.0 i (j ∷ h.1) h.2 in
        let t = next_at_lem (marked p 0) s.at (goes_on (marked p 0) s.at (j ∷ h.1) s.rest) in
        subst (λ (f : ℕ). j ∈ f) (same_follow p 0 i)
        (subst (λ (a : ℕ). j ∈ follow (marked p 0) 0 a) (numbered s.at s.is)
        (subst (λ (b : ℕ). b ∈ follow (marked p 0) 0 (number (marked p 0) 0 s.at)) (numbered t.at t.is)
        (in_follow (marked p 0) 0 s.at t.at t.holds))),
  )
