-- What a list of calls comes to where only the last accepted call of a kind tells. Assumes nothing.
--
-- f is what the list comes to: an accepted call of the kind P sets it, to what it says, and no
-- other call changes it. Then f is what the last accepted call of that kind says (`last_says`), or
-- as at the beginning where there is none; so it is a value other than that exactly where the last
-- one says it (`last_law`). By induction over the calls made later, and over the list.
use mathlib.Core.Path.{◌≡◌, refl, sym, ap, ◌∙◌, subst, subst₂}
use mathlib.Core.Logic.{◌↔◌, ◌⊎◌, inl, inr, ⊎_elim}
use mathlib.Core.List.{List, [], ◌∷◌, ◌++◌}
use Prim.Native.Nat.{ℕ}
use native.Mathlib.Omega.{arith}
use Rattle.executions.specs.Last.{LastAccepted}

module _ {C : Type 0} (Accepted : List C → C → Type 0) (P : C → Type 0) where
  -- one call more, of another kind or refused
  one_more : (d : C) (h : List C) {c : C} {earlier : List C} → (P d → Accepted h d → ⊥)
      → LastAccepted Accepted P h c earlier → LastAccepted Accepted P (d ∷ h) c earlier
  one_more d h {c} {earlier} over l = record {
    later = d ∷ l.later;
    cut = ap (λ (x : List C). d ∷ x) l.cut;
    kind = l.kind;
    taken = l.taken;
    no_later = none_after;
  }
    where
      none_after : (after : List C) (e : C) (before : List C) → (d ∷ l.later) ≡ after ++ (e ∷ before) → P e → Accepted (before ++ (c ∷ earlier)) e → ⊥
      none_after [] e before same kind accepted =
          let first : e ≡ d = cc in
          let rest : before ≡ l.later = cc in
          over (subst P first kind)
          (subst₂ Accepted (ap (λ (x : List C). x ++ (c ∷ earlier)) rest ∙ sym l.cut) first accepted)
      none_after (a ∷ after) e before same kind accepted =
          let rest : l.later ≡ after ++ (e ∷ before) = cc in
          l.no_later after e before rest kind accepted

module _ {C A : Type 0} (Accepted : List C → C → Type 0) (P : C → Type 0) (f : List C → A) (says : C → A)
    (sets : (h : List C) (c : C) → P c → Accepted h c → f (c ∷ h) ≡ says c)
    (keeps : (h : List C) (c : C) → (P c → Accepted h c → ⊥) → f (c ∷ h) ≡ f h) where
  kept : (later : List C) (c : C) (earlier : List C) → P c → Accepted earlier c
      → ((after : List C) (d : C) (before : List C) → later ≡ after ++ (d ∷ before) → P d → Accepted (before ++ (c ∷ earlier)) d → ⊥)
      → f (later ++ (c ∷ earlier)) ≡ says c
  kept [] c earlier kind taken none_after = sets earlier c kind taken
  kept (d ∷ later) c earlier kind taken none_after =
      keeps (later ++ (c ∷ earlier)) d (none_after [] d later refl)
      ∙ kept later c earlier kind taken (λ after e before same. none_after (d ∷ after) e before (ap (λ (x : List C). d ∷ x) same))

  pub last_says : {h : List C} {c : C} {earlier : List C} → LastAccepted Accepted P h c earlier → f h ≡ says c
  last_says {h} {c} {earlier} l = ap f l.cut ∙ kept l.later c earlier l.kind l.taken l.no_later

  -- the kinds and the answers are told apart
  module _ (kind? : (c : C) → P c ⊎ (P c → ⊥)) (accepted? : (h : List C) (c : C) → Accepted h c ⊎ (Accepted h c → ⊥)) where
    abbrev Last : List C → Type 0
    Last h = (c : C) × (earlier : List C) × LastAccepted Accepted P h c earlier

    -- there is a last one, or it is as at the beginning
    module _ (d : C) (h : List C) (before : Last h ⊎ (f h ≡ f [])) where
      past : (P d → Accepted h d → ⊥) → Last (d ∷ h) ⊎ (f (d ∷ h) ≡ f [])
      past over =
          ⊎_elim (λ x. inl (x.0, x.1, one_more Accepted P d h over x.2)) (λ e. inr (keeps h d over ∙ e)) before

      here : P d → Accepted h d → Last (d ∷ h) ⊎ (f (d ∷ h) ≡ f [])
      here kind taken = inl (d, h, record { later = []; cut = refl; kind = kind; taken = taken; no_later = none_yet })
        where
          none_yet : (after : List C) (e : C) (b : List C) → [] ≡ after ++ (e ∷ b) → P e → Accepted (b ++ (d ∷ h)) e → ⊥
          none_yet [] e b same k a = let z : ◌≡◌ {A = ℕ} 0 1 = cc in omega arith
          none_yet (x ∷ after) e b same k a = let z : ◌≡◌ {A = ℕ} 0 1 = cc in omega arith

      either : Last (d ∷ h) ⊎ (f (d ∷ h) ≡ f [])
      either = ⊎_elim (λ k. ⊎_elim (here k) (λ n. past (λ _ a. n a)) (accepted? h d)) (λ n. past (λ k _. n k)) (kind? d)

    found : (h : List C) → Last h ⊎ (f h ≡ f [])
    found [] = inr refl
    found (d ∷ h) = either d h (found h)

    -- THE LAW
    pub last_law : (h : List C) (x : A) → (f [] ≡ x → ⊥)
        → (f h ≡ x) ↔ (c : C) × (earlier : List C) × LastAccepted Accepted P h c earlier × (says c ≡ x)
    last_law h x not-at-first = (
      (λ e. ⊎_elim (λ l. (l.0, l.1, l.2, sym (last_says l.2) ∙ e)) (λ z. absurd (not-at-first (sym z ∙ e))) (found h)),
      λ l. last_says l.2 ∙ l.3,
    )
