-- The trimmed rule is well formed, accepts what the automaton accepts that it was made of, and is
-- made of its states as the words say.
-- Assumes that the masks are the automaton's, and that at most 32 states stay.
use mathlib.Core.Path.{◌≡◌, refl, sym, ap, ◌∙◌, subst}
use mathlib.Core.Logic.Iff
use mathlib.Core.Logic.{◌↔◌, ◌⊎◌, inl, inr, ⊎_elim}
use mathlib.Core.Bool.{Bool, true, false, cond, ◌&&◌}
use mathlib.Core.Option.{Option, none, some}
use Prim.Native.Nat.{ℕ, zero, suc, ◌+◌, ◌/◌, ◌%◌, ◌^◌, ◌≤◌, ◌<◌}
use native.Mathlib.Nat.{eq-or-lt_of_le}
use native.Mathlib.Omega.{arith}
use lib.Dec.{eqb, ltb}
use lib.ListN.{length, replicate, length-replicate}
use borrow.Author.Tests.{lt-ltb, le-ltb, ltb-true, ltb-false, eq-eqb, eqb-true}
use Rattle.base.proofs.Tests.{by_test, not_both}
use Rattle.base.proofs.Lists.{length_list_from, is_list_from, zero_cells}
use Rattle.masks.specs.Masks.{◌∈◌, has}
use Rattle.masks.proofs.Laws.{no_member, has_member, member_of, below_of, empty_mask}
use Rattle.masks.proofs.Passing.{mask_in, mask_of_lem}
use Rattle.masks.specs.Turns.{rank}
use Rattle.automaton.specs.declared.Rule.{Rule}
use Rattle.automaton.specs.Automaton.{Automaton, Arc, Equivalent}
use Rattle.automaton.specs.Rules.{target_mask, automaton_of, WellFormed}
use Rattle.automaton.proofs.Values.{table_law, all_fields}
use Rattle.delegates.specs.Alike.{Alike, Live}
use Rattle.delegates.proofs.Alike.{alike_self}
use Rattle.delegates.specs.mirror.Classes.{first_from}
use Rattle.reducing.specs.Claims.{empty_rule}
use Rattle.reducing.proofs.Ranks.{rank_mono, rank_less, rank_once, rank_onto}
use Rattle.reducing.proofs.Quotient.{Quotient}
use Rattle.reducing.proofs.Quotient as quotients
use Rattle.reducing.proofs.Facts.{picked, in_both}
use Rattle.mergereduce.specs.Trimmed.{kept_from, nth, renamed_to, trimmed_targets, trimmed_by}
use Rattle.mergereduce.specs.Claims.{InOrder, MadeOf}
use Rattle.mergereduce.proofs.Kept.{and_both, Masked, kept_few, kept_both, kept_live, kept_law, first_reached, onward_reached}

-- a search finds a number that passes, or none does
pub search_law : (t : ℕ → Bool) (lo f : ℕ)
    → ((first_from t lo f < lo + f) × (t (first_from t lo f) ≡ true)) ⊎ (((x : ℕ) → lo ≤ x → x < lo + f → t x ≡ false) × (first_from t lo f ≡ lo + f))
unfolding first_from
search_law t lo zero = inr ((λ x h l. absurd (omega arith)), omega arith)
search_law t lo (suc f) = go (search_law t (suc lo) f)
  where
    go : ((first_from t (suc lo) f < suc lo + f) × (t (first_from t (suc lo) f) ≡ true))
        ⊎ (((x : ℕ) → suc lo ≤ x → x < suc lo + f → t x ≡ false) × (first_from t (suc lo) f ≡ suc lo + f))
        → ((first_from t lo (suc f) < lo + suc f) × (t (first_from t lo (suc f)) ≡ true))
        ⊎ (((x : ℕ) → lo ≤ x → x < lo + suc f → t x ≡ false) × (first_from t lo (suc f) ≡ lo + suc f))
    go r =
        by_test (t lo)
        (λ e. rw e (inl (omega arith, e)))
        (λ e.
        rw e
        (⊎_elim
        (λ u. inl (omega (arith, u.0), u.1))
        (λ u.
        inr (
          (λ x h l. ⊎_elim (λ z. ap t (sym z) ∙ e) (λ m. u.0 x m (omega arith)) (eq-or-lt_of_le h)),
          omega (arith, u.1),
        ))
        r))

pub first_passes : (t : ℕ → Bool) (lo f x : ℕ) → lo ≤ x → x < lo + f → t x ≡ true → t (first_from t lo f) ≡ true
first_passes t lo f x h l e = ⊎_elim (λ u. u.1) (λ u. not_both e (u.0 x h l)) (search_law t lo f)

not_there : (p : ℕ) (s t : Bool) (m : ℕ) → t ≡ false → p ∈ cond s (cond t m 0) 0 → ⊥
not_there p true true m e i = not_both {b = true} refl e
not_there p true false m e i = no_member p i
not_there p false t m e i = no_member p i

module _ (a : Automaton) (n initials finals : ℕ) (ts : ℕ → ℕ → ℕ) (M : Masked a n initials finals ts) where
  abbrev kept : ℕ
  kept = kept_from n ts initials finals

  few : (x : ℕ) → x ∈ kept → x < n
  few = kept_few a n initials finals ts M

  below_count : (x : ℕ) → x ∈ kept → rank kept x < rank kept n
  below_count x e = rank_less kept x n e (few x e)

  nth_law : (p : ℕ) → p < rank kept n → (nth n kept p ∈ kept) × (rank kept (nth n kept p) ≡ p)
  unfolding nth
  nth_law p l =
      let x = rank_onto kept n p l in
      let t : ℕ → Bool = λ q. has kept q && eqb (rank kept q) p in
      let q = first_from t 0 n in
      let passes = first_passes t 0 n x.0 (omega arith) (omega (arith, x.1)) (rw (has_member kept x.0 x.2, eq-eqb (rank kept x.0) p x.3)) in
      let both = and_both (has kept q) (eqb (rank kept q) p) passes in
      (member_of kept q both.0, eqb-true (rank kept q) p both.1)

  nth_rank : (x : ℕ) → x ∈ kept → nth n kept (rank kept x) ≡ x
  nth_rank x e =
      let y = nth_law (rank kept x) (below_count x e) in
      rank_once kept (nth n kept (rank kept x)) x y.0 e y.1

  renamed_law : (m p : ℕ) → p ∈ renamed_to n kept m ↔ (x : ℕ) × (x ∈ kept) × (x ∈ m) × (p ≡ rank kept x)
  renamed_law m p = (
    (λ e.
        let u = mask_in (λ r. has m (nth n kept r)) (rank kept n) p e in
        let x = nth_law p u.0 in
        (nth n kept p, x.0, member_of m (nth n kept p) u.1, sym x.1)),
    λ u.
        let is : nth n kept p ≡ u.0 = ap (nth n kept) u.3 ∙ nth_rank u.0 u.1 in
        mask_of_lem (λ r. has m (nth n kept r)) (rank kept n) p (rw u.3 (below_count u.0 u.1))
        (has_member m (nth n kept p) (subst (λ (y : ℕ). y ∈ m) (sym is) u.2)),
  )

  -- ---- in their order
  pub in_order : InOrder a (rank kept n)
  in_order = record {
    old = nth n kept;
    own = λ p l. (kept_law a n initials finals ts M (nth n kept p)).0 (nth_law p l).0;
    there = λ x c.
        let e = (kept_law a n initials finals ts M x).1 c in
        (rank kept x, below_count x e, nth_rank x e);
    rises = λ p q l h.
        by_test (ltb (nth n kept p) (nth n kept q))
        (λ t. ltb-true (nth n kept p) (nth n kept q) t)
        (λ t.
        let m = rank_mono kept (nth n kept q) (nth n kept p) (ltb-false (nth n kept p) (nth n kept q) t) in
        absurd (omega (arith, m, (nth_law p (omega arith)).1, (nth_law q h).1)));
  }

  -- ---- the rule of them
  module _ (k : ℕ) (same : a.k ≡ k) (one : 1 ≤ k) (fits : rank kept n ≤ 32) where
    abbrev new : Rule
    new = trimmed_by n k initials finals ts kept

    abbrev b : Automaton
    b = automaton_of new

    below_new : (x : ℕ) → x ∈ kept → rank kept x < new.n
    below_new x e = omega (arith, below_count x e)

    -- ---- the table
    record NewArc (p s p' : ℕ) : Type 0 where
      from : ℕ
      to : ℕ
      stays : from ∈ kept
      is : rank kept from ≡ p
      arc : Arc a from s to
      to_stays : to ∈ kept
      to_is : p' ≡ rank kept to

    of_row : (p s p' : ℕ) → p < rank kept n → p' ∈ trimmed_targets n ts kept p s → NewArc p s p'
    of_row p s p' l e =
        let x = nth_law p l in
        let v = (renamed_law (ts (nth n kept p) s) p').0 e in
        record {
          from = nth n kept p;
          to = v.0;
          stays = x.0;
          is = x.1;
          arc = (M.arc (nth n kept p) s v.0 (few (nth n kept p) x.0)).0 v.2;
          to_stays = v.1;
          to_is = v.3;
        }

    in_row : (x s t : ℕ) → x ∈ kept → Arc a x s t → t ∈ kept → rank kept t ∈ trimmed_targets n ts kept (rank kept x) s
    in_row x s t e j i =
        (renamed_law (ts (nth n kept (rank kept x)) s) (rank kept t)).1
        (t, i, subst (λ (y : ℕ). t ∈ ts y s) (sym (nth_rank x e)) ((M.arc x s t (few x e)).1 j), refl)

    new_mask : (p s : ℕ) → target_mask new.targets p s
        ≡ cond (ltb s 16) (cond (ltb p (rank kept n)) (trimmed_targets n ts kept p s) 0) 0
    new_mask p s = table_law (rank kept n) (trimmed_targets n ts kept) p s fits

    of_mask : (p s p' : ℕ) → p' ∈ target_mask new.targets p s → NewArc p s p'
    of_mask p s p' e =
        let there = subst (λ (x : ℕ). p' ∈ x) (new_mask p s) e in
        by_test (ltb p (rank kept n))
        (λ t. of_row p s p' (ltb-true p (rank kept n) t) (in_both p' (ltb s 16) (ltb p (rank kept n)) (trimmed_targets n ts kept p s) there))
        (λ t. absurd (not_there p' (ltb s 16) (ltb p (rank kept n)) (trimmed_targets n ts kept p s) t there))

    arc_to_lem : (x s t : ℕ) → x ∈ kept → Arc a x s t → t ∈ kept → Arc b (rank kept x) s (rank kept t)
    arc_to_lem x s t e j i = record {
      source = below_new x e;
      symbol = rw same at j.symbol;
      target = below_new t i;
      there =
          subst (λ (z : ℕ). rank kept t ∈ z) (sym (new_mask (rank kept x) s))
          (picked (rank kept t) (ltb s 16) (ltb (rank kept x) (rank kept n)) (trimmed_targets n ts kept (rank kept x) s)
          (lt-ltb s 16 (omega (arith, j.symbol, M.symbols)))
          (lt-ltb (rank kept x) (rank kept n) (below_count x e))
          (in_row x s t e j i));
    }

    -- ---- the rule
    renamed_below : (m : ℕ) → renamed_to n kept m < 2 ^ new.n
    renamed_below m =
        below_of new.n (renamed_to n kept m)
        (λ p e. let u = (renamed_law m p).0 e in rw u.3 (below_new u.0 u.1))

    pub well_formed : WellFormed new
    well_formed = record {
      states = (omega arith, omega (arith, fits));
      symbols = (one, omega (arith, M.symbols, same));
      initials_below = renamed_below initials;
      finals_below = renamed_below finals;
      targets_below = λ p s l.
          below_of new.n (target_mask new.targets p s)
          (λ p' e. let u = of_mask p s p' e in rw u.to_is (below_new u.to u.to_stays));
      zero_outside = λ p s l o.
          empty_mask (target_mask new.targets p s)
          (λ p' e.
          let u = of_mask p s p' e in
          ⊎_elim
          (λ h. omega (arith, h, u.is, below_new u.from u.stays))
          (λ h. omega (arith, h, u.arc.symbol, same))
          o);
    }

    -- each state that stays stands for itself
    Own : ℕ → Option ℕ → Type 0
    Own q none = ⊥
    Own q (some x) = (q ≡ x) × (x ∈ kept)

    live_next : (x s t : ℕ) → x ∈ kept → Arc a x s t → Live a t → t ∈ kept
    live_next x s t e j l =
        kept_live a n initials finals ts M t (onward_reached a n initials finals ts M x s t ((kept_both a n initials finals ts M x).0 e).0 j) l

    quotient : Quotient a b Own (λ x. x ∈ kept) (rank kept)
    unfolding Own
    quotient = record {
      symbols = sym same;
      states = below_new;
      state = λ x e. rw M.states (few x e);
      alike = λ q x d. subst (λ (y : ℕ). Alike a q y) d.0 (alike_self a q);
      arc_to_lem = λ x s t y e j d. (d.1, subst (λ (z : ℕ). Arc b (rank kept x) s (rank kept z)) d.0 (arc_to_lem x s t e j (subst (λ (z : ℕ). z ∈ kept) (sym d.0) d.1)));
      arc_from = λ x s p e j.
          let u = of_mask (rank kept x) s p j.there in
          let is : u.from ≡ x = rank_once kept u.from x u.stays e u.is in
          record {
            through = u.to;
            to = u.to;
            from = subst (λ (z : ℕ). Arc a z s u.to) is u.arc;
            chosen = (refl, u.to_stays);
            kept = u.to_stays;
            is = u.to_is;
          };
      arc_live = λ x s t e j l. (t, (refl, live_next x s t e j l));
      initial_to = λ q x e d. (d.1, (renamed_law initials (rank kept x)).1 (x, d.1, (M.initial x).1 (subst a.Initial d.0 e), refl));
      initial_from = λ p e.
          let u = (renamed_law initials p).0 e in
          record { through = u.0; to = u.0; from = (M.initial u.0).0 u.2; chosen = (refl, u.1); kept = u.1; is = u.3 };
      initial_live = λ q e l. (q, (refl, kept_live a n initials finals ts M q (first_reached a n initials finals ts M q ((M.initial q).1 e)) l));
      final_to = λ x e f. (renamed_law finals (rank kept x)).1 (x, e, (M.final x).1 f, refl);
      final_from = λ x e f.
          let u = (renamed_law finals (rank kept x)).0 f in
          (M.final x).0 (subst (λ (z : ℕ). z ∈ finals) (sym (rank_once kept x u.0 e u.1 u.3)) u.2);
    }

    pub language : Equivalent b a
    language w = quotients.language a b Own (λ x. x ∈ kept) (rank kept) quotient w

    -- ---- in words
    renamed_old : (m p : ℕ) → p < rank kept n → p ∈ renamed_to n kept m ↔ nth n kept p ∈ m
    renamed_old m p l = (
      (λ e.
          let u = (renamed_law m p).0 e in
          subst (λ (x : ℕ). x ∈ m) (sym (ap (nth n kept) u.3 ∙ nth_rank u.0 u.1)) u.2),
      λ e. let x = nth_law p l in (renamed_law m p).1 (nth n kept p, x.0, e, sym x.1),
    )

    module _ (none_stays : rank kept n ≡ 0) where
      no_renamed : (m : ℕ) → renamed_to n kept m ≡ 0
      no_renamed m =
          empty_mask (renamed_to n kept m)
          (λ p e. let u = (renamed_law m p).0 e in let l = below_count u.0 u.1 in omega arith)

      abbrev cell : ℕ → ℕ
      cell c = cond (ltb (c / 16) (rank kept n)) (trimmed_targets n ts kept (c / 16) (c % 16)) 0

      no_cell : (c : ℕ) → cell c ≡ 0
      no_cell c = rw (le-ltb (c / 16) (rank kept n) (omega arith))

      emptied : new ≡ empty_rule k
      emptied =
          all_fields (omega arith) refl (no_renamed initials) (no_renamed finals)
          (sym (is_list_from (replicate 512 0) 512 cell (length-replicate {A = ℕ} 512 0)
          (λ c h. zero_cells 512 c ∙ sym (no_cell c))))

    pub made : MadeOf a k (rank kept n) new
    unfolding in_order
    made = record {
      order = in_order;
      symbols = refl;
      states = λ h. omega arith;
      nothing = emptied;
      initial = λ p l. Iff.trans (renamed_old initials p l) (M.initial (nth n kept p));
      final = λ p l. Iff.trans (renamed_old finals p l) (M.final (nth n kept p));
      arc = λ p s q l m.
          let x = nth_law p l in
          let y = nth_law q m in (
            (λ j.
                let u = of_mask p s q j.there in
                let from : nth n kept p ≡ u.from = ap (nth n kept) (sym u.is) ∙ nth_rank u.from u.stays in
                let to : nth n kept q ≡ u.to = ap (nth n kept) u.to_is ∙ nth_rank u.to u.to_stays in
                rw (from, to) u.arc),
            λ j.
                subst (λ (z : ℕ). Arc b z s q) x.1
                (subst (λ (z : ℕ). Arc b (rank kept (nth n kept p)) s z) y.1
                (arc_to_lem (nth n kept p) s (nth n kept q) x.0 j y.0)),
          );
    }

    pub cells : length new.targets ≡ 512
    cells = length_list_from 0 512 (λ c. cond (ltb (c / 16) (rank kept n)) (trimmed_targets n ts kept (c / 16) (c % 16)) 0)
