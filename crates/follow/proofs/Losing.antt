-- Where a chunk is lost, and what is expected there. Assumes a well-formed rule.
--
--   lost_law, kept_law   the chunk is lost at b; it is not
--   next_law             a symbol that can come next
use Rattle.std.proofs.Common.{◌≡◌, ℕ, suc, Bool, not, ◌↔◌, List, [], ◌∷◌, ◌++◌, length, take, drop, sym, ap, ◌∙◌, subst, arith, take-append-drop}
use mathlib.Core.Option.{none, some}
use lib.Seq.{take-length}
use borrow.Author.Tests.{not-true, not-false}
use Rattle.base.proofs.Tests.{not_both}
use Rattle.masks.specs.Masks.{◌∈◌, shares}
use Rattle.masks.proofs.Laws.{shares_law}
use Rattle.masks.proofs.Passing.{mask_in, mask_of_lem}
use Rattle.marks.specs.Marks.{text_of}
use Rattle.marks.proofs.Claims as marks
use Rattle.automaton.specs.declared.Rule.{Rule}
use Rattle.automaton.specs.Rules.{WellFormed}
use Rattle.automaton.specs.Successor.{successor}
use Rattle.automaton.proofs.Laws.{successor_law}
use Rattle.live.specs.Live.{live_of}
use Rattle.live.specs.Continued.{CanEnd}
use Rattle.live.proofs.Hope.{hope, no_hope, shorter}
use Rattle.follow.specs.Following.{set_after, lost_by, next_by}
use Rattle.follow.specs.Claims.{LostAt}
use Rattle.follow.proofs.Steps.{least_none, least_at, least_nothing, least_found}

module _ (r : Rule) (good : WellFormed r) where
  -- ---- where a chunk is lost
  module _ (m : ℕ) (w : List ℕ) where
    test : ℕ → Bool
    test i = not (shares (set_after r.targets m (take i w)) (live_of r))

    part : (i : ℕ) → text_of (take i w) ++ text_of (drop i w) ≡ text_of w
    part i = sym ((marks.claims).text_append (take i w) (drop i w)) ∙ ap text_of (take-append-drop i w)

    pub lost_law : (b : ℕ) → (lost_by r.targets (live_of r) m w ≡ some b) ↔ LostAt r m w b
    unfolding test
    lost_law b = (
      (λ e.
          let x = least_found test (suc (length w)) b e in
          record {
            within = omega (arith, x.0);
            lost = λ c. not_both ((hope r good m (text_of (take b w))).1 c) (not-true _ x.1);
            before = λ i l. (hope r good m (text_of (take i w))).0 (not-false _ (x.2 i l));
          }),
      λ x.
          least_at test (suc (length w)) b (omega (arith, x.within))
          (ap not (no_hope r good m (text_of (take b w)) x.lost))
          (λ i l. ap not ((hope r good m (text_of (take i w))).1 (x.before i l))),
    )

    pub kept_law : (lost_by r.targets (live_of r) m w ≡ none) ↔ CanEnd r m (text_of w)
    unfolding test
    kept_law = (
      (λ e.
          subst (λ (x : List ℕ). CanEnd r m (text_of x)) (take-length w)
          ((hope r good m (text_of (take (length w) w))).0 (not-false _ (least_nothing test (suc (length w)) e (length w) (omega arith))))),
      λ c.
          least_none test (suc (length w))
          (λ i l. ap not ((hope r good m (text_of (take i w))).1 (shorter r good m (text_of (take i w)) (text_of (drop i w)) (subst (CanEnd r m) (sym (part i)) c)))),
    )

  -- ---- what can come next
  pub next_law : (m s : ℕ) → s ∈ next_by r.targets (live_of r) r.k m ↔ CanEnd r m (s ∷ [])
  next_law m s = (
    (λ e. (hope r good m (s ∷ [])).0 (mask_in (λ x. shares (successor r.targets m x) (live_of r)) r.k s e).1),
    λ c.
        let h = (hope r good m (s ∷ [])).1 c in
        let x = (shares_law (successor r.targets m s) (live_of r)).0 h in
        let y = (successor_law r good m s x.0).0 x.1 in
        mask_of_lem (λ z. shares (successor r.targets m z) (live_of r)) r.k s y.2.symbol h,
  )
