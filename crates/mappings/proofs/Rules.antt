-- The mapping of a text. Assumes a rule with at most eight states where it says so, and nothing
-- else.
use mathlib.Core.Path.{◌≡◌, refl, sym, ap, ◌∙◌, subst}
use mathlib.Core.Logic.{◌↔◌, inl}
use mathlib.Core.Bool.{true, cond}
use mathlib.Core.List.{List, [], ◌∷◌, ◌++◌, append-nil, map, flatten}
use Prim.Native.Nat.{ℕ, ◌%◌, ◌^◌, ◌<◌}
use native.Mathlib.Nat.{lt_of_lt_of_le, mod-eq_of_lt}
use native.Mathlib.Omega.{arith}
use lib.Dec.{ltb}
use lib.ListN.{get_or}
use lib.Pow.{pow-lt, pow_mono, pow_pos}
use borrow.Author.Tests.{lt-ltb, ltb-true, ltb-false}
use Rattle.base.proofs.Lists.{length_list_from, cell_of_lem, same_list}
use Rattle.base.proofs.Tests.{by_test}
use Rattle.masks.specs.Masks.{◌∈◌, single, union, shares}
use Rattle.masks.proofs.Laws.{single_law, union_all, union_same, union-empty}
use Rattle.automaton.specs.declared.Rule.{Rule}
use Rattle.automaton.specs.Automaton.{Run, Accepts}
use Rattle.automaton.specs.Rules.{target_mask, automaton_of}
use Rattle.automaton.specs.Successor.{successor, after}
use Rattle.automaton.proofs.Laws.{after_or, after-append, after_empty, after_below, after_law, accepts_law}
use Rattle.compositions.specs.Bracketing.{fold_from}
use Rattle.compositions.proofs.Unions.{union_single, union_of_single, union_through}
use Rattle.mappings.specs.Mappings.{Value, Within, image, compose, identity, letter, mapping_of}
use Rattle.mappings.specs.Claims.{Small, mapping_after}

-- a set's successor by a text is the union of those of its members
after_union : (ts : List ℕ) (m n : ℕ) (w : List ℕ) → m < 2 ^ n → union (λ q. after ts (single q) w) m n ≡ after ts m w
after_union ts m n w b =
    sym (union_through (λ x. after ts x w) single (after_empty ts w) (λ x y. after_or ts x y w) m n)
    ∙ ap (λ (x : ℕ). after ts x w) (union_single m n b)

pub after_at : (ts : List ℕ) (n : ℕ) (w : List ℕ) (q : ℕ) → q < 8 → get_or (mapping_of ts n w) q 0 ≡ cond (ltb q n) (after ts (single q) w) 0
after_at ts n w q b = cell_of_lem 8 (λ i. cond (ltb i n) (after ts (single i) w) 0) q 0 b

pub of_nothing : (r : Rule) → mapping_after r [] ≡ identity r.n
of_nothing r = refl

module _ (r : Rule) (small : Small r) where
  after_lt : (w : List ℕ) (q : ℕ) → q < r.n → after r.targets (single q) w < 2 ^ r.n
  after_lt w q b = after_below r small.good (single q) w (pow-lt b)

  pub within : (w : List ℕ) → Within r.n (mapping_after r w)
  within w = record {
    eight = length_list_from 0 8 (λ q. cond (ltb q r.n) (after r.targets (single q) w) 0);
    masks = λ q b.
        rw (after_at r.targets r.n w q b)
        (by_test (ltb q r.n) (λ t. rw t (after_lt w q (ltb-true q r.n t))) (λ t. rw t (pow_pos r.n)));
    zeros = λ q b c. after_at r.targets r.n w q b ∙ by_test (ltb q r.n) (λ t. absurd (omega (arith, ltb-true q r.n t))) (λ t. rw t);
  }

  pub is_value : (w : List ℕ) → Value (mapping_after r w)
  is_value w = let is = within w in record { eight = is.eight; masks = λ q b. lt_of_lt_of_le (is.masks q b) (pow_mono small.states) }

  pub runs : (w : List ℕ) (q p : ℕ) → q < r.n → p ∈ get_or (mapping_after r w) q 0 ↔ Run (automaton_of r) q w p
  runs w q p b =
      let law = after_law r small.good (single q) p w (pow-lt b) in
      rw (after_at r.targets r.n w q (omega (arith, small.states)), lt-ltb q r.n b) (
        (λ e. let u = law.0 e in subst (λ (x : ℕ). Run (automaton_of r) x w p) ((single_law q u.from).0 u.member) u.run),
        λ u. law.1 (record { from = q; member = (single_law q q).1 refl; run = u }),
      )

  pub image_after : (w : List ℕ) (m : ℕ) → m < 2 ^ r.n → image (mapping_after r w) m ≡ after r.targets m w
  image_after w m b =
      sym (union_all (λ q. get_or (mapping_after r w) q 0) m r.n 8 b small.states)
      ∙ union_same (λ q. get_or (mapping_after r w) q 0) (λ q. after r.targets (single q) w) m r.n
      (λ q c. after_at r.targets r.n w q (omega (arith, small.states)) ∙ rw (lt-ltb q r.n c))
      ∙ after_union r.targets m r.n w b

  pub of_both : (v w : List ℕ) → mapping_after r (v ++ w) ≡ compose (mapping_after r v) (mapping_after r w)
  of_both v w =
      same_list 8 (λ q. cond (ltb q r.n) (after r.targets (single q) (v ++ w)) 0) (λ q. image (mapping_after r w) (get_or (mapping_after r v) q 0))
      (λ q b.
      sym
      (ap (image (mapping_after r w)) (after_at r.targets r.n v q b)
      ∙ by_test (ltb q r.n)
      (λ t.
      rw t
      (image_after w (after r.targets (single q) v) (after_lt v q (ltb-true q r.n t)) ∙ sym (after-append r.targets (single q) v w)))
      (λ t. rw t (union-empty (λ i. get_or (mapping_after r w) i 0) 8))))

  -- a symbol as a text: in the rule no target is cut
  target_whole : (q s : ℕ) → q < 8 → target_mask r.targets q s % 2 ^ 8 ≡ target_mask r.targets q s
  target_whole q s b = mod-eq_of_lt (lt_of_lt_of_le (small.good.targets_below q s (omega arith)) (pow_mono small.states))

  pub letter_after : (s : ℕ) → letter r.targets s ≡ mapping_after r (s ∷ [])
  letter_after s =
      same_list 8 (λ q. target_mask r.targets q s % 2 ^ 8) (λ q. cond (ltb q r.n) (successor r.targets (single q) s) 0)
      (λ q b.
      target_whole q s b
      ∙ by_test (ltb q r.n)
      (λ t. rw t (sym (successor_single q s (omega arith))))
      (λ t. rw t (small.good.zero_outside q s (omega arith) (inl (ltb-false q r.n t)))))
    where
      successor_single : (q s : ℕ) → q < 32 → successor r.targets (single q) s ≡ target_mask r.targets q s
      successor_single q s b = union_of_single (λ p. target_mask r.targets p s) q 32 b

  pub of_one_more : (w : List ℕ) (s : ℕ) → mapping_after r (w ++ (s ∷ [])) ≡ compose (mapping_after r w) (letter r.targets s)
  of_one_more w s = of_both w (s ∷ []) ∙ sym (ap (compose (mapping_after r w)) (letter_after s))

  pub says : (w : List ℕ) → Accepts (automaton_of r) w ↔ (shares (image (mapping_after r w) r.initials) r.finals ≡ true)
  says w = rw (image_after w r.initials small.good.initials_below) (accepts_law r small.good w)

  -- ---- texts one behind the other
  pub of_all : (w : List ℕ) (ws : List (List ℕ)) → fold_from compose (mapping_after r w) (map (mapping_after r) ws) ≡ mapping_after r (flatten (w ∷ ws))
  unfolding fold_from flatten
  of_all w [] = ap (mapping_after r) (sym (append-nil w))
  of_all w (v ∷ ws) = ap (compose (mapping_after r w)) (of_all v ws) ∙ sym (of_both w (flatten (v ∷ ws)))
