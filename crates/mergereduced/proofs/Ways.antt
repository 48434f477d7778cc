-- Each way out of the definitions that the functions are held to: the facts that lead there, in the
-- order in which the code finds them. Assumes nothing.
use Rattle.std.proofs.Common.{Result, Ok, Err}
use mathlib.Core.Path.{◌≡◌, refl, sym, ap, ap₂, ◌∙◌}
use mathlib.Core.Logic.{inl, inr, ⊎_elim}
use mathlib.Core.Bool.{Bool, true, false, cond, not, ◌&&◌}
use mathlib.Core.List.{List}
use mathlib.Core.Option.{Option, none, some}
use Prim.Native.Nat.{ℕ, zero, suc, ◌+◌, ◌-◌, ◌*◌, ◌/◌, ◌%◌, ◌^◌, ◌≤◌, ◌<◌, max}
use native.Mathlib.Nat.{zero-mul}
use native.Mathlib.Omega.{arith}
use lib.Bits.{bit_and, bit_or, or_zero_r, or_comm}
use lib.Dec.{eqb, ltb}
use lib.ListN.{get_or}
use lib.Pow.{pow-lt, pow_pos}
use borrow.Author.Tests.{lt-ltb, le-ltb, ltb-true, ltb-false, eq-eqb, ne_eqb, eqb-true, eqb-false}
use Rattle.base.specs.declared.Refusal.{Refusal}
use Rattle.base.specs.declared.Refusal.TheVariants.{OtherSymbols, TooManyMerged}
use Rattle.base.specs.Answers.{refusal_number}
use Rattle.base.specs.Lists.{list_from}
use Rattle.base.proofs.Lists.{cell_of_lem, same_list}
use Rattle.base.proofs.Tests.{by_test, same_truth, not_both, zero_one}
use Rattle.masks.specs.Masks.{bit, has, ◌∈◌, single, mask_of}
use Rattle.masks.proofs.Laws.{has_member, member_of, or_cases, or_left, or_right, and_members, members_below}
use Rattle.masks.specs.Turns.{rank}
use Rattle.masks.proofs.Turns.{bit_lt}
use Rattle.automaton.specs.declared.Rule.{Rule}
use Rattle.automaton.specs.Rules.{target_mask, WellFormed}
use Rattle.delegates.specs.mirror.Classes.{first_from}
use Rattle.rulecheck.specs.Checking.{rule_number}
use Rattle.rulecheck.proofs.Laws.{passes}
use Rattle.calls.specs.Calls.{install_number}
use Rattle.products.proofs.Numbers.{left_below, right_below}
use Rattle.merging.specs.declared.Way.{Way}
use Rattle.merging.specs.declared.Way.TheVariants.{Both, Either, Interleaving}
use Rattle.merging.specs.Merged.{states_of, pairs, beside, set_of, one_moves, targets_of}
use Rattle.merging.proofs.Sets.{pairs_law, set_law, set_below, wide}
use Rattle.merging.specs.Merging.{Merging, merge_outcome, merging_by}
use Rattle.merge.specs.mirror.Asked.{Masks}
use Rattle.merge.proofs.Numbers.{product_most}
use Rattle.reducing.specs.declared.Reduced.{Reduced}
use Rattle.reducing.specs.Reduced.{reduced_of}
use Rattle.reducing.specs.Reducing.{Reducing, reduce_outcome, reducing_by, reduce_of}
use Rattle.reducing.proofs.Ranks.{rank_mono, rank_onto}
use Rattle.mergereduce.specs.MergeReduced.{reduced_by, reduced_or_own, pair_targets, initial_pairs, final_pairs, kept_pairs, trimmed_pairs, pair_count, merge_reduced_number, merge_reduced_rule, merge_reduced_of}
use Rattle.mergereduce.proofs.Law.{instead, number_law}
use Rattle.mergereduce.specs.Trimmed.{nth, renamed_to, trimmed_targets, trimmed_by}
use Rattle.mergereduce.proofs.Trim.{first_passes}
use Rattle.mergereduce.proofs.Kept.{and_both}
use Rattle.mergereduced.specs.mirror.Asked.{set_in, symbols_at, link_by, Sized, Tabled, ArcAsked, link_in, fresh_in, Few, Listed, cell_in, places_in, paired_of}

-- ---- bits and tests
pub bit_yes : (m q : ℕ) → has m q ≡ true → 1 ≡ bit m q
bit_yes m q e = sym (member_of m q e)

pub bit_no : (m q : ℕ) → has m q ≡ false → 0 ≡ bit m q
bit_no m q e = omega (arith, bit_lt m q, eqb-false (bit m q) 1 e)

pub not_in : (m q : ℕ) → (q ∈ m → ⊥) → has m q ≡ false
not_in m q out = of (has m q) refl
  where
    of : (b : Bool) → has m q ≡ b → b ≡ false
    of true e = absurd (out (member_of m q e))
    of false e = refl

pub states_most : (way : Way) (n1 n2 : ℕ) → Sized n1 n2 → states_of way n1 n2 ≤ 1024
states_most Both n1 n2 z = product_most n1 n2 z.first.1 z.second.1
states_most Either n1 n2 z = omega (arith, z.first, z.second)
states_most Interleaving n1 n2 z = product_most n1 n2 z.first.1 z.second.1

pub both_small : (n1 n2 : ℕ) → Sized n1 n2 → (n1 ≤ 32) × (n2 ≤ 32)
both_small n1 n2 z = (z.first.1, z.second.1)

-- ---- `in_pairs`, `in_beside`, `in_set`
module _ (n1 n2 p : ℕ) (z : Sized n1 n2) (l : p < n1 * n2) where
  pub left_low : p / n2 < 32
  left_low = omega (arith, left_below n1 n2 p l, z.first)

  pub right_low : p % n2 < 32
  right_low = omega (arith, right_below n1 n2 p l, z.second)

module _ (a b n1 n2 : ℕ) (m : Masks a b n1 n2) (z : Sized n1 n2) (p : ℕ) where
  pairs_has : has (pairs a b n2) p ≡ (has a (p / n2) && has b (p % n2))
  pairs_has =
      let law = pairs_law a b n2 p (wide n1 a z.first.1 m.first) m.second in
      same_truth (has (pairs a b n2) p) (has a (p / n2) && has b (p % n2)) (
        (λ e.
            let x = law.0 (member_of (pairs a b n2) p e) in
            rw (has_member a (p / n2) x.0, has_member b (p % n2) x.1)),
        λ e.
            let y = and_both (has a (p / n2)) (has b (p % n2)) e in
            has_member (pairs a b n2) p (law.1 (member_of a (p / n2) y.0, member_of b (p % n2) y.1)),
      )

  pub pairs_yes : has a (p / n2) ≡ true → (r : Bool) → r ≡ has b (p % n2) → r ≡ has (pairs a b n2) p
  pairs_yes e r is = is ∙ sym (pairs_has ∙ ap (λ (x : Bool). x && has b (p % n2)) e)

  pub pairs_no : has a (p / n2) ≡ false → false ≡ has (pairs a b n2) p
  pairs_no e = sym (pairs_has ∙ ap (λ (x : Bool). x && has b (p % n2)) e)

  pub beside_low : p < n1 → (r : Bool) → r ≡ has a p → r ≡ has (beside a b n1) p
  beside_low l r is =
      let law = set_law n1 n2 a b z.first.1 m.first m.second Either p in
      is ∙ same_truth (has a p) (has (beside a b n1) p) (
        (λ e. has_member (beside a b n1) p (law.1 (inl (l, member_of a p e)))),
        λ e. ⊎_elim (λ i. has_member a p i.1) (λ i. absurd (omega (arith, i.0))) (law.0 (member_of (beside a b n1) p e)),
      )

  pub beside_high : n1 ≤ p → (r : Bool) → r ≡ has b (p - n1) → r ≡ has (beside a b n1) p
  beside_high l r is =
      let law = set_law n1 n2 a b z.first.1 m.first m.second Either p in
      is ∙ same_truth (has b (p - n1)) (has (beside a b n1) p) (
        (λ e. has_member (beside a b n1) p (law.1 (inr (l, member_of b (p - n1) e)))),
        λ e. ⊎_elim (λ i. absurd (omega (arith, i.0))) (λ i. has_member b (p - n1) i.1) (law.0 (member_of (beside a b n1) p e)),
      )

module _ (way : Way) (n1 n2 q : ℕ) (below : q < states_of way n1 n2) where
  pub in_both : way ≡ Both → q < n1 * n2
  in_both e = rw e at below

  pub in_either : way ≡ Either → q < n1 + n2
  in_either e = rw e at below

  pub in_interleaving : way ≡ Interleaving → q < n1 * n2
  in_interleaving e = rw e at below

module _ (way : Way) (n1 n2 a b q : ℕ) (r : Bool) where
  pub set_both : way ≡ Both → r ≡ has (pairs a b n2) q → r ≡ has (set_of way n1 n2 a b) q
  set_both e is = rw e is

  pub set_either : way ≡ Either → r ≡ has (beside a b n1) q → r ≡ has (set_of way n1 n2 a b) q
  set_either e is = rw e is

  pub set_interleaving : way ≡ Interleaving → r ≡ has (pairs a b n2) q → r ≡ has (set_of way n1 n2 a b) q
  set_interleaving e is = rw e is

-- ---- `both_move`, `own_moves`, `one_moves`, `arc`
module _ (n1 n2 : ℕ) (ts us : List ℕ) (t : Tabled n1 n2 ts us) (q s : ℕ) where
  pub read_both : (a b : ℕ) → q < n1 * n2 → a ≡ target_mask ts (q / n2) s → b ≡ target_mask us (q % n2) s → Masks a b n1 n2
  read_both a b l ea eb = record {
    first = rw ea (t.tables.first (q / n2) s (left_low n1 n2 q t.sizes l));
    second = rw eb (t.tables.second (q % n2) s (right_low n1 n2 q t.sizes l));
  }

  pub read_first : (a : ℕ) → q < n1 → a ≡ target_mask ts q s → Masks a 0 n1 n2
  read_first a l ea = record {
    first = rw ea (t.tables.first q s (omega (arith, t.sizes.first)));
    second = pow_pos n2;
  }

  pub read_second : (b : ℕ) → q < n1 + n2 → n1 ≤ q → b ≡ target_mask us (q - n1) s → Masks 0 b n1 n2
  read_second b l h eb = record {
    first = pow_pos n1;
    second = rw eb (t.tables.second (q - n1) s (omega (arith, t.sizes.second)));
  }

  module _ (p : ℕ) (r : Bool) where
    pub own_first : (a : ℕ) → q < n1 → a ≡ target_mask ts q s → r ≡ has (beside a 0 n1) p
        → r ≡ has (targets_of Either n1 n2 ts us q s) p
    own_first a l ea is = is ∙ ap (λ (x : ℕ). has x p) (ap (bit_or a) (zero-mul (2 ^ n1)) ∙ or_zero_r a ∙ ea ∙ sym (ap (λ (x : Bool). cond x (target_mask ts q s) (target_mask us (q - n1) s * 2 ^ n1)) (lt-ltb q n1 l)))

    pub own_second : (b : ℕ) → n1 ≤ q → b ≡ target_mask us (q - n1) s → r ≡ has (beside 0 b n1) p
        → r ≡ has (targets_of Either n1 n2 ts us q s) p
    own_second b l eb is =
        is ∙ ap (λ (x : ℕ). has x p)
        (or_comm 0 (b * 2 ^ n1) ∙ or_zero_r (b * 2 ^ n1) ∙ ap (λ (x : ℕ). x * 2 ^ n1) eb
        ∙ sym (ap (λ (x : Bool). cond x (target_mask ts q s) (target_mask us (q - n1) s * 2 ^ n1)) (le-ltb q n1 l)))

module _ (n1 n2 a b x y u v p : ℕ) (eu : u ≡ single y) (ev : v ≡ single x) where
  pub moves_first : has (pairs a u n2) p ≡ true → true ≡ has (one_moves n2 x y a b) p
  moves_first e =
      let e' : p ∈ pairs a (single y) n2 = rw eu at (member_of (pairs a u n2) p e) in
      sym (has_member (one_moves n2 x y a b) p (or_left (pairs a (single y) n2) (pairs (single x) b n2) p e'))

  pub moves_second : has (pairs a u n2) p ≡ false → (r : Bool) → r ≡ has (pairs v b n2) p → r ≡ has (one_moves n2 x y a b) p
  moves_second e r is =
      let e' : has (pairs a (single y) n2) p ≡ false = rw eu at e in
      is ∙ ap (λ (z : ℕ). has (pairs z b n2) p) ev
      ∙ same_truth (has (pairs (single x) b n2) p) (has (one_moves n2 x y a b) p) (
        (λ t. has_member (one_moves n2 x y a b) p (or_right (pairs a (single y) n2) (pairs (single x) b n2) p (member_of (pairs (single x) b n2) p t))),
        λ t.
            ⊎_elim
            (λ i. not_both (has_member (pairs a (single y) n2) p i) e')
            (λ i. has_member (pairs (single x) b n2) p i)
            (or_cases (pairs a (single y) n2) (pairs (single x) b n2) p (member_of (one_moves n2 x y a b) p t)),
      )

module _ (n1 n2 : ℕ) (ts us : List ℕ) (t : Tabled n1 n2 ts us) (q s : ℕ) (l : q < n1 * n2) where
  pub alone_first : (a u : ℕ) → a ≡ target_mask ts (q / n2) s → u ≡ single (q % n2) → Masks a u n1 n2
  alone_first a u ea eu = record {
    first = rw ea (t.tables.first (q / n2) s (left_low n1 n2 q t.sizes l));
    second = rw eu (pow-lt (right_below n1 n2 q l));
  }

  pub alone_second : (b v : ℕ) → b ≡ target_mask us (q % n2) s → v ≡ single (q / n2) → Masks v b n1 n2
  alone_second b v eb ev = record {
    first = rw ev (pow-lt (left_below n1 n2 q l));
    second = rw eb (t.tables.second (q % n2) s (right_low n1 n2 q t.sizes l));
  }

module _ (n1 n2 : ℕ) (ts us : List ℕ) (q s p a b u v : ℕ) (ea : a ≡ target_mask ts (q / n2) s) (eb : b ≡ target_mask us (q % n2) s)
    (eu : u ≡ single (q % n2)) (ev : v ≡ single (q / n2)) where
  pub alone_there : (t : Bool) → t ≡ has (pairs a u n2) p → t ≡ true → true ≡ has (targets_of Interleaving n1 n2 ts us q s) p
  alone_there t is e =
      moves_first n1 n2 a b (q / n2) (q % n2) u v p eu ev (sym is ∙ e)
      ∙ ap₂ (λ (x y : ℕ). has (one_moves n2 (q / n2) (q % n2) x y) p) ea eb

  pub alone_other : (t : Bool) → t ≡ has (pairs a u n2) p → t ≡ false → (r : Bool) → r ≡ has (pairs v b n2) p
      → r ≡ has (targets_of Interleaving n1 n2 ts us q s) p
  alone_other t is e r told =
      moves_second n1 n2 a b (q / n2) (q % n2) u v p eu ev (sym is ∙ e) r told
      ∙ ap₂ (λ (x y : ℕ). has (one_moves n2 (q / n2) (q % n2) x y) p) ea eb

module _ (way : Way) (n1 n2 : ℕ) (ts us : List ℕ) (q s p : ℕ) where
  module _ (asked : ArcAsked way n1 n2 ts us q s p) where
    pub asked_both : way ≡ Both → ArcAsked Both n1 n2 ts us q s p
    asked_both e = rw e at asked

    pub asked_either : way ≡ Either → ArcAsked Either n1 n2 ts us q s p
    asked_either e = rw e at asked

    pub asked_interleaving : way ≡ Interleaving → ArcAsked Interleaving n1 n2 ts us q s p
    asked_interleaving e = rw e at asked

  module _ (r : Bool) where
    pub arc_by_both : way ≡ Both → r ≡ has (targets_of Both n1 n2 ts us q s) p → r ≡ has (targets_of way n1 n2 ts us q s) p
    arc_by_both e is = rw e is

    pub arc_by_either : way ≡ Either → r ≡ has (targets_of Either n1 n2 ts us q s) p → r ≡ has (targets_of way n1 n2 ts us q s) p
    arc_by_either e is = rw e is

    pub arc_by_interleaving : way ≡ Interleaving → r ≡ has (targets_of Interleaving n1 n2 ts us q s) p → r ≡ has (targets_of way n1 n2 ts us q s) p
    arc_by_interleaving e is = rw e is

-- ---- `reduced_or_own`
module _ (r : Rule) (x : Result Reduced Refusal) (said : reduce_outcome x ≡ reduce_of r) where
  said_as : {y : Result Reduced Refusal} → x ≡ y → reduce_outcome y ≡ reduce_of r
  said_as e = sym (ap reduce_outcome e) ∙ said

  pub own_taken : (y : Reduced) → x ≡ Ok y → y.rule ≡ reduced_or_own r
  unfolding reduced_or_own
  own_taken y e = of (install_number r) (ap (λ (z : Reducing). z.number) (said_as e)) (ap (λ (z : Reducing). z.rule) (said_as e))
    where
      of : (o : Option ℕ) → none ≡ (reducing_by o (reduced_of r)).number → y.rule ≡ (reducing_by o (reduced_of r)).rule
          → y.rule ≡ reduced_by o (reduced_of r) r
      of none n is = is
      of (some z) n is = zero_one cc

  pub own_left : (y : Refusal) → x ≡ Err y → r ≡ reduced_or_own r
  unfolding reduced_or_own
  own_left y e = of (install_number r) (ap (λ (z : Reducing). z.number) (said_as e))
    where
      of : (o : Option ℕ) → some (refusal_number y) ≡ (reducing_by o (reduced_of r)).number → r ≡ reduced_by o (reduced_of r) r
      of none n = zero_one cc
      of (some z) n = refl

-- ---- `own_link`, `one_link`, `link`, `linked`
module _ (n1 n2 : ℕ) (m1 m2 : List ℕ) (q p : ℕ) (r : Bool) where
  pub own_1 : q < n1 → p < n1 → (a : ℕ) → a ≡ symbols_at m1 q p → r ≡ not (eqb a 0) → r ≡ link_in Either n1 n2 m1 m2 q p
  own_1 lq lp a ea is = is ∙ rw (lt-ltb q n1 lq, lt-ltb p n1 lp, ea)

  pub own_2 : n1 ≤ q → n1 ≤ p → (b : ℕ) → b ≡ symbols_at m2 (q - n1) (p - n1) → r ≡ not (eqb b 0) → r ≡ link_in Either n1 n2 m1 m2 q p
  own_2 lq lp b eb is = is ∙ rw (le-ltb q n1 lq, le-ltb p n1 lp, eb)

module _ (n1 n2 : ℕ) (m1 m2 : List ℕ) (q p : ℕ) where
  pub own_out : q < n1 → n1 ≤ p → false ≡ link_in Either n1 n2 m1 m2 q p
  own_out lq lp = rw (lt-ltb q n1 lq, le-ltb p n1 lp)

  pub own_in : n1 ≤ q → p < n1 → false ≡ link_in Either n1 n2 m1 m2 q p
  own_in lq lp = rw (le-ltb q n1 lq, lt-ltb p n1 lp)

  pub one_first : (a : ℕ) → q % n2 ≡ p % n2 → a ≡ symbols_at m1 (q / n2) (p / n2) → (a ≡ 0 → ⊥) → true ≡ link_in Interleaving n1 n2 m1 m2 q p
  one_first a e ea there = rw (eq-eqb (q % n2) (p % n2) e, ← ea, ne_eqb a 0 there)

  -- the first member does not move alone
  abbrev pub Rests : Type 0
  Rests = (eqb (q % n2) (p % n2) && not (eqb (symbols_at m1 (q / n2) (p / n2)) 0)) ≡ false

  pub rests_apart : (q % n2 ≡ p % n2 → ⊥) → Rests
  rests_apart d = rw (ne_eqb (q % n2) (p % n2) d)

  pub rests_none : (a : ℕ) → q % n2 ≡ p % n2 → a ≡ symbols_at m1 (q / n2) (p / n2) → a ≡ 0 → Rests
  rests_none a e ea is = rw (eq-eqb (q % n2) (p % n2) e, ← ea, eq-eqb a 0 is)

  pub one_second : Rests → q / n2 ≡ p / n2 → (b : ℕ) (r : Bool) → b ≡ symbols_at m2 (q % n2) (p % n2) → r ≡ not (eqb b 0) → r ≡ link_in Interleaving n1 n2 m1 m2 q p
  one_second rests e b r eb is = is ∙ rw (rests, eq-eqb (q / n2) (p / n2) e, eb)

  pub one_none : Rests → (q / n2 ≡ p / n2 → ⊥) → false ≡ link_in Interleaving n1 n2 m1 m2 q p
  one_none rests d = rw (rests, ne_eqb (q / n2) (p / n2) d)

module _ (way : Way) (n1 n2 : ℕ) (m1 m2 : List ℕ) (q p : ℕ) (r : Bool) where
  pub link_both : way ≡ Both → r ≡ link_in Both n1 n2 m1 m2 q p → r ≡ link_in way n1 n2 m1 m2 q p
  link_both e is = rw e is

  pub link_either : way ≡ Either → r ≡ link_in Either n1 n2 m1 m2 q p → r ≡ link_in way n1 n2 m1 m2 q p
  link_either e is = rw e is

  pub link_interleaving : way ≡ Interleaving → r ≡ link_in Interleaving n1 n2 m1 m2 q p → r ≡ link_in way n1 n2 m1 m2 q p
  link_interleaving e is = rw e is

module _ (link : ℕ → ℕ → Bool) (forth : Bool) (q p : ℕ) (r : Bool) where
  pub link_forth : forth ≡ true → r ≡ link q p → r ≡ link_by forth link q p
  link_forth f is = is ∙ sym (ap (λ (y : Bool). link_by y link q p) f)

  pub link_back : forth ≡ false → r ≡ link p q → r ≡ link_by forth link q p
  link_back f is = is ∙ sym (ap (λ (y : Bool). link_by y link q p) f)

-- ---- `start_cell`, `both_cell`
module _ (way : Way) (n1 n2 a b : ℕ) (m : Masks a b n1 n2) (z : Sized n1 n2) where
  pub set_small : (q : ℕ) → q ∈ set_of way n1 n2 a b → q < states_of way n1 n2
  set_small q e =
      members_below (states_of way n1 n2) (set_of way n1 n2 a b) q (set_below n1 n2 a b z.first.1 m.first m.second way) e

  pub start-past : (q : ℕ) → states_of way n1 n2 ≤ q → 0 ≡ bit (set_of way n1 n2 a b) q
  start-past q h = bit_no (set_of way n1 n2 a b) q (not_in (set_of way n1 n2 a b) q (λ e. let l = set_small q e in absurd (omega arith)))

module _ (x y q : ℕ) where
  pub cell_both : has x q ≡ true → has y q ≡ true → 1 ≡ bit (bit_and x y) q
  cell_both e f = sym ((and_members x y q).1 (member_of x q e, member_of y q f))

  pub cell_first : has x q ≡ false → 0 ≡ bit (bit_and x y) q
  cell_first e = bit_no (bit_and x y) q (not_in (bit_and x y) q (λ i. not_both {A = ⊥} (has_member x q ((and_members x y q).0 i).0) e))

  pub cell_second : has y q ≡ false → 0 ≡ bit (bit_and x y) q
  cell_second e = bit_no (bit_and x y) q (not_in (bit_and x y) q (λ i. not_both {A = ⊥} (has_member y q ((and_members x y q).0 i).1) e))

-- ---- `fresh`
module _ (m done q : ℕ) where
  pub fresh_here : has m q ≡ true → has done q ≡ false → fresh_in m done q ≡ true
  fresh_here e f = ap₂ (λ (x y : Bool). x && not y) e f

  pub fresh_out : has m q ≡ false → fresh_in m done q ≡ false
  fresh_out e = ap (λ (x : Bool). x && not (has done q)) e

  pub fresh_done : has done q ≡ true → fresh_in m done q ≡ false
  fresh_done f = of (has m q) (has done q) f
    where
      of : (x y : Bool) → y ≡ true → (x && not y) ≡ false
      of true y e = ap not e
      of false y e = refl

-- ---- `nth`
module _ (m q p : ℕ) where
  pub nth_there : (b : ℕ) → b ≡ rank m q → has m q ≡ true → b ≡ p → (has m q && eqb (rank m q) p) ≡ true
  nth_there b is e same = ap₂ (λ (x y : Bool). x && y) e (eq-eqb (rank m q) p (sym is ∙ same))

  pub nth_other : (b : ℕ) → b ≡ rank m q → (b ≡ p → ⊥) → (has m q && eqb (rank m q) p) ≡ false
  nth_other b is apart = of (has m q)
    where
      of : (t : Bool) → (t && eqb (rank m q) p) ≡ false
      of true = ne_eqb (rank m q) p (λ e. apart (is ∙ e))
      of false = refl

  pub nth_out : has m q ≡ false → (has m q && eqb (rank m q) p) ≡ false
  nth_out e = ap (λ (x : Bool). x && eqb (rank m q) p) e

pub nth_below : (n m p : ℕ) → p < rank m n → nth n m p < n
unfolding nth
nth_below n m p l =
    let x = rank_onto m n p l in
    let t : ℕ → Bool = λ q. has m q && eqb (rank m q) p in
    let q = first_from t 0 n in
    let passes = first_passes t 0 n x.0 (omega arith) (omega (arith, x.1)) (rw (has_member m x.0 x.2, eq-eqb (rank m x.0) p x.3)) in
    let is : rank m q ≡ p = eqb-true (rank m q) p (and_both (has m q) (eqb (rank m q) p) passes).1 in
    by_test (ltb q n)
    (λ e. ltb-true q n e)
    (λ e. absurd (omega (arith, rank_mono m n q (ltb-false q n e), is, l)))

-- ---- `cell_of`
module _ (ts : ℕ → ℕ → ℕ) (list : List ℕ) (c cell : ℕ) where
  pub cell_state : cell / 16 < c → (r : ℕ) → r ≡ places_in list c (ts (get_or list (cell / 16) 0) (cell % 16)) → r ≡ cell_in ts list c cell
  cell_state l r is =
      is ∙ sym (ap (λ (t : Bool). cond t (places_in list c (ts (get_or list (cell / 16) 0) (cell % 16))) 0) (lt-ltb (cell / 16) c l))

  pub cell_none : c ≤ cell / 16 → 0 ≡ cell_in ts list c cell
  cell_none l = sym (ap (λ (t : Bool). cond t (places_in list c (ts (get_or list (cell / 16) 0) (cell % 16))) 0) (le-ltb (cell / 16) c l))

-- ---- `kept_pairs`
module _ (one two : Rule) (good1 : WellFormed one) (good2 : WellFormed two) where
  pub sized : Sized one.n two.n
  sized = record { first = good1.states; second = good2.states }

  pub tabled : Tabled one.n two.n one.targets two.targets
  tabled = record { sizes = sized; tables = record { first = good1.targets_below; second = good2.targets_below } }

  module _ (way : Way) (x : List ℕ) where
    pub initial_small : set_in x ≡ set_of way one.n two.n one.initials two.initials → set_in x < 2 ^ states_of way one.n two.n
    initial_small e =
        rw e
        (set_below one.n two.n one.initials two.initials good1.states.1 good1.initials_below good2.initials_below way)

    pub final_small : set_in x ≡ set_of way one.n two.n one.finals two.finals → set_in x < 2 ^ states_of way one.n two.n
    final_small e =
        rw e
        (set_below one.n two.n one.finals two.finals good1.states.1 good1.finals_below good2.finals_below way)

-- ---- `trimmed`
-- two tests that agree below n pass the same numbers
mask_same : (f g : ℕ → Bool) (n : ℕ) → ((p : ℕ) → p < n → f p ≡ g p) → mask_of f n ≡ mask_of g n
unfolding mask_of
mask_same f g zero same = refl
mask_same f g (suc n) same = rw (mask_same f g n (λ p l. same p (omega arith)), same n (omega arith))

module _ (way : Way) (one two : Rule) (m n c : ℕ) (few : Few way one.n two.n m n c) (list : List ℕ)
    (is : list ≡ list_from 0 32 (nth n m)) where
  place : (p : ℕ) → p < c → get_or list p 0 ≡ nth n m p
  place p l = ap (λ (x : List ℕ). get_or x p 0) is ∙ cell_of_lem 32 (nth n m) p 0 (omega (arith, few.fits))

  pub listed_there : Listed way one.n two.n list c
  listed_there = record {
    fits = few.fits;
    states = λ p l. rw (place p l, ← few.size) (nth_below n m p (omega (arith, few.count)));
  }

  places_are : (x : ℕ) → places_in list c x ≡ renamed_to n m x
  places_are x =
      mask_same (λ p. has x (get_or list p 0)) (λ p. has x (nth n m p)) c (λ p l. ap (has x) (place p l))
      ∙ ap (mask_of (λ p. has x (nth n m p))) few.count

  counted : (cell : ℕ) → ltb (cell / 16) (rank m n) ≡ ltb (cell / 16) c
  counted cell = ap (ltb (cell / 16)) (sym few.count)

  cells_are : (ts : ℕ → ℕ → ℕ) (cell : ℕ) → cell_in ts list c cell
      ≡ cond (ltb (cell / 16) (rank m n)) (trimmed_targets n ts m (cell / 16) (cell % 16)) 0
  cells_are ts cell =
      by_test (ltb (cell / 16) c)
      (λ t.
      ap (λ (b : Bool). cond b (places_in list c (ts (get_or list (cell / 16) 0) (cell % 16))) 0) t
      ∙ (places_are (ts (get_or list (cell / 16) 0) (cell % 16))
      ∙ ap (λ (q : ℕ). renamed_to n m (ts q (cell % 16))) (place (cell / 16) (ltb-true (cell / 16) c t)))
      ∙ sym (ap (λ (b : Bool). cond b (trimmed_targets n ts m (cell / 16) (cell % 16)) 0) (counted cell ∙ t)))
      (λ t.
      ap (λ (b : Bool). cond b (places_in list c (ts (get_or list (cell / 16) 0) (cell % 16))) 0) t
      ∙ sym (ap (λ (b : Bool). cond b (trimmed_targets n ts m (cell / 16) (cell % 16)) 0) (counted cell ∙ t)))

  pub trimmed_made : (z i f : ℕ) (t : List ℕ)
      → z ≡ max 1 c → i ≡ places_in list c (initial_pairs way one two) → f ≡ places_in list c (final_pairs way one two)
      → t ≡ list_from 0 512 (cell_in (pair_targets way one two) list c)
      → ◌≡◌ {A = Rule} (record { n = z; k = one.k; initials = i; finals = f; targets = t })
      (trimmed_by n one.k (initial_pairs way one two) (final_pairs way one two) (pair_targets way one two) m)
  trimmed_made z i f t ez ei ef et =
      let ts : ℕ → ℕ → ℕ = pair_targets way one two in
      let et' : t ≡ list_from 0 512 (λ cell. cond (ltb (cell / 16) (rank m n)) (trimmed_targets n ts m (cell / 16) (cell % 16)) 0) =
      et ∙ same_list 512 (cell_in ts list c) (λ cell. cond (ltb (cell / 16) (rank m n)) (trimmed_targets n ts m (cell / 16) (cell % 16)) 0) (λ cell l. cells_are ts cell) in
      rw (ez, few.count, ei ∙ places_are (initial_pairs way one two), ef ∙ places_are (final_pairs way one two), et')

-- ---- `paired`
module _ (way : Way) (one two : Rule) (m n c : ℕ) (em : m ≡ kept_pairs way one two) (en : n ≡ states_of way one.n two.n) (ec : c ≡ rank m n) where
  count-is : c ≡ pair_count way one two
  count-is = ec ∙ ap₂ rank em en

  pub few_there : Sized one.n two.n → c ≤ 32 → Few way one.n two.n m n c
  few_there z l = record { size = en; most = omega (arith, en, states_most way one.n two.n z); count = ec; fits = l }

  pub paired_many : 32 < c → merge_outcome (Err TooManyMerged) ≡ paired_of way one two
  unfolding paired_of
  paired_many l =
      sym (ap (λ (t : Bool). merging_by (cond t (some 37) none) (reduced_or_own (trimmed_pairs way one two))) (lt-ltb 32 (pair_count way one two) (rw count-is at l)))

  pub paired_made : (made r : Rule) → c ≤ 32
      → made ≡ trimmed_by n one.k (initial_pairs way one two) (final_pairs way one two) (pair_targets way one two) m
      → r ≡ reduced_or_own made → merge_outcome (Ok r) ≡ paired_of way one two
  unfolding paired_of
  paired_made made r l is er =
      let same : made ≡ trimmed_pairs way one two =
      is ∙ ap₂ (λ (x y : ℕ). trimmed_by x one.k (initial_pairs way one two) (final_pairs way one two) (pair_targets way one two) y) en em in
      ap (λ (x : Rule). merging_by none x) (er ∙ ap reduced_or_own same)
      ∙ sym (ap (λ (t : Bool). merging_by (cond t (some 37) none) (reduced_or_own (trimmed_pairs way one two))) (le-ltb 32 (pair_count way one two) (rw count-is at l)))

-- ---- `merge_reduced`
pub reduced_good : (r a : Rule) → a ≡ reduced_or_own r → rule_number r ≡ none → WellFormed a
reduced_good r a is passed = rw is (instead r ((passes r).0 passed)).good

module _ (way : Way) (one two : Rule) where
  by_number : (o : Option ℕ) (out : Merging) → merge_reduced_number way one two ≡ o → out ≡ merging_by o (merge_reduced_rule way one two)
      → out ≡ merge_reduced_of way one two
  by_number o out e is = is ∙ sym (ap (λ (y : Option ℕ). merging_by y (merge_reduced_rule way one two)) e)

  by_refusal : (e : Refusal) → merge_reduced_number way one two ≡ some (refusal_number e) → merge_outcome (Err e) ≡ merge_reduced_of way one two
  by_refusal e is = by_number (some (refusal_number e)) (merge_outcome (Err e)) is refl

  pub reduced_first : (e : Refusal) → rule_number one ≡ some (refusal_number e) → merge_outcome (Err e) ≡ merge_reduced_of way one two
  reduced_first e is = by_refusal e (number_law way one two ∙ rw is)

  module _ (passed : rule_number one ≡ none) where
    pub reduced_second : (e : Refusal) → rule_number two ≡ some (refusal_number e) → merge_outcome (Err e) ≡ merge_reduced_of way one two
    reduced_second e is = by_refusal e (number_law way one two ∙ rw (passed, is))

    module _ (passed2 : rule_number two ≡ none) where
      pub reduced_36 : (one.k ≡ two.k → ⊥) → merge_outcome (Err OtherSymbols) ≡ merge_reduced_of way one two
      reduced_36 d = by_refusal OtherSymbols (number_law way one two ∙ rw (passed, passed2, ne_eqb one.k two.k d))

      pub reduced_made : one.k ≡ two.k → (a b : Rule) → a ≡ reduced_or_own one → b ≡ reduced_or_own two → (out : Merging) → out ≡ paired_of way a b
          → out ≡ merge_reduced_of way one two
      unfolding paired_of
      reduced_made same a b ea eb out is =
          let last : Option ℕ = cond (ltb 32 (pair_count way (reduced_or_own one) (reduced_or_own two))) (some 37) none in
          by_number last out (number_law way one two ∙ rw (passed, passed2, eq-eqb one.k two.k same))
          (is ∙ ap₂ (λ (u v : Rule). merging_by (cond (ltb 32 (pair_count way u v)) (some 37) none) (reduced_or_own (trimmed_pairs way u v))) ea eb)

pub paired_low : (way : Way) (n1 n2 n : ℕ) → Sized n1 n2 → n ≡ states_of way n1 n2 → n ≤ 1024
paired_low way n1 n2 n z e = omega (arith, states_most way n1 n2 z)
