-- All that is promised of reducing a value: what is answered goes by the number, and where there is
-- none the facts of the reduced rule hold of it. Assumes nothing.
use mathlib.Core.Path.{◌≡◌, refl, sym, ap, ◌∙◌, subst}
use mathlib.Core.Logic.{◌↔◌, ◌⊎◌, inl, inr}
use mathlib.Core.Bool.{Bool, true, false, cond, not}
use mathlib.Core.List.{List, ◌++◌}
use mathlib.Core.Option.{Option, none, some}
use Prim.Native.Nat.{ℕ, ◌+◌, ◌-◌, ◌/◌, ◌≤◌, ◌<◌}
use native.Mathlib.Omega.{arith}
use lib.Dec.{ltb}
use lib.ListN.{length, replicate, length-replicate}
use borrow.Author.Tests.{ltb-true, ltb-false, le-ltb}
use Rattle.base.specs.Options.{is_none}
use Rattle.base.proofs.Tests.{by_test, zero_one}
use Rattle.base.proofs.Options.{is-none, none-some}
use Rattle.base.proofs.Lists.{length_list_from, is_list_from, zero_cells}
use Rattle.base.proofs.Totals.{total_rest}
use Rattle.masks.specs.Masks.{bit, ◌∈◌}
use Rattle.masks.proofs.Laws.{no_member, empty_mask}
use Rattle.masks.specs.Turns.{rank}
use Rattle.masks.proofs.Turns.{rank_most}
use Rattle.automaton.specs.declared.Rule.{Rule}
use Rattle.automaton.specs.Automaton.{Automaton, Arc, Accepts, Equivalent}
use Rattle.automaton.specs.Rules.{automaton_of, WellFormed}
use Rattle.automaton.specs.Successor.{Reached}
use Rattle.automaton.proofs.Values.{all_fields}
use Rattle.rulecheck.specs.Checking.{rule_number}
use Rattle.rulecheck.proofs.Laws.{passes}
use Rattle.ruleformat.specs.Reader.{no_rule}
use Rattle.ruleformat.specs.Claims.{AllZero}
use Rattle.subsets.specs.Sets.{too_many}
use Rattle.subsets.specs.Claims.{fits}
use Rattle.delegates.specs.Alike.{AcceptsFrom, Alike, Live, Merged}
use Rattle.delegates.proofs.Alike.{alike_self}
use Rattle.delegates.specs.Claims.{starts_in}
use Rattle.delegates.proofs.Claims as delegates
use Rattle.calls.specs.Calls.{install_number}
use Rattle.calls.proofs.Conditions.{install_number_lem, not_refused}
use Rattle.reducing.specs.Reduced.{delegated, kept_of, reached_of, chosen_of, renamed, cell_in, reduced_by, list_in, kept_in, reduced_of}
use Rattle.reducing.specs.Reducing.{reducing_by, reduce_of}
use Rattle.reducing.specs.Claims.{Nothing, empty_rule, Stands, Lean, Renumbered, ReduceLaw}
use Rattle.reducing.proofs.Ranks.{rank_mono, rank_less, rank_once, rank_onto, renamed_law}
use Rattle.reducing.proofs.Quotient.{Quotient, run_join, to_new, to_old, begins, live, alike_old}
use Rattle.reducing.proofs.Quotient as quotients
use Rattle.reducing.proofs.Facts.{Choice, own, few_kept, no_bit, well_formed, quotient, reached_in}
use Rattle.reducing.proofs.Chosen.{For, same_stands, reached_state, choice}
use Rattle.reducing.proofs.Same.{lean_same}
use Rattle.reducing.proofs.Only.{one_value}

-- ---- the number
module _ (r : Rule) where
  pub taken : install_number r ≡ none → WellFormed r × fits r
  taken e = let x = not_refused r e in ((passes r).0 x.0, x.1)

  pub only_nine : rule_number r ≡ none → (x : ℕ) → install_number r ≡ some x → x ≡ 9
  only_nine e x z = of (too_many r.targets r.n r.k) (sym (install_number_lem r ∙ rw e) ∙ z)
    where
      of : (t : Bool) → cond t (some 9) none ≡ some x → x ≡ 9
      of true y = cc
      of false y = zero_one cc

  -- a rule that passes the check installs where its sets are not too many
  pub few_install : rule_number r ≡ none → is_none (install_number r) ≡ not (too_many r.targets r.n r.k)
  few_install e =
      let is : install_number r ≡ cond (too_many r.targets r.n r.k) (some 9) none = install_number_lem r ∙ rw e in
      ap (λ (o : Option ℕ). is_none o) is ∙ of (too_many r.targets r.n r.k)
    where
      of : (t : Bool) → is_none {A = ℕ} (cond t (some 9) none) ≡ not t
      of true = refl
      of false = refl

no_rule_refused : install_number no_rule ≡ some 3
unfolding install_number
no_rule_refused = refl

number_of : (o : Option ℕ) (r : Rule) → (reducing_by o r).number ≡ o
number_of none r = refl
number_of (some x) r = refl

zeros_of : (o : Option ℕ) (r : Rule) (x : ℕ) → o ≡ some x → AllZero (reducing_by o r).rule × ((reducing_by o r).installs ≡ false)
zeros_of o r x e =
    subst (λ (p : Option ℕ). AllZero (reducing_by p r).rule × ((reducing_by p r).installs ≡ false)) (sym e) ((refl, refl, refl, refl, refl), refl)

installs_of : (o : Option ℕ) (r : Rule) → ((reducing_by o r).installs ≡ true) ↔ (install_number (reducing_by o r).rule ≡ none)
installs_of none r = is-none (install_number r)
installs_of (some x) r = (λ e. zero_one cc, λ e. none-some e no_rule_refused)

rule_of_lem : (o : Option ℕ) (r : Rule) → o ≡ none → (reducing_by o r).rule ≡ r
rule_of_lem o r e = ap (λ (p : Option ℕ). (reducing_by p r).rule) e

cells_of : (o : Option ℕ) (r : Rule) → length r.targets ≡ 512 → length (reducing_by o r).rule.targets ≡ 512
cells_of none r h = h
cells_of (some x) r h = length-replicate {A = ℕ} 512 0

-- ---- the reduced rule
module _ (r : Rule) (good : WellFormed r) (delegated-to : List ℕ) (starts : ℕ) (merged : Merged (automaton_of r) delegated-to starts) where
  abbrev a : Automaton
  a = automaton_of r

  abbrev reached : ℕ
  reached = reached_of r.targets r.initials

  abbrev In : ℕ → Type 0
  In q = q ∈ reached

  abbrev D : ℕ → Option ℕ → Type 0
  D = For r good

  abbrev d : List ℕ
  d = chosen_of delegated-to reached

  C : Choice a In D d
  C = choice r good delegated-to starts merged

  abbrev kept : ℕ
  kept = kept_of r.targets d r.initials

  abbrev new : Rule
  new = reduced_by r d kept

  abbrev b : Automaton
  b = automaton_of new

  Q : Quotient a b D (λ x. x ∈ kept) (rank kept)
  Q = quotient r good d In D C

  few : (x : ℕ) → x ∈ kept → x < 32
  few = few_kept r good d In D C

  good_new : WellFormed new
  good_new = well_formed r good d In D C

  same_new : length r.targets ≡ 512 → Lean r → new ≡ r
  same_new long h =
      lean_same r good d In D C h long
      (λ q l. record {
        live = h.live q l;
        reachable = h.reached q l;
        alike = alike_self a q;
        lowest = λ p u z. let e = h.distinct q p l (reached_state r good p u) z in omega arith;
      })

  language : Equivalent b a
  language w = quotients.language a b D (λ x. x ∈ kept) (rank kept) Q w

  -- ---- how many states stay
  fewer : new.n ≤ r.n
  fewer =
      let e : 32 - r.n + r.n ≡ 32 = omega (arith, good.states) in
      let same : rank kept 32 ≡ rank kept r.n = ap (rank kept) (sym e) ∙ total_rest (bit kept) (32 - r.n) r.n (no_bit r good d In D C) in
      omega (arith, rank_most kept r.n, good.states)

  some_stay : (w : List ℕ) → Accepts a w → 0 < rank kept 32
  some_stay w t =
      let i = begins a b D (λ x. x ∈ kept) (rank kept) Q w t in
      let l = rank_less kept i.0 32 i.1 (few i.0 i.1) in
      omega arith

  -- ---- some state stays: the old number of each
  module _ (some_state : 0 < rank kept 32) where
    pick : (p : ℕ) → (x : ℕ) × (p < new.n → (x ∈ kept) × (rank kept x ≡ p))
    pick p =
        by_test (ltb p (rank kept 32))
        (λ t. let u = rank_onto kept 32 p (ltb-true p (rank kept 32) t) in (u.0, λ l. (u.2, u.3)))
        (λ t. (0, λ l. absurd (omega (arith, l, ltb-false p (rank kept 32) t, some_state))))

    old : ℕ → ℕ
    old p = (pick p).0

    stays : (p : ℕ) → p < new.n → old p ∈ kept
    unfolding old
    stays p l = ((pick p).1 l).0

    is : (p : ℕ) → p < new.n → rank kept (old p) ≡ p
    unfolding old
    is p l = ((pick p).1 l).1

    old_of : (p x : ℕ) → p < new.n → x ∈ kept → p ≡ rank kept x → x ≡ old p
    old_of p x l e z = rank_once kept x (old p) e (stays p l) (sym z ∙ sym (is p l))

    pub lean : Lean new
    lean = record {
      reached = λ p l.
          let u = reached_in r good d In D C (old p) (stays p l) in
          (u.text, subst (λ (x : ℕ). Reached b new.initials u.text x) (is p l) u.reached);
      live = λ p l. subst (Live b) (is p l) (live a b D (λ x. x ∈ kept) (rank kept) Q (old p) (stays p l) (own r good d In D C (old p) (stays p l)).live);
      distinct = λ p q l m h.
          let x : Alike b (rank kept (old p)) (rank kept (old q)) =
          subst (λ (y : ℕ). Alike b y (rank kept (old q))) (sym (is p l)) (subst (λ (y : ℕ). Alike b p y) (sym (is q m)) h) in
          let e =
          same_stands r good (old p) (old q) (own r good d In D C (old p) (stays p l)) (own r good d In D C (old q) (stays q m))
          (alike_old a b D (λ x. x ∈ kept) (rank kept) Q (old p) (old q) (stays p l) (stays q m) x) in
          sym (is p l) ∙ ap (rank kept) e ∙ is q m;
    }

    pub renumbered : Renumbered r new
    renumbered = record {
      old = old;
      own = λ p l. own r good d In D C (old p) (stays p l);
      rises = λ p q h m.
          let l : p < new.n = omega arith in
          by_test (ltb (old p) (old q))
          (ltb-true (old p) (old q))
          (λ f.
          let g = rank_mono kept (old q) (old p) (ltb-false (old p) (old q) f) in
          absurd (omega (arith, g, is p l, is q m, h)));
      initial = λ p l. (
        (λ e.
            let u = Q.initial_from p e in
            (u.through, u.from, subst (λ (x : ℕ). Stands r u.through x) (old_of p u.to l u.kept u.is) u.chosen)),
        λ u.
            subst b.Initial (is p l) (Q.initial_to u.0 (old p) u.1 u.2).1,
      );
      final = λ p l. (
        (λ e. Q.final_from (old p) (stays p l) (subst b.Final (sym (is p l)) e)),
        λ e. subst b.Final (is p l) (Q.final_to (old p) (stays p l) e),
      );
      arc = λ p s q l m. (
        (λ j.
            let u = Q.arc_from (old p) s q (stays p l) (subst (λ (x : ℕ). Arc b x s q) (sym (is p l)) j) in
            (u.through, u.from, subst (λ (x : ℕ). Stands r u.through x) (old_of q u.to m u.kept u.is) u.chosen)),
        λ u.
            let j = (Q.arc_to_lem (old p) s u.0 (old q) (stays p l) u.1 u.2).1 in
            subst (λ (x : ℕ). Arc b x s q) (is p l) (subst (λ (x : ℕ). Arc b (rank kept (old p)) s x) (is q m) j),
      );
      first_there = λ q x e f.
          let k = (Q.initial_to q x e f).0 in
          let l : rank kept x < new.n = Q.states x k in
          (rank kept x, l, sym (old_of (rank kept x) x l k refl));
      next_there = λ p s t x l j f.
          let k = (Q.arc_to_lem (old p) s t x (stays p l) j f).0 in
          let h : rank kept x < new.n = Q.states x k in
          (rank kept x, h, sym (old_of (rank kept x) x h k refl));
      accepts = λ p w l. (
        (λ t. to_old a b D (λ x. x ∈ kept) (rank kept) Q w (old p) (stays p l) (subst (λ (x : ℕ). AcceptsFrom b x w) (sym (is p l)) t)),
        λ t. subst (λ (x : ℕ). AcceptsFrom b x w) (is p l) (to_new a b D (λ x. x ∈ kept) (rank kept) Q w (old p) (stays p l) t),
      );
    }

    -- and a text is accepted
    accepted : (w : List ℕ) × Accepts a w
    accepted =
        let l : 0 < new.n = omega arith in
        let u = lean.reached 0 l in
        let v = lean.live 0 l in
        let w : List ℕ = u.0 ++ v.text in (
          w,
          (language w).0 (record {
            from = u.1.from;
            to = v.accepts.to;
            begins = u.1.member;
            ends = v.accepts.ends;
            run = run_join b u.1.run v.accepts.run;
          }),
        )

  -- ---- none stays
  module _ (none_stays : rank kept 32 ≡ 0) where
    no_kept : (x : ℕ) → x ∈ kept → ⊥
    no_kept x e = let l = rank_less kept x 32 e (few x e) in omega arith

    no_renamed : (m : ℕ) → renamed kept m ≡ 0
    no_renamed m = empty_mask (renamed kept m) (λ p e. let u = (renamed_law kept m p few).0 e in no_kept u.0 u.1)

    no_cell : (c : ℕ) → cell_in r.targets d kept c ≡ 0
    no_cell c = rw (le-ltb (c / 16) (rank kept 32) (omega arith))

    pub emptied : new ≡ empty_rule r.k
    emptied =
        all_fields (omega arith) refl (no_renamed (delegated d r.initials)) (no_renamed r.finals)
        (sym (is_list_from (replicate 512 0) 512 (cell_in r.targets d kept) (length-replicate {A = ℕ} 512 0)
        (λ c h. zero_cells 512 c ∙ sym (no_cell c))))

-- ---- what is answered
module _ (r : Rule) where
  is_number : (reduce_of r).number ≡ install_number r
  is_number = number_of (install_number r) (reduced_of r)

  module _ (e : (reduce_of r).number ≡ none) where
    none_there : install_number r ≡ none
    none_there = sym is_number ∙ e

    good_rule : WellFormed r
    good_rule = (taken r none_there).0

    by_delegates : Merged (automaton_of r) (starts_in r).delegates (starts_in r).startcount
    by_delegates = (delegates.claims).merged r good_rule (taken r none_there).1

    abbrev chosen_list : List ℕ
    chosen_list = chosen_of (starts_in r).delegates (reached_of r.targets r.initials)

    abbrev made : Rule
    made = reduced_by r chosen_list (kept_of r.targets chosen_list r.initials)

    is_made : (reduce_of r).rule ≡ made
    unfolding list_in kept_in
    is_made = rule_of_lem (install_number r) (reduced_of r) none_there

    abbrev size : ℕ
    size = rank (kept_of r.targets chosen_list r.initials) 32

    pub good_made : WellFormed made
    good_made = good_new r good_rule (starts_in r).delegates (starts_in r).startcount by_delegates

    lean_made : 0 < size → Lean made
    lean_made l = lean r good_rule (starts_in r).delegates (starts_in r).startcount by_delegates l

    empty-made : size ≡ 0 → made ≡ empty_rule r.k
    empty-made z = emptied r good_rule (starts_in r).delegates (starts_in r).startcount by_delegates z

    some_left : (w : List ℕ) → Accepts (automaton_of r) w → 0 < size
    some_left w t = some_stay r good_rule (starts_in r).delegates (starts_in r).startcount by_delegates w t

    nothing_made : Nothing (automaton_of r) → made ≡ empty_rule r.k
    nothing_made never =
        by_test (ltb 0 size)
        (λ t.
        let u = accepted r good_rule (starts_in r).delegates (starts_in r).startcount by_delegates (ltb-true 0 size t) in
        absurd (never u.0 u.1))
        (λ t. let l = ltb-false 0 size t in empty-made (omega arith))

    -- which of the two it is
    pub some_or_nothing : ((w : List ℕ) × Accepts (automaton_of r) w) ⊎ Nothing (automaton_of r)
    some_or_nothing =
        by_test (ltb 0 size)
        (λ t. inl (accepted r good_rule (starts_in r).delegates (starts_in r).startcount by_delegates (ltb-true 0 size t)))
        (λ t. inr (λ w a. let l = ltb-false 0 size t in omega (arith, some_left w a)))

    same_made : length r.targets ≡ 512 → Lean r → made ≡ r
    same_made long h = same_new r good_rule (starts_in r).delegates (starts_in r).startcount by_delegates long h

    checked_made : rule_number (reduce_of r).rule ≡ none
    checked_made = ap rule_number is_made ∙ (passes made).1 good_made

  cells_all : length (reduce_of r).rule.targets ≡ 512
  cells_all =
      cells_of (install_number r) (reduced_of r)
      (length_list_from 0 512 (cell_in r.targets (list_in r) (kept_in r)))

-- no text is accepted without an initial state
empty_nothing : (k : ℕ) → Nothing (automaton_of (empty_rule k))
empty_nothing k w t = no_member t.from t.begins

once_more : (r : Rule) → (reduce_of r).number ≡ none → (reduce_of (reduce_of r).rule).number ≡ none
    → (reduce_of (reduce_of r).rule).rule ≡ (reduce_of r).rule
once_more r e f =
    by_test (ltb 0 (size r e))
    (λ t.
    let x : Lean (reduce_of r).rule = subst Lean (sym (is_made r e)) (lean_made r e (ltb-true 0 (size r e) t)) in
    is_made (reduce_of r).rule f ∙ same_made (reduce_of r).rule f (cells_all r) x)
    (λ t.
    let l = ltb-false 0 (size r e) t in
    let x : (reduce_of r).rule ≡ empty_rule r.k = is_made r e ∙ empty-made r e (omega arith) in
    let P : Rule → Type 0 = λ y. (reduce_of y).number ≡ none → (reduce_of y).rule ≡ y in
    subst P (sym x) (λ h. is_made (empty_rule r.k) h ∙ nothing_made (empty_rule r.k) h (empty_nothing r.k)) f)

pub reduce_law : (r : Rule) → ReduceLaw r
reduce_law r = record {
  number = is_number r;
  zeros = λ x e. zeros_of (install_number r) (reduced_of r) x (sym (is_number r) ∙ e);
  checked = λ e. checked_made r e;
  cells = cells_all r;
  installs_exactly = installs_of (install_number r) (reduced_of r);
  symbols = λ e. ap (λ (x : Rule). x.k) (is_made r e);
  fewer = λ e.
      subst (λ (x : Rule). x.n ≤ r.n) (sym (is_made r e))
      (fewer r (good_rule r e) (starts_in r).delegates (starts_in r).startcount (by_delegates r e));
  language = λ e.
      subst (λ (x : Rule). Equivalent (automaton_of x) (automaton_of r)) (sym (is_made r e))
      (language r (good_rule r e) (starts_in r).delegates (starts_in r).startcount (by_delegates r e));
  lean = λ e w t. subst Lean (sym (is_made r e)) (lean_made r e (some_left r e w t));
  renumbered = λ e w t.
      subst (Renumbered r) (sym (is_made r e))
      (renumbered r (good_rule r e) (starts_in r).delegates (starts_in r).startcount (by_delegates r e) (some_left r e w t));
  only = λ e w t n long good k h x.
      let l = some_left r e w t in
      one_value r n (made r e) good (good_made r e) k long (length_list_from 0 512 (cell_in r.targets (chosen_list r e) (kept_of r.targets (chosen_list r e) r.initials)))
      x
      (renumbered r (good_rule r e) (starts_in r).delegates (starts_in r).startcount (by_delegates r e) l)
      h
      (lean_made r e l).reached
      ∙ sym (is_made r e);
  nothing = λ e never. is_made r e ∙ nothing_made r e never;
  lean_stays = λ long h e. is_made r e ∙ same_made r e long h;
  again = once_more r;
  again_number = λ e x f.
      only_nine (reduce_of r).rule (checked_made r e) x (sym (is_number (reduce_of r).rule) ∙ f);
  again_exactly =
      let law = installs_of (install_number r) (reduced_of r) in
      let is = is_number (reduce_of r).rule in
      ((λ f. law.1 (sym is ∙ f)), λ t. is ∙ law.0 t);
}
