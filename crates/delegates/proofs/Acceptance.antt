-- Acceptance over the table of a rule is acceptance in its automaton, so alike sets {p} and {q} are
-- alike states, a state is live exactly where a text tells its set from the empty set, and
-- `starts_of` has the delegates and the starts of the automaton. Assumes what crates/subsets claims
-- of the numbered sets, a well-formed rule and at most 512 sets.
--
-- A text leads from set number i to the number of the successor of set i by that text, or to 512
-- where it is empty; by induction over the text, one cell a symbol. The members of the successor of
-- {q} are the states that runs from q lead to. And {q}, reached by the empty text, has a number.
use mathlib.Core.Path.{◌≡◌, refl, sym, ap, ◌∙◌, subst}
use mathlib.Core.Logic.{◌↔◌}
use mathlib.Core.Bool.{Bool, true, false, cond, not, false≢true}
use mathlib.Core.List.{List, [], ◌∷◌}
use mathlib.Core.Option.{Option, none, some}
use Prim.Native.Nat.{ℕ, ◌+◌, ◌*◌, ◌/◌, ◌%◌, ◌≤◌, ◌<◌, min, zero-le}
use native.Mathlib.Omega.{arith}
use borrow.Author.Tests.{ltb-false, eqb-true, eqb-false}
use lib.Dec.{eqb}
use lib.ListN.{length, get_or, take}
use lib.Seq.{length-take-le}
use lib.Pow.{pow-lt, pow_pos}
use Rattle.base.proofs.Lists.{length_list_from, cell_of_lem}
use Rattle.base.proofs.Tests.{by_test, same_truth}
use Rattle.masks.specs.Masks.{single, shares}
use Rattle.masks.proofs.Laws.{single_law, shares_law}
use Rattle.automaton.specs.declared.Rule.{Rule}
use Rattle.automaton.specs.Automaton.{Run, Text}
use Rattle.automaton.specs.Rules.{automaton_of, WellFormed}
use Rattle.automaton.specs.Successor.{successor, after}
use Rattle.automaton.proofs.Laws.{after_law, after_empty}
use Rattle.subsets.specs.Sets.{too_many, next_set, set_cells, next_cells}
use Rattle.subsets.specs.Claims.{Claims as SubsetsClaims, sets, next, fits}
use Rattle.subsets.specs.mirror.Singles.{singleton_number, singles_of}
use Rattle.subsets.proofs.Singles.{single_named}
use Rattle.delegates.specs.Alike.{AcceptsFrom, Alike, Live, Lowest, Delegate, delegate_cell, Merged}
use Rattle.delegates.specs.mirror.Classes.{follow, single_at, accepted, AlikeSets, alike_to, live_of, lowest_of, delegate_of}
use Rattle.delegates.specs.Claims.{starts_in, live_in}
use Rattle.delegates.proofs.Tests.{Least, le_by}
use Rattle.delegates.proofs.Classes.{final_set, final_empty, follow_set, follow_empty, telling, near_alike}
use Rattle.delegates.proofs.Merged.{lowest, starts_meet}
use Rattle.delegates.proofs.Alike.{alike_back, run_text}

-- from the empty set nothing is accepted
accepted_empty : (sets next : List ℕ) (finals : ℕ) (w : List ℕ) → accepted sets next finals 512 w ≡ false
unfolding accepted
accepted_empty sets next finals [] = final_empty sets finals 512 (omega arith)
accepted_empty sets next finals (a ∷ w) = rw (follow_empty next 512 a (omega arith)) (accepted_empty sets next finals w)

module _ (given : SubsetsClaims) (r : Rule) (good : WellFormed r) (fit : fits r) where
  masks : List ℕ
  masks = set_cells r.targets r.n r.k

  cells : List ℕ
  cells = next_cells r.targets r.n r.k

  few : length (sets r) ≤ 512
  unfolding too_many
  few = ltb-false 512 (length (sets r)) fit

  -- ---- the arrays
  pub mask_at : (i : ℕ) → i < length (sets r) → get_or (set_cells r.targets r.n r.k) i 0 ≡ get_or (sets r) i 0
  mask_at i h = cell_of_lem 512 (λ j. get_or (sets r) j 0) i 0 (omega (arith, few))

  pub cell_at : (i s : ℕ) → i < 512 → s < 16 → get_or (next_cells r.targets r.n r.k) (i * 16 + s) 0 ≡ next r i s
  cell_at i s h l =
      let d : (i * 16 + s) / 16 ≡ i = omega arith in
      let m : (i * 16 + s) % 16 ≡ s = omega arith in
      cell_of_lem 8192 (λ c. next_set r.targets r.n r.k (c / 16) (c % 16)) (i * 16 + s) 0 (omega arith) ∙ rw (d, m)

  -- a symbol leads from set i to the number of its successor, or to 512 exactly where that is empty
  pub follow_law : (i s : ℕ) → i < length (sets r) → s < r.k
      → (successor r.targets (get_or (sets r) i 0) s ≡ 0 → follow (next_cells r.targets r.n r.k) i s ≡ 512)
      × ((successor r.targets (get_or (sets r) i 0) s ≡ 0 → ⊥)
      → (follow (next_cells r.targets r.n r.k) i s < length (sets r))
      × (get_or (sets r) (follow (next_cells r.targets r.n r.k) i s) 0 ≡ successor r.targets (get_or (sets r) i 0) s))
  follow_law i s h l =
      let cell = given.cell r good fit i s h l in
      let read : follow (next_cells r.targets r.n r.k) i s ≡ min (next r i s) 512 =
      follow_set (next_cells r.targets r.n r.k) i s (omega (arith, few))
      ∙ ap (λ (x : ℕ). min x 512) (cell_at i s (omega (arith, few)) (omega (arith, good.symbols))) in (
        (λ z. read ∙ ap (λ (x : ℕ). min x 512) (cell.0 z)),
        λ ne.
            let there = cell.1 ne in
            let e : follow (next_cells r.targets r.n r.k) i s ≡ next r i s = read ∙ omega (arith, there.0, few) in
            rw e there,
      )

  -- ---- acceptance over the table
  accepted_law : (w : List ℕ) → Text r.k w → (i : ℕ) → i < length (sets r)
      → accepted masks cells r.finals i w ≡ shares (after r.targets (get_or (sets r) i 0) w) r.finals
  unfolding accepted masks cells
  accepted_law [] x i h = final_set masks r.finals i (omega (arith, few)) ∙ ap (λ (m : ℕ). shares m r.finals) (mask_at i h)
  accepted_law (s ∷ w) x i h =
      let m : ℕ = successor r.targets (get_or (sets r) i 0) s in
      let step = follow_law i s h x.0 in
      by_test (eqb m 0)
      (λ t.
      let z = eqb-true m 0 t in
      rw (step.0 z) (accepted_empty masks cells r.finals w)
      ∙ sym (ap (λ (y : ℕ). shares (after r.targets y w) r.finals) z ∙ ap (λ (y : ℕ). shares y r.finals) (after_empty r.targets w)))
      (λ t.
      let there = step.1 (eqb-false m 0 t) in
      accepted_law w x.1 (follow cells i s) there.0
      ∙ ap (λ (y : ℕ). shares (after r.targets y w) r.finals) there.1)

  -- ---- acceptance in the automaton
  pub from_law : (q : ℕ) → q < r.n → (w : List ℕ) → AcceptsFrom (automaton_of r) q w ↔ (shares (after r.targets (single q) w) r.finals ≡ true)
  from_law q h w = (
    (λ t.
        (shares_law (after r.targets (single q) w) r.finals).1
        (t.to, (after_law r good (single q) t.to w (pow-lt h)).1 (record { from = q; member = (single_law q q).1 refl; run = t.run }), t.ends)),
    λ e.
        let u = (shares_law (after r.targets (single q) w) r.finals).0 e in
        let t = (after_law r good (single q) u.0 w (pow-lt h)).0 u.1 in
        record { to = u.0; ends = u.2; run = subst (λ (p : ℕ). Run (automaton_of r) p w u.0) ((single_law q t.from).0 t.member) t.run },
  )

  -- ---- the number of {q}
  pub named_single : (q : ℕ) → q < r.n
      → (singleton_number (set_cells r.targets r.n r.k) (length (sets r)) q < length (sets r))
      × (get_or (sets r) (singleton_number (set_cells r.targets r.n r.k) (length (sets r)) q) 0 ≡ single q)
  unfolding masks
  named_single q h =
      let there = given.complete r good fit (single q) (record {
        some_state = λ z. omega (arith, pow_pos q);
        state = q;
        below = h;
        text = [];
        leads = refl;
      }) in
      let all : length (take (length (sets r)) masks) ≡ length (sets r) =
      length-take-le (length (sets r)) masks (omega (arith, few, length_list_from 0 512 (λ j. get_or (sets r) j 0))) in
      let found = rw all at (single_named masks (length (sets r)) q there.0 (rw all there.1) (mask_at there.0 there.1 ∙ there.2)) in
      (found.0, sym (mask_at (singleton_number masks (length (sets r)) q) found.0) ∙ found.1)

  singles : List ℕ
  singles = singles_of masks (length (sets r))

  -- the set {q}
  numbered : ℕ → ℕ
  numbered q = single_at singles q

  names : (q : ℕ) → q < r.n → (numbered q < length (sets r)) × (get_or (sets r) (numbered q) 0 ≡ single q)
  unfolding numbered singles masks
  names q h =
      let number = named_single q h in
      let e : numbered q ≡ singleton_number masks (length (sets r)) q =
      ap (λ (x : ℕ). min x 512) (cell_of_lem 32 (singleton_number masks (length (sets r))) q 0 (omega (arith, good.states)))
      ∙ omega (arith, number.0, few) in
      rw e number

  -- ---- alike sets and alike states
  state_law : (q : ℕ) → q < r.n → (w : List ℕ) → Text r.k w
      → AcceptsFrom (automaton_of r) q w ↔ (accepted masks cells r.finals (numbered q) w ≡ true)
  state_law q h w x =
      let number = names q h in
      let e : accepted masks cells r.finals (numbered q) w ≡ shares (after r.targets (single q) w) r.finals =
      accepted_law w x (numbered q) number.0 ∙ ap (λ (m : ℕ). shares (after r.targets m w) r.finals) number.1 in
      (λ t. e ∙ (from_law q h w).0 t, λ t. (from_law q h w).1 (sym e ∙ t))

  alike_law : (p q : ℕ) → p < r.n → q < r.n → AlikeSets masks cells r.finals r.k (numbered p) (numbered q) ↔ Alike (automaton_of r) p q
  alike_law p q hp hq = (
    (λ h w x.
        let a = state_law p hp w x in
        let b = state_law q hq w x in
        (λ t. b.1 (sym (h w x) ∙ a.0 t), λ t. a.1 (h w x ∙ b.0 t))),
    λ h w x.
        let a = state_law p hp w x in
        let b = state_law q hq w x in
        same_truth (accepted masks cells r.finals (numbered p) w) (accepted masks cells r.finals (numbered q) w)
        (λ t. b.0 ((h w x).0 (a.1 t)), λ t. a.0 ((h w x).1 (b.1 t))),
  )

  -- ---- live states
  -- a test that two sets are not near, the second being empty, decides
  tested : (q : ℕ) → q < r.n → (b : Bool) → alike_to masks cells r.finals r.k 513 (numbered q) 512 ≡ b
      → (not b ≡ true) ↔ Live (automaton_of r) q
  unfolding numbered
  tested q h true t = (
    (λ e. absurd (false≢true e)),
    λ l.
        let x = run_text (automaton_of r) l.accepts.run in
        let same = (near_alike masks cells r.finals r.k (numbered q) 512 (omega arith) (omega arith)).0 t l.text x in
        absurd (false≢true (sym (accepted_empty masks cells r.finals l.text) ∙ sym same ∙ (state_law q h l.text x).0 l.accepts)),
  )
  tested q h false t = (
    (λ e.
        let u = telling masks cells r.finals r.k 513 (numbered q) 512 t in
        by_test (accepted masks cells r.finals (numbered q) u.0)
        (λ y. record { text = u.0; accepts = (state_law q h u.0 u.1).1 y })
        (λ y. absurd (u.2 (y ∙ sym (accepted_empty masks cells r.finals u.0))))),
    λ l. refl,
  )

  live_test : (q : ℕ) → q < r.n → (live_of masks cells r.finals singles r.k q ≡ true) ↔ Live (automaton_of r) q
  unfolding live_of numbered
  live_test q h = tested q h (alike_to masks cells r.finals r.k 513 (numbered q) 512) refl

  pub live_law : (q : ℕ) → q < r.n → (live_in r q ≡ true) ↔ Live (automaton_of r) q
  unfolding live_in masks cells singles
  live_law q h = live_test q h

  -- ---- the delegates
  lowest_of_lem : (q d : ℕ) → q < r.n → Least (λ p u. AlikeSets masks cells r.finals r.k (numbered p) (numbered u)) 0 q d
      → Lowest (automaton_of r) q d
  lowest_of_lem q d h x =
      let below : d < r.n = omega (arith, x.most) in
      record {
        state = below;
        alike = alike_back (automaton_of r) d q ((alike_law d q below h).0 x.has);
        lowest = λ p l y. le_by d p (λ b. x.first p zero-le b ((alike_law p q l h).1 (alike_back (automaton_of r) q p y)));
      }

  symbols : min r.k 16 ≡ r.k
  symbols = omega (arith, good.symbols)

  lowest_is : (q : ℕ) → q < r.n → Lowest (automaton_of r) q (lowest_of masks cells r.finals singles r.k q)
  unfolding numbered
  lowest_is q h =
      lowest_of_lem q (lowest_of masks cells r.finals singles r.k q) h
      (rw symbols at (lowest masks cells r.finals singles r.n r.k q))

  pub lowest_law : (q : ℕ) → q < r.n
      → Lowest (automaton_of r) q
      (lowest_of (set_cells r.targets r.n r.k) (next_cells r.targets r.n r.k) r.finals
      (singles_of (set_cells r.targets r.n r.k) (length (sets r)))
      r.k
      q)
  unfolding masks cells singles
  lowest_law q h = lowest_is q h

  delegate_is : (q : ℕ) → q < r.n
      → (o : Option ℕ) × Delegate (automaton_of r) q o × (delegate_of masks cells r.finals singles r.k q ≡ delegate_cell o)
  unfolding delegate_of
  delegate_is q h = one (live_of masks cells r.finals singles r.k q) (live_test q h)
    where
      one : (b : Bool) → (b ≡ true) ↔ Live (automaton_of r) q
          → (o : Option ℕ) × Delegate (automaton_of r) q o × (cond b (lowest_of masks cells r.finals singles r.k q) 32 ≡ delegate_cell o)
      one true law = (some (lowest_of masks cells r.finals singles r.k q), (law.0 refl, lowest_is q h), refl)
      one false law = (none, (λ l. false≢true (law.1 l)), refl)

  pub merged : Merged (automaton_of r) (starts_in r).delegates (starts_in r).startcount
  unfolding masks cells singles starts_in
  merged =
      let n : min r.n 32 ≡ r.n = omega (arith, good.states) in
      let m = starts_meet masks cells r.finals singles r.n r.k in
      record {
        cells = m.cells;
        delegates = λ q h. let u = delegate_is q h in (u.0, u.1, (rw symbols at (m.delegates q (omega arith))) ∙ u.2);
        zeros = λ q h. m.zeros q (omega arith);
        starts = rw n at m.starts;
      }
