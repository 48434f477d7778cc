-- From a set a final state can still be reached exactly where a live state is in it. Assumes a
-- well-formed rule.
--
--   ends_law             an accepting run starts in the set: a final state is in the set after the text
--   hope, no_hope        some text continues this one: a live state is in the set after it; none does
--   shorter, dead_on     what can be continued could before; what cannot, cannot later
--   moved                from the set after a text, or over the text too
--   continued            from the initial states: the text can be continued to an accepted one
--   continued_before     so can a shorter one
use mathlib.Core.Path.{◌≡◌, sym, ap, ◌∙◌, subst}
use mathlib.Core.Logic.{◌↔◌}
use mathlib.Core.Bool.{true, false}
use mathlib.Core.List.{List, [], ◌∷◌, ◌++◌, append_assoc}
use Prim.Native.Nat.{ℕ}
use Rattle.base.proofs.Tests.{by_test, not_both}
use Rattle.masks.specs.Masks.{◌∈◌, shares}
use Rattle.masks.proofs.Laws.{members_below, shares_law}
use Rattle.automaton.specs.declared.Rule.{Rule}
use Rattle.automaton.specs.Automaton.{Automaton, Run, stay, move, Accepts}
use Rattle.automaton.specs.Rules.{automaton_of, WellFormed}
use Rattle.automaton.specs.Successor.{successor, after}
use Rattle.automaton.proofs.Laws.{successor_law, after-append}
use Rattle.live.specs.Live.{live_of}
use Rattle.live.specs.Continued.{Continued, AcceptsIn, CanEnd}
use Rattle.live.proofs.Rounds.{live_law}

pub continued_before : (a : Automaton) (v u : List ℕ) → Continued a (v ++ u) → Continued a v
continued_before a v u c = record { rest = u ++ c.rest; accepts = subst (Accepts a) (append_assoc v u c.rest) c.accepts }

module _ (r : Rule) (good : WellFormed r) where
  -- ---- acceptance
  in_end : (m : ℕ) {q p : ℕ} {v : List ℕ} → q ∈ m → p ∈ r.finals → Run (automaton_of r) q v p → shares (after r.targets m v) r.finals ≡ true
  in_end m {q} i e (stay l) = (shares_law m r.finals).1 (q, i, e)
  in_end m i e (move {q = q} {s = s} {r = t} j u) =
      in_end (successor r.targets m s) ((successor_law r good m s t).1 (q, i, j)) e u

  of_end : (v : List ℕ) (m : ℕ) → shares (after r.targets m v) r.finals ≡ true → AcceptsIn r m v
  of_end [] m e =
      let x = (shares_law m r.finals).0 e in
      record { from = x.0; member = x.1; accepts = record { to = x.0; ends = x.2; run = stay (members_below r.n r.finals x.0 good.finals_below x.2) } }
  of_end (s ∷ v) m e =
      let x = of_end v (successor r.targets m s) e in
      let y = (successor_law r good m s x.from).0 x.member in
      record { from = y.0; member = y.1; accepts = record { to = x.accepts.to; ends = x.accepts.ends; run = move y.2 x.accepts.run } }

  pub ends_law : (m : ℕ) (v : List ℕ) → (shares (after r.targets m v) r.finals ≡ true) ↔ AcceptsIn r m v
  ends_law m v = (of_end v m, λ x. in_end m x.member x.accepts.ends x.accepts.run)

  -- ---- what can be continued
  pub hope : (m : ℕ) (v : List ℕ) → (shares (after r.targets m v) (live_of r) ≡ true) ↔ CanEnd r m v
  hope m v = (
    (λ e.
        let x = (shares_law (after r.targets m v) (live_of r)).0 e in
        let l = (live_law r good x.0).0 x.2 in
        record {
          rest = l.text;
          accepts = of_end (v ++ l.text) m
              (ap (λ (y : ℕ). shares y r.finals) (after-append r.targets m v l.text)
              ∙ in_end (after r.targets m v) x.1 l.accepts.ends l.accepts.run);
        }),
    λ c.
        let x = of_end c.rest (after r.targets m v)
        (ap (λ (y : ℕ). shares y r.finals) (sym (after-append r.targets m v c.rest))
        ∙ in_end m c.accepts.member c.accepts.accepts.ends c.accepts.accepts.run) in
        (shares_law (after r.targets m v) (live_of r)).1
        (x.from, x.member, (live_law r good x.from).1 (record { text = c.rest; accepts = x.accepts })),
  )

  pub no_hope : (m : ℕ) (v : List ℕ) → (CanEnd r m v → ⊥) → shares (after r.targets m v) (live_of r) ≡ false
  no_hope m v n = by_test (shares (after r.targets m v) (live_of r)) (λ t. absurd (n ((hope m v).0 t))) (λ f. f)

  pub shorter : (m : ℕ) (v u : List ℕ) → CanEnd r m (v ++ u) → CanEnd r m v
  shorter m v u c = record { rest = u ++ c.rest; accepts = subst (AcceptsIn r m) (append_assoc v u c.rest) c.accepts }

  -- from the set after a text, or over the text too
  pub moved : (m : ℕ) (v u : List ℕ) → CanEnd r (after r.targets m v) u ↔ CanEnd r m (v ++ u)
  moved m v u =
      let e : shares (after r.targets m (v ++ u)) (live_of r) ≡ shares (after r.targets (after r.targets m v) u) (live_of r) =
      ap (λ (y : ℕ). shares y (live_of r)) (after-append r.targets m v u) in (
        (λ c. (hope m (v ++ u)).0 (e ∙ (hope (after r.targets m v) u).1 c)),
        λ c. (hope (after r.targets m v) u).0 (sym e ∙ (hope m (v ++ u)).1 c),
      )

  pub dead_on : (m : ℕ) (v : List ℕ) → shares m (live_of r) ≡ false → shares (after r.targets m v) (live_of r) ≡ false
  dead_on m v f = no_hope m v (λ c. not_both ((hope m []).1 (shorter m [] v c)) f)

  -- ---- from the initial states
  pub continued : (w : List ℕ) → Continued (automaton_of r) w ↔ (shares (after r.targets r.initials w) (live_of r) ≡ true)
  continued w =
      let law = hope r.initials w in (
        (λ c.
            let x = c.accepts in
            law.1 (record { rest = c.rest; accepts = record { from = x.from; member = x.begins; accepts = record { to = x.to; ends = x.ends; run = x.run } } })),
        λ e.
            let c = law.0 e in
            let x = c.accepts in
            record { rest = c.rest; accepts = record { from = x.from; to = x.accepts.to; begins = x.member; ends = x.accepts.ends; run = x.accepts.run } },
      )
