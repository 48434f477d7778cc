-- Automata that differ only in how their arcs are stated have the same runs, and so the same sets,
-- table, delegates and M: what holds of the automaton of a rule that was read holds of the automaton
-- in the bytes of its file. Assumes nothing.
--
--   run_to, alike_map, delegate_map, merged_map     runs and delegates
--   leads_map, moves_map, method_map, many_map      sets, table and all of `Method`
--   run_read, delegate_read, method_read, many_read   of a file and the rule in it
use mathlib.Core.Path.{◌≡◌}
use mathlib.Core.Logic.Iff
use mathlib.Core.Logic.{◌↔◌, inl, inr, ⊎_elim}
use mathlib.Core.List.{List}
use mathlib.Core.Option.{Option, none, some}
use Prim.Native.Nat.{ℕ}
use lib.ListN.{get_or}
use Rattle.masks.specs.Masks.{◌∈◌}
use Rattle.automaton.specs.Automaton.{Automaton, Arc, Run}
use Rattle.automaton.specs.Rules.{target_mask, automaton_of}
use Rattle.automaton.proofs.Laws.{run_map}
use Rattle.ruleformat.specs.Format.{state_count, symbol_count, initial_mask, final_mask}
use Rattle.ruleformat.specs.Refusals.{refusal}
use Rattle.ruleformat.specs.Reader.{rule_of}
use Rattle.ruleformat.specs.Language.{ArcIn, automaton_in}
use Rattle.ruleformat.proofs.Claims as rulefile
use Rattle.numbering.proofs.InOrder.{in_order_by}
use Rattle.delegates.specs.Alike.{AcceptsFrom, Alike, Live, Delegate, Merged}
use Rattle.build.specs.declared.Built.{Built}
use Rattle.histories.specs.Method.{Leads, Moves, set_at, next_at, TooMany, Method}

module _ (n k : ℕ) (Initial Final : ℕ → Type 0) where
  abbrev by : (ℕ → ℕ → ℕ → Type 0) → Automaton
  by D = record { n = n; k = k; Delta = D; Initial = Initial; Final = Final }

  -- by an arc for each arc
  arc_to_lem : (D E : ℕ → ℕ → ℕ → Type 0) → ((q s r : ℕ) → D q s r → E q s r) → (q s p : ℕ) → Arc (by D) q s p → Arc (by E) q s p
  arc_to_lem D E on q s p x = record { source = x.source; symbol = x.symbol; target = x.target; there = on q s p x.there }

  run_to : (D E : ℕ → ℕ → ℕ → Type 0) → ((q s r : ℕ) → D q s r → E q s r) → (q : ℕ) (w : List ℕ) (p : ℕ) → Run (by D) q w p → Run (by E) q w p
  run_to D E on q w p x = run_map (by D) (by E) (λ _ l. l) (arc_to_lem D E on) x

  from_map : (D E : ℕ → ℕ → ℕ → Type 0) → ((q s r : ℕ) → D q s r → E q s r) → (q : ℕ) (w : List ℕ) → AcceptsFrom (by D) q w → AcceptsFrom (by E) q w
  from_map D E on q w t = record {
    to = t.to;
    ends = t.ends;
    run = run_to D E on q w t.to t.run;
  }

  alike_map : (D E : ℕ → ℕ → ℕ → Type 0) → ((q s r : ℕ) → D q s r → E q s r) → ((q s r : ℕ) → E q s r → D q s r)
      → (q r : ℕ) → Alike (by D) q r → Alike (by E) q r
  alike_map D E on back q r h w x = (
    (λ t. from_map D E on r w ((h w x).0 (from_map E D back q w t))),
    λ t. from_map D E on q w ((h w x).1 (from_map E D back r w t)),
  )

  live_map : (D E : ℕ → ℕ → ℕ → Type 0) → ((q s r : ℕ) → D q s r → E q s r) → (q : ℕ) → Live (by D) q → Live (by E) q
  live_map D E on q l = record { text = l.text; accepts = from_map D E on q l.text l.accepts }

  delegate_map : (D E : ℕ → ℕ → ℕ → Type 0) → ((q s r : ℕ) → D q s r → E q s r) → ((q s r : ℕ) → E q s r → D q s r)
      → (q : ℕ) (o : Option ℕ) → Delegate (by D) q o → Delegate (by E) q o
  delegate_map D E on back q none g = λ l. g (live_map E D back q l)
  delegate_map D E on back q (some d) g = (
    live_map D E on q g.0,
    record {
      state = g.1.state;
      alike = alike_map D E on back q d g.1.alike;
      lowest = λ r l h. g.1.lowest r l (alike_map E D back on q r h);
    },
  )

  merged_map : (D E : ℕ → ℕ → ℕ → Type 0) → ((q s r : ℕ) → D q s r → E q s r) → ((q s r : ℕ) → E q s r → D q s r)
      → (d : List ℕ) (m : ℕ) → Merged (by D) d m → Merged (by E) d m
  merged_map D E on back d m g = record {
    cells = g.cells;
    delegates = λ q h. let o = g.delegates q h in (o.0, delegate_map D E on back q o.0 o.1, o.2);
    zeros = g.zeros;
    starts = g.starts;
  }

  -- ---- sets and table
  leads_map : (D E : ℕ → ℕ → ℕ → Type 0) → ((q s r : ℕ) → D q s r → E q s r) → ((q s r : ℕ) → E q s r → D q s r)
      → (q : ℕ) (w : List ℕ) (m : ℕ) → Leads (by D) q w m → Leads (by E) q w m
  leads_map D E on back q w m l p = Iff.trans (l p) (run_to D E on q w p, run_to E D back q w p)

  moves_map : (D E : ℕ → ℕ → ℕ → Type 0) → ((q s r : ℕ) → D q s r → E q s r) → ((q s r : ℕ) → E q s r → D q s r)
      → (l s m : ℕ) → Moves (by D) l s m → Moves (by E) l s m
  moves_map D E on back l s m v p =
      Iff.trans (v p) (
        (λ x. (x.0, x.1, arc_to_lem D E on x.0 s p x.2)),
        λ x. (x.0, x.1, arc_to_lem E D back x.0 s p x.2),
      )

  many_map : (D E : ℕ → ℕ → ℕ → Type 0) → ((q s r : ℕ) → D q s r → E q s r) → ((q s r : ℕ) → E q s r → D q s r)
      → TooMany (by D) → TooMany (by E)
  many_map D E on back x = (
    x.0,
    x.1,
    x.2,
    λ i b. let y = x.3 i b in (y.0, y.1, y.2, y.3, leads_map D E on back y.1 y.3 (get_or x.0 i 0) y.4),
  )

  method_map : (D E : ℕ → ℕ → ℕ → Type 0) → ((q s r : ℕ) → D q s r → E q s r) → ((q s r : ℕ) → E q s r → D q s r)
      → (b : Built) → Method (by D) b → Method (by E) b
  method_map D E on back b m = record {
    sets = λ x.
        Iff.trans (m.sets x) (
          (λ y. (y.0, y.1, y.2, y.3, leads_map D E on back y.1 y.3 x y.4)),
          λ y. (y.0, y.1, y.2, y.3, leads_map E D back on y.1 y.3 x y.4),
        );
    once = m.once;
    order =
        in_order_by n (set_at b) (set_at b) b.setcount
        (λ i q w h l. (leads_map D E on back q w (set_at b i), leads_map E D back on q w (set_at b i)))
        m.order;
    table = λ i s h l.
        ⊎_elim
        (λ x. inl (x.0, moves_map D E on back (set_at b i) s (set_at b (next_at b i s)) x.1))
        (λ x. inr (x.0, moves_map D E on back (set_at b i) s 0 x.1))
        (m.table i s h l);
    delegates = merged_map D E on back b.delegates b.startcount m.delegates;
  }

-- ---- a file that is read
module _ (f : List ℕ) (e : refusal f ≡ none) where
  -- the arcs of the rule in it
  abbrev Read : ℕ → ℕ → ℕ → Type 0
  Read q s t = t ∈ target_mask (rule_of f).targets q s

  is_read : (q s t : ℕ) → ArcIn f q s t → Read q s t
  is_read q s t = ((rulefile.claims).arcs f e q s t).0

  stands : (q s t : ℕ) → Read q s t → ArcIn f q s t
  stands q s t = ((rulefile.claims).arcs f e q s t).1

  pub run_read : (q : ℕ) (w : List ℕ) (p : ℕ) → Run (automaton_in f) q w p ↔ Run (automaton_of (rule_of f)) q w p
  run_read q w p = (
    run_to (state_count f) (symbol_count f) (λ q. q ∈ initial_mask f) (λ q. q ∈ final_mask f) (ArcIn f) Read is_read q w p,
    run_to (state_count f) (symbol_count f) (λ q. q ∈ initial_mask f) (λ q. q ∈ final_mask f) Read (ArcIn f) stands q w p,
  )

  pub delegate_read : (q : ℕ) (o : Option ℕ) → Delegate (automaton_in f) q o ↔ Delegate (automaton_of (rule_of f)) q o
  delegate_read q o = (
    delegate_map (state_count f) (symbol_count f) (λ q. q ∈ initial_mask f) (λ q. q ∈ final_mask f) (ArcIn f) Read is_read stands q o,
    delegate_map (state_count f) (symbol_count f) (λ q. q ∈ initial_mask f) (λ q. q ∈ final_mask f) Read (ArcIn f) stands is_read q o,
  )

  pub method_read : (b : Built) → Method (automaton_of (rule_of f)) b → Method (automaton_in f) b
  method_read = method_map (state_count f) (symbol_count f) (λ q. q ∈ initial_mask f) (λ q. q ∈ final_mask f) Read (ArcIn f) stands is_read

  pub many_read : TooMany (automaton_of (rule_of f)) ↔ TooMany (automaton_in f)
  many_read = (
    many_map (state_count f) (symbol_count f) (λ q. q ∈ initial_mask f) (λ q. q ∈ final_mask f) Read (ArcIn f) stands is_read,
    many_map (state_count f) (symbol_count f) (λ q. q ∈ initial_mask f) (λ q. q ∈ final_mask f) (ArcIn f) Read is_read stands,
  )
