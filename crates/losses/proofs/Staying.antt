-- A lost trace stays lost while its rule and the chunks up to its place stay, and no verdict on it is
-- yes; what a diagnosis says beside a verdict; and of a rule that accepts nothing. Assumes nothing.
use mathlib.Core.Path.{◌≡◌, refl, sym, ap, ◌∙◌, subst}
use mathlib.Core.Logic.{◌⊎◌, inl, inr}
use mathlib.Core.Bool.{Bool, true, false, cond}
use mathlib.Core.List.{List, [], ◌∷◌, ◌++◌, append_assoc}
use mathlib.Core.Option.{none, some}
use Prim.Native.Nat.{ℕ, suc, ◌≤◌, ◌<◌}
use native.Mathlib.Omega.{arith}
use lib.Dec.{ltb}
use borrow.Author.Tests.{ne_eqb, ltb-true, ltb-false}
use Rattle.base.specs.Lists.{joined}
use Rattle.base.specs.Options.{is_none}
use Rattle.base.proofs.Lists.{joined_same, joined_suc, joined_split}
use Rattle.base.proofs.Options.{is-none}
use Rattle.base.proofs.Totals.{term_most}
use Rattle.base.proofs.Tests.{by_test, not_both, zero_one}
use Rattle.automaton.specs.declared.Rule.{Rule}
use Rattle.automaton.specs.Automaton.{Accepts}
use Rattle.automaton.specs.Rules.{automaton_of}
use Rattle.live.specs.Continued.{Continued}
use Rattle.calls.specs.Replies.{Reported, judged, yes_with, no_with}
use Rattle.calls.specs.Calls.{Call, installs, loads, opens, delivers, withdraws, asks_verdict}
use Rattle.calls.specs.mirror.Steps.{step_of}
use Rattle.diagnoses.specs.Diagnosing.{Finding, refused_as, lost_at, open_with, diagnosis_of}
use Rattle.histories.specs.History.{rule_there, rule_from, rule_in, board_in, places_in, standing, standing_text, text_in, verdict_in, report_in}
use Rattle.histories.specs.Claims.{judge_after}
use Rattle.histories.proofs.EveryList.{good, every_list, answer_after}
use Rattle.histories.proofs.VerdictSays.{board_there_lem, none_empty}
use Rattle.losses.specs.Losses.{text_up_to, FilledAt, Hopeful, Lost, Open, Diagnosed, AcceptsNothing, AllElsewhere}
use Rattle.losses.proofs.Diagnosing.{diagnosed, clash}

-- ---- stays lost
module _ (h g : List Call) (p : ℕ) (rule : rule_in g ≡ rule_in h) (same : (i : ℕ) → i ≤ p → standing g i ≡ standing h i) where
  text_same : (m : ℕ) → m ≤ suc p → text_up_to g m ≡ text_up_to h m
  text_same m l = joined_same (λ i. standing_text (standing g i)) (λ i. standing_text (standing h i)) m (λ i b. ap standing_text (same i (omega arith)))

  hope_back : (m : ℕ) → m ≤ suc p → Hopeful g m → Hopeful h m
  hope_back m l c =
      subst (λ (w : List ℕ). Continued (automaton_of (rule_in h)) w) (text_same m l)
      (subst (λ (r : Rule). Continued (automaton_of r) (text_up_to g m)) rule c)

  hope_on : (m : ℕ) → m ≤ suc p → Hopeful h m → Hopeful g m
  hope_on m l c =
      subst (λ (r : Rule). Continued (automaton_of r) (text_up_to g m)) (sym rule)
      (subst (λ (w : List ℕ). Continued (automaton_of (rule_in h)) w) (sym (text_same m l)) c)

  pub stays : Lost h p → Lost g p
  stays x =
      let kept : (i : ℕ) → i ≤ p → is_none (standing g i) ≡ false = λ i l. ap is_none (same i l) ∙ x.filled i l in
      let room : p < places_in g =
      by_test (ltb p (places_in g)) (λ l. ltb-true p (places_in g) l)
      (λ l. clash g p (kept p (omega arith)) ((good g).beyond p (ltb-false p (places_in g) l))) in
      record {
        board = (every_list g).verdict.board.1 (omega arith);
        within = room;
        filled = kept;
        stuck = λ c. x.stuck (hope_back (suc p) (omega arith) c);
        least = λ i l. hope_on (suc i) (omega arith) (x.least i l);
      }

-- ---- calls elsewhere
module _ (h : List Call) (p : ℕ) where
  rule_kept : (cs : List Call) → AllElsewhere p cs → rule_there (cs ++ h) ≡ rule_there h
  unfolding rule_there
  rule_kept [] e = refl
  rule_kept (installs r ∷ cs) e = absurd e.0
  rule_kept (loads f ∷ cs) e = absurd e.0
  rule_kept (opens n ∷ cs) e = rule_kept cs e.1
  rule_kept (delivers q v w ∷ cs) e = rule_kept cs e.1
  rule_kept (withdraws q ∷ cs) e = rule_kept cs e.1
  rule_kept (asks_verdict ∷ cs) e = rule_kept cs e.1

  chunks_kept : (cs : List Call) → AllElsewhere p cs → (i : ℕ) → i ≤ p → standing (cs ++ h) i ≡ standing h i
  unfolding standing
  chunks_kept [] e i l = refl
  chunks_kept (installs r ∷ cs) e i l = absurd e.0
  chunks_kept (loads f ∷ cs) e i l = absurd e.0
  chunks_kept (opens n ∷ cs) e i l = absurd e.0
  chunks_kept (delivers q v w ∷ cs) e i l = rw (ne_eqb q i (λ z. absurd (omega (arith, e.0)))) (chunks_kept cs e.1 i l)
  chunks_kept (withdraws q ∷ cs) e i l = rw (ne_eqb q i (λ z. absurd (omega (arith, e.0)))) (chunks_kept cs e.1 i l)
  chunks_kept (asks_verdict ∷ cs) e i l = chunks_kept cs e.1 i l

  pub stays_on : (cs : List Call) → Lost h p → AllElsewhere p cs → Lost (cs ++ h) p
  stays_on cs x e = stays h (cs ++ h) p (ap rule_from (rule_kept cs e)) (chunks_kept cs e) x

-- ---- beside a verdict
module _ (h : List Call) where
  -- yes or no is said only where a board is there and no place is empty
  module _ (c : ℕ) (v : (verdict_in h ≡ yes_with c) ⊎ (verdict_in h ≡ no_with c)) where
    all_filled : (p : ℕ) {A : Type 0} → p < places_in h → standing h p ≡ none → A
    all_filled p l e =
        absurd (no_term (is_none (standing h p)) ((is-none (standing h p)).1 e) (omega (arith, none_empty h c v, term_most (λ i. cond (is_none (standing h i)) 1 0) (places_in h) p l)))
      where
        no_term : (t : Bool) → t ≡ true → cond t 1 0 ≤ 0 → ⊥
        no_term true z x = omega (arith, x)
        no_term false z x = zero_one cc

    open_all : (m : ℕ) → Open h m → Open h (places_in h)
    open_all m o =
        by_test (ltb m (places_in h)) (λ l. let k = ltb-true m (places_in h) l in all_filled m k (o.then_empty k))
        (λ l. let e : m ≡ places_in h = omega (arith, ltb-false m (places_in h) l, o.within) in subst (Open h) e o)

    told : (f : Finding) → Diagnosed h f → ((p : ℕ) × Lost h p) ⊎ Open h (places_in h)
    told (refused_as x) d = not_both (board_there_lem h c v) d.0
    told (lost_at p) d = inl (p, d)
    told (open_with m) d = inr (open_all m d)

    pub which : ((p : ℕ) × Lost h p) ⊎ Open h (places_in h)
    which = told (diagnosis_of (judge_after h)) (diagnosed h)

  -- the whole text continues that of the first places
  pub no_yes : (p c : ℕ) → Lost h p → verdict_in h ≡ yes_with c → ⊥
  no_yes p c x y =
      let e = (every_list h).verdict in
      let z = none_empty h c (inl y) in
      let t : Accepts (automaton_of (rule_in h)) (text_in h) = (e.accepts x.board z).0 (y ∙ ap yes_with (e.counted c y)) in
      let f : ℕ → List ℕ = λ i. standing_text (standing h i) in
      let u = joined_split f (places_in h) p x.within in
      let cut : text_in h ≡ text_up_to h (suc p) ++ u.0 =
      u.1 ∙ sym (append_assoc (joined f p) (f p) u.0) ∙ ap (λ (w : List ℕ). w ++ u.0) (sym (joined_suc f p)) in
      x.stuck (record { rest = u.0; accepts = subst (λ (w : List ℕ). Accepts (automaton_of (rule_in h)) w) cut t })

  pub no_yes_reply : (p c : ℕ) (r : Reported) → Lost h p → (step_of (judge_after h) asks_verdict).reply ≡ judged r → r.verdict ≡ yes_with c → ⊥
  no_yes_reply p c r x e y =
      let z : judged (report_in h) ≡ judged r = sym (answer_after h asks_verdict) ∙ e in
      let w : report_in h ≡ r = cc in
      no_yes p c x (sym (every_list h).report.verdict ∙ ap (λ (s : Reported). s.verdict) w ∙ y)

  pub yes_open : (c : ℕ) → verdict_in h ≡ yes_with c → Open h (places_in h)
  yes_open c y = pick (which c (inl y))
    where
      pick : ((p : ℕ) × Lost h p) ⊎ Open h (places_in h) → Open h (places_in h)
      pick (inl l) = absurd (no_yes l.0 c l.1 y)
      pick (inr o) = o

-- ---- of a rule that accepts nothing
module _ (h : List Call) (nothing : AcceptsNothing h) where
  pub nothing_open : board_in h ≡ true → standing h 0 ≡ none → Open h 0
  nothing_open b e = record {
    board = b;
    within = omega arith;
    filled = λ i l. absurd (omega arith);
    then_empty = λ l. e;
    not_lost = λ i l. absurd (omega arith);
  }

  pub nothing_lost : (w : List ℕ) → standing h 0 ≡ some w → Lost h 0
  nothing_lost w e =
      let there : is_none (standing h 0) ≡ false = ap is_none e in
      let room : 0 < places_in h = by_test (ltb 0 (places_in h)) (λ l. ltb-true 0 (places_in h) l) (λ l. clash h 0 there ((good h).beyond 0 (ltb-false 0 (places_in h) l))) in
      record {
        board = (every_list h).verdict.board.1 room;
        within = room;
        filled = λ i l. let z : i ≡ 0 = omega arith in subst (FilledAt h) (sym z) there;
        stuck = λ c. nothing (text_up_to h 1 ++ c.rest) c.accepts;
        least = λ i l. absurd (omega arith);
      }
