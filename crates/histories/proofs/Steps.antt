-- After every call the state agrees with the list of calls, and the call's answer is the one that
-- the list says. `AgreesWith h j` is the invariant; one lemma a call. Assumes nothing.
use mathlib.Core.Path.{◌≡◌, refl, sym, ap, ◌∙◌, subst, subst₃, fun_ext}
use mathlib.Core.Bool.{Bool, cond, ◌&&◌, and-true, and-false}
use mathlib.Core.List.{List, [], ◌∷◌}
use mathlib.Core.Option.{Option, none, some}
use Prim.Native.Nat.{ℕ, ◌<◌}
use native.Mathlib.Omega.{arith}
use lib.Dec.{eqb, ltb, leb}
use borrow.Author.Tests.{eq-eqb, ltb-true, ltb-false, leb-false}
use Rattle.base.specs.Conditions.{on, first_of, outside}
use Rattle.base.specs.Options.{is_none}
use Rattle.base.proofs.Conditions.{passed, none_law}
use Rattle.base.proofs.Tests.{by_test, or_right, zero_one, not_both}
use Rattle.marks.specs.Marks.{text_of}
use Rattle.automaton.specs.declared.Rule.{Rule}
use Rattle.rulecheck.proofs.Laws as rulecheck
use Rattle.ruleformat.specs.Reader.{rule_of}
use Rattle.automaton.specs.Automaton.{Text}
use Rattle.automaton.specs.Rules.{WellFormed}
use Rattle.subsets.specs.Claims.{fits}
use Rattle.chunks.proofs.Claims as chunks
use Rattle.board.specs.Boards.{empty_board, cleared_at, filled_at}
use Rattle.calls.specs.declared.Judge.{Judge}
use Rattle.calls.specs.Replies.{Reply, accepted, delivered}
use Rattle.calls.proofs.Conditions.{not_refused, load_accepted}
use Rattle.histories.specs.History.{rule_there, rule_from, rule_in, open_number, places_in, looked_of, not_greater, deliver_check, last_revision, standing, deliver_number, withdraw_number, reply_by}
use Rattle.calls.specs.Calls.{Call, installs, loads, opens, delivers, withdraws, asks_verdict, install_number, load_number, deliver_conditions, with_sets}
use Rattle.calls.specs.mirror.Steps.{fresh, with_board, outcome_by, with_rule, runs_at, install_of, load_of, open_of, deliver_of, withdraw_of}
use Rattle.histories.specs.Claims.{BuiltBy}
use Rattle.histories.proofs.Agreement.{Agrees, all-empty, fresh_holds, placed, cleared_holds, run_looked, filled_holds}
use Rattle.histories.proofs.Numbers.{open_number_lem, withdraw_number_lem, deliver_number_lem}

abbrev pub AgreesWith : List Call → Judge → Type 0
AgreesWith h j = Agrees (rule_there h) (places_in h) (standing h) (last_revision h) j

pub good_fresh : AgreesWith [] fresh
unfolding rule_there places_in standing last_revision
good_fresh = fresh_holds

-- the same present, places and chunks
transfer : {present present' : Option Rule} {places places' : ℕ} {at at' : ℕ → Option (List ℕ)} {last last' : ℕ → Option ℕ} (j : Judge)
    → present ≡ present' → places ≡ places' → ((p : ℕ) → at p ≡ at' p) → ((p : ℕ) → last p ≡ last' p)
    → Agrees present places at last j → Agrees present' places' at' last' j
transfer {present' = present'} {places' = places'} {at' = at'} {last = last} j f p a l holds =
    subst (λ z. Agrees present' places' at' z j) (fun_ext l) (subst₃ (λ x y z. Agrees x y z last j) f p (fun_ext a) holds)

-- ---- install and load
-- an accepted rule is well formed and has at most 512 sets
pub accepted_rule : (r : Rule) → install_number r ≡ none → WellFormed r × fits r
accepted_rule r e = let n = not_refused r e in ((rulecheck.passes r).0 n.0, n.1)

pub by_says : (number : Option ℕ) (a : Reply) (j next : Judge) → (outcome_by number a j next).reply ≡ reply_by number a
by_says none a j next = refl
by_says (some x) a j next = refl

module _ (h : List Call) (j : Judge) (good : AgreesWith h j) where
  -- the rule r, which goes in where there is no number
  module _ (r : Rule) (number : Option ℕ) (fine : number ≡ none → install_number r ≡ none) where
    ruled_good : (o : Option ℕ) → number ≡ o
        → Agrees (cond (is_none number) (some r) (rule_there h)) (cond (is_none number) 0 (places_in h)) (λ p. cond (is_none number) none (standing h p))
        (λ p. cond (is_none number) none (last_revision h p)) (outcome_by o (with_sets r) j (with_rule r)).state
    ruled_good none e =
        let x = accepted_rule r (fine e) in
        transfer (with_rule r) (sym (rw e)) (sym (rw e)) (λ p. sym (rw e)) (λ p. sym (rw e))
        (all-empty (some r) 0 (with_rule r) (refl, x.0, x.1) refl (omega arith) (λ z. absurd (omega arith)))
    ruled_good (some x) e = transfer j (sym (rw e)) (sym (rw e)) (λ p. sym (rw e)) (λ p. sym (rw e)) good

  pub install_good : (r : Rule) → AgreesWith (installs r ∷ h) (install_of j r).state
  unfolding install_of rule_there places_in standing last_revision
  install_good r = ruled_good r (install_number r) (λ e. e) (install_number r) refl

  pub install_says : (r : Rule) → (install_of j r).reply ≡ reply_by (install_number r) (with_sets r)
  unfolding install_of
  install_says r = by_says (install_number r) (with_sets r) j (with_rule r)

  pub load_good : (f : List ℕ) → AgreesWith (loads f ∷ h) (load_of j f).state
  unfolding load_of rule_there places_in standing last_revision
  load_good f = ruled_good (rule_of f) (load_number f) (λ e. (load_accepted f e).1) (load_number f) refl

  pub load_says : (f : List ℕ) → (load_of j f).reply ≡ reply_by (load_number f) (with_sets (rule_of f))
  unfolding load_of
  load_says f = by_says (load_number f) (with_sets (rule_of f)) j (with_rule (rule_of f))

  -- ---- open
  open_is : (n : ℕ) → open_of j n ≡ outcome_by (open_number h n) accepted j (with_board j (empty_board n))
  unfolding open_of
  open_is n =
      ap (λ x. outcome_by x accepted j (with_board j (empty_board n)))
      (open_number_lem (rule_there h) (places_in h) (standing h) (last_revision h) j good n)

  opened_good : (n : ℕ) (o : Option ℕ) → open_number h n ≡ o → AgreesWith (opens n ∷ h) (outcome_by o accepted j (with_board j (empty_board n))).state
  unfolding rule_there places_in standing last_revision
  opened_good n none e =
      let a = passed 20 (is_none (rule_there h)) (cond (outside 1 64 n) (some 10) none) e in
      let b = (passed 10 (outside 1 64 n) none a.1).0 in
      transfer (with_board j (empty_board n)) refl (sym (rw e)) (λ p. sym (rw e)) (λ p. sym (rw e))
      (all-empty (rule_there h) n (with_board j (empty_board n)) (kept (rule_there h) good.rule) refl (ltb-false 64 n (or_right (ltb n 1) (ltb 64 n) b)) (λ _. a.0))
    where
      kept : (o : Option Rule) → BuiltBy o j → BuiltBy o (with_board j (empty_board n))
      kept none x = x
      kept (some r) x = x
  opened_good n (some x) e = transfer j refl (sym (rw e)) (λ p. sym (rw e)) (λ p. sym (rw e)) good

  pub open_good : (n : ℕ) → AgreesWith (opens n ∷ h) (open_of j n).state
  open_good n = subst (λ o. AgreesWith (opens n ∷ h) o.state) (sym (open_is n)) (opened_good n (open_number h n) refl)

  pub open_says : (n : ℕ) → (open_of j n).reply ≡ reply_by (open_number h n) accepted
  open_says n = ap (λ o. o.reply) (open_is n) ∙ by_says (open_number h n) accepted j (with_board j (empty_board n))

  -- ---- withdraw
  withdraw_is : (p : ℕ) → withdraw_of j p ≡ outcome_by (withdraw_number h p) accepted j (with_board j (cleared_at j.board p))
  unfolding withdraw_of
  withdraw_is p =
      ap (λ x. outcome_by x accepted j (with_board j (cleared_at j.board p)))
      (withdraw_number_lem (rule_there h) (places_in h) (standing h) (last_revision h) j good p)

  withdrawn_good : (p : ℕ) (o : Option ℕ) → withdraw_number h p ≡ o
      → AgreesWith (withdraws p ∷ h) (outcome_by o accepted j (with_board j (cleared_at j.board p))).state
  unfolding rule_there places_in standing last_revision placed
  withdrawn_good p none e =
      let a = passed 21 (eqb (places_in h) 0) (first_of (on 11 (leb (places_in h) p) ∷ on 23 (is_none (standing h p)) ∷ [])) e in
      let b = passed 11 (leb (places_in h) p) (first_of (on 23 (is_none (standing h p)) ∷ [])) a.1 in
      transfer (with_board j (cleared_at j.board p)) refl refl
      (λ i. sym (ap (λ (t : Bool). cond t none (standing h i)) (ap (λ (u : Bool). eqb p i && u) (ap is_none e) ∙ and-true (eqb p i))))
      (λ i. refl)
      (cleared_holds (rule_there h) (places_in h) (standing h) (last_revision h) j good p (leb-false (places_in h) p b.0))
  withdrawn_good p (some x) e =
      transfer j refl refl
      (λ i. sym (ap (λ (t : Bool). cond t none (standing h i)) (ap (λ (u : Bool). eqb p i && u) (ap is_none e) ∙ and-false (eqb p i))))
      (λ i. refl)
      good

  pub withdraw_good : (p : ℕ) → AgreesWith (withdraws p ∷ h) (withdraw_of j p).state
  withdraw_good p = subst (λ o. AgreesWith (withdraws p ∷ h) o.state) (sym (withdraw_is p)) (withdrawn_good p (withdraw_number h p) refl)

  pub withdraw_says : (p : ℕ) → (withdraw_of j p).reply ≡ reply_by (withdraw_number h p) accepted
  withdraw_says p =
      ap (λ o. o.reply) (withdraw_is p) ∙ by_says (withdraw_number h p) accepted j (with_board j (cleared_at j.board p))

  -- ---- verdict
  pub ask_good : AgreesWith (asks_verdict ∷ h) j
  unfolding rule_there places_in standing last_revision
  ask_good = good

-- ---- deliver
-- the text of a delivery that meets no condition is of symbols of a rule, since a board is there
-- only with one
module _ (h : List Call) (j : Judge) (p v : ℕ) (w : List ℕ) (P : Option Rule → Type 0) where
  pub by_run : ((r : Rule) → Agrees (some r) (places_in h) (standing h) (last_revision h) j → p < places_in h → Text r.k (text_of w) → P (some r))
      → (present : Option Rule) → Agrees present (places_in h) (standing h) (last_revision h) j
      → deliver_check (rule_from present).k (places_in h) (last_revision h p) p v w ≡ none → P present
  by_run ran none holds e =
      by_test (ltb 0 (places_in h))
      (λ l. not_both refl (holds.ruled (ltb-true 0 (places_in h) l)))
      (λ l.
      let z : places_in h ≡ 0 = omega (arith, ltb-false 0 (places_in h) l) in
      let y : some 21 ≡ none = rw (eq-eqb (places_in h) 0 z) at e in
      zero_one cc)
  by_run ran (some r) holds e =
      let passes = (none_law (deliver_conditions (eqb (places_in h) 0) (places_in h) p w r.k (not_greater v (last_revision h p)))).0 e in
      ran r holds (leb-false (places_in h) p passes.1.0) (((chunks.claims).text_law (text_of w) r.k).0 passes.1.1.1.0)

module _ (h : List Call) (j : Judge) (good : AgreesWith h j) (p v : ℕ) (w : List ℕ) where
  abbrev kept : Judge
  kept = with_board j (filled_at j.board p v (runs_at j p w))

  abbrev answered : Reply
  answered = delivered (runs_at j p w).looked

  deliver_is : deliver_of j p v w ≡ outcome_by (deliver_number h p v w) answered j kept
  unfolding deliver_of
  deliver_is =
      ap (λ x. outcome_by x answered j kept) (deliver_number_lem (rule_there h) (places_in h) (standing h) (last_revision h) j good p v w)

  -- it is kept
  kept_chunk : deliver_number h p v w ≡ none → Agrees (rule_there h) (places_in h) (placed (standing h) p (some w)) (placed (last_revision h) p (some v)) kept
  kept_chunk =
      by_run h j p v w (λ present. Agrees present (places_in h) (placed (standing h) p (some w)) (placed (last_revision h) p (some v)) kept)
      (λ r holds l text. filled_holds r (places_in h) (standing h) (last_revision h) j holds p l v w text)
      (rule_there h)
      good

  -- and run, with a successor looked up for as many bytes as R-2 says
  ran_looked : deliver_number h p v w ≡ none → (runs_at j p w).looked ≡ looked_of (rule_in h) p w
  ran_looked =
      by_run h j p v w (λ present. (runs_at j p w).looked ≡ looked_of (rule_from present) p w)
      (λ r holds l text. run_looked r (places_in h) (standing h) (last_revision h) j holds p l v w text)
      (rule_there h)
      good

  delivered_good : (o : Option ℕ) → deliver_number h p v w ≡ o → AgreesWith (delivers p v w ∷ h) (outcome_by o answered j kept).state
  unfolding rule_there places_in standing last_revision placed
  delivered_good none e =
      transfer kept refl refl
      (λ i. sym (ap (λ (t : Bool). cond t (some w) (standing h i)) (ap (λ (u : Bool). eqb p i && u) (ap is_none e) ∙ and-true (eqb p i))))
      (λ i. sym (ap (λ (t : Bool). cond t (some v) (last_revision h i)) (ap (λ (u : Bool). eqb p i && u) (ap is_none e) ∙ and-true (eqb p i))))
      (kept_chunk e)
  delivered_good (some x) e =
      transfer j refl refl
      (λ i. sym (ap (λ (t : Bool). cond t (some w) (standing h i)) (ap (λ (u : Bool). eqb p i && u) (ap is_none e) ∙ and-false (eqb p i))))
      (λ i. sym (ap (λ (t : Bool). cond t (some v) (last_revision h i)) (ap (λ (u : Bool). eqb p i && u) (ap is_none e) ∙ and-false (eqb p i))))
      good

  pub deliver_good : AgreesWith (delivers p v w ∷ h) (deliver_of j p v w).state
  deliver_good = subst (λ o. AgreesWith (delivers p v w ∷ h) o.state) (sym deliver_is) (delivered_good (deliver_number h p v w) refl)

  pub deliver_says : (deliver_of j p v w).reply ≡ reply_by (deliver_number h p v w) (delivered (looked_of (rule_in h) p w))
  deliver_says =
      ap (λ o. o.reply) deliver_is ∙ by_says (deliver_number h p v w) answered j kept ∙ by_number (deliver_number h p v w) ran_looked
    where
      by_number : {m n : ℕ} (o : Option ℕ) → (o ≡ none → m ≡ n) → reply_by o (delivered m) ≡ reply_by o (delivered n)
      by_number none same = ap delivered (same refl)
      by_number (some x) same = refl
