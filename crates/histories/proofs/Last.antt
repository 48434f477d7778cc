-- Which rule, board, revision and chunk are there, by the last accepted call of a kind, as
-- specs/Last.antt says. Each is what the law of crates/executions is about: an accepted call of the
-- kind sets it, and no other call changes it. Assumes nothing.
use mathlib.Core.Path.{◌≡◌, refl, sym, ap, ◌∙◌, subst, subst₂}
use mathlib.Core.Logic.Iff
use mathlib.Core.Logic.{◌⊎◌, inl, inr, ⊎_elim}
use mathlib.Core.Bool.{true, false, cond, ◌&&◌}
use mathlib.Core.List.{List, [], ◌∷◌}
use mathlib.Core.Option.{Option, none, some}
use Prim.Native.Nat.{ℕ}
use native.Mathlib.Omega.{arith}
use lib.Dec.{eqb}
use borrow.Author.Tests.{eq-eqb, eqb-true, eqb-false}
use Rattle.base.specs.Options.{is_none}
use Rattle.base.proofs.Options.{none-some, is_some_lem}
use Rattle.base.proofs.Tests.{by_test, zero_one, not_both}
use Rattle.executions.proofs.Last as executions
use Rattle.automaton.specs.declared.Rule.{Rule}
use Rattle.ruleformat.specs.Reader.{rule_of}
use Rattle.calls.specs.Replies.{Reply, accepted, delivered, refusal_of}
use Rattle.calls.specs.Calls.{Call, installs, loads, opens, delivers, withdraws, asks_verdict, install_number, load_number, with_sets}
use Rattle.histories.specs.History.{rule_there, rule_in, open_number, board_in, places_in, looked_of, last_revision, standing, deliver_number, withdraw_number, reply_by, answer_of}
use Rattle.histories.specs.Last.{Accepted, Last, Rules, Begins, AtPlace, Touches, LastRule, LastBoard, LastRevision, LastStanding}
use Rattle.histories.proofs.EveryList.{every_list}

-- ---- what a call that is refused with the number o, or accepted, picks
module _ {A : Type 0} {o answered : Option ℕ} (is : answered ≡ o) (new old : A) where
  pub sets_it : answered ≡ none → cond (is_none o) new old ≡ new
  sets_it e = rw (sym is ∙ e)

  pub keeps_it : (answered ≡ none → ⊥) → cond (is_none o) new old ≡ old
  keeps_it n = rw ((is_some_lem o).1 (λ e. n (is ∙ e)))

  -- at place q, of place p
  pub sets_at : (p q : ℕ) → q ≡ p → answered ≡ none → cond (eqb q p && is_none o) new old ≡ new
  sets_at p q e t = rw (eq-eqb q p e) (sets_it t)

  pub keeps_at : (p q : ℕ) → (q ≡ p → answered ≡ none → ⊥) → cond (eqb q p && is_none o) new old ≡ old
  keeps_at p q n = by_test (eqb q p) (λ t. rw t (keeps_it (n (eqb-true q p t)))) (λ t. rw t)

pub number_of : (o : Option ℕ) (a : Reply) → refusal_of a ≡ none → refusal_of (reply_by o a) ≡ o
number_of none a taken = taken
number_of (some x) a taken = refl

module _ (h : List Call) where
  pub install_is : (r : Rule) → refusal_of (answer_of h (installs r)) ≡ install_number r
  install_is r = number_of (install_number r) (with_sets r) refl

  pub load_is : (f : List ℕ) → refusal_of (answer_of h (loads f)) ≡ load_number f
  load_is f = number_of (load_number f) (with_sets (rule_of f)) refl

  pub open_is : (n : ℕ) → refusal_of (answer_of h (opens n)) ≡ open_number h n
  open_is n = number_of (open_number h n) accepted refl

  pub deliver_is : (p v : ℕ) (w : List ℕ) → refusal_of (answer_of h (delivers p v w)) ≡ deliver_number h p v w
  deliver_is p v w = number_of (deliver_number h p v w) (delivered (looked_of (rule_in h) p w)) refl

  pub withdraw_is : (p : ℕ) → refusal_of (answer_of h (withdraws p)) ≡ withdraw_number h p
  withdraw_is p = number_of (withdraw_number h p) accepted refl

-- ---- calls are told apart
pub none_or : {A : Type 0} (o : Option A) → (o ≡ none) ⊎ (o ≡ none → ⊥)
none_or none = inl refl
none_or (some x) = inr (λ e. zero_one cc)

pub same_or : (m n : ℕ) → (m ≡ n) ⊎ (m ≡ n → ⊥)
same_or m n = by_test (eqb m n) (λ t. inl (eqb-true m n t)) (λ t. inr (eqb-false m n t))

accepted? : (h : List Call) (c : Call) → Accepted h c ⊎ (Accepted h c → ⊥)
accepted? h c = none_or (refusal_of (answer_of h c))

rules? : (c : Call) → Rules c ⊎ (Rules c → ⊥)
rules? (installs r) = inl tt
rules? (loads f) = inl tt
rules? (opens n) = inr (λ x. x)
rules? (delivers p v w) = inr (λ x. x)
rules? (withdraws p) = inr (λ x. x)
rules? asks_verdict = inr (λ x. x)

begins? : (c : Call) → Begins c ⊎ (Begins c → ⊥)
begins? (installs r) = inl tt
begins? (loads f) = inl tt
begins? (opens n) = inl tt
begins? (delivers p v w) = inr (λ x. x)
begins? (withdraws p) = inr (λ x. x)
begins? asks_verdict = inr (λ x. x)

at_place? : (p : ℕ) (c : Call) → AtPlace p c ⊎ (AtPlace p c → ⊥)
at_place? p (installs r) = inl tt
at_place? p (loads f) = inl tt
at_place? p (opens n) = inl tt
at_place? p (delivers q v w) = same_or q p
at_place? p (withdraws q) = inr (λ x. x)
at_place? p asks_verdict = inr (λ x. x)

touches? : (p : ℕ) (c : Call) → Touches p c ⊎ (Touches p c → ⊥)
touches? p (installs r) = inl tt
touches? p (loads f) = inl tt
touches? p (opens n) = inl tt
touches? p (delivers q v w) = same_or q p
touches? p (withdraws q) = same_or q p
touches? p asks_verdict = inr (λ x. x)

-- ---- the rule
abbrev rule_said : Call → Option Rule
rule_said (installs r) = some r
rule_said (loads f) = some (rule_of f)
rule_said (opens n) = none
rule_said (delivers p v w) = none
rule_said (withdraws p) = none
rule_said asks_verdict = none

rule_set : (h : List Call) (c : Call) → Rules c → Accepted h c → rule_there (c ∷ h) ≡ rule_said c
unfolding rule_there
rule_set h (installs r) k a = sets_it (install_is h r) (some r) (rule_there h) a
rule_set h (loads f) k a = sets_it (load_is h f) (some (rule_of f)) (rule_there h) a
rule_set h (opens n) k a = absurd k
rule_set h (delivers p v w) k a = absurd k
rule_set h (withdraws p) k a = absurd k
rule_set h asks_verdict k a = absurd k

rule_kept : (h : List Call) (c : Call) → (Rules c → Accepted h c → ⊥) → rule_there (c ∷ h) ≡ rule_there h
unfolding rule_there
rule_kept h (installs r) n = keeps_it (install_is h r) (some r) (rule_there h) (n tt)
rule_kept h (loads f) n = keeps_it (load_is h f) (some (rule_of f)) (rule_there h) (n tt)
rule_kept h (opens m) n = refl
rule_kept h (delivers p v w) n = refl
rule_kept h (withdraws p) n = refl
rule_kept h asks_verdict n = refl

no_rule_yet : (r : Rule) → rule_there [] ≡ some r → ⊥
unfolding rule_there
no_rule_yet r e = none-some refl e

pub last_rule : (h : List Call) → LastRule h
last_rule h r =
    Iff.trans
    (executions.last_law Accepted Rules rule_there rule_said rule_set rule_kept rules? accepted? h (some r) (no_rule_yet r)) (
      (λ x. to x.0 x.1 x.2 x.3),
      ⊎_elim (λ x. (installs r, x.0, x.1, refl)) (λ x. (loads x.0, x.1, x.2, ap some x.3)),
    )
  where
    to : (c : Call) (earlier : List Call) → Last Rules h c earlier → rule_said c ≡ some r
        → ((e : List Call) × Last Rules h (installs r) e) ⊎ ((f : List ℕ) × (e : List Call) × Last Rules h (loads f) e × (rule_of f ≡ r))
    to (installs s) e l z = let same : s ≡ r = cc in inl (e, subst (λ (x : Rule). Last Rules h (installs x) e) same l)
    to (loads f) e l z = let same : rule_of f ≡ r = cc in inr (f, e, l, same)
    to (opens n) e l z = none-some refl z
    to (delivers p v w) e l z = none-some refl z
    to (withdraws p) e l z = none-some refl z
    to asks_verdict e l z = none-some refl z

-- ---- the board: whether it is there, and its places
-- what an opening and what any other call of the kind says
module _ {A : Type 0} (opened : ℕ → A) (other : A) where
  abbrev board_said : Call → A
  board_said (installs r) = other
  board_said (loads f) = other
  board_said (opens n) = opened n
  board_said (delivers p v w) = other
  board_said (withdraws p) = other
  board_said asks_verdict = other

board_set : (h : List Call) (c : Call) → Begins c → Accepted h c → board_in (c ∷ h) ≡ board_said (λ n. true) false c
unfolding board_in
board_set h (installs r) k a = sets_it (install_is h r) false (board_in h) a
board_set h (loads f) k a = sets_it (load_is h f) false (board_in h) a
board_set h (opens n) k a = sets_it (open_is h n) true (board_in h) a
board_set h (delivers p v w) k a = absurd k
board_set h (withdraws p) k a = absurd k
board_set h asks_verdict k a = absurd k

board_kept : (h : List Call) (c : Call) → (Begins c → Accepted h c → ⊥) → board_in (c ∷ h) ≡ board_in h
unfolding board_in
board_kept h (installs r) n = keeps_it (install_is h r) false (board_in h) (n tt)
board_kept h (loads f) n = keeps_it (load_is h f) false (board_in h) (n tt)
board_kept h (opens m) n = keeps_it (open_is h m) true (board_in h) (n tt)
board_kept h (delivers p v w) n = refl
board_kept h (withdraws p) n = refl
board_kept h asks_verdict n = refl

pub places_set : (h : List Call) (c : Call) → Begins c → Accepted h c → places_in (c ∷ h) ≡ board_said (λ n. n) 0 c
unfolding places_in
places_set h (installs r) k a = sets_it (install_is h r) 0 (places_in h) a
places_set h (loads f) k a = sets_it (load_is h f) 0 (places_in h) a
places_set h (opens n) k a = sets_it (open_is h n) n (places_in h) a
places_set h (delivers p v w) k a = absurd k
places_set h (withdraws p) k a = absurd k
places_set h asks_verdict k a = absurd k

pub places_kept : (h : List Call) (c : Call) → (Begins c → Accepted h c → ⊥) → places_in (c ∷ h) ≡ places_in h
unfolding places_in
places_kept h (installs r) n = keeps_it (install_is h r) 0 (places_in h) (n tt)
places_kept h (loads f) n = keeps_it (load_is h f) 0 (places_in h) (n tt)
places_kept h (opens m) n = keeps_it (open_is h m) m (places_in h) (n tt)
places_kept h (delivers p v w) n = refl
places_kept h (withdraws p) n = refl
places_kept h asks_verdict n = refl

no_board_yet : board_in [] ≡ true → ⊥
unfolding board_in
no_board_yet e = not_both e refl

pub last_board : (h : List Call) → LastBoard h
last_board h = record {
  there = Iff.trans
      (executions.last_law Accepted Begins board_in (board_said (λ n. true) false) board_set board_kept begins? accepted? h true no_board_yet)
      ((λ x. to x.0 x.1 x.2 x.3), λ x. (opens x.0, x.1, x.2, refl));
  places = λ n earlier l. executions.last_says Accepted Begins places_in (board_said (λ m. m) 0) places_set places_kept l;
  no_places =
      let law = (every_list h).verdict.board in (
        (λ z. by_test (board_in h) (λ t. absurd (omega (arith, law.0 t, z))) (λ t. t)),
        λ e. by_test (eqb (places_in h) 0) (eqb-true (places_in h) 0)
            (λ t. let some-there = eqb-false (places_in h) 0 t in not_both (law.1 (omega arith)) e),
      );
}
  where
    to : (c : Call) (earlier : List Call) → Last Begins h c earlier → board_said (λ n. true) false c ≡ true
        → (n : ℕ) × (e : List Call) × Last Begins h (opens n) e
    to (installs r) e l z = not_both z refl
    to (loads f) e l z = not_both z refl
    to (opens n) e l z = (n, e, l)
    to (delivers p v w) e l z = not_both z refl
    to (withdraws p) e l z = not_both z refl
    to asks_verdict e l z = not_both z refl

-- ---- what a delivery left at a place: its revision, its chunk
-- what a delivery says; any other call says that there is none
module _ {A : Type 0} (says : ℕ → List ℕ → A) where
  abbrev place_said : Call → Option A
  place_said (installs r) = none
  place_said (loads f) = none
  place_said (opens n) = none
  place_said (delivers p v w) = some (says v w)
  place_said (withdraws p) = none
  place_said asks_verdict = none

module _ (p : ℕ) where
  revision_set : (h : List Call) (c : Call) → AtPlace p c → Accepted h c → last_revision (c ∷ h) p ≡ place_said (λ v w. v) c
  unfolding last_revision
  revision_set h (installs r) k a = sets_it (install_is h r) none (last_revision h p) a
  revision_set h (loads f) k a = sets_it (load_is h f) none (last_revision h p) a
  revision_set h (opens n) k a = sets_it (open_is h n) none (last_revision h p) a
  revision_set h (delivers q v w) k a = sets_at (deliver_is h q v w) (some v) (last_revision h p) p q k a
  revision_set h (withdraws q) k a = absurd k
  revision_set h asks_verdict k a = absurd k

  revision_kept : (h : List Call) (c : Call) → (AtPlace p c → Accepted h c → ⊥) → last_revision (c ∷ h) p ≡ last_revision h p
  unfolding last_revision
  revision_kept h (installs r) n = keeps_it (install_is h r) none (last_revision h p) (n tt)
  revision_kept h (loads f) n = keeps_it (load_is h f) none (last_revision h p) (n tt)
  revision_kept h (opens m) n = keeps_it (open_is h m) none (last_revision h p) (n tt)
  revision_kept h (delivers q v w) n = keeps_at (deliver_is h q v w) (some v) (last_revision h p) p q n
  revision_kept h (withdraws q) n = refl
  revision_kept h asks_verdict n = refl

  pub chunk_set : (h : List Call) (c : Call) → Touches p c → Accepted h c → standing (c ∷ h) p ≡ place_said (λ v w. w) c
  unfolding standing
  chunk_set h (installs r) k a = sets_it (install_is h r) none (standing h p) a
  chunk_set h (loads f) k a = sets_it (load_is h f) none (standing h p) a
  chunk_set h (opens n) k a = sets_it (open_is h n) none (standing h p) a
  chunk_set h (delivers q v w) k a = sets_at (deliver_is h q v w) (some w) (standing h p) p q k a
  chunk_set h (withdraws q) k a = sets_at (withdraw_is h q) none (standing h p) p q k a
  chunk_set h asks_verdict k a = absurd k

  pub chunk_kept : (h : List Call) (c : Call) → (Touches p c → Accepted h c → ⊥) → standing (c ∷ h) p ≡ standing h p
  unfolding standing
  chunk_kept h (installs r) n = keeps_it (install_is h r) none (standing h p) (n tt)
  chunk_kept h (loads f) n = keeps_it (load_is h f) none (standing h p) (n tt)
  chunk_kept h (opens m) n = keeps_it (open_is h m) none (standing h p) (n tt)
  chunk_kept h (delivers q v w) n = keeps_at (deliver_is h q v w) (some w) (standing h p) p q n
  chunk_kept h (withdraws q) n = keeps_at (withdraw_is h q) none (standing h p) p q n
  chunk_kept h asks_verdict n = refl

  no_revision_yet : (v : ℕ) → last_revision [] p ≡ some v → ⊥
  unfolding last_revision
  no_revision_yet v e = none-some refl e

  no_chunk_yet : (w : List ℕ) → standing [] p ≡ some w → ⊥
  unfolding standing
  no_chunk_yet w e = none-some refl e

pub last_revision_lem : (h : List Call) → LastRevision h
last_revision_lem h p v =
    Iff.trans
    (executions.last_law Accepted (AtPlace p) (λ g. last_revision g p) (place_said (λ v w. v)) (revision_set p) (revision_kept p) (at_place? p) accepted? h (some v) (no_revision_yet p v))
    ((λ x. to x.0 x.1 x.2 x.3), λ x. (delivers p v x.0, x.1, x.2, refl))
  where
    to : (c : Call) (earlier : List Call) → Last (AtPlace p) h c earlier → place_said (λ v w. v) c ≡ some v
        → (w : List ℕ) × (e : List Call) × Last (AtPlace p) h (delivers p v w) e
    to (installs r) e l z = none-some refl z
    to (loads f) e l z = none-some refl z
    to (opens n) e l z = none-some refl z
    to (delivers q u w) e l z =
        let same : u ≡ v = cc in
        (w, e, subst₂ (λ (x y : ℕ). Last (AtPlace p) h (delivers x y w) e) l.kind same l)
    to (withdraws q) e l z = none-some refl z
    to asks_verdict e l z = none-some refl z

pub last_standing : (h : List Call) → LastStanding h
last_standing h p w =
    Iff.trans
    (executions.last_law Accepted (Touches p) (λ g. standing g p) (place_said (λ v w. w)) (chunk_set p) (chunk_kept p) (touches? p) accepted? h (some w) (no_chunk_yet p w))
    ((λ x. to x.0 x.1 x.2 x.3), λ x. (delivers p x.0 w, x.1, x.2, refl))
  where
    to : (c : Call) (earlier : List Call) → Last (Touches p) h c earlier → place_said (λ v w. w) c ≡ some w
        → (v : ℕ) × (e : List Call) × Last (Touches p) h (delivers p v w) e
    to (installs r) e l z = none-some refl z
    to (loads f) e l z = none-some refl z
    to (opens n) e l z = none-some refl z
    to (delivers q v u) e l z =
        let same : u ≡ w = cc in
        (v, e, subst₂ (λ (x : ℕ) (y : List ℕ). Last (Touches p) h (delivers x v y) e) l.kind same l)
    to (withdraws q) e l z = none-some refl z
    to asks_verdict e l z = none-some refl z
