-- What the calls and their replies say is what the calls alone say, where the replies are document
-- 01's: by induction over the list, call by call. Assumes nothing.
--
--   by_number         a reply refuses by its number
--   agree             `Agree` after every list
use mathlib.Core.Path.{◌≡◌, refl, sym, subst}
use mathlib.Core.Bool.{Bool, true, false, cond, ◌&&◌}
use mathlib.Core.List.{List, [], ◌∷◌}
use mathlib.Core.Option.{Option, none, some}
use Prim.Native.Nat.{ℕ}
use lib.Dec.{eqb}
use Rattle.base.specs.Options.{is_none}
use Rattle.automaton.specs.declared.Rule.{Rule}
use Rattle.ruleformat.specs.Reader.{rule_of}
use Rattle.calls.specs.Replies.{Reply, accepted, delivered, refusal_of}
use Rattle.calls.specs.Calls.{Call, installs, loads, opens, delivers, withdraws, asks_verdict, install_number, load_number, with_sets}
use Rattle.histories.specs.History.{rule_there, places_in, last_revision, standing, open_number, deliver_number, withdraw_number, looked_of, rule_in, reply_by, answer_of, answers_to}
use Rattle.transcripts.specs.Standing.{Standing, after_call, standing_after}
use Rattle.transcripts.specs.Agreement.{Agree}

-- what stands after the call c, where its conditions give the number o
abbrev next : Option ℕ → Standing → Call → Standing
next o s c = cond (is_none o) (after_call s c) s

-- a reply is refused by its number
pub by_number : (o : Option ℕ) (a : Reply) → refusal_of a ≡ none → refusal_of (reply_by o a) ≡ o
by_number none a e = e
by_number (some x) a e = refl

-- one place changed: the test of the place, and then of the number
at_place : {A : Type 0} (same : Bool) (x y : A) → cond same x y ≡ cond (same && true) x y
at_place true x y = refl
at_place false x y = refl

unchanged : {A : Type 0} (same : Bool) (x y : A) → y ≡ cond (same && false) x y
unchanged true x y = refl
unchanged false x y = refl

module _ (h : List Call) (s : Standing) (g : Agree h s) where
  installing : (r : Rule) (o : Option ℕ) → install_number r ≡ o → Agree (installs r ∷ h) (next o s (installs r))
  unfolding rule_there places_in standing last_revision
  installing r none e = record { rule = rw e; sound = e; places = rw e; chunk = λ p. rw e; revision = λ p. rw e }
  installing r (some x) e = record {
    rule = rw e g.rule;
    sound = g.sound;
    places = rw e g.places;
    chunk = λ p. rw e (g.chunk p);
    revision = λ p. rw e (g.revision p);
  }

  loading : (f : List ℕ) (o : Option ℕ) → load_number f ≡ o → Agree (loads f ∷ h) (next o s (loads f))
  unfolding rule_there places_in standing last_revision
  loading f none e = record { rule = rw e; sound = e; places = rw e; chunk = λ p. rw e; revision = λ p. rw e }
  loading f (some x) e = record {
    rule = rw e g.rule;
    sound = g.sound;
    places = rw e g.places;
    chunk = λ p. rw e (g.chunk p);
    revision = λ p. rw e (g.revision p);
  }

  opening : (n : ℕ) (o : Option ℕ) → open_number h n ≡ o → Agree (opens n ∷ h) (next o s (opens n))
  unfolding rule_there places_in standing last_revision
  opening n none e = record { rule = g.rule; sound = g.sound; places = rw e; chunk = λ p. rw e; revision = λ p. rw e }
  opening n (some x) e = record {
    rule = g.rule;
    sound = g.sound;
    places = rw e g.places;
    chunk = λ p. rw e (g.chunk p);
    revision = λ p. rw e (g.revision p);
  }

  delivering : (q v : ℕ) (w : List ℕ) (o : Option ℕ) → deliver_number h q v w ≡ o → Agree (delivers q v w ∷ h) (next o s (delivers q v w))
  unfolding rule_there places_in standing last_revision
  delivering q v w none e = record {
    rule = g.rule;
    sound = g.sound;
    places = g.places;
    chunk = λ p. rw (e, ← g.chunk p) (at_place (eqb q p) (some w) (s.chunk p));
    revision = λ p. rw (e, ← g.revision p) (at_place (eqb q p) (some v) (s.revision p));
  }
  delivering q v w (some x) e = record {
    rule = g.rule;
    sound = g.sound;
    places = g.places;
    chunk = λ p. rw (e, ← g.chunk p) (unchanged (eqb q p) (some w) (s.chunk p));
    revision = λ p. rw (e, ← g.revision p) (unchanged (eqb q p) (some v) (s.revision p));
  }

  withdrawing : (q : ℕ) (o : Option ℕ) → withdraw_number h q ≡ o → Agree (withdraws q ∷ h) (next o s (withdraws q))
  unfolding rule_there places_in standing last_revision
  withdrawing q none e = record {
    rule = g.rule;
    sound = g.sound;
    places = g.places;
    chunk = λ p. rw (e, ← g.chunk p) (at_place (eqb q p) none (s.chunk p));
    revision = g.revision;
  }
  withdrawing q (some x) e = record {
    rule = g.rule;
    sound = g.sound;
    places = g.places;
    chunk = λ p. rw (e, ← g.chunk p) (unchanged (eqb q p) none (s.chunk p));
    revision = g.revision;
  }

  asking : Agree (asks_verdict ∷ h) s
  unfolding rule_there places_in standing last_revision
  asking = record { rule = g.rule; sound = g.sound; places = g.places; chunk = g.chunk; revision = g.revision }

-- whatever is reported, a verdict changes nothing
same : {A : Type 0} (t : Bool) (x : A) → x ≡ cond t x x
same true x = refl
same false x = refl

after : (h : List Call) (s : Standing) → Agree h s → (c : Call) → Agree (c ∷ h) (next (refusal_of (answer_of h c)) s c)
after h s g (installs r) =
    subst (λ (o : Option ℕ). Agree (installs r ∷ h) (next o s (installs r)))
    (sym (by_number (install_number r) (with_sets r) refl))
    (installing h s g r (install_number r) refl)
after h s g (loads f) =
    subst (λ (o : Option ℕ). Agree (loads f ∷ h) (next o s (loads f)))
    (sym (by_number (load_number f) (with_sets (rule_of f)) refl))
    (loading h s g f (load_number f) refl)
after h s g (opens n) =
    subst (λ (o : Option ℕ). Agree (opens n ∷ h) (next o s (opens n)))
    (sym (by_number (open_number h n) accepted refl))
    (opening h s g n (open_number h n) refl)
after h s g (delivers p v w) =
    subst (λ (o : Option ℕ). Agree (delivers p v w ∷ h) (next o s (delivers p v w)))
    (sym (by_number (deliver_number h p v w) (delivered (looked_of (rule_in h) p w)) refl))
    (delivering h s g p v w (deliver_number h p v w) refl)
after h s g (withdraws p) =
    subst (λ (o : Option ℕ). Agree (withdraws p ∷ h) (next o s (withdraws p)))
    (sym (by_number (withdraw_number h p) accepted refl))
    (withdrawing h s g p (withdraw_number h p) refl)
after h s g asks_verdict =
    subst (Agree (asks_verdict ∷ h)) (same (is_none (refusal_of (answer_of h asks_verdict))) s) (asking h s g)

pub agree : (h : List Call) → Agree h (standing_after h (answers_to h))
unfolding standing_after answers_to rule_there places_in standing last_revision
agree [] = record { rule = refl; sound = tt; places = refl; chunk = λ p. refl; revision = λ p. refl }
agree (c ∷ h) = after h (standing_after h (answers_to h)) (agree h) c
