-- A refusal leaves the state as it was, on any state whatever (demand 1). Assumes nothing.
--
--   refusal_law                 a reply has the number of a refusal exactly where it is that
--                               refusal, of the verdict or of another call
--   unchanged                   the claim
use mathlib.Core.Path.{◌≡◌, refl, ap, ◌∙◌}
use mathlib.Core.Logic.{◌↔◌, ◌⊎◌, inl, inr, ⊎_elim}
use mathlib.Core.Option.{Option, none, some}
use Prim.Native.Nat.{ℕ}
use Rattle.base.proofs.Options.{none-some}
use Rattle.base.specs.Conditions.{first_of}
use Rattle.ruleformat.specs.Reader.{rule_of}
use Rattle.board.specs.Boards.{places_of, is_empty, comes_late, empty_board, filled_at, cleared_at}
use Rattle.calls.specs.declared.Judge.{Judge}
use Rattle.calls.specs.Replies.{Judgement, waiting, yes_with, no_with, refused_with, refusal_in, Reported, Reply, accepted, installed, judged, refused, refusal_of, delivered}
use Rattle.calls.specs.Calls.{installs, loads, opens, delivers, withdraws, asks_verdict, install_number, load_number, open_conditions, deliver_conditions, withdraw_conditions, with_sets}
use Rattle.calls.specs.mirror.Steps.{lacks_rule, lacks_board, with_board, runs_at, outcome_by, with_rule, install_of, load_of, open_of, deliver_of, withdraw_of}
use Rattle.calls.specs.Claims.{Unchanged}

refused_in : (v : Judgement) (x : ℕ) → refusal_in v ≡ some x → v ≡ refused_with x
refused_in (waiting empty) x e = none-some refl e
refused_in (yes_with count) x e = none-some refl e
refused_in (no_with count) x e = none-some refl e
refused_in (refused_with number) x e = cc

pub refusal_law : (a : Reply) (x : ℕ)
    → (refusal_of a ≡ some x) ↔ ((a ≡ refused x) ⊎ ((r : Reported) × (a ≡ judged r) × (r.verdict ≡ refused_with x)))
refusal_law a x = (to a, ⊎_elim (λ e. ap refusal_of e) (λ e. ap refusal_of e.1 ∙ ap refusal_in e.2))
  where
    to : (b : Reply) → refusal_of b ≡ some x → (b ≡ refused x) ⊎ ((r : Reported) × (b ≡ judged r) × (r.verdict ≡ refused_with x))
    to accepted e = none-some refl e
    to (installed sets m) e = none-some refl e
    to (delivered looked) e = none-some refl e
    to (judged r) e = inr (r, refl, refused_in r.verdict x e)
    to (refused number) e = inl cc

by_number : (number : Option ℕ) (a : Reply) (j next : Judge) → refusal_of a ≡ none
    → (x : ℕ) → refusal_of (outcome_by number a j next).reply ≡ some x → (outcome_by number a j next).state ≡ j
by_number none a j next taken x e = none-some taken e
by_number (some m) a j next taken x e = refl

pub unchanged : Unchanged
unfolding install_of load_of open_of deliver_of withdraw_of
unchanged j (installs r) = by_number (install_number r) (with_sets r) j (with_rule r) refl
unchanged j (loads f) = by_number (load_number f) (with_sets (rule_of f)) j (with_rule (rule_of f)) refl
unchanged j (opens n) = by_number (first_of (open_conditions (lacks_rule j) n)) accepted j (with_board j (empty_board n)) refl
unchanged j (delivers p v w) =
    by_number
    (first_of
    (deliver_conditions (lacks_board j) (places_of j.board) p w j.built.k (comes_late j.board p v)))
    (delivered (runs_at j p w).looked)
    j
    (with_board j (filled_at j.board p v (runs_at j p w)))
    refl
unchanged j (withdraws p) =
    by_number (first_of (withdraw_conditions (lacks_board j) (places_of j.board) p (is_empty j.board p))) accepted j
    (with_board j (cleared_at j.board p))
    refl
unchanged j asks_verdict = λ x e. refl
