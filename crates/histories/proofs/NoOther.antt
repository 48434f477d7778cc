-- A call is refused with none but its own numbers, as specs/Conditions.antt says: the number of the
-- first condition that holds is one of the list's. Assumes nothing.
--
--   numbers_in cs  the numbers of the conditions cs
--   one_of         the number of the first that holds is one of them
use mathlib.Core.Path.{◌≡◌, refl, sym, ◌∙◌}
use mathlib.Core.Logic.{⊎_elim}
use mathlib.Core.List.Memᴰ.{head as here}
use mathlib.Core.List.Memᴰ.{tail as further}
use mathlib.Core.List.{List, [], ◌∷◌, ◌++◌, Memᴰ as Member}
use mathlib.Core.Option.{some}
use mathlib.Core.Bool.{true, false}
use Prim.Native.Nat.{ℕ}
use lib.Dec.{eqb}
use Rattle.base.specs.Conditions.{Condition, on, first_of}
use Rattle.base.specs.Options.{is_none}
use Rattle.base.proofs.Options.{none-some}
use Rattle.base.proofs.Tests.{zero_one}
use Rattle.rulecheck.specs.Checking.{rule_conditions}
use Rattle.ruleformat.specs.Refusals.{file_conditions}
use Rattle.ruleformat.specs.Reader.{rule_of}
use Rattle.calls.specs.Replies.{judged}
use Rattle.calls.specs.Calls.{Call, installs, loads, opens, delivers, withdraws, asks_verdict, install_number, load_number, many_sets, open_conditions, deliver_conditions, withdraw_conditions}
use Rattle.calls.proofs.Refusing.{refusal_law}
use Rattle.histories.specs.History.{rule_there, rule_in, places_in, not_greater, last_revision, standing, report_in}
use Rattle.histories.specs.Conditions.{NoOtherNumber}
use Rattle.histories.proofs.VerdictSays.{in_words}
use Rattle.histories.proofs.Last.{install_is, load_is, open_is, deliver_is, withdraw_is}

abbrev pub numbers_in : List Condition → List ℕ
numbers_in [] = []
numbers_in (on number test ∷ cs) = number ∷ numbers_in cs

pub one_of : (cs : List Condition) (x : ℕ) → first_of cs ≡ some x → Member x (numbers_in cs)
one_of [] x e = none-some refl e
one_of (on number true ∷ cs) x e = let same : x ≡ number = cc in here same
one_of (on number false ∷ cs) x e = further (one_of cs x e)

pub no_other_number : (h : List Call) → NoOtherNumber h
unfolding install_number load_number
no_other_number h (installs r) x e = one_of (rule_conditions r ++ many_sets r) x (sym (install_is h r) ∙ e)
no_other_number h (loads f) x e = one_of (file_conditions f ++ many_sets (rule_of f)) x (sym (load_is h f) ∙ e)
no_other_number h (opens n) x e = one_of (open_conditions (is_none (rule_there h)) n) x (sym (open_is h n) ∙ e)
no_other_number h (delivers p v w) x e =
    one_of (deliver_conditions (eqb (places_in h) 0) (places_in h) p w (rule_in h).k (not_greater v (last_revision h p))) x
    (sym (deliver_is h p v w) ∙ e)
no_other_number h (withdraws p) x e =
    one_of (withdraw_conditions (eqb (places_in h) 0) (places_in h) p (is_none (standing h p))) x (sym (withdraw_is h p) ∙ e)
no_other_number h asks_verdict x e =
    here (⊎_elim (λ z. zero_one cc) (λ s. (((in_words h (judged (report_in h)) refl).says_refused x).0 s).0) ((refusal_law (judged (report_in h)) x).0 e))
