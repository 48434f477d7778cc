-- Which rule is the last, by the last accepted call that begins a trace or forgets, as
-- specs/Histories.antt says: the law of crates/executions. Assumes nothing.
use mathlib.Core.Path.{◌≡◌, refl, subst}
use mathlib.Core.Logic.Iff
use mathlib.Core.Logic.{◌⊎◌, inl, inr}
use mathlib.Core.List.{List, [], ◌∷◌}
use mathlib.Core.Option.{Option, none, some}
use Prim.Native.Nat.{ℕ}
use Rattle.base.proofs.Options.{none-some}
use Rattle.base.proofs.Tests.{zero_one}
use Rattle.executions.specs.Last.{LastAccepted}
use Rattle.executions.proofs.Last as executions
use Rattle.ruleformat.specs.Refusals.{refusal}
use Rattle.followcalls.specs.Calls.{Call, forgets, begins, follows, Reply, forgotten, begun, going, lost_at, refused, begun_reply}
use Rattle.followcalls.specs.Histories.{unless, rule_in, right_reply, Accepted, Changes, LastBegun}

-- ---- calls are told apart
abbrev Taken : Reply → Type 0
Taken a = (x : ℕ) → a ≡ refused x → ⊥

taken? : (a : Reply) → Taken a ⊎ (Taken a → ⊥)
taken? forgotten = inl (λ x e. zero_one cc)
taken? begun = inl (λ x e. zero_one cc)
taken? (going b m) = inl (λ x e. zero_one cc)
taken? (lost_at b m) = inl (λ x e. zero_one cc)
taken? (refused x) = inr (λ n. n x refl)

changes? : (c : Call) → Changes c ⊎ (Changes c → ⊥)
changes? forgets = inl tt
changes? (begins f) = inl tt
changes? (follows w) = inr (λ x. x)

-- ---- what a call leaves
abbrev file_said : Call → Option (List ℕ)
file_said forgets = none
file_said (begins f) = some f
file_said (follows w) = none

set_by : {A : Type 0} (new former : A) (o : Option ℕ) → Taken (begun_reply o) → unless o new former ≡ new
set_by new former none n = refl
set_by new former (some x) n = absurd (n x refl)

kept_by : {A : Type 0} (new former : A) (o : Option ℕ) → (Taken (begun_reply o) → ⊥) → unless o new former ≡ former
kept_by new former none n = absurd (n (λ x e. zero_one cc))
kept_by new former (some x) n = refl

sets : (h : List Call) (c : Call) → Changes c → Accepted h c → rule_in (c ∷ h) ≡ file_said c
unfolding rule_in right_reply
sets h forgets k a = refl
sets h (begins f) k a = set_by (some f) (rule_in h) (refusal f) a
sets h (follows w) k a = absurd k

keeps : (h : List Call) (c : Call) → (Changes c → Accepted h c → ⊥) → rule_in (c ∷ h) ≡ rule_in h
unfolding rule_in right_reply
keeps h forgets n = absurd (n tt (λ x e. zero_one cc))
keeps h (begins f) n = kept_by (some f) (rule_in h) (refusal f) (n tt)
keeps h (follows w) n = refl

none_yet : (f : List ℕ) → rule_in [] ≡ some f → ⊥
unfolding rule_in
none_yet f e = none-some refl e

pub last_begun : (h : List Call) → LastBegun h
last_begun h f =
    Iff.trans (executions.last_law Accepted Changes rule_in file_said sets keeps changes? (λ g c. taken? (right_reply g c)) h (some f) (none_yet f))
    ((λ x. to x.0 x.1 x.2 x.3), λ x. (begins f, x.0, x.1, refl))
  where
    to : (c : Call) (earlier : List Call) → LastAccepted Accepted Changes h c earlier → file_said c ≡ some f
        → (e : List Call) × LastAccepted Accepted Changes h (begins f) e
    to forgets e l z = none-some refl z
    to (begins g) e l z = let same : g ≡ f = cc in (e, subst (λ (x : List ℕ). LastAccepted Accepted Changes h (begins x) e) same l)
    to (follows w) e l z = none-some refl z
