-- Which file was built last, by the last accepted call that builds or forgets, as specs/Last.antt
-- says: the law of crates/executions. Assumes nothing.
use mathlib.Core.Path.{◌≡◌, refl, subst}
use mathlib.Core.Logic.Iff
use mathlib.Core.Logic.{◌⊎◌, inl, inr}
use mathlib.Core.List.{List, [], ◌∷◌}
use mathlib.Core.Option.{Option, none, some}
use Prim.Native.Nat.{ℕ}
use Rattle.base.proofs.Options.{none-some}
use Rattle.base.proofs.Tests.{zero_one}
use Rattle.executions.specs.Last.{LastAccepted}
use Rattle.executions.proofs.Last as executions
use Rattle.profile.specs.Profiles.{Reply as Answer, accepted, refused as turned_down}
use Rattle.profilefile.specs.Files.{profile_in}
use Rattle.mapcalls.specs.Calls.{Call, forgets, builds, runs, composes, asks, Reply, forgotten, built, mapped, said, lacking, refused, built_reply}
use Rattle.mapcalls.specs.Histories.{built_by, last_built, right_reply}
use Rattle.mapcalls.specs.Last.{Accepted, Changes, LastBuilt}

-- ---- calls are told apart
abbrev Taken : Reply → Type 0
Taken a = (x : ℕ) → a ≡ refused x → ⊥

taken? : (a : Reply) → Taken a ⊎ (Taken a → ⊥)
taken? forgotten = inl (λ x e. zero_one cc)
taken? (built count) = inl (λ x e. zero_one cc)
taken? (mapped f) = inl (λ x e. zero_one cc)
taken? (said b) = inl (λ x e. zero_one cc)
taken? lacking = inl (λ x e. zero_one cc)
taken? (refused x) = inr (λ n. n x refl)

accepted? : (h : List Call) (c : Call) → Accepted h c ⊎ (Accepted h c → ⊥)
accepted? h c = taken? (right_reply h c)

changes? : (c : Call) → Changes c ⊎ (Changes c → ⊥)
changes? forgets = inl tt
changes? (builds f) = inl tt
changes? (runs w) = inr (λ x. x)
changes? (composes f g) = inr (λ x. x)
changes? (asks f) = inr (λ x. x)

-- ---- what a call leaves
abbrev file_said : Call → Option (List ℕ)
file_said forgets = none
file_said (builds f) = some f
file_said (runs w) = none
file_said (composes f g) = none
file_said (asks f) = none

set_by : (f : List ℕ) (o : Option (List ℕ)) (a : Answer) → Taken (built_reply a) → built_by a f o ≡ some f
set_by f o (accepted count) n = refl
set_by f o (turned_down x) n = absurd (n x refl)

kept_by : (f : List ℕ) (o : Option (List ℕ)) (a : Answer) → (Taken (built_reply a) → ⊥) → built_by a f o ≡ o
kept_by f o (accepted count) n = absurd (n (λ x e. zero_one cc))
kept_by f o (turned_down x) n = refl

sets : (h : List Call) (c : Call) → Changes c → Accepted h c → last_built (c ∷ h) ≡ file_said c
unfolding last_built right_reply
sets h forgets k a = refl
sets h (builds f) k a = set_by f (last_built h) (profile_in f).reply a
sets h (runs w) k a = absurd k
sets h (composes f g) k a = absurd k
sets h (asks f) k a = absurd k

keeps : (h : List Call) (c : Call) → (Changes c → Accepted h c → ⊥) → last_built (c ∷ h) ≡ last_built h
unfolding last_built right_reply
keeps h forgets n = absurd (n tt (λ x e. zero_one cc))
keeps h (builds f) n = kept_by f (last_built h) (profile_in f).reply (n tt)
keeps h (runs w) n = refl
keeps h (composes f g) n = refl
keeps h (asks f) n = refl

none_yet : (f : List ℕ) → last_built [] ≡ some f → ⊥
unfolding last_built
none_yet f e = none-some refl e

pub last_built_lem : (h : List Call) → LastBuilt h
last_built_lem h f =
    Iff.trans (executions.last_law Accepted Changes last_built file_said sets keeps changes? accepted? h (some f) (none_yet f))
    ((λ x. to x.0 x.1 x.2 x.3), λ x. (builds f, x.0, x.1, refl))
  where
    to : (c : Call) (earlier : List Call) → LastAccepted Accepted Changes h c earlier → file_said c ≡ some f
        → (e : List Call) × LastAccepted Accepted Changes h (builds f) e
    to forgets e l z = none-some refl z
    to (builds g) e l z = let same : g ≡ f = cc in (e, subst (λ (x : List ℕ). LastAccepted Accepted Changes h (builds x) e) same l)
    to (runs w) e l z = none-some refl z
    to (composes g k) e l z = none-some refl z
    to (asks g) e l z = none-some refl z
