-- The claims of specs/Claims.antt. Assumes nothing.
--
--   Agrees h s   the state s is what the calls h say: the profile of the last file that was built, or
--                none
--   agrees       so it is after every list of calls
use Rattle.std.proofs.Common.{Some, None}
use mathlib.Core.Path.{◌≡◌, refl, sym, subst}
use mathlib.Core.List.{List, [], ◌∷◌}
use mathlib.Core.Option.{Option, none, some}
use Prim.Native.Nat.{ℕ}
use native.Mathlib.Omega.{arith}
use Rattle.executions.specs.Executions.{state_after}
use Rattle.ruleformat.specs.Refusals.{refusal}
use Rattle.ruleformat.specs.Reader.{rule_of}
use Rattle.profile.specs.declared.Profile.{Profile}
use Rattle.profile.specs.Profiles.{Reply as Answer, accepted, refused as turned_down, build_number, build_by, profile_of}
use Rattle.profile.specs.Claims.{Takes}
use Rattle.profilefile.specs.Files.{profile_by, profile_in}
use Rattle.mapcalls.specs.declared.MapState.{MapState}
use Rattle.mapcalls.specs.Calls.{Call, forgets, builds, runs, composes, asks, kept_by, reply_of, next_of, map_machine}
use Rattle.mapcalls.specs.Histories.{built_by, last_built, ran_on, said_on, right_reply}
use Rattle.mapcalls.specs.Claims.{Claims}
use Rattle.mapcalls.proofs.Last.{last_built_lem}

-- ---- what an accepted build comes to
record Taken (f : List ℕ) : Type 0 where
  takes : Takes (rule_of f)
  profile : (profile_in f).profile ≡ profile_of (rule_of f)

turned_down_lem : (x count : ℕ) {A : Type 0} → turned_down x ≡ accepted count → A
turned_down_lem x count e = let z : ◌≡◌ {A = ℕ} 0 1 = cc in absurd (omega arith)

built_by_lem : (f : List ℕ) (count : ℕ) (o : Option ℕ) → build_number (rule_of f) ≡ o → (build_by o (rule_of f)).reply ≡ accepted count
    → Takes (rule_of f) × ((build_by o (rule_of f)).profile ≡ profile_of (rule_of f))
built_by_lem f count none e r = (e, refl)
built_by_lem f count (some x) e r = turned_down_lem x count r

read_by : (f : List ℕ) (count : ℕ) (o : Option ℕ) → (profile_by o f).reply ≡ accepted count
    → Takes (rule_of f) × ((profile_by o f).profile ≡ profile_of (rule_of f))
read_by f count none r = built_by_lem f count (build_number (rule_of f)) refl r
read_by f count (some x) r = turned_down_lem x count r

taken : (f : List ℕ) (count : ℕ) → (profile_in f).reply ≡ accepted count → Taken f
unfolding profile_in
taken f count r = let t = read_by f count (refusal f) r in record { takes = t.0; profile = t.1 }

-- ---- the state is what the calls say
pub data Agrees : Option (List ℕ) → MapState → Type 0 where
  nothing : Agrees none (record { profile = None })
  some_built : {f : List ℕ} → Takes (rule_of f) → Agrees (some f) (record { profile = Some (profile_of (rule_of f)) })

builds_agree : (f : List ℕ) (o : Option (List ℕ)) (s : MapState) → Agrees o s → (a : Answer) → (profile_in f).reply ≡ a
    → Agrees (built_by a f o) (kept_by a (profile_in f) s)
builds_agree f o s so (accepted count) e =
    let t = taken f count e in
    subst (λ (p : Profile). Agrees (some f) (record { profile = Some p })) (sym t.profile) (some_built t.takes)
builds_agree f o s so (turned_down x) e = so

pub agrees : (h : List Call) → Agrees (last_built h) (state_after map_machine h)
unfolding state_after last_built next_of
agrees [] = nothing
agrees (forgets ∷ h) = nothing
agrees (builds f ∷ h) = builds_agree f (last_built h) (state_after map_machine h) (agrees h) (profile_in f).reply refl
agrees (runs w ∷ h) = agrees h
agrees (composes f g ∷ h) = agrees h
agrees (asks f ∷ h) = agrees h

-- ---- so each call is answered by what the calls say
ran_right : {o : Option (List ℕ)} {s : MapState} → Agrees o s → (w : List ℕ) → reply_of s (runs w) ≡ ran_on o w
unfolding reply_of
ran_right nothing w = refl
ran_right (some_built t) w = refl

said_right : {o : Option (List ℕ)} {s : MapState} → Agrees o s → (f : List ℕ) → reply_of s (asks f) ≡ said_on o f
unfolding reply_of
said_right nothing f = refl
said_right (some_built t) f = refl

pub right : (h : List Call) (c : Call) → reply_of (state_after map_machine h) c ≡ right_reply h c
unfolding reply_of right_reply
right h forgets = refl
right h (builds f) = refl
right h (runs w) = ran_right (agrees h) w
right h (composes f g) = refl
right h (asks f) = said_right (agrees h) f

takes_by : {o : Option (List ℕ)} {s : MapState} → Agrees o s → (f : List ℕ) → o ≡ some f → Takes (rule_of f)
takes_by nothing f e = let z : ◌≡◌ {A = ℕ} 0 1 = cc in absurd (omega arith)
takes_by (some_built {f = g} t) f e =
    let same : g ≡ f = cc in subst (λ (x : List ℕ). Takes (rule_of x)) same t

pub claims : Claims
claims = record { right = right; last = last_built_lem; takes = λ h f. takes_by (agrees h) f }
