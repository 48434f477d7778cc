-- The calls of a mapping judge, which holds at most one profile (document 02, R-8), what each is
-- answered on any state, and the state that it leaves.
--
--   Call                of a mapping judge
--     forgets           the profile is forgotten
--     builds f          the profile of the rule in the file f is built; refused, the former is kept
--     runs w            the chunk w is run on the profile
--     composes f g      the mapping of two chunks from those of each, f being the earlier chunk's
--     asks f            whether the mapping f says yes
--   Reply               to a call
--     forgotten         the profile was forgotten
--     built count       a profile of so many mappings was built
--     mapped f          the mapping f
--     said b            yes or no
--     lacking           there is no profile
--     refused x         refused with the number x
--   MapState            the profile, if there is one
--   none_yet            no profile
--   reply_of s c        what the call c is answered on the state s
--   next_of s c          the state that it leaves
--   map_machine         both, from no profile on
--   run_with o w, ask_with o f  the reply to a run and to a question, by the profile, if there is one
--   reply_means         what each case of the code's answer says
use Rattle.std.specs.Prelude.{Some, None, Bool, true, false, List, ℕ}
use Rattle.std.specs.Prelude as code
use Rattle.std.proofs.Math.Option.{Option, none, some}
use Rattle.base.specs.Answers.{refusal_number}
use Rattle.executions.specs.Executions.{Machine}
use Rattle.mappings.specs.Mappings.{compose}
use Rattle.profile.specs.declared.Profile.{Profile}
use Rattle.profile.specs.Profiles.{Building, Reply as Answer, accepted, refused as turned_down}
use Rattle.profile.specs.Runs.{Ran, run_of, verdict_of}
use Rattle.profilefile.specs.Files.{profile_in}
use Rattle.mapcalls.specs.declared.MapState.{MapState}
use Rattle.mapcalls.specs.declared.MapAnswer.{MapAnswer}
use Rattle.mapcalls.specs.declared.MapAnswer.TheVariants.{Forgotten, Built, Mapped, Yes, No, Lacking, Refused}

pub data Call : Type 0 where
  forgets : Call
  builds : List ℕ → Call
  runs : List ℕ → Call
  composes : List ℕ → List ℕ → Call
  asks : List ℕ → Call

pub data Reply : Type 0 where
  forgotten : Reply
  built : ℕ → Reply
  mapped : List ℕ → Reply
  said : Bool → Reply
  lacking : Reply
  refused : ℕ → Reply

abbrev pub none_yet : MapState
none_yet = record { profile = None }

-- ---- building
abbrev pub built_reply : Answer → Reply
built_reply (accepted count) = built count
built_reply (turned_down x) = refused x

abbrev pub kept_by : Answer → Building → MapState → MapState
kept_by (accepted count) b s = record { profile = Some b.profile }
kept_by (turned_down x) b s = s

-- ---- running and asking
abbrev pub ran_by : Option ℕ → List ℕ → Reply
ran_by none f = mapped f
ran_by (some x) f = refused x

abbrev pub ran_reply : Ran → Reply
ran_reply r = ran_by r.refusal r.masks

abbrev pub run_with : code.Option Profile → List ℕ → Reply
run_with None w = lacking
run_with (Some p) w = ran_reply (run_of p w)

abbrev pub ask_with : code.Option Profile → List ℕ → Reply
ask_with None f = lacking
ask_with (Some p) f = said (verdict_of p f)

-- ---- all calls
unfoldable pub reply_of : MapState → Call → Reply
reply_of s forgets = forgotten
reply_of s (builds f) = built_reply (profile_in f).reply
reply_of s (runs w) = run_with s.profile w
reply_of s (composes f g) = mapped (compose f g)
reply_of s (asks f) = ask_with s.profile f

unfoldable pub next_of : MapState → Call → MapState
next_of s forgets = none_yet
next_of s (builds f) = kept_by (profile_in f).reply (profile_in f) s
next_of s (runs w) = s
next_of s (composes f g) = s
next_of s (asks f) = s

abbrev pub map_machine : Machine MapState Call Reply
map_machine = record { fresh = none_yet; reply = reply_of; next = next_of }

-- ---- what the code answers
abbrev pub reply_means : MapAnswer → Reply
reply_means Forgotten = forgotten
reply_means (Built count) = built count
reply_means (Mapped mapping) = mapped mapping.masks
reply_means Yes = said true
reply_means No = said false
reply_means Lacking = lacking
reply_means (Refused refusal) = refused (refusal_number refusal)
