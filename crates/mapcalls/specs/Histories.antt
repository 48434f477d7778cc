-- What the calls before say, and nothing else (a list has the LAST call first).
--
--   last_built h      the file of the last accepted build since the profile was last forgotten
--   right_reply h c   the right reply to the call c after the calls h: by the profile of that file,
--                     where there is one
use Rattle.std.specs.Prelude.{List, [], ◌∷◌, ℕ}
use Rattle.std.proofs.Math.Option.{Option, none, some}
use Rattle.ruleformat.specs.Reader.{rule_of}
use Rattle.mappings.specs.Mappings.{compose}
use Rattle.profile.specs.Profiles.{Reply as Answer, accepted, refused as turned_down, profile_of}
use Rattle.profile.specs.Runs.{run_of, verdict_of}
use Rattle.profilefile.specs.Files.{profile_in}
use Rattle.mapcalls.specs.Calls.{Call, forgets, builds, runs, composes, asks, Reply, forgotten, mapped, said, lacking, built_reply, ran_reply}

abbrev pub built_by : Answer → List ℕ → Option (List ℕ) → Option (List ℕ)
built_by (accepted count) f former = some f
built_by (turned_down x) f former = former

unfoldable pub last_built : List Call → Option (List ℕ)
last_built [] = none
last_built (forgets ∷ h) = none
last_built (builds f ∷ h) = built_by (profile_in f).reply f (last_built h)
last_built (runs w ∷ h) = last_built h
last_built (composes f g ∷ h) = last_built h
last_built (asks f ∷ h) = last_built h

abbrev pub ran_on : Option (List ℕ) → List ℕ → Reply
ran_on none w = lacking
ran_on (some f) w = ran_reply (run_of (profile_of (rule_of f)) w)

abbrev pub said_on : Option (List ℕ) → List ℕ → Reply
said_on none g = lacking
said_on (some f) g = said (verdict_of (profile_of (rule_of f)) g)

unfoldable pub right_reply : List Call → Call → Reply
right_reply h forgets = forgotten
right_reply h (builds f) = built_reply (profile_in f).reply
right_reply h (runs w) = ran_on (last_built h) w
right_reply h (composes f g) = mapped (compose f g)
right_reply h (asks f) = said_on (last_built h) f
