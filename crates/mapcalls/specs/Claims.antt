-- What holds after every list of calls; proofs/Histories.antt proves it.
use Rattle.std.specs.Prelude.{◌≡◌, List, ℕ}
use Rattle.std.proofs.Math.Option.{some}
use Rattle.executions.specs.Executions.{state_after}
use Rattle.ruleformat.specs.Reader.{rule_of}
use Rattle.profile.specs.Claims.{Takes}
use Rattle.mapcalls.specs.Calls.{Call, reply_of, map_machine}
use Rattle.mapcalls.specs.Histories.{last_built, right_reply}
use Rattle.mapcalls.specs.Last.{LastBuilt}

pub record Claims : Type 0 where
  -- every call is answered by what the calls before it say
  pub right : (h : List Call) (c : Call) → reply_of (state_after map_machine h) c ≡ right_reply h c
  -- the last file that was built is that of the last accepted build since the profile was forgotten
  pub last : (h : List Call) → LastBuilt h
  -- the file of the last accepted build passes reading, and there is a profile of its rule: what
  -- `profile` claims of a run and of the verdict holds of it
  pub takes : (h : List Call) (f : List ℕ) → last_built h ≡ some f → Takes (rule_of f)
