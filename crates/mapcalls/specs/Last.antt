-- Which file was built last, by executions' LastAccepted: over the list cut in two at that call,
-- where specs/Histories.antt goes through the list. proofs/Last.antt proves that both say the same.
--
--   Accepted h c       after the calls h the call c is answered with no refusal
--   Changes c          the call may change which profile there is: it builds one, or forgets it
--   LastBuilt h        the file of `last_built h` is f exactly where the last accepted of these
--                      calls builds f
use Rattle.std.specs.Prelude.{◌≡◌, ◌↔◌, List, ℕ}
use Rattle.std.proofs.Math.Option.{some}
use Rattle.executions.specs.Last.{LastAccepted}
use Rattle.mapcalls.specs.Calls.{Call, forgets, builds, runs, composes, asks, refused}
use Rattle.mapcalls.specs.Histories.{last_built, right_reply}

abbrev pub Accepted : List Call → Call → Type 0
Accepted h c = (x : ℕ) → right_reply h c ≡ refused x → ⊥

abbrev pub Changes : Call → Type 0
Changes forgets = Unit {0}
Changes (builds f) = Unit {0}
Changes (runs w) = ⊥
Changes (composes f g) = ⊥
Changes (asks f) = ⊥

abbrev pub LastBuilt : List Call → Type 0
LastBuilt h = (f : List ℕ) → (last_built h ≡ some f) ↔ (earlier : List Call) × LastAccepted Accepted Changes h (builds f) earlier
