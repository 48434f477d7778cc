-- Deliveries in any order (document 02, R-11): two orders of the same deliveries, no revision twice
-- at a place, leave the same judge, whatever calls were made before, a fresh board among others.
-- Accepted and refused ones are delivered together; nothing is claimed of the answers, which may
-- differ. proofs/Orders.antt proves it.
--
--   Delivery          what a delivery is given: a place, a revision and a chunk
--   call_of d          the call
--   delivering ds h   the calls h, and then the deliveries ds, of which the last is first
--   Reordered ds es   es has the deliveries ds in some order
--   Apart d e         d and e have not one revision at one place
--   ApartFrom d ds    d and each of ds have not
--   NoneTwice ds      no place has a revision twice among ds
--   Orders h          the claim, after the calls h
use Rattle.std.specs.Prelude.{◌≡◌, List, [], ◌∷◌, ℕ}
use Rattle.calls.specs.Calls.{Call, delivers}
use Rattle.histories.specs.Claims.{judge_after}

pub record Delivery : Type 0 where
  pub place : ℕ
  pub revision : ℕ
  pub chunk : List ℕ

abbrev pub call_of : Delivery → Call
call_of d = delivers d.place d.revision d.chunk

abbrev pub delivering : List Delivery → List Call → List Call
delivering [] h = h
delivering (d ∷ ds) h = call_of d ∷ delivering ds h

pub data Reordered : List Delivery → List Delivery → Type 0 where
  nothing : Reordered [] []
  same : (d : Delivery) {ds es : List Delivery} → Reordered ds es → Reordered (d ∷ ds) (d ∷ es)
  swapped : (d e : Delivery) {ds : List Delivery} → Reordered (d ∷ e ∷ ds) (e ∷ d ∷ ds)
  after : {ds es fs : List Delivery} → Reordered ds es → Reordered es fs → Reordered ds fs

abbrev pub Apart : Delivery → Delivery → Type 0
Apart d e = d.place ≡ e.place → d.revision ≡ e.revision → ⊥

abbrev pub ApartFrom : Delivery → List Delivery → Type 0
ApartFrom d [] = Unit {0}
ApartFrom d (e ∷ es) = Apart d e × ApartFrom d es

abbrev pub NoneTwice : List Delivery → Type 0
NoneTwice [] = Unit {0}
NoneTwice (d ∷ ds) = ApartFrom d ds × NoneTwice ds

abbrev pub Orders : List Call → Type 0
Orders h = (ds es : List Delivery) → Reordered ds es → NoneTwice ds → judge_after (delivering ds h) ≡ judge_after (delivering es h)
