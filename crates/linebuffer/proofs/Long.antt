-- A line that is longer than any accepted call needs is told by its first bytes and by whether
-- the rest is hex digits, even in number: its last field is then too long for a number, a rule, a
-- file and a chunk alike. Assumes nothing.
--
--   Tells a b      a line of the meaning a has the outcome of a line of the meaning b
--   stray_call     the rest is not hex digits: the line is malformed
--   hex_line       the rest is hex digits, even in number: the line comes to what its first bytes
--                  come to
--   told           so 131,124 bytes tell the lines of a recorded list apart; Asking.antt those of a text
use mathlib.Core.Path.{◌≡◌, refl, ap, ◌∙◌}
use mathlib.Core.Bool.{Bool, true, false, cond}
use mathlib.Core.List.{List, ◌++◌}
use mathlib.Core.Option.{Option, none, some}
use Prim.Native.Nat.{ℕ, suc, ◌+◌, ◌-◌, ◌%◌, ◌≤◌, ◌<◌}
use native.Mathlib.Omega.{arith}
use borrow.Author.Tests.{ne_eqb, ltb-true, ltb-false}
use lib.Dec.{eqb, ltb}
use lib.ListN.{length, drop, length-append, length-drop}
use lib.Seq.{drop-append-le}
use Rattle.base.proofs.Tests.{by_test}
use Rattle.lines.specs.Splitting.{begins, up_to, past}
use Rattle.lines.proofs.Splits.{up_append, past_there}
use Rattle.fields.specs.Numbers.{parse_number}
use Rattle.fields.specs.Bytes.{all_hex, pairs, parse_bytes}
use Rattle.fields.proofs.Digits.{said_long}
use Rattle.fields.proofs.Pairs.{pairs_length}
use Rattle.longlines.specs.Claims.{TellsWithin}
use Rattle.longlines.proofs.Tails.{begins_append, up_more, past_append, bytes_either, tail_stray, tail_bytes}
use Rattle.calls.specs.declared.Judge.{Judge}
use Rattle.calls.specs.Calls.{loads, delivers, asks_verdict}
use Rattle.calltext.specs.Meaning.{Meaning, call, malformed, load_word, install_word, open_word, deliver_word, withdraw_word, verdict_word, load_by, install_by, open_by, withdraw_by, revision_by, deliver_by, revision_fields, deliver_fields, call_in, line_in}
use Rattle.calltext.proofs.Readings.{no_place, bad_revision}
use Rattle.callrun.specs.Running.{reply_of, line_step}
use Rattle.callrun.proofs.Clipped.{loads_long, delivers_long, installs_long}

-- ---- fields that are malformed
place_none : (f : List ℕ) (o : Option (List ℕ)) → parse_number f ≡ none → deliver_fields f o ≡ malformed
place_none f none e = refl
place_none f (some u) e = rw e (no_place (up_to 32 u) (past 32 u))

revision_none : (p : Option ℕ) (f : List ℕ) (o : Option (List ℕ)) → parse_number f ≡ none → revision_fields p f o ≡ malformed
revision_none p f none e = refl
revision_none p f (some u) e = rw e (bad_revision p (parse_bytes u))

deliver_stray : (p v : Option ℕ) → deliver_by p v none ≡ malformed
deliver_stray none v = refl
deliver_stray (some p) none = refl
deliver_stray (some p) (some v) = refl

verdict_long : (u : List ℕ) → 7 < length u → cond (eqb (length u) 7) (call asks_verdict) malformed ≡ malformed
verdict_long u h = rw (ne_eqb (length u) 7 (λ e. omega arith))

open_long : (u : List ℕ) → 20 < length u → open_by (parse_number u) ≡ malformed
open_long u h = ap open_by (said_long u h)

withdraw_long : (u : List ℕ) → 20 < length u → withdraw_by (parse_number u) ≡ malformed
withdraw_long u h = ap withdraw_by (said_long u h)

install_long : (u : List ℕ) → 4118 ≤ length u → install_by (parse_bytes u) ≡ malformed
install_long u h =
    bytes_either u (omega arith) (λ o. install_by o ≡ malformed) refl (installs_long (pairs u) (omega (arith, pairs_length u)))

-- ---- what a line comes to
record Tells (a b : Meaning) : Type 0 where
  steps : (j : Judge) → line_step j a ≡ line_step j b

tells_malformed : {a b : Meaning} → a ≡ malformed → b ≡ malformed → Tells a b
tells_malformed e f = rw (e, f) (record { steps = λ j. refl })

tells_cond : (b : Bool) (x x' y y' : Meaning) → Tells x x' → Tells y y' → Tells (cond b x y) (cond b x' y')
tells_cond true x x' y y' t e = t
tells_cond false x x' y y' t e = e

cond_malformed : (b : Bool) (x y : Meaning) → x ≡ malformed → y ≡ malformed → cond b x y ≡ malformed
cond_malformed true x y t e = t
cond_malformed false x y t e = e

tells_loads : (f g : List ℕ) → 65537 ≤ length f → 65537 ≤ length g → Tells (call (loads f)) (call (loads g))
tells_loads f g hf hg = record { steps = λ j. ap reply_of (loads_long j f g (omega arith) (omega arith)) }

tells_delivers : (p v : ℕ) (f g : List ℕ) → 65537 ≤ length f → 65537 ≤ length g → Tells (call (delivers p v f)) (call (delivers p v g))
tells_delivers p v f g hf hg = record { steps = λ j. ap reply_of (delivers_long j p v f g (omega arith) (omega arith)) }

-- ---- the fields of a delivery
-- what stands behind the first space
abbrev pub behind : List ℕ → List ℕ
behind u = drop (suc (length (up_to 32 u))) u

-- the meaning from the place on, and from the revision on where the place says p
abbrev from_place : List ℕ → Meaning
from_place u = deliver_fields (up_to 32 u) (past 32 u)

abbrev from_revision : Option ℕ → List ℕ → Meaning
from_revision p u = revision_fields p (up_to 32 u) (past 32 u)

-- the first field of u is too long for a number, or near enough to its beginning
pub far_or_near : (u : List ℕ) (P : Type 0) → (20 < length (up_to 32 u) → P) → (length (up_to 32 u) ≤ 20 → P) → P
far_or_near u P far near =
    by_test (ltb 20 (length (up_to 32 u)))
    (λ b. far (ltb-true 20 (length (up_to 32 u)) b))
    (λ b. near (ltb-false 20 (length (up_to 32 u)) b))

-- u goes on with t
module _ (u t : List ℕ) where
  module _ (far : 20 < length (up_to 32 u)) where
    pub far_number : parse_number (up_to 32 (u ++ t)) ≡ none
    far_number = said_long (up_to 32 (u ++ t)) (omega (arith, far, up_more 32 u t))

    place_far : from_place u ≡ malformed
    place_far = place_none (up_to 32 u) (past 32 u) (said_long (up_to 32 u) far)

    place_far_more : from_place (u ++ t) ≡ malformed
    place_far_more = place_none (up_to 32 (u ++ t)) (past 32 (u ++ t)) far_number

    revision_far : (p : Option ℕ) → from_revision p u ≡ malformed
    revision_far p = revision_none p (up_to 32 u) (past 32 u) (said_long (up_to 32 u) far)

    revision_far_more : (p : Option ℕ) → from_revision p (u ++ t) ≡ malformed
    revision_far_more p = revision_none p (up_to 32 (u ++ t)) (past 32 (u ++ t)) far_number

  -- m bytes at least are behind a field that is near
  module _ (m : ℕ) (long : 21 + m ≤ length u) (near : length (up_to 32 u) ≤ 20) where
    pub inside : length (up_to 32 u) < length u
    inside = omega (arith, near, long)

    pub behind_long : m ≤ length (behind u)
    behind_long = rw (length-drop (suc (length (up_to 32 u))) u) (omega (arith, near, long))

    place_near : from_place u ≡ from_revision (parse_number (up_to 32 u)) (behind u)
    place_near = rw (past_there 32 u inside)

    place_near_more : from_place (u ++ t) ≡ from_revision (parse_number (up_to 32 u)) (behind u ++ t)
    place_near_more = rw (past_append 32 u t inside, up_append 32 u t inside)

    revision_near : (p : Option ℕ) → from_revision p u ≡ deliver_by p (revision_by (parse_number (up_to 32 u))) (parse_bytes (behind u))
    revision_near p = rw (past_there 32 u inside)

    revision_near_more : (p : Option ℕ) → from_revision p (u ++ t) ≡ deliver_by p (revision_by (parse_number (up_to 32 u))) (parse_bytes (behind u ++ t))
    revision_near_more p = rw (past_append 32 u t inside, up_append 32 u t inside)

-- t is not hex digits: from the revision on, and from the place on
module _ (t : List ℕ) (stray : all_hex t ≡ false) where
  stray_revision : (p : Option ℕ) (u : List ℕ) → 131095 ≤ length u → from_revision p (u ++ t) ≡ malformed
  stray_revision p u long =
      far_or_near u (from_revision p (u ++ t) ≡ malformed)
      (λ far. revision_far_more u t far p)
      (λ near.
      let v = revision_by (parse_number (up_to 32 u)) in
      let l = behind_long u t 131074 long near in
      revision_near_more u t 131074 long near p ∙ ap (deliver_by p v) (tail_stray (behind u) t (omega (arith, l)) stray) ∙ deliver_stray p v)

  stray_place : (u : List ℕ) → 131116 ≤ length u → from_place (u ++ t) ≡ malformed
  stray_place u long =
      far_or_near u (from_place (u ++ t) ≡ malformed)
      (λ far. place_far_more u t far)
      (λ near. place_near_more u t 131095 long near ∙ stray_revision (parse_number (up_to 32 u)) (behind u) (behind_long u t 131095 long near))

-- t is hex digits, even in number
module _ (t : List ℕ) (hex : all_hex t ≡ true) (even : length t % 2 ≡ 0) where
  hex_bytes : (p v : Option ℕ) (u : List ℕ) → 131074 ≤ length u → Tells (deliver_by p v (parse_bytes u)) (deliver_by p v (parse_bytes (u ++ t)))
  hex_bytes none v u l = tells_malformed refl refl
  hex_bytes (some p) none u l = tells_malformed refl refl
  hex_bytes (some p) (some v) u l =
      tail_bytes u t (omega arith) hex even 65537 (omega arith)
      (λ a b. Tells (deliver_by (some p) (some v) a) (deliver_by (some p) (some v) b))
      (tells_malformed refl refl)
      (tells_delivers p v)

  hex_revision : (p : Option ℕ) (u : List ℕ) → 131095 ≤ length u → Tells (from_revision p u) (from_revision p (u ++ t))
  hex_revision p u long =
      far_or_near u (Tells (from_revision p u) (from_revision p (u ++ t)))
      (λ far. tells_malformed (revision_far u t far p) (revision_far_more u t far p))
      (λ near.
      rw (revision_near u t 131074 long near p, revision_near_more u t 131074 long near p)
      (hex_bytes p (revision_by (parse_number (up_to 32 u))) (behind u) (behind_long u t 131074 long near)))

  hex_place : (u : List ℕ) → 131116 ≤ length u → Tells (from_place u) (from_place (u ++ t))
  hex_place u long =
      far_or_near u (Tells (from_place u) (from_place (u ++ t)))
      (λ far. tells_malformed (place_far u t far) (place_far_more u t far))
      (λ near.
      rw (place_near u t 131095 long near, place_near_more u t 131095 long near)
      (hex_revision (parse_number (up_to 32 u)) (behind u) (behind_long u t 131095 long near)))

-- ---- the line v ++ t
module _ (v t : List ℕ) (long : 131124 ≤ length v) where
  pub rest : (k : ℕ) → k ≤ 9 → drop k (v ++ t) ≡ drop k v ++ t
  rest k h = drop-append-le k v t (omega arith)

  pub rest_long : (k : ℕ) → k ≤ 9 → 131124 - k ≤ length (drop k v)
  rest_long k h = rw (length-drop k v) (omega arith)

  more_long : (k : ℕ) → k ≤ 9 → 131124 - k ≤ length (drop k (v ++ t))
  more_long k h = rw (rest k h, length-append (drop k v) t) (omega (arith, rest_long k h))

  pub word : (h : List ℕ) → length h ≤ 9 → begins h (v ++ t) ≡ begins h v
  word h l = begins_append h v t (omega arith)

  some_bytes : line_in v ≡ call_in v
  some_bytes = rw (ne_eqb (length v) 0 (λ e. omega arith))

  more_bytes : line_in (v ++ t) ≡ call_in (v ++ t)
  more_bytes = rw (ne_eqb (length (v ++ t)) 0 (λ e. omega (arith, length-append v t)))

  verdict_v : cond (eqb (length v) 7) (call asks_verdict) malformed ≡ malformed
  verdict_v = verdict_long v (omega arith)

  verdict_more : cond (eqb (length (v ++ t)) 7) (call asks_verdict) malformed ≡ malformed
  verdict_more = verdict_long (v ++ t) (omega (arith, length-append v t))

  open_v : open_by (parse_number (drop 5 v)) ≡ malformed
  open_v = open_long (drop 5 v) (omega (arith, rest_long 5 (omega arith)))

  open_more : open_by (parse_number (drop 5 (v ++ t))) ≡ malformed
  open_more = open_long (drop 5 (v ++ t)) (omega (arith, more_long 5 (omega arith)))

  install_v : install_by (parse_bytes (drop 8 v)) ≡ malformed
  install_v = install_long (drop 8 v) (omega (arith, rest_long 8 (omega arith)))

  install_more : install_by (parse_bytes (drop 8 (v ++ t))) ≡ malformed
  install_more = install_long (drop 8 (v ++ t)) (omega (arith, more_long 8 (omega arith)))

  withdraw_v : withdraw_by (parse_number (drop 9 v)) ≡ malformed
  withdraw_v = withdraw_long (drop 9 v) (omega (arith, rest_long 9 (omega arith)))

  withdraw_more : withdraw_by (parse_number (drop 9 (v ++ t))) ≡ malformed
  withdraw_more = withdraw_long (drop 9 (v ++ t)) (omega (arith, more_long 9 (omega arith)))

  module _ (stray : all_hex t ≡ false) where
    stray_load : load_by (parse_bytes (drop 5 (v ++ t))) ≡ malformed
    stray_load = rw (rest 5 (omega arith), tail_stray (drop 5 v) t (omega (arith, rest_long 5 (omega arith))) stray)

    stray_deliver : from_place (drop 8 (v ++ t)) ≡ malformed
    stray_deliver = rw (rest 8 (omega arith)) (stray_place t stray (drop 8 v) (omega (arith, rest_long 8 (omega arith))))

    stray_call : call_in (v ++ t) ≡ malformed
    unfolding call_in
    stray_call =
        cond_malformed (begins verdict_word (v ++ t)) _ _ verdict_more
        (cond_malformed (begins load_word (v ++ t)) _ _ stray_load
        (cond_malformed (begins install_word (v ++ t)) _ _ install_more
        (cond_malformed (begins open_word (v ++ t)) _ _ open_more
        (cond_malformed (begins deliver_word (v ++ t)) _ _ stray_deliver
        (cond_malformed (begins withdraw_word (v ++ t)) _ _ withdraw_more refl)))))

  module _ (hex : all_hex t ≡ true) (even : length t % 2 ≡ 0) where
    hex_load : Tells (load_by (parse_bytes (drop 5 v))) (load_by (parse_bytes (drop 5 (v ++ t))))
    hex_load =
        let l = rest_long 5 (omega arith) in
        rw (rest 5 (omega arith))
        (tail_bytes (drop 5 v) t (omega (arith, l)) hex even 65537 (omega (arith, l)) (λ a b. Tells (load_by a) (load_by b)) (tells_malformed refl refl) tells_loads)

    hex_deliver : Tells (from_place (drop 8 v)) (from_place (drop 8 (v ++ t)))
    hex_deliver = rw (rest 8 (omega arith)) (hex_place t hex even (drop 8 v) (omega (arith, rest_long 8 (omega arith))))

    hex_call : Tells (call_in v) (call_in (v ++ t))
    unfolding call_in
    hex_call =
        rw (word verdict_word (omega arith), word load_word (omega arith), word install_word (omega arith), word open_word (omega arith), word deliver_word (omega arith), word withdraw_word (omega arith))
        (tells_cond (begins verdict_word v) _ _ _ _ (tells_malformed verdict_v verdict_more)
        (tells_cond (begins load_word v) _ _ _ _ hex_load
        (tells_cond (begins install_word v) _ _ _ _ (tells_malformed install_v install_more)
        (tells_cond (begins open_word v) _ _ _ _ (tells_malformed open_v open_more)
        (tells_cond (begins deliver_word v) _ _ _ _ hex_deliver
        (tells_cond (begins withdraw_word v) _ _ _ _ (tells_malformed withdraw_v withdraw_more) (tells_malformed refl refl)))))))

    hex_line : Tells (line_in v) (line_in (v ++ t))
    hex_line = rw (some_bytes, more_bytes) hex_call

-- ---- so lines are told apart, on every judge
pub told : (j : Judge) → TellsWithin 131124 (λ (w : List ℕ). line_step j (line_in w)) (line_step j malformed)
told j = record {
  stray = λ v t long stray. ap (line_step j) (more_bytes v t long ∙ stray_call v t long stray);
  hex = λ v t long hex even. (hex_line v t long hex even).steps j;
}
