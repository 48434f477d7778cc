-- A file or a chunk that is too long is refused by its length alone, and bytes that are too many
-- for a rule are malformed, so the first of them stand for all. Assumes nothing.
--
--   long_load                    the number is 2
--   loads_long, delivers_long    one that is too long has the outcome of any other
--   installs_long                one that is too long for a rule is malformed
--   loads_clip, delivers_clip, installs_clip   the first bytes, one more than the limit at least,
--                                come to what all of them come to
use mathlib.Core.Path.{◌≡◌, refl, sym, ap, ◌∙◌}
use mathlib.Core.Bool.{Bool, true, false, cond}
use mathlib.Core.List.{List}
use mathlib.Core.Option.{some}
use Prim.Native.Nat.{ℕ, ◌≤◌, ◌<◌}
use native.Mathlib.Omega.{arith}
use borrow.Author.Tests.{lt-ltb, le-ltb, ne_eqb, ltb-true, ltb-false}
use lib.Dec.{ltb, leb}
use lib.ListN.{length, take}
use lib.Seq.{take_all, length-take-le}
use Rattle.base.proofs.Tests.{by_test}
use Rattle.ruleformat.specs.Refusals.{too_short, too_long}
use Rattle.board.specs.Boards.{places_of}
use Rattle.calls.specs.declared.Judge.{Judge}
use Rattle.calls.specs.Replies.{Reply}
use Rattle.calls.specs.Calls.{load_number}
use Rattle.calls.specs.mirror.Steps.{outcome_by, lacks_board, load_of, deliver_of}
use Rattle.calltext.specs.Meaning.{malformed, install_by}

pub long_load : (f : List ℕ) → 32906 < length f → load_number f ≡ some 2
unfolding load_number too_short too_long
long_load f h = rw (le-ltb (length f) 10 (omega arith), lt-ltb 32906 (length f) h)

-- ---- load
pub loads_long : (j : Judge) (f g : List ℕ) → 32906 < length f → 32906 < length g → load_of j f ≡ load_of j g
unfolding load_of
loads_long j f g hf hg = rw (long_load f hf, long_load g hg)

pub loads_clip : (j : Judge) (f : List ℕ) (n : ℕ) → 32907 ≤ n → load_of j (take n f) ≡ load_of j f
loads_clip j f n h =
    by_test (ltb n (length f))
    (λ t.
    let more = ltb-true n (length f) t in
    loads_long j (take n f) f (omega (arith, length-take-le n f (omega (arith, more)))) (omega (arith, more)))
    (λ t. ap (load_of j) (take_all n f (ltb-false n (length f) t)))

-- ---- deliver
by_12 : (a b : Bool) (x y : Reply) (j next next' : Judge)
    → outcome_by (cond a (some 21) (cond b (some 11) (some 12))) x j next ≡ outcome_by (cond a (some 21) (cond b (some 11) (some 12))) y j next'
by_12 true b x y j next next' = refl
by_12 false true x y j next next' = refl
by_12 false false x y j next next' = refl

pub delivers_long : (j : Judge) (p v : ℕ) (f g : List ℕ) → 65536 < length f → 65536 < length g → deliver_of j p v f ≡ deliver_of j p v g
unfolding deliver_of
delivers_long j p v f g hf hg = rw (lt-ltb 65536 (length f) hf, lt-ltb 65536 (length g) hg) (by_12 (lacks_board j) (leb (places_of j.board) p) _ _ j _ _)

pub delivers_clip : (j : Judge) (p v : ℕ) (w : List ℕ) (n : ℕ) → 65537 ≤ n → deliver_of j p v (take n w) ≡ deliver_of j p v w
delivers_clip j p v w n h =
    by_test (ltb n (length w))
    (λ t.
    let more = ltb-true n (length w) t in
    delivers_long j p v (take n w) w (omega (arith, length-take-le n w (omega (arith, more)))) (omega (arith, more)))
    (λ t. ap (deliver_of j p v) (take_all n w (ltb-false n (length w) t)))

-- ---- install
pub installs_long : (b : List ℕ) → 2058 < length b → install_by (some b) ≡ malformed
installs_long b h = rw (ne_eqb (length b) 2058 (λ e. omega arith))

pub installs_clip : (b : List ℕ) (n : ℕ) → 2059 ≤ n → install_by (some (take n b)) ≡ install_by (some b)
installs_clip b n h =
    by_test (ltb n (length b))
    (λ t.
    let more = ltb-true n (length b) t in
    installs_long (take n b) (omega (arith, length-take-le n b (omega (arith, more)))) ∙ sym (installs_long b (omega (arith, more))))
    (λ t. ap (λ (w : List ℕ). install_by (some w)) (take_all n b (ltb-false n (length b) t)))
