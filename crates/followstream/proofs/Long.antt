-- A line that is longer than any accepted call needs is told by its first bytes and by whether the
-- rest is hex digits, even in number: its field is then too long for a file and a chunk alike. Assumes
-- nothing.
--
--   Tells s a b    a line of the meaning a comes to what a line of the meaning b does, on the state s
--   told           so 131,079 bytes tell lines apart
use mathlib.Core.Path.{◌≡◌, refl, ap}
use mathlib.Core.Bool.{Bool, true, false, cond}
use mathlib.Core.List.{List, ◌++◌}
use mathlib.Core.Option.{Option, none}
use Prim.Native.Nat.{ℕ, ◌%◌, ◌≤◌}
use native.Mathlib.Omega.{arith}
use borrow.Author.Tests.{ne_eqb}
use lib.Dec.{eqb}
use lib.ListN.{length, drop, length-append, length-drop}
use lib.Seq.{drop-append-le}
use Rattle.lines.specs.Splitting.{begins as begins_with}
use Rattle.fields.specs.Bytes.{all_hex, parse_bytes}
use Rattle.longlines.proofs.Tails.{begins_append, tail_stray, tail_bytes}
use Rattle.linetexts.specs.Beginnings.{Told}
use Rattle.linetexts.specs.Lists.{list_teller}
use Rattle.linetexts.proofs.Lists.{told_lists}
use Rattle.followcalls.specs.declared.FollowState.{FollowState}
use Rattle.followcalls.specs.Calls.{Call}
use Rattle.followlines.specs.Lines.{rule_word, next_word, call_by, line_in}
use Rattle.followlines.specs.Answers.{line_step}
use Rattle.followlines.proofs.Long.{step_long}
use Rattle.followstream.specs.Texts.{told_as, follow_list}

cond_none : (b : Bool) (x y : Option Call) → x ≡ none → y ≡ none → cond b x y ≡ none
cond_none true x y ex ey = ex
cond_none false x y ex ey = ey

-- ---- what a line comes to
abbrev Tells : FollowState → Option Call → Option Call → Type 0
Tells s a b = line_step s a ≡ line_step s b

tells_cond : (s : FollowState) (b : Bool) (x x' y y' : Option Call) → Tells s x x' → Tells s y y' → Tells s (cond b x y) (cond b x' y')
tells_cond s true x x' y y' t e = t
tells_cond s false x x' y y' t e = e

-- ---- the line v ++ t
module _ (v t : List ℕ) (long : 131079 ≤ length v) where
  rest : drop 5 (v ++ t) ≡ drop 5 v ++ t
  rest = drop-append-le 5 v t (omega arith)

  rest_long : 131074 ≤ length (drop 5 v)
  rest_long = rw (length-drop 5 v) (omega arith)

  word : (h : List ℕ) → length h ≤ 5 → begins_with h (v ++ t) ≡ begins_with h v
  word h l = begins_append h v t (omega arith)

  some_v : eqb (length v) 0 ≡ false
  some_v = ne_eqb (length v) 0 (λ e. omega arith)

  some_more : eqb (length (v ++ t)) 0 ≡ false
  some_more = ne_eqb (length (v ++ t)) 0 (λ e. omega (arith, length-append v t))

  stray_line : all_hex t ≡ false → line_in (v ++ t) ≡ none
  unfolding line_in
  stray_line stray =
      rw some_more
      (cond_none (begins_with rule_word (v ++ t)) _ _ (call true)
      (cond_none (begins_with next_word (v ++ t)) _ _ (call false) refl))
    where
      call : (rule : Bool) → call_by rule (parse_bytes (drop 5 (v ++ t))) ≡ none
      call rule = rw (rest, tail_stray (drop 5 v) t (omega (arith, rest_long)) stray)

  module _ (s : FollowState) (hex : all_hex t ≡ true) (even : length t % 2 ≡ 0) where
    hex_call : (rule : Bool) → Tells s (call_by rule (parse_bytes (drop 5 v))) (call_by rule (parse_bytes (drop 5 (v ++ t))))
    hex_call rule =
        rw rest
        (tail_bytes (drop 5 v) t (omega (arith, rest_long)) hex even 65537 (omega (arith, rest_long)) (λ a b. Tells s (call_by rule a) (call_by rule b))
        refl (λ f g hf hg. step_long s rule f g (omega arith) (omega arith)))

    hex_line : Tells s (line_in v) (line_in (v ++ t))
    unfolding line_in
    hex_line =
        rw (some_v, some_more, word rule_word (omega arith), word next_word (omega arith))
        (tells_cond s (begins_with rule_word v) _ _ _ _ (hex_call true)
        (tells_cond s (begins_with next_word v) _ _ _ _ (hex_call false) refl))

pub told : Told (list_teller follow_list)
told =
    told_lists follow_list (omega arith)
    (λ s. record {
      stray = λ v t long stray. ap (λ (o : Option Call). told_as (line_step s o)) (stray_line v t long stray);
      hex = λ v t long hex even. ap told_as (hex_line v t long s hex even);
    })
