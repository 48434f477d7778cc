-- The ways through the functions that answer a line. Assumes nothing.
--
--   run-…, build-…, ask-…, compose-…   a line of that word, by what its fields say
--   told                    what a test found
--   …-inside                a line that begins with the word has it whole
--   line-…                  a line by the word with which it begins
--   changed, unchanged      whether a line may change the profile
use mathlib.Core.Path.{◌≡◌, refl, sym, ap, ◌∙◌, subst}
use mathlib.Core.Bool.{Bool, true, false, true≢false, cond}
use mathlib.Core.List.{List, [], ◌∷◌}
use mathlib.Core.Option.{Option, none, some}
use Prim.Native.Nat.{ℕ, suc, ◌+◌, ◌-◌, ◌≤◌, ◌<◌}
use native.Mathlib.Omega.{arith}
use borrow.Author.Tests.{eq-eqb, ne_eqb, ltb-true, ltb-false}
use lib.Dec.{eqb, ltb}
use lib.ListN.{length, take, drop, length-drop}
use lib.Seq.{take_all, drop-drop}
use Rattle.base.proofs.Tests.{by_test}
use Rattle.text.specs.Writing.{Wrote}
use Rattle.lines.specs.Splitting.{begins, up_to, past}
use Rattle.lines.proofs.Splits.{begins_short, up_take, past_there, past_none}
use Rattle.fields.specs.Bytes.{parse_bytes, Took}
use Rattle.fields.proofs.Taking.{carries, not_bytes}
use Rattle.mappings.specs.declared.Mapping.{Mapping}
use Rattle.maptext.specs.MappingText.{parse_mapping}
use Rattle.mapcalls.specs.declared.MapState.{MapState}
use Rattle.mapcalls.specs.declared.MapAnswer.{MapAnswer}
use Rattle.mapcalls.specs.Calls.{Call, Reply, forgets, builds, runs, composes, asks, none_yet, reply_of, next_of, reply_means}
use Rattle.maplines.specs.Lines.{build_word, run_word, compose_word, verdict_word, build_by, run_by, ask_by, compose_by, compose_fields, ask_in, line_in, changes}
use Rattle.mapreplies.specs.Replies.{reply_text}
use Rattle.maplines.specs.Answers.{left_by, Says, Replies}
use Rattle.maplines.specs.declared.Said.{Said}
use Rattle.maplines.proofs.Long.{builds_long, left_long, runs_long, clip}

by_call : {s : MapState} {o p : Option Call} {before after : List ℕ} {r : Said} → o ≡ p → Says s o before after r → Says s p before after r
by_call {s} {o} {p} {before} {after} {r} same w = subst (λ (x : Option Call). Says s x before after r) same w

-- a call that was replied to as it must be
replied : {s : MapState} (c : Call) {a : Reply} {before after : List ℕ} {r : Said} → a ≡ reply_of s c → Replies a before after r
    → Says s (some c) before after r
replied {s} c {a} {before} {after} {r} is w = record {
  text = subst (λ (x : Reply). Wrote before 0 (reply_text x) after r.written) is w.text;
  ended = w.goes_on;
}

-- ---- a file and a chunk
module _ (field before after : List ℕ) (x : Option ℕ) (took : Took field before x after) (s : MapState) where
  module _ (e : x ≡ none) (b a : List ℕ) (said : Said) (wrote : (t : MapState) → Says t none b a said) where
    pub run_malformed : Says s (run_by (parse_bytes field)) b a said
    run_malformed = rw (not_bytes field before after x took e) (wrote s)

    pub build_malformed : Says s (build_by (parse_bytes field)) b a said
    build_malformed = rw (not_bytes field before after x took e) (wrote s)

  pub build_stays : x ≡ none → s ≡ left_by s (build_by (parse_bytes field))
  build_stays e = rw (not_bytes field before after x took e)

  module _ (room : 65537 ≤ length before) (n : ℕ) (put : x ≡ some n) where
    module _ (r : MapAnswer) (b a : List ℕ) (said : Said) (wrote : Replies (reply_means r) b a said) where
      pub run_put : reply_means r ≡ reply_of s (runs (take n after)) → Says s (run_by (parse_bytes field)) b a said
      run_put is =
          let k = carries field before after x took n put in
          let whole = is ∙ ap (λ (w : List ℕ). reply_of s (runs w)) k.is ∙ clip 65536 (λ (w : List ℕ). reply_of s (runs w)) (runs_long s) k.bytes (length before) (omega arith) in
          rw k.said (replied _ whole wrote)

      pub build_put : reply_means r ≡ reply_of s (builds (take n after)) → Says s (build_by (parse_bytes field)) b a said
      build_put is =
          let k = carries field before after x took n put in
          let whole = is ∙ ap (λ (w : List ℕ). reply_of s (builds w)) k.is ∙ clip 32906 (λ (w : List ℕ). reply_of s (builds w)) (builds_long s) k.bytes (length before) (omega arith) in
          rw k.said (replied _ whole wrote)

    pub build_left : (t : MapState) → t ≡ next_of s (builds (take n after)) → t ≡ left_by s (build_by (parse_bytes field))
    build_left t is =
        let k = carries field before after x took n put in
        let whole = is ∙ ap (λ (w : List ℕ). next_of s (builds w)) k.is ∙ clip 32906 (λ (w : List ℕ). next_of s (builds w)) (left_long s) k.bytes (length before) (omega arith) in
        rw k.said whole

-- ---- a mapping
module _ (field : List ℕ) (s : MapState) (b a : List ℕ) (said : Said) where
  pub ask_malformed : none ≡ parse_mapping field → ((t : MapState) → Says t none b a said) → Says s (ask_by (parse_mapping field)) b a said
  ask_malformed read wrote = by_call (ap ask_by read) (wrote s)

  pub ask_put : (m : Mapping) → some m.masks ≡ parse_mapping field → (reply : MapAnswer) → reply_means reply ≡ reply_of s (asks m.masks)
      → Replies (reply_means reply) b a said → Says s (ask_by (parse_mapping field)) b a said
  ask_put m read reply is wrote = by_call (ap ask_by read) (replied (asks m.masks) is wrote)

-- a part of a line up to its end
to_the_end : (w : List ℕ) (from : ℕ) → take (length w - from) (drop from w) ≡ drop from w
to_the_end w from = take_all (length w - from) (drop from w) (omega (arith, length-drop from w))

-- ---- two mappings: `space` is the index of the first space from 8 on
module _ (w : List ℕ) (long : 8 ≤ length w) (space : ℕ) (found : space ≡ 8 + length (up_to 32 (drop 8 w))) (b a : List ℕ) (said : Said) where
  abbrev fields : Option Call
  fields = compose_fields (up_to 32 (drop 8 w)) (past 32 (drop 8 w))

  rest_length : length (drop 8 w) + 8 ≡ length w
  rest_length = omega (arith, length-drop 8 w)

  malformed_by : fields ≡ none → ((t : MapState) → Says t none b a said) → (s : MapState) → Says s fields b a said
  malformed_by e wrote s = by_call (sym e) (wrote s)

  pub compose_alone : length w ≤ space → ((t : MapState) → Says t none b a said) → (s : MapState) → Says s fields b a said
  compose_alone l wrote s =
      malformed_by (ap (compose_fields (up_to 32 (drop 8 w))) (past_none 32 (drop 8 w) (omega (arith, rest_length)))) wrote s

  module _ (here : space < length w) where
    part_is : take (space - 8) (drop 8 w) ≡ up_to 32 (drop 8 w)
    part_is =
        let size : space - 8 ≡ length (up_to 32 (drop 8 w)) = omega (arith, found) in
        ap (λ (x : ℕ). take x (drop 8 w)) size ∙ sym (up_take 32 (drop 8 w))

    behind_is : past 32 (drop 8 w) ≡ some (drop (space + 1) w)
    behind_is =
        let m = length (up_to 32 (drop 8 w)) in
        let next : 8 + suc m ≡ space + 1 = omega (arith, found) in
        past_there 32 (drop 8 w) (omega (arith, rest_length))
        ∙ ap (λ (l : List ℕ). some l) (drop-drop (suc m) 8 w ∙ ap (λ (x : ℕ). drop x w) next)

    fields_are : fields ≡ compose_by (parse_mapping (take (space - 8) (drop 8 w))) (parse_mapping (drop (space + 1) w))
    fields_are =
        ap (compose_fields (up_to 32 (drop 8 w))) behind_is
        ∙ ap (λ (v : List ℕ). compose_by (parse_mapping v) (parse_mapping (drop (space + 1) w))) (sym part_is)

    pub compose_first : none ≡ parse_mapping (take (space - 8) (drop 8 w)) → ((t : MapState) → Says t none b a said) → (s : MapState) → Says s fields b a said
    compose_first read wrote s =
        malformed_by (fields_are ∙ sym (ap (λ (o : Option (List ℕ)). compose_by o (parse_mapping (drop (space + 1) w))) read)) wrote s

    module _ (m : Mapping) (read : some m.masks ≡ parse_mapping (take (space - 8) (drop 8 w))) where
      both_are : (o : Option (List ℕ)) → o ≡ parse_mapping (take (length w - (space + 1)) (drop (space + 1) w)) → fields ≡ compose_by (some m.masks) o
      both_are o is =
          fields_are
          ∙ sym (ap (λ (x : Option (List ℕ)). compose_by x (parse_mapping (drop (space + 1) w))) read)
          ∙ ap (compose_by (some m.masks)) (ap parse_mapping (sym (to_the_end w (space + 1))) ∙ sym is)

      pub compose_second : none ≡ parse_mapping (take (length w - (space + 1)) (drop (space + 1) w)) → ((t : MapState) → Says t none b a said)
          → (s : MapState) → Says s fields b a said
      compose_second is wrote s = malformed_by (both_are none is) wrote s

      pub compose_put : (n : Mapping) → some n.masks ≡ parse_mapping (take (length w - (space + 1)) (drop (space + 1) w))
          → (reply : MapAnswer) → ((s : MapState) → reply_means reply ≡ reply_of s (composes m.masks n.masks))
          → Replies (reply_means reply) b a said → (s : MapState) → Says s fields b a said
      compose_put n is reply replies wrote s =
          by_call (sym (both_are (some n.masks) is)) (replied (composes m.masks n.masks) (replies s) wrote)

-- ---- the word with which a line begins
pub told : {b t x : Bool} → b ≡ x → b ≡ t → x ≡ t
told is found = sym is ∙ found

begins_long : (h w : List ℕ) → begins h w ≡ true → length h ≤ length w
begins_long h w e =
    by_test (ltb (length w) (length h))
    (λ l. absurd (true≢false (sym e ∙ begins_short h w (ltb-true (length w) (length h) l))))
    (λ l. ltb-false (length w) (length h) l)

module _ (w : List ℕ) where
  pub run_inside : begins run_word w ≡ true → 4 ≤ length w
  run_inside e = begins_long run_word w e

  pub build_inside : begins build_word w ≡ true → 6 ≤ length w
  build_inside e = begins_long build_word w e

  pub compose_inside : begins compose_word w ≡ true → 8 ≤ length w
  compose_inside e = begins_long compose_word w e

  pub verdict_inside : begins verdict_word w ≡ true → 8 ≤ length w
  verdict_inside e = begins_long verdict_word w e

  module _ (s : MapState) (b a : List ℕ) (said : Said) where
    pub line_run : begins run_word w ≡ true → Says s (run_by (parse_bytes (take (length w - 4) (drop 4 w)))) b a said
        → Says s (ask_in w) b a said
    unfolding ask_in
    line_run e wrote = by_call (ap (λ (v : List ℕ). run_by (parse_bytes v)) (to_the_end w 4) ∙ rw e) wrote

    module _ (not-run : begins run_word w ≡ false) where
      pub line_compose : begins compose_word w ≡ true
          → ((t : MapState) → Says t (compose_fields (up_to 32 (drop 8 w)) (past 32 (drop 8 w))) b a said)
          → Says s (ask_in w) b a said
      unfolding ask_in
      line_compose e wrote = rw (not-run, e) (wrote s)

      module _ (not-compose : begins compose_word w ≡ false) where
        pub line_verdict : begins verdict_word w ≡ true → Says s (ask_by (parse_mapping (take (length w - 8) (drop 8 w)))) b a said
            → Says s (ask_in w) b a said
        unfolding ask_in
        line_verdict e wrote = by_call (ap (λ (v : List ℕ). ask_by (parse_mapping v)) (to_the_end w 8) ∙ rw (not-run, not-compose, e)) wrote

        pub line_other : begins verdict_word w ≡ false → ((t : MapState) → Says t none b a said) → Says s (ask_in w) b a said
        unfolding ask_in
        line_other e wrote = rw (not-run, not-compose, e) (wrote s)

  -- ---- any line
  empty-is : length w ≡ 0 → line_in w ≡ some forgets
  unfolding line_in
  empty-is e = rw (eq-eqb (length w) 0 e)

  module _ (some_byte : length w ≡ 0 → ⊥) where
    build_is : begins build_word w ≡ true → line_in w ≡ build_by (parse_bytes (take (length w - 6) (drop 6 w)))
    unfolding line_in
    build_is e = rw (ne_eqb (length w) 0 some_byte, e) (ap (λ (v : List ℕ). build_by (parse_bytes v)) (sym (to_the_end w 6)))

    other_is : begins build_word w ≡ false → line_in w ≡ ask_in w
    unfolding line_in
    other_is e = rw (ne_eqb (length w) 0 some_byte, e)

  ask-stays : (s : MapState) (o : Option (List ℕ)) → left_by s (ask_by o) ≡ s
  unfolding next_of
  ask-stays s none = refl
  ask-stays s (some f) = refl

  run_stays : (s : MapState) (o : Option (List ℕ)) → left_by s (run_by o) ≡ s
  unfolding next_of
  run_stays s none = refl
  run_stays s (some f) = refl

  two_stay : (s : MapState) (f g : Option (List ℕ)) → left_by s (compose_by f g) ≡ s
  unfolding next_of
  two_stay s none g = refl
  two_stay s (some f) none = refl
  two_stay s (some f) (some g) = refl

  compose_stays : (s : MapState) (f : List ℕ) (o : Option (List ℕ)) → left_by s (compose_fields f o) ≡ s
  compose_stays s f none = refl
  compose_stays s f (some g) = two_stay s (parse_mapping f) (parse_mapping g)

  cond_stays : (s : MapState) (b : Bool) (x y : Option Call) → left_by s x ≡ s → left_by s y ≡ s → left_by s (cond b x y) ≡ s
  cond_stays s true x y ex ey = ex
  cond_stays s false x y ex ey = ey

  pub stays : (s : MapState) → left_by s (ask_in w) ≡ s
  unfolding ask_in
  stays s =
      cond_stays s (begins run_word w) _ _ (run_stays s (parse_bytes (drop 4 w)))
      (cond_stays s (begins compose_word w) _ _ (compose_stays s (up_to 32 (drop 8 w)) (past 32 (drop 8 w)))
      (cond_stays s (begins verdict_word w) _ _ (ask-stays s (parse_mapping (drop 8 w))) refl))

  module _ (s : MapState) (b a : List ℕ) (said : Said) where
    pub empty_text : length w ≡ 0 → Wrote b 0 (10 ∷ []) a said.written → said.ended ≡ false → Says s (line_in w) b a said
    unfolding reply_of
    empty_text e wrote going = by_call (sym (empty-is e)) (record { text = wrote; ended = going })

    module _ (some_byte : length w ≡ 0 → ⊥) where
      pub build_text : begins build_word w ≡ true → Says s (build_by (parse_bytes (take (length w - 6) (drop 6 w)))) b a said
          → Says s (line_in w) b a said
      build_text e wrote = by_call (sym (build_is some_byte e)) wrote

      pub other_text : begins build_word w ≡ false → Says s (ask_in w) b a said → Says s (line_in w) b a said
      other_text e wrote = by_call (sym (other_is some_byte e)) wrote

  module _ (s : MapState) where
    pub empty_left : length w ≡ 0 → (t : MapState) → t ≡ none_yet → t ≡ left_by s (line_in w)
    unfolding next_of
    empty_left e t is = is ∙ ap (left_by s) (sym (empty-is e))

    module _ (some_byte : length w ≡ 0 → ⊥) where
      pub build_state : begins build_word w ≡ true → (t : MapState) → t ≡ left_by s (build_by (parse_bytes (take (length w - 6) (drop 6 w)))) → t ≡ left_by s (line_in w)
      build_state e t is = is ∙ ap (left_by s) (sym (build_is some_byte e))

      pub other_state : begins build_word w ≡ false → s ≡ left_by s (line_in w)
      other_state e = sym (ap (left_by s) (other_is some_byte e) ∙ stays s)

  -- ---- whether it may change the profile
  pub changed : length w ≡ 0 → true ≡ changes w
  changed e = rw (eq-eqb (length w) 0 e)

  pub by_word : (length w ≡ 0 → ⊥) → (b : Bool) → b ≡ begins build_word w → b ≡ changes w
  by_word e b is = rw (ne_eqb (length w) 0 e) is

  -- one that does not means what `ask_in` says
  ask_by_lem : (b c : Bool) (x y : Option Call) → cond b true c ≡ false → cond b (some forgets) (cond c x y) ≡ y
  ask_by_lem true c x y e = absurd (true≢false e)
  ask_by_lem false true x y e = absurd (true≢false e)
  ask_by_lem false false x y e = refl

  pub unchanged : changes w ≡ false → line_in w ≡ ask_in w
  unfolding line_in
  unchanged e = ask_by_lem (eqb (length w) 0) (begins build_word w) (build_by (parse_bytes (drop 6 w))) (ask_in w) e
