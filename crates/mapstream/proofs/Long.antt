-- A line that is longer than any accepted call needs is told by its first bytes and by whether the
-- rest is hex digits, even in number: its last field is then too long for a mapping, a file and a
-- chunk alike. Assumes nothing.
--
--   Tells s a b    a line of the meaning a comes to what a line of the meaning b does, on the state s
--   told           so 131,078 bytes tell lines apart
use mathlib.Core.Path.{◌≡◌, refl, ap, ap₂, ◌∙◌}
use mathlib.Core.Bool.{Bool, true, false, cond}
use mathlib.Core.List.{List, ◌++◌}
use mathlib.Core.Option.{Option, none, some}
use Prim.Native.Nat.{ℕ, suc, ◌-◌, ◌%◌, ◌≤◌, ◌<◌}
use native.Mathlib.Omega.{arith}
use borrow.Author.Tests.{ne_eqb, ltb-true, ltb-false}
use lib.Dec.{eqb, ltb}
use lib.ListN.{length, drop, length-append, length-drop}
use lib.Seq.{drop-append-le}
use Rattle.base.proofs.Tests.{by_test}
use Rattle.lines.specs.Splitting.{begins, up_to, past}
use Rattle.lines.proofs.Splits.{past_there}
use Rattle.fields.specs.Bytes.{all_hex, parse_bytes}
use Rattle.maptext.specs.MappingText.{parse_mapping}
use Rattle.longlines.proofs.Tails.{begins_append, tail_stray, tail_bytes}
use Rattle.linetexts.specs.Beginnings.{Told}
use Rattle.linetexts.specs.Lists.{list_of, list_teller}
use Rattle.linetexts.proofs.Lists.{told_lists}
use Rattle.mapcalls.specs.declared.MapState.{MapState}
use Rattle.mapcalls.specs.Calls.{Call, Reply, builds, runs, next_of}
use Rattle.maplines.specs.Lines.{build_word, run_word, compose_word, verdict_word, build_by, run_by, ask_by, compose_by, compose_fields, ask_in, line_in}
use Rattle.mapreplies.specs.Replies.{reply_text}
use Rattle.maplines.proofs.Long.{builds_long, left_long, runs_long}
use Rattle.mapstream.specs.Texts.{step_of, map_list}

-- ---- fields that are malformed
mapping_long : (u : List ℕ) → 16 < length u → parse_mapping u ≡ none
mapping_long u h = rw (ne_eqb (length u) 16 (λ e. omega arith))

verdict_long : (u : List ℕ) → 16 < length u → ask_by (parse_mapping u) ≡ none
verdict_long u h = ap ask_by (mapping_long u h)

-- of two fields one is too long
first_long : (f : List ℕ) (o : Option (List ℕ)) → 16 < length f → compose_fields f o ≡ none
first_long f none h = refl
first_long f (some g) h = ap (λ (x : Option (List ℕ)). compose_by x (parse_mapping g)) (mapping_long f h)

no_second : (o : Option (List ℕ)) → compose_by o none ≡ none
no_second none = refl
no_second (some f) = refl

second_long : (f g : List ℕ) → 16 < length g → compose_fields f (some g) ≡ none
second_long f g h = ap (compose_by (parse_mapping f)) (mapping_long g h) ∙ no_second (parse_mapping f)

compose_long : (u : List ℕ) → 33 < length u → compose_fields (up_to 32 u) (past 32 u) ≡ none
compose_long u h =
    by_test (ltb 16 (length (up_to 32 u)))
    (λ t. first_long (up_to 32 u) (past 32 u) (ltb-true 16 (length (up_to 32 u)) t))
    (λ t.
    let near = ltb-false 16 (length (up_to 32 u)) t in
    ap (compose_fields (up_to 32 u)) (past_there 32 u (omega (arith, near)))
    ∙ second_long (up_to 32 u) (drop (suc (length (up_to 32 u))) u) (omega (arith, near, length-drop (suc (length (up_to 32 u))) u)))

cond_none : (b : Bool) (x y : Option Call) → x ≡ none → y ≡ none → cond b x y ≡ none
cond_none true x y ex ey = ex
cond_none false x y ex ey = ey

-- ---- what a line comes to
record Tells (s : MapState) (a b : Option Call) : Type 0 where
  steps : step_of s a ≡ step_of s b

module _ (s : MapState) where
  tells_none : {a b : Option Call} → a ≡ none → b ≡ none → Tells s a b
  tells_none e f = rw (e, f) (record { steps = refl })

  tells_cond : (b : Bool) (x x' y y' : Option Call) → Tells s x x' → Tells s y y' → Tells s (cond b x y) (cond b x' y')
  tells_cond true x x' y y' t e = t
  tells_cond false x x' y y' t e = e

  tells_builds : (f g : List ℕ) → 65536 ≤ length f → 65536 ≤ length g → Tells s (some (builds f)) (some (builds g))
  tells_builds f g hf hg = record {
    steps =
        ap₂ (λ (a : Reply) (t : MapState). record { text = reply_text a; state = list_of t false })
        (builds_long s f g (omega arith) (omega arith)) (left_long s f g (omega arith) (omega arith));
  }

  tells_runs : (f g : List ℕ) → 65537 ≤ length f → 65537 ≤ length g → Tells s (some (runs f)) (some (runs g))
  unfolding next_of
  tells_runs f g hf hg = record {
    steps = ap (λ (a : Reply). record { text = reply_text a; state = list_of s false }) (runs_long s f g (omega arith) (omega arith));
  }

-- ---- the line v ++ t
module _ (v t : List ℕ) (long : 131078 ≤ length v) where
  rest : (k : ℕ) → k ≤ 8 → drop k (v ++ t) ≡ drop k v ++ t
  rest k h = drop-append-le k v t (omega arith)

  rest_long : (k : ℕ) → k ≤ 8 → 131078 - k ≤ length (drop k v)
  rest_long k h = rw (length-drop k v) (omega arith)

  more_long : (k : ℕ) → k ≤ 8 → 131078 - k ≤ length (drop k (v ++ t))
  more_long k h = rw (rest k h, length-append (drop k v) t) (omega (arith, rest_long k h))

  word : (h : List ℕ) → length h ≤ 8 → begins h (v ++ t) ≡ begins h v
  word h l = begins_append h v t (omega arith)

  some_v : eqb (length v) 0 ≡ false
  some_v = ne_eqb (length v) 0 (λ e. omega arith)

  some_more : eqb (length (v ++ t)) 0 ≡ false
  some_more = ne_eqb (length (v ++ t)) 0 (λ e. omega (arith, length-append v t))

  compose_v : compose_fields (up_to 32 (drop 8 v)) (past 32 (drop 8 v)) ≡ none
  compose_v = compose_long (drop 8 v) (omega (arith, rest_long 8 (omega arith)))

  compose_more : compose_fields (up_to 32 (drop 8 (v ++ t))) (past 32 (drop 8 (v ++ t))) ≡ none
  compose_more = compose_long (drop 8 (v ++ t)) (omega (arith, more_long 8 (omega arith)))

  verdict_v : ask_by (parse_mapping (drop 8 v)) ≡ none
  verdict_v = verdict_long (drop 8 v) (omega (arith, rest_long 8 (omega arith)))

  verdict_more : ask_by (parse_mapping (drop 8 (v ++ t))) ≡ none
  verdict_more = verdict_long (drop 8 (v ++ t)) (omega (arith, more_long 8 (omega arith)))

  module _ (stray : all_hex t ≡ false) where
    stray_build : build_by (parse_bytes (drop 6 (v ++ t))) ≡ none
    stray_build = rw (rest 6 (omega arith), tail_stray (drop 6 v) t (omega (arith, rest_long 6 (omega arith))) stray)

    stray_run : run_by (parse_bytes (drop 4 (v ++ t))) ≡ none
    stray_run = rw (rest 4 (omega arith), tail_stray (drop 4 v) t (omega (arith, rest_long 4 (omega arith))) stray)

    stray_ask : ask_in (v ++ t) ≡ none
    unfolding ask_in
    stray_ask =
        cond_none (begins run_word (v ++ t)) _ _ stray_run
        (cond_none (begins compose_word (v ++ t)) _ _ compose_more
        (cond_none (begins verdict_word (v ++ t)) _ _ verdict_more refl))

    stray_line : line_in (v ++ t) ≡ none
    unfolding line_in
    stray_line = rw some_more (cond_none (begins build_word (v ++ t)) _ _ stray_build stray_ask)

  module _ (s : MapState) (hex : all_hex t ≡ true) (even : length t % 2 ≡ 0) where
    hex_build : Tells s (build_by (parse_bytes (drop 6 v))) (build_by (parse_bytes (drop 6 (v ++ t))))
    hex_build =
        let l = rest_long 6 (omega arith) in
        rw (rest 6 (omega arith))
        (tail_bytes (drop 6 v) t (omega (arith, l)) hex even 65536 (omega (arith, l)) (λ a b. Tells s (build_by a) (build_by b)) (tells_none s refl refl) (tells_builds s))

    hex_run : Tells s (run_by (parse_bytes (drop 4 v))) (run_by (parse_bytes (drop 4 (v ++ t))))
    hex_run =
        let l = rest_long 4 (omega arith) in
        rw (rest 4 (omega arith))
        (tail_bytes (drop 4 v) t (omega (arith, l)) hex even 65537 (omega (arith, l)) (λ a b. Tells s (run_by a) (run_by b)) (tells_none s refl refl) (tells_runs s))

    hex_ask : Tells s (ask_in v) (ask_in (v ++ t))
    unfolding ask_in
    hex_ask =
        rw (word run_word (omega arith), word compose_word (omega arith), word verdict_word (omega arith))
        (tells_cond s (begins run_word v) _ _ _ _ hex_run
        (tells_cond s (begins compose_word v) _ _ _ _ (tells_none s compose_v compose_more)
        (tells_cond s (begins verdict_word v) _ _ _ _ (tells_none s verdict_v verdict_more) (tells_none s refl refl))))

    hex_line : Tells s (line_in v) (line_in (v ++ t))
    unfolding line_in
    hex_line =
        rw (some_v, some_more, word build_word (omega arith))
        (tells_cond s (begins build_word v) _ _ _ _ hex_build hex_ask)

pub told : Told (list_teller map_list)
told =
    told_lists map_list (omega arith)
    (λ s. record {
      stray = λ v t long stray. ap (step_of s) (stray_line v t long stray);
      hex = λ v t long hex even. (hex_line v t long s hex even).steps;
    })
