-- A line that is longer than any question needs is told by its first bytes and by whether the rest is
-- hex digits, even in number: the chunk of a `locate` is then too long. With Long.antt, so is any line
-- of a text. Assumes nothing.
--
--   asks u         what the fields u of a `locate` ask
--   Same a b       on the judge j a line that asks a, or else means m, has the outcome of one that
--                  asks b, or else means m'
--   told           131,124 bytes tell the lines of a text apart
use mathlib.Core.Path.{◌≡◌, refl, sym, ap, ◌∙◌}
use mathlib.Core.Bool.{true, false, cond}
use mathlib.Core.List.{List, ◌++◌}
use mathlib.Core.Option.{Option, none, some}
use Prim.Native.Nat.{ℕ, ◌%◌, ◌≤◌, ◌<◌}
use native.Mathlib.Omega.{arith}
use lib.ListN.{length, drop, length-append}
use Rattle.base.proofs.Tests.{either}
use Rattle.lines.specs.Splitting.{begins, up_to, past}
use Rattle.lines.proofs.Splits.{up_append, past_there}
use Rattle.fields.specs.Numbers.{parse_number}
use Rattle.fields.specs.Bytes.{all_hex, parse_bytes}
use Rattle.fields.proofs.Digits.{said_long}
use Rattle.longlines.specs.Claims.{TellsWithin}
use Rattle.longlines.proofs.Tails.{past_append, tail_stray, tail_bytes}
use Rattle.calls.specs.declared.Judge.{Judge}
use Rattle.calltext.specs.Meaning.{Meaning, malformed, line_in}
use Rattle.callrun.specs.Running.{line_step}
use Rattle.locating.specs.Locating.{Spot}
use Rattle.questions.specs.Meaning.{Question, locates, recorded, diagnose_word, locate_word, locate_by, locate_fields, question_in, meaning_by, meaning_in}
use Rattle.questions.specs.Answers.{spot_text}
use Rattle.questions.proofs.Readings.{other_length}
use Rattle.linetexts.specs.Lists.{list_of}
use Rattle.linebuffer.specs.Meanings.{told_as, line_told}
use Rattle.linebuffer.proofs.Clipped.{spots_long}
use Rattle.linebuffer.proofs.Long.{behind, far_or_near, far_number, inside, behind_long, rest, rest_long, word, told as told_calls}

abbrev asks : List ℕ → Option Question
asks u = locate_fields (up_to 32 u) (past 32 u)

no_number : (f : List ℕ) (o : Option (List ℕ)) → parse_number f ≡ none → locate_fields f o ≡ none
no_number f none e = refl
no_number f (some w) e = rw e

no_bytes : (p : Option ℕ) → locate_by p none ≡ none
no_bytes none = refl
no_bytes (some p) = refl

-- ---- u goes on with t
module _ (u t : List ℕ) where
  far_asks : 20 < length (up_to 32 u) → asks u ≡ none
  far_asks far = no_number (up_to 32 u) (past 32 u) (said_long (up_to 32 u) far)

  far_asks_more : 20 < length (up_to 32 u) → asks (u ++ t) ≡ none
  far_asks_more far = no_number (up_to 32 (u ++ t)) (past 32 (u ++ t)) (far_number u t far)

  module _ (long : 131095 ≤ length u) (near : length (up_to 32 u) ≤ 20) where
    near_asks : asks u ≡ locate_by (parse_number (up_to 32 u)) (parse_bytes (behind u))
    near_asks = rw (past_there 32 u (inside u t 131074 long near))

    near_asks_more : asks (u ++ t) ≡ locate_by (parse_number (up_to 32 u)) (parse_bytes (behind u ++ t))
    near_asks_more = rw (past_append 32 u t (inside u t 131074 long near), up_append 32 u t (inside u t 131074 long near))

-- t is not hex digits
stray_asks : (u t : List ℕ) → all_hex t ≡ false → 131095 ≤ length u → asks (u ++ t) ≡ none
stray_asks u t stray long =
    far_or_near u (asks (u ++ t) ≡ none)
    (λ far. far_asks_more u t far)
    (λ near.
    let p = parse_number (up_to 32 u) in
    let l = behind_long u t 131074 long near in
    near_asks_more u t long near ∙ ap (locate_by p) (tail_stray (behind u) t (omega (arith, l)) stray) ∙ no_bytes p)

-- t is hex digits, even in number
module _ (j : Judge) (m m' : Meaning) (same : line_step j m ≡ line_step j m') (t : List ℕ) (hex : all_hex t ≡ true) (even : length t % 2 ≡ 0) where
  abbrev Same : Option Question → Option Question → Type 0
  Same a b = line_told j (meaning_by a m) ≡ line_told j (meaning_by b m')

  same_none : {a b : Option Question} → a ≡ none → b ≡ none → Same a b
  same_none e f = rw (e, f) (ap told_as same)

  same_long : (p : ℕ) (f g : List ℕ) → 65537 ≤ length f → 65537 ≤ length g → Same (some (locates p f)) (some (locates p g))
  same_long p f g hf hg = ap (λ (s : Spot). record { text = spot_text s; state = list_of j false }) (spots_long j p f g (omega arith) (omega arith))

  hex_bytes : (p : Option ℕ) (u : List ℕ) → 131074 ≤ length u → Same (locate_by p (parse_bytes u)) (locate_by p (parse_bytes (u ++ t)))
  hex_bytes none u l = same_none refl refl
  hex_bytes (some p) u l =
      tail_bytes u t (omega arith) hex even 65537 (omega arith) (λ a b. Same (locate_by (some p) a) (locate_by (some p) b)) (same_none refl refl) (same_long p)

  hex_asks : (u : List ℕ) → 131095 ≤ length u → Same (asks u) (asks (u ++ t))
  hex_asks u long =
      far_or_near u (Same (asks u) (asks (u ++ t)))
      (λ far. same_none (far_asks u t far) (far_asks_more u t far))
      (λ near. rw (near_asks u t long near, near_asks_more u t long near) (hex_bytes (parse_number (up_to 32 u)) (behind u) (behind_long u t 131074 long near)))

-- ---- the line v ++ t
long_question : (w : List ℕ) → 8 < length w → question_in w ≡ cond (begins locate_word w) (asks (drop 7 w)) none
unfolding question_in
long_question w h = rw (sym (other_length diagnose_word w (λ e. omega (arith, h, e))))

module _ (v t : List ℕ) (long : 131124 ≤ length v) where
  question_v : question_in v ≡ cond (begins locate_word v) (asks (drop 7 v)) none
  question_v = long_question v (omega arith)

  question_more : question_in (v ++ t) ≡ cond (begins locate_word v) (asks (drop 7 v ++ t)) none
  question_more =
      long_question (v ++ t) (omega (arith, length-append v t)) ∙ rw (word v t long locate_word (omega arith), rest v t long 7 (omega arith))

  stray_question : all_hex t ≡ false → question_in (v ++ t) ≡ none
  stray_question stray =
      question_more
      ∙ either (begins locate_word v) (λ b. cond b (asks (drop 7 v ++ t)) none ≡ none)
      (stray_asks (drop 7 v) t stray (omega (arith, rest_long v t long 7 (omega arith)))) refl

  hex_question : (j : Judge) (m m' : Meaning) (same : line_step j m ≡ line_step j m') (hex : all_hex t ≡ true) (even : length t % 2 ≡ 0)
      → Same j m m' same t hex even (question_in v) (question_in (v ++ t))
  hex_question j m m' same hex even =
      rw (question_v, question_more)
      (either (begins locate_word v) (λ b. Same j m m' same t hex even (cond b (asks (drop 7 v)) none) (cond b (asks (drop 7 v ++ t)) none))
      (hex_asks j m m' same t hex even (drop 7 v) (omega (arith, rest_long v t long 7 (omega arith))))
      (same_none j m m' same t hex even refl refl))

pub told : (j : Judge) → TellsWithin 131124 (λ (w : List ℕ). line_told j (meaning_in w)) (line_told j (recorded malformed))
told j = record {
  stray = λ v t long stray.
      ap (λ (o : Option Question). line_told j (meaning_by o (line_in (v ++ t)))) (stray_question v t long stray) ∙ ap told_as ((told_calls j).stray v t long stray);
  hex = λ v t long hex even. hex_question v t long j (line_in v) (line_in (v ++ t)) ((told_calls j).hex v t long hex even) hex even;
}
