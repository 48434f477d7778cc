-- Every claim of specs/Claims.antt. Assumes nothing.
use Rattle.std.proofs.Common.{◌≡◌, ℕ, zero, suc, ◌+◌, ◌-◌, ◌/◌, ◌%◌, ◌^◌, ◌<◌, ◌≤◌, true, false, eqb, ltb, ◌↔◌, List, [], ◌∷◌, ◌++◌, length, get_or, take, drop, set, sym, refl, ap, ◌∙◌, subst, ap₂, append-nil, arith, lit<, length-append, length-drop, take-append-drop, drop_of_length-le, length-take, length-take-le, get_or-drop, get_or-take, get_or-set_same, drop-drop, take_at, drop-set-lt, drop_at, ltb-false, ltb-true, eq-eqb, eqb-true}
use mathlib.Core.Option.{some}
use lib.ListN.{get_or-eq_default}
use lib.Seq.{take-set-le, take-set-lt}
use Rattle.base.proofs.Options.{none-some}
use Rattle.base.proofs.Tests.{by_test}
use Rattle.ruleformat.specs.Format.{byte_at}
use Rattle.ruleformat.specs.Writing.{Bytes, half, word}
use Rattle.ruleformat.proofs.Writing.{bytes_append}
use Rattle.calls.specs.declared.Judge.{Judge}
use Rattle.saved_judge.specs.Little.{little_of, little_in, little_at}
use Rattle.saved_judge.specs.Digest.{digest_of}
use Rattle.saved_judge.specs.Saved.{Restored, Field, fields_of, content_of, saved_of, head_right, is_saved, judge_at, bytes_in, restore_accepted, restore_refused, restore_of}
use Rattle.saved_judge.specs.Claims.{Fits, Claims}
use Rattle.saved_judge.proofs.Little.{bytes_drop, little_length, little_bytes, little_back, little_cut, little_split}
use Rattle.saved_judge.proofs.Sums.{from_below, step_in_digest, step_in_byte, one_byte}
use Rattle.saved_judge.proofs.Ways.{fields_length}
use Rattle.saved_judge.proofs.Fields.{fields_at, fields_back, fields_cut, fields_bytes}
use Rattle.saved_judge.proofs.Judges.{and_both, layout, head_numbers, read_all, fits_in, shapes_are, all_fit, judge_of_lem, own_judge, judge_in, head_in, head_is_right}

-- ---- numbers
two_bytes : (x : ℕ) → x < 65536 → little_of 2 x ≡ half x
unfolding little_of
two_bytes x h = let e : x / 256 % 256 ≡ x / 256 = omega arith in rw e

four_bytes : (x : ℕ) → x < 4294967296 → little_of 4 x ≡ word x
four_bytes x h = little_split 2 2 x ∙ ap₂ ◌++◌ (two_bytes (x % 65536) (omega arith)) (two_bytes (x / 65536) (omega arith))

eight_bytes : (x : ℕ) → x < 2 ^ 64 → little_of 8 x ≡ word (x % 4294967296) ++ word (x / 4294967296)
eight_bytes x h = little_split 4 4 x ∙ ap₂ ◌++◌ (four_bytes (x % 4294967296) (omega arith)) (four_bytes (x / 4294967296) (omega arith))

byte_in : (s : List ℕ) → little_in 1 s ≡ get_or s 0 0
unfolding little_in
byte_in [] = refl
byte_in (x ∷ s) = omega arith

byte-at : (b : List ℕ) (i : ℕ) → little_at 1 b i ≡ byte_at b i
byte-at b i = let e : i + 0 ≡ i = omega arith in byte_in (drop i b) ∙ get_or-drop i b 0 0 ∙ ap (λ (k : ℕ). get_or b k 0) e

bytes_take : (b : List ℕ) (n : ℕ) → Bytes b → Bytes (take n b)
bytes_take b n h i =
    by_test (ltb i n)
    (λ t. rw (get_or-take n b i 0 (ltb-true i n t)) (h i))
    (λ f.
    let past : length (take n b) ≤ i = omega (arith, length-take n b, ltb-false i n f) in
    rw (get_or-eq_default (take n b) 0 past) (omega arith))

bytes_set : (b : List ℕ) (i x : ℕ) → Bytes b → x < 256 → Bytes (set b i x)
bytes_set [] i x h y k = h k
bytes_set (z ∷ b) zero x h y zero = y
bytes_set (z ∷ b) zero x h y (suc k) = h (suc k)
bytes_set (z ∷ b) (suc i) x h y zero = h 0
bytes_set (z ∷ b) (suc i) x h y (suc k) = bytes_set b i x (λ n. h (suc n)) y k

-- ---- what is accepted
record Right (b : List ℕ) : Type 0 where
  pub size : length b ≡ 27838
  pub head : head_right b ≡ true
  pub digest : little_at 8 b 27830 ≡ digest_of (take 27830 b)

is_right : (b : List ℕ) → is_saved b ≡ true → Right b
unfolding is_saved
is_right b e =
    let p = and_both (eqb (length b) 27838) _ e in
    let q = and_both (head_right b) _ p.1 in
    record { size = eqb-true _ _ p.0; head = q.0; digest = eqb-true _ _ q.1 }

right_is : (b : List ℕ) → Right b → is_saved b ≡ true
unfolding is_saved
right_is b r = rw (eq-eqb (length b) 27838 r.size, r.head, eq-eqb (little_at 8 b 27830) (digest_of (take 27830 b)) r.digest)

refusal : (b : List ℕ) → is_saved b ≡ false → restore_of b ≡ restore_refused
unfolding restore_of
refusal b e = rw e

acceptance : (b : List ℕ) → is_saved b ≡ true → restore_of b ≡ restore_accepted (judge_at b)
unfolding restore_of
acceptance b e = rw e

-- what is not right is refused
not_right : (b : List ℕ) → (Right b → ⊥) → restore_of b ≡ restore_refused
not_right b n = by_test (is_saved b) (λ e. absurd (n (is_right b e))) (refusal b)

accepted_right : (b : List ℕ) (j : Judge) → restore_of b ≡ restore_accepted j → Right b
accepted_right b j e =
    by_test (is_saved b) (is_right b) (λ f. none-some (ap (λ (r : Restored). r.number) e) (ap (λ (r : Restored). r.number) (refusal b f)))

-- ---- the saved form of a judge
content_bytes : (j : Judge) → Bytes (content_of j)
unfolding content_of
content_bytes j = fields_bytes (fields_of j)

saved_bytes : (j : Judge) → Bytes (saved_of j)
unfolding saved_of
saved_bytes j = bytes_append (content_of j) (little_of 8 (digest_of (content_of j))) (content_bytes j) (little_bytes 8 _)

module _ (j : Judge) (fits : Fits j) where
  content_size_lem : length (content_of j) ≡ 27830
  unfolding content_of
  content_size_lem =
      fields_length (fields_of j)
      ∙ omega (
        arith,
        fits.built.delegates.size,
        fits.built.singles.size,
        fits.built.sets.size,
        fits.built.next.size,
        fits.board.filled.size,
        fits.board.counts.size,
        fits.board.lengths.size,
        fits.board.revisions.size,
        fits.board.ends.size,
      )

  saved_size_lem : length (saved_of j) ≡ 27838
  unfolding saved_of
  saved_size_lem =
      omega (
        arith,
        length-append (content_of j) (little_of 8 (digest_of (content_of j))),
        content_size_lem,
        little_length 8 (digest_of (content_of j)),
      )

  -- the content and the digest stand where they are looked for
  content_there : take 27830 (saved_of j) ≡ content_of j
  unfolding saved_of
  content_there = take_at (content_of j) _ 27830 content_size_lem

  digest_there : little_at 8 (saved_of j) 27830 ≡ digest_of (content_of j)
  unfolding saved_of
  digest_there =
      let d = digest_of (content_of j) in
      ap (little_in 8) (drop_at (content_of j) (little_of 8 d) 27830 content_size_lem ∙ sym (append-nil (little_of 8 d)))
      ∙ little_back 8 d [] (from_below 0 (content_of j) (lit< tt))

  fields_there : fields_at layout (saved_of j) 0 ≡ fields_of j
  unfolding saved_of content_of
  fields_there =
      ap (λ (l : _). fields_at l (saved_of j) 0) (sym (shapes_are j fits))
      ∙ fields_back (fields_of j) (all_fit j fits) [] (little_of 8 (digest_of (content_of j))) 0 refl

  head_there : head_right (saved_of j) ≡ true
  head_there = head_is_right (saved_of j) (head_in (saved_of j) j fields_there)

  judge_there : judge_at (saved_of j) ≡ j
  judge_there = sym (judge_in (saved_of j)) ∙ ap judge_of_lem fields_there ∙ own_judge j

  saved_right : Right (saved_of j)
  saved_right = record {
    size = saved_size_lem;
    head = head_there;
    digest = digest_there ∙ ap digest_of (sym content_there);
  }

  restored : restore_of (saved_of j) ≡ restore_accepted j
  restored = acceptance (saved_of j) (right_is (saved_of j) saved_right) ∙ ap restore_accepted judge_there

-- ---- bytes that are accepted
module _ (b : List ℕ) (bytes : Bytes b) (r : Right b) where
  -- the digest's bytes are those of the digest
  digest_bytes : drop 27830 b ≡ little_of 8 (digest_of (take 27830 b))
  digest_bytes =
      let past : length b ≤ 27838 = omega (arith, r.size) in
      little_cut 8 (drop 27830 b) (rw (length-drop 27830 b) (omega (arith, r.size))) (bytes_drop b 27830 bytes)
      ∙ ap₂ ◌++◌ (ap (little_of 8) r.digest) (drop-drop 8 27830 b ∙ drop_of_length-le b past)
      ∙ append-nil _

  content_is : take 27830 b ≡ content_of (judge_at b)
  unfolding content_of
  content_is =
      let whole = fields_cut layout b 0 (omega (arith, r.size)) bytes in
      let fields = read_all b (head_numbers b r.head) in
      ap (take 27830) (whole ∙ ap (λ (fs : List Field). bytes_in fs ++ drop 27830 b) fields)
      ∙ take_at (bytes_in (fields_of (judge_at b))) (drop 27830 b) 27830 (content_size_lem (judge_at b) (fits_in b bytes))

  is_saved_form : b ≡ saved_of (judge_at b)
  unfolding saved_of
  is_saved_form =
      sym (take-append-drop 27830 b) ∙ ap₂ ◌++◌ content_is (digest_bytes ∙ ap (λ (x : List ℕ). little_of 8 (digest_of x)) content_is)

only_saved : (b : List ℕ) → Bytes b → (j : Judge) → restore_of b ≡ restore_accepted j → Fits j × (b ≡ saved_of j)
only_saved b bytes j e =
    let r = accepted_right b j e in
    let same : judge_at b ≡ j = sym (ap (λ (x : Restored). x.judge) (acceptance b (right_is b r))) ∙ ap (λ (x : Restored). x.judge) e in
    (subst (λ (k : Judge). Fits k) same (fits_in b bytes), is_saved_form b bytes r ∙ ap saved_of same)

exactly : (b : List ℕ) → Bytes b → (j : Judge) → (restore_of b ≡ restore_accepted j) ↔ (Fits j × (b ≡ saved_of j))
exactly b bytes j = (only_saved b bytes j, λ p. ap restore_of p.1 ∙ restored j p.0)

saved_alike : (j k : Judge) → Fits j → Fits k → saved_of j ≡ saved_of k → j ≡ k
saved_alike j k f g e = ap (λ (x : Restored). x.judge) (sym (restored j f) ∙ ap restore_of e ∙ restored k g)

-- ---- refusals
refused : (b : List ℕ) (x : ℕ) → (restore_of b).number ≡ some x → restore_of b ≡ restore_refused
refused b x e = by_test (is_saved b) (λ t. none-some (ap (λ (r : Restored). r.number) (acceptance b t)) e) (refusal b)

other_mark : (b : List ℕ) → ((byte_at b 0 ≡ 66) × (byte_at b 1 ≡ 66) × (byte_at b 2 ≡ 74) → ⊥) → restore_of b ≡ restore_refused
other_mark b n =
    not_right b
    (λ r.
    let h = head_numbers b r.head in
    n (sym (byte-at b 0) ∙ h.first, sym (byte-at b 1) ∙ h.second, sym (byte-at b 2) ∙ h.third))

other_version : (b : List ℕ) → (byte_at b 3 ≡ 1 → ⊥) → restore_of b ≡ restore_refused
other_version b n = not_right b (λ r. n (sym (byte-at b 3) ∙ (head_numbers b r.head).version))

-- one byte is another: before the digest, and in it
module _ (b : List ℕ) (bytes : Bytes b) (r : Right b) (i x : ℕ) (l : i < 27838) (y : x < 256) where
  changed : Right (set b i x) → x ≡ get_or b i 0
  changed s =
      by_test (ltb i 27830)
      (λ t.
      let h = ltb-true i 27830 t in
      let long : length (take 27830 b) ≡ 27830 = length-take-le 27830 b (omega (arith, r.size)) in
      let same : digest_of (set (take 27830 b) i x) ≡ digest_of (take 27830 b) =
      ap digest_of (sym (take-set-lt 27830 b i x h)) ∙ sym s.digest ∙ ap (little_in 8) (drop-set-lt 27830 b i x h) ∙ r.digest in
      one_byte 0 (take 27830 b) i x (lit< tt) (bytes_take b 27830 bytes) (omega (arith, long, h)) y same ∙ get_or-take 27830 b i 0 h)
      (λ f.
      let h = ltb-false i 27830 f in
      let ends : drop 27830 (set b i x) ≡ drop 27830 b =
      digest_bytes (set b i x) (bytes_set b i x bytes y) s ∙ ap (λ (z : List ℕ). little_of 8 (digest_of z)) (take-set-le 27830 b i x h)
      ∙ sym (digest_bytes b bytes r) in
      let place : 27830 + (i - 27830) ≡ i = omega (arith, h) in
      sym (get_or-set_same b i x 0 (omega (arith, r.size, l)))
      ∙ ap (λ (k : ℕ). get_or (set b i x) k 0) (sym place)
      ∙ sym (get_or-drop 27830 (set b i x) (i - 27830) 0)
      ∙ ap (λ (z : List ℕ). get_or z (i - 27830) 0) ends
      ∙ get_or-drop 27830 b (i - 27830) 0
      ∙ ap (λ (k : ℕ). get_or b k 0) place)

altered : (j : Judge) → Fits j → (i x : ℕ) → i < 27838 → x < 256 → (x ≡ byte_at (saved_of j) i → ⊥) → restore_of (set (saved_of j) i x) ≡ restore_refused
altered j fits i x l y n =
    not_right (set (saved_of j) i x) (λ s. n (changed (saved_of j) (saved_bytes j) (saved_right j fits) i x l y s))

pub claims : Claims
claims = record {
  two_bytes = two_bytes;
  four_bytes = four_bytes;
  eight_bytes = eight_bytes;
  step_in_digest = λ h k x b c l. step_in_digest h k x b c;
  step_in_byte = step_in_byte;
  bytes = saved_bytes;
  size = saved_size_lem;
  restored = restored;
  exactly = exactly;
  saved_alike = saved_alike;
  refused = refused;
  cut = λ b n. not_right b (λ r. n r.size);
  other_mark = other_mark;
  other_version = other_version;
  altered = altered;
}
