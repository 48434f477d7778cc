-- A file that is too long is refused by its length alone, so its first bytes stand for it; and what
-- is kept of a line is answered as the whole line. Assumes nothing.
use mathlib.Core.Path.{◌≡◌, refl, sym, ap, ◌∙◌}
use mathlib.Core.List.{List}
use mathlib.Core.Option.{Option, none, some}
use Prim.Native.Nat.{ℕ, ◌<◌}
use native.Mathlib.Omega.{arith}
use borrow.Author.Tests.{lt-ltb, le-ltb, ltb-true, ltb-false}
use lib.Dec.{ltb}
use lib.ListN.{length, take}
use lib.Seq.{take_all, length-take-le}
use Rattle.base.proofs.Tests.{by_test}
use Rattle.ruleformat.specs.Refusals.{too_short, too_long, refusal}
use Rattle.hexfields.specs.Fields.{says_now}
use Rattle.hexfields.specs.Reading.{Kept, end_of, Tells}
use Rattle.hexfields.proofs.Kept as field
use Rattle.mergetext.specs.declared.Verb.{Verb}
use Rattle.mergetext.specs.declared.Verb.TheVariants.{Merge, Compare, Reduce}
use Rattle.mergetext.specs.Lines.{pair_by, alone_by, second_by, first_by, line_in}
use Rattle.mergetext.specs.Answers.{Response, refused, unread, response_in}
use Rattle.mergetext.proofs.Files.{refused_first, refused_second}
use Rattle.mergetext.proofs.Others.{compared_first, compared_second, reduced_first}
use Rattle.mergescan.specs.declared.Scan.{Scan}
use Rattle.mergescan.specs.Lines.{Seen, start, seen_by, means_now}
use Rattle.mergescan.specs.Scanning.{KeepsLine, keeps_start, keeps_word, keeps_first, keeps_second, keeps_stray, second_held, first_held, held_meaning}
use Rattle.mergescan.proofs.Lines.{whole}

long_refused : (f : List ℕ) → 32906 < length f → refusal f ≡ some 2
unfolding refusal too_short too_long
long_refused f h = rw (le-ltb (length f) 10 (omega arith), lt-ltb 32906 (length f) h)

-- the first n bytes are all of the file, or both are too long
by_length : {A : Type 0} (n : ℕ) (f : List ℕ) → 32906 < n → (take n f ≡ f → A) → (32906 < length (take n f) → 32906 < length f → A) → A
by_length n f h short long =
    by_test (ltb n (length f))
    (λ t.
    let more = ltb-true n (length f) t in
    long (omega (arith, length-take-le n f (omega arith))) (omega arith))
    (λ t. short (take_all n f (ltb-false n (length f) t)))

-- a file that is refused, in a line of the word
abbrev refused_as : Verb → ℕ → Response
refused_as (Merge way) x = refused x
refused_as Compare x = refused x
refused_as Reduce x = unread

abbrev pair_of : Verb → List ℕ → List ℕ → Response
pair_of verb f g = response_in (pair_by verb f g)

first_refused : (verb : Verb) (f g : List ℕ) (x : ℕ) → refusal f ≡ some x → pair_of verb f g ≡ refused_as verb x
first_refused (Merge way) f g x e = rw (refused_first way f g x e)
first_refused Compare f g x e = compared_first f g x e
first_refused Reduce f g x e = refl

second_refused : (verb : Verb) (f g : List ℕ) → refusal f ≡ none → (x : ℕ) → refusal g ≡ some x → pair_of verb f g ≡ refused_as verb x
second_refused (Merge way) f g read x e = rw (refused_second way f g read x e)
second_refused Compare f g read x e = compared_second f g read x e
second_refused Reduce f g read x e = refl

alone_long : (verb : Verb) (f g : List ℕ) → 32906 < length f → 32906 < length g → response_in (alone_by verb f) ≡ response_in (alone_by verb g)
alone_long (Merge way) f g hf hg = refl
alone_long Compare f g hf hg = refl
alone_long Reduce f g hf hg = reduced_first f 2 (long_refused f hf) ∙ sym (reduced_first g 2 (long_refused g hg))

module _ (verb : Verb) where
  clip_first : (n : ℕ) (f g : List ℕ) → 32906 < n → pair_of verb (take n f) g ≡ pair_of verb f g
  clip_first n f g h =
      by_length n f h
      (λ e. ap (λ (x : List ℕ). pair_of verb x g) e)
      (λ a b. first_refused verb (take n f) g 2 (long_refused (take n f) a) ∙ sym (first_refused verb f g 2 (long_refused f b)))

  -- the first file's number, or 2
  second_2 : (f g : List ℕ) (o : Option ℕ) → refusal f ≡ o → 32906 < length g → (u : List ℕ) → 32906 < length u → pair_of verb f u ≡ pair_of verb f g
  second_2 f g none e h u hu = second_refused verb f u e 2 (long_refused u hu) ∙ sym (second_refused verb f g e 2 (long_refused g h))
  second_2 f g (some x) e h u hu = first_refused verb f u x e ∙ sym (first_refused verb f g x e)

  clip_second : (n : ℕ) (f g : List ℕ) → 32906 < n → pair_of verb f (take n g) ≡ pair_of verb f g
  clip_second n f g h =
      by_length n g h
      (λ e. ap (pair_of verb f) e)
      (λ a b. second_2 f g (refusal f) refl b (take n g) a)

  kept_files : (f g one two : List ℕ) (n m : ℕ) → 32906 < length one → 32906 < length two → Kept f n one → Kept g m two
      → pair_of verb (take n one) (take m two) ≡ pair_of verb f g
  kept_files f g one two n m h1 h2 kf kg =
      ap (λ (x : List ℕ). pair_of verb x (take m two)) kf.is
      ∙ ap (λ (x : List ℕ). pair_of verb (take (length one) f) x) kg.is
      ∙ clip_first (length one) f (take (length two) g) h1
      ∙ clip_second (length two) f g h2

  second_kept : (f one two : List ℕ) (n : ℕ) → 32906 < length one → 32906 < length two → Kept f n one → (o : Option (List ℕ)) (said : Option ℕ) → Tells o said two
      → response_in (second_held verb (take n one) said two) ≡ response_in (second_by verb f o)
  second_kept f one two n h1 h2 kf none said t = ap (λ (x : Option ℕ). response_in (second_held verb (take n one) x two)) t
  second_kept f one two n h1 h2 kf (some g) said t =
      ap (λ (x : Option ℕ). response_in (second_held verb (take n one) x two)) t.1
      ∙ kept_files f g one two n t.0 h1 h2 kf t.2

  first-kept : (one : List ℕ) → 32906 < length one → (o : Option (List ℕ)) (said : Option ℕ) → Tells o said one
      → response_in (first_held verb said one) ≡ response_in (first_by verb o none)
  first-kept one h none said t = ap (λ (x : Option ℕ). response_in (first_held verb x one)) t
  first-kept one h (some f) said t =
      ap (λ (x : Option ℕ). response_in (first_held verb x one)) t.1
      ∙ ap (λ (x : List ℕ). response_in (alone_by verb x)) t.2.is
      ∙ by_length (length one) f h
      (λ e. ap (λ (x : List ℕ). response_in (alone_by verb x)) e)
      (λ a b. alone_long verb (take (length one) f) f a b)

kept_answered : (seen : Seen) (s : Scan) (one two : List ℕ) → KeepsLine seen s one two → 32906 < length one → 32906 < length two
    → response_in (held_meaning s one two) ≡ response_in (means_now seen)
kept_answered seen s one two keeps_start h1 h2 = refl
kept_answered seen s one two (keeps_word e) h1 h2 = refl
kept_answered seen s one two (keeps_first {verb} {b} {p} k) h1 h2 = first-kept verb one h1 (says_now b) (end_of p) (field.told b p one k)
kept_answered seen s one two (keeps_second {verb} {f} {n} {b} {p} kf k) h1 h2 =
    second_kept verb f one two n h1 h2 kf (says_now b) (end_of p) (field.told b p two k)
kept_answered seen s one two keeps_stray h1 h2 = refl

pub answered : (w : List ℕ) (s : Scan) (one two : List ℕ) → KeepsLine (seen_by start w) s one two
    → 32906 < length one → 32906 < length two → response_in (held_meaning s one two) ≡ response_in (line_in w)
answered w s one two k h1 h2 = kept_answered (seen_by start w) s one two k h1 h2 ∙ ap response_in (whole w)
