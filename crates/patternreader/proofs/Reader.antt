-- Reading a pattern byte by byte gives the sets of its positions: for every tree that parses the
-- bytes, from any reading with room for it (`reads`, by induction on the parse). Assumes at most 31
-- letters in all and brackets at most 128 deep.
--
--   Ready                 there is room for so many bytes and letters more
--   Kept                  what a text leaves as it was, and the letters that it adds
--   ItemRead, SequenceRead, AlternativesRead   what is known after an item, a sequence,
--                         alternatives
use mathlib.Core.Path.{◌≡◌, refl, sym, ap, ◌∙◌, subst}
use mathlib.Core.Bool.{Bool, true, false, cond}
use mathlib.Core.List.{List, [], ◌∷◌, ◌++◌}
use Prim.Native.Nat.{ℕ, suc, ◌+◌, ◌-◌, ◌%◌, ◌≤◌, ◌<◌}
use native.Mathlib.Omega.{arith}
use lib.ListN.{length, get_or, set, length-set, length-append, length-replicate, get_or-replicate}
use lib.Seq.{get_or-set_same, get_or-set_other}
use lib.Bits.{bit_or, or_zero_r, or_comm}
use lib.Dec.{eqb}
use borrow.Author.Tests.{eqb-true, eqb-false}
use Rattle.masks.specs.Masks.{has, single}
use Rattle.base.proofs.Tests.{by_test}
use Rattle.masks.proofs.Laws.{or_assoc}
use Rattle.base.proofs.Lists.{cell_of_lem}
use Rattle.patternscan.specs.declared.Sign.{Sign}
use Rattle.patternreader.specs.declared.Part.{Part}
use Rattle.patternreader.specs.declared.Frame.{Frame}
use Rattle.patternreader.specs.declared.Reading.{Reading}
use Rattle.patterns.specs.Patterns.{Pattern, empty, letter, then, or, star, count}
use Rattle.patterns.specs.Grammar as grammar
use Rattle.patterns.specs.Grammar.{Level, alternatives, sequence, item, Parses, a_letter, brackets, a_star, nothing, next, other}
use Rattle.patterns.specs.Positions.{first, last, follow, positions_of}
use Rattle.patternscan.specs.Signs.{sign_of}
use Rattle.patternreader.specs.Reader.{part_of, then_of, or_of, linked_of, marked_of, no_part, empty_part, letter_part, no_frame, commit_of, letter_of, bar_of, opened_of, closed_of, starred_of, after_sign, after_bytes, beginning, finished, Positions}
use Rattle.patternscan.proofs.Decision.{sign_letter, sign_bar, sign_opens, sign_closes, sign_star}

or_zero_l : (m : ℕ) → bit_or 0 m ≡ m
or_zero_l m = or_comm 0 m ∙ or_zero_r m

linked_at : (f : List ℕ) (l m i : ℕ) → i < 32 → get_or (linked_of f l m) i 0 ≡ bit_or (get_or f i 0) (cond (has l i) m 0)
linked_at f l m i h = cell_of_lem 32 (λ i. bit_or (get_or f i 0) (cond (has l i) m 0)) i 0 h

-- ---- what is said of a reading τ after a text read from σ
-- there is room for n more bytes, and for m more letters after o
record Ready (σ : Reading) (o n m : ℕ) : Type 0 where
  deep : σ.depth + n ≤ 128
  few : o + m ≤ 31
  at : σ.letters ≡ o
  frames : length σ.stack ≡ 128
  symbols : length σ.positions ≡ 16

-- the stack stands, and the positions_of and letters of t are added
record Kept (σ τ : Reading) (t : Pattern) (o : ℕ) : Type 0 where
  depth : τ.depth ≡ σ.depth
  frames : length τ.stack ≡ length σ.stack
  symbols : length τ.positions ≡ length σ.positions
  stack : (k : ℕ) → k < σ.depth → get_or τ.stack k no_frame ≡ get_or σ.stack k no_frame
  letters : τ.letters ≡ o + count t
  marked : (s : ℕ) → s < 16 → get_or τ.positions s 0 ≡ bit_or (get_or σ.positions s 0) (positions_of t o s)

record ItemRead (σ τ : Reading) (t : Pattern) (o : ℕ) : Type 0 where
  kept : Kept σ τ t o
  alternatives : τ.alternatives ≡ σ.alternatives
  sequence : τ.sequence ≡ (commit_of σ).sequence
  item : τ.item ≡ part_of t o
  followed : (i : ℕ) → i < 32 → get_or τ.follow i 0 ≡ bit_or (get_or (commit_of σ).follow i 0) (follow t o i)

record SequenceRead (σ τ : Reading) (t : Pattern) (o : ℕ) : Type 0 where
  kept : Kept σ τ t o
  alternatives : τ.alternatives ≡ σ.alternatives
  sequence : (commit_of τ).sequence ≡ part_of t o
  followed : (i : ℕ) → i < 32 → get_or (commit_of τ).follow i 0 ≡ bit_or (get_or σ.follow i 0) (follow t o i)

record AlternativesRead (σ τ : Reading) (t : Pattern) (o : ℕ) : Type 0 where
  kept : Kept σ τ t o
  alternatives : or_of τ.alternatives (commit_of τ).sequence ≡ part_of t o
  followed : (i : ℕ) → i < 32 → get_or (commit_of τ).follow i 0 ≡ bit_or (get_or σ.follow i 0) (follow t o i)

-- ---- a letter
marked_at : (t : List ℕ) (a q o s : ℕ) → length t ≡ 16 → a < 16 → q ≡ suc o → s < 16
    → get_or (marked_of t a q) s 0 ≡ bit_or (get_or t s 0) (cond (eqb a s) (single (suc o)) 0)
marked_at t a q o s l h e b =
    let m : a % 16 ≡ a = omega arith in
    ap (λ (x : ℕ). get_or (set t x (bit_or (get_or t x 0) (single q))) s 0) m
    ∙ ap (λ (x : ℕ). get_or (set t a (bit_or (get_or t a 0) (single x))) s 0) e
    ∙ by_test (eqb a s)
    (λ f. let g : a ≡ s = eqb-true a s f in
    rw (f, ← g) (get_or-set_same t a (bit_or (get_or t a 0) (single (suc o))) 0 (omega arith)))
    (λ f. rw f (get_or-set_other t a s (bit_or (get_or t a 0) (single (suc o))) 0 (λ z. eqb-false a s f (sym z)) ∙ sym (or_zero_r (get_or t s 0))))

letter_read : (σ : Reading) (o s n : ℕ) → s < 16 → Ready σ o n 1 → ItemRead σ (letter_of (commit_of σ) s) (letter s) o
letter_read σ o s n h r =
    let e : (σ.letters % 32 + 1) % 32 ≡ suc o = omega (arith, r.at, r.few) in
    record {
      kept = record {
        depth = refl;
        frames = refl;
        symbols = length-set σ.positions (s % 16) (bit_or (get_or σ.positions (s % 16) 0) (single ((σ.letters % 32 + 1) % 32)));
        stack = λ k l. refl;
        letters = e ∙ omega arith;
        marked = λ c l. marked_at σ.positions s ((σ.letters % 32 + 1) % 32) o c r.symbols h e l;
      };
      alternatives = refl;
      sequence = refl;
      item = ap letter_part e;
      followed = λ i l. sym (or_zero_r (get_or (commit_of σ).follow i 0));
    }

-- ---- brackets
module _ (σ τ : Reading) (t : Pattern) (o n : ℕ) (r : Ready σ o (suc n) (count t)) (a : AlternativesRead (opened_of (commit_of σ)) τ t o) where
  row : σ.depth % 128 ≡ σ.depth
  row = omega (arith, r.deep)

  back : (τ.depth + 128 - 1) % 128 ≡ σ.depth
  back = omega (arith, a.kept.depth, r.deep)

  saved : Frame
  saved = record { alternatives = σ.alternatives; sequence = (commit_of σ).sequence }

  -- what the stack had below the bracket, and at it
  below : (k : ℕ) → k < σ.depth → get_or τ.stack k no_frame ≡ get_or σ.stack k no_frame
  unfolding saved
  below k l =
      a.kept.stack k (omega (arith, row))
      ∙ get_or-set_other σ.stack (σ.depth % 128) k saved no_frame (λ z. absurd (omega (arith, row)))

  frame_at : get_or τ.stack ((τ.depth + 128 - 1) % 128) no_frame ≡ saved
  unfolding saved
  frame_at =
      ap (λ (k : ℕ). get_or τ.stack k no_frame) (back ∙ sym row)
      ∙ a.kept.stack (σ.depth % 128) (omega arith)
      ∙ get_or-set_same σ.stack (σ.depth % 128) saved no_frame (omega (arith, r.frames, row, r.deep))

  brackets_read : ItemRead σ (closed_of (commit_of τ)) t o
  unfolding saved
  brackets_read = record {
    kept = record {
      depth = back;
      frames = a.kept.frames ∙ length-set σ.stack (σ.depth % 128) saved;
      symbols = a.kept.symbols;
      stack = below;
      letters = a.kept.letters;
      marked = a.kept.marked;
    };
    alternatives = ap (λ (f : Frame). f.alternatives) frame_at;
    sequence = ap (λ (f : Frame). f.sequence) frame_at;
    item = a.alternatives;
    followed = a.followed;
  }

-- ---- a star
star_read : (σ τ : Reading) (t : Pattern) (o : ℕ) → ItemRead σ τ t o → ItemRead σ (starred_of τ) (star t) o
star_read σ τ t o a = record {
  kept = record {
    depth = a.kept.depth;
    frames = a.kept.frames;
    symbols = a.kept.symbols;
    stack = a.kept.stack;
    letters = a.kept.letters;
    marked = a.kept.marked;
  };
  alternatives = a.alternatives;
  sequence = a.sequence;
  item = ap (λ (x : Part). record { empty = true; first = x.first; last = x.last }) a.item;
  followed = λ i l.
      linked_at τ.follow τ.item.last τ.item.first i l
      ∙ ap (λ (x : Part). bit_or (get_or τ.follow i 0) (cond (has x.last i) x.first 0)) a.item
      ∙ ap (λ (x : ℕ). bit_or x (cond (has (last t o) i) (first t o) 0)) (a.followed i l)
      ∙ or_assoc (get_or (commit_of σ).follow i 0) (follow t o i) (cond (has (last t o) i) (first t o) 0);
}

-- ---- one text after another
module _ (σ τ υ : Reading) (p q pq : Pattern) (o : ℕ) where
  kept_both : Kept σ τ p o → Kept τ υ q (o + count p) → count pq ≡ count p + count q
      → ((s : ℕ) → positions_of pq o s ≡ bit_or (positions_of p o s) (positions_of q (o + count p) s)) → Kept σ υ pq o
  kept_both a b c m = record {
    depth = b.depth ∙ a.depth;
    frames = b.frames ∙ a.frames;
    symbols = b.symbols ∙ a.symbols;
    stack = λ k l. b.stack k (rw a.depth l) ∙ a.stack k l;
    letters = omega (arith, b.letters, c);
    marked = λ s l.
        b.marked s l
        ∙ ap (λ (x : ℕ). bit_or x (positions_of q (o + count p) s)) (a.marked s l)
        ∙ or_assoc (get_or σ.positions s 0) (positions_of p o s) (positions_of q (o + count p) s)
        ∙ ap (λ (x : ℕ). bit_or (get_or σ.positions s 0) x) (sym (m s));
  }

-- X, what is added for p, what is added for q, and a link
three : (x a b c : ℕ) → bit_or (bit_or (bit_or x a) b) c ≡ bit_or x (bit_or (bit_or a b) c)
three x a b c = ap (λ (y : ℕ). bit_or y c) (or_assoc x a b) ∙ or_assoc x (bit_or a b) c

next_read : (σ τ υ : Reading) (p q : Pattern) (o : ℕ) → SequenceRead σ τ p o → ItemRead τ υ q (o + count p) → SequenceRead σ υ (then p q) o
next_read σ τ υ p q o a b =
    let before : υ.sequence ≡ part_of p o = b.sequence ∙ a.sequence in
    record {
      kept = kept_both σ τ υ p q (then p q) o a.kept b.kept refl (λ s. refl);
      alternatives = b.alternatives ∙ a.alternatives;
      sequence = ap (λ (x : Part). then_of x υ.item) before ∙ ap (λ (x : Part). then_of (part_of p o) x) b.item;
      followed = λ i l.
          linked_at υ.follow υ.sequence.last υ.item.first i l
          ∙ ap (λ (x : Part). bit_or (get_or υ.follow i 0) (cond (has x.last i) υ.item.first 0)) before
          ∙ ap (λ (x : Part). bit_or (get_or υ.follow i 0) (cond (has (last p o) i) x.first 0)) b.item
          ∙ ap (λ (x : ℕ). bit_or x (cond (has (last p o) i) (first q (o + count p)) 0))
          (b.followed i l ∙ ap (λ (x : ℕ). bit_or x (follow q (o + count p) i)) (a.followed i l))
          ∙ three (get_or σ.follow i 0) (follow p o i) (follow q (o + count p) i) (cond (has (last p o) i) (first q (o + count p)) 0);
    }

no_link : (b : Bool) → ◌≡◌ {A = ℕ} (cond b 0 0) 0
no_link true = refl
no_link false = refl

nothing_read : (σ : Reading) (o n : ℕ) → Ready σ o n 0 → σ.sequence ≡ empty_part → σ.item ≡ empty_part → SequenceRead σ σ empty o
nothing_read σ o n r e f = record {
  kept = record {
    depth = refl;
    frames = refl;
    symbols = refl;
    stack = λ k l. refl;
    letters = omega (arith, r.at);
    marked = λ s l. sym (or_zero_r (get_or σ.positions s 0));
  };
  alternatives = refl;
  sequence = ap (λ (x : Part). then_of x σ.item) e ∙ ap (λ (x : Part). then_of empty_part x) f;
  followed = λ i l.
      linked_at σ.follow σ.sequence.last σ.item.first i l
      ∙ ap (λ (x : Part). bit_or (get_or σ.follow i 0) (cond (has σ.sequence.last i) x.first 0)) f
      ∙ ap (λ (x : ℕ). bit_or (get_or σ.follow i 0) x) (no_link (has σ.sequence.last i));
}

no_alternative : (x : Part) → or_of no_part x ≡ x
no_alternative x =
    ap (λ (m : ℕ). record { empty = x.empty; first = m; last = bit_or 0 x.last }) (or_zero_l x.first)
    ∙ ap (λ (m : ℕ). record { empty = x.empty; first = x.first; last = m }) (or_zero_l x.last)

first_read : (σ τ : Reading) (p : Pattern) (o : ℕ) → σ.alternatives ≡ no_part → SequenceRead σ τ p o → AlternativesRead σ τ p o
first_read σ τ p o e a = record {
  kept = a.kept;
  alternatives =
      ap (λ (x : Part). or_of x (commit_of τ).sequence) (a.alternatives ∙ e)
      ∙ ap (λ (x : Part). or_of no_part x) a.sequence
      ∙ no_alternative (part_of p o);
  followed = a.followed;
}

-- the bar keeps what the alternatives before it did
bar_kept : (σ τ : Reading) (p : Pattern) (o : ℕ) → Kept σ τ p o → Kept σ (bar_of (commit_of τ)) p o
bar_kept σ τ p o a = record {
  depth = a.depth;
  frames = a.frames;
  symbols = a.symbols;
  stack = a.stack;
  letters = a.letters;
  marked = a.marked;
}

other_read : (σ τ υ : Reading) (p q : Pattern) (o : ℕ) → AlternativesRead σ τ p o → SequenceRead (bar_of (commit_of τ)) υ q (o + count p)
    → AlternativesRead σ υ (or p q) o
other_read σ τ υ p q o a b = record {
  kept = kept_both σ (bar_of (commit_of τ)) υ p q (or p q) o (bar_kept σ τ p o a.kept) b.kept refl (λ s. refl);
  alternatives =
      ap (λ (x : Part). or_of x (commit_of υ).sequence) (b.alternatives ∙ a.alternatives)
      ∙ ap (λ (x : Part). or_of (part_of p o) x) b.sequence;
  followed = λ i l.
      b.followed i l
      ∙ ap (λ (x : ℕ). bit_or x (follow q (o + count p) i)) (a.followed i l)
      ∙ or_assoc (get_or σ.follow i 0) (follow p o i) (follow q (o + count p) i);
}

-- ---- every parsed text
read_append : (r : Reading) (b c : List ℕ) → after_bytes r (b ++ c) ≡ after_bytes (after_bytes r b) c
read_append r [] c = refl
read_append r (x ∷ b) c = read_append (after_sign r (sign_of x)) b c

Reads : Level → List ℕ → Pattern → Type 0
Reads item b t = (σ : Reading) (o : ℕ) → Ready σ o (length b) (count t) → ItemRead σ (after_bytes σ b) t o
Reads sequence b t = (σ : Reading) (o : ℕ) → Ready σ o (length b) (count t) → σ.sequence ≡ empty_part → σ.item ≡ empty_part
    → SequenceRead σ (after_bytes σ b) t o
Reads alternatives b t = (σ : Reading) (o : ℕ) → Ready σ o (length b) (count t) → σ.alternatives ≡ no_part → σ.sequence ≡ empty_part
    → σ.item ≡ empty_part → AlternativesRead σ (after_bytes σ b) t o

-- less room is needed for a part, and there is room after it
fewer : (σ : Reading) (o n m k j : ℕ) → k ≤ n → j ≤ m → Ready σ o n m → Ready σ o k j
fewer σ o n m k j h l r =
    record { deep = omega (arith, r.deep); few = omega (arith, r.few); at = r.at; frames = r.frames; symbols = r.symbols }

later : (σ τ : Reading) (t : Pattern) (o n m k j : ℕ) → Kept σ τ t o → k ≤ n → count t + j ≤ m → Ready σ o n m → Ready τ (o + count t) k j
later σ τ t o n m k j a h l r = record {
  deep = omega (arith, r.deep, a.depth);
  few = omega (arith, r.few);
  at = a.letters;
  frames = a.frames ∙ r.frames;
  symbols = a.symbols ∙ r.symbols;
}

inside : (σ : Reading) (o n m k : ℕ) → k < n → Ready σ o n m → Ready (opened_of (commit_of σ)) o k m
inside σ o n m k h r = record {
  deep = omega (arith, r.deep);
  few = r.few;
  at = r.at;
  frames = length-set σ.stack (σ.depth % 128) (record { alternatives = σ.alternatives; sequence = (commit_of σ).sequence }) ∙ r.frames;
  symbols = r.symbols;
}

reads : {l : Level} {b : List ℕ} {t : Pattern} → Parses l b t → Reads l b t
unfolding Reads
reads (a_letter {s = s} h) = λ σ o r.
    subst (λ (x : Sign). ItemRead σ (after_sign σ x) (letter s) o) (sym (sign_letter s h)) (letter_read σ o s 1 h r)
reads (brackets {b = b} {p = t} a) = λ σ o r.
    let size : length (b ++ (41 ∷ [])) ≡ length b + 1 = length-append b (41 ∷ []) in
    let i = reads a (opened_of (commit_of σ)) o (inside σ o (suc (length (b ++ (41 ∷ [])))) (count t) (length b) (omega arith) r) refl refl refl in
    let τ = after_bytes (opened_of (commit_of σ)) b in
    subst (λ (x : Sign). ItemRead σ (after_bytes (after_sign σ x) (b ++ (41 ∷ []))) t o) (sym sign_opens)
    (subst (λ (x : Reading). ItemRead σ x t o) (sym (read_append (opened_of (commit_of σ)) b (41 ∷ [])))
    (subst (λ (x : Sign). ItemRead σ (after_sign τ x) t o) (sym sign_closes)
    (brackets_read σ τ t o (length (b ++ (41 ∷ []))) r i)))
reads (a_star {b = b} {p = t} a) = λ σ o r.
    let size : length (b ++ (42 ∷ [])) ≡ length b + 1 = length-append b (42 ∷ []) in
    let i = reads a σ o (fewer σ o (length (b ++ (42 ∷ []))) (count t) (length b) (count t) (omega arith) (omega arith) r) in
    subst (λ (x : Reading). ItemRead σ x (star t) o) (sym (read_append σ b (42 ∷ [])))
    (subst (λ (x : Sign). ItemRead σ (after_sign (after_bytes σ b) x) (star t) o) (sym sign_star) (star_read σ (after_bytes σ b) t o i))
reads nothing = λ σ o r e f. nothing_read σ o 0 r e f
reads (next {b = b} {c = c} {p = p} {q = q} a d) = λ σ o r e f.
    let size : length (b ++ c) ≡ length b + length c = length-append b c in
    let i = reads a σ o (fewer σ o (length (b ++ c)) (count p + count q) (length b) (count p) (omega arith) (omega arith) r) e f in
    let τ = after_bytes σ b in
    let j = reads d τ (o + count p) (later σ τ p o (length (b ++ c)) (count p + count q) (length c) (count q) i.kept (omega arith) (omega arith) r) in
    subst (λ (x : Reading). SequenceRead σ x (then p q) o) (sym (read_append σ b c)) (next_read σ τ (after_bytes τ c) p q o i j)
reads (grammar.first {b = b} {p = t} a) = λ σ o r d e f. first_read σ (after_bytes σ b) t o d (reads a σ o r e f)
reads (other {b = b} {c = c} {p = p} {q = q} a d) = λ σ o r g e f.
    let size : length (b ++ (124 ∷ c)) ≡ length b + suc (length c) = length-append b (124 ∷ c) in
    let n = length (b ++ (124 ∷ c)) in
    let i = reads a σ o (fewer σ o n (count p + count q) (length b) (count p) (omega arith) (omega arith) r) g e f in
    let τ = after_bytes σ b in
    let υ = bar_of (commit_of τ) in
    let j = reads d υ (o + count p)
    (later σ υ p o n (count p + count q) (length c) (count q) (bar_kept σ τ p o i.kept) (omega arith) (omega arith) r) refl refl in
    subst (λ (x : Reading). AlternativesRead σ x (or p q) o) (sym (read_append σ b (124 ∷ c)))
    (subst (λ (x : Sign). AlternativesRead σ (after_bytes (after_sign τ x) c) (or p q) o) (sym sign_bar) (other_read σ τ (after_bytes υ c) p q o i j))

pub positions : (b : List ℕ) (p : Pattern) → Parses alternatives b p → length b ≤ 128 → count p ≤ 31
    → Positions (finished (after_bytes beginning b)) p
unfolding Reads
positions b p a h l =
    let r = reads a beginning 0
    (record { deep = omega arith; few = omega arith; at = refl; frames = length-replicate 128 no_frame; symbols = length-replicate {A = ℕ} 16 0 }) refl refl refl in
    record {
      letters = omega (arith, r.kept.letters);
      part = r.alternatives;
      followed = λ i g.
          r.followed i g ∙ ap (λ (x : ℕ). bit_or x (follow p 0 i)) (get_or-replicate 32 i 0 0 g) ∙ or_zero_l (follow p 0 i);
      marked = λ s g. r.kept.marked s g ∙ ap (λ (x : ℕ). bit_or x (positions_of p 0 s)) (get_or-replicate 16 s 0 0 g) ∙ or_zero_l (positions_of p 0 s);
    }
