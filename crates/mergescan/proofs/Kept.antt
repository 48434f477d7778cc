-- What the code keeps of a line. Assumes nothing.
--
--   begin_both, by_way, ..      the ways out of `begin`, `letter`, `word_on` and `end_first`
--   from_start, from_word, ..   a byte more, by what was kept
--   second_put, first_put, ..   the line has ended
--   all_on, all_over            bytes, one after the other
use Rattle.std.proofs.Common as code
use Rattle.std.proofs.Common.{Some, None}
use mathlib.Core.Path.{◌≡◌, refl, sym, ap, ◌∙◌, subst}
use mathlib.Core.Bool.{true, cond}
use mathlib.Core.List.{List, [], ◌∷◌}
use mathlib.Core.Option.{Option, none, some}
use Prim.Native.Nat.{ℕ, suc, ◌+◌, ◌<◌, ◌≤◌, min}
use native.Mathlib.Numerals.{add-one}
use native.Mathlib.Omega.{arith}
use borrow.Author.Tests.{eq-eqb, ne_eqb, eqb-true, eqb-false, lt-ltb, le-ltb, ltb-true, ltb-false}
use lib.Dec.{eqb, ltb}
use lib.ListN.{length, get_or, take, drop, length-drop, drop_of_length-le}
use lib.Seq.{take_all, drop-cons, length-take-le}
use Rattle.base.specs.Options.{option_of}
use Rattle.base.proofs.Tests.{by_test}
use Rattle.text.specs.Writing.{Wrote}
use Rattle.answers.specs.Answers.{malformed_text}
use Rattle.hexfields.specs.declared.Part.{Part}
use Rattle.hexfields.specs.declared.Part.TheVariants as part
use Rattle.hexfields.specs.Fields.{says_now}
use Rattle.hexfields.specs.Reading.{PartRead, read_of, keeps_nothing, ReadsOn, end_of, Tells}
use Rattle.hexfields.proofs.Kept as field
use Rattle.merging.specs.declared.Way.{Way}
use Rattle.merging.specs.declared.Way.TheVariants.{Both, Either, Interleaving}
use Rattle.mergetext.specs.declared.Verb.{Verb}
use Rattle.mergetext.specs.declared.Verb.TheVariants.{Merge, Compare, Reduce}
use Rattle.mergetext.specs.Lines.{word_of, verb_word, Meaning, pair_by, alone_by}
use Rattle.mergetext.specs.Answers.{response_in, response_text}
use Rattle.mergescan.specs.declared.Scan.{Scan}
use Rattle.mergescan.specs.declared.Scan.TheVariants as scan
use Rattle.mergescan.specs.Lines.{Seen, stray, first_byte, word_goes_on, after_first, seen_with}
use Rattle.mergescan.specs.Scanning.{begin_of, word_after, second_after, Scanned, scanned, scan_by, scan_of, KeepsLine, keeps_start, keeps_word, keeps_first, keeps_second, keeps_stray, ScansOn, second_held, first_held, held_meaning, scan_all}

-- as many as there are
take_most : (n : ℕ) (l : List ℕ) → take (min n (length l)) l ≡ take n l
take_most n l =
    by_test (ltb n (length l))
    (λ e. let h = ltb-true n (length l) e in let m : min n (length l) ≡ n = omega arith in ap (λ (i : ℕ). take i l) m)
    (λ e.
    let h = ltb-false n (length l) e in
    let m : min n (length l) ≡ length l = omega arith in
    ap (λ (i : ℕ). take i l) m ∙ take_all (length l) l (omega arith) ∙ sym (take_all n l h))

-- the first bytes of a buffer
pub prefix : (k n : ℕ) (l : List ℕ) → k ≡ min n (length l) → k ≡ length (take k l)
prefix k n l e = sym (length-take-le k l (omega arith))

-- ---- `begin`
module _ (c : ℕ) where
  pub begin_both : c ≡ 98 → scan.Word (Merge Both) 1 ≡ begin_of c
  begin_both e = rw e

  pub begin_either : c ≡ 101 → scan.Word (Merge Either) 1 ≡ begin_of c
  begin_either e = rw e

  pub begin_interleaving : c ≡ 105 → scan.Word (Merge Interleaving) 1 ≡ begin_of c
  begin_interleaving e = rw e

  pub begin_compare : c ≡ 99 → scan.Word Compare 1 ≡ begin_of c
  begin_compare e = rw e

  pub begin_reduce : c ≡ 114 → scan.Word Reduce 1 ≡ begin_of c
  begin_reduce e = rw e

  pub begin_stray : (c ≡ 98 → ⊥) → (c ≡ 101 → ⊥) → (c ≡ 105 → ⊥) → (c ≡ 99 → ⊥) → (c ≡ 114 → ⊥) → scan.Stray ≡ begin_of c
  begin_stray b e i m r = rw (ne_eqb c 98 b, ne_eqb c 101 e, ne_eqb c 105 i, ne_eqb c 99 m, ne_eqb c 114 r)

-- ---- `way_letter` and `letter`
pub by_way : (way one : Way) (at r : ℕ) → way ≡ one → r ≡ get_or (word_of one) at 0 → r ≡ get_or (word_of way) at 0
by_way way one at r e is = rw e is

pub by_verb : (verb one : Verb) (at r : ℕ) → verb ≡ one → r ≡ get_or (verb_word one) at 0 → r ≡ get_or (verb_word verb) at 0
by_verb verb one at r e is = rw e is

-- ---- `last_letter`
pub last_by : (verb one : Verb) (r : ℕ) → verb ≡ one → length (verb_word one) ≡ r + 1 → length (verb_word verb) ≡ r + 1
last_by verb one r e is = rw e is

-- ---- `word_on`
module _ (verb : Verb) (at c l : ℕ) (letter : l ≡ get_or (verb_word verb) at 0) where
  pub word_stray : (c ≡ l → ⊥) → scan.Stray ≡ word_after verb at c
  word_stray d = rw (ne_eqb c (get_or (verb_word verb) at 0) (λ e. d (e ∙ sym letter)))

  module _ (same : c ≡ l) (last : ℕ) (long : length (verb_word verb) ≡ last + 1) where
    is_letter : eqb c (get_or (verb_word verb) at 0) ≡ true
    is_letter = eq-eqb c (get_or (verb_word verb) at 0) (same ∙ letter)

    pub word_more : at < last → scan.Word verb (at + 1) ≡ word_after verb at c
    word_more h = rw (is_letter, lt-ltb (at + 1) (length (verb_word verb)) (omega arith))

    pub word_ends : last ≤ at → scan.First verb part.Nothing ≡ word_after verb at c
    word_ends h = rw (is_letter, le-ltb (at + 1) (length (verb_word verb)) (omega arith))

-- ---- `end_first`
module _ (verb : Verb) (p : Part) (x : code.Option ℕ) (says : option_of x ≡ end_of p) where
  pub first_ends : (n : ℕ) → x ≡ Some n → scan.Second verb n part.Nothing ≡ second_after verb (end_of p)
  first_ends n e = ap (second_after verb) (sym (ap option_of e) ∙ says)

  pub first_stray : x ≡ None → scan.Stray ≡ second_after verb (end_of p)
  first_stray e = ap (second_after verb) (sym (ap option_of e) ∙ says)

-- ---- a byte more
module _ (one two : List ℕ) where
  -- the first byte
  begun : (c : ℕ) → KeepsLine (first_byte c) (begin_of c) one two
  begun c =
      by_test (eqb c 98) (λ t. rw t (keeps_word refl)) (λ e.
      by_test (eqb c 101) (λ t. rw (e, t) (keeps_word refl)) (λ f.
      by_test (eqb c 105) (λ t. rw (e, f, t) (keeps_word refl)) (λ g.
      by_test (eqb c 99) (λ t. rw (e, f, g, t) (keeps_word refl)) (λ h.
      by_test (eqb c 114) (λ t. rw (e, f, g, h, t) (keeps_word refl)) (λ i. rw (e, f, g, h, i) keeps_stray)))))

  -- a byte of the word: w is the word, of which x and the rest are still to come
  module _ (verb : Verb) (at x c : ℕ) where
    word_kept : (rest : List ℕ) → get_or (verb_word verb) at 0 ≡ x → drop (suc at) (verb_word verb) ≡ rest → length (verb_word verb) ≡ suc (at + length rest)
        → KeepsLine (cond (eqb c x) (word_goes_on verb rest) stray) (word_after verb at c) one two
    word_kept [] is behind long =
        by_test (eqb c x)
        (λ t. rw (is, t, le-ltb (at + 1) (length (verb_word verb)) (omega arith)) (keeps_first keeps_nothing))
        (λ t. rw (is, t) keeps_stray)
    word_kept (y ∷ rest) is behind long =
        by_test (eqb c x)
        (λ t. rw (is, t, lt-ltb (at + 1) (length (verb_word verb)) (omega arith)) (let next : drop (at + 1) (verb_word verb) ≡ y ∷ rest = rw add-one behind in keeps_word next))
        (λ t. rw (is, t) keeps_stray)

    word_goes_on_lem : (rest : List ℕ) → drop at (verb_word verb) ≡ x ∷ rest
        → KeepsLine (cond (eqb c x) (word_goes_on verb rest) stray) (word_after verb at c) one two
    word_goes_on_lem rest e =
        let long : length (verb_word verb) ≡ suc (at + length rest) = omega (arith, length-drop at (verb_word verb), ap length e) in
        let cut = drop-cons (verb_word verb) at 0 (omega arith) in
        let is : get_or (verb_word verb) at 0 ≡ x = cc in
        let behind : drop (suc at) (verb_word verb) ≡ rest = cc in
        word_kept rest is behind long

  -- the space behind the first field
  space_kept : (verb : Verb) (o : Option (List ℕ)) (said : Option ℕ) → Tells o said one → KeepsLine (after_first verb o) (second_after verb said) one two
  space_kept verb none said t = rw t keeps_stray
  space_kept verb (some f) said t = rw t.1 (keeps_second t.2 keeps_nothing)

  module _ (s r : Scan) (c : ℕ) where
    -- the buffers stay as they are
    stays : (o : Scan) → s ≡ o → ((seen : Seen) → KeepsLine seen o one two → KeepsLine (seen_with seen c) r one two) → ScansOn one two s c one two r
    stays o e law = record {
      size_one = refl;
      size_two = refl;
      goes_on = λ seen k. law seen (subst (λ (x : Scan). KeepsLine seen x one two) e k);
    }

    from_start : s ≡ scan.Start → r ≡ begin_of c → ScansOn one two s c one two r
    from_start e is = stays scan.Start e by_case
      where
        by_case : (seen : Seen) → KeepsLine seen scan.Start one two → KeepsLine (seen_with seen c) r one two
        by_case seen keeps_start = rw is (begun c)

    from_word : (verb : Verb) (at : ℕ) → s ≡ scan.Word verb at → r ≡ word_after verb at c → ScansOn one two s c one two r
    from_word verb at e is = stays (scan.Word verb at) e by_case
      where
        by_case : (seen : Seen) → KeepsLine seen (scan.Word verb at) one two → KeepsLine (seen_with seen c) r one two
        by_case seen (keeps_word {x} {rest} there) = rw is (word_goes_on_lem verb at x c rest there)

    from_space : (verb : Verb) (p : Part) → s ≡ scan.First verb p → c ≡ 32 → r ≡ second_after verb (end_of p) → ScansOn one two s c one two r
    from_space verb p e sp is = stays (scan.First verb p) e by_case
      where
        by_case : (seen : Seen) → KeepsLine seen (scan.First verb p) one two → KeepsLine (seen_with seen c) r one two
        by_case seen (keeps_first {b} k) = rw (eq-eqb c 32 sp, is) (space_kept verb (says_now b) (end_of p) (field.told b p one k))

    from_stray : s ≡ scan.Stray → r ≡ scan.Stray → ScansOn one two s c one two r
    from_stray e is = stays scan.Stray e by_case
      where
        by_case : (seen : Seen) → KeepsLine seen scan.Stray one two → KeepsLine (seen_with seen c) r one two
        by_case seen keeps_stray = rw is keeps_stray

  module _ (s : Scan) (c : ℕ) (verb : Verb) (p q : Part) where
    from_first : s ≡ scan.First verb p → (c ≡ 32 → ⊥) → (after : List ℕ) → ReadsOn one p c after q → ScansOn one two s c after two (scan.First verb q)
    from_first e sp after reads = record {
      size_one = reads.same_size;
      size_two = refl;
      goes_on = λ seen k. by_case seen (subst (λ (x : Scan). KeepsLine seen x one two) e k);
    }
      where
        by_case : (seen : Seen) → KeepsLine seen (scan.First verb p) one two → KeepsLine (seen_with seen c) (scan.First verb q) after two
        by_case seen (keeps_first {b} k) = rw (ne_eqb c 32 sp) (keeps_first (reads.goes_on b k))

    from_second : (n : ℕ) → s ≡ scan.Second verb n p → (after : List ℕ) → ReadsOn two p c after q → ScansOn one two s c one after (scan.Second verb n q)
    from_second n e after reads = record {
      size_one = refl;
      size_two = reads.same_size;
      goes_on = λ seen k. by_case seen (subst (λ (x : Scan). KeepsLine seen x one two) e k);
    }
      where
        by_case : (seen : Seen) → KeepsLine seen (scan.Second verb n p) one two → KeepsLine (seen_with seen c) (scan.Second verb n q) one after
        by_case seen (keeps_second {b} kf k) = keeps_second kf (reads.goes_on b k)

-- ---- what the code does with it, on any value
module _ (one two : List ℕ) (s : Scan) (c : ℕ) where
  pub scan_start : (r : Scan) → s ≡ scan.Start → r ≡ begin_of c → scanned r one two ≡ scan_by s one two c
  scan_start r e is = rw (e, is)

  pub scan_word : (r : Scan) (verb : Verb) (at : ℕ) → s ≡ scan.Word verb at → r ≡ word_after verb at c → scanned r one two ≡ scan_by s one two c
  scan_word r verb at e is = rw (e, is)

  pub scan_space : (r : Scan) (verb : Verb) (p : Part) → s ≡ scan.First verb p → c ≡ 32 → r ≡ second_after verb (end_of p) → scanned r one two ≡ scan_by s one two c
  scan_space r verb p e sp is = rw (e, is, eq-eqb c 32 sp)

  pub scan_first : (verb : Verb) (p q : Part) → s ≡ scan.First verb p → (c ≡ 32 → ⊥) → (after : List ℕ) → record { part = q; buffer = after } ≡ read_of one p c
      → scanned (scan.First verb q) after two ≡ scan_by s one two c
  scan_first verb p q e sp after reads = rw (e, ne_eqb c 32 sp) (ap (λ (x : PartRead). scanned (scan.First verb x.part) x.buffer two) reads)

  pub scan_second : (verb : Verb) (n : ℕ) (p q : Part) → s ≡ scan.Second verb n p → (after : List ℕ) → record { part = q; buffer = after } ≡ read_of two p c
      → scanned (scan.Second verb n q) one after ≡ scan_by s one two c
  scan_second verb n p q e after reads = rw e (ap (λ (x : PartRead). scanned (scan.Second verb n x.part) one x.buffer) reads)

  pub scan_stray : (r : Scan) → s ≡ scan.Stray → r ≡ scan.Stray → scanned r one two ≡ scan_by s one two c
  scan_stray r e is = rw (e, is)

-- and it keeps what was read
scans_by : (s : Scan) (one two : List ℕ) (c : ℕ) → ScansOn one two s c (scan_by s one two c).one (scan_by s one two c).two (scan_by s one two c).scan
scans_by scan.Start one two c = from_start one two scan.Start (begin_of c) c refl refl
scans_by (scan.Word verb at) one two c = from_word one two (scan.Word verb at) (word_after verb at c) c verb at refl refl
scans_by (scan.First verb p) one two c =
    by_test (eqb c 32)
    (λ t. rw t (from_space one two (scan.First verb p) (second_after verb (end_of p)) c verb p refl (eqb-true c 32 t) refl))
    (λ t. rw t (from_first one two (scan.First verb p) c verb p (read_of one p c).part refl (eqb-false c 32 t) (read_of one p c).buffer (field.reads_on one p c)))
scans_by (scan.Second verb n p) one two c =
    from_second one two (scan.Second verb n p) c verb p (read_of two p c).part n refl (read_of two p c).buffer (field.reads_on two p c)
scans_by scan.Stray one two c = from_stray one two scan.Stray scan.Stray c refl refl

pub scans_on : (s : Scanned) (c : ℕ) → ScansOn s.one s.two s.scan c (scan_of s c).one (scan_of s c).two (scan_of s c).scan
scans_on s c = scans_by s.scan s.one s.two c

-- ---- the line has ended
module _ (verb : Verb) (n : ℕ) (p : Part) (one two before after : List ℕ) (at end : ℕ) (x : code.Option ℕ) (says : option_of x ≡ end_of p) where
  abbrev held : Meaning
  held = second_held verb (take n one) (end_of p) two

  pub second_malformed : x ≡ None → Wrote before at malformed_text after end → Wrote before at (response_text (response_in held)) after end
  second_malformed e w =
      let none_there : end_of p ≡ none = sym says ∙ ap option_of e in
      subst (λ (o : Option ℕ). Wrote before at (response_text (response_in (second_held verb (take n one) o two))) after end) (sym none_there) w

  pub second_put : (m : ℕ) → x ≡ Some m → (k l : ℕ) → k ≡ min n (length one) → l ≡ min m (length two)
      → Wrote before at (response_text (response_in (pair_by verb (take k one) (take l two)))) after end → Wrote before at (response_text (response_in held)) after end
  second_put m e k l ek el w =
      let there : end_of p ≡ some m = sym says ∙ ap option_of e in
      let first : take k one ≡ take n one = ap (λ (i : ℕ). take i one) ek ∙ take_most n one in
      let second : take l two ≡ take m two = ap (λ (i : ℕ). take i two) el ∙ take_most m two in
      subst (λ (o : Option ℕ). Wrote before at (response_text (response_in (second_held verb (take n one) o two))) after end) (sym there)
      (subst (λ (f : List ℕ). Wrote before at (response_text (response_in (pair_by verb f (take m two)))) after end) first
      (subst (λ (g : List ℕ). Wrote before at (response_text (response_in (pair_by verb (take k one) g))) after end) second w))

module _ (verb : Verb) (p : Part) (one before after : List ℕ) (at end : ℕ) (x : code.Option ℕ) (says : option_of x ≡ end_of p) where
  pub first_malformed : x ≡ None → Wrote before at malformed_text after end → Wrote before at (response_text (response_in (first_held verb (end_of p) one))) after end
  first_malformed e w =
      let none_there : end_of p ≡ none = sym says ∙ ap option_of e in
      subst (λ (o : Option ℕ). Wrote before at (response_text (response_in (first_held verb o one))) after end) (sym none_there) w

  pub first_put : (n : ℕ) → x ≡ Some n → (k : ℕ) → k ≡ min n (length one)
      → Wrote before at (response_text (response_in (alone_by verb (take k one)))) after end → Wrote before at (response_text (response_in (first_held verb (end_of p) one))) after end
  first_put n e k ek w =
      let there : end_of p ≡ some n = sym says ∙ ap option_of e in
      let first : take k one ≡ take n one = ap (λ (i : ℕ). take i one) ek ∙ take_most n one in
      subst (λ (o : Option ℕ). Wrote before at (response_text (response_in (first_held verb o one))) after end) (sym there)
      (subst (λ (f : List ℕ). Wrote before at (response_text (response_in (alone_by verb f))) after end) first w)

module _ (s : Scan) (one two before after : List ℕ) (at end : ℕ) where
  at_line : (o : Scan) → s ≡ o → Wrote before at (response_text (response_in (held_meaning o one two))) after end
      → Wrote before at (response_text (response_in (held_meaning s one two))) after end
  at_line o e w = subst (λ (x : Scan). Wrote before at (response_text (response_in (held_meaning x one two))) after end) (sym e) w

  pub ends_start : s ≡ scan.Start → Wrote before at malformed_text after end → Wrote before at (response_text (response_in (held_meaning s one two))) after end
  ends_start e w = at_line scan.Start e w

  pub ends_word : (verb : Verb) (read : ℕ) → s ≡ scan.Word verb read → Wrote before at malformed_text after end
      → Wrote before at (response_text (response_in (held_meaning s one two))) after end
  ends_word verb read e w = at_line (scan.Word verb read) e w

  pub ends_first : (verb : Verb) (p : Part) → s ≡ scan.First verb p → Wrote before at (response_text (response_in (first_held verb (end_of p) one))) after end
      → Wrote before at (response_text (response_in (held_meaning s one two))) after end
  ends_first verb p e w = at_line (scan.First verb p) e w

  pub ends_stray : s ≡ scan.Stray → Wrote before at malformed_text after end → Wrote before at (response_text (response_in (held_meaning s one two))) after end
  ends_stray e w = at_line scan.Stray e w

  pub ends_second : (verb : Verb) (n : ℕ) (p : Part) → s ≡ scan.Second verb n p
      → Wrote before at (response_text (response_in (second_held verb (take n one) (end_of p) two))) after end
      → Wrote before at (response_text (response_in (held_meaning s one two))) after end
  ends_second verb n p e w = at_line (scan.Second verb n p) e w

-- ---- bytes, one after the other
pub all_on : (s t : Scanned) (bytes : List ℕ) (i : ℕ) → i < length bytes → t ≡ scan_of s (get_or bytes i 0)
    → scan_all s (drop i bytes) ≡ scan_all t (drop (i + 1) bytes)
unfolding scan_all
all_on s t bytes i here is = rw (add-one, drop-cons bytes i 0) (ap (λ (x : Scanned). scan_all x (drop (suc i) bytes)) (sym is))

pub all_over : (s₀ s : Scanned) (bytes : List ℕ) (i : ℕ) → length bytes ≤ i → scan_all s₀ bytes ≡ scan_all s (drop i bytes) → s ≡ scan_all s₀ bytes
unfolding scan_all
all_over s₀ s bytes i over so = sym (so ∙ ap (scan_all s) (drop_of_length-le bytes over))
