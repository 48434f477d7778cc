-- A line merges or compares two files, or reduces one, exactly when it is the word and the fields that
-- say them. Assumes nothing.
--
--   Meant l m     what the line l is where it means m
--   …-meant       it is so, by the word with which it begins and by what its fields say
use mathlib.Core.Path.{◌≡◌, refl, sym, ap, ◌∙◌, subst}
use mathlib.Core.Logic.{◌↔◌}
use mathlib.Core.List.{List, [], ◌∷◌, ◌++◌}
use mathlib.Core.Option.{Option, none, some}
use Prim.Native.Nat.{ℕ}
use native.Mathlib.Omega.{arith}
use borrow.Author.Tests.{ne_eqb, ltb-true, ltb-false}
use lib.Dec.{ltb}
use lib.ListN.{length, drop}
use Rattle.base.proofs.Options.{none-some}
use Rattle.base.proofs.Tests.{by_test}
use Rattle.lines.specs.Splitting.{begins, up_to, past}
use Rattle.lines.proofs.Over.{Over, over_up, over_past}
use Rattle.lines.proofs.Splits.{begins_whole, past_whole, past_there, past_none, up_whole}
use Rattle.fields.specs.Bytes.{parse_bytes}
use Rattle.fields.specs.Claims.{AllBytes, field_of, SaysBytes}
use Rattle.fields.proofs.Exact.{own_bytes}
use Rattle.fields.proofs.Claims as fields
use Rattle.hexfields.proofs.Digits.{bytes_over}
use Rattle.merging.specs.declared.Way.{Way}
use Rattle.merging.specs.declared.Way.TheVariants.{Both, Either, Interleaving}
use Rattle.mergetext.specs.declared.Verb.{Verb}
use Rattle.mergetext.specs.declared.Verb.TheVariants.{Merge, Compare, Reduce}
use Rattle.mergetext.specs.Lines.{word_of, verb_word, Meaning, merges, compares, reduces, malformed, pair_by, alone_by, second_by, first_by, fields_in, word_in, line_in}
use Rattle.mergetext.specs.Claims.{line_of, SaysTwo, SaysMerge, SaysLine}

-- a text that does not split
up_all : (w : List ℕ) → past 32 w ≡ none → up_to 32 w ≡ w
up_all w e =
    by_test (ltb (length (up_to 32 w)) (length w))
    (λ t. none-some e (past_there 32 w (ltb-true (length (up_to 32 w)) (length w) t)))
    (λ t. up_whole 32 w (ltb-false (length (up_to 32 w)) (length w) t))

over_all : (w : List ℕ) → Over 32 w → up_to 32 w ≡ w
unfolding up_to
over_all [] a = refl
over_all (x ∷ w) a = rw (ne_eqb x 32 (λ e. omega (arith, a.0))) (ap (λ (l : List ℕ). x ∷ l) (over_all w a.1))

abbrev Meant : List ℕ → Meaning → Type 0
Meant l (merges way f g) = SaysLine l (merges way f g)
Meant l (compares f g) = SaysLine l (compares f g)
Meant l (reduces f) = SaysLine l (reduces f)
Meant l malformed = Unit {0}

-- ---- from a line to what it means
pair_meant : (l : List ℕ) (v : Verb) (f g : List ℕ) → SaysTwo l (verb_word v) f g → Meant l (pair_by v f g)
pair_meant l (Merge way) f g s = s
pair_meant l Compare f g s = s
pair_meant l Reduce f g s = tt

alone_meant : (l : List ℕ) (v : Verb) (x f : List ℕ) → l ≡ verb_word v ++ x → SaysBytes x f → Meant l (alone_by v f)
alone_meant l (Merge way) x f is s = tt
alone_meant l Compare x f is s = tt
alone_meant l Reduce x f is s = (x, is, s)

module _ (l : List ℕ) (v : Verb) where
  second_meant : (x y f : List ℕ) → l ≡ verb_word v ++ (x ++ (32 ∷ y)) → parse_bytes x ≡ some f → (o : Option (List ℕ)) → parse_bytes y ≡ o
      → Meant l (second_by v f o)
  second_meant x y f is e none h = tt
  second_meant x y f is e (some g) h =
      pair_meant l v f g (x, y, is, ((fields.claims).bytes_exactly x f).0 e, ((fields.claims).bytes_exactly y g).0 h)

  first_meant : (w : List ℕ) → l ≡ verb_word v ++ w → (o : Option (List ℕ)) → parse_bytes (up_to 32 w) ≡ o → (rest : Option (List ℕ)) → past 32 w ≡ rest
      → Meant l (first_by v o rest)
  first_meant w is none e rest h = tt
  first_meant w is (some f) e none h =
      let whole : up_to 32 w ≡ w = up_all w h in
      alone_meant l v w f is (((fields.claims).bytes_exactly w f).0 (ap parse_bytes (sym whole) ∙ e))
  first_meant w is (some f) e (some y) h =
      second_meant (up_to 32 w) y f (is ∙ ap (λ (u : List ℕ). verb_word v ++ u) (past_whole 32 w y h)) e (parse_bytes y) refl

  word_meant : (other : Meaning) → Meant l other → Meant l (word_in v l other)
  word_meant other m =
      by_test (begins (verb_word v) l)
      (λ t.
      let w = drop (length (verb_word v)) l in
      rw t (first_meant w (begins_whole (verb_word v) l t) (parse_bytes (up_to 32 w)) refl (past 32 w) refl))
      (λ t. rw t m)

meant : (l : List ℕ) → Meant l (line_in l)
unfolding line_in
meant l =
    word_meant l (Merge Both) _
    (word_meant l (Merge Either) _
    (word_meant l (Merge Interleaving) _ (word_meant l Compare _ (word_meant l Reduce malformed tt))))

-- ---- and back: no hex digit is a space
pair_said : (v : Verb) (x y f g : List ℕ) → SaysBytes x f → SaysBytes y g → fields_in v (x ++ (32 ∷ y)) ≡ pair_by v f g
pair_said v x y f g s t =
    rw (over_up 32 y x (bytes_over x f s), over_past 32 y x (bytes_over x f s), ((fields.claims).bytes_exactly x f).1 s, ((fields.claims).bytes_exactly y g).1 t)

alone_said : (v : Verb) (x f : List ℕ) → SaysBytes x f → fields_in v x ≡ alone_by v f
alone_said v x f s =
    let whole : up_to 32 x ≡ x = over_all x (bytes_over x f s) in
    let behind : past 32 x ≡ none = past_none 32 x (rw whole (omega arith)) in
    rw (whole, behind, ((fields.claims).bytes_exactly x f).1 s)

line_said : (v : Verb) (w : List ℕ) → line_in (verb_word v ++ w) ≡ fields_in v w
unfolding line_in begins
line_said (Merge Both) w = refl
line_said (Merge Either) w = refl
line_said (Merge Interleaving) w = refl
line_said Compare w = refl
line_said Reduce w = refl

two_said : (l : List ℕ) (v : Verb) (f g : List ℕ) → SaysTwo l (verb_word v) f g → line_in l ≡ pair_by v f g
two_said l v f g s = ap line_in s.2 ∙ line_said v (s.0 ++ (32 ∷ s.1)) ∙ pair_said v s.0 s.1 f g s.3 s.4

said : (l : List ℕ) (m : Meaning) → SaysLine l m → line_in l ≡ m
said l (merges way f g) s = two_said l (Merge way) f g s
said l (compares f g) s = two_said l Compare f g s
said l (reduces f) s = ap line_in s.1 ∙ line_said Reduce s.0 ∙ alone_said Reduce s.0 f s.2
said l malformed s = absurd s

pub line_exactly : (l : List ℕ) (way : Way) (f g : List ℕ) → (line_in l ≡ merges way f g) ↔ SaysMerge l way f g
line_exactly l way f g = (λ e. subst (Meant l) e (meant l), said l (merges way f g))

pub compare_exactly : (l f g : List ℕ) → (line_in l ≡ compares f g) ↔ SaysLine l (compares f g)
compare_exactly l f g = (λ e. subst (Meant l) e (meant l), said l (compares f g))

pub reduce_exactly : (l f : List ℕ) → (line_in l ≡ reduces f) ↔ SaysLine l (reduces f)
reduce_exactly l f = (λ e. subst (Meant l) e (meant l), said l (reduces f))

other : (l : List ℕ) (m : Meaning) → Meant l m → ((n : Meaning) → SaysLine l n → ⊥) → m ≡ malformed
other l (merges way f g) s o = absurd (o (merges way f g) s)
other l (compares f g) s o = absurd (o (compares f g) s)
other l (reduces f) s o = absurd (o (reduces f) s)
other l malformed s o = refl

none_says : (l : List ℕ) (m : Meaning) → SaysLine l m → m ≡ malformed → ⊥
none_says l m s e = subst (SaysLine l) e s

pub malformed_exactly : (l : List ℕ) → (line_in l ≡ malformed) ↔ ((m : Meaning) → SaysLine l m → ⊥)
malformed_exactly l = (λ e m s. none_says l m s (sym (said l m s) ∙ e), λ o. other l (line_in l) (meant l) o)

-- ---- every word and every one or two files have a line
own_two : (word f g : List ℕ) → AllBytes f → AllBytes g → SaysTwo (word ++ (field_of f ++ (32 ∷ field_of g))) word f g
own_two word f g hf hg = (field_of f, field_of g, refl, own_bytes f hf, own_bytes g hg)

pub line_round_trip : (way : Way) (f g : List ℕ) → AllBytes f → AllBytes g → line_in (line_of way f g) ≡ merges way f g
line_round_trip way f g hf hg = said (line_of way f g) (merges way f g) (own_two (word_of way) f g hf hg)

pub compare_round_trip : (f g : List ℕ) → AllBytes f → AllBytes g → line_in (verb_word Compare ++ (field_of f ++ (32 ∷ field_of g))) ≡ compares f g
compare_round_trip f g hf hg = said (verb_word Compare ++ (field_of f ++ (32 ∷ field_of g))) (compares f g) (own_two (verb_word Compare) f g hf hg)

pub reduce_round_trip : (f : List ℕ) → AllBytes f → line_in (verb_word Reduce ++ field_of f) ≡ reduces f
reduce_round_trip f hf = said (verb_word Reduce ++ field_of f) (reduces f) (field_of f, refl, own_bytes f hf)
