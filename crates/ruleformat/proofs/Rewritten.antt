-- An accepted file of bytes is the file of its rule. It is its header, its pairs and its sections,
-- one after the other, since no pair leaves a gap; each number is written in the only way; and a
-- section has the arcs of the rule's masks in the only order that is accepted. Assumes nothing.
use mathlib.Core.Path.{◌≡◌, sym, ap, ap₂, ◌∙◌}
use mathlib.Core.List.{List, ◌∷◌, ◌++◌, append-nil}
use mathlib.Core.Option.{none}
use Prim.Native.Nat.{ℕ, zero, suc, ◌+◌, ◌*◌, ◌/◌, ◌%◌, ◌≤◌, ◌<◌}
use native.Mathlib.Omega.{arith}
use lib.ListN.{length, get_or, drop, length-append, length-drop, take-append-drop}
use lib.Seq.{drop-cons, drop-drop, drop-length, length-take-le}
use Rattle.base.specs.Lists.{joined}
use Rattle.base.proofs.Lists.{joined_same, joined-none, joined_suc, cut}
use Rattle.automaton.specs.Rules.{target_mask}
use Rattle.ruleformat.specs.Format.{half_at, word_at, state_count, symbol_count, initial_mask, final_mask, offset_of, length_of, section}
use Rattle.ruleformat.specs.Refusals.{due_at, refusal}
use Rattle.ruleformat.specs.Reader.{rule_of}
use Rattle.ruleformat.specs.Language.{ArcIn}
use Rattle.ruleformat.specs.Writing.{Bytes, half, word, header, offset_in, pairs, file_with, section_of, file_of}
use Rattle.ruleformat.proofs.Pairs.{end, offset_due, even_length, within}
use Rattle.ruleformat.proofs.Accepted.{Accepted, accepted, good_section}
use Rattle.ruleformat.proofs.Language.{in_bounds, arcs}
use Rattle.ruleformat.proofs.Rising.{same_section, in_at, stands, passed}
use Rattle.ruleformat.proofs.Sections.{section_rises, arcs_of, of_arcs}

-- equal sections make equal files
file_same : (n k i f : ℕ) (p p' : ℕ → List ℕ) → ((q : ℕ) → q < n → p q ≡ p' q) → file_with n k i f p ≡ file_with n k i f p'
file_same n k i f p p' same =
    let bodies : (q : ℕ) → q ≤ n → joined p q ≡ joined p' q = λ q h. joined_same p p' q (λ j l. same j (omega arith)) in
    let each : (q : ℕ) → q < n
    → half (offset_in n p q) ++ half (length (p q)) ≡ half (offset_in n p' q) ++ half (length (p' q)) =
    λ q h.
    ap₂ (λ (x y : List ℕ). half (10 + 4 * n + length x) ++ half (length y)) (bodies q (omega arith)) (same q h) in
    ap₂ (λ (x y : List ℕ). header n k i f ++ (x ++ y))
    (joined_same (λ q. half (offset_in n p q) ++ half (length (p q))) (λ q. half (offset_in n p' q) ++ half (length (p' q))) n each)
    (bodies n (omega arith))

module _ (f : List ℕ) (bytes : Bytes f) where
  half_small : (m : ℕ) → half_at f m < 65536
  half_small m = omega (arith, bytes m, bytes (m + 1))

  -- two bytes are their number, written
  half_ahead : (m : ℕ) → m + 2 ≤ length f → drop m f ≡ half (half_at f m) ++ drop (m + 2) f
  half_ahead m h =
      let low : half_at f m % 256 ≡ get_or f m 0 = omega (arith, bytes m) in
      let high : half_at f m / 256 ≡ get_or f (m + 1) 0 = omega (arith, bytes m) in
      let one : suc m ≡ m + 1 = omega arith in
      let two : suc (m + 1) ≡ m + 2 = omega arith in
      rw (low, high)
      (drop-cons f m 0 (omega arith)
      ∙ ap (λ (x : ℕ). get_or f m 0 ∷ drop x f) one
      ∙ ap (λ (x : List ℕ). get_or f m 0 ∷ x) (drop-cons f (m + 1) 0 (omega arith) ∙ ap (λ (x : ℕ). get_or f (m + 1) 0 ∷ drop x f) two))

  word_ahead : (m : ℕ) → m + 4 ≤ length f → drop m f ≡ word (word_at f m) ++ drop (m + 4) f
  word_ahead m h =
      let low : word_at f m % 65536 ≡ half_at f m = omega (arith, half_small m) in
      let high : word_at f m / 65536 ≡ half_at f (m + 2) = omega (arith, half_small m) in
      let four : m + 2 + 2 ≡ m + 4 = omega arith in
      half_ahead m (omega arith)
      ∙ ap (λ (x : List ℕ). half (half_at f m) ++ x)
      (half_ahead (m + 2) (omega arith) ∙ ap (λ (x : ℕ). half (half_at f (m + 2)) ++ drop x f) four)
      ∙ ap₂ (λ (x y : ℕ). half x ++ (half y ++ drop (m + 4) f)) (sym low) (sym high)

  module _ (a : Accepted f) where
    header_ahead : f ≡ header (state_count f) (symbol_count f) (initial_mask f) (final_mask f) ++ drop 10 f
    header_ahead =
        let h = a.long in
        drop-cons f 0 0 (omega arith)
        ∙ ap (λ (x : List ℕ). state_count f ∷ x)
        (drop-cons f 1 0 (omega arith)
        ∙ ap (λ (x : List ℕ). symbol_count f ∷ x)
        (word_ahead 2 (omega arith) ∙ ap (λ (x : List ℕ). word (initial_mask f) ++ x) (word_ahead 6 (omega arith))))

    section_ahead : (q : ℕ) → q < state_count f → drop (due_at f q) f ≡ section f q ++ drop (due_at f (suc q)) f
    section_ahead q l =
        ap (λ (x : ℕ). drop x f) (sym (offset_due f a.pairs q l))
        ∙ sym (take-append-drop (length_of f q) (drop (offset_of f q) f))
        ∙ ap (λ (x : List ℕ). section f q ++ x) (drop-drop (length_of f q) (offset_of f q) f)

    section_length : (q : ℕ) → q < state_count f → length (section f q) ≡ length_of f q
    section_length q l =
        length-take-le (length_of f q) (drop (offset_of f q) f) (omega (arith, length-drop (offset_of f q) f, within f a.pairs q l))

    due_is : (q : ℕ) → q ≤ state_count f → offset_in (state_count f) (section f) q ≡ due_at f q
    due_is zero l = omega (arith, ap length (joined-none (section f)))
    due_is (suc q) l =
        omega (
          arith,
          due_is q (omega arith),
          offset_due f a.pairs q l,
          section_length q l,
          ap length (joined_suc (section f) q),
          length-append (joined (section f) q) (section f q),
        )

    pair_ahead : (q : ℕ) → q < state_count f
        → drop (10 + 4 * q) f ≡ (half (offset_in (state_count f) (section f) q) ++ half (length (section f q))) ++ drop (10 + 4 * suc q) f
    pair_ahead q l =
        let r = a.room in
        let two : 10 + 4 * q + 2 ≡ 12 + 4 * q = omega arith in
        let four : 12 + 4 * q + 2 ≡ 10 + 4 * suc q = omega arith in
        half_ahead (10 + 4 * q) (omega arith)
        ∙ ap (λ (x : List ℕ). half (offset_of f q) ++ x)
        (ap (λ (x : ℕ). drop x f) two
        ∙ half_ahead (12 + 4 * q) (omega arith)
        ∙ ap (λ (x : ℕ). half (length_of f q) ++ drop x f) four)
        ∙ ap₂ (λ (x y : ℕ). half x ++ (half y ++ drop (10 + 4 * suc q) f))
        (offset_due f a.pairs q l ∙ sym (due_is q (omega arith)))
        (sym (section_length q l))

    -- the file is put together from its parts
    parts : f ≡ file_with (state_count f) (symbol_count f) (initial_mask f) (final_mask f) (section f)
    parts =
        header_ahead
        ∙ ap (λ (x : List ℕ). header (state_count f) (symbol_count f) (initial_mask f) (final_mask f) ++ x)
        (cut (λ q. half (offset_in (state_count f) (section f) q) ++ half (length (section f q))) f (λ q. 10 + 4 * q) (state_count f) pair_ahead
        ∙ ap (λ (x : List ℕ). pairs (state_count f) (section f) ++ x)
        (cut (section f) f (due_at f) (state_count f) section_ahead
        ∙ ap (λ (x : List ℕ). joined (section f) (state_count f) ++ x) (ap (λ (x : ℕ). drop x f) (end f a.pairs) ∙ drop-length f)
        ∙ append-nil (joined (section f) (state_count f))))

    abbrev masks : ℕ → ℕ → ℕ
    masks = target_mask (rule_of f).targets

    -- a section is the one that is written for the rule's masks
    section_is : (q : ℕ) → q < state_count f → section f q ≡ section_of (state_count f) (symbol_count f) (masks q)
    section_is q l =
        let few : state_count f ≤ 256 = omega (arith, a.states.1) in
        same_section few
        (passed few (symbol_count f) (section f q) (ap (λ (x : ℕ). x % 2) (section_length q l) ∙ even_length f a.pairs q l) (good_section f a q l))
        (section_rises (state_count f) (symbol_count f) few (masks q))
        λ s t. (
          (λ x.
              let r = stands x in
              let there : ArcIn f q s t = record { state = l; index = r.index; within = r.within; symbol = r.symbol; target = r.target } in
              let b = in_bounds f a q s t there in
              of_arcs (state_count f) (symbol_count f) few (masks q) b.0 b.1 ((arcs f a q s t).0 there)),
          λ x.
              let r = (arcs f a q s t).1 (arcs_of (state_count f) (symbol_count f) few (masks q) x).2 in
              rw (r.symbol, r.target) at (in_at (section f q) r.index r.within),
        )

    pub whole : file_of (rule_of f) ≡ f
    whole =
        sym (parts
        ∙ file_same (state_count f) (symbol_count f) (initial_mask f) (final_mask f) (section f)
        (λ q. section_of (state_count f) (symbol_count f) (masks q))
        section_is)

pub rewritten : (f : List ℕ) → Bytes f → refusal f ≡ none → file_of (rule_of f) ≡ f
rewritten f b e = whole f b (accepted f e)

pub one_file : (f g : List ℕ) → Bytes f → Bytes g → refusal f ≡ none → refusal g ≡ none → rule_of f ≡ rule_of g → f ≡ g
one_file f g bf bg ef eg same = sym (rewritten f bf ef) ∙ ap file_of same ∙ rewritten g bg eg
