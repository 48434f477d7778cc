-- The bytes of a rule state it: each target mask stands in the four bytes of its cell. Assumes
-- nothing.
use mathlib.Core.Path.{◌≡◌, refl, sym, ap, ◌∙◌}
use mathlib.Core.List.{List, ◌++◌, append_assoc}
use Prim.Native.Nat.{ℕ, ◌+◌, ◌*◌, ◌^◌, ◌<◌}
use native.Mathlib.Omega.{arith}
use lib.ListN.{length, get_or, take, drop, length-append, get_or-eq_default}
use Rattle.base.specs.Lists.{joined}
use lib.Dec.{ltb}
use borrow.Author.Tests.{lt-ltb, ltb-true, ltb-false}
use Rattle.base.proofs.Tests.{by_test}
use Rattle.base.proofs.Lists.{cell_of_lem, length_list_from, is_list_from, length_exact, joined_split, part_at, part-byte}
use Rattle.automaton.specs.declared.Rule.{Rule}
use Rattle.automaton.specs.Rules.{target_mask}
use Rattle.ruleformat.specs.Format.{word_at}
use Rattle.ruleformat.specs.Writing.{Bytes, word, header}
use Rattle.ruleformat.proofs.Writing.{bytes_append, bytes_joined, bytes_word, bytes_header}
use Rattle.packed.specs.Packed.{rule_at, packed_of}
use Rattle.packed.specs.Claims.{FitsRule, Claims}

module _ (r : Rule) where
  abbrev head : List ℕ
  head = header r.n r.k r.initials r.finals

  abbrev mask : ℕ → List ℕ
  mask cell = word (get_or r.targets cell 0)

  masks_size : (n : ℕ) → length (joined mask n) ≡ 4 * n
  masks_size n = omega (arith, length_exact mask n 4 (λ cell l. refl))

  size : length (packed_of r) ≡ 2058
  size = omega (arith, length-append head (joined mask 512), masks_size 512)

  mask_part : (cell : ℕ) → cell < 512 → take 4 (drop (10 + 4 * cell) (packed_of r)) ≡ mask cell
  mask_part cell l =
      let rest = joined_split mask 512 cell l in
      part_at (packed_of r) (head ++ joined mask cell) (mask cell) rest.0 (10 + 4 * cell)
      (ap (λ (x : List ℕ). head ++ x) rest.1 ∙ simp append_assoc)
      (omega (arith, length-append head (joined mask cell), masks_size cell))

  mask_byte : (cell j m : ℕ) → cell < 512 → j < 4 → m ≡ 10 + 4 * cell + j → get_or (packed_of r) m 0 ≡ get_or (mask cell) j 0
  mask_byte cell j m l h e =
      ap (λ (x : ℕ). get_or (packed_of r) x 0) e ∙ part-byte (packed_of r) (mask cell) (10 + 4 * cell) j (mask_part cell l) h

  module _ (fits : FitsRule r) where
    mask_is : (cell : ℕ) → cell < 512 → get_or r.targets cell 0 ≡ word_at (packed_of r) (10 + 4 * cell)
    mask_is cell l =
        let a = 10 + 4 * cell in
        omega (
          arith,
          fits.masks cell,
          mask_byte cell 0 a l (omega arith) (omega arith),
          mask_byte cell 1 (a + 1) l (omega arith) (omega arith),
          mask_byte cell 2 (a + 2) l (omega arith) (omega arith),
          mask_byte cell 3 (a + 2 + 1) l (omega arith) (omega arith),
        )

    initials_are : word_at (packed_of r) 2 ≡ r.initials
    initials_are = omega arith

    finals_are : word_at (packed_of r) 6 ≡ r.finals
    finals_are = omega arith

    round_trip : rule_at (packed_of r) ≡ r
    round_trip = λ i. record {
      n = r.n;
      k = r.k;
      initials = initials_are i;
      finals = finals_are i;
      targets = sym (is_list_from r.targets 512 (λ cell. word_at (packed_of r) (10 + 4 * cell)) fits.cells mask_is) i;
    }

    bytes : Bytes (packed_of r)
    bytes =
        bytes_append head (joined mask 512)
        (bytes_header r.n r.k r.initials r.finals fits.states fits.symbols fits.initials fits.finals)
        (bytes_joined mask 512 (λ cell l. bytes_word (get_or r.targets cell 0) (fits.masks cell)))

module _ (b : List ℕ) (h : Bytes b) where
  word_below : (i : ℕ) → word_at b i < 2 ^ 32
  word_below i = omega (arith, h i, h (i + 1), h (i + 2), h (i + 2 + 1))

  mask_below : (cell : ℕ) → get_or (rule_at b).targets cell 0 < 2 ^ 32
  mask_below cell =
      let g : ℕ → ℕ = λ c. word_at b (10 + 4 * c) in
      by_test (ltb cell 512)
      (λ e. omega (arith, cell_of_lem 512 g cell 0 (ltb-true cell 512 e), word_below (10 + 4 * cell)))
      (λ e.
      let past : get_or (rule_at b).targets cell 0 ≡ 0 =
      get_or-eq_default (rule_at b).targets 0 (omega (arith, length_list_from 0 512 g, ltb-false cell 512 e)) in
      omega (arith, past))

  stated_fits : FitsRule (rule_at b)
  stated_fits = record {
    states = h 0;
    symbols = h 1;
    initials = word_below 2;
    finals = word_below 6;
    cells = length_list_from 0 512 (λ cell. word_at b (10 + 4 * cell));
    masks = mask_below;
  }

packed_mask : (r : Rule) → FitsRule r → (q s : ℕ) → q < 32 → s < 16 → word_at (packed_of r) (10 + 4 * (q * 16 + s)) ≡ target_mask r.targets q s
packed_mask r fits q s l k = sym (mask_is r fits (q * 16 + s) (omega (arith, l, k))) ∙ rw (lt-ltb s 16 k)

stated_mask : (b : List ℕ) (q s : ℕ) → q < 32 → s < 16 → target_mask (rule_at b).targets q s ≡ word_at b (10 + 4 * (q * 16 + s))
stated_mask b q s l k = rw (lt-ltb s 16 k) (cell_of_lem 512 (λ cell. word_at b (10 + 4 * cell)) (q * 16 + s) 0 (omega (arith, l, k)))

pub claims : Claims
claims = record {
  packed_round_trip = round_trip;
  packed_size_lem = size;
  packed_bytes = bytes;
  packed_head = λ r fits. (refl, refl, initials_are r fits, finals_are r fits);
  packed_mask = packed_mask;
  stated_head = λ b. (refl, refl, refl, refl);
  stated_mask = stated_mask;
  stated_fits = stated_fits;
}
