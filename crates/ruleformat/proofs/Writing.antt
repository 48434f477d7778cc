-- The file that is put together from a header and sections: what reading finds in it, that it is
-- accepted where its numbers and sections are good, and that it is all bytes. Assumes nothing.
use mathlib.Core.Path.{◌≡◌, refl, sym, ap, ap₂, ◌∙◌}
use mathlib.Core.Bool.{false, not}
use mathlib.Core.List.{List, [], ◌∷◌, ◌++◌, append_assoc}
use mathlib.Core.Option.{none}
use Prim.Native.Nat.{ℕ, zero, suc, ◌+◌, ◌*◌, ◌/◌, ◌%◌, ◌^◌, ◌≤◌, ◌<◌}
use native.Mathlib.Omega.{arith}
use lib.ListN.{length, get_or, take, drop, length-append}
use lib.Pow.{pow_mono}
use borrow.Author.Tests.{eq-eqb}
use Rattle.base.specs.Lists.{joined}
use Rattle.base.proofs.Conditions.{none_all, none_law}
use Rattle.base.proofs.Lists.{joined-none, joined_suc, length_exact, joined_length, joined_split, part_at, part-byte}
use Rattle.ruleformat.specs.Format.{initial_mask, final_mask, offset_of, length_of, section}
use Rattle.ruleformat.specs.Refusals.{due_at, bad_mask, bad_pair, bad_pairs, bad_section, bad_arcs, file_conditions, refusal}
use Rattle.ruleformat.specs.Writing.{Bytes, half, word, header, offset_in, pairs, file_with}
use Rattle.ruleformat.proofs.Pairs.{good_pair, pairs_end}
use Rattle.ruleformat.proofs.Refused as refused

-- ---- what reading finds
module _ (n k i f : ℕ) (sections : ℕ → List ℕ) where
  abbrev file : List ℕ
  file = file_with n k i f sections

  abbrev pair : ℕ → List ℕ
  pair q = half (offset_in n sections q) ++ half (length (sections q))

  pairs_size : (q : ℕ) → length (joined pair q) ≡ 4 * q
  pairs_size q = omega (arith, length_exact pair q 4 (λ p l. refl))

  pub size_is : length file ≡ offset_in n sections n
  size_is =
      omega (arith, length-append (header n k i f) (pairs n sections ++ joined sections n), length-append (pairs n sections) (joined sections n), pairs_size n)

  pair_part : (q : ℕ) → q < n → take 4 (drop (10 + 4 * q) file) ≡ pair q
  pair_part q l =
      let r = joined_split pair n q l in
      part_at file (header n k i f ++ joined pair q) (pair q) (r.0 ++ joined sections n) (10 + 4 * q)
      (ap (λ (x : List ℕ). header n k i f ++ (x ++ joined sections n)) r.1 ∙ simp append_assoc)
      (omega (arith, length-append (header n k i f) (joined pair q), pairs_size q))

  pair_byte : (q j m : ℕ) → q < n → j < 4 → m ≡ 10 + 4 * q + j → get_or file m 0 ≡ get_or (pair q) j 0
  pair_byte q j m l h e = ap (λ (x : ℕ). get_or file x 0) e ∙ part-byte file (pair q) (10 + 4 * q) j (pair_part q l) h

  offset_is : (q : ℕ) → q < n → offset_of file q ≡ offset_in n sections q
  offset_is q l =
      omega (arith, pair_byte q 0 (10 + 4 * q) l (omega arith) (omega arith), pair_byte q 1 (10 + 4 * q + 1) l (omega arith) (omega arith))

  length_is : (q : ℕ) → q < n → length_of file q ≡ length (sections q)
  length_is q l =
      omega (arith, pair_byte q 2 (12 + 4 * q) l (omega arith) (omega arith), pair_byte q 3 (12 + 4 * q + 1) l (omega arith) (omega arith))

  pub section_is : (q : ℕ) → q < n → section file q ≡ sections q
  section_is q l =
      let r = joined_split sections n q l in
      ap₂ (λ (x y : ℕ). take x (drop y file)) (length_is q l) (offset_is q l)
      ∙ part_at file (header n k i f ++ (pairs n sections ++ joined sections q)) (sections q) r.0 (offset_in n sections q)
      (ap (λ (x : List ℕ). header n k i f ++ (pairs n sections ++ x)) r.1 ∙ simp append_assoc)
      (omega (
        arith,
        length-append (header n k i f) (pairs n sections ++ joined sections q),
        length-append (pairs n sections) (joined sections q),
        pairs_size n,
      ))

  pub initial_is : initial_mask file ≡ i
  initial_is = omega arith

  pub final_is : final_mask file ≡ f
  final_is = omega arith

  due_is : (q : ℕ) → q ≤ n → due_at file q ≡ offset_in n sections q
  due_is zero l = omega (arith, ap length (joined-none sections))
  due_is (suc q) l =
      omega (arith, offset_is q l, length_is q l, ap length (joined_suc sections q), length-append (joined sections q) (sections q))

  -- ---- that it is accepted
  module _ (states : (1 ≤ n) × (n ≤ 32)) (symbols : (1 ≤ k) × (k ≤ 16)) (small-i : i < 2 ^ n) (small-f : f < 2 ^ n)
      (short : length file ≤ 32906) (even : (q : ℕ) → q < n → length (sections q) % 2 ≡ 0)
      (good : (q : ℕ) → q < n → bad_section n k (sections q) ≡ false) where
    good_masks : bad_mask file ≡ false
    good_masks =
        refused.good_masks file (rw initial_is small-i) (rw final_is small-f)

    good_pairs : bad_pairs file ≡ false
    good_pairs =
        pairs_end file
        (none_all (bad_pair file) n λ q l.
        good_pair file q (offset_is q l ∙ sym (due_is q (omega arith))) (ap (λ (x : ℕ). x % 2) (length_is q l) ∙ even q l))
        ∙ ap not (eq-eqb (due_at file n) (length file) (due_is n (omega arith) ∙ sym size_is))

    good_arcs : bad_arcs file ≡ false
    unfolding bad_arcs
    good_arcs = none_all (λ q. bad_section n k (section file q)) n (λ q l. ap (bad_section n k) (section_is q l) ∙ good q l)

    pub accepted : refusal file ≡ none
    unfolding refusal
    accepted =
        (none_law (file_conditions file)).1 (
          refused.not_short file (omega (arith, size_is)),
          (
            refused.not_long file short,
            (
              refused.good_states file states.0 states.1,
              (
                refused.good_symbols file symbols.0 symbols.1,
                (refused.room file (omega (arith, size_is)), (good_masks, (good_pairs, (good_arcs, tt)))),
              ),
            ),
          ),
        )

-- ---- that it is a list of bytes
pub bytes_append : (a b : List ℕ) → Bytes a → Bytes b → Bytes (a ++ b)
bytes_append [] b ha hb i = hb i
bytes_append (x ∷ a) b ha hb zero = ha 0
bytes_append (x ∷ a) b ha hb (suc i) = bytes_append a b (λ j. ha (suc j)) hb i

pub bytes_joined : (p : ℕ → List ℕ) (n : ℕ) → ((i : ℕ) → i < n → Bytes (p i)) → Bytes (joined p n)
unfolding joined
bytes_joined p zero h i = omega arith
bytes_joined p (suc n) h i = bytes_append (joined p n) (p n) (bytes_joined p n (λ j l. h j (omega arith))) (h n (omega arith)) i

bytes_half : (x : ℕ) → x < 65536 → Bytes (half x)
bytes_half x h zero = omega arith
bytes_half x h (suc zero) = omega arith
bytes_half x h (suc (suc i)) = omega arith

pub bytes_word : (x : ℕ) → x < 4294967296 → Bytes (word x)
bytes_word x h = bytes_append (half (x % 65536)) (half (x / 65536)) (bytes_half (x % 65536) (omega arith)) (bytes_half (x / 65536) (omega arith))

pub bytes_header : (n k i f : ℕ) → n < 256 → k < 256 → i < 4294967296 → f < 4294967296 → Bytes (header n k i f)
bytes_header n k i f hn hk hi hf zero = hn
bytes_header n k i f hn hk hi hf (suc zero) = hk
bytes_header n k i f hn hk hi hf (suc (suc j)) = bytes_append (word i) (word f) (bytes_word i hi) (bytes_word f hf) j

module _ (n k i f : ℕ) (sections : ℕ → List ℕ) (hn : n ≤ 32) (hk : k ≤ 16) (hi : i < 2 ^ n) (hf : f < 2 ^ n)
    (short : (q : ℕ) → q < n → length (sections q) ≤ 1024) (each : (q : ℕ) → q < n → Bytes (sections q)) where
  bytes_pair : (q : ℕ) → q < n → Bytes (half (offset_in n sections q) ++ half (length (sections q)))
  bytes_pair q l =
      let s = short q l in
      let t = joined_length sections q 1024 (λ p m. short p (omega arith)) in
      bytes_append (half (offset_in n sections q)) (half (length (sections q)))
      (bytes_half (offset_in n sections q) (omega arith))
      (bytes_half (length (sections q)) (omega arith))

  pub bytes_file : Bytes (file_with n k i f sections)
  bytes_file =
      let m : 2 ^ n ≤ 4294967296 = pow_mono hn in
      bytes_append (header n k i f) (pairs n sections ++ joined sections n)
      (bytes_header n k i f (omega arith) (omega arith) (omega arith) (omega arith))
      (bytes_append (pairs n sections) (joined sections n)
      (bytes_joined (λ q. half (offset_in n sections q) ++ half (length (sections q))) n bytes_pair)
      (bytes_joined sections n each))
