-- What the functions come to, over plain variables, one law for each way out. Assumes nothing.
--
--   size_of, fields_length   how many bytes fields have
--   bytes_in_append         the bytes of fields behind others
--   whole_saved             the parts that `save` writes, and the digest, are the saved judge
--   wrong_0 .. wrong_3, head_is   mark, version and length, test by test
--   no_size, no_head, all_right   so of the whole
--   size_right              saved bytes have their number
--   accepted-is, refused-is what `restore` answers
use Rattle.std.proofs.Common.{◌≡◌, Ok, Err, ℕ, ◌+◌, ◌*◌, ◌≤◌, Bool, true, false, eqb, List, [], ◌∷◌, ◌++◌, length, take, sym, refl, ap, ◌∙◌, ap₂, append_assoc, arith, length-append, take_all, eq-eqb, ne_eqb, eqb-true}
use Rattle.build.specs.declared.Built.{Built}
use Rattle.board.specs.declared.Board.{Board}
use Rattle.calls.specs.declared.Judge.{Judge}
use Rattle.base.proofs.Tests.{by_test, not_both}
use Rattle.text.specs.Writing.{Wrote}
use Rattle.text.proofs.Fitting.{Put, put, ◌then◌, taken}
use Rattle.base.specs.declared.Refusal.TheVariants.{NotSaved}
use Rattle.saved_judge.specs.Little.{little_of, little_at, numbers_of}
use Rattle.saved_judge.specs.Digest.{digest_of}
use Rattle.saved_judge.specs.Saved.{Field, field, bytes_in, head_fields, number_fields, table_fields, board_fields, content_of, saved_of, head_right, is_saved, built_at, board_at, restore_outcome, restore_of}
use Rattle.saved_judge.proofs.Little.{numbers_length}

abbrev pub size_of : List Field → ℕ
size_of [] = 0
size_of (field w xs ∷ fs) = w * length xs + size_of fs

pub fields_length : (fs : List Field) → length (bytes_in fs) ≡ size_of fs
unfolding bytes_in
fields_length [] = refl
fields_length (field w xs ∷ fs) = length-append (numbers_of w xs) (bytes_in fs) ∙ ap₂ ◌+◌ (numbers_length w xs) (fields_length fs)

pub bytes_in_append : (fs gs : List Field) → bytes_in (fs ++ gs) ≡ bytes_in fs ++ bytes_in gs
unfolding bytes_in
bytes_in_append [] gs = refl
bytes_in_append (field w xs ∷ fs) gs =
    ap (λ (x : List ℕ). numbers_of w xs ++ x) (bytes_in_append fs gs) ∙ sym (append_assoc (numbers_of w xs) (bytes_in fs) (bytes_in gs))

-- ---- save
pub parts : (j : Judge) → content_of j ≡ bytes_in head_fields ++ (bytes_in (number_fields j.built) ++ (bytes_in (table_fields j.built) ++ bytes_in (board_fields j.board)))
unfolding content_of
parts j =
    let n = number_fields j.built in
    let t = table_fields j.built in
    let b = board_fields j.board in
    bytes_in_append head_fields (n ++ (t ++ b))
    ∙ ap (λ (x : List ℕ). bytes_in head_fields ++ x) (bytes_in_append n (t ++ b) ∙ ap (λ (x : List ℕ). bytes_in n ++ x) (bytes_in_append t b))

placed : {before : List ℕ} {at : ℕ} {p mid : List ℕ} {e : ℕ} → Wrote before at p mid e → e ≤ length before → Put before at p mid e
placed w h = put (omega (arith, w.ends)) w

pub whole_saved : (j : Judge) (zeros m1 m2 m3 m4 m5 : List ℕ) (a b c d e sum : ℕ) → length zeros ≡ 27838
    → Wrote zeros 0 (bytes_in head_fields) m1 a → a ≡ 8
    → Wrote m1 a (bytes_in (number_fields j.built)) m2 b → b ≡ a + 13
    → Wrote m2 b (bytes_in (table_fields j.built)) m3 c → c ≡ b + 18528
    → Wrote m3 c (bytes_in (board_fields j.board)) m4 d → d ≡ c + 9281
    → sum ≡ digest_of (take d m4)
    → Wrote m4 d (little_of 8 sum) m5 e → e ≡ d + 8
    → m5 ≡ saved_of j
unfolding saved_of
whole_saved j zeros m1 m2 m3 m4 m5 a b c d e sum size w1 e1 w2 e2 w3 e3 w4 e4 s w5 e5 =
    let u1 = placed w1 (omega arith) in
    let u2 = placed w2 (omega (arith, u1.kept)) in
    let u3 = placed w3 (omega (arith, u1.kept, u2.kept)) in
    let u4 = placed w4 (omega (arith, u1.kept, u2.kept, u3.kept)) in
    let u5 = placed w5 (omega (arith, u1.kept, u2.kept, u3.kept, u4.kept)) in
    let content : Put zeros 0 (content_of j) m4 d = rw (parts j) (u1 then u2 then u3 then u4) in
    let digest : sum ≡ digest_of (content_of j) = s ∙ ap digest_of (taken content.wrote) in
    let all = content then u5 in
    sym (take_all e m5 (omega (arith, all.kept))) ∙ taken all.wrote ∙ ap (λ (x : ℕ). content_of j ++ little_of 8 x) digest

-- ---- restore
module _ (b : List ℕ) where
  module _ (x : ℕ) where
    pub wrong_0 : x ≡ little_at 1 b 0 → (x ≡ 66 → ⊥) → false ≡ head_right b
    unfolding head_right
    wrong_0 e n = rw (ne_eqb (little_at 1 b 0) 66 (λ h. n (e ∙ h)))

    pub wrong_1 : little_at 1 b 0 ≡ 66 → x ≡ little_at 1 b 1 → (x ≡ 66 → ⊥) → false ≡ head_right b
    unfolding head_right
    wrong_1 r e n = rw (eq-eqb (little_at 1 b 0) 66 r, ne_eqb (little_at 1 b 1) 66 (λ h. n (e ∙ h)))

    pub wrong_2 : little_at 1 b 0 ≡ 66 → little_at 1 b 1 ≡ 66 → x ≡ little_at 1 b 2 → (x ≡ 74 → ⊥) → false ≡ head_right b
    unfolding head_right
    wrong_2 r s e n = rw (eq-eqb (little_at 1 b 0) 66 r, eq-eqb (little_at 1 b 1) 66 s, ne_eqb (little_at 1 b 2) 74 (λ h. n (e ∙ h)))

    pub wrong_3 : little_at 1 b 0 ≡ 66 → little_at 1 b 1 ≡ 66 → little_at 1 b 2 ≡ 74 → x ≡ little_at 1 b 3 → (x ≡ 1 → ⊥) → false ≡ head_right b
    unfolding head_right
    wrong_3 r s t e n =
        rw (
          eq-eqb (little_at 1 b 0) 66 r,
          eq-eqb (little_at 1 b 1) 66 s,
          eq-eqb (little_at 1 b 2) 74 t,
          ne_eqb (little_at 1 b 3) 1 (λ h. n (e ∙ h)),
        )

    pub head_is : little_at 1 b 0 ≡ 66 → little_at 1 b 1 ≡ 66 → little_at 1 b 2 ≡ 74 → little_at 1 b 3 ≡ 1 → x ≡ little_at 4 b 4
        → eqb x 27838 ≡ head_right b
    unfolding head_right
    head_is r s t u e =
        rw (
          eq-eqb (little_at 1 b 0) 66 r,
          eq-eqb (little_at 1 b 1) 66 s,
          eq-eqb (little_at 1 b 2) 74 t,
          eq-eqb (little_at 1 b 3) 1 u,
          e,
        )

  pub no_size : (length b ≡ 27838 → ⊥) → false ≡ is_saved b
  unfolding is_saved
  no_size n = rw (ne_eqb (length b) 27838 n)

  module _ (size : length b ≡ 27838) (r : Bool) (h : r ≡ head_right b) where
    pub no_head : r ≡ false → false ≡ is_saved b
    unfolding is_saved
    no_head e = let f : head_right b ≡ false = sym h ∙ e in rw (eq-eqb (length b) 27838 size, f)

    pub all_right : r ≡ true → (x y : ℕ) → x ≡ little_at 8 b 27830 → y ≡ digest_of (take 27830 b) → eqb x y ≡ is_saved b
    unfolding is_saved
    all_right e x y p q = let f : head_right b ≡ true = sym h ∙ e in rw (eq-eqb (length b) 27838 size, f, p, q)

  pub size_right : is_saved b ≡ true → length b ≡ 27838
  unfolding is_saved
  size_right e =
      by_test (eqb (length b) 27838)
      (λ t. eqb-true (length b) 27838 t)
      (λ f. let no : is_saved b ≡ false = rw f in not_both e no)

  pub accepted_is : (x : Built) (y : Board) → is_saved b ≡ true → x ≡ built_at b → y ≡ board_at b
      → restore_outcome (Ok (record { built = x; board = y })) ≡ restore_of b
  unfolding restore_of
  accepted_is x y e p q = rw (e, p, q)

  pub refused_is : is_saved b ≡ false → restore_outcome (Err NotSaved) ≡ restore_of b
  unfolding restore_of
  refused_is e = rw e
