-- The printed text of a rule determines what is printed. A field ends before the first byte that is
-- no greater than a space: the space before the next field, or the line feed. So two equal texts
-- have their fields in common from the left, and a field has one number. Assumes nothing.
--
--   split              two fields with what follows them
--   fields_same        the cells of a line, or the delegates: how many, and each
--   lines_same         the lines of the sets
--   decimal_one, hex_one, cell_one, bare_one   what has the same field is the same
--   determines         the law
use mathlib.Core.Path.{◌≡◌, refl, sym, ap, ap₂, ◌∙◌}
use mathlib.Core.Logic.{◌↔◌}
use mathlib.Core.Bool.{cond}
use mathlib.Core.List.{List, [], ◌∷◌, ◌++◌, append_assoc}
use mathlib.Core.Option.{Option, none, some}
use Prim.Native.Nat.{ℕ, zero, suc, ◌+◌, ◌*◌, ◌/◌, ◌%◌, ◌≤◌, ◌<◌, min}
use native.Mathlib.Omega.{arith}
use lib.Dec.{ltb}
use lib.ListN.{length, get_or, length-append}
use borrow.Author.Tests.{ltb-true, ltb-false}
use Rattle.base.specs.Lists.{joined}
use Rattle.base.proofs.Lists.{joined_first, joined_same}
use Rattle.base.proofs.Options.{none-some}
use Rattle.base.proofs.Tests.{by_test}
use Rattle.limits.specs.Limits.{largest_number}
use Rattle.text.specs.Numerals.{decimal, hex_digit, hex}
use Rattle.lines.proofs.Over.{Over, over-append}
use Rattle.fields.specs.Numbers.{all_digits, parse_number}
use Rattle.fields.proofs.Claims as fields
use Rattle.hexfields.proofs.Digits.{number_over}
use Rattle.delegates.specs.Alike.{delegate_in}
use Rattle.build.specs.declared.Built.{Built}
use Rattle.ruletext.specs.RuleText.{starts_word, head_line, delegate_text, delegates_line, rule_text}
use Rattle.ruletext.specs.Claims.{Printable, SamePrinted}

-- ---- fields, and what follows them
abbrev Ended : List ℕ → Type 0
Ended [] = ⊥
Ended (a ∷ y) = a ≤ 32

split : (v w y z : List ℕ) → Over 32 v → Over 32 w → Ended y → Ended z → v ++ y ≡ w ++ z → (v ≡ w) × (y ≡ z)
split [] [] y z a b c d e = (refl, e)
split [] (x ∷ w) [] z a b c d e = absurd c
split [] (x ∷ w) (h ∷ y) z a b c d e = let s : h ≡ x = cc in absurd (omega (arith, b.0))
split (x ∷ v) [] y [] a b c d e = absurd d
split (x ∷ v) [] y (h ∷ z) a b c d e = let s : x ≡ h = cc in absurd (omega (arith, a.0))
split (x ∷ v) (u ∷ w) y z a b c d e =
    let s : x ≡ u = cc in
    let r : v ++ y ≡ w ++ z = cc in
    let i = split v w y z a.1 b.1 c d r in
    (ap₂ (λ (h : ℕ) (l : List ℕ). h ∷ l) s i.0, i.1)

abbrev spaced : (ℕ → List ℕ) → ℕ → List ℕ
spaced t k = joined (λ s. 32 ∷ t s) k

first_field : (t : ℕ → List ℕ) (k : ℕ) (y : List ℕ) → spaced t (suc k) ++ y ≡ 32 ∷ (t 0 ++ (spaced (λ s. t (suc s)) k ++ y))
first_field t k y =
    ap (λ (x : List ℕ). x ++ y) (joined_first (λ s. 32 ∷ t s) k)
    ∙ ap (λ (x : List ℕ). 32 ∷ x) (append_assoc (t 0) (spaced (λ s. t (suc s)) k) y)

ended_fields : (t : ℕ → List ℕ) (k : ℕ) (y : List ℕ) → Ended (spaced t k ++ (10 ∷ y))
unfolding joined
ended_fields t zero y = omega arith
ended_fields t (suc k) y = rw (first_field t k (10 ∷ y)) (omega arith)

fields_same : (t u : ℕ → List ℕ) (k l : ℕ) (y z : List ℕ) → ((s : ℕ) → Over 32 (t s)) → ((s : ℕ) → Over 32 (u s))
    → spaced t k ++ (10 ∷ y) ≡ spaced u l ++ (10 ∷ z) → (k ≡ l) × ((s : ℕ) → s < k → t s ≡ u s) × (y ≡ z)
unfolding joined
fields_same t u zero zero y z a b e = (refl, (λ s h. absurd (omega arith)), cc)
fields_same t u zero (suc l) y z a b e =
    let f : 10 ∷ y ≡ 32 ∷ (u 0 ++ (spaced (λ s. u (suc s)) l ++ (10 ∷ z))) = e ∙ first_field u l (10 ∷ z) in
    let n : ◌≡◌ {A = ℕ} 10 32 = cc in absurd (omega arith)
fields_same t u (suc k) zero y z a b e =
    let f : 32 ∷ (t 0 ++ (spaced (λ s. t (suc s)) k ++ (10 ∷ y))) ≡ 10 ∷ z = sym (first_field t k (10 ∷ y)) ∙ e in
    let n : ◌≡◌ {A = ℕ} 32 10 = cc in absurd (omega arith)
fields_same t u (suc k) (suc l) y z a b e =
    let f : 32 ∷ (t 0 ++ (spaced (λ s. t (suc s)) k ++ (10 ∷ y))) ≡ 32 ∷ (u 0 ++ (spaced (λ s. u (suc s)) l ++ (10 ∷ z))) =
    sym (first_field t k (10 ∷ y)) ∙ e ∙ first_field u l (10 ∷ z) in
    let r : t 0 ++ (spaced (λ s. t (suc s)) k ++ (10 ∷ y)) ≡ u 0 ++ (spaced (λ s. u (suc s)) l ++ (10 ∷ z)) = cc in
    let h = split (t 0) (u 0) (spaced (λ s. t (suc s)) k ++ (10 ∷ y)) (spaced (λ s. u (suc s)) l ++ (10 ∷ z)) (a 0) (b 0) (ended_fields (λ s. t (suc s)) k y) (ended_fields (λ s. u (suc s)) l z) r in
    let i = fields_same (λ s. t (suc s)) (λ s. u (suc s)) k l y z (λ s. a (suc s)) (λ s. b (suc s)) h.1 in
    (ap suc i.0, each h.0 i.1, i.2)
  where
    each : t 0 ≡ u 0 → ((s : ℕ) → s < k → t (suc s) ≡ u (suc s)) → (s : ℕ) → s < suc k → t s ≡ u s
    each p q zero h = p
    each p q (suc s) h = q s (omega arith)

-- ---- the lines of the sets
-- a number, a mask, and k cells
abbrev line_by : ℕ → (ℕ → List ℕ) → (ℕ → List ℕ) → (ℕ → ℕ → List ℕ) → ℕ → List ℕ
line_by k a m t i = a i ++ (32 ∷ (m i ++ (spaced (t i) k ++ (10 ∷ []))))

first_line : (n k : ℕ) (a m : ℕ → List ℕ) (t : ℕ → ℕ → List ℕ) (y : List ℕ)
    → joined (line_by k a m t) (suc n) ++ y
    ≡ a 0 ++ (32 ∷ (m 0 ++ (spaced (t 0) k ++ (10 ∷ (joined (line_by k (λ i. a (suc i)) (λ i. m (suc i)) (λ i. t (suc i))) n ++ y)))))
first_line n k a m t y = ap (λ (x : List ℕ). x ++ y) (joined_first (line_by k a m t) n) ∙ simp append_assoc

lines_same : (n k l : ℕ) (a b m o : ℕ → List ℕ) (t u : ℕ → ℕ → List ℕ) (y z : List ℕ)
    → ((i : ℕ) → Over 32 (a i) × Over 32 (b i)) → ((i : ℕ) → Over 32 (m i) × Over 32 (o i)) → ((i s : ℕ) → Over 32 (t i s) × Over 32 (u i s))
    → joined (line_by k a m t) n ++ y ≡ joined (line_by l b o u) n ++ z
    → ((i : ℕ) → i < n → (m i ≡ o i) × (k ≡ l) × ((s : ℕ) → s < k → t i s ≡ u i s)) × (y ≡ z)
unfolding joined
lines_same zero k l a b m o t u y z p q r e = ((λ i h. absurd (omega arith)), e)
lines_same (suc n) k l a b m o t u y z p q r e =
    let rest : ℕ → (ℕ → List ℕ) → (ℕ → List ℕ) → (ℕ → ℕ → List ℕ) → List ℕ → List ℕ =
    λ j c v w x. joined (line_by j (λ i. c (suc i)) (λ i. v (suc i)) (λ i. w (suc i))) n ++ x in
    let one = split (a 0) (b 0) (32 ∷ (m 0 ++ (spaced (t 0) k ++ (10 ∷ rest k a m t y)))) (32 ∷ (o 0 ++ (spaced (u 0) l ++ (10 ∷ rest l b o u z)))) (p 0).0 (p 0).1 (omega arith) (omega arith)
    (sym (first_line n k a m t y) ∙ e ∙ first_line n l b o u z) in
    let behind : m 0 ++ (spaced (t 0) k ++ (10 ∷ rest k a m t y)) ≡ o 0 ++ (spaced (u 0) l ++ (10 ∷ rest l b o u z)) = tail_same one.1 in
    let two = split (m 0) (o 0) (spaced (t 0) k ++ (10 ∷ rest k a m t y)) (spaced (u 0) l ++ (10 ∷ rest l b o u z)) (q 0).0 (q 0).1
    (ended_fields (t 0) k (rest k a m t y)) (ended_fields (u 0) l (rest l b o u z)) behind in
    let three = fields_same (t 0) (u 0) k l (rest k a m t y) (rest l b o u z) (λ s. (r 0 s).0) (λ s. (r 0 s).1) two.1 in
    let i = lines_same n k l (λ j. a (suc j)) (λ j. b (suc j)) (λ j. m (suc j)) (λ j. o (suc j)) (λ j. t (suc j)) (λ j. u (suc j)) y z
    (λ j. p (suc j)) (λ j. q (suc j)) (λ j. r (suc j)) three.2 in
    (each (two.0, three.0, three.1) i.0, i.1)
  where
    tail_same : {x : ℕ} {v w : List ℕ} → x ∷ v ≡ x ∷ w → v ≡ w
    tail_same f = cc

    each : (m 0 ≡ o 0) × (k ≡ l) × ((s : ℕ) → s < k → t 0 s ≡ u 0 s)
        → ((i : ℕ) → i < n → (m (suc i) ≡ o (suc i)) × (k ≡ l) × ((s : ℕ) → s < k → t (suc i) s ≡ u (suc i) s))
        → (i : ℕ) → i < suc n → (m i ≡ o i) × (k ≡ l) × ((s : ℕ) → s < k → t i s ≡ u i s)
    each f g zero h = f
    each f g (suc i) h = g i (omega arith)

rest_of : {x : ℕ} {v w : List ℕ} → x ∷ v ≡ x ∷ w → v ≡ w
rest_of f = cc

-- ---- a field has one number
pub decimal_one : (n m : ℕ) → n ≤ largest_number → m ≤ largest_number → decimal n ≡ decimal m → n ≡ m
decimal_one n m h l e =
    let s : some n ≡ some m = sym ((fields.claims).number_round_trip n h) ∙ ap parse_number e ∙ (fields.claims).number_round_trip m l in
    let r : n ≡ m = cc in r

-- 45 is `-`
pub no_dash : (n : ℕ) → n ≤ largest_number → decimal n ≡ 45 ∷ [] → ⊥
unfolding all_digits
no_dash n h e =
    let s : none ≡ some n = ap parse_number (sym e) ∙ (fields.claims).number_round_trip n h in none-some refl s

hex_over : (width n : ℕ) → Over 32 (hex width n)
unfolding hex
hex_over zero n = tt
hex_over (suc width) n =
    over-append 32 (hex width (n / 16)) (hex_digit (n % 16) ∷ []) (hex_over width (n / 16))
    (by_test (ltb (n % 16) 10) (λ e. rw e (omega arith)) (λ e. rw e (omega arith)), tt)

digit_one : (d e : ℕ) → hex_digit d ≡ hex_digit e → d ≡ e
digit_one d e h =
    by_test (ltb d 10)
    (λ t. by_test (ltb e 10) (λ u. let z : 48 + d ≡ 48 + e = rw (t, u) at h in omega arith)
    (λ u. let z : 48 + d ≡ 55 + e = rw (t, u) at h in absurd (omega (arith, ltb-true d 10 t, ltb-false e 10 u))))
    (λ t. by_test (ltb e 10) (λ u. let z : 55 + d ≡ 48 + e = rw (t, u) at h in absurd (omega (arith, ltb-false d 10 t, ltb-true e 10 u)))
    (λ u. let z : 55 + d ≡ 55 + e = rw (t, u) at h in omega arith))

pub last_same : (v w : List ℕ) (x y : ℕ) → v ++ (x ∷ []) ≡ w ++ (y ∷ []) → (v ≡ w) × (x ≡ y)
last_same [] [] x y e = (refl, cc)
last_same [] (a ∷ w) x y e = let r : [] ≡ w ++ (y ∷ []) = cc in absurd (omega (arith, ap length r, length-append w (y ∷ [])))
last_same (a ∷ v) [] x y e = let r : v ++ (x ∷ []) ≡ [] = cc in absurd (omega (arith, ap length r, length-append v (x ∷ [])))
last_same (a ∷ v) (b ∷ w) x y e =
    let s : a ≡ b = cc in
    let r : v ++ (x ∷ []) ≡ w ++ (y ∷ []) = cc in
    let i = last_same v w x y r in
    (ap₂ (λ (h : ℕ) (l : List ℕ). h ∷ l) s i.0, i.1)

-- below 16 ^ width
abbrev Below : ℕ → ℕ → Type 0
Below zero n = n ≡ 0
Below (suc width) n = Below width (n / 16)

hex_one : (width n m : ℕ) → Below width n → Below width m → hex width n ≡ hex width m → n ≡ m
unfolding hex
hex_one zero n m h l e = h ∙ sym l
hex_one (suc width) n m h l e =
    let s = last_same (hex width (n / 16)) (hex width (m / 16)) (hex_digit (n % 16)) (hex_digit (m % 16)) e in
    let high : n / 16 ≡ m / 16 = hex_one width (n / 16) (m / 16) h l s.0 in
    let low : n % 16 ≡ m % 16 = digit_one (n % 16) (m % 16) s.1 in
    omega arith

abbrev bare_cell : ℕ → List ℕ
bare_cell to = cond (ltb to 512) (decimal to) (45 ∷ [])

cell_over : (to : ℕ) → Over 32 (bare_cell to)
cell_over to = by_test (ltb to 512) (λ e. rw e (number_over to)) (λ e. rw e (omega arith, tt))

cell_one : (x y : ℕ) → x ≤ 512 → y ≤ 512 → bare_cell x ≡ bare_cell y → x ≡ y
cell_one x y h l e =
    by_test (ltb x 512)
    (λ t. by_test (ltb y 512)
    (λ u. let z : decimal x ≡ decimal y = rw (t, u) at e in decimal_one x y (omega arith) (omega arith) z)
    (λ u. let z : decimal x ≡ 45 ∷ [] = rw (t, u) at e in absurd (no_dash x (omega arith) z)))
    (λ t. by_test (ltb y 512)
    (λ u. let z : 45 ∷ [] ≡ decimal y = rw (t, u) at e in absurd (no_dash y (omega arith) (sym z)))
    (λ u. omega (arith, ltb-false x 512 t, ltb-false y 512 u)))

abbrev bare : Option ℕ → List ℕ
bare none = 45 ∷ []
bare (some d) = decimal d

delegate_field : (o : Option ℕ) → delegate_text o ≡ 32 ∷ bare o
delegate_field none = refl
delegate_field (some d) = refl

bare_over : (o : Option ℕ) → Over 32 (bare o)
bare_over none = (omega arith, tt)
bare_over (some d) = number_over d

abbrev Small : Option ℕ → Type 0
Small none = Unit {0}
Small (some d) = d < 32

pub delegate_small : (d : List ℕ) (q : ℕ) → Small (delegate_in d q)
unfolding delegate_in
delegate_small d q = by_test (ltb (get_or d q 0) 32) (λ e. rw e (ltb-true (get_or d q 0) 32 e)) (λ e. rw e tt)

bare_one : (o p : Option ℕ) → Small o → Small p → bare o ≡ bare p → o ≡ p
bare_one none none h l e = refl
bare_one none (some d) h l e = absurd (no_dash d (omega arith) (sym e))
bare_one (some d) none h l e = absurd (no_dash d (omega arith) e)
bare_one (some d) (some c) h l e = ap some (decimal_one d c (omega arith) (omega arith) e)

-- ` -` exactly where there is none
pub dash_exactly : (d : List ℕ) (q : ℕ) → (delegate_text (delegate_in d q) ≡ 32 ∷ 45 ∷ []) ↔ (delegate_in d q ≡ none)
dash_exactly d q = (
  (λ e.
      let s : bare (delegate_in d q) ≡ bare none = rest_of (sym (delegate_field (delegate_in d q)) ∙ e) in
      bare_one (delegate_in d q) none (delegate_small d q) tt s),
  λ e. ap delegate_text e,
)

-- ---- the whole text
-- the numbers of sets and starts, the sets and the delegates
abbrev parts_of : ℕ → ℕ → List ℕ → List ℕ → List ℕ
parts_of count starts lines behind =
    115 ∷ 101 ∷ 116 ∷ 115 ∷ 32 ∷
    (decimal count ++ (32 ∷ 115 ∷ 116 ∷ 97 ∷ 114 ∷ 116 ∷ 115 ∷ 32 ∷ (decimal starts ++ (10 ∷ (lines ++ behind)))))

head_on : (count starts : ℕ) (lines behind : List ℕ) → head_line count starts ++ (lines ++ behind) ≡ parts_of count starts lines behind
head_on count starts lines behind =
    ap (λ (x : List ℕ). 115 ∷ 101 ∷ 116 ∷ 115 ∷ 32 ∷ x)
    (append_assoc (decimal count) (starts_word ++ (decimal starts ++ (10 ∷ []))) (lines ++ behind)
    ∙ ap (λ (x : List ℕ). decimal count ++ (32 ∷ 115 ∷ 116 ∷ 97 ∷ 114 ∷ 116 ∷ 115 ∷ 32 ∷ x)) (append_assoc (decimal starts) (10 ∷ []) (lines ++ behind)))

module _ (b : Built) (good : Printable b) where
  abbrev lines_in : List ℕ
  lines_in = joined (line_by b.k decimal (λ i. hex 8 (get_or b.sets i 0)) (λ i s. bare_cell (get_or b.next (i * 16 + s) 0))) b.setcount

  abbrev delegates_in : List ℕ
  delegates_in = 100 ∷ 101 ∷ 108 ∷ 101 ∷ 103 ∷ 97 ∷ 116 ∷ 101 ∷ 115 ∷ (spaced (λ q. bare (delegate_in b.delegates q)) b.n ++ (10 ∷ []))

  delegates_are : delegates_line b.delegates b.n ≡ delegates_in
  delegates_are =
      ap (λ (x : List ℕ). 100 ∷ 101 ∷ 108 ∷ 101 ∷ 103 ∷ 97 ∷ 116 ∷ 101 ∷ 115 ∷ (x ++ (10 ∷ [])))
      (joined_same (λ q. delegate_text (delegate_in b.delegates q)) (λ q. 32 ∷ bare (delegate_in b.delegates q)) b.n (λ q h. delegate_field (delegate_in b.delegates q)))

  text_parts : rule_text b ≡ parts_of b.setcount b.startcount lines_in delegates_in
  text_parts =
      let sets : min b.setcount 512 ≡ b.setcount = omega (arith, good.sets) in
      let symbols : min b.k 16 ≡ b.k = omega (arith, good.symbols) in
      let states : min b.n 32 ≡ b.n = omega (arith, good.states) in
      rw (sets, symbols, states, delegates_are) (head_on b.setcount b.startcount lines_in delegates_in)

head_same : (c d s t : ℕ) (l m y z : List ℕ) → c ≤ largest_number → d ≤ largest_number → s ≤ largest_number → t ≤ largest_number
    → parts_of c s l y ≡ parts_of d t m z → (c ≡ d) × (s ≡ t) × (l ++ y ≡ m ++ z)
head_same c d s t l m y z hc hd hs ht e =
    let a : decimal c ++ (32 ∷ 115 ∷ 116 ∷ 97 ∷ 114 ∷ 116 ∷ 115 ∷ 32 ∷ (decimal s ++ (10 ∷ (l ++ y)))) ≡ decimal d ++ (32 ∷ 115 ∷ 116 ∷ 97 ∷ 114 ∷ 116 ∷ 115 ∷ 32 ∷ (decimal t ++ (10 ∷ (m ++ z)))) =
    rest_of (rest_of (rest_of (rest_of (rest_of e)))) in
    let one = split (decimal c) (decimal d) (32 ∷ 115 ∷ 116 ∷ 97 ∷ 114 ∷ 116 ∷ 115 ∷ 32 ∷ (decimal s ++ (10 ∷ (l ++ y)))) (32 ∷ 115 ∷ 116 ∷ 97 ∷ 114 ∷ 116 ∷ 115 ∷ 32 ∷ (decimal t ++ (10 ∷ (m ++ z)))) (number_over c) (number_over d) (omega arith) (omega arith) a in
    let two = split (decimal s) (decimal t) (10 ∷ (l ++ y)) (10 ∷ (m ++ z)) (number_over s) (number_over t) (omega arith) (omega arith)
    (rest_of (rest_of (rest_of (rest_of (rest_of (rest_of (rest_of (rest_of one.1)))))))) in
    (decimal_one c d hc hd one.0, decimal_one s t hs ht two.0, rest_of two.1)

mask_below : (m : ℕ) → m < 4294967296 → Below 8 m
mask_below m h = omega arith

pub determines : (b c : Built) → Printable b → Printable c → rule_text b ≡ rule_text c → SamePrinted b c
determines b c p q e =
    let head = head_same b.setcount c.setcount b.startcount c.startcount (lines_in b p) (lines_in c q) (delegates_in b p) (delegates_in c q)
    (omega (arith, p.sets)) (omega (arith, q.sets)) p.starts q.starts (sym (text_parts b p) ∙ e ∙ text_parts c q) in
    let lines = lines_same b.setcount b.k c.k decimal decimal (λ i. hex 8 (get_or b.sets i 0)) (λ i. hex 8 (get_or c.sets i 0))
    (λ i s. bare_cell (get_or b.next (i * 16 + s) 0)) (λ i s. bare_cell (get_or c.next (i * 16 + s) 0)) (delegates_in b p) (delegates_in c q)
    (λ i. (number_over i, number_over i)) (λ i. (hex_over 8 (get_or b.sets i 0), hex_over 8 (get_or c.sets i 0)))
    (λ i s. (cell_over (get_or b.next (i * 16 + s) 0), cell_over (get_or c.next (i * 16 + s) 0)))
    (head.2 ∙ ap (λ (n : ℕ). joined (line_by c.k decimal (λ i. hex 8 (get_or c.sets i 0)) (λ i s. bare_cell (get_or c.next (i * 16 + s) 0))) n ++ delegates_in c q) (sym head.0)) in
    let ends = fields_same (λ s. bare (delegate_in b.delegates s)) (λ s. bare (delegate_in c.delegates s)) b.n c.n [] []
    (λ s. bare_over (delegate_in b.delegates s)) (λ s. bare_over (delegate_in c.delegates s))
    (rest_of (rest_of (rest_of (rest_of (rest_of (rest_of (rest_of (rest_of (rest_of lines.1))))))))) in
    record {
      setcount = head.0;
      startcount = head.1;
      n = ends.0;
      k = (lines.0 0 p.some_set).1;
      sets = λ i h.
          hex_one 8 (get_or b.sets i 0) (get_or c.sets i 0)
          (mask_below (get_or b.sets i 0) (p.masks i h)) (mask_below (get_or c.sets i 0) (q.masks i (omega (arith, head.0)))) (lines.0 i h).0;
      cells = λ i s h l.
          cell_one (get_or b.next (i * 16 + s) 0) (get_or c.next (i * 16 + s) 0) (p.cells i s h l)
          (q.cells i s (omega (arith, head.0)) (omega (arith, (lines.0 i h).1))) ((lines.0 i h).2 s l);
      delegates = λ s h. bare_one (delegate_in b.delegates s) (delegate_in c.delegates s) (delegate_small b.delegates s) (delegate_small c.delegates s) (ends.1 s h);
    }
