-- One step of each loop, and what the search for the least number finds. Assumes nothing.
--
--   stray_one                a byte that is neither an idle mark nor below k, by one comparison
--   stray_more               what is foreign in the bytes passed, one byte more
--   step_idle, step_symbol   the set after one byte
--   after_next, after-rest   the set after one byte more, and after the rest of the chunk
--   least_none, least_at     the least number that passes a test; and back: least-nothing, least-found
--   Going, begun, next       as far as a chunk is not lost
--   at-end, lost_here        it is not lost; it is lost here, and the set after the rest
use Rattle.std.proofs.Common.{◌≡◌, ℕ, zero, suc, ◌+◌, ◌-◌, ◌%◌, ◌<◌, ◌≤◌, Bool, true, false, not, ◌||◌, eqb, ltb, leb, ◌⊎◌, List, [], ◌∷◌, ◌++◌, length, get_or, take, drop, sym, refl, ap, ◌∙◌, inl, inr, ⊎_elim, le_of_suc-le-suc, eq-or-lt_of_le, add-one, arith, take-append-drop, take-suc, le-ltb, lt-ltb, eq-eqb, ne_eqb, eqb-true, leb-false, leb-true}
use mathlib.Core.Bool.{or-false}
use mathlib.Core.Option.{Option, none, some}
use lib.Seq.{take-length}
use borrow.Author.Tests.{eqb-false}
use Rattle.base.proofs.Options.{none-some}
use Rattle.base.proofs.Tests.{by_test}
use Rattle.masks.specs.Masks.{shares}
use Rattle.marks.specs.Marks.{text_of}
use Rattle.marks.proofs.Claims as marks
use Rattle.automaton.specs.Successor.{successor, after}
use Rattle.automaton.proofs.Claims as automaton
use Rattle.chunks.specs.Chunks.{foreign}
use Rattle.follow.specs.Following.{set_after, or_here, least_below, lost_by, place_of, way_of}

-- ---- foreign bytes
stray_idle : (b k : ℕ) → b ≡ 255 → foreign (text_of (b ∷ [])) k ≡ false
unfolding text_of foreign
stray_idle b k e = rw (eq-eqb b 255 e)

stray_symbol : (b k : ℕ) → (b ≡ 255 → ⊥) → foreign (text_of (b ∷ [])) k ≡ leb k b
unfolding text_of foreign
stray_symbol b k n = rw (ne_eqb b 255 n) (or-false (leb k b))

pub stray_one : (b k : ℕ) → b < 256 → ltb k ((b + 1) % 256) ≡ foreign (text_of (b ∷ [])) k
stray_one b k h =
    by_test (eqb b 255)
    (λ t.
    let e : b ≡ 255 = eqb-true b 255 t in
    let z : (b + 1) % 256 ≡ 0 = omega arith in
    rw z (le-ltb k 0 (omega arith) ∙ sym (stray_idle b k e)))
    (λ f.
    let n : b ≡ 255 → ⊥ = eqb-false b 255 f in
    let z : (b + 1) % 256 ≡ b + 1 = omega (arith, n) in
    rw z
    (by_test (leb k b)
    (λ t. lt-ltb k (b + 1) (omega (arith, leb-true k b t)) ∙ sym t ∙ sym (stray_symbol b k n))
    (λ g. le-ltb k (b + 1) (omega (arith, leb-false k b g)) ∙ sym g ∙ sym (stray_symbol b k n))))

foreign_append : (v w : List ℕ) (k : ℕ) → foreign (v ++ w) k ≡ foreign v k || foreign w k
unfolding foreign
foreign_append [] w k = refl
foreign_append (b ∷ v) w k = by_test (leb k b) (λ e. rw e) (λ e. rw e (foreign_append v w k))

-- what is foreign in the bytes passed, one byte more
pub stray_more : (w : List ℕ) (k i : ℕ) → i < length w
    → foreign (text_of (take (i + 1) w)) k ≡ foreign (text_of (take i w)) k || foreign (text_of (get_or w i 0 ∷ [])) k
stray_more w k i h =
    ap (λ (x : List ℕ). foreign (text_of x) k) (rw (add-one, take-suc w i 0 h))
    ∙ ap (λ (x : List ℕ). foreign x k) ((marks.claims).text_append (take i w) (get_or w i 0 ∷ []))
    ∙ foreign_append (text_of (take i w)) (text_of (get_or w i 0 ∷ [])) k

pub stray_none : (k : ℕ) → foreign (text_of []) k ≡ false
unfolding text_of foreign
stray_none k = refl

pub stray_found : (b : Bool) → b || true ≡ true
stray_found true = refl
stray_found false = refl

-- ---- the set after one byte, and after one more
pub step_idle : (ts : List ℕ) (m b : ℕ) → b ≡ 255 → m ≡ after ts m (text_of (b ∷ []))
unfolding text_of
step_idle ts m b e = rw (eq-eqb b 255 e)

pub step_symbol : (ts : List ℕ) (m b : ℕ) → (b ≡ 255 → ⊥) → successor ts m b ≡ after ts m (text_of (b ∷ []))
unfolding text_of
step_symbol ts m b n = rw (ne_eqb b 255 n)

module _ (ts : List ℕ) (m : ℕ) where
  pub set_append : (v w : List ℕ) → set_after ts m (v ++ w) ≡ set_after ts (set_after ts m v) w
  set_append v w = ap (after ts m) ((marks.claims).text_append v w) ∙ (automaton.claims).after-append ts m (text_of v) (text_of w)

  pub set_nothing : set_after ts m [] ≡ m
  unfolding text_of
  set_nothing = refl

  pub after_next : (w : List ℕ) (i : ℕ) → i < length w → set_after ts m (take (i + 1) w) ≡ set_after ts (set_after ts m (take i w)) (get_or w i 0 ∷ [])
  after_next w i h = ap (set_after ts m) (rw (add-one, take-suc w i 0 h)) ∙ set_append (take i w) (get_or w i 0 ∷ [])

  -- where no state is left, none comes
  pub empty_rest : (w : List ℕ) (i : ℕ) → set_after ts m (take i w) ≡ 0 → 0 ≡ set_after ts m w
  empty_rest w i e =
      sym ((automaton.claims).after_empty ts (text_of (drop i w)))
      ∙ ap (λ (x : ℕ). set_after ts x (drop i w)) (sym e)
      ∙ sym (set_append (take i w) (drop i w))
      ∙ ap (set_after ts m) (take-append-drop i w)

  pub after-rest : (w : List ℕ) (i : ℕ) → set_after ts (set_after ts m (take i w)) (drop i w) ≡ set_after ts m w
  after-rest w i = sym (set_append (take i w) (drop i w)) ∙ ap (set_after ts m) (take-append-drop i w)

-- ---- the least number that passes a test
module _ (t : ℕ → Bool) where
  pub least_none : (n : ℕ) → ((i : ℕ) → i < n → t i ≡ false) → least_below t n ≡ none
  unfolding least_below
  least_none zero h = refl
  least_none (suc n) h = rw (least_none n (λ i l. h i (omega arith)), h n (omega arith))

  pub least_at : (n i : ℕ) → i < n → t i ≡ true → ((j : ℕ) → j < i → t j ≡ false) → least_below t n ≡ some i
  unfolding least_below
  least_at zero i h e before = absurd (let x = h in omega arith)
  least_at (suc n) i h e before =
      ⊎_elim
      (λ z. let f : (j : ℕ) → j < n → t j ≡ false = λ j l. before j (omega arith) in rw (least_none n f) (let y : t n ≡ true = ap t (sym z) ∙ e in rw y (ap some (sym z))))
      (λ l. rw (least_at n i l e before))
      (eq-or-lt_of_le (le_of_suc-le-suc h))

  last_none : (o : Option ℕ) (n : ℕ) → or_here o (t n) n ≡ none → (o ≡ none) × (t n ≡ false)
  last_none (some x) n e = none-some e refl
  last_none none n e = by_test (t n) (λ y. let g : some n ≡ none = rw y at e in none-some g refl) (λ y. (refl, y))

  last_some : (o : Option ℕ) (n i : ℕ) → or_here o (t n) n ≡ some i → (o ≡ some i) ⊎ ((o ≡ none) × (t n ≡ true) × (n ≡ i))
  last_some (some x) n i e = inl e
  last_some none n i e =
      by_test (t n)
      (λ y. let g : some n ≡ some i = rw y at e in inr (refl, y, cc))
      (λ y. let g : none ≡ some i = rw y at e in none-some refl g)

  pub least_nothing : (n : ℕ) → least_below t n ≡ none → (i : ℕ) → i < n → t i ≡ false
  unfolding least_below
  least_nothing zero e i h = absurd (let x = h in omega arith)
  least_nothing (suc n) e i h =
      let x = last_none (least_below t n) n e in
      ⊎_elim (λ z. ap t z ∙ x.1) (λ l. least_nothing n x.0 i l) (eq-or-lt_of_le (le_of_suc-le-suc h))

  pub least_found : (n i : ℕ) → least_below t n ≡ some i → (i < n) × (t i ≡ true) × ((j : ℕ) → j < i → t j ≡ false)
  unfolding least_below
  least_found zero i e = none-some refl e
  least_found (suc n) i e =
      ⊎_elim
      (λ z. let y = least_found n i z in (omega (arith, y.0), y.1, y.2))
      (λ z. (omega (arith, z.2), ap t (sym z.2) ∙ z.1, λ j l. least_nothing n z.0 j (omega (arith, z.2))))
      (last_some (least_below t n) n i e)

-- ---- as far as a chunk is not lost
pub record Going (ts : List ℕ) (live m : ℕ) (w : List ℕ) (before reached i : ℕ) : Type 0 where
  pub most : i ≤ length w
  pub here : reached ≡ set_after ts m (take i w)
  pub back : before ≡ set_after ts m (take (i - 1) w)
  pub alive : (j : ℕ) → j < i → shares (set_after ts m (take j w)) live ≡ true

pub begun : (ts : List ℕ) (live m : ℕ) (w : List ℕ) → Going ts live m w m m 0
begun ts live m w = record { most = omega arith; here = sym (set_nothing ts m); back = sym (set_nothing ts m); alive = λ j l. absurd (omega arith) }

module _ (ts : List ℕ) (live m : ℕ) (w : List ℕ) (before reached i : ℕ) (g : Going ts live m w before reached i) where
  pub next : i < length w → shares reached live ≡ true → (x : ℕ) → x ≡ set_after ts reached (get_or w i 0 ∷ []) → Going ts live m w reached x (i + 1)
  next h l x e = record {
    most = omega arith;
    here = e ∙ ap (λ (y : ℕ). set_after ts y (get_or w i 0 ∷ [])) g.here ∙ sym (after_next ts m w i h);
    back = let z : i ≡ i + 1 - 1 = omega arith in g.here ∙ ap (λ (y : ℕ). set_after ts m (take y w)) z;
    alive = λ j b.
        ⊎_elim
        (λ z. ap (λ (y : ℕ). shares (set_after ts m (take y w)) live) z ∙ ap (λ (y : ℕ). shares y live) (sym g.here) ∙ l)
        (λ c. g.alive j c)
        (eq-or-lt_of_le (le_of_suc-le-suc (rw add-one at b)));
  }

  -- the answer where it is lost at o
  way_is : (o : Option ℕ) → lost_by ts live m w ≡ o
      → record { lost = o; before = set_after ts m (take (place_of o w) w); set = set_after ts m w } ≡ way_of ts live m w
  way_is o e = rw e

  pub at-end : length w ≤ i → shares reached live ≡ true → record { lost = none; before = reached; set = reached } ≡ way_of ts live m w
  at-end h l =
      let z : i ≡ length w = omega (arith, g.most) in
      let is : reached ≡ set_after ts m (take (length w) w) = g.here ∙ ap (λ (y : ℕ). set_after ts m (take y w)) z in
      let whole : set_after ts m (take (length w) w) ≡ set_after ts m w = ap (set_after ts m) (take-length w) in
      let none_lost : lost_by ts live m w ≡ none =
      least_none (λ j. not (shares (set_after ts m (take j w)) live)) (suc (length w))
      (λ j b. ap not
      (⊎_elim
      (λ y. ap (λ (x : ℕ). shares (set_after ts m (take x w)) live) (y ∙ sym z) ∙ ap (λ (x : ℕ). shares x live) (sym g.here) ∙ l)
      (λ c. g.alive j (omega arith))
      (eq-or-lt_of_le (le_of_suc-le-suc b)))) in
      ap (λ (x : ℕ). record { lost = none; before = reached; set = x }) (is ∙ whole)
      ∙ ap (λ (x : ℕ). record { lost = none; before = x; set = set_after ts m w }) is
      ∙ way_is none none_lost

  pub lost_here : shares reached live ≡ false → (last : ℕ) → last ≡ set_after ts m w → record { lost = some i; before = before; set = last } ≡ way_of ts live m w
  lost_here l last e =
      let lost : lost_by ts live m w ≡ some i =
      least_at (λ j. not (shares (set_after ts m (take j w)) live)) (suc (length w)) i (omega (arith, g.most))
      (ap not (ap (λ (x : ℕ). shares x live) (sym g.here) ∙ l))
      (λ j b. ap not (g.alive j b)) in
      rw (g.back, e) (way_is (some i) lost)
