-- The laws of a walk by any step. Assumes nothing.
--
--   end_append, end_split, end_more         over two parts, and one byte more
--   count-append, count_most, count_left    the same of what is counted; at most one for a byte
--   count_on, count_off                     what is left to be counted, by the next step
--   looked_most, looked_empty, looked_some  what is looked up: at most each byte; nothing from the
--                                           empty set; else the first byte
--   looked_next, looked_left                what is left to be looked up
--   looked_within, looked_take              no more than the bytes after which the set is empty; as
--                                           much of so many bytes alone
--   end_through, count_through, looked_through   a walk by other numbers for the same sets
--
-- Where the step leads to no number above `empty`, and from `empty` nowhere else:
--
--   end_low, end_empty, end_stays       no walk leads above; the empty set stays empty
--   count_empty, count_alive            it counts nothing; a walk that is alive in the end counted
--                                       each byte
--   looked_append, looked_alive, looked_from    what is looked up over two parts
--   end_looked, end_still               what is not looked up changes nothing
use mathlib.Core.Path.{◌≡◌, refl, sym, ap, ◌∙◌}
use mathlib.Core.Bool.{false}
use mathlib.Core.List.{List, [], ◌∷◌, ◌++◌}
use Prim.Native.Nat.{ℕ, zero, suc, ◌+◌, ◌≤◌, ◌<◌}
use native.Mathlib.Numerals.{add-one}
use native.Mathlib.Omega.{arith}
use borrow.Author.Tests.{lt-ltb, le-ltb, ltb-false}
use lib.Dec.{ltb}
use lib.ListN.{length, get_or, take, drop, drop_of_length-le, length-take, take-append-drop}
use lib.Seq.{drop-cons, take-suc}
use Rattle.base.proofs.Tests.{by_test, one_most}
use Rattle.walks.specs.mirror.Steps.{end_by, count_by, looked_by}

module _ (f : ℕ → ℕ → ℕ) where
  pub end_append : (i : ℕ) (v w : List ℕ) → end_by f i (v ++ w) ≡ end_by f (end_by f i v) w
  unfolding end_by
  end_append i [] w = refl
  end_append i (b ∷ v) w = end_append (f i b) v w

  pub end_split : (i n : ℕ) (w : List ℕ) → end_by f i w ≡ end_by f (end_by f i (take n w)) (drop n w)
  end_split i n w = ap (end_by f i) (sym (take-append-drop n w)) ∙ end_append i (take n w) (drop n w)

  pub end_more : (i n : ℕ) (w : List ℕ) → n < length w → end_by f i (take (n + 1) w) ≡ f (end_by f i (take n w)) (get_or w n 0)
  unfolding end_by
  end_more i n w h = rw (add-one, take-suc w n 0 h, end_append)

module _ (f : ℕ → ℕ → ℕ) (empty : ℕ) where
  -- ---- what is counted
  pub count-append : (i : ℕ) (v w : List ℕ) → count_by f empty i (v ++ w) ≡ count_by f empty i v + count_by f empty (end_by f i v) w
  unfolding end_by count_by
  count-append i [] w = omega arith
  count-append i (b ∷ v) w = omega (arith, count-append (f i b) v w)

  pub count_most : (i : ℕ) (w : List ℕ) → count_by f empty i w ≤ length w
  unfolding count_by
  count_most i [] = omega arith
  count_most i (b ∷ w) = omega (arith, one_most (ltb (f i b) empty), count_most (f i b) w)

  pub count_left : (i n : ℕ) (w : List ℕ) → length w ≤ n → count_by f empty i (drop n w) ≡ 0
  unfolding count_by
  count_left i n w h = rw (drop_of_length-le w h)

  pub count_on : (i n : ℕ) (w : List ℕ) → n < length w → f i (get_or w n 0) < empty
      → count_by f empty i (drop n w) ≡ 1 + count_by f empty (f i (get_or w n 0)) (drop (n + 1) w)
  unfolding count_by
  count_on i n w h on = rw (add-one, drop-cons w n 0 h, lt-ltb (f i (get_or w n 0)) empty on)

  -- ---- what is looked up
  pub looked_most : (i : ℕ) (w : List ℕ) → looked_by f empty i w ≤ length w
  unfolding looked_by
  looked_most i [] = omega arith
  looked_most i (b ∷ w) =
      by_test (ltb i empty)
      (λ t. rw t (omega (arith, looked_most (f i b) w)))
      (λ t. rw t (omega arith))

  pub looked_empty : (i : ℕ) (w : List ℕ) → empty ≤ i → looked_by f empty i w ≡ 0
  unfolding looked_by
  looked_empty i [] h = refl
  looked_empty i (b ∷ w) h = rw (le-ltb i empty h)

  pub looked_some : (i : ℕ) (w : List ℕ) → i < empty → 0 < length w → 0 < looked_by f empty i w
  unfolding looked_by
  looked_some i [] h some = absurd (omega arith)
  looked_some i (b ∷ w) h some = rw (lt-ltb i empty h) (omega arith)

  pub looked_next : (i n : ℕ) (w : List ℕ) → n < length w → i < empty
      → looked_by f empty i (drop n w) ≡ 1 + looked_by f empty (f i (get_or w n 0)) (drop (n + 1) w)
  unfolding looked_by
  looked_next i n w h low = rw (add-one, drop-cons w n 0 h, lt-ltb i empty low) (omega arith)

  pub looked_left : (i n : ℕ) (w : List ℕ) → length w ≤ n → looked_by f empty i (drop n w) ≡ 0
  unfolding looked_by
  looked_left i n w h = rw (drop_of_length-le w h)

  pub looked_within : (i n : ℕ) (w : List ℕ) → empty ≤ end_by f i (take n w) → looked_by f empty i w ≤ n
  unfolding end_by looked_by
  looked_within i n [] h = omega arith
  looked_within i zero (b ∷ w) h = rw (le-ltb i empty h) (omega arith)
  looked_within i (suc n) (b ∷ w) h =
      by_test (ltb i empty)
      (λ t. rw t (omega (arith, looked_within (f i b) n w h)))
      (λ t. rw t (omega arith))

  pub looked_take : (i : ℕ) (w : List ℕ) → looked_by f empty i (take (looked_by f empty i w) w) ≡ looked_by f empty i w
  unfolding looked_by
  looked_take i [] = refl
  looked_take i (b ∷ w) =
      by_test (ltb i empty)
      (λ t. rw (t, t) (ap suc (looked_take (f i b) w)))
      (λ t. rw t)

-- g i is the number of the set i for the step h, where the empty set has another number too
module _ (f h : ℕ → ℕ → ℕ) (empty none : ℕ) (g : ℕ → ℕ) (steps : (i b : ℕ) → h (g i) b ≡ g (f i b)) (tests : (i : ℕ) → ltb (g i) none ≡ ltb i empty) where
  pub end_through : (i : ℕ) (w : List ℕ) → end_by h (g i) w ≡ g (end_by f i w)
  unfolding end_by
  end_through i [] = refl
  end_through i (b ∷ w) = rw (steps i b) (end_through (f i b) w)

  pub count_through : (i : ℕ) (w : List ℕ) → count_by h none (g i) w ≡ count_by f empty i w
  unfolding count_by
  count_through i [] = refl
  count_through i (b ∷ w) = rw (steps i b, tests (f i b), count_through (f i b) w)

  pub looked_through : (i : ℕ) (w : List ℕ) → looked_by h none (g i) w ≡ looked_by f empty i w
  unfolding looked_by
  looked_through i [] = refl
  looked_through i (b ∷ w) = rw (tests i, steps i b, looked_through (f i b) w)

module _ (f : ℕ → ℕ → ℕ) (empty : ℕ) (low : (i b : ℕ) → f i b ≤ empty) (stays : (b : ℕ) → f empty b ≡ empty) where
  pub end_low : (i : ℕ) (w : List ℕ) → i ≤ empty → end_by f i w ≤ empty
  unfolding end_by
  end_low i [] h = h
  end_low i (b ∷ w) h = end_low (f i b) w (low i b)

  pub end_empty : (w : List ℕ) → end_by f empty w ≡ empty
  unfolding end_by
  end_empty [] = refl
  end_empty (b ∷ w) = rw (stays b) (end_empty w)

  pub end_stays : (i n : ℕ) (w : List ℕ) → end_by f i (take n w) ≡ empty → end_by f i w ≡ empty
  end_stays i n w e = end_split f i n w ∙ rw e (end_empty (drop n w))

  pub count_empty : (w : List ℕ) → count_by f empty empty w ≡ 0
  unfolding count_by
  count_empty [] = refl
  count_empty (b ∷ w) = rw (stays b, le-ltb empty empty (omega arith)) (omega (arith, count_empty w))

  pub count_off : (i n : ℕ) (w : List ℕ) → n < length w → empty ≤ f i (get_or w n 0) → count_by f empty i (drop n w) ≡ 0
  unfolding count_by
  count_off i n w h off =
      let e : f i (get_or w n 0) ≡ empty = omega (arith, low i (get_or w n 0)) in
      rw (drop-cons w n 0 h, e, le-ltb empty empty (omega arith)) (omega (arith, count_empty (drop (suc n) w)))

  -- a number that is not below `empty` is `empty`, and a walk from there ends there
  none_left : (i : ℕ) (w : List ℕ) → i ≤ empty → ltb i empty ≡ false → end_by f i w ≡ empty
  none_left i w h t = let e : i ≡ empty = omega (arith, ltb-false i empty t) in rw e (end_empty w)

  pub count_alive : (i : ℕ) (w : List ℕ) → end_by f i w < empty → count_by f empty i w ≡ length w
  unfolding end_by count_by
  count_alive i [] h = refl
  count_alive i (b ∷ w) h =
      by_test (ltb (f i b) empty)
      (λ t. rw t (omega (arith, count_alive (f i b) w h)))
      (λ t. absurd (omega (arith, none_left (f i b) w (low i b) t)))

  pub looked_append : (i : ℕ) (v w : List ℕ) → i ≤ empty
      → looked_by f empty i (v ++ w) ≡ looked_by f empty i v + looked_by f empty (end_by f i v) w
  unfolding end_by looked_by
  looked_append i [] w h = omega arith
  looked_append i (b ∷ v) w h =
      by_test (ltb i empty)
      (λ t. rw t (omega (arith, looked_append (f i b) v w (low i b))))
      (λ t. rw (t, none_left i (b ∷ v) h t) (omega (arith, looked_empty f empty empty w (omega arith))))

  pub looked_alive : (i : ℕ) (w : List ℕ) → i ≤ empty → end_by f i w < empty → looked_by f empty i w ≡ length w
  unfolding end_by looked_by
  looked_alive i [] h on = refl
  looked_alive i (b ∷ w) h on =
      by_test (ltb i empty)
      (λ t. rw t (omega (arith, looked_alive (f i b) w (low i b) on)))
      (λ t. absurd (omega (arith, none_left i (b ∷ w) h t)))

  -- of a walk that is alive after n bytes
  pub looked_from : (i n : ℕ) (w : List ℕ) → i ≤ empty → n ≤ length w → end_by f i (take n w) < empty
      → looked_by f empty i w ≡ n + looked_by f empty (end_by f i (take n w)) (drop n w)
  looked_from i n w h within on =
      ap (looked_by f empty i) (sym (take-append-drop n w))
      ∙ looked_append i (take n w) (drop n w) h
      ∙ omega (arith, looked_alive i (take n w) h on, length-take n w)

  pub end_looked : (i : ℕ) (w : List ℕ) → i ≤ empty → end_by f i (take (looked_by f empty i w) w) ≡ end_by f i w
  unfolding end_by looked_by
  end_looked i [] h = refl
  end_looked i (b ∷ w) h =
      by_test (ltb i empty)
      (λ t. rw t (end_looked (f i b) w (low i b)))
      (λ t. rw (t, none_left i (b ∷ w) h t) (omega (arith, ltb-false i empty t)))

  pub end_still : (i : ℕ) (w : List ℕ) → i ≤ empty → looked_by f empty i w ≡ 0 → end_by f i w ≡ i
  unfolding end_by
  end_still i w h none = sym (end_looked i w h) ∙ ap (λ (n : ℕ). end_by f i (take n w)) none
