-- specs/Spots.antt proved: which number it is refused with, that no idle mark is the byte by which a
-- trace is lost, and a rule that accepts nothing; the rest is in Spotting.antt. Assumes nothing.
use mathlib.Core.Path.{◌≡◌, refl, sym, ap, ◌∙◌, subst}
use mathlib.Core.Logic.{◌↔◌, ◌⊎◌, inl, inr}
use mathlib.Core.Bool.{Bool, true, false}
use mathlib.Core.List.{List, [], ◌∷◌, ◌++◌, append-nil}
use mathlib.Core.Option.{none, some}
use Prim.Native.Nat.{ℕ, suc, ◌<◌}
use native.Mathlib.Omega.{arith}
use lib.Dec.{eqb, ltb, leb}
use lib.ListN.{length, get_or, take}
use lib.Seq.{take-suc}
use borrow.Author.Tests.{eq-eqb, ne_eqb, eqb-true, lt-ltb, le-ltb, ltb-true, ltb-false, le-leb, lt-leb, leb-true, leb-false}
use Rattle.base.specs.Conditions.{Condition, on, first_of, any_below}
use Rattle.base.specs.Options.{is_none}
use Rattle.base.proofs.Conditions.{any_at, none_at, any_found, none_all, passed, named, first_here, first_past, first_law}
use Rattle.base.proofs.Options.{is-none}
use Rattle.base.proofs.Tests.{by_test, not_both}
use Rattle.marks.specs.Marks.{text_of}
use Rattle.marks.proofs.Claims as marks
use Rattle.automaton.specs.Automaton.{Text}
use Rattle.automaton.specs.Rules.{automaton_of}
use Rattle.live.specs.Continued.{Continued}
use Rattle.chunks.specs.Chunks.{foreign}
use Rattle.chunks.proofs.Claims as chunks
use Rattle.calls.specs.Calls.{Call}
use Rattle.locating.specs.Locating.{refused_for, stuck_after, spot_of}
use Rattle.histories.specs.History.{rule_in, board_in, places_in, standing}
use Rattle.histories.specs.Claims.{judge_after}
use Rattle.histories.proofs.EveryList.{every_list}
use Rattle.losses.specs.Losses.{text_up_to, AcceptsNothing}
use Rattle.losses.specs.Spots.{spot_number, text_with, StuckAfter, RefusedSo, SpotClaims}
use Rattle.losses.proofs.Spotting.{spot, lost_spot}

-- ---- a number behind a condition that has another
past : {Y : Type 0} (number x : ℕ) (test : Bool) (cs : List Condition) → eqb number x ≡ false → (first_of cs ≡ some x) ↔ Y
    → (first_of (on number test ∷ cs) ≡ some x) ↔ ((test ≡ false) × Y)
past number x test cs other law =
    let f = first_past number x test cs other in
    ((λ e. let u = f.0 e in (u.0, law.0 u.1)), λ y. f.1 (y.0, law.1 y.1))

-- ---- the five conditions
module _ (h : List Call) (p : ℕ) (w : List ℕ) where
  abbrev no_board : Bool
  no_board = eqb (places_in h) 0

  abbrev beyond : Bool
  beyond = leb (places_in h) p

  abbrev long : Bool
  long = ltb 65536 (length w)

  abbrev strange : Bool
  strange = foreign (text_of w) (rule_in h).k

  abbrev gap : Bool
  gap = any_below (λ i. is_none (standing h i)) p

  abbrev from_23 : List Condition
  from_23 = on 23 gap ∷ []

  abbrev from_13 : List Condition
  from_13 = on 13 strange ∷ from_23

  abbrev from_12 : List Condition
  from_12 = on 12 long ∷ from_13

  abbrev from_11 : List Condition
  from_11 = on 11 beyond ∷ from_12

  -- what each says
  board_is : (board_in h ≡ false) ↔ (no_board ≡ true)
  board_is = (
    (λ b.
        eq-eqb (places_in h) 0
        (by_test (ltb 0 (places_in h)) (λ l. not_both ((every_list h).verdict.board.1 (ltb-true 0 (places_in h) l)) b) (λ l. omega (arith, ltb-false 0 (places_in h) l)))),
    λ e. by_test (board_in h) (λ b. absurd (omega (arith, (every_list h).verdict.board.0 b, eqb-true (places_in h) 0 e))) (λ b. b),
  )

  board_there_lem : no_board ≡ false → board_in h ≡ true
  board_there_lem e = by_test (board_in h) (λ b. b) (λ b. not_both (board_is.0 b) e)

  places_there : p < places_in h → no_board ≡ false
  places_there l = ne_eqb (places_in h) 0 (λ z. absurd (omega (arith, l, z)))

  text_is : (strange ≡ true) ↔ (Text (rule_in h).k (text_of w) → ⊥)
  text_is = (
    (λ e t. not_both e (((chunks.claims).text_law (text_of w) (rule_in h).k).1 t)),
    λ n. by_test strange (λ e. e) (λ e. absurd (n (((chunks.claims).text_law (text_of w) (rule_in h).k).0 e))),
  )

  gap_is : (gap ≡ true) ↔ ((i : ℕ) × (i < p) × (standing h i ≡ none))
  gap_is = (
    (λ e. let x = any_found (λ i. is_none (standing h i)) p e in (x.0, x.1, (is-none (standing h x.0)).0 x.2)),
    λ x. any_at (λ i. is_none (standing h i)) p x.0 x.1 ((is-none (standing h x.0)).1 x.2),
  )

  -- the numbers by their tests
  is_21 : (spot_number h p w ≡ some 21) ↔ (no_board ≡ true)
  unfolding named
  is_21 = first_here 21 no_board from_11 refl

  is_11 : (spot_number h p w ≡ some 11) ↔ ((no_board ≡ false) × (beyond ≡ true))
  unfolding named
  is_11 = past 21 11 no_board from_11 refl (first_here 11 beyond from_12 refl)

  is_12 : (spot_number h p w ≡ some 12) ↔ ((no_board ≡ false) × ((beyond ≡ false) × (long ≡ true)))
  unfolding named
  is_12 = past 21 12 no_board from_11 refl (past 11 12 beyond from_12 refl (first_here 12 long from_13 refl))

  is_13 : (spot_number h p w ≡ some 13) ↔ ((no_board ≡ false) × ((beyond ≡ false) × ((long ≡ false) × (strange ≡ true))))
  unfolding named
  is_13 = past 21 13 no_board from_11 refl (past 11 13 beyond from_12 refl (past 12 13 long from_13 refl (first_here 13 strange from_23 refl)))

  is_23 : (spot_number h p w ≡ some 23) ↔ ((no_board ≡ false) × ((beyond ≡ false) × ((long ≡ false) × ((strange ≡ false) × (gap ≡ true)))))
  unfolding named
  is_23 =
      past 21 23 no_board from_11 refl
      (past 11 23 beyond from_12 refl (past 12 23 long from_13 refl (past 13 23 strange from_23 refl (first_here 23 gap [] refl))))

  refused : (x : ℕ) → (spot_of (judge_after h) p w ≡ refused_for x) ↔ (spot_number h p w ≡ some x)
  refused x = spot h p w (refused_for x)

  numbers : RefusedSo h p w
  numbers = record {
    number_21 = ((λ e. board_is.1 (is_21.0 ((refused 21).0 e))), λ b. (refused 21).1 (is_21.1 (board_is.0 b)));
    number_11 = (
      (λ e. let x = is_11.0 ((refused 11).0 e) in (board_there_lem x.0, leb-true (places_in h) p x.1)),
      λ x.
          let there : no_board ≡ false = ne_eqb (places_in h) 0 (λ z. absurd (omega (arith, z, (every_list h).verdict.board.0 x.0))) in
          (refused 11).1 (is_11.1 (there, le-leb (places_in h) p x.1)),
    );
    number_12 = (
      (λ e. let x = is_12.0 ((refused 12).0 e) in (leb-false (places_in h) p x.1.0, ltb-true 65536 (length w) x.1.1)),
      λ x. (refused 12).1 (is_12.1 (places_there x.0, (lt-leb (places_in h) p x.0, lt-ltb 65536 (length w) x.1))),
    );
    number_13 = (
      (λ e. let x = is_13.0 ((refused 13).0 e) in (leb-false (places_in h) p x.1.0, ltb-false 65536 (length w) x.1.1.0, text_is.0 x.1.1.1)),
      λ x. (refused 13).1 (is_13.1 (places_there x.0, (lt-leb (places_in h) p x.0, (le-ltb 65536 (length w) x.1, text_is.1 x.2)))),
    );
    number_23 = (
      (λ e.
          let x = is_23.0 ((refused 23).0 e) in (
            leb-false (places_in h) p x.1.0,
            ltb-false 65536 (length w) x.1.1.0,
            ((chunks.claims).text_law (text_of w) (rule_in h).k).0 x.1.1.1.0,
            gap_is.0 x.1.1.1.1,
          )),
      λ x.
          (refused 23).1
          (is_23.1
          (places_there x.0, (lt-leb (places_in h) p x.0, (le-ltb 65536 (length w) x.1, (((chunks.claims).text_law (text_of w) (rule_in h).k).1 x.2, gap_is.1 x.3))))),
    );
    answered = (
      (λ e.
          let a = passed 21 no_board (first_of from_11) e in
          let b = passed 11 beyond (first_of from_12) a.1 in
          let c = passed 12 long (first_of from_13) b.1 in
          let d = passed 13 strange (first_of from_23) c.1 in
          let f = passed 23 gap none d.1 in (
            leb-false (places_in h) p b.0,
            ltb-false 65536 (length w) c.0,
            ((chunks.claims).text_law (text_of w) (rule_in h).k).0 d.0,
            λ i l. none_at (λ i. is_none (standing h i)) p i f.0 l,
          )),
      λ x.
          rw (
            places_there x.0,
            lt-leb (places_in h) p x.0,
            le-ltb 65536 (length w) x.1,
            ((chunks.claims).text_law (text_of w) (rule_in h).k).1 x.2,
            none_all (λ i. is_none (standing h i)) p x.3,
          ),
    );
    no_other = λ x e. of_five x ((first_law x (on 21 no_board ∷ from_11)).0 ((refused x).0 e));
  }
    where
      of_five : (x : ℕ) → ((no_board ≡ true) × (21 ≡ x)) ⊎ ((no_board ≡ false) × (((beyond ≡ true) × (11 ≡ x)) ⊎ ((beyond ≡ false) × (((long ≡ true) × (12 ≡ x)) ⊎ ((long ≡ false) × (((strange ≡ true) × (13 ≡ x)) ⊎ ((strange ≡ false) × (((gap ≡ true) × (23 ≡ x)) ⊎ ((gap ≡ false) × ⊥)))))))))
          → (x ≡ 21) ⊎ (x ≡ 11) ⊎ (x ≡ 12) ⊎ (x ≡ 13) ⊎ (x ≡ 23)
      of_five x (inl z) = inl (sym z.1)
      of_five x (inr (a, inl z)) = inr (inl (sym z.1))
      of_five x (inr (a, inr (b, inl z))) = inr (inr (inl (sym z.1)))
      of_five x (inr (a, inr (b, inr (c, inl z)))) = inr (inr (inr (inl (sym z.1))))
      of_five x (inr (a, inr (b, inr (c, inr (d, inl z))))) = inr (inr (inr (inr (sym z.1))))
      of_five x (inr (a, inr (b, inr (c, inr (d, inr z))))) = absurd z.1

-- ---- the last byte
no-mark : (h : List Call) (p : ℕ) (w : List ℕ) (b : ℕ) → StuckAfter h p w (suc b) → get_or w b 0 ≡ 255 → ⊥
unfolding text_of
no-mark h p w b x e =
    let same : text_of (take (suc b) w) ≡ text_of (take b w) =
    ap text_of (take-suc w b 0 (omega (arith, x.most)) ∙ ap (λ (c : ℕ). take b w ++ (c ∷ [])) e)
    ∙ (marks.claims).text_append (take b w) (255 ∷ [])
    ∙ append-nil (text_of (take b w)) in
    x.stuck (subst (λ (t : List ℕ). Continued (automaton_of (rule_in h)) (text_up_to h p ++ t)) (sym same) (x.least b (omega arith)))

-- ---- of a rule that accepts nothing
nothing_spot : (h : List Call) (p : ℕ) (w : List ℕ) → AcceptsNothing h → spot_number h p w ≡ none → spot_of (judge_after h) p w ≡ stuck_after 0
nothing_spot h p w nothing e =
    (spot h p w (stuck_after 0)).1
    (e, record { most = omega arith; stuck = λ c. nothing (text_with h p w 0 ++ c.rest) c.accepts; least = λ i l. absurd (omega arith) })

pub spot_claims : SpotClaims
spot_claims = record {
  spot = spot;
  numbers = numbers;
  no-mark = no-mark;
  lost_spot = lost_spot;
  nothing_spot = nothing_spot;
}
