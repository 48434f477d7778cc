-- Where the trace is cut does not matter: a chunk u ++ w is followed as u and then w. Assumes
-- nothing.
use Rattle.std.proofs.Common.{◌≡◌, ℕ, zero, suc, ◌+◌, ◌-◌, ◌<◌, ◌≤◌, leb, List, [], ◌∷◌, ◌++◌, length, take, drop, sym, refl, ap, ◌∙◌, subst, append-nil, arith, length-append, take-append-drop, leb-false, leb-true}
use mathlib.Core.Option.{Option, none, some}
use lib.Seq.{take-append-le, take-append-add, take-length}
use Rattle.base.proofs.Tests.{by_test}
use Rattle.masks.specs.Masks.{shares}
use Rattle.marks.specs.Marks.{text_of}
use Rattle.marks.proofs.Claims as marks
use Rattle.automaton.specs.declared.Rule.{Rule}
use Rattle.automaton.specs.Automaton.{Text}
use Rattle.automaton.specs.Rules.{WellFormed}
use Rattle.live.specs.Live.{live_of}
use Rattle.live.specs.Continued.{CanEnd}
use Rattle.live.proofs.Hope.{shorter, moved}
use Rattle.follow.specs.Following.{set_after, lost_by, place_of, next_by, follow_number, walk_of, follow_of}
use Rattle.follow.specs.Claims.{LostAt, Cut}
use Rattle.follow.proofs.Steps.{set_append}
use Rattle.follow.proofs.Losing.{lost_law, kept_law}
use Rattle.follow.proofs.Numbers as numbers

no_text : text_of [] ≡ []
unfolding text_of
no_text = refl

module _ (r : Rule) (good : WellFormed r) (m : ℕ) (u w : List ℕ) where
  -- bytes of the first part, and of both
  front : (i : ℕ) → i ≤ length u → text_of (take i (u ++ w)) ≡ text_of (take i u)
  front i l = ap text_of (take-append-le i u w l)

  behind : (j : ℕ) → text_of (take (length u + j) (u ++ w)) ≡ text_of u ++ text_of (take j w)
  behind j = ap text_of (take-append-add u w j) ∙ (marks.claims).text_append u (take j w)

  prefix : (i : ℕ) → CanEnd r m (text_of u) → CanEnd r m (text_of (take i u))
  prefix i c =
      shorter r good m (text_of (take i u)) (text_of (drop i u))
      (subst (CanEnd r m) (ap text_of (sym (take-append-drop i u)) ∙ (marks.claims).text_append (take i u) (drop i u)) c)

  on : (v : List ℕ) → CanEnd r (set_after r.targets m u) v → CanEnd r m (text_of u ++ v)
  on v c = (moved r good m (text_of u) v).0 c

  back : (v : List ℕ) → CanEnd r m (text_of u ++ v) → CanEnd r (set_after r.targets m u) v
  back v c = (moved r good m (text_of u) v).1 c

  first : (b : ℕ) → LostAt r m u b → LostAt r m (u ++ w) b
  first b x = record {
    within = omega (arith, x.within, length-append u w);
    lost = λ c. x.lost (subst (CanEnd r m) (front b x.within) c);
    before = λ i l. subst (CanEnd r m) (sym (front i (omega (arith, x.within)))) (x.before i l);
  }

  second : (c : ℕ) → CanEnd r m (text_of u) → LostAt r (set_after r.targets m u) w c → LostAt r m (u ++ w) (length u + c)
  second c k x = record {
    within = omega (arith, x.within, length-append u w);
    lost = λ e. x.lost (back (text_of (take c w)) (subst (CanEnd r m) (behind c) e));
    before = λ i l.
        by_test (leb i (length u))
        (λ t. let h = leb-true i (length u) t in subst (CanEnd r m) (sym (front i h)) (prefix i k))
        (λ f.
        let z : length u + (i - length u) ≡ i = omega (arith, leb-false i (length u) f) in
        subst (λ (y : ℕ). CanEnd r m (text_of (take y (u ++ w)))) z
        (subst (CanEnd r m) (sym (behind (i - length u))) (on (text_of (take (i - length u) w)) (x.before (i - length u) (omega (arith, leb-false i (length u) f))))));
  }

  none_more : text_of u ++ text_of (take 0 w) ≡ text_of u
  none_more = ap (λ (x : List ℕ). text_of u ++ x) no_text ∙ append-nil (text_of u)

  later : (c : ℕ) → CanEnd r m (text_of u) → LostAt r (set_after r.targets m u) w c → 0 < c
  later zero k x = absurd (x.lost (back (text_of (take 0 w)) (subst (CanEnd r m) (sym none_more) k)))
  later (suc c) k x = omega arith

  abbrev law : (x : ℕ) (v : List ℕ) (o : Option ℕ) → Type 0
  law x v o = lost_by r.targets (live_of r) x v ≡ o

  expects : (x y : ℕ) (v z : List ℕ) (o p : Option ℕ) → law x v o → law y z p
      → set_after r.targets x (take (place_of o v) v) ≡ set_after r.targets y (take (place_of p z) z)
      → ((walk_of r x v).expected ≡ (walk_of r y z).expected) × ((walk_of r x v).complete ≡ (walk_of r y z).complete)
  expects x y v z o p e f is =
      let same : set_after r.targets x (take (place_of (lost_by r.targets (live_of r) x v) v) v)
      ≡ set_after r.targets y (take (place_of (lost_by r.targets (live_of r) y z) z) z) =
      ap (λ (q : Option ℕ). set_after r.targets x (take (place_of q v) v)) e ∙ is ∙ sym (ap (λ (q : Option ℕ). set_after r.targets y (take (place_of q z) z)) f) in
      (ap (next_by r.targets (live_of r) r.k) same, ap (λ (q : ℕ). shares q r.finals) same)

  sets : set_after r.targets m (u ++ w) ≡ set_after r.targets (set_after r.targets m u) w
  sets = set_append r.targets m u w

  in_first_lem : (b : ℕ) → law m u (some b)
      → (law m (u ++ w) (some b)) × ((walk_of r m (u ++ w)).expected ≡ (walk_of r m u).expected) × ((walk_of r m (u ++ w)).complete ≡ (walk_of r m u).complete)
  in_first_lem b e =
      let x = (lost_law r good m u b).0 e in
      let f = (lost_law r good m (u ++ w) b).1 (first b x) in
      let g = expects m m (u ++ w) u (some b) (some b) f e (ap (set_after r.targets m) (take-append-le (b - 1) u w (omega (arith, x.within)))) in
      (f, g.0, g.1)

  in_second_lem : (c : ℕ) → law m u none → law (set_after r.targets m u) w (some c)
      → (0 < c) × (law m (u ++ w) (some (length u + c))) × ((walk_of r m (u ++ w)).expected ≡ (walk_of r (set_after r.targets m u) w).expected)
      × ((walk_of r m (u ++ w)).complete ≡ (walk_of r (set_after r.targets m u) w).complete)
  in_second_lem c e f =
      let k = (kept_law r good m u).0 e in
      let x = (lost_law r good (set_after r.targets m u) w c).0 f in
      let some_byte = later c k x in
      let g = (lost_law r good m (u ++ w) (length u + c)).1 (second c k x) in
      let z : length u + c - 1 ≡ length u + (c - 1) = omega arith in
      let h = expects m (set_after r.targets m u) (u ++ w) w (some (length u + c)) (some c) g f
      (ap (λ (i : ℕ). set_after r.targets m (take i (u ++ w))) z
      ∙ ap (set_after r.targets m) (take-append-add u w (c - 1))
      ∙ set_append r.targets m u (take (c - 1) w)) in
      (some_byte, g, h.0, h.1)

  in_neither : law m u none → law (set_after r.targets m u) w none
      → (law m (u ++ w) none) × ((walk_of r m (u ++ w)).expected ≡ (walk_of r (set_after r.targets m u) w).expected)
      × ((walk_of r m (u ++ w)).complete ≡ (walk_of r (set_after r.targets m u) w).complete)
  in_neither e f =
      let k = (kept_law r good (set_after r.targets m u) w).0 f in
      let g = (kept_law r good m (u ++ w)).1 (subst (CanEnd r m) (sym ((marks.claims).text_append u w)) (on (text_of w) k)) in
      let h = expects m (set_after r.targets m u) (u ++ w) w none none g f
      (ap (set_after r.targets m) (take-length (u ++ w)) ∙ sets ∙ sym (ap (set_after r.targets (set_after r.targets m u)) (take-length w))) in
      (g, h.0, h.1)

  pub cut : Cut (length u) (walk_of r m u) (walk_of r (walk_of r m u).set w) (walk_of r m (u ++ w))
  cut = record {
    set = sets;
    ends = ap (λ (x : ℕ). shares x r.finals) sets;
    in_first_lem = in_first_lem;
    in_second_lem = in_second_lem;
    in_neither = in_neither;
  }

-- ---- the same of a chunk that is not refused: its parts are not either
text_parts : (k : ℕ) (u v : List ℕ) → Text k (u ++ v) → Text k u × Text k v
text_parts k [] v t = (tt, t)
text_parts k (s ∷ u) v t = let x = text_parts k u v t.1 in ((t.0, x.0), x.1)

pub followed_cut : (r : Rule) (m : ℕ) (u w : List ℕ) → follow_number r (u ++ w) ≡ none
    → Cut (length u) (follow_of r m u) (follow_of r (follow_of r m u).set w) (follow_of r m (u ++ w))
followed_cut r m u w ok =
    let x = (numbers.numbers r (u ++ w)).accepted.0 ok in
    let y = text_parts r.k (text_of u) (text_of w) (subst (Text r.k) ((marks.claims).text_append u w) x.2) in
    let few : length u + length w ≤ 65536 = omega (arith, x.1, length-append u w) in
    let a : follow_of r m u ≡ walk_of r m u = numbers.follow_is r u m ((numbers.numbers r u).accepted.1 (x.0, omega arith, y.0)) in
    let b : follow_of r (walk_of r m u).set w ≡ walk_of r (walk_of r m u).set w =
    numbers.follow_is r w (walk_of r m u).set ((numbers.numbers r w).accepted.1 (x.0, omega arith, y.1)) in
    let c : follow_of r m (u ++ w) ≡ walk_of r m (u ++ w) = numbers.follow_is r (u ++ w) m ok in
    rw (a, b, c) (cut r x.0 m u w)
