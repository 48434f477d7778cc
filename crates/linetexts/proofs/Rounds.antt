-- What is gathered in rounds is what feeding all parts comes to. Assumes nothing.
--
--   round_is                 a round, and the parts that it leaves
--   forward, within          a round takes some of a block, and no more than there is
--   rounds                   all rounds of a block
--   blocks_are               all rounds of all blocks
--   round_forward, round_on, rounds_over   for a loop over the rounds of a block
--   in_first_lem, past_first  an index of the first n bytes
use mathlib.Core.Path.{◌≡◌, refl, sym, ap, ap₂, ◌∙◌, subst}
use mathlib.Core.List.{List, [], ◌∷◌, ◌++◌, append_assoc, flatten}
use Prim.Native.Nat.{ℕ, zero, suc, ◌+◌, ◌-◌, ◌≤◌, ◌<◌}
use native.Mathlib.Omega.{arith}
use borrow.Author.Tests.{ltb-true, ltb-false}
use lib.Dec.{ltb}
use lib.ListN.{length, drop, length-drop, drop_of_length-le, take}
use lib.Seq.{drop-drop, length-take-le}
use Rattle.base.proofs.Tests.{by_test}
use Rattle.linetexts.specs.Parts.{Part, parts_of, parts_in, first_of, part_size}
use Rattle.linetexts.specs.Feeding.{LineMachine, State, feed_part, feed_parts, parts_text, Gathering, stop, onward, gather_parts, gather_at, Gathers}
use Rattle.linetexts.specs.Claims.{Rounds, over, round, Blocks, no_block, one_more}
use Rattle.linetexts.proofs.Parts.{first_part}
use Rattle.linetexts.proofs.Gathering.{gather_on, gather_short, gather_over}

module _ {K J : Type 0} (m : LineMachine K J) where
  -- a round that comes to g, and what it leaves of the block
  pub record RoundIs (s : State K J) (b : List ℕ) (g : Gathering K J) : Type 0 where
    pub state : feed_parts m s (parts_of b) ≡ feed_parts m g.state (parts_of (drop g.taken b))
    pub text : parts_text m s (parts_of b) ≡ g.text ++ parts_text m g.state (parts_of (drop g.taken b))
    pub inside : g.taken ≤ length b

  stopped : (s : State K J) (b : List ℕ) → RoundIs s b (stop s)
  stopped s b = record { state = refl; text = refl; inside = omega arith }

  -- the first part, and then a round
  part_then : (s : State K J) (b : List ℕ) → 0 < length b → (g : Gathering K J)
      → RoundIs (feed_part m s (first_of (parts_of b))).state (drop (part_size (first_of (parts_of b))) b) g
      → RoundIs s b (onward (feed_part m s (first_of (parts_of b))) (part_size (first_of (parts_of b))) g)
  unfolding feed_parts parts_text
  part_then s b some g r =
      let p = first_of (parts_of b) in
      let t = feed_part m s p in
      let first = first_part b some in
      let left : drop g.taken (drop (part_size p) b) ≡ drop (part_size p + g.taken) b = drop-drop g.taken (part_size p) b in
      record {
        state = ap (feed_parts m s) first.rest ∙ r.state ∙ ap (λ (v : List ℕ). feed_parts m g.state (parts_of v)) left;
        text =
            ap (parts_text m s) first.rest
            ∙ ap (λ (v : List ℕ). t.text ++ v) r.text
            ∙ sym (append_assoc t.text g.text (parts_text m g.state (parts_of (drop g.taken (drop (part_size p) b)))))
            ∙ ap (λ (v : List ℕ). (t.text ++ g.text) ++ parts_text m g.state (parts_of v)) left;
        inside = omega (arith, r.inside, first.within, length-drop (part_size p) b);
      }

  nothing_left : (room : ℕ) (s : State K J) (b : List ℕ) → length b ≤ 0 → RoundIs s b (gather_parts m room s (parts_of b))
  nothing_left room s [] l = subst (RoundIs s []) (sym (gather_over m room s)) (stopped s [])
  nothing_left room s (x ∷ b) l = absurd (omega arith)

  -- by a number that the length of the block is at most
  round_by : (n : ℕ) (room : ℕ) (s : State K J) (b : List ℕ) → length b ≤ n → RoundIs s b (gather_parts m room s (parts_of b))
  round_by zero room s b l = nothing_left room s b l
  round_by (suc n) room s b l =
      let p = first_of (parts_of b) in
      let t = feed_part m s p in
      by_test (ltb room m.most)
      (λ e. subst (RoundIs s b) (sym (gather_short m room s (parts_of b) (ltb-true room m.most e))) (stopped s b))
      (λ e.
      by_test (ltb 0 (length b))
      (λ k.
      let some = ltb-true 0 (length b) k in
      let first = first_part b some in
      subst (RoundIs s b) (sym (gather_on m room s b some (ltb-false room m.most e)))
      (part_then s b some _
      (round_by n (room - length t.text) t.state (drop (part_size p) b) (omega (arith, l, first.forward, length-drop (part_size p) b)))))
      (λ k. nothing_left room s b (ltb-false 0 (length b) k)))

  pub round_is : (room : ℕ) (s : State K J) (b : List ℕ) → RoundIs s b (gather_parts m room s (parts_of b))
  round_is room s b = round_by (length b) room s b (omega arith)

  pub within : (room : ℕ) (s : State K J) (b : List ℕ) → (gather_parts m room s (parts_of b)).taken ≤ length b
  within room s b = (round_is room s b).inside

  pub forward : (room : ℕ) (s : State K J) (b : List ℕ) → m.most ≤ room → 0 < length b → 0 < (gather_parts m room s (parts_of b)).taken
  forward room s b enough some =
      subst (λ (g : Gathering K J). 0 < g.taken) (sym (gather_on m room s b some enough)) (omega (arith, (first_part b some).forward))

  -- ---- all rounds of a block
  pub rounds : {s s' : State K J} {b : List ℕ} {texts : List (List ℕ)} → Rounds m s b s' texts
      → (flatten texts ≡ parts_text m s (parts_of b)) × (s' ≡ feed_parts m s (parts_of b))
  unfolding flatten parts_text feed_parts parts_of
  rounds over = (refl, refl)
  rounds {s} {s'} {b} (round room r) =
      let is = round_is room s b in
      let rest = rounds r in
      (ap (λ (v : List ℕ). (gather_parts m room s (parts_of b)).text ++ v) rest.0 ∙ sym is.text, rest.1 ∙ sym is.state)

  -- ---- all rounds of all blocks
  feed_append : (ps qs : List Part) (s : State K J) → feed_parts m s (ps ++ qs) ≡ feed_parts m (feed_parts m s ps) qs
  unfolding feed_parts
  feed_append [] qs s = refl
  feed_append (p ∷ ps) qs s = feed_append ps qs (feed_part m s p).state

  text_append : (ps qs : List Part) (s : State K J) → parts_text m s (ps ++ qs) ≡ parts_text m s ps ++ parts_text m (feed_parts m s ps) qs
  unfolding feed_parts parts_text
  text_append [] qs s = refl
  text_append (p ∷ ps) qs s =
      let t = feed_part m s p in
      ap (λ (v : List ℕ). t.text ++ v) (text_append ps qs t.state)
      ∙ sym (append_assoc t.text (parts_text m t.state ps) (parts_text m (feed_parts m t.state ps) qs))

  pub blocks_are : {s s' : State K J} {bs : List (List ℕ)} {text : List ℕ} → Blocks m s bs s' text
      → (text ≡ parts_text m s (parts_in bs)) × (s' ≡ feed_parts m s (parts_in bs))
  unfolding parts_text feed_parts parts_in
  blocks_are no_block = (refl, refl)
  blocks_are {s} (one_more {s' = s'} {block = b} {blocks = bs} {texts = ts} {text = text} r more) =
      let is = rounds r in
      let rest = blocks_are more in (
        ap₂ (λ (v w : List ℕ). v ++ w) is.0 (rest.0 ∙ ap (λ (x : State K J). parts_text m x (parts_in bs)) is.1) ∙ sym (text_append (parts_of b) (parts_in bs) s),
        rest.1 ∙ ap (λ (x : State K J). feed_parts m x (parts_in bs)) is.1 ∙ sym (feed_append (parts_of b) (parts_in bs) s),
      )

  -- ---- for a loop over the rounds of a block: the block was fed from `at` on
  module _ (b : List ℕ) (at room : ℕ) (here : at < length b) (s t : State K J) (next written : ℕ) (before after : List ℕ)
      (came : Gathers (gather_at m b at room s) at t next written before after) where
    pub round_forward : m.most ≤ room → at < next
    round_forward enough = omega (arith, forward room s (drop at b) enough (omega (arith, length-drop at b)), came.place)

    pub round_on : feed_parts m s (parts_of (drop at b)) ≡ feed_parts m t (parts_of (drop next b))
    round_on =
        let g = gather_at m b at room s in
        let sum : at + g.taken ≡ next = sym came.place in
        (round_is room s (drop at b)).state
        ∙ ap₂ (λ (x : State K J) (v : List ℕ). feed_parts m x (parts_of v)) (sym came.state) (drop-drop g.taken at b ∙ ap (λ (n : ℕ). drop n b) sum)

  pub rounds_over : (b : List ℕ) (at : ℕ) (s : State K J) → length b ≤ at → s ≡ feed_parts m s (parts_of (drop at b))
  unfolding feed_parts parts_of
  rounds_over b at s l = ap (λ (v : List ℕ). feed_parts m s (parts_of v)) (sym (drop_of_length-le b l))

module _ (n at : ℕ) (b : List ℕ) (fits : n ≤ length b) where
  pub in_first_lem : at < n → at < length (take n b)
  in_first_lem l = omega (arith, length-take-le n b fits)

  pub past_first : n ≤ at → length (take n b) ≤ at
  past_first l = omega (arith, length-take-le n b fits)
