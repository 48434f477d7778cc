-- Parts fed one after the other while there is room to answer them. Assumes nothing.
--
--   gather_on                  a part and what is behind it
--   gather_over, gather_short  no part is left, or too little room
--   at_on, at_over             the same, from an index of the block on
--   SoFar                      what holds after some parts
--   begun, gone_on, ended      at the start, after one part more, and at the end
--   put_within                 an answer that was written behind the others is within the buffer
--   placed                     an answer that was written into the rest of a buffer
use mathlib.Core.Path.{◌≡◌, refl, sym, ap, ap₂, ◌∙◌, subst}
use mathlib.Core.Bool.{Bool, cond}
use mathlib.Core.List.{List, [], ◌∷◌, ◌++◌, append_assoc, append-nil}
use Prim.Native.Nat.{ℕ, ◌+◌, ◌-◌, ◌≤◌, ◌<◌}
use native.Mathlib.Nat.{le_refl}
use native.Mathlib.Omega.{arith}
use borrow.Author.Tests.{lt-ltb, le-ltb}
use borrow.Rule.Slice.PartMut.{mid_of, put_mid, same_len_mid, mid_len}
use lib.ListN.{length, take, drop, length-append, length-drop, drop_of_length-le}
use lib.Seq.{take_all, drop-drop, length-take-le}
use Rattle.text.specs.Writing.{Wrote}
use Rattle.text.proofs.Pieces.{wrote_none, wrote_more}
use Rattle.linetexts.specs.Parts.{Part, parts_of, first_of, part_at, part_size}
use Rattle.linetexts.specs.Feeding.{LineMachine, State, Step, feed_part, Gathering, stop, onward, gather_parts, gather_at, Gathers}
use Rattle.linetexts.proofs.Parts.{first_part}

module _ {K J : Type 0} (m : LineMachine K J) where
  -- ---- the first part, and the others
  pub gather_on : (room : ℕ) (s : State K J) (block : List ℕ) → 0 < length block → m.most ≤ room
      → gather_parts m room s (parts_of block)
      ≡ onward (feed_part m s (first_of (parts_of block))) (part_size (first_of (parts_of block)))
      (gather_parts m (room - length (feed_part m s (first_of (parts_of block))).text) (feed_part m s (first_of (parts_of block))).state (parts_of (drop (part_size (first_of (parts_of block))) block)))
  unfolding gather_parts
  gather_on room s block some enough =
      let p = first_of (parts_of block) in
      let t = feed_part m s p in
      ap (gather_parts m room s) (first_part block some).rest
      ∙ ap (λ (b : Bool). cond b (stop s) (onward t (part_size p) (gather_parts m (room - length t.text) t.state (parts_of (drop (part_size p) block))))) (le-ltb room m.most enough)

  pub gather_short : (room : ℕ) (s : State K J) (ps : List Part) → room < m.most → gather_parts m room s ps ≡ stop s
  unfolding gather_parts
  gather_short room s [] short = refl
  gather_short room s (p ∷ ps) short = rw (lt-ltb room m.most short)

  pub gather_over : (room : ℕ) (s : State K J) → gather_parts m room s (parts_of []) ≡ stop s
  unfolding gather_parts parts_of
  gather_over room s = refl

  -- ---- from an index on
  module _ (block : List ℕ) (at room : ℕ) (s : State K J) where
    pub at_on : at < length block → m.most ≤ room
        → gather_at m block at room s
        ≡ onward (feed_part m s (part_at block at)) (part_size (part_at block at))
        (gather_at m block (at + part_size (part_at block at)) (room - length (feed_part m s (part_at block at)).text) (feed_part m s (part_at block at)).state)
    at_on here enough =
        let p = part_at block at in
        let t = feed_part m s p in
        gather_on room s (drop at block) (omega (arith, length-drop at block)) enough
        ∙ ap (λ (v : List ℕ). onward t (part_size p) (gather_parts m (room - length t.text) t.state (parts_of v))) (drop-drop (part_size p) at block)

    pub at_over : length block ≤ at → gather_at m block at room s ≡ stop s
    at_over l = ap (λ (v : List ℕ). gather_parts m room s (parts_of v)) (drop_of_length-le block l) ∙ gather_over room s

  -- ---- what holds after some parts: `gone` bytes of the block were taken, and `said` was answered
  abbrev said_of : State K J → List ℕ → Step K J
  said_of s said = record { state = s; text = said }

  pub record SoFar (block : List ℕ) (from : ℕ) (s₀ : State K J) (out₀ : List ℕ) (at : ℕ) (s : State K J) (out : List ℕ) (used : ℕ) : Type 0 where
    pub said : List ℕ
    pub gone : ℕ
    pub size : length out ≡ length out₀
    pub within : used ≤ length out
    pub wrote : Wrote out₀ 0 said out used
    pub at-is : at ≡ from + gone
    pub rest : gather_at m block from (length out₀) s₀ ≡ onward (said_of s said) gone (gather_at m block at (length out - used) s)

  pub begun : (block : List ℕ) (from : ℕ) (s : State K J) (out : List ℕ) → SoFar block from s out from s out 0
  begun block from s out =
      let whole : length out ≡ length out - 0 = omega arith in
      let g = gather_at m block from (length out) s in
      record {
        said = [];
        gone = 0;
        size = refl;
        within = omega arith;
        wrote = wrote_none out 0;
        at-is = omega arith;
        rest =
            ap (λ (n : ℕ). record { state = g.state; text = g.text; taken = n }) (zero-add g.taken)
            ∙ ap (λ (n : ℕ). onward (said_of s []) 0 (gather_at m block from n s)) whole;
      }
    where
      zero-add : (n : ℕ) → n ≡ 0 + n
      zero-add n = omega arith

  onward_twice : (s : State K J) (said : List ℕ) (m : ℕ) (t : Step K J) (n : ℕ) (g : Gathering K J) (s' : State K J)
      → onward (said_of s said) m (onward t n g) ≡ onward (said_of s' (said ++ t.text)) (m + n) g
  onward_twice s said m t n g s' =
      let sum : m + (n + g.taken) ≡ m + n + g.taken = omega arith in
      ap₂ (λ (x : List ℕ) (k : ℕ). record { state = g.state; text = x; taken = k }) (sym (append_assoc said t.text g.text)) sum

  module _ (block : List ℕ) (from : ℕ) (s₀ : State K J) (out₀ : List ℕ) (at : ℕ) (s : State K J) (out : List ℕ) (used : ℕ) (so : SoFar block from s₀ out₀ at s out used) where
    pub gone_on : at < length block → m.most ≤ length out - used
        → (t : Step K J) → feed_part m s (part_at block at) ≡ t → (next : ℕ) → next ≡ at + part_size (part_at block at)
        → (after : List ℕ) (end : ℕ) → Wrote out used t.text after end → length after ≡ length out → end ≤ length out
        → SoFar block from s₀ out₀ next t.state after end
    gone_on here enough t came next next-is after end wrote kept fits =
        let p = part_at block at in
        let room : length out - used - length t.text ≡ length after - end = omega (arith, wrote.ends, kept) in
        record {
          said = so.said ++ t.text;
          gone = so.gone + part_size p;
          size = kept ∙ so.size;
          within = omega (arith, kept, fits);
          wrote = wrote_more out₀ 0 so.said t.text (omega (arith, so.wrote.ends, so.within, so.size)) out after used end so.wrote wrote;
          at-is = omega (arith, next-is, so.at-is);
          rest =
              so.rest
              ∙ ap (onward (said_of s so.said) so.gone) (at_on block at (length out - used) s here enough)
              ∙ ap (λ (u : Step K J). onward (said_of s so.said) so.gone (onward u (part_size p) (gather_at m block (at + part_size p) (length out - used - length u.text) u.state))) came
              ∙ ap₂ (λ (n r : ℕ). onward (said_of s so.said) so.gone (onward t (part_size p) (gather_at m block n r t.state))) (sym next-is) room
              ∙ onward_twice s so.said so.gone t (part_size p) (gather_at m block next (length after - end) t.state) t.state;
        }

    -- nothing is fed any more: no part is left, or too little room
    pub ended : gather_at m block at (length out - used) s ≡ stop s
        → Gathers (gather_at m block from (length out₀) s₀) from s at used out₀ out
    ended over =
        let g : gather_at m block from (length out₀) s₀ ≡ record { state = s; text = so.said ++ []; taken = so.gone + 0 } =
        so.rest ∙ ap (onward (said_of s so.said) so.gone) over in
        record {
          state = sym (ap (λ (x : Gathering K J). x.state) g);
          response = subst (λ (t : List ℕ). Wrote out₀ 0 t out used) (sym (ap (λ (x : Gathering K J). x.text) g ∙ append-nil so.said)) so.wrote;
          place = omega (arith, so.at-is, ap (λ (x : Gathering K J). x.taken) g);
        }

pub put_within : (out t after : List ℕ) (used end : ℕ) → used ≤ length out → Wrote out used t after end → length after ≡ length out → end ≤ length out
put_within out t after used end within wrote size =
    omega (arith, wrote.ends, ap length wrote.is, length-append (take used out) (t ++ drop (used + length t) out), length-append t (drop (used + length t) out), length-take-le used out within)

-- ---- an answer was written into what is left of the buffer, `last` is what that holds then
module _ (out last t : List ℕ) (used n : ℕ) (within : used ≤ length out) (kept : length last ≡ length (mid_of used (length out - used) out))
    (wrote : Wrote (mid_of used (length out - used) out) 0 t last n) where
  rest-is : mid_of used (length out - used) out ≡ drop used out
  rest-is = take_all (length out - used) (drop used out) (omega (arith, length-drop used out))

  last-is : last ≡ t ++ drop (used + length t) out
  last-is =
      let e : 0 + length t ≡ length t = omega arith in
      wrote.is
      ∙ ap₂ (λ (v : List ℕ) (k : ℕ). take 0 v ++ (t ++ drop k v)) rest-is e
      ∙ ap (λ (v : List ℕ). t ++ v) (drop-drop (length t) used out)

  last_size : length last ≡ length out - used
  last_size = kept ∙ mid_len used (length out) out (le_refl _)

  pub placed : Wrote out used t (put_mid used (length out - used) out last) (used + n)
  placed = record {
    is =
        ap (λ (v : List ℕ). take used out ++ (last ++ v)) (drop_of_length-le (drop used out) {i = length out - used} (omega (arith, length-drop used out)))
        ∙ ap (λ (v : List ℕ). take used out ++ v) (append-nil last ∙ last-is);
    ends = omega (arith, wrote.ends);
  }

  pub placed_size : length (put_mid used (length out - used) out last) ≡ length out
  placed_size = same_len_mid used (length out - used) out last kept

  pub placed_within : used + n ≤ length out
  placed_within = omega (arith, wrote.ends, last_size, ap length last-is, length-append t (drop (used + length t) out))
