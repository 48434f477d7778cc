-- The turns of a loop that gathers answers. Assumes nothing.
--
--   turn_forward    a part takes some of the block
--   part_on         the line goes on behind the part
--   part_answered   the part ends a line, and its answer was written behind the others
--   turn_on, turn_answered, turn_put   the same of a line whose beginning is held; the answer was
--                   written into what is left of the buffer, or behind the others
use mathlib.Core.Path.{◌≡◌, refl, sym, ap, ap₂, ◌∙◌}
use mathlib.Core.Bool.{Bool, true, false, not}
use mathlib.Core.List.{List}
use Prim.Native.Nat.{ℕ, ◌+◌, ◌-◌, ◌≤◌, ◌<◌}
use native.Mathlib.Omega.{arith}
use borrow.Rule.Slice.PartMut.{mid_of, put_mid}
use lib.ListN.{length, drop, length-drop}
use Rattle.base.proofs.Tests.{not_both}
use Rattle.text.specs.Writing.{Wrote}
use Rattle.text.proofs.Pieces.{wrote_none}
use Rattle.longlines.specs.declared.Held.{Held}
use Rattle.longlines.specs.Holding.{line_begin}
use Rattle.linetexts.specs.declared.Taken.{Taken}
use Rattle.linetexts.specs.Parts.{Part, ends, goes_on, part_at, part_bytes, part_ends, part_size, TookPart}
use Rattle.linetexts.specs.Feeding.{LineMachine, State, keeping, go_on, quiet, answered_by, answer_kept, feed_part}
use Rattle.linetexts.specs.Beginnings.{Beginning, beginning, Teller, state_of, by_beginning, held_step}
use Rattle.linetexts.proofs.Parts.{first_part}
use Rattle.linetexts.proofs.Gathering.{SoFar, gone_on, put_within, placed, placed_size}

pub part_forward : (block : List ℕ) (at next : ℕ) → at < length block → next ≡ at + part_size (part_at block at) → at < next
part_forward block at next here is =
    omega (arith, (first_part (drop at block) (omega (arith, length-drop at block))).forward, is)

pub turn_forward : (block : List ℕ) (at : ℕ) → at < length block → (held : Held) (line : List ℕ) (r : Taken) (after : List ℕ)
    → TookPart held line at (part_at block at) r after → at < r.at
turn_forward block at here held line r after took = part_forward block at r.at here took.next

-- what a test on `!ends` shows
pub not_ended : (b : Bool) → not b ≡ true → b ≡ false
not_ended true e = sym e
not_ended false e = refl

pub has_ended : (b : Bool) → not b ≡ false → b ≡ true
has_ended true e = refl
has_ended false e = sym e

module _ {K J : Type 0} (m : LineMachine K J) where
  feed_on : (s : State K J) (p : Part) → part_ends p ≡ false → feed_part m s p ≡ quiet (go_on m s (part_bytes p))
  feed_on s (ends p) e = not_both refl e
  feed_on s (goes_on p) e = refl

  feed_ended : (s : State K J) (p : Part) → part_ends p ≡ true → feed_part m s p ≡ answer_kept m (go_on m s (part_bytes p))
  feed_ended s (ends p) e = refl
  feed_ended s (goes_on p) e = not_both e refl

  -- a part was taken at `at`, where there is room for an answer: with it k' is kept
  module _ (block : List ℕ) (from : ℕ) (s₀ : State K J) (out₀ : List ℕ) (at : ℕ) (j : J) (k : K) (out : List ℕ) (used : ℕ)
      (here : at < length block) (so : SoFar m block from s₀ out₀ at (keeping j k) out used) (enough : m.most ≤ length out - used)
      (k' : K) (kept : k' ≡ m.more k (part_bytes (part_at block at))) (next : ℕ) (is : next ≡ at + part_size (part_at block at)) where
    pub part_on : part_ends (part_at block at) ≡ false → SoFar m block from s₀ out₀ next (keeping j k') out used
    part_on e =
        gone_on m block from s₀ out₀ at (keeping j k) out used so here enough (quiet (keeping j k'))
        (feed_on (keeping j k) (part_at block at) e ∙ ap (λ (x : K). quiet (keeping j x)) (sym kept))
        next is out used (wrote_none out used) refl so.within

    -- the line ends; it came to the text t and the state j', and its answer was written
    pub part_answered : part_ends (part_at block at) ≡ true → (begun : K) → begun ≡ m.begin k'
        → (j' : J) (t : List ℕ) → m.kept j k' ≡ record { text = t; state = j' }
        → (after : List ℕ) (end : ℕ) → Wrote out used t after end → length after ≡ length out
        → SoFar m block from s₀ out₀ next (keeping j' begun) after end
    unfolding answer_kept
    part_answered e begun begins j' t came after end wrote size =
        gone_on m block from s₀ out₀ at (keeping j k) out used so here enough (record { state = keeping j' begun; text = t })
        (feed_ended (keeping j k) (part_at block at) e
        ∙ ap (λ (x : K). answer_kept m (keeping j x)) (sym kept)
        ∙ ap (answered_by m (keeping j k')) came
        ∙ ap (λ (x : K). record { state = keeping j' x; text = t }) (sym begins))
        next is after end wrote size (put_within out t after used end so.within wrote size)

-- ---- a line whose beginning is held
module _ {J : Type 0} (m : Teller J) where
  module _ (block : List ℕ) (from : ℕ) (s₀ : State Beginning J) (out₀ : List ℕ) (at : ℕ) (j : J) (held : Held) (line out : List ℕ) (used : ℕ)
      (here : at < length block) (r : Taken) (after : List ℕ) (took : TookPart held line at (part_at block at) r after)
      (so : SoFar (by_beginning m) block from s₀ out₀ at (state_of j held line) out used) (enough : m.most ≤ length out - used) where
    kept-is : beginning r.held after ≡ (by_beginning m).more (beginning held line) (part_bytes (part_at block at))
    kept-is = ap₂ beginning took.held_is took.line-is

    pub turn_on : not r.ends ≡ true → SoFar (by_beginning m) block from s₀ out₀ r.at (state_of j r.held after) out used
    turn_on e =
        part_on (by_beginning m) block from s₀ out₀ at j (beginning held line) out used here so enough (beginning r.held after) kept-is r.at took.next
        (sym took.ends ∙ not_ended r.ends e)

    module _ (e : not r.ends ≡ false) (none : Held) (begins : none ≡ line_begin) (j' : J) (t : List ℕ)
        (is : held_step (by_beginning m) j after r.held ≡ record { text = t; state = j' }) where
      pub turn_put : (out' : List ℕ) (end : ℕ) → Wrote out used t out' end → length out' ≡ length out
          → SoFar (by_beginning m) block from s₀ out₀ r.at (state_of j' none after) out' end
      turn_put =
          part_answered (by_beginning m) block from s₀ out₀ at j (beginning held line) out used here so enough (beginning r.held after) kept-is r.at took.next
          (sym took.ends ∙ has_ended r.ends e) (beginning none after) (ap (λ (h : Held). beginning h after) begins) j' t is

    pub turn_answered : not r.ends ≡ false
        → (last : List ℕ) (n : ℕ) → length last ≡ length (mid_of used (length out - used) out)
        → (none : Held) → none ≡ line_begin
        → (j' : J) (t : List ℕ) → held_step (by_beginning m) j after r.held ≡ record { text = t; state = j' }
        → Wrote (mid_of used (length out - used) out) 0 t last n
        → SoFar (by_beginning m) block from s₀ out₀ r.at (state_of j' none after) (put_mid used (length out - used) out last) (used + n)
    turn_answered e last n kept none begins j' t is wrote =
        turn_put e none begins j' t is (put_mid used (length out - used) out last) (used + n)
        (placed out last t used n so.within kept wrote)
        (placed_size out last t used n so.within kept wrote)
