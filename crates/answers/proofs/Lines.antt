-- A line of a word and numbers, written number by number. Assumes nothing.
--
--   SoFar              behind the word the first i numbers are written; the rest fits
--   begun, one_more    none; a space and a number
--   word_room, byte_room, room_for   there is room for the word, for a byte more, and for the number
--                      behind a space
--   ended              the line feed, and so the line
use mathlib.Core.Path.{◌≡◌, refl, sym, ap, ◌∙◌, subst}
use mathlib.Core.List.{List, [], ◌∷◌, ◌++◌, append_assoc}
use Prim.Native.Nat.{ℕ, ◌+◌, ◌≤◌, ◌<◌}
use native.Mathlib.Numerals.{add-one}
use native.Mathlib.Omega.{arith}
use lib.ListN.{length, get_or, drop, drop_of_length-le, length-append}
use lib.Seq.{drop-cons}
use Rattle.text.specs.Numerals.{decimal}
use Rattle.text.specs.Writing.{Wrote}
use Rattle.text.proofs.Pieces.{wrote_none}
use Rattle.text.proofs.Fitting.{Put, put, ◌then◌}
use Rattle.answers.specs.Answers.{behind, line_of}

ends_so : (ns : List ℕ) → 1 ≤ length (behind ns)
ends_so [] = omega arith
ends_so (n ∷ ns) = omega arith

pub word_room : (at : ℕ) (word ns : List ℕ) {room : ℕ} → at + length (line_of word ns) ≤ room → at + length word ≤ room
word_room at word ns h = omega (arith, length-append word (behind ns))

module _ (out₀ : List ℕ) (at : ℕ) (ns : List ℕ) where
  pub record SoFar (i : ℕ) (out : List ℕ) (end : ℕ) : Type 0 where
    pub said : List ℕ
    pub done : Put out₀ at said out end
    pub rest : behind ns ≡ said ++ behind (drop i ns)
    pub room : end + length (behind (drop i ns)) ≤ length out

  pub byte_room : {i end : ℕ} {out : List ℕ} → SoFar i out end → end < length out
  byte_room {i} so = omega (arith, so.room, ends_so (drop i ns))

  -- behind the word
  module _ {word before : List ℕ} {from : ℕ} (v : Wrote before from word out₀ at) (fits : from + length (line_of word ns) ≤ length before) where
    word_put : Put before from word out₀ at
    word_put = put (word_room from word ns fits) v

    pub begun : SoFar 0 out₀ at
    begun =
        let room : at + length (behind ns) ≤ length out₀ = omega (arith, length-append word (behind ns), v.ends, word_put.kept) in
        record { said = []; done = put (omega arith) (wrote_none out₀ at); rest = refl; room = room }

    pub ended : {i end f : ℕ} {out after : List ℕ} → SoFar i out end → length ns ≤ i
        → Wrote out end (10 ∷ []) after f → Wrote before from (line_of word ns) after f
    ended {i} {f = f} {after = after} so over w =
        let none : drop i ns ≡ [] = drop_of_length-le ns over in
        subst (λ (t : List ℕ). Wrote before from (word ++ t) after f)
        (sym (so.rest ∙ ap (λ (l : List ℕ). so.said ++ behind l) none))
        (word_put then (so.done then put (omega (arith, byte_room so)) w)).wrote

  module _ {i : ℕ} {out : List ℕ} {end : ℕ} (so : SoFar i out end) (here : i < length ns) {mid : List ℕ} {e : ℕ} (w : Wrote out end (32 ∷ []) mid e) where
    next : drop i ns ≡ get_or ns i 0 ∷ drop (i + 1) ns
    next = rw add-one (drop-cons ns i 0 here)

    left : end + (1 + (length (decimal (get_or ns i 0)) + length (behind (drop (i + 1) ns)))) ≤ length out
    left =
        let r : end + length (behind (get_or ns i 0 ∷ drop (i + 1) ns)) ≤ length out = rw next at so.room in
        omega (arith, length-append (decimal (get_or ns i 0)) (behind (drop (i + 1) ns)))

    space_put : Put out end (32 ∷ []) mid e
    space_put = put (omega (arith, left)) w

    pub room_for : e + length (decimal (get_or ns i 0)) ≤ length mid
    room_for = omega (arith, left, w.ends, space_put.kept)

    pub one_more : {after : List ℕ} {f : ℕ} → Wrote mid e (decimal (get_or ns i 0)) after f → SoFar (i + 1) after f
    one_more v =
        let x = put room_for v in
        record {
          said = so.said ++ ((32 ∷ []) ++ decimal (get_or ns i 0));
          done = so.done then (space_put then x);
          rest =
              so.rest
              ∙ ap (λ (l : List ℕ). so.said ++ behind l) next
              ∙ sym (append_assoc so.said (32 ∷ decimal (get_or ns i 0)) (behind (drop (i + 1) ns)));
          room = omega (arith, left, space_put.kept, x.kept, w.ends, v.ends);
        }
