-- Text written into a lent buffer.
--
--   written before at piece          the buffer `before` with the piece in it from `at` on: what
--                                    lies before and past it stays
--   Wrote before at piece after end  that is what the buffer holds after, and `end` is where the
--                                    piece ends
use Rattle.std.specs.Prelude.{◌≡◌, List, ◌++◌, ℕ, ◌+◌, length, take, drop}

abbrev pub written : List ℕ → ℕ → List ℕ → List ℕ
written before at piece = take at before ++ (piece ++ drop (at + length piece) before)

pub record Wrote (before : List ℕ) (at : ℕ) (piece after : List ℕ) (end : ℕ) : Type 0 where
  pub is : after ≡ written before at piece
  pub ends : end ≡ at + length piece
