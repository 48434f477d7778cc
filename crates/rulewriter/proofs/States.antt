-- The loop that writes a section and then its pair. Read in the order of the places it is: all
-- pairs so far, and then all sections so far, since a pair is written apart from the sections.
-- Assumes at most 32 states and 16 symbols.
--
--   States     the pairs and the sections of the first q states are written
--   begin      of none of them
--   room       the next section has its room
--   place      its place and its size fit into two bytes each
--   pair_room  its pair has its room
--   more       one state more
--   all        all of them
use mathlib.Core.Path.{◌≡◌, refl, ap₂, ◌∙◌}
use mathlib.Core.List.{List, ◌++◌}
use Prim.Native.Nat.{ℕ, ◌+◌, ◌*◌, ◌-◌, ◌≤◌, ◌<◌}
use native.Mathlib.Omega.{arith}
use lib.ListN.{length, length-append}
use Rattle.base.specs.Lists.{joined}
use Rattle.base.proofs.Lists.{joined_length, length_exact}
use Rattle.automaton.specs.Rules.{target_mask}
use Rattle.text.specs.Writing.{written, Wrote}
use Rattle.text.proofs.Fitting.{put}
use Rattle.ruleformat.specs.Writing.{half, offset_in, pairs}
use Rattle.ruleformat.proofs.Sections.{section_size}
use Rattle.rulewriter.specs.Written.{sections_of, states_part}
use Rattle.rulewriter.proofs.Parts as parts
use Rattle.rulewriter.proofs.Parts.{Parts, both}
use Rattle.rulewriter.proofs.Apart.{apart}

module _ (n k : ℕ) (ts : List ℕ) where
  abbrev pair_of : ℕ → List ℕ
  pair_of q = half (offset_in n (sections_of n k ts) q) ++ half (length (sections_of n k ts q))

  pub record States (before after : List ℕ) (at q : ℕ) : Type 0 where
    pub mid : List ℕ
    pub front : Parts pair_of n before 10 mid (10 + 4 * q) q
    pub back : Parts (sections_of n k ts) n mid (10 + 4 * n) after at q

  pairs_size : length (pairs n (sections_of n k ts)) ≡ n * 4
  pairs_size = length_exact pair_of n 4 (λ i l. refl)

  whole_size : length (states_part n k ts) ≡ 4 * n + length (joined (sections_of n k ts) n)
  whole_size =
      omega (arith, pairs_size, length-append (pairs n (sections_of n k ts)) (joined (sections_of n k ts) n))

  pub begin : {before : List ℕ} → 10 + length (states_part n k ts) ≤ length before
      → States before before (10 + 4 * n) 0
  begin {before} room = record {
    mid = before;
    front = parts.begin pair_of n (omega (arith, whole_size, pairs_size));
    back = parts.begin (sections_of n k ts) n (omega (arith, whole_size));
  }

  module _ {before out : List ℕ} {at q : ℕ} (w : States before out at q) where
    pub all : n ≤ q → 10 + length (states_part n k ts) ≤ length before → Wrote before 10 (states_part n k ts) out at
    all end room =
        let front = parts.all w.front end in
        let e : q ≡ n = omega (arith, w.front.low) in
        let here : Wrote before 10 (pairs n (sections_of n k ts)) w.mid (10 + 4 * n) = rw e at front in
        both (omega (arith, length-append (pairs n (sections_of n k ts)) (joined (sections_of n k ts) n))) here (λ _. parts.all w.back end)

    at-is : at ≡ offset_in n (sections_of n k ts) q
    at-is = w.back.put.wrote.ends

    module _ (next : q < n) where
      pub room : at + length (sections_of n k ts q) ≤ length out
      room = parts.fits w.back next

      module _ (hn : n ≤ 32) (hk : k ≤ 16) where
        size : (i : ℕ) → length (sections_of n k ts i) ≤ 1024
        size i = section_size n k (omega arith) (target_mask ts i) hn hk

        module _ {section : List ℕ} {end : ℕ} (v : Wrote out at (sections_of n k ts q) section end) where
          pub place : (at < 65536) × (end - at < 65536)
          place =
              let t = joined_length (sections_of n k ts) q 1024 (λ i l. size i) in
              (omega (arith, at-is, w.front.low), omega (arith, v.ends, size q))

          pub pair_room : 10 + 4 * q + 4 ≤ length section
          pair_room =
              let u = put room v in
              omega (arith, parts.fits w.front next, u.kept, w.back.put.kept, w.back.put.fits)

          pub more : {after : List ℕ} {r : ℕ} → Wrote section (10 + 4 * q) (half at ++ half (end - at)) after r
              → States before after end (q + 1)
          more {after} p =
              let s : end - at ≡ length (sections_of n k ts q) = omega (arith, v.ends) in
              let e : half at ++ half (end - at) ≡ pair_of q = ap₂ (λ (x y : ℕ). half x ++ half y) at-is s in
              let mid = written w.mid (10 + 4 * q) (pair_of q) in
              let front : Wrote w.mid (10 + 4 * q) (pair_of q) mid (10 + 4 * (q + 1)) = record { is = refl; ends = omega arith } in
              let kept = put (parts.fits w.front next) front in
              let b = parts.more w.back next v in
              let is : after ≡ written mid (10 + 4 * n) (joined (sections_of n k ts) (q + 1)) =
              p.is ∙ ap₂ (λ (x y : List ℕ). written x (10 + 4 * q) y) b.put.wrote.is e
              ∙ apart w.mid (pair_of q) (joined (sections_of n k ts) (q + 1)) (10 + 4 * q) (10 + 4 * n) (omega (arith, w.back.put.fits)) (omega arith) in
              record {
                mid = mid;
                front = parts.more w.front next front;
                back = record {
                  low = b.low;
                  room = omega (arith, b.room, kept.kept);
                  put = put (omega (arith, b.put.fits, kept.kept)) (record { is = is; ends = b.put.wrote.ends });
                };
              }
