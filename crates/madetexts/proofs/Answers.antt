-- The answers of making a text, each with its buffer. Assumes nothing.
--
--   too_few, too_many   4
--   no_seed             41
--   made                the text
use mathlib.Core.Path.{◌≡◌}
use mathlib.Core.List.{List}
use Prim.Native.Nat.{ℕ, ◌≤◌, ◌<◌}
use native.Mathlib.Omega.{arith}
use lib.ListN.{length}
use borrow.Author.Tests.{lt-ltb, le-ltb, eq-eqb, ne_eqb}
use Rattle.std.proofs.Common.{Ok, Err}
use Rattle.base.specs.declared.Refusal.TheVariants.{SymbolCount, NoSeed}
use Rattle.madetexts.specs.Values.{made_text}
use Rattle.madetexts.specs.Making.{Makes}

module _ (k seed : ℕ) (t : List ℕ) where
  pub too_few : k < 1 → Makes k seed t (Err SymbolCount) t
  too_few a = let d = lt-ltb k 1 a in record { answer = rw d; buffer = rw d }

  pub too_many : 1 ≤ k → 16 < k → Makes k seed t (Err SymbolCount) t
  too_many a b =
      let d = le-ltb k 1 a in
      let e = lt-ltb 16 k b in
      record { answer = rw (d, e); buffer = rw (d, e) }

  pub no_seed : 1 ≤ k → k ≤ 16 → seed ≡ 0 → Makes k seed t (Err NoSeed) t
  no_seed a b z =
      let d = le-ltb k 1 a in
      let e = le-ltb 16 k b in
      let f = eq-eqb seed 0 z in
      record { answer = rw (d, e, f); buffer = rw (d, e, f) }

  pub made : (r : List ℕ) → 1 ≤ k → k ≤ 16 → 0 < seed → r ≡ made_text k seed (length t) → Makes k seed t (Ok tt) r
  made r a b z g =
      let d = le-ltb k 1 a in
      let e = le-ltb 16 k b in
      let f = ne_eqb seed 0 (λ q. absurd (omega arith)) in
      record { answer = rw (d, e, f); buffer = rw (d, e, f) g }
