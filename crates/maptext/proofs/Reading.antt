-- One lemma over plain variables for each way out of `read_mapping`. Assumes nothing.
use mathlib.Core.Path.{◌≡◌, refl, sym, ap, ◌∙◌}
use mathlib.Core.Bool.{Bool, true, false, cond}
use mathlib.Core.List.{List, append-nil}
use mathlib.Core.Option.{Option, none, some}
use Prim.Native.Nat.{ℕ}
use native.Mathlib.Omega.{arith}
use lib.ListN.{length, take, replicate}
use lib.Seq.{take_all}
use borrow.Author.Tests.{eq-eqb, ne_eqb}
use Rattle.base.proofs.Options.{none-some}
use Rattle.text.specs.Writing.{Wrote}
use Rattle.fields.specs.Bytes.{pairs, is_bytes, parse_bytes, TookOf, Took}
use Rattle.fields.proofs.Pairs.{pairs_length}
use Rattle.maptext.specs.MappingText.{parse_mapping}

pub not_sixteen : (w : List ℕ) → (length w ≡ 16 → ⊥) → none ≡ parse_mapping w
not_sixteen w ne = rw (ne_eqb (length w) 16 ne)

-- a field of sixteen digits says eight bytes
pub eight : (w bytes : List ℕ) → length w ≡ 16 → parse_bytes w ≡ some bytes → length bytes ≡ 8
unfolding parse_bytes
eight w bytes long e = go (is_bytes w) (rw (ne_eqb (length w) 1 (λ o. omega arith)) at e)
  where
    go : (b : Bool) → cond b (some (pairs w)) none ≡ some bytes → length bytes ≡ 8
    go true f = let is : pairs w ≡ bytes = cc in omega (arith, ap length is, pairs_length w)
    go false f = none-some refl f

filled : (bytes masks : List ℕ) (n : ℕ) → length bytes ≡ 8 → Wrote (replicate 8 0) 0 (take 8 bytes) masks n → masks ≡ bytes
filled bytes masks n long w =
    let all : take 8 bytes ≡ bytes = take_all 8 bytes (omega arith) in
    w.is ∙ rw (all, long) (append-nil bytes)

module _ (w masks : List ℕ) (long : length w ≡ 16) where
  -- what the field says is known
  by_said : (o : Option (List ℕ)) → parse_bytes w ≡ o → (said : Option ℕ) → TookOf o (replicate 8 0) said masks
      → (said ≡ none → none ≡ parse_mapping w) × ((n : ℕ) → said ≡ some n → some masks ≡ parse_mapping w)
  by_said none e said t = (
    (λ _. rw (eq-eqb (length w) 16 long) (sym e)),
    λ n f. none-some t.0 f,
  )
  by_said (some bytes) e said t = (
    (λ f. none-some f t.1),
    λ n f. rw (eq-eqb (length w) 16 long) (ap some masks_are ∙ sym e),
  )
    where
      masks_are : masks ≡ bytes
      masks_are = filled bytes masks t.0 (eight w bytes long e) t.2

  pub read_none : Took w (replicate 8 0) none masks → none ≡ parse_mapping w
  read_none t = (by_said (parse_bytes w) refl none t).0 refl

  pub read_some : (n : ℕ) → Took w (replicate 8 0) (some n) masks → some masks ≡ parse_mapping w
  read_some n t = (by_said (parse_bytes w) refl (some n) t).1 n refl
