-- Combining is associative on all values, and what summaries in brackets come to. Assumes nothing.
use mathlib.Core.Path.{◌≡◌, refl, sym, ap, ap₂, ◌∙◌}
use mathlib.Core.Logic.{◌↔◌}
use mathlib.Core.Bool.{Bool, true, false, cond, ◌&&◌}
use mathlib.Core.List.{List, [], ◌∷◌, ◌++◌}
use Prim.Native.Nat.{ℕ, ◌+◌}
use native.Mathlib.Omega.{arith}
use lib.Dec.{eqb}
use borrow.Author.Tests.{eq-eqb, eqb-true}
use Rattle.base.proofs.Tests.{by_test, zero_one, same_truth}
use Rattle.compositions.specs.Bracketing.{Bracketed, leaf, both, leaves, value_of, fold_from}
use Rattle.compositions.proofs.Claims as compositions
use Rattle.summaries.specs.declared.Summary.{Summary}
use Rattle.summaries.specs.Summaries.{capped, follows, combine}
use Rattle.summaries.specs.Claims.{counts_in, bytes_in, end_in, Joined}
use Rattle.summaries.proofs.Ways.{same_summary}

-- ---- sums that are cut off
capped_sum : (x y : ℕ) → capped (x + y) ≡ capped (capped x + capped y)
capped_sum x y = omega arith

pub twice : (x : ℕ) → capped (capped x) ≡ capped x
twice x = omega arith

capped_both : (x y u v : ℕ) → capped x ≡ capped u → capped y ≡ capped v → capped (capped (x + y)) ≡ capped (u + v)
capped_both x y u v e f =
    twice (x + y) ∙ capped_sum x y ∙ ap₂ (λ (a b : ℕ). capped (a + b)) e f ∙ sym (capped_sum u v)

-- ---- what joins
-- b may stand behind a: what that says
pub record Joins (a b : Summary) : Type 0 where
  pub earlier : a.broken ≡ 0
  pub later : b.broken ≡ 0
  pub meet : a.end ≡ b.first
  pub rules : a.rule ≡ b.rule

follows_law : (a b : Summary) → (follows a b ≡ true) ↔ Joins a b
follows_law a b = (
  (λ e. from (eqb a.broken 0) (eqb b.broken 0) (eqb a.end b.first) (eqb a.rule b.rule) refl refl refl refl e),
  λ j. rw (eq-eqb a.broken 0 j.earlier, eq-eqb b.broken 0 j.later, eq-eqb a.end b.first j.meet, eq-eqb a.rule b.rule j.rules),
)
  where
    from : (x y z u : Bool) → eqb a.broken 0 ≡ x → eqb b.broken 0 ≡ y → eqb a.end b.first ≡ z → eqb a.rule b.rule ≡ u
        → (x && (y && (z && u))) ≡ true → Joins a b
    from true true true true e f g h i = record {
      earlier = eqb-true a.broken 0 e;
      later = eqb-true b.broken 0 f;
      meet = eqb-true a.end b.first g;
      rules = eqb-true a.rule b.rule h;
    }
    from false y z u e f g h i = zero_one cc
    from true false z u e f g h i = zero_one cc
    from true true false u e f g h i = zero_one cc
    from true true true false e f g h i = zero_one cc

pub joins_law : (a b : Summary) → ((combine a b).broken ≡ 0) ↔ Joins a b
joins_law a b = (
  (λ e. by_test (follows a b) (λ t. (follows_law a b).0 t) (λ f. let z : ◌≡◌ {A = ℕ} 1 0 = rw f at e in absurd (omega arith))),
  λ j. rw ((follows_law a b).1 j),
)

module _ (a b c : Summary) where
  joins_right : Joins (combine a b) c → Joins a (combine b c)
  joins_right j =
      let k = (joins_law a b).0 j.earlier in
      record {
        earlier = k.earlier;
        later = (joins_law b c).1 (record { earlier = k.later; later = j.later; meet = j.meet; rules = sym k.rules ∙ j.rules });
        meet = k.meet;
        rules = k.rules;
      }

  joins_left : Joins a (combine b c) → Joins (combine a b) c
  joins_left j =
      let k = (joins_law b c).0 j.later in
      record {
        earlier = (joins_law a b).1 (record { earlier = j.earlier; later = k.earlier; meet = j.meet; rules = j.rules });
        later = k.later;
        meet = k.meet;
        rules = j.rules ∙ k.rules;
      }

  broken_same : follows (combine a b) c ≡ follows a (combine b c)
  broken_same =
      let left = follows_law (combine a b) c in
      let right = follows_law a (combine b c) in
      same_truth (follows (combine a b) c) (follows a (combine b c))
      ((λ e. right.1 (joins_right (left.0 e))), λ e. left.1 (joins_left (right.0 e)))

  pub associative : combine (combine a b) c ≡ combine a (combine b c)
  associative =
      same_summary
      ((compositions.claims).associative 32 a.leads b.leads c.leads)
      (omega arith)
      (omega arith)
      refl
      refl
      refl
      (ap (λ (t : Bool). cond {A = ℕ} t 0 1) broken_same)

-- ---- a summary and those behind it
fold_first : (a : Summary) (s : List Summary) → ((fold_from combine a s).first ≡ a.first) × ((fold_from combine a s).rule ≡ a.rule)
unfolding fold_from
fold_first a [] = (refl, refl)
fold_first a (b ∷ s) = (refl, refl)

fold_end : (a : Summary) (s : List Summary) → (fold_from combine a s).end ≡ end_in a s
unfolding fold_from end_in
fold_end a [] = refl
fold_end a (b ∷ s) = fold_end b s

fold_whole : (a : Summary) (s : List Summary) → ((fold_from combine a s).broken ≡ 0) ↔ Joined a s
unfolding fold_from
fold_whole a [] = ((λ e. e), λ e. e)
fold_whole a (b ∷ s) =
    let law = joins_law a (fold_from combine b s) in
    let head = fold_first b s in
    let rest = fold_whole b s in (
      (λ e. let j = law.0 e in (j.earlier, j.meet ∙ head.0, j.rules ∙ head.1, rest.0 j.later)),
      λ x. law.1 (record { earlier = x.0; later = rest.1 x.3; meet = x.1 ∙ sym head.0; rules = x.2 ∙ sym head.1 }),
    )

-- ---- in brackets
module _ (t : Bracketed Summary) (a : Summary) (s : List Summary) (are : leaves t ≡ a ∷ s) where
  pub value-is : value_of combine t ≡ fold_from combine a s
  value-is =
      let f = (compositions.claims).folds combine associative t in
      let e : f.first ∷ f.others ≡ a ∷ s = sym f.are ∙ are in
      let x : f.first ≡ a = cc in
      let y : f.others ≡ s = cc in
      f.value ∙ ap₂ (fold_from combine) x y

  pub whole : ((value_of combine t).broken ≡ 0) ↔ Joined a s
  whole = rw value-is (fold_whole a s)

  pub span : ((value_of combine t).first ≡ a.first) × ((value_of combine t).end ≡ end_in a s) × ((value_of combine t).rule ≡ a.rule)
  span = rw value-is ((fold_first a s).0, fold_end a s, (fold_first a s).1)

-- ---- sums
counts_append : (s t : List Summary) → counts_in (s ++ t) ≡ counts_in s + counts_in t
unfolding counts_in
counts_append [] t = omega arith
counts_append (a ∷ s) t = omega (arith, counts_append s t)

bytes_append : (s t : List Summary) → bytes_in (s ++ t) ≡ bytes_in s + bytes_in t
unfolding bytes_in
bytes_append [] t = omega arith
bytes_append (a ∷ s) t = omega (arith, bytes_append s t)

pub counts : (t : Bracketed Summary) → capped (value_of combine t).count ≡ capped (counts_in (leaves t))
unfolding value_of leaves counts_in
counts (leaf a) = let e : a.count ≡ a.count + 0 = omega arith in ap capped e
counts (both x y) =
    capped_both (value_of combine x).count (value_of combine y).count (counts_in (leaves x)) (counts_in (leaves y)) (counts x) (counts y)
    ∙ ap capped (sym (counts_append (leaves x) (leaves y)))

pub bytes : (t : Bracketed Summary) → capped (value_of combine t).bytes ≡ capped (bytes_in (leaves t))
unfolding value_of leaves bytes_in
bytes (leaf a) = let e : a.bytes ≡ a.bytes + 0 = omega arith in ap capped e
bytes (both x y) =
    capped_both (value_of combine x).bytes (value_of combine y).bytes (bytes_in (leaves x)) (bytes_in (leaves y)) (bytes x) (bytes y)
    ∙ ap capped (sym (bytes_append (leaves x) (leaves y)))
