-- One lemma over plain variables for each way out of `follow_lent`, `follow` and `prepare`, and what
-- preparing is worth. Assumes nothing.
--
--   no_more                symbols from 16 on lead nowhere
--   long, strange, whole   the chunk is refused with 12, with 13, or it is followed
--   unchecked, checked     the rule is refused by its check, or passes
--   prepared, by_any       what specs/Claims.antt says of a rule that is checked once
use Rattle.std.proofs.Common.{◌≡◌, ℕ, zero, suc, ◌+◌, ◌-◌, ◌<◌, ◌≤◌, min, Bool, true, false, leb, List, length, sym, refl, ap, ◌∙◌, arith, leb-false, leb-true}
use mathlib.Core.Option.{Option, none, some}
use Rattle.base.proofs.Options.{none-some}
use Rattle.base.proofs.Tests.{by_test}
use Rattle.masks.specs.Masks.{shares}
use Rattle.masks.proofs.Passing.{mask_skip}
use Rattle.marks.specs.Marks.{text_of}
use Rattle.automaton.specs.declared.Rule.{Rule}
use Rattle.automaton.specs.Successor.{successor}
use Rattle.automaton.proofs.Laws.{successor_foreign}
use Rattle.rulecheck.specs.Checking.{rule_number}
use Rattle.rulecheck.proofs.Claims as check
use Rattle.chunks.specs.Chunks.{foreign}
use Rattle.chunks.specs.Taking.{chunk_number}
use Rattle.chunks.proofs.Claims as chunks
use Rattle.follow.specs.declared.Follower.{Follower}
use Rattle.live.specs.Live.{live_of}
use Rattle.follow.specs.Following.{next_by, Walk, way_of, Outcome, refused_follow, walk_by, walk_of, taken_by, lent_of, follow_of, follower_of, no_follower, prepare_by, prepare_of, follow_by_of}
use Rattle.follow.specs.Claims.{PreparedSo}
use Rattle.follow.proofs.Numbers.{first-is, then_is}

-- ---- the symbols that can come next
module _ (ts : List ℕ) (live m : ℕ) where
  nowhere : (s : ℕ) → 16 ≤ s → shares (successor ts m s) live ≡ false
  nowhere s h = rw (successor_foreign ts m s h)

  on_and_on : (j : ℕ) → next_by ts live 16 m ≡ next_by ts live (16 + j) m
  on_and_on zero = refl
  on_and_on (suc j) =
      let z : 16 + j + 1 ≡ 16 + suc j = omega arith in
      mask_skip (λ s. shares (successor ts m s) live) (16 + j) (next_by ts live 16 m) (on_and_on j) (nowhere (16 + j) (omega arith))
      ∙ ap (λ (x : ℕ). next_by ts live x m) z

  pub no_more : (k : ℕ) → next_by ts live (min k 16) m ≡ next_by ts live k m
  no_more k =
      by_test (leb k 16)
      (λ t. let e : min k 16 ≡ k = omega (arith, leb-true k 16 t) in ap (λ (x : ℕ). next_by ts live x m) e)
      (λ f.
      let e : min k 16 ≡ 16 = omega (arith, leb-false k 16 f) in
      let z : 16 + (k - 16) ≡ k = omega (arith, leb-false k 16 f) in
      ap (λ (x : ℕ). next_by ts live x m) e ∙ on_and_on (k - 16) ∙ ap (λ (x : ℕ). next_by ts live x m) z)

-- ---- by the parts of a rule
module _ (ts : List ℕ) (finals live k m : ℕ) (w : List ℕ) where
  by_chunk : (n : Option ℕ) → chunk_number k w ≡ n → taken_by n (walk_by ts finals live k m w) ≡ lent_of ts finals live k m w
  by_chunk n e = sym (ap (λ (x : Option ℕ). taken_by x (walk_by ts finals live k m w)) e)

  pub long : 65536 < length w → refused_follow 12 ≡ lent_of ts finals live k m w
  long h = by_chunk (some 12) (((chunks.claims).taking k w).number_12.1 h)

  pub strange : length w ≤ 65536 → foreign (text_of w) k ≡ true → refused_follow 13 ≡ lent_of ts finals live k m w
  strange h f = by_chunk (some 13) (((chunks.claims).taking k w).number_13.1 (h, f))

  pub whole : length w ≤ 65536 → foreign (text_of w) k ≡ false → (y : Walk) → y ≡ way_of ts live m w
      → (ends complete : Bool) (expected : ℕ) → expected ≡ next_by ts live k y.before → ends ≡ shares y.set finals → complete ≡ shares y.before finals
      → record { refusal = none; set = y.set; ends = ends; lost = y.lost; expected = expected; complete = complete } ≡ lent_of ts finals live k m w
  whole h f y is ends complete expected is-expected is-ends is-complete =
      rw (is-expected, is-ends, is-complete)
      (ap
      (λ (x : Walk). record {
        refusal = none;
        set = x.set;
        ends = shares x.set finals;
        lost = x.lost;
        expected = next_by ts live k x.before;
        complete = shares x.before finals;
      })
      is)
      ∙ by_chunk none (((chunks.claims).taking k w).taken.1 (h, f))

-- ---- by a rule
module _ (r : Rule) (m : ℕ) (w : List ℕ) where
  pub unchecked : (x : ℕ) → rule_number r ≡ some x → refused_follow x ≡ follow_of r m w
  unfolding follow_of
  unchecked x e = sym (ap (λ (n : Option ℕ). taken_by n (walk_of r m w)) (first-is r w x e))

  pub checked : rule_number r ≡ none → (live : ℕ) → live ≡ live_of r → lent_of r.targets r.finals live r.k m w ≡ follow_of r m w
  unfolding follow_of
  checked e live is =
      ap (λ (x : ℕ). lent_of r.targets r.finals x r.k m w) is ∙ sym (ap (λ (n : Option ℕ). taken_by n (walk_of r m w)) (then_is r w e))

-- ---- a rule that is checked once
pub told : (r : Rule) (n : Option ℕ) → rule_number r ≡ n → prepare_by n r ≡ prepare_of r
told r n e = sym (ap (λ (x : Option ℕ). prepare_by x r) e)

by_refusal : (n : Option ℕ) (r : Rule) → (prepare_by n r).refusal ≡ n
by_refusal none r = refl
by_refusal (some x) r = refl

by_zeros : (n : Option ℕ) (r : Rule) (x : ℕ) → (prepare_by n r).refusal ≡ some x → (prepare_by n r).follower ≡ no_follower
by_zeros none r x e = none-some refl e
by_zeros (some y) r x e = refl

by_follower : (n : Option ℕ) (r : Rule) → (prepare_by n r).refusal ≡ none → (prepare_by n r).follower ≡ follower_of r
by_follower none r e = refl
by_follower (some y) r e = none-some e refl

pub follower_is : (r : Rule) → (prepare_of r).refusal ≡ none → (prepare_of r).follower ≡ follower_of r
follower_is r = by_follower (rule_number r) r

pub prepared : (r : Rule) → PreparedSo r
unfolding follow_by_of
prepared r =
    let is : (prepare_of r).refusal ≡ rule_number r = by_refusal (rule_number r) r in
    record {
      refused = λ x. ((λ e. sym is ∙ e), λ e. is ∙ e);
      zeros = by_zeros (rule_number r) r;
      accepted = ((λ e. ((check.claims).passes r).0 (sym is ∙ e)), λ good. is ∙ ((check.claims).passes r).1 good);
      carries = λ e. ap (λ (f : Follower). f.rule) (follower_is r e);
      same = λ e m w.
          ap (λ (f : Follower). lent_of f.rule.targets f.rule.finals f.live f.rule.k m w) (follower_is r e)
          ∙ checked r m w (sym is ∙ e) (live_of r) refl;
    }

taken_refusal : (n : Option ℕ) (o : Outcome) → o.refusal ≡ none → (taken_by n o).refusal ≡ n
taken_refusal none o e = e
taken_refusal (some x) o e = refl

pub by_any : (f : Follower) (m : ℕ) (w : List ℕ) → (follow_by_of f m w).refusal ≡ chunk_number f.rule.k w
unfolding follow_by_of
by_any f m w =
    taken_refusal (chunk_number f.rule.k w) (walk_by f.rule.targets f.rule.finals f.live f.rule.k m w) refl
