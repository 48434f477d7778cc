-- The digest of rule A: antt computes it, once its sets and its delegates are put in. Assumes
-- nothing.
use mathlib.Core.Path.{◌≡◌, refl, ap, ◌∙◌}
use mathlib.Core.List.{List, [], ◌∷◌, ◌++◌}
use Prim.Native.Nat.{ℕ, ◌*◌, ◌/◌, ◌%◌, ◌≤◌, min}
use native.Mathlib.Omega.{arith}
use lib.ListN.{length, get_or}
use Rattle.base.specs.Lists.{list_from}
use Rattle.masks.specs.Masks.{union}
use Rattle.automaton.specs.declared.Rule.{Rule}
use Rattle.ruleformat.specs.Reader.{targets_up_to, rule_of}
use Rattle.ruleformat.specs.Worked.{file_A}
use Rattle.numbering.specs.Numbering.{index_of, numbered, expand_from, close_from, keys_up_to, next_of}
use Rattle.subsets.specs.Sets.{set_walk, sets_of, next_set}
use Rattle.subsets.specs.mirror.Singles.{singleton_number}
use Rattle.delegates.specs.Claims.{starts_in}
use Rattle.delegates.specs.declared.Starts.{Starts}
use Rattle.build.specs.mirror.Building.{built_of}
use Rattle.digests.specs.Digests.{stirred, half_step, digest_step, digest_from, first_cells, digest_of}
use Rattle.digests.proofs.Laws.{first_of}
use Rattle.histories.proofs.TwoRules.{listed, starts_A}
use Rattle.summaryverdict.specs.Worked.{DigestA}

-- the numbers of a rule that is built, with its sets and its delegates put in
abbrev numbers_by : Rule → List ℕ → List ℕ → List ℕ
numbers_by r sets d =
    min r.n 32 ∷
    min r.k 16 ∷
    r.initials ∷
    r.finals ∷
    (first_cells d 32
    ++ (list_from 0 32 (singleton_number (list_from 0 512 (λ i. get_or sets i 0)) (length sets))
    ++ (length sets ∷
    (list_from 0 (length sets) (λ i. get_or sets i 0)
    ++ list_from 0 (length sets * 16) (λ c. next_of (set_walk r.targets r.k) sets (c / 16) (c % 16))))))

module _ (r : Rule) (sets d : List ℕ) (are : sets_of r.targets r.n r.k ≡ sets) (is : (starts_in r).delegates ≡ d) (few : length sets ≤ 512) where
  digest_by : digest_of (built_of r) ≡ digest_from 0 (numbers_by r sets d)
  unfolding digest_of next_set
  digest_by =
      let count : min (length sets) 512 ≡ length sets = omega arith in
      rw (
        are,
        is,
        count,
        first_of (singleton_number (list_from 0 512 (λ i. get_or sets i 0)) (length sets)) 32 32 (omega arith),
        first_of (λ i. get_or sets i 0) 512 (length sets) few,
        first_of (λ c. next_of (set_walk r.targets r.k) sets (c / 16) (c % 16)) 8192 (length sets * 16) (omega arith),
      )

sets_A : sets_of (rule_of file_A).targets (rule_of file_A).n (rule_of file_A).k ≡ 1 ∷ 3 ∷ 5 ∷ 2 ∷ 4 ∷ []
unfolding union list_from targets_up_to index_of numbered expand_from close_from keys_up_to sets_of
sets_A = refl

computed : digest_from 0 (numbers_by (rule_of file_A) (1 ∷ 3 ∷ 5 ∷ 2 ∷ 4 ∷ []) (listed 0 1 2)) ≡ 9118098542896959263
unfolding union list_from targets_up_to index_of singleton_number stirred half_step digest_step digest_from
computed = refl

pub digest_A : DigestA
digest_A =
    digest_by (rule_of file_A) (1 ∷ 3 ∷ 5 ∷ 2 ∷ 4 ∷ []) (listed 0 1 2) sets_A (ap (λ (s : Starts). s.delegates) starts_A) (omega arith) ∙ computed
