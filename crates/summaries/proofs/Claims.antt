-- The one proof of all that specs/Claims.antt claims. Assumes nothing.
use mathlib.Core.Path.{◌≡◌, refl, sym, ap, ◌∙◌}
use mathlib.Core.List.{List, [], ◌∷◌}
use mathlib.Core.Option.{none}
use Prim.Native.Nat.{ℕ, zero, suc, ◌<◌}
use native.Mathlib.Omega.{arith}
use lib.ListN.{length, get_or}
use Rattle.compositions.specs.Bracketing.{Bracketed, leaves, value_of}
use Rattle.compositions.proofs.Claims as compositions
use Rattle.digests.specs.Digests.{digest_of}
use Rattle.calls.specs.declared.Judge.{Judge}
use Rattle.calls.specs.Replies.{refusal_in}
use Rattle.summaries.specs.declared.Summary.{Summary}
use Rattle.summaries.specs.Summaries.{combine, no_summary, conclude_of}
use Rattle.summaries.specs.Claims.{Joined, Claims}
use Rattle.summaries.proofs.Combining as combining
use Rattle.summaries.proofs.Answers as answers

-- those that join are of one rule
rules_same : (s : List Summary) (a : Summary) → Joined a s → (i : ℕ) → i < length (a ∷ s) → (get_or (a ∷ s) i no_summary).rule ≡ a.rule
rules_same s a j zero l = refl
rules_same [] a j (suc i) l = absurd (omega arith)
rules_same (b ∷ s) a j (suc i) l = rules_same s b j.3 i (omega arith) ∙ sym j.2

one_rule : (j : Judge) (t : Bracketed Summary) (chunks : ℕ) → refusal_in (conclude_of j (value_of combine t) chunks).verdict ≡ none
    → (i : ℕ) → i < length (leaves t) → (get_or (leaves t) i no_summary).rule ≡ digest_of j.built
one_rule j t chunks ok i l =
    let f = (compositions.claims).folds combine combining.associative t in
    let x = (answers.concluded j (value_of combine t) chunks).taken.0 ok in
    let joined = (combining.whole t f.first f.others f.are).0 x.1 in
    ap (λ (s : List Summary). (get_or s i no_summary).rule) f.are
    ∙ rules_same f.others f.first joined i (omega (arith, ap length f.are))
    ∙ sym (combining.span t f.first f.others f.are).2
    ∙ x.3

pub claims : Claims
claims = record {
  members = λ a b. (compositions.claims).members 32 a.leads b.leads;
  associative = combining.associative;
  bracketing = (compositions.claims).bracketing combine combining.associative;
  bracketed = (compositions.claims).bracketed;
  whole = combining.whole;
  span = combining.span;
  counts = combining.counts;
  bytes = combining.bytes;
  one_rule = one_rule;
  summarized = answers.summarized;
  concluded = answers.concluded;
}
