-- The words fix every number of the reduced rule: two well-formed rules that are renumbered from
-- the same one so, and of which every state is reachable, are equal. Assumes tables of 512 cells.
use mathlib.Core.Path.{◌≡◌, sym, subst}
use mathlib.Core.List.{List}
use Prim.Native.Nat.{ℕ, ◌≤◌, ◌<◌}
use native.Mathlib.Nat.{le_antisymm}
use lib.ListN.{length}
use Rattle.masks.specs.Masks.{◌∈◌}
use Rattle.masks.proofs.Laws.{members_below}
use Rattle.automaton.specs.declared.Rule.{Rule}
use Rattle.automaton.specs.Automaton.{Arc, Run, stay, move}
use Rattle.automaton.specs.Rules.{automaton_of, WellFormed}
use Rattle.automaton.proofs.Values.{Within, same_value}
use Rattle.reducing.specs.Claims.{Reachable, Stands, Renumbered}
use Rattle.reducing.proofs.Rising as rising
use Rattle.reducing.proofs.Rising.{Among}

-- ---- each state of the one is a state of the other
module _ (r m n : Rule) (good : WellFormed m) (x : Renumbered r m) (y : Renumbered r n) where
  abbrev There : ℕ → Type 0
  There p = (q : ℕ) × (q < n.n) × (y.old q ≡ x.old p)

  run_there : {p q : ℕ} {w : List ℕ} → There p → Run (automaton_of m) p w q → There q
  run_there u (stay l) = u
  run_there u (move {q = p} {s = s} {r = t} j v) =
      let e = (x.arc p s t j.source j.target).0 j in
      run_there (y.next_there u.0 s e.0 (x.old t) u.1 (subst (λ (z : ℕ). Arc (automaton_of r) z s e.0) (sym u.2) e.1) e.2) v

  there : (p : ℕ) → Reachable m p → There p
  there p u =
      let l = members_below m.n m.initials u.1.from good.initials_below u.1.member in
      let e = (x.initial u.1.from l).0 u.1.member in
      run_there (y.first_there e.0 (x.old u.1.from) e.1 e.2) u.1.run

module _ (r m n : Rule) (good-m : WellFormed m) (good-n : WellFormed n) (x : Renumbered r m) (y : Renumbered r n)
    (reach-m : (p : ℕ) → p < m.n → Reachable m p) (reach-n : (p : ℕ) → p < n.n → Reachable n p) where
  -- ---- with the same number
  in-n : Among x.old m.n y.old n.n
  in-n p l = there r m n good-m x y p (reach-m p l)

  in-m : Among y.old n.n x.old m.n
  in-m p l = there r n m good-n y x p (reach-n p l)

  pub same : (p : ℕ) → p < m.n → (p < n.n) × (x.old p ≡ y.old p)
  same = rising.same x.old y.old m.n n.n x.rises y.rises in-n in-m

  pub no_more : m.n ≤ n.n
  no_more = rising.no_more x.old y.old m.n n.n x.rises y.rises in-n in-m

  pub within : m.k ≡ n.k → Within (automaton_of m) (automaton_of n)
  within symbols = record {
    arcs = λ p s q j.
        let e = same p j.source in
        let f = same q j.target in
        let u = (x.arc p s q j.source j.target).0 j in
        (y.arc p s q e.0 f.0).1 (
          u.0,
          subst (λ (z : ℕ). Arc (automaton_of r) z s u.0) e.1 u.1,
          subst (λ (z : ℕ). Stands r u.0 z) f.1 u.2,
        );
    initials = λ p i.
        let l = members_below m.n m.initials p good-m.initials_below i in
        let e = same p l in
        let u = (x.initial p l).0 i in
        (y.initial p e.0).1 (u.0, u.1, subst (λ (z : ℕ). Stands r u.0 z) e.1 u.2);
    finals = λ p i.
        let l = members_below m.n m.finals p good-m.finals_below i in
        let e = same p l in
        (y.final p e.0).1 (subst (λ (z : ℕ). z ∈ r.finals) e.1 ((x.final p l).0 i));
  }

pub one_value : (r m n : Rule) → WellFormed m → WellFormed n → m.k ≡ n.k → length m.targets ≡ 512 → length n.targets ≡ 512
    → Renumbered r m → Renumbered r n → ((p : ℕ) → p < m.n → Reachable m p) → ((p : ℕ) → p < n.n → Reachable n p) → m ≡ n
one_value r m n gm gn k lm ln x y rm rn =
    same_value m n gm gn (le_antisymm (no_more r m n gm gn x y rm rn) (no_more r n m gn gm y x rn rm), k) lm ln
    (within r m n gm gn x y rm rn k)
    (within r n m gn gm y x rn rm (sym k))
