-- One turn of each loop, and each way out of the definitions that the functions are held to.
-- Assumes nothing.
use Rattle.std.proofs.Common as code
use Rattle.std.proofs.Common.{Ok, Err, Some, None}
use Rattle.std.specs.Option.{is_some}
use mathlib.Core.Path.{◌≡◌, refl, sym, ap, ap₂, ◌∙◌}
use mathlib.Core.Bool.{Bool, true, false, cond, not, ◌&&◌}
use mathlib.Core.List.{List}
use mathlib.Core.Option.{Option, none, some}
use Prim.Native.Nat.{ℕ, ◌+◌, ◌*◌, ◌/◌, ◌%◌, ◌≤◌, ◌<◌, max}
use native.Mathlib.Numerals.{add-one}
use native.Mathlib.Omega.{arith}
use lib.Bits.{bit_or}
use lib.Dec.{ltb, eqb}
use lib.ListN.{length, get_or}
use borrow.Author.Tests.{eqb-true, eqb-false, eq-eqb, ne_eqb, lt-ltb, le-ltb}
use Rattle.base.specs.declared.Refusal.{Refusal}
use Rattle.base.specs.Answers.{refusal_number}
use Rattle.base.proofs.Totals.{total_more}
use Rattle.base.specs.Lists.{list_from}
use Rattle.base.specs.Options.{is_none}
use Rattle.masks.specs.Masks.{bit, has, single, union}
use Rattle.masks.proofs.Laws.{union_member, union_other}
use Rattle.automaton.specs.declared.Rule.{Rule}
use Rattle.automaton.specs.Rules.{target_mask}
use Rattle.delegates.specs.declared.DelegateAnswer.{DelegateAnswer}
use Rattle.delegates.specs.declared.DelegateAnswer.TheVariants.{State, None}
use Rattle.delegates.specs.Alike.{delegate_in, of_delegate}
use Rattle.delegates.specs.mirror.Classes.{first_from}
use Rattle.delegates.specs.mirror.Answer.{delegate_means}
use Rattle.delegates.proofs.Alike.{some_said}
use Rattle.masks.specs.declared.StateNumber.{StateNumber}
use Rattle.masks.specs.Turns.{rank}
use Rattle.masks.proofs.Turns.{bit_lt, rank_most}
use Rattle.base.proofs.Tests.{zero_one}
use Rattle.rulecheck.specs.Checking.{rule_number}
use Rattle.subsets.specs.Sets.{too_many}
use Rattle.subsets.specs.declared.SetTable.{SetTable}
use Rattle.subsets.specs.mirror.Answer.{table_outcome, table_of}
use Rattle.delegates.specs.Claims.{starts_in}
use Rattle.build.proofs.Numbered.{not_over, is_over}
use Rattle.build.specs.declared.Built.{Built}
use Rattle.build.specs.mirror.Building.{accepted, refused, sets, built_of, no_built, Outcome, build_outcome, build_of}
use Rattle.calls.specs.Calls.{install_number}
use Rattle.calls.proofs.Conditions.{install_number_lem}
use Rattle.reducing.specs.Reducing.{Reducing, reduce_outcome, reducing_by, reduce_of}
use Rattle.reducing.proofs.Law.{few_install, reduce_law}
use Rattle.reducing.specs.Reduced.{gather, delegated, renamed, row_of, targets_of, cell_in, reduced_by, kept_of, own_list, reached_of, chosen_cell, chosen_of, list_in, kept_in, reduced_of}

-- ---- `count`
module _ (set p : ℕ) where
  pub count_more : has set p ≡ true → rank set p + 1 ≡ rank set (p + 1)
  count_more e = omega (arith, total_more (bit set) p, eqb-true (bit set p) 1 e)

  pub count_skip : has set p ≡ false → rank set p ≡ rank set (p + 1)
  count_skip e =
      let ne = eqb-false (bit set p) 1 e in
      let z : bit set p ≡ 0 = omega (arith, bit_lt set p) in
      omega (arith, total_more (bit set) p)

pub count_low : (set q n : ℕ) → n ≡ rank set q → q < 32 → n < 32
count_low set q n e h = omega (arith, rank_most set q)

-- ---- `delegate_set`
module _ (d : List ℕ) (q : ℕ) (a : DelegateAnswer) (said : delegate_means a ≡ delegate_in d q) where
  said_state : (x : StateNumber) → a ≡ State x → delegate_in d q ≡ some x.0
  said_state x e = sym said ∙ ap delegate_means e

  pub low_delegate : (x : StateNumber) → a ≡ State x → x.0 < 32
  low_delegate x e = (some_said d q x.0 (said_state x e)).1

  pub set_some : (x : StateNumber) (r : ℕ) → a ≡ State x → r ≡ single x.0 → r ≡ of_delegate single (delegate_in d q)
  set_some x r e is = is ∙ sym (ap (of_delegate single) (said_state x e))

  pub set_none : a ≡ None → 0 ≡ of_delegate single (delegate_in d q)
  set_none e = sym (ap (of_delegate single) (sym said ∙ ap delegate_means e))

-- ---- a union over the members of a set, one state more
module _ (f : ℕ → ℕ) (m q out : ℕ) (is : out ≡ union f m q) where
  pub more : (x r : ℕ) → has m q ≡ true → x ≡ f q → r ≡ bit_or out x → r ≡ union f m (q + 1)
  more x r e ex er = er ∙ ap₂ bit_or is ex ∙ union_member f m q e

  pub skip : has m q ≡ false → out ≡ union f m (q + 1)
  skip e = is ∙ union_other f m q e

-- ---- `has_delegate`, `chosen_cell`
module _ (d : List ℕ) (reached q x : ℕ) (said : x ≡ get_or d q 0) where
  pub cell_live : has reached q ≡ true → x < 32
      → (r : ℕ) → r ≡ first_from (λ p. has reached p && eqb (get_or d p 0) x) 0 q → r ≡ chosen_cell d reached q
  cell_live e l r is =
      let low : get_or d q 0 < 32 = rw said at l in
      is ∙ ap (λ (y : ℕ). first_from (λ p. has reached p && eqb (get_or d p 0) y) 0 q) said
      ∙ sym (ap₂ (λ (s t : Bool). cond (s && t) (first_from (λ p. has reached p && eqb (get_or d p 0) (get_or d q 0)) 0 q) 32) e (lt-ltb (get_or d q 0) 32 low))

  pub cell_dead : has reached q ≡ true → 32 ≤ x → 32 ≡ chosen_cell d reached q
  cell_dead e l =
      let high : 32 ≤ get_or d q 0 = rw said at l in
      sym (ap₂ (λ (s t : Bool). cond (s && t) (first_from (λ p. has reached p && eqb (get_or d p 0) (get_or d q 0)) 0 q) 32) e (le-ltb (get_or d q 0) 32 high))

pub cell_off : (d : List ℕ) (reached q : ℕ) → has reached q ≡ false → 32 ≡ chosen_cell d reached q
cell_off d reached q e =
    sym (ap (λ (s : Bool). cond (s && ltb (get_or d q 0) 32) (first_from (λ p. has reached p && eqb (get_or d p 0) (get_or d q 0)) 0 q) 32) e)

pub has_yes : (s t r : Bool) → s ≡ true → r ≡ t → r ≡ (s && t)
has_yes s t r e is = is ∙ sym (ap (λ (x : Bool). x && t) e)

pub has_no : (s t : Bool) → s ≡ false → false ≡ (s && t)
has_no s t e = sym (ap (λ (x : Bool). x && t) e)

-- ---- `list_of`
pub list_made : (ts d own : List ℕ) (initials reached : ℕ) (r : List ℕ) → own ≡ own_list → reached ≡ kept_of ts own initials → r ≡ chosen_of d reached
    → r ≡ chosen_of d (reached_of ts initials)
list_made ts d own initials reached r eo er is =
    is ∙ ap (chosen_of d) (er ∙ ap (λ (l : List ℕ). kept_of ts l initials) eo)

-- ---- `onward`
pub gather_more : (f : ℕ → ℕ) (s out x r : ℕ) → out ≡ gather f s → x ≡ f s → r ≡ bit_or out x → r ≡ gather f (s + 1)
unfolding gather
gather_more f s out x r is ex er = rw add-one (er ∙ ap₂ bit_or is ex)

-- ---- `row_set`
module _ (ts d : List ℕ) (kept p s q : ℕ) where
  pub row_there_lem : (c to r : ℕ) → s < 16 → c ≡ rank kept q → c ≡ p → to ≡ delegated d (get_or ts (q * 16 + s) 0) → r ≡ renamed kept to
      → r ≡ row_of ts d kept p s q
  row_there_lem c to r l ec e et er =
      let here : rank kept q ≡ p = sym ec ∙ e in
      let mask : target_mask ts q s ≡ get_or ts (q * 16 + s) 0 = rw (lt-ltb s 16 l) in
      er ∙ ap (renamed kept) (et ∙ ap (delegated d) (sym mask))
      ∙ sym (ap (λ (t : Bool). cond t (renamed kept (delegated d (target_mask ts q s))) 0) (eq-eqb (rank kept q) p here))

  pub row-none : (c : ℕ) → c ≡ rank kept q → (c ≡ p → ⊥) → 0 ≡ row_of ts d kept p s q
  row-none c ec ne =
      sym (ap (λ (t : Bool). cond t (renamed kept (delegated d (target_mask ts q s))) 0)
      (ne_eqb (rank kept q) p (λ e. ne (ec ∙ e))))

-- ---- `cell_of`
module _ (ts d : List ℕ) (kept cell n : ℕ) (size : n ≡ rank kept 32) where
  pub cell_state : cell / 16 < n → (r : ℕ) → r ≡ targets_of ts d kept (cell / 16) (cell % 16) → r ≡ cell_in ts d kept cell
  cell_state l r e =
      e ∙ sym (ap (λ (t : Bool). cond t (targets_of ts d kept (cell / 16) (cell % 16)) 0) (lt-ltb (cell / 16) (rank kept 32) (rw size at l)))

  pub cell_none : n ≤ cell / 16 → 0 ≡ cell_in ts d kept cell
  cell_none l =
      sym (ap (λ (t : Bool). cond t (targets_of ts d kept (cell / 16) (cell % 16)) 0) (le-ltb (cell / 16) (rank kept 32) (rw size at l)))

-- ---- `reduced`
pub made_of : (r : Rule) (d : List ℕ) (stay n x i f : ℕ) (t : List ℕ) → stay ≡ kept_of r.targets d r.initials
    → n ≡ max 1 (rank stay 32) → x ≡ delegated d r.initials → i ≡ renamed stay x → f ≡ renamed stay r.finals
    → t ≡ list_from 0 512 (cell_in r.targets d stay)
    → ◌≡◌ {A = Rule} (record { n = n; k = r.k; initials = i; finals = f; targets = t }) (reduced_by r d (kept_of r.targets d r.initials))
made_of r d stay n x i f t es en ex ei ef et = rw (en, ei, ex, ef, et, es)

-- ---- `few_sets`
module _ (ts : List ℕ) (n k : ℕ) (o : code.Option SetTable) (is : table_outcome o ≡ table_of ts n k) where
  pub sets_few : (p : code.Option SetTable) → o ≡ p → is_some p ≡ not (too_many ts n k)
  sets_few (Some t) e = sym (ap not (not_over ts n k o is t e))
  sets_few None e = sym (ap not (is_over ts n k o is e))

-- ---- `reduce`
module _ (r : Rule) where
  reducing_some : (e : Refusal) → install_number r ≡ some (refusal_number e) → reduce_outcome (Err e) ≡ reduce_of r
  reducing_some e is = sym (ap (λ (o : Option ℕ). reducing_by o (reduced_of r)) is)

  pub refused_check : (e : Refusal) → rule_number r ≡ some (refusal_number e) → reduce_outcome (Err e) ≡ reduce_of r
  refused_check e is = reducing_some e (install_number_lem r ∙ rw is)

  module _ (passed : rule_number r ≡ none) where
    pub refused_build_lem : (e : Refusal) → build_outcome (Err e) ≡ build_of r → reduce_outcome (Err e) ≡ reduce_of r
    unfolding build_of
    refused_build_lem e told = of (too_many r.targets r.n r.k) refl told
      where
        of : (t : Bool) → too_many r.targets r.n r.k ≡ t
            → build_outcome (Err e) ≡ cond t (record { answer = refused 9; built = no_built }) (record { answer = accepted (length (sets r)) (starts_in r).startcount; built = built_of r })
            → reduce_outcome (Err e) ≡ reduce_of r
        of true t z =
            let a : refused (refusal_number e) ≡ refused 9 = ap (λ (y : Outcome). y.answer) z in
            let nine : refusal_number e ≡ 9 = cc in
            reducing_some e (install_number_lem r ∙ rw (passed, t, nine))
        of false t z =
            let a : refused (refusal_number e) ≡ accepted (length (sets r)) (starts_in r).startcount = ap (λ (y : Outcome). y.answer) z in
            zero_one cc

    pub accepted_build : (b : Built) (list : List ℕ) (made : Rule) (installs : Bool) → build_outcome (Ok b) ≡ build_of r
        → list ≡ chosen_of b.delegates (reached_of r.targets r.initials)
        → made ≡ reduced_by r list (kept_of r.targets list r.initials)
        → installs ≡ not (too_many made.targets made.n made.k)
        → reduce_outcome (Ok (record { installs = installs; rule = made })) ≡ reduce_of r
    unfolding build_of list_in kept_in
    accepted_build b list made installs told chosen is few = of (too_many r.targets r.n r.k) refl told
      where
        of : (t : Bool) → too_many r.targets r.n r.k ≡ t
            → build_outcome (Ok b) ≡ cond t (record { answer = refused 9; built = no_built }) (record { answer = accepted (length (sets r)) (starts_in r).startcount; built = built_of r })
            → reduce_outcome (Ok (record { installs = installs; rule = made })) ≡ reduce_of r
        of true t z =
            let a : accepted b.setcount b.startcount ≡ refused 9 = ap (λ (y : Outcome). y.answer) z in
            zero_one cc
        of false t z =
            let d : b.delegates ≡ (starts_in r).delegates = ap (λ (y : Outcome). y.built.delegates) z in
            let l : list ≡ chosen_of (starts_in r).delegates (reached_of r.targets r.initials) =
            chosen ∙ ap (λ (y : List ℕ). chosen_of y (reached_of r.targets r.initials)) d in
            let same : made ≡ reduced_of r = is ∙ ap (λ (y : List ℕ). reduced_by r y (kept_of r.targets y r.initials)) l in
            let none_there : install_number r ≡ none = install_number_lem r ∙ rw (passed, t) in
            let given : reducing_by none (reduced_of r) ≡ reduce_of r = sym (ap (λ (o : Option ℕ). reducing_by o (reduced_of r)) none_there) in
            let checked : rule_number made ≡ none = ap rule_number (same ∙ ap (λ (y : Reducing). y.rule) given) ∙ (reduce_law r).checked (sym (ap (λ (y : Reducing). y.number) given)) in
            let installing : installs ≡ is_none (install_number made) = few ∙ sym (few_install made checked) in
            ap (λ (y : Bool). record { number = none; installs = y; rule = made }) installing ∙ ap (λ (y : Rule). reducing_by none y) same ∙ given
