-- What a table of numbered sets tells, and a rule built from it. Assumes nothing.
use Rattle.std.proofs.Common as code
use Rattle.std.proofs.Common.{Some, None, Ok, Err}
use mathlib.Core.Path.{◌≡◌, sym, ap, ◌∙◌}
use mathlib.Core.Bool.{Bool, true, false, cond}
use mathlib.Core.List.{List}
use Prim.Native.Nat.{ℕ, ◌≤◌, min}
use lib.ListN.{length}
use borrow.Author.Tests.{ltb-false}
use Rattle.automaton.specs.declared.Rule.{Rule}
use Rattle.subsets.specs.declared.SetTable.{SetTable}
use Rattle.subsets.specs.Sets.{sets_of, too_many, set_cells, next_cells}
use Rattle.subsets.specs.mirror.Singles.{singles_of}
use Rattle.subsets.specs.mirror.Answer.{NumberingReply, counted, refused, Table, no_table, table_outcome, table_of}
use Rattle.subsets.proofs.Tables.{told_counted, told_refused}
use Rattle.delegates.specs.declared.Starts.{Starts}
use Rattle.delegates.specs.mirror.Classes.{starts_of}
use Rattle.delegates.specs.Claims.{starts_in}
use Rattle.base.specs.declared.Refusal.TheVariants.{TooManySets}
use Rattle.build.specs.mirror.Building.{build_outcome, build_of}

module _ (ts : List ℕ) (n k : ℕ) (o : code.Option SetTable) (is : table_outcome o ≡ table_of ts n k) where
  -- a table: there are not too many, and it is the rule's
  record Counted (t : SetTable) : Type 0 where
    fits : too_many ts n k ≡ false
    count : t.count ≡ length (sets_of ts n k)
    sets_are : t.sets ≡ set_cells ts n k
    next_are : t.next ≡ next_cells ts n k
    singles_are : t.singles ≡ singles_of (set_cells ts n k) (length (sets_of ts n k))

  whole_table : Table
  whole_table = record {
    reply = counted (length (sets_of ts n k));
    sets = set_cells ts n k;
    next = next_cells ts n k;
    singles = singles_of (set_cells ts n k) (length (sets_of ts n k));
  }

  told : (table_outcome o).reply ≡ cond (too_many ts n k) (refused 9) (counted (length (sets_of ts n k)))
  unfolding table_of whole_table
  told = go (too_many ts n k) is
    where
      go : (b : Bool) → table_outcome o ≡ cond b no_table whole_table → (table_outcome o).reply ≡ cond b (refused 9) (counted (length (sets_of ts n k)))
      go true h = ap (λ (x : Table). x.reply) h
      go false h = ap (λ (x : Table). x.reply) h

  reply_of : code.Option SetTable → NumberingReply
  reply_of p = (table_outcome p).reply

  counted_of : (t : SetTable) → o ≡ Some t → Counted t
  unfolding table_of whole_table reply_of
  counted_of t e =
      let x = told_counted (too_many ts n k) (length (sets_of ts n k)) t.count (sym (ap reply_of e) ∙ told) in
      let h : table_outcome (Some t) ≡ whole_table = sym (ap table_outcome e) ∙ is ∙ rw x.0 in
      record {
        fits = x.0;
        count = x.1;
        sets_are = ap (λ (y : Table). y.sets) h;
        next_are = ap (λ (y : Table). y.next) h;
        singles_are = ap (λ (y : Table). y.singles) h;
      }

  pub at_most_512 : (t : SetTable) → o ≡ Some t → t.count ≤ 512
  unfolding too_many
  at_most_512 t e = let w = counted_of t e in rw w.count (ltb-false 512 (length (sets_of ts n k)) w.fits)

  pub not_over : (t : SetTable) → o ≡ Some t → too_many ts n k ≡ false
  not_over t e = (counted_of t e).fits

  -- no table: there are too many
  pub is_over : o ≡ None → too_many ts n k ≡ true
  unfolding reply_of
  is_over e = told_refused (too_many ts n k) (length (sets_of ts n k)) (sym (ap reply_of e) ∙ told)

-- the table and the merged starts make the built rule
pub whole : (r : Rule) (o : code.Option SetTable) → table_outcome o ≡ table_of r.targets r.n r.k → (t : SetTable) → o ≡ Some t
    → (s : Starts) → s ≡ starts_of t.sets t.next r.finals t.singles r.n r.k
    → (n k : ℕ) → n ≡ min r.n 32 → k ≡ min r.k 16
    → build_outcome (Ok (record {
      n = n;
      k = k;
      startcount = s.startcount;
      setcount = t.count;
      initials = r.initials;
      finals = r.finals;
      delegates = s.delegates;
      singles = t.singles;
      sets = t.sets;
      next = t.next;
    }))
    ≡ build_of r
unfolding build_of starts_in
whole r o is t e s merged n k n-is k-is =
    let w = counted_of r.targets r.n r.k o is t e in
    rw (merged, n-is, k-is, w.fits, w.sets_are, w.next_are, w.singles_are, w.count)

pub too_many_lem : (r : Rule) (o : code.Option SetTable) → table_outcome o ≡ table_of r.targets r.n r.k → o ≡ None
    → build_outcome (Err TooManySets) ≡ build_of r
unfolding build_of
too_many_lem r o is e = rw (is_over r.targets r.n r.k o is e)
