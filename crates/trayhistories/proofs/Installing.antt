-- The installations of either rule answer as the judge's, as specs/Conditions.antt says: the judge's
-- own theorem over every list of calls, of the empty list, carried over. Assumes nothing.
use mathlib.Core.Path.{◌≡◌}
use mathlib.Core.Logic.Iff
use mathlib.Core.Logic.{◌↔◌}
use mathlib.Core.List.{[]}
use mathlib.Core.Option.{Option, none, some}
use Prim.Native.Nat.{ℕ}
use lib.ListN.{length}
use Rattle.base.proofs.Tests.{zero_one}
use Rattle.automaton.specs.declared.Rule.{Rule}
use Rattle.subsets.specs.Sets.{sets_of}
use Rattle.delegates.specs.Claims.{starts_in}
use Rattle.calls.specs.Replies as judge
use Rattle.calls.specs.Calls.{install_number}
use Rattle.calls.specs.Calls as judge_calls
use Rattle.histories.specs.History as judge_history
use Rattle.histories.proofs.Conditions as judge_conditions
use Rattle.trays.specs.Replies.{installed, refused, reply_by, with_sets}
use Rattle.trayhistories.specs.Conditions.{Installation}

-- the same number, and the same sets and M where there is none
same_installed : (o : Option ℕ) (sets m s n : ℕ)
    → (reply_by o (installed sets m) ≡ installed s n) ↔ (judge_history.reply_by o (judge.installed sets m) ≡ judge.installed s n)
same_installed none sets m s n = (
  (λ e. let a : sets ≡ s = cc in let b : m ≡ n = cc in rw (a, b)),
  λ e. let a : sets ≡ s = cc in let b : m ≡ n = cc in rw (a, b),
)
same_installed (some x) sets m s n = (λ e. zero_one cc, λ e. zero_one cc)

same_refused : (o : Option ℕ) (sets m x : ℕ)
    → (reply_by o (installed sets m) ≡ refused x) ↔ (judge_history.reply_by o (judge.installed sets m) ≡ judge.refused x)
same_refused none sets m x = (λ e. zero_one cc, λ e. zero_one cc)
same_refused (some y) sets m x = ((λ e. let a : y ≡ x = cc in rw a), λ e. let a : y ≡ x = cc in rw a)

pub installation : Installation (λ r. reply_by (install_number r) (with_sets r))
installation =
    let taken = judge_conditions.accepted_exactly [] in
    let turned = judge_conditions.refused_exactly [] in record {
      taken = λ r. Iff.trans (as_taken r (setcount r) (startcount r)) (taken.installation r);
      with_3 = λ r. Iff.trans (as_turned r 3) (turned.install_3 r);
      with_4 = λ r. Iff.trans (as_turned r 4) (turned.install_4 r);
      with_6 = λ r. Iff.trans (as_turned r 6) (turned.install_6 r);
      with_8 = λ r. Iff.trans (as_turned r 8) (turned.install_8 r);
      with_9 = λ r. Iff.trans (as_turned r 9) (turned.install_9 r);
      as_judge = λ g r sets m. as_taken r sets m;
      as_judge_refuses = λ g r x. as_turned r x;
    }
  where
    setcount : Rule → ℕ
    setcount r = length (sets_of r.targets r.n r.k)

    startcount : Rule → ℕ
    startcount r = (starts_in r).startcount

    as_taken : (r : Rule) (s n : ℕ)
        → (reply_by (install_number r) (with_sets r) ≡ installed s n) ↔ (judge_history.reply_by (install_number r) (judge_calls.with_sets r) ≡ judge.installed s n)
    as_taken r s n = same_installed (install_number r) (setcount r) (startcount r) s n

    as_turned : (r : Rule) (x : ℕ)
        → (reply_by (install_number r) (with_sets r) ≡ refused x) ↔ (judge_history.reply_by (install_number r) (judge_calls.with_sets r) ≡ judge.refused x)
    as_turned r x = same_refused (install_number r) (setcount r) (startcount r) x
