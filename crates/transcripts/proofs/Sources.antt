-- The same of what a rule comes from, a value or a file: the automaton in the bytes of a file that
-- was accepted has the runs and the delegates of the rule in it. Assumes nothing.
use mathlib.Core.Logic.Iff
use mathlib.Core.Logic.{◌↔◌}
use mathlib.Core.List.{List}
use mathlib.Core.Option.{Option, some}
use Prim.Native.Nat.{ℕ, zero, suc, ◌/◌, ◌%◌, ◌≤◌, ◌<◌, ◌*◌}
use lib.ListN.{length, take}
use Rattle.masks.specs.Masks.{◌∈◌}
use Rattle.automaton.specs.Automaton.{Run, Accepts}
use Rattle.automaton.specs.Rules.{automaton_of, WellFormed}
use Rattle.ruleformat.specs.Reader.{rule_of}
use Rattle.ruleformat.proofs.Claims as rulefile
use Rattle.subsets.specs.Claims.{fits}
use Rattle.delegates.specs.Alike.{Delegate}
use Rattle.build.specs.mirror.Building.{built_of}
use Rattle.chunks.specs.Chunks.{end_set, chunk_count, looked}
use Rattle.chunks.specs.Counting.{HowMany, RunsOver}
use Rattle.chunks.proofs.Counting.{how_many_map}
use Rattle.calls.proofs.Conditions.{load_accepted}
use Rattle.histories.specs.History.{run_at}
use Rattle.histories.specs.Method.{Method}
use Rattle.histories.proofs.Method.{method, method_bytes}
use Rattle.histories.proofs.SameArcs.{run_read, delegate_read}
use Rattle.histories.proofs.Steps.{accepted_rule}
use Rattle.transcripts.specs.Standing.{Source, value, file, automaton_by}
use Rattle.transcripts.specs.Runs.{Started, Dead, LookedUp}
use Rattle.transcripts.specs.Agreement.{value_of, SoundSource}
use Rattle.transcripts.proofs.Runs.{end_law, count_law, looked_law}

pub sound_rule : (x : Source) → SoundSource x → WellFormed (value_of x) × fits (value_of x)
sound_rule (value r) e = accepted_rule r e
sound_rule (file f) e = accepted_rule (rule_of f) (load_accepted f e).1

pub method_by : (x : Source) → SoundSource x → Method (automaton_by x) (built_of (value_of x))
method_by (value r) e = method r e
method_by (file f) e = method_bytes f e

pub run_by_lem : (x : Source) → SoundSource x → (q : ℕ) (w : List ℕ) (p : ℕ) → Run (automaton_by x) q w p ↔ Run (automaton_of (value_of x)) q w p
run_by_lem (value r) e q w p = (λ z. z, λ z. z)
run_by_lem (file f) e q w p = run_read f (load_accepted f e).0 q w p

pub delegate_by : (x : Source) → SoundSource x → (q : ℕ) (o : Option ℕ) → Delegate (automaton_by x) q o ↔ Delegate (automaton_of (value_of x)) q o
delegate_by (value r) e q o = (λ z. z, λ z. z)
delegate_by (file f) e q o = delegate_read f (load_accepted f e).0 q o

pub accepts_by : (x : Source) → SoundSource x → (w : List ℕ) → Accepts (automaton_by x) w ↔ Accepts (automaton_of (value_of x)) w
accepts_by (value r) e w = (λ z. z, λ z. z)
accepts_by (file f) e w = (rulefile.claims).language f (load_accepted f e).0 w

pub initial_by : (x : Source) (q : ℕ) → (automaton_by x).Initial q ↔ q ∈ (value_of x).initials
initial_by (value r) q = (λ z. z, λ z. z)
initial_by (file f) q = (λ z. z, λ z. z)

pub final_by : (x : Source) (q : ℕ) → (automaton_by x).Final q ↔ q ∈ (value_of x).finals
final_by (value r) q = (λ z. z, λ z. z)
final_by (file f) q = (λ z. z, λ z. z)

module _ (x : Source) (e : SoundSource x) where
  pub started_by : (p q : ℕ) → Started (automaton_by x) p q ↔ Started (automaton_of (value_of x)) p q
  started_by zero q = (
    (λ z. (z.0, (initial_by x z.0).0 z.1, (delegate_by x e z.0 (some q)).0 z.2)),
    λ z. (z.0, (initial_by x z.0).1 z.1, (delegate_by x e z.0 (some q)).1 z.2),
  )
  started_by (suc p) q = delegate_by x e q (some q)

  over_by : (q : ℕ) (w : List ℕ) → RunsOver (automaton_by x) q w ↔ RunsOver (automaton_of (value_of x)) q w
  over_by q w = ((λ z. (z.0, (run_by_lem x e q w z.0).0 z.1)), λ z. (z.0, (run_by_lem x e q w z.0).1 z.1))

  pub ends_by : (p q : ℕ) (w : List ℕ) (y : ℕ)
      → y ∈ end_set (value_of x).targets (run_at (value_of x) p) w q ↔ (Started (automaton_by x) p q × Run (automaton_by x) q w y)
  ends_by p q w y =
      let s = sound_rule x e in
      Iff.trans (end_law (value_of x) s.0 s.1 p q w y) (
        (λ z. ((started_by p q).1 z.0, (run_by_lem x e q w y).1 z.1)),
        λ z. ((started_by p q).0 z.0, (run_by_lem x e q w y).0 z.1),
      )

  pub count_by : (p : ℕ) (w : List ℕ) → length w ≤ 65536
      → HowMany (λ i. Started (automaton_by x) p (i / 65536) × (i % 65536 < length w) × RunsOver (automaton_by x) (i / 65536) (take (suc (i % 65536)) w))
      (32 * 65536) (chunk_count (value_of x).targets (run_at (value_of x) p) w)
  count_by p w short =
      let s = sound_rule x e in
      how_many_map (λ i l. (
        (λ z. ((started_by p (i / 65536)).1 z.0, z.1, (over_by (i / 65536) (take (suc (i % 65536)) w)).1 z.2)),
        λ z. ((started_by p (i / 65536)).0 z.0, z.1, (over_by (i / 65536) (take (suc (i % 65536)) w)).0 z.2),
      ))
      (count_law (value_of x) s.0 s.1 p w short)

  dead_by : (p : ℕ) (w : List ℕ) → Dead (automaton_by x) p w ↔ Dead (automaton_of (value_of x)) p w
  dead_by p w = (
    (λ z q s r. z q ((started_by p q).1 s) ((over_by q w).1 r)),
    λ z q s r. z q ((started_by p q).0 s) ((over_by q w).0 r),
  )

  pub looked_by_lem : (p : ℕ) (w : List ℕ) → LookedUp (automaton_by x) p w (looked (value_of x).targets (run_at (value_of x) p) w)
  looked_by_lem p w =
      let s = sound_rule x e in
      let l = looked_law (value_of x) s.0 s.1 p w in
      let n = looked (value_of x).targets (run_at (value_of x) p) w in
      record {
        most = l.most;
        all-empty = λ b. (dead_by p (take n w)).1 (l.all-empty b);
        least = λ i b z. l.least i b ((dead_by p (take i w)).0 z);
      }
