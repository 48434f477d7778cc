-- The judge starts no more runs than it must (document 02, R-12). proofs/Fewest.antt proves both
-- claims.
--
--   MayBuild rule r    what `build_rule` may return for the rule, by its own contract
--   Fewest a m         every list that has an alike state for each state from which a final state can
--                      be reached has at least m members, and some such list has exactly m
--   BuildFewest        so it is with the M that the build returns, of every well-formed rule
--   InstallFewest h    and with the M that an accepted installation answers after the calls h
--   LoadFewest h       and with the M that an accepted load answers, of the automaton in the bytes
use Rattle.std.specs.Prelude.{◌≡◌, Result, List, ℕ, ◌≤◌, length}
use denote.Triple.Clauses.{AtExit}
use borrow.Fn.Kinds.{ended_of}
use Rattle.automaton.specs.declared.Rule.{Rule}
use Rattle.automaton.specs.Automaton.{Automaton}
use Rattle.automaton.specs.Rules.{automaton_of, WellFormed}
use Rattle.ruleformat.specs.Language.{automaton_in}
use Rattle.delegates.specs.Fewest.{Covers}
use Rattle.base.specs.declared.Refusal.{Refusal}
use Rattle.build.specs.declared.Built.{Built}
use Rattle.build.specs.mirror.Building.{accepted, build_outcome}
use Rattle.build.proofs.build_rule.Reads as build_reads
use Rattle.build.proofs.build_rule.Kinds as build_kinds
use Rattle.calls.specs.Replies.{installed}
use Rattle.calls.specs.Calls.{Call, installs, loads}
use Rattle.histories.specs.History.{answer_of}

abbrev pub MayBuild : Rule → Result Built Refusal → Type 0
MayBuild rule r = (s : AtExit (ended_of 0 build_kinds.ps build_kinds.r) tt) × build_reads.Learnt tt (rule, tt) r s

pub record Fewest (a : Automaton) (m : ℕ) : Type 0 where
  -- a choice is any list of numbers whatever
  pub no_fewer : (S : List ℕ) → Covers a S → m ≤ length S
  pub attained : (S : List ℕ) × Covers a S × (length S ≡ m)

abbrev pub BuildFewest : Type 0
BuildFewest =
    (rule : Rule) → WellFormed rule → (r : Result Built Refusal) → MayBuild rule r
    → (sets m : ℕ) → (build_outcome r).answer ≡ accepted sets m → Fewest (automaton_of rule) m

abbrev pub InstallFewest : List Call → Type 0
InstallFewest h = (r : Rule) (sets m : ℕ) → answer_of h (installs r) ≡ installed sets m → Fewest (automaton_of r) m

abbrev pub LoadFewest : List Call → Type 0
LoadFewest h = (f : List ℕ) (sets m : ℕ) → answer_of h (loads f) ≡ installed sets m → Fewest (automaton_in f) m
