-- What building a rule answers (document 01, "Load: check and build a rule", of which this is the
-- part after the rule is checked).
--
--   BuildReply     document 01's answer: accepted with the number of sets and M, or refused with a
--                  number
--   built_of r     the rule r built: its sets, its next-set table, its delegates and M, and what
--                  running needs
--   no_built       zeros, which stand where there is no rule
--   Outcome, build_outcome  the outcome of building: the answer, and the built rule; and
--                           the outcome that each case of the code's result stands for
--   build_of r     the outcome of building the rule r
use Rattle.std.specs.Prelude.{Result, Ok, Err, cond, List, ℕ, min, length, replicate}
use Rattle.base.specs.declared.Refusal.{Refusal}
use Rattle.base.specs.Answers.{refusal_number}
use Rattle.limits.specs.Limits.{most_states, most_symbols, most_sets, table_cells}
use Rattle.automaton.specs.declared.Rule.{Rule}
use Rattle.subsets.specs.Sets.{sets_of, too_many, set_cells, next_cells}
use Rattle.subsets.specs.mirror.Singles.{singles_of}
use Rattle.delegates.specs.Claims.{starts_in}
use Rattle.build.specs.declared.Built.{Built}

pub data BuildReply : Type 0 where
  accepted : ℕ → ℕ → BuildReply
  refused : ℕ → BuildReply

module _ (r : Rule) where
  abbrev pub sets : List ℕ
  sets = sets_of r.targets r.n r.k

  -- singles has the number of {q} for each state q
  abbrev pub built_of : Built
  built_of = record {
    n = min r.n most_states;
    k = min r.k most_symbols;
    startcount = (starts_in r).startcount;
    setcount = length sets;
    initials = r.initials;
    finals = r.finals;
    delegates = (starts_in r).delegates;
    singles = singles_of (set_cells r.targets r.n r.k) (length sets);
    sets = set_cells r.targets r.n r.k;
    next = next_cells r.targets r.n r.k;
  }

abbrev pub no_built : Built
no_built = record {
  n = 0;
  k = 0;
  startcount = 0;
  setcount = 0;
  initials = 0;
  finals = 0;
  delegates = replicate most_states 0;
  singles = replicate most_states 0;
  sets = replicate most_sets 0;
  next = replicate table_cells 0;
}

pub record Outcome : Type 0 where
  pub answer : BuildReply
  pub built : Built

abbrev pub build_outcome : Result Built Refusal → Outcome
build_outcome (Ok built) = record { answer = accepted built.setcount built.startcount; built = built }
build_outcome (Err refusal) = record { answer = refused (refusal_number refusal); built = no_built }

unfoldable pub build_of : Rule → Outcome
build_of r =
    cond (too_many r.targets r.n r.k)
    (record { answer = refused 9; built = no_built })
    (record { answer = accepted (length (sets r)) (starts_in r).startcount; built = built_of r })
