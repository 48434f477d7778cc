-- The failure form after any list of calls (document 02, R-14: "20 without a rule"; "The back
-- conversion gives the same table"); proofs/Claims.antt proves it. A list of calls has the last call
-- first.
--
--   table_in j   the judge's next-set table with its numbers of sets and symbols
use Rattle.std.specs.Prelude.{◌≡◌, ◌↔◌, List, ◌∷◌}
use Rattle.std.proofs.Math.Option.{none, some}
use Rattle.automaton.specs.declared.Rule.{Rule}
use Rattle.build.specs.mirror.Building.{built_of}
use Rattle.calls.specs.declared.Judge.{Judge}
use Rattle.calls.specs.Calls.{Call, installs, install_number}
use Rattle.forms.specs.declared.Table.{Table}
use Rattle.forms.specs.Form.{form_of}
use Rattle.forms.specs.Back.{back_of}
use Rattle.forms.specs.Claims.{IsTable}
use Rattle.formmaker.specs.Making.{no_form, made_of}
use Rattle.histories.specs.History.{rule_there}
use Rattle.histories.specs.Claims.{judge_after}

abbrev pub table_in : Judge → Table
table_in j = record { sets = j.built.setcount; symbols = j.built.k; next = j.built.next }

pub record Claims : Type 0 where
  -- 20 exactly where no rule is there, with zeros
  pub no_rule_lem : (h : List Call) → ((made_of (judge_after h)).number ≡ some 20) ↔ (rule_there h ≡ none)
  pub zeros : (h : List Call) → rule_there h ≡ none → (made_of (judge_after h)).form ≡ no_form
  -- else the form is that of the judge's table, with the table's own numbers: nothing is cut
  pub form : (h : List Call) (r : Rule) → rule_there h ≡ some r
      → made_of (judge_after h) ≡ record { number = none; form = form_of (judge_after h).built.setcount (judge_after h).built.k (judge_after h).built.next }
  -- which is a table: 1 to 512 sets, 1 to 16 symbols, each cell in use 512 or the number of a set,
  -- and each cell that is not in use 512
  pub a_table : (h : List Call) (r : Rule) → rule_there h ≡ some r
      → IsTable (judge_after h).built.setcount (judge_after h).built.k (judge_after h).built.next
  -- and the way back gives this table, whole: the cells and both numbers
  pub round_trip : (h : List Call) (r : Rule) → rule_there h ≡ some r
      → back_of (made_of (judge_after h)).form ≡ record { number = none; table = table_in (judge_after h) }
  -- so it is after an accepted installation: the table is the one that was built
  pub installed : (h : List Call) (r : Rule) → install_number r ≡ none
      → back_of (made_of (judge_after (installs r ∷ h))).form
      ≡ record { number = none; table = record { sets = (built_of r).setcount; symbols = (built_of r).k; next = (built_of r).next } }
