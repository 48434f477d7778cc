-- The calls of document 01, with the installation of a rule beside the load of a file (document 02,
-- R-3), and the conditions for a refusal of each in its order. A call is
-- refused with the number of the first condition that holds, and accepted where none does. The
-- conditions stand over what a call looks at, so that they serve for a state and for a list of
-- calls.
--
--   Call               install, load, open, deliver, withdraw and verdict, with what they are
--                      given. A load is reading its file, which stands outside, and installing the
--                      rule where there is one (`LoadIs` of specs/Claims.antt)
--   many_sets r        9: more than 512 sets are reached
--   install_number r   the number with which the installation of the rule r is refused, 3, 4, 6, 8
--                      or 9, or none where it is accepted
--   load_number f      the number with which a load of the file f is refused, document 01's 1 to 9
--                      in one order, or none where it is accepted
--   with_sets r        what the installation of the rule r is answered where it is accepted
--   open_conditions, deliver_conditions, withdraw_conditions  20, 10; 21, 11, 12, 13, 22; 21, 11, 23
--   verdict_by         what a verdict says: by whether no board is there, the number of empty
--                      places, whether the join says yes, and the sum of the counts
--   per_byte v c b     v, with the b bytes of the text, the whole quotient of the count c by them,
--                      and the remainder; both are 0 for a text of 0 bytes
--   alone v            v, with three zeros
--   report_by v b      what the call verdict reports: yes or no with its count by the bytes of the
--                      text, of which there are b; waiting and a refusal alone
use Rattle.std.specs.Prelude.{Bool, cond, List, [], ◌∷◌, ◌++◌, ℕ, ◌/◌, ◌%◌, ltb, leb, eqb, length}
use Rattle.std.proofs.Math.Option.{Option}
use Rattle.limits.specs.Limits.{most_places, longest_chunk}
use Rattle.base.specs.Conditions.{Condition, on, first_of, outside}
use Rattle.marks.specs.Marks.{text_of}
use Rattle.automaton.specs.declared.Rule.{Rule}
use Rattle.rulecheck.specs.Checking.{rule_conditions}
use Rattle.ruleformat.specs.Refusals.{file_conditions}
use Rattle.ruleformat.specs.Reader.{rule_of}
use Rattle.subsets.specs.Sets.{sets_of, too_many}
use Rattle.delegates.specs.Claims.{starts_in}
use Rattle.chunks.specs.Chunks.{foreign}
use Rattle.calls.specs.Replies.{Judgement, waiting, yes_with, no_with, refused_with, Reported, Reply, installed}

pub data Call : Type 0 where
  installs : Rule → Call
  -- the bytes of the file
  loads : List ℕ → Call
  opens : ℕ → Call
  -- the place, the revision and the chunk
  delivers : ℕ → ℕ → List ℕ → Call
  withdraws : ℕ → Call
  asks_verdict : Call

-- ---- the conditions
-- more than 512 sets are reached
abbrev pub many_sets : Rule → List Condition
many_sets r = on 9 (too_many r.targets r.n r.k) ∷ []

-- those of the rule, then 9
unfoldable pub install_number : Rule → Option ℕ
install_number r = first_of (rule_conditions r ++ many_sets r)

-- those of the file, then 9
unfoldable pub load_number : List ℕ → Option ℕ
load_number f = first_of (file_conditions f ++ many_sets (rule_of f))

-- a rule that is installed: the number of its sets, and M
abbrev pub with_sets : Rule → Reply
with_sets r = installed (length (sets_of r.targets r.n r.k)) (starts_in r).startcount

-- no rule is there; n places are asked for
abbrev pub open_conditions : Bool → ℕ → List Condition
open_conditions lacks n = on 20 lacks ∷ on 10 (outside 1 most_places n) ∷ []

-- no board is there; it has so many places; the chunk w for place p, whose length counts every byte
-- and whose text is without its idle marks; the rule has k symbols; the revision comes late: it is
-- not greater than the last one accepted at p (document 02, R-11). (Document 01's last number, 24,
-- went with R-4: crates/histories/specs/CountBound.antt)
abbrev pub deliver_conditions : Bool → ℕ → ℕ → List ℕ → ℕ → Bool → List Condition
deliver_conditions lacks places p w k late =
    on 21 lacks ∷
    on 11 (leb places p) ∷
    on 12 (ltb longest_chunk (length w)) ∷
    on 13 (foreign (text_of w) k) ∷
    on 22 late ∷ []

-- no board is there; it has so many places; no chunk stands at place p
abbrev pub withdraw_conditions : Bool → ℕ → ℕ → Bool → List Condition
withdraw_conditions lacks places p empty = on 21 lacks ∷ on 11 (leb places p) ∷ on 23 empty ∷ []

-- ---- the verdict: 21, else waiting, else yes or no
abbrev pub verdict_by : Bool → ℕ → Bool → ℕ → Judgement
verdict_by lacks empty yes-there sum =
    cond lacks (refused_with 21) (cond (eqb empty 0) (cond yes-there (yes_with sum) (no_with sum)) (waiting empty))

-- the library's n % 0 is n, so 0 bytes are a case of their own
abbrev pub per_byte : Judgement → ℕ → ℕ → Reported
per_byte v count bytes = record {
  verdict = v;
  bytes = bytes;
  quotient = cond (eqb bytes 0) 0 (count / bytes);
  remainder = cond (eqb bytes 0) 0 (count % bytes);
}

abbrev pub alone : Judgement → Reported
alone v = record { verdict = v; bytes = 0; quotient = 0; remainder = 0 }

abbrev pub report_by : Judgement → ℕ → Reported
report_by (waiting empty) bytes = alone (waiting empty)
report_by (yes_with count) bytes = per_byte (yes_with count) count bytes
report_by (no_with count) bytes = per_byte (no_with count) count bytes
report_by (refused_with number) bytes = alone (refused_with number)
