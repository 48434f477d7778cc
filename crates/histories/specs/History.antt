-- Lists of calls, and what such a list says by itself (document 01, "The board and its calls"). A
-- history has the LAST call first. Nothing here looks at a state.
--
--   rule_there h, rule_in h  the rule of the last accepted load or installation, if there is one;
--                            and it, or zeros
--   open_number h n          the number with which an opening is refused: 20, 10
--   board_in h               a board is there: the last accepted call among loads, installations
--                            and openings is an opening
--   places_in h              its places; 0 where no board is there
--   last_revision h p        the last revision accepted at place p since the board was opened, or
--                            none (document 02, R-11)
--   standing h p             the standing chunk at place p, or none
--   end_at h p q, count_at h p, length_at h p  what place p holds: the end set of state q, the count,
--                                            and the length of the chunk's text
--   run_at r p                the states that are run at place p, by the rule r
--   count_of r p chunk, end_of r p q chunk   the same of what stands at place p, by the rule r:
--                                          standing_count and standing_end, of its text
--   looked_of r p w          for how many bytes of the text of the chunk w a successor is looked up
--                            at place p, by the rule r (document 02, R-2)
--   not_greater v last             the revision v is not greater than the last one, if there is one
--   deliver_check, withdraw_check  the number with which a delivery and a withdrawal at place p are
--                                  refused, by the places and the last revision or what stands
--                                  at p
--   deliver_number, withdraw_number  they after the calls h: 21, 11, 12, 13, 22 and 21, 11, 23
--   empties_in h, summed_in h, bytes_in h  how many places are empty, the sum of the counts, and that
--                                        of the lengths
--   yes_in h, verdict_in h, report_in h   the join of the end sets says yes; the verdict; what is
--                                        reported with it
--   text_in h                the standing chunks without their idle marks, joined by place
--   reply_by number a        refused with the number, or a where there is none
--   answer_of h c             what document 01 answers to the call c after the calls h
--   answers_to h             its answers to all calls of the list
use Rattle.std.specs.Prelude.{Bool, true, false, cond, ◌&&◌, List, [], ◌∷◌, ℕ, eqb, leb, length}
use Rattle.std.proofs.Math.Option.{Option, none, some}
use Rattle.base.specs.Conditions.{first_of}
use Rattle.base.specs.Lists.{joined}
use Rattle.base.specs.Options.{is_none}
use Rattle.base.specs.Totals.{total}
use Rattle.marks.specs.Marks.{text_of}
use Rattle.automaton.specs.declared.Rule.{Rule}
use Rattle.ruleformat.specs.Reader.{rule_of, no_rule}
use Rattle.delegates.specs.Alike.{delegate_in}
use Rattle.delegates.specs.Claims.{starts_in}
use Rattle.chunks.specs.Chunks.{run_set, end_set, chunk_count, looked}
use Rattle.joins.specs.Joining.{yes_of}
use Rattle.calls.specs.Replies.{Judgement, Reported, Reply, accepted, judged, refused, delivered}
use Rattle.calls.specs.Calls.{Call, installs, loads, opens, delivers, withdraws, asks_verdict, install_number, load_number, open_conditions, deliver_conditions, withdraw_conditions, verdict_by, report_by, with_sets}

-- ---- which rule is there
unfoldable pub rule_there : List Call → Option Rule
rule_there [] = none
rule_there (installs r ∷ h) = cond (is_none (install_number r)) (some r) (rule_there h)
rule_there (loads f ∷ h) = cond (is_none (load_number f)) (some (rule_of f)) (rule_there h)
rule_there (opens n ∷ h) = rule_there h
rule_there (delivers p v w ∷ h) = rule_there h
rule_there (withdraws p ∷ h) = rule_there h
rule_there (asks_verdict ∷ h) = rule_there h

abbrev pub rule_from : Option Rule → Rule
rule_from none = no_rule
rule_from (some r) = r

abbrev pub rule_in : List Call → Rule
rule_in h = rule_from (rule_there h)

-- ---- which board is there
abbrev pub open_number : List Call → ℕ → Option ℕ
open_number h n = first_of (open_conditions (is_none (rule_there h)) n)

unfoldable pub board_in : List Call → Bool
board_in [] = false
board_in (installs r ∷ h) = cond (is_none (install_number r)) false (board_in h)
board_in (loads f ∷ h) = cond (is_none (load_number f)) false (board_in h)
board_in (opens n ∷ h) = cond (is_none (open_number h n)) true (board_in h)
board_in (delivers p v w ∷ h) = board_in h
board_in (withdraws p ∷ h) = board_in h
board_in (asks_verdict ∷ h) = board_in h

unfoldable pub places_in : List Call → ℕ
places_in [] = 0
places_in (installs r ∷ h) = cond (is_none (install_number r)) 0 (places_in h)
places_in (loads f ∷ h) = cond (is_none (load_number f)) 0 (places_in h)
places_in (opens n ∷ h) = cond (is_none (open_number h n)) n (places_in h)
places_in (delivers p v w ∷ h) = places_in h
places_in (withdraws p ∷ h) = places_in h
places_in (asks_verdict ∷ h) = places_in h

-- ---- which chunk stands where. `last` is the last revision accepted at place p, `at_p` what stands
-- there, `k` the rule's number of symbols

-- the revision v is not greater than the last one; any is greater where there is none
abbrev pub not_greater : ℕ → Option ℕ → Bool
not_greater v none = false
not_greater v (some last) = leb v last

abbrev pub deliver_check : ℕ → ℕ → Option ℕ → ℕ → ℕ → List ℕ → Option ℕ
deliver_check k places last p v w = first_of (deliver_conditions (eqb places 0) places p w k (not_greater v last))

abbrev pub withdraw_check : ℕ → Option (List ℕ) → ℕ → Option ℕ
withdraw_check places at_p p = first_of (withdraw_conditions (eqb places 0) places p (is_none at_p))

-- an accepted load, installation or opening forgets it, a withdrawal does not
unfoldable pub last_revision : List Call → ℕ → Option ℕ
last_revision [] p = none
last_revision (installs r ∷ h) p = cond (is_none (install_number r)) none (last_revision h p)
last_revision (loads f ∷ h) p = cond (is_none (load_number f)) none (last_revision h p)
last_revision (opens n ∷ h) p = cond (is_none (open_number h n)) none (last_revision h p)
last_revision (delivers q v w ∷ h) p =
    cond (eqb q p && is_none (deliver_check (rule_in h).k (places_in h) (last_revision h q) q v w)) (some v) (last_revision h p)
last_revision (withdraws q ∷ h) p = last_revision h p
last_revision (asks_verdict ∷ h) p = last_revision h p

unfoldable pub standing : List Call → ℕ → Option (List ℕ)
standing [] p = none
standing (installs r ∷ h) p = cond (is_none (install_number r)) none (standing h p)
standing (loads f ∷ h) p = cond (is_none (load_number f)) none (standing h p)
standing (opens n ∷ h) p = cond (is_none (open_number h n)) none (standing h p)
standing (delivers q v w ∷ h) p =
    cond (eqb q p && is_none (deliver_check (rule_in h).k (places_in h) (last_revision h q) q v w)) (some w) (standing h p)
standing (withdraws q ∷ h) p = cond (eqb q p && is_none (withdraw_check (places_in h) (standing h q) q)) none (standing h p)
standing (asks_verdict ∷ h) p = standing h p

-- ---- what stands at a place comes to, where `run` has the states that are run there; 0 where
-- nothing stands. What stands is what was delivered; what is judged is its text, without idle marks
abbrev pub standing_count : List ℕ → ℕ → Option (List ℕ) → ℕ
standing_count ts run none = 0
standing_count ts run (some w) = chunk_count ts run (text_of w)

abbrev pub standing_end : List ℕ → ℕ → ℕ → Option (List ℕ) → ℕ
standing_end ts run q none = 0
standing_end ts run q (some w) = end_set ts run (text_of w) q

-- the text itself; an empty place has none
abbrev pub standing_text : Option (List ℕ) → List ℕ
standing_text none = []
standing_text (some w) = text_of w

-- by the rule r, at place p
module _ (r : Rule) where
  abbrev pub run_at : ℕ → ℕ
  run_at p = run_set (starts_in r).delegates r.n r.initials p

  abbrev pub count_of : ℕ → Option (List ℕ) → ℕ
  count_of p chunk = standing_count r.targets (run_at p) chunk

  abbrev pub end_of : ℕ → ℕ → Option (List ℕ) → ℕ
  end_of p q chunk = standing_end r.targets (run_at p) q chunk

  abbrev pub looked_of : ℕ → List ℕ → ℕ
  looked_of p w = looked r.targets (run_at p) (text_of w)

module _ (h : List Call) where
  abbrev pub deliver_number : ℕ → ℕ → List ℕ → Option ℕ
  deliver_number p v w = deliver_check (rule_in h).k (places_in h) (last_revision h p) p v w

  abbrev pub withdraw_number : ℕ → Option ℕ
  withdraw_number p = withdraw_check (places_in h) (standing h p) p

  abbrev pub count_at : ℕ → ℕ
  count_at p = count_of (rule_in h) p (standing h p)

  abbrev pub end_at : ℕ → ℕ → ℕ
  end_at p q = end_of (rule_in h) p q (standing h p)

  -- 0 at an empty place
  abbrev pub length_at : ℕ → ℕ
  length_at p = length (standing_text (standing h p))

  abbrev pub empties_in : ℕ
  empties_in = total (λ p. cond (is_none (standing h p)) 1 0) (places_in h)

  abbrev pub summed_in : ℕ
  summed_in = total count_at (places_in h)

  abbrev pub bytes_in : ℕ
  bytes_in = total length_at (places_in h)

  -- the yes or no is the join of the end sets, place by place
  abbrev pub yes_in : Bool
  yes_in = yes_of end_at (delegate_in (starts_in (rule_in h)).delegates) (rule_in h).n (rule_in h).initials (rule_in h).finals (places_in h)

  abbrev pub verdict_in : Judgement
  verdict_in = verdict_by (eqb (places_in h) 0) empties_in yes_in summed_in

  abbrev pub report_in : Reported
  report_in = report_by verdict_in bytes_in

-- the texts at the first places, one after the other
abbrev pub joined_up_to : (ℕ → Option (List ℕ)) → ℕ → List ℕ
joined_up_to at places = joined (λ p. standing_text (at p)) places

abbrev pub text_in : List Call → List ℕ
text_in h = joined_up_to (standing h) (places_in h)

-- ---- the answers
abbrev pub reply_by : Option ℕ → Reply → Reply
reply_by none a = a
reply_by (some number) a = refused number

abbrev pub answer_of : List Call → Call → Reply
answer_of h (installs r) = reply_by (install_number r) (with_sets r)
answer_of h (loads f) = reply_by (load_number f) (with_sets (rule_of f))
answer_of h (opens n) = reply_by (open_number h n) accepted
answer_of h (delivers p v w) = reply_by (deliver_number h p v w) (delivered (looked_of (rule_in h) p w))
answer_of h (withdraws p) = reply_by (withdraw_number h p) accepted
answer_of h asks_verdict = judged (report_in h)

-- the answers to a list of calls, the last first
unfoldable pub answers_to : List Call → List Reply
answers_to [] = []
answers_to (c ∷ h) = answer_of h c ∷ answers_to h
