-- The answers to samples/two_chunks.calls and samples/lost.calls, by computation. Assumes nothing.
--
--   Entry           a line, the call that it records and the reply to it; or the question that it asks
--                   and its answer
--   Right h es      each line is read as its call or question, and its answer is the right one after the
--                   calls h and those of the lines before it
--   answer_with s   what is answered to a call, with the starts s put in for the rule's own: those
--                   do not compute, and `starts_A` says what they are
--   right_with live  what is answered to a question, with the live states put in: it would take long to
--                   compute them at each question
use mathlib.Core.Path.{◌≡◌, refl, ap, ap₂, ◌∙◌}
use mathlib.Core.Bool.{Bool, cond, not}
use mathlib.Core.List.{List, [], ◌∷◌, ◌++◌}
use mathlib.Core.Option.{none, some}
use Prim.Native.Nat.{ℕ, zero, suc}
use lib.Dec.{eqb}
use lib.ListN.{length, set}
use Rattle.base.specs.Conditions.{any_below}
use Rattle.base.specs.Lists.{list_from, joined}
use Rattle.base.specs.Totals.{total}
use Rattle.masks.specs.Masks.{union, shares, mask_of}
use Rattle.masks.specs.Turns.{turns}
use Rattle.automaton.specs.declared.Rule.{Rule}
use Rattle.automaton.specs.Successor.{after}
use Rattle.live.specs.Live.{back_to, live_of}
use Rattle.base.specs.Options.{is_none}
use Rattle.marks.specs.Marks.{text_of}
use Rattle.text.specs.Numerals.{decimal_below}
use Rattle.lines.specs.Splitting.{begins, up_to, past, lines_from, lines_of}
use Rattle.fields.specs.Numbers.{all_digits, value_from}
use Rattle.fields.specs.Bytes.{hex_value, all_hex, pairs, parse_bytes}
use Rattle.ruleformat.specs.Refusals.{too_short, too_long, bad_states, bad_symbols, no_room, bad_mask, bad_pairs, bad_section, bad_arcs, refusal}
use Rattle.ruleformat.specs.Reader.{targets_up_to, rule_of}
use Rattle.ruleformat.specs.Worked.{file_A}
use Rattle.numbering.specs.Numbering.{index_of, numbered, expand_from, close_from, keys_up_to}
use Rattle.subsets.specs.Sets.{sets_of, too_many}
use Rattle.delegates.specs.declared.Starts.{Starts}
use Rattle.delegates.specs.Alike.{delegate_in, start_set}
use Rattle.delegates.specs.Claims.{starts_in}
use Rattle.chunks.specs.Chunks.{foreign, counted, run_set, looked}
use Rattle.joins.specs.Joining.{join_of, yes_of}
use Rattle.calls.specs.Replies.{Reply, accepted, installed, judged, refused, delivered, yes_with, no_with, waiting}
use Rattle.calls.specs.Calls.{Call, installs, loads, opens, delivers, withdraws, asks_verdict, load_number, verdict_by, report_by}
use Rattle.histories.specs.History.{rule_there, rule_in, board_in, places_in, last_revision, standing, standing_count, standing_end, empties_in, bytes_in, deliver_number, reply_by, answer_of}
use Rattle.histories.specs.TableP.{report}
use Rattle.histories.proofs.TwoRules.{listed, starts_A}
use Rattle.linetexts.specs.Lists.{list_text}
use Rattle.diagnoses.specs.Diagnosing.{refused_as, find_from}
use Rattle.locating.specs.Locating.{spot_by}
use Rattle.losses.specs.Losses.{text_up_to}
use Rattle.losses.specs.Spots.{spot_number, text_with}
use Rattle.losses.specs.Answers.{stuck_from}
use Rattle.calltext.specs.Meaning.{call, call_in}
use Rattle.calltext.specs.Answers.{replied, response_text}
use Rattle.questions.specs.Meaning.{Question, diagnoses, locates, LineMeaning, question, recorded, question_in, meaning_in}
use Rattle.questions.specs.Answers.{finding_text, spot_text}
use Rattle.stream.specs.Texts.{right_to, right_line, known_after, right_text, right_answer, calls_after}
use Rattle.stream.specs.Worked.{sample_text, sample_answers, lost_text, lost_answers}

-- ---- the entries of a text
data Entry : Type 0 where
  called : List ℕ → Call → Reply → Entry
  asked : List ℕ → Question → List ℕ → Entry

abbrev Right : List Call → List Entry → Type 0
Right h [] = Unit {0}
Right h (called l c a ∷ es) = (meaning_in l ≡ recorded (call c)) × (answer_of h c ≡ a) × Right (c ∷ h) es
Right h (asked l q t ∷ es) = (meaning_in l ≡ question q) × (right_to h q ≡ t) × Right h es

abbrev lines_in : List Entry → List (List ℕ)
lines_in [] = []
lines_in (called l c a ∷ es) = l ∷ lines_in es
lines_in (asked l q t ∷ es) = l ∷ lines_in es

abbrev replies_in : List Entry → List ℕ
replies_in [] = []
replies_in (called l c a ∷ es) = response_text (replied a) ++ replies_in es
replies_in (asked l q t ∷ es) = t ++ replies_in es

answers : (h : List Call) (es : List Entry) → Right h es → right_text (some h) (lines_in es) ≡ replies_in es
unfolding list_text
answers h [] r = refl
answers h (called l c a ∷ es) r =
    ap (λ (m : LineMeaning). right_line h m ++ list_text [] right_answer calls_after (known_after h m) (lines_in es)) r.0
    ∙ ap₂ ◌++◌ (ap (λ (x : Reply). response_text (replied x)) r.1) (answers (c ∷ h) es r.2)
answers h (asked l q t ∷ es) r =
    ap (λ (m : LineMeaning). right_line h m ++ list_text [] right_answer calls_after (known_after h m) (lines_in es)) r.0 ∙ ap₂ ◌++◌ r.1 (answers h es r.2)

-- ---- what hangs on the starts
module _ (s : Starts) (h : List Call) where
  abbrev run_with : ℕ → ℕ
  run_with p = run_set s.delegates (rule_in h).n (rule_in h).initials p

  abbrev answer_with : Call → Reply
  answer_with (installs r) = answer_of h (installs r)
  answer_with (loads f) = answer_of h (loads f)
  answer_with (opens n) = answer_of h (opens n)
  answer_with (delivers p v w) = reply_by (deliver_number h p v w) (delivered (looked (rule_in h).targets (run_with p) (text_of w)))
  answer_with (withdraws p) = answer_of h (withdraws p)
  answer_with asks_verdict =
      judged
      (report_by
      (verdict_by (eqb (places_in h) 0) (empties_in h)
      (yes_of (λ p q. standing_end (rule_in h).targets (run_with p) q (standing h p)) (delegate_in s.delegates) (rule_in h).n (rule_in h).initials (rule_in h).finals (places_in h))
      (total (λ p. standing_count (rule_in h).targets (run_with p) (standing h p)) (places_in h)))
      (bytes_in h))

own : (h : List Call) (c : Call) → answer_of h c ≡ answer_with (starts_in (rule_in h)) h c
own h (installs r) = refl
own h (loads f) = refl
own h (opens n) = refl
own h (delivers p v w) = refl
own h (withdraws p) = refl
own h asks_verdict = refl

-- ---- and on the live states
module _ (live : ℕ) (h : List Call) where
  abbrev follow_with : List ℕ → Bool
  follow_with w = shares (after (rule_in h).targets (rule_in h).initials w) live

  abbrev right_with : Question → List ℕ
  right_with diagnoses =
      finding_text
      (cond (board_in h)
      (find_from (λ p. is_none (standing h p)) (λ p. not (follow_with (text_up_to h (suc p)))) 0 (places_in h))
      (refused_as 21))
  right_with (locates p w) = spot_text (spot_by (spot_number h p w) (stuck_from (λ i. follow_with (text_with h p w i)) 0 (length w)))

own_right : (h : List Call) (q : Question) → right_to h q ≡ right_with (live_of (rule_in h)) h q
own_right h diagnoses = refl
own_right h (locates p w) = refl

-- after a list whose rule has these starts and live states
module _ (r : Rule) (s : Starts) (starts : starts_in r ≡ s) (live : ℕ) (lives : live_of r ≡ live) where
  abbrev Computed : List Call → List Entry → Type 0
  Computed h [] = Unit {0}
  Computed h (called l c a ∷ es) = (meaning_in l ≡ recorded (call c)) × (rule_in h ≡ r) × (answer_with s h c ≡ a) × Computed (c ∷ h) es
  Computed h (asked l q t ∷ es) = (meaning_in l ≡ question q) × (rule_in h ≡ r) × (right_with live h q ≡ t) × Computed h es

  by_rule : (h : List Call) (es : List Entry) → Computed h es → Right h es
  by_rule h [] x = tt
  by_rule h (called l c a ∷ es) x =
      (x.0, own h c ∙ ap (λ (y : Starts). answer_with y h c) (ap starts_in x.1 ∙ starts) ∙ x.2, by_rule (c ∷ h) es x.3)
  by_rule h (asked l q t ∷ es) x =
      (x.0, own_right h q ∙ ap (λ (m : ℕ). right_with m h q) (ap live_of x.1 ∙ lives) ∙ x.2, by_rule h es x.3)

abbrev given_A : Starts
given_A = record { delegates = listed 0 1 2; startcount = 3 }

-- from the final state on the live states are found in two steps backwards, and no more are
kept_on : (f : ℕ → ℕ) (m : ℕ) → f m ≡ m → (x : ℕ) → turns f x 2 ≡ m → (i : ℕ) → turns f x (suc (suc i)) ≡ m
unfolding turns
kept_on f m stays x here zero = here
kept_on f m stays x here (suc i) = ap f (kept_on f m stays x here i) ∙ stays

module _ (r : Rule) (is : r.targets ≡ (rule_of file_A).targets) (final : r.finals ≡ 4) where
  stays : back_to (rule_of file_A).targets 7 ≡ 7
  unfolding mask_of any_below targets_up_to list_from
  stays = refl

  two : turns (back_to (rule_of file_A).targets) 4 2 ≡ 7
  unfolding turns mask_of any_below targets_up_to list_from
  two = refl

  all_live : live_of r ≡ 7
  all_live = rw (is, final) (kept_on (back_to (rule_of file_A).targets) 7 stays 4 two 30)

-- ---- samples/two_chunks.calls
abbrev first : Entry
first =
    called (108 ∷ 111 ∷ 97 ∷ 100 ∷ 32 ∷ 48 ∷ 51 ∷ 48 ∷ 50 ∷ 48 ∷ 49 ∷ 48 ∷ 48 ∷ 48 ∷ 48 ∷ 48 ∷ 48 ∷ 48 ∷ 52 ∷ 48 ∷ 48 ∷ 48 ∷ 48 ∷ 48 ∷ 48 ∷ 49 ∷ 54 ∷ 48 ∷ 48 ∷ 48 ∷ 54 ∷ 48 ∷ 48 ∷ 49 ∷ 67 ∷ 48 ∷ 48 ∷ 48 ∷ 50 ∷ 48 ∷ 48 ∷ 49 ∷ 69 ∷ 48 ∷ 48 ∷ 48 ∷ 48 ∷ 48 ∷ 48 ∷ 48 ∷ 48 ∷ 48 ∷ 48 ∷ 48 ∷ 48 ∷ 48 ∷ 49 ∷ 48 ∷ 49 ∷ 48 ∷ 48 ∷ 48 ∷ 49 ∷ 48 ∷ 50 ∷ []) (loads file_A) (installed 5 3)

abbrev others : List Entry
others =
    called (111 ∷ 112 ∷ 101 ∷ 110 ∷ 32 ∷ 50 ∷ []) (opens 2) accepted ∷
    called (118 ∷ 101 ∷ 114 ∷ 100 ∷ 105 ∷ 99 ∷ 116 ∷ []) asks_verdict (judged (report (waiting 2) 0 0 0)) ∷
    called (100 ∷ 101 ∷ 108 ∷ 105 ∷ 118 ∷ 101 ∷ 114 ∷ 32 ∷ 49 ∷ 32 ∷ 48 ∷ 32 ∷ 48 ∷ 49 ∷ []) (delivers 1 0 (1 ∷ [])) (delivered 1) ∷
    called (100 ∷ 101 ∷ 108 ∷ 105 ∷ 118 ∷ 101 ∷ 114 ∷ 32 ∷ 48 ∷ 32 ∷ 48 ∷ 32 ∷ 48 ∷ 48 ∷ []) (delivers 0 0 (0 ∷ [])) (delivered 1) ∷
    called (118 ∷ 101 ∷ 114 ∷ 100 ∷ 105 ∷ 99 ∷ 116 ∷ []) asks_verdict (judged (report (yes_with 3) 2 1 1)) ∷
    called (100 ∷ 101 ∷ 108 ∷ 105 ∷ 118 ∷ 101 ∷ 114 ∷ 32 ∷ 48 ∷ 32 ∷ 48 ∷ 32 ∷ 48 ∷ 49 ∷ []) (delivers 0 0 (1 ∷ [])) (refused 22) ∷
    called (119 ∷ 105 ∷ 116 ∷ 104 ∷ 100 ∷ 114 ∷ 97 ∷ 119 ∷ 32 ∷ 48 ∷ []) (withdraws 0) accepted ∷
    called (100 ∷ 101 ∷ 108 ∷ 105 ∷ 118 ∷ 101 ∷ 114 ∷ 32 ∷ 48 ∷ 32 ∷ 49 ∷ 32 ∷ 48 ∷ 49 ∷ []) (delivers 0 1 (1 ∷ [])) (delivered 1) ∷
    called (118 ∷ 101 ∷ 114 ∷ 100 ∷ 105 ∷ 99 ∷ 116 ∷ []) asks_verdict (judged (report (no_with 3) 2 1 1)) ∷
    []

loads_A : load_number file_A ≡ none
unfolding load_number refusal too_short too_long bad_states bad_symbols no_room bad_mask bad_pairs bad_section bad_arcs any_below targets_up_to list_from union index_of numbered expand_from close_from keys_up_to sets_of too_many
loads_A = refl

answer_load : answer_of [] (loads file_A) ≡ installed 5 3
unfolding targets_up_to list_from union index_of numbered expand_from close_from keys_up_to sets_of
answer_load = rw (loads_A, starts_A)

computed : Computed (rule_of file_A) given_A starts_A 7 (all_live (rule_of file_A) refl refl) (loads file_A ∷ []) others
unfolding question_in call_in begins up_to past all_digits value_from parse_bytes all_hex pairs hex_value load_number refusal too_short too_long bad_states bad_symbols no_room bad_mask bad_pairs bad_section bad_arcs any_below targets_up_to list_from union index_of numbered expand_from close_from keys_up_to sets_of too_many rule_there places_in last_revision standing text_of foreign counted looked delegate_in start_set total join_of
computed = (refl, refl, refl, (refl, refl, refl, (refl, refl, refl, (refl, refl, refl, (refl, refl, refl, (refl, refl, refl, (refl, refl, refl, (refl, refl, refl, (refl, refl, refl, tt)))))))))

right : Right [] (first ∷ others)
unfolding question_in call_in begins parse_bytes all_hex pairs hex_value
right = (refl, answer_load, by_rule (rule_of file_A) given_A starts_A 7 (all_live (rule_of file_A) refl refl) (loads file_A ∷ []) others computed)

pub sample : right_text (some []) (lines_of sample_text) ≡ sample_answers
unfolding lines_from decimal_below
sample = answers [] (first ∷ others) right

-- ---- samples/lost.calls: rule A with the initial state 1, whose starts are those of rule A
abbrev file_1 : List ℕ
file_1 = set file_A 2 0x02

same_targets : (rule_of file_1).targets ≡ (rule_of file_A).targets
unfolding targets_up_to list_from
same_targets = refl

starts_1 : starts_in (rule_of file_1) ≡ given_A
unfolding starts_in
starts_1 = rw same_targets starts_A

live_1 : live_of (rule_of file_1) ≡ 7
live_1 = all_live (rule_of file_1) same_targets refl

abbrev lost_first : Entry
lost_first =
    called (108 ∷ 111 ∷ 97 ∷ 100 ∷ 32 ∷ 48 ∷ 51 ∷ 48 ∷ 50 ∷ 48 ∷ 50 ∷ 48 ∷ 48 ∷ 48 ∷ 48 ∷ 48 ∷ 48 ∷ 48 ∷ 52 ∷ 48 ∷ 48 ∷ 48 ∷ 48 ∷ 48 ∷ 48 ∷ 49 ∷ 54 ∷ 48 ∷ 48 ∷ 48 ∷ 54 ∷ 48 ∷ 48 ∷ 49 ∷ 67 ∷ 48 ∷ 48 ∷ 48 ∷ 50 ∷ 48 ∷ 48 ∷ 49 ∷ 69 ∷ 48 ∷ 48 ∷ 48 ∷ 48 ∷ 48 ∷ 48 ∷ 48 ∷ 48 ∷ 48 ∷ 48 ∷ 48 ∷ 48 ∷ 48 ∷ 49 ∷ 48 ∷ 49 ∷ 48 ∷ 48 ∷ 48 ∷ 49 ∷ 48 ∷ 50 ∷ []) (loads file_1) (installed 5 3)

abbrev lost_others : List Entry
lost_others =
    asked (100 ∷ 105 ∷ 97 ∷ 103 ∷ 110 ∷ 111 ∷ 115 ∷ 101 ∷ []) diagnoses (114 ∷ 101 ∷ 102 ∷ 117 ∷ 115 ∷ 101 ∷ 100 ∷ 32 ∷ 50 ∷ 49 ∷ 10 ∷ []) ∷
    called (111 ∷ 112 ∷ 101 ∷ 110 ∷ 32 ∷ 50 ∷ []) (opens 2) accepted ∷
    called (100 ∷ 101 ∷ 108 ∷ 105 ∷ 118 ∷ 101 ∷ 114 ∷ 32 ∷ 48 ∷ 32 ∷ 48 ∷ 32 ∷ 48 ∷ 49 ∷ []) (delivers 0 0 (1 ∷ [])) (delivered 1) ∷
    asked (100 ∷ 105 ∷ 97 ∷ 103 ∷ 110 ∷ 111 ∷ 115 ∷ 101 ∷ []) diagnoses (111 ∷ 112 ∷ 101 ∷ 110 ∷ 32 ∷ 49 ∷ 10 ∷ []) ∷
    asked (108 ∷ 111 ∷ 99 ∷ 97 ∷ 116 ∷ 101 ∷ 32 ∷ 49 ∷ 32 ∷ 48 ∷ 48 ∷ []) (locates 1 (0 ∷ [])) (97 ∷ 102 ∷ 116 ∷ 101 ∷ 114 ∷ 32 ∷ 49 ∷ 10 ∷ []) ∷
    asked (108 ∷ 111 ∷ 99 ∷ 97 ∷ 116 ∷ 101 ∷ 32 ∷ 49 ∷ 32 ∷ 45 ∷ []) (locates 1 []) (110 ∷ 111 ∷ 119 ∷ 104 ∷ 101 ∷ 114 ∷ 101 ∷ 10 ∷ []) ∷
    called (100 ∷ 101 ∷ 108 ∷ 105 ∷ 118 ∷ 101 ∷ 114 ∷ 32 ∷ 49 ∷ 32 ∷ 48 ∷ 32 ∷ 70 ∷ 70 ∷ 48 ∷ 48 ∷ []) (delivers 1 0 (255 ∷ 0 ∷ [])) (delivered 1) ∷
    asked (100 ∷ 105 ∷ 97 ∷ 103 ∷ 110 ∷ 111 ∷ 115 ∷ 101 ∷ []) diagnoses (108 ∷ 111 ∷ 115 ∷ 116 ∷ 32 ∷ 49 ∷ 10 ∷ []) ∷
    asked (108 ∷ 111 ∷ 99 ∷ 97 ∷ 116 ∷ 101 ∷ 32 ∷ 49 ∷ 32 ∷ 70 ∷ 70 ∷ 48 ∷ 48 ∷ []) (locates 1 (255 ∷ 0 ∷ [])) (97 ∷ 102 ∷ 116 ∷ 101 ∷ 114 ∷ 32 ∷ 50 ∷ 10 ∷ []) ∷
    asked (108 ∷ 111 ∷ 99 ∷ 97 ∷ 116 ∷ 101 ∷ 32 ∷ 48 ∷ 32 ∷ 48 ∷ 49 ∷ []) (locates 0 (1 ∷ [])) (110 ∷ 111 ∷ 119 ∷ 104 ∷ 101 ∷ 114 ∷ 101 ∷ 10 ∷ []) ∷
    []

loads_1 : load_number file_1 ≡ none
unfolding load_number refusal too_short too_long bad_states bad_symbols no_room bad_mask bad_pairs bad_section bad_arcs any_below targets_up_to list_from union index_of numbered expand_from close_from keys_up_to sets_of too_many
loads_1 = refl

answer_load_1 : answer_of [] (loads file_1) ≡ installed 5 3
unfolding targets_up_to list_from union index_of numbered expand_from close_from keys_up_to sets_of
answer_load_1 = rw (loads_1, starts_1)

lost_computed : Computed (rule_of file_1) given_A starts_1 7 live_1 (loads file_1 ∷ []) lost_others
unfolding decimal_below joined question_in board_in find_from stuck_from call_in begins up_to past all_digits value_from parse_bytes all_hex pairs hex_value load_number refusal too_short too_long bad_states bad_symbols no_room bad_mask bad_pairs bad_section bad_arcs any_below targets_up_to list_from union index_of numbered expand_from close_from keys_up_to sets_of too_many rule_there places_in last_revision standing text_of foreign counted looked delegate_in start_set total join_of
lost_computed = (refl, refl, refl, (refl, refl, refl, (refl, refl, refl, (refl, refl, refl, (refl, refl, refl, (refl, refl, refl, (refl, refl, refl, (refl, refl, refl, (refl, refl, refl, (refl, refl, refl, tt))))))))))

lost_right : Right [] (lost_first ∷ lost_others)
unfolding question_in call_in begins parse_bytes all_hex pairs hex_value
lost_right = (refl, answer_load_1, by_rule (rule_of file_1) given_A starts_1 7 live_1 (loads file_1 ∷ []) lost_others lost_computed)

pub lost_sample : right_text (some []) (lines_of lost_text) ≡ lost_answers
unfolding lines_from decimal_below
lost_sample = answers [] (lost_first ∷ lost_others) lost_right
