-- The answers to samples/tray.calls, by computation. Assumes nothing.
--
--   two_starts      a rule of two live states that some text tells apart has two starts
--   Entry           a line, what it means, and the answer to it
--   Right h es      each line is read so, and its answer is the right one after the calls h and those
--                   of the lines before it
use mathlib.Core.Path.{◌≡◌, refl, sym, ap, ap₂, ◌∙◌, subst}
use mathlib.Core.Logic.{◌↔◌}
use mathlib.Core.Bool.{Bool, true, false, true≢false}
use mathlib.Core.List.{List, [], ◌∷◌, ◌++◌}
use mathlib.Core.Option.{Option, none, some}
use Prim.Native.Nat.{ℕ, zero, suc, ◌≤◌, ◌<◌}
use native.Mathlib.Omega.{arith}
use lib.Dec.{lit<}
use lib.ListN.{get_or, replicate}
use Rattle.base.specs.Conditions.{any_below}
use Rattle.base.specs.Lists.{list_from}
use Rattle.base.proofs.Lists.{zero_cells}
use Rattle.base.specs.Totals.{total}
use Rattle.masks.specs.Masks.{single, union, shares}
use Rattle.text.specs.Numerals.{decimal_below}
use Rattle.lines.specs.Splitting.{begins, up_to, past, lines_from, lines_of}
use Rattle.fields.specs.Numbers.{all_digits, value_from}
use Rattle.fields.specs.Bytes.{hex_value, all_hex, pairs, parse_bytes}
use Rattle.automaton.specs.declared.Rule.{Rule}
use Rattle.automaton.specs.Automaton.{Automaton, Text}
use Rattle.automaton.specs.Rules.{automaton_of, WellFormed}
use Rattle.automaton.specs.Successor.{after}
use Rattle.rulecheck.specs.Checking.{bad_targets}
use Rattle.ruleformat.specs.Refusals.{too_short, too_long, bad_states, bad_symbols, no_room, bad_mask, bad_pairs, bad_section, bad_arcs, refusal}
use Rattle.ruleformat.specs.Reader.{targets_up_to, rule_of}
use Rattle.ruleformat.proofs.Claims as rulefile
use Rattle.numbering.specs.Numbering.{index_of, numbered, expand_from, close_from, keys_up_to}
use Rattle.subsets.specs.Sets.{sets_of, too_many}
use Rattle.subsets.specs.Claims.{fits}
use Rattle.subsets.proofs.Claims as subsets
use Rattle.delegates.specs.Alike.{AcceptsFrom, Alike, Delegate, delegate_cell, start_count, Merged}
use Rattle.delegates.specs.Claims.{starts_in}
use Rattle.delegates.proofs.Tests.{le_by}
use Rattle.delegates.proofs.Acceptance.{from_law}
use Rattle.delegates.proofs.Claims as delegates
use Rattle.chunks.specs.Chunks.{foreign}
use Rattle.calls.specs.Calls.{install_number}
use Rattle.trays.specs.Rows.{rows_of, rows_up_to, column_of, rows_pass, columns_pass}
use Rattle.trays.specs.Replies.{Reply, accepted, installed, judged, refused, waiting, says_yes, says_no}
use Rattle.trays.specs.Calls.{Call, opens, delivers, withdraws, asks_verdict}
use Rattle.trayhistories.specs.History.{row_there, column_there, board_there, standing}
use Rattle.traytext.specs.Lines.{Meaning, call, row_file, column_file, call_in, line_in}
use Rattle.traytext.specs.Answers.{replied, response_text}
use Rattle.linetexts.specs.Lists.{list_text}
use Rattle.traystream.specs.Texts.{history_after, right_response, right_answer, calls_after, right_text}
use Rattle.traystream.specs.Worked.{sample_text, sample_answers}

-- ---- rules of two states
abbrev both : List ℕ
both = 0 ∷ 1 ∷ replicate 30 0

both_merged : (a : Automaton) → a.n ≡ 2 → Delegate a 0 (some 0) → Delegate a 1 (some 1) → Merged a both 2
unfolding start_count
both_merged a two first second =
    record { cells = refl; delegates = λ q h. cell q (rw two at h); zeros = λ q h. past q (rw two at h); starts = rw two }
  where
    cell : (q : ℕ) → q < 2 → (o : Option ℕ) × Delegate a q o × (get_or both q 0 ≡ delegate_cell o)
    cell zero h = (some 0, first, refl)
    cell (suc zero) h = (some 1, second, refl)
    cell (suc (suc q)) h = absurd (omega arith)

    past : (q : ℕ) → 2 ≤ q → get_or both q 0 ≡ 0
    past zero h = absurd (omega arith)
    past (suc zero) h = absurd (omega arith)
    past (suc (suc q)) h = zero_cells 30 q

-- some accepting run over w starts in q
abbrev accepting : Rule → ℕ → List ℕ → Bool
accepting r q w = shares (after r.targets (single q) w) r.finals

module _ (r : Rule) (good : WellFormed r) (fit : fits r) (two : r.n ≡ 2) where
  from : (q : ℕ) → q < 2 → (w : List ℕ) → AcceptsFrom (automaton_of r) q w ↔ (accepting r q w ≡ true)
  from q h = from_law subsets.claims r good fit q (rw two h)

  two_starts : (u v w : List ℕ) → Text r.k w → accepting r 0 u ≡ true → accepting r 1 v ≡ true → accepting r 0 w ≡ true → accepting r 1 w ≡ false
      → (starts_in r).startcount ≡ 2
  two_starts u v w x live₀ live₁ is not =
      let a = automaton_of r in
      let self = (delegates.claims).alike_self a in
      let apart : Alike a 1 0 → ⊥ = λ same. true≢false (sym ((from 1 (lit< tt) w).0 ((same w x).1 ((from 0 (lit< tt) w).1 is))) ∙ not) in
      let above : (p : ℕ) → Alike a 1 p → 1 ≤ p = λ p s. le_by 1 p (λ b. apart (subst (Alike a 1) (omega arith) s)) in
      let first : Delegate a 0 (some 0) =
      (record { text = u; accepts = (from 0 (lit< tt) u).1 live₀ }, record { state = rw two (lit< tt); alike = self 0; lowest = λ p l s. omega arith }) in
      let second : Delegate a 1 (some 1) =
      (record { text = v; accepts = (from 1 (lit< tt) v).1 live₁ }, record { state = rw two (lit< tt); alike = self 1; lowest = λ p l s. above p s }) in
      ((delegates.claims).one_list a (starts_in r).delegates both (starts_in r).startcount 2 ((delegates.claims).merged r good fit) (both_merged a two first second)).1

-- ---- the two files
abbrev rows : List ℕ
rows = 2 ∷ 2 ∷ 1 ∷ 0 ∷ 0 ∷ 0 ∷ 3 ∷ 0 ∷ 0 ∷ 0 ∷ 18 ∷ 0 ∷ 4 ∷ 0 ∷ 22 ∷ 0 ∷ 2 ∷ 0 ∷ 0 ∷ 0 ∷ 1 ∷ 1 ∷ 0 ∷ 1 ∷ []

abbrev columns : List ℕ
columns = 2 ∷ 2 ∷ 1 ∷ 0 ∷ 0 ∷ 0 ∷ 1 ∷ 0 ∷ 0 ∷ 0 ∷ 18 ∷ 0 ∷ 4 ∷ 0 ∷ 22 ∷ 0 ∷ 4 ∷ 0 ∷ 0 ∷ 0 ∷ 1 ∷ 1 ∷ 0 ∷ 0 ∷ 1 ∷ 1 ∷ []

read : (refusal rows ≡ none) × (refusal columns ≡ none)
unfolding refusal too_short too_long bad_states bad_symbols no_room bad_mask bad_pairs bad_section bad_arcs any_below
read = (refl, refl)

taken : (install_number (rule_of rows) ≡ none) × (install_number (rule_of columns) ≡ none)
unfolding install_number bad_targets bad_mask any_below targets_up_to list_from union index_of numbered expand_from close_from keys_up_to sets_of too_many
taken = (refl, refl)

few : fits (rule_of rows) × fits (rule_of columns)
unfolding targets_up_to list_from union index_of numbered expand_from close_from keys_up_to sets_of too_many
few = (refl, refl)

-- 1 is accepted from state 0 of the one and not from 1; nothing from state 0 of the other alone, and 0
-- from both
starts_rows : (starts_in (rule_of rows)).startcount ≡ 2
unfolding targets_up_to list_from union
starts_rows = two_starts (rule_of rows) ((rulefile.claims).well_formed rows read.0) few.0 refl [] [] (1 ∷ []) (lit< tt, tt) refl refl refl refl

starts_columns : (starts_in (rule_of columns)).startcount ≡ 2
unfolding targets_up_to list_from union
starts_columns = two_starts (rule_of columns) ((rulefile.claims).well_formed columns read.1) few.1 refl [] (0 ∷ []) [] tt refl refl refl refl

-- ---- the entries of a text
record Entry : Type 0 where
  line : List ℕ
  means : Meaning
  reply : Reply

abbrev entry : List ℕ → Meaning → Reply → Entry
entry l m a = record { line = l; means = m; reply = a }

-- the calls that a line leaves, where it is not malformed
abbrev given : Option (List Call) → List Call
given none = []
given (some h) = h

abbrev leaves : List Call → Meaning → List Call
leaves h m = given (history_after h m)

abbrev Right : List Call → List Entry → Type 0
Right h [] = Unit {0}
Right h (e ∷ es) =
    (line_in e.line ≡ e.means) × (right_response h e.means ≡ replied e.reply) × (history_after h e.means ≡ some (leaves h e.means))
    × Right (leaves h e.means) es

abbrev lines_in : List Entry → List (List ℕ)
lines_in [] = []
lines_in (e ∷ es) = e.line ∷ lines_in es

abbrev replies_in : List Entry → List ℕ
replies_in [] = []
replies_in (e ∷ es) = response_text (replied e.reply) ++ replies_in es

answers : (h : List Call) (es : List Entry) → Right h es → right_text (some h) (lines_in es) ≡ replies_in es
unfolding list_text
answers h [] r = refl
answers h (e ∷ es) r =
    ap (λ (m : Meaning). response_text (right_response h m) ++ list_text [] right_answer calls_after (history_after h m) (lines_in es)) r.0
    ∙ ap₂ ◌++◌ (ap response_text r.1) (ap (λ (o : Option (List Call)). right_text o (lines_in es)) r.2 ∙ answers (leaves h e.means) es r.3)

abbrev entries : List Entry
entries =
    entry (114 ∷ 111 ∷ 119 ∷ 32 ∷ 48 ∷ 50 ∷ 48 ∷ 50 ∷ 48 ∷ 49 ∷ 48 ∷ 48 ∷ 48 ∷ 48 ∷ 48 ∷ 48 ∷ 48 ∷ 51 ∷ 48 ∷ 48 ∷ 48 ∷ 48 ∷ 48 ∷ 48 ∷ 49 ∷ 50 ∷ 48 ∷ 48 ∷ 48 ∷ 52 ∷ 48 ∷ 48 ∷ 49 ∷ 54 ∷ 48 ∷ 48 ∷ 48 ∷ 50 ∷ 48 ∷ 48 ∷ 48 ∷ 48 ∷ 48 ∷ 48 ∷ 48 ∷ 49 ∷ 48 ∷ 49 ∷ 48 ∷ 48 ∷ 48 ∷ 49 ∷ []) (row_file rows) (installed 2 2) ∷
    entry (99 ∷ 111 ∷ 108 ∷ 117 ∷ 109 ∷ 110 ∷ 32 ∷ 48 ∷ 50 ∷ 48 ∷ 50 ∷ 48 ∷ 49 ∷ 48 ∷ 48 ∷ 48 ∷ 48 ∷ 48 ∷ 48 ∷ 48 ∷ 49 ∷ 48 ∷ 48 ∷ 48 ∷ 48 ∷ 48 ∷ 48 ∷ 49 ∷ 50 ∷ 48 ∷ 48 ∷ 48 ∷ 52 ∷ 48 ∷ 48 ∷ 49 ∷ 54 ∷ 48 ∷ 48 ∷ 48 ∷ 52 ∷ 48 ∷ 48 ∷ 48 ∷ 48 ∷ 48 ∷ 48 ∷ 48 ∷ 49 ∷ 48 ∷ 49 ∷ 48 ∷ 48 ∷ 48 ∷ 48 ∷ 48 ∷ 49 ∷ 48 ∷ 49 ∷ []) (column_file columns) (installed 2 2) ∷
    entry (111 ∷ 112 ∷ 101 ∷ 110 ∷ 32 ∷ 51 ∷ 32 ∷ 50 ∷ []) (call (opens 3 2)) accepted ∷
    entry (118 ∷ 101 ∷ 114 ∷ 100 ∷ 105 ∷ 99 ∷ 116 ∷ []) (call asks_verdict) (judged (waiting 2)) ∷
    entry (100 ∷ 101 ∷ 108 ∷ 105 ∷ 118 ∷ 101 ∷ 114 ∷ 32 ∷ 49 ∷ 32 ∷ 48 ∷ 48 ∷ 48 ∷ 48 ∷ 48 ∷ 48 ∷ []) (call (delivers 1 (0 ∷ 0 ∷ 0 ∷ []))) accepted ∷
    entry (100 ∷ 101 ∷ 108 ∷ 105 ∷ 118 ∷ 101 ∷ 114 ∷ 32 ∷ 48 ∷ 32 ∷ 48 ∷ 49 ∷ 48 ∷ 48 ∷ 48 ∷ 48 ∷ 48 ∷ 48 ∷ 48 ∷ 49 ∷ 48 ∷ 48 ∷ []) (call (delivers 0 (1 ∷ 0 ∷ 0 ∷ 0 ∷ 1 ∷ 0 ∷ []))) accepted ∷
    entry (118 ∷ 101 ∷ 114 ∷ 100 ∷ 105 ∷ 99 ∷ 116 ∷ []) (call asks_verdict) (judged says_yes) ∷
    entry (119 ∷ 105 ∷ 116 ∷ 104 ∷ 100 ∷ 114 ∷ 97 ∷ 119 ∷ 32 ∷ 49 ∷ []) (call (withdraws 1)) accepted ∷
    entry (118 ∷ 101 ∷ 114 ∷ 100 ∷ 105 ∷ 99 ∷ 116 ∷ []) (call asks_verdict) (judged (waiting 1)) ∷
    entry (100 ∷ 101 ∷ 108 ∷ 105 ∷ 118 ∷ 101 ∷ 114 ∷ 32 ∷ 49 ∷ 32 ∷ 48 ∷ 48 ∷ 48 ∷ 48 ∷ 48 ∷ 49 ∷ []) (call (delivers 1 (0 ∷ 0 ∷ 1 ∷ []))) accepted ∷
    entry (118 ∷ 101 ∷ 114 ∷ 100 ∷ 105 ∷ 99 ∷ 116 ∷ []) (call asks_verdict) (judged says_no) ∷
    entry (100 ∷ 101 ∷ 108 ∷ 105 ∷ 118 ∷ 101 ∷ 114 ∷ 32 ∷ 49 ∷ 32 ∷ 48 ∷ 48 ∷ 48 ∷ 48 ∷ []) (call (delivers 1 (0 ∷ 0 ∷ []))) (refused 39) ∷
    []

right : Right [] entries
unfolding call_in begins up_to past all_digits value_from parse_bytes all_hex pairs hex_value refusal too_short too_long bad_states bad_symbols no_room bad_mask bad_pairs bad_section bad_arcs any_below install_number bad_targets targets_up_to list_from union index_of numbered expand_from close_from keys_up_to sets_of too_many row_there column_there board_there standing total foreign rows_of rows_up_to column_of rows_pass columns_pass
right = (
  refl,
  rw starts_rows,
  refl,
  (
    refl,
    rw starts_columns,
    refl,
    (
      refl,
      refl,
      refl,
      (
        refl,
        refl,
        refl,
        (
          refl,
          refl,
          refl,
          (
            refl,
            refl,
            refl,
            (refl, refl, refl, (refl, refl, refl, (refl, refl, refl, (refl, refl, refl, (refl, refl, refl, (refl, refl, refl, tt)))))),
          ),
        ),
      ),
    ),
  ),
)

pub sample : right_text (some []) (lines_of sample_text) ≡ sample_answers
unfolding lines_from decimal_below
sample = answers [] entries right
