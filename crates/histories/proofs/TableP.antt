-- Table P of document 01, and the case by hand, of the definitions: proofs/TablePRuns.antt ties
-- them to functions. Assumes nothing.
--
-- The claim over every list of calls says that the replies are document 01's answers, and those
-- compute once the delegates of rules A and B are put in.
use mathlib.Core.Path.{◌≡◌, refl, sym, ap, ap₂, ◌∙◌, subst, subst₃, fun_ext}
use mathlib.Core.Bool.{Bool, false, cond, ◌&&◌, and-true}
use mathlib.Core.List.{List, [], ◌∷◌}
use mathlib.Core.Option.{Option, none, some}
use Prim.Native.Nat.{ℕ, suc}
use lib.Dec.{eqb}
use lib.ListN.{length}
use Rattle.base.specs.Conditions.{any_below, outside}
use Rattle.base.specs.Lists.{list_from}
use Rattle.base.specs.Options.{is_none}
use Rattle.base.specs.Totals.{total}
use Rattle.masks.specs.Masks.{union}
use Rattle.marks.specs.Marks.{text_of}
use Rattle.automaton.specs.declared.Rule.{Rule}
use Rattle.ruleformat.specs.Refusals.{too_short, too_long, bad_states, bad_symbols, no_room, bad_mask, bad_pairs, bad_section, bad_arcs, refusal}
use Rattle.ruleformat.specs.Reader.{targets_up_to, rule_of}
use Rattle.numbering.specs.Numbering.{index_of, numbered, expand_from, close_from, keys_up_to}
use Rattle.subsets.specs.Sets.{sets_of, too_many, next_set}
use Rattle.delegates.specs.declared.Starts.{Starts}
use Rattle.delegates.specs.Claims.{starts_in}
use Rattle.build.specs.mirror.Building.{built_of}
use Rattle.delegates.specs.Alike.{delegate_in, start_set}
use Rattle.chunks.specs.Chunks.{foreign, counted, run_set, looked}
use Rattle.joins.specs.Joining.{join_of, yes_of}
use Rattle.histories.specs.History.{rule_there, rule_from, open_number, places_in, standing_count, standing_end, deliver_check, last_revision, standing, deliver_number, standing_text, report_in, answers_to, rule_in, looked_of, reply_by, answer_of}
use Rattle.calls.specs.Replies.{Reported, Reply, accepted, installed, judged, refused, delivered}
use Rattle.calls.specs.Calls.{Call, loads, opens, delivers, load_number, verdict_by, report_by, with_sets}
use Rattle.calls.proofs.Conditions.{load_number_lem}
use Rattle.histories.specs.Claims.{judge_after, replies_to, BuiltBy}
use Rattle.histories.specs.TableP.{sets, delegates, verdict, turned_down_lem, Case, case, delivering, answering, calls_for, calls_of, replies_of, rows_from, Shows, AsTabled, Each, cases}
use Rattle.histories.proofs.EveryList.{every_list}
use Rattle.histories.proofs.TwoRules.{listed, starts_A, starts_B}

-- ---- what hangs on the delegates, with the delegates d put in
module _ (r : Rule) (d : List ℕ) (places : ℕ) (at : ℕ → Option (List ℕ)) where
  abbrev counts_by : ℕ → Option (List ℕ) → ℕ
  counts_by p chunk = standing_count r.targets (run_set d r.n r.initials p) chunk

  abbrev report_with : Reported
  report_with =
      report_by
      (verdict_by (eqb places 0) (total (λ p. cond (is_none (at p)) 1 0) places)
      (yes_of (λ p q. standing_end r.targets (run_set d r.n r.initials p) q (at p)) (delegate_in d) r.n r.initials r.finals places)
      (total (λ p. counts_by p (at p)) places))
      (total (λ p. length (standing_text (at p))) places)

-- ---- the calls of a verdict, one by one: the rule is r, and the board has these places
-- and standing chunks
record Stage (r : Rule) (h : List Call) (places : ℕ) (at : ℕ → Option (List ℕ)) (last : ℕ → Option ℕ) : Type 0 where
  rule : rule_there h ≡ some r
  board : places_in h ≡ places
  stands : standing h ≡ at
  revisions : last_revision h ≡ last

abbrev put : {A : Type 0} → (ℕ → Option A) → ℕ → A → ℕ → Option A
put at p x i = cond (eqb p i) (some x) (at i)

abbrev put_all : ℕ → List (List ℕ × ℕ) → (ℕ → Option (List ℕ)) → ℕ → Option (List ℕ)
put_all p [] at = at
put_all p (c ∷ cs) at = put_all (suc p) cs (put at p c.0)

-- revision 0 at the places of the chunks
abbrev last_all : ℕ → List (List ℕ × ℕ) → (ℕ → Option ℕ) → ℕ → Option ℕ
last_all p [] last = last
last_all p (c ∷ cs) last = last_all (suc p) cs (put last p 0)

-- each delivery meets no condition, and a successor is looked up for as many bytes as stand beside
-- its chunk; with the delegates d put in
abbrev Checked : Rule → List ℕ → ℕ → ℕ → List (List ℕ × ℕ) → (ℕ → Option ℕ) → Type 0
Checked r d places p [] last = Unit {0}
Checked r d places p (c ∷ cs) last =
    (deliver_check r.k places (last p) p 0 c.0 ≡ none) × (looked r.targets (run_set d r.n r.initials p) (text_of c.0) ≡ c.1)
    × Checked r d places (suc p) cs (put last p 0)

opened : (f : List ℕ) (n : ℕ) → load_number f ≡ none → outside 1 64 n ≡ false
    → (open_number (loads f ∷ []) n ≡ none) × Stage (rule_of f) (opens n ∷ loads f ∷ []) n (λ _. none) (λ _. none)
unfolding rule_there places_in standing last_revision
opened f n taken fine = (rw (taken, fine), record { rule = rw taken; board = rw (taken, fine); stands = fun_ext (λ i. rw (taken, fine)); revisions = fun_ext (λ i. rw (taken, fine)) })

module _ (r : Rule) (places : ℕ) (d : List ℕ) (is : (starts_in r).delegates ≡ d) where
  one_delivered : (h : List Call) (at : ℕ → Option (List ℕ)) (last : ℕ → Option ℕ) (p : ℕ) (w : List ℕ) (n : ℕ) → Stage r h places at last
      → deliver_check r.k places (last p) p 0 w ≡ none
      → looked r.targets (run_set d r.n r.initials p) (text_of w) ≡ n
      → (answer_of h (delivers p 0 w) ≡ delivered n) × Stage r (delivers p 0 w ∷ h) places (put at p w) (put last p 0)
  unfolding rule_there places_in standing last_revision
  one_delivered h at last p w n s e looks =
      let there : deliver_number h p 0 w ≡ none =
      subst₃ (λ (x : Option Rule) (y : ℕ) (z : ℕ → Option ℕ). deliver_check (rule_from x).k y (z p) p 0 w ≡ none) (sym s.rule) (sym s.board) (sym s.revisions) e in
      let number : looked_of (rule_in h) p w ≡ n =
      ap (λ (x : Option Rule). looked_of (rule_from x) p w) s.rule
      ∙ ap (λ (x : List ℕ). looked r.targets (run_set x r.n r.initials p) (text_of w)) is
      ∙ looks in (
        ap₂ (λ (o : Option ℕ) (m : ℕ). reply_by o (delivered m)) there number,
        record {
          rule = s.rule;
          board = s.board;
          stands = fun_ext (λ i.
              ap (λ (t : Bool). cond t (some w) (standing h i)) (ap (λ (u : Bool). eqb p i && u) (ap is_none there) ∙ and-true (eqb p i))
              ∙ ap (λ (z : ℕ → Option (List ℕ)). put z p w i) s.stands);
          revisions = fun_ext (λ i.
              ap (λ (t : Bool). cond t (some 0) (last_revision h i)) (ap (λ (u : Bool). eqb p i && u) (ap is_none there) ∙ and-true (eqb p i))
              ∙ ap (λ (z : ℕ → Option ℕ). put z p 0 i) s.revisions);
        },
      )

  all_delivered : (cs : List (List ℕ × ℕ)) (h : List Call) (at : ℕ → Option (List ℕ)) (last : ℕ → Option ℕ) (p : ℕ) → Stage r h places at last → Checked r d places p cs last
      → (answers_to (delivering p cs h) ≡ answering cs (answers_to h)) × Stage r (delivering p cs h) places (put_all p cs at) (last_all p cs last)
  unfolding answers_to
  all_delivered [] h at last p s x = (refl, s)
  all_delivered (c ∷ cs) h at last p s x =
      let one = one_delivered h at last p c.0 c.1 s x.0 x.1 in
      let rest = all_delivered cs (delivers p 0 c.0 ∷ h) (put at p c.0) (put last p 0) (suc p) one.1 x.2 in
      (rest.0 ∙ ap (λ (a : Reply). answering cs (a ∷ answers_to h)) one.0, rest.1)

  asked : (h : List Call) (at : ℕ → Option (List ℕ)) (last : ℕ → Option ℕ) → Stage r h places at last → report_in h ≡ report_with r d places at
  asked h at last s =
      subst₃ (λ (x : Option Rule) (y : ℕ) (z : ℕ → Option (List ℕ)). report_with (rule_from x) (starts_in (rule_from x)).delegates y z ≡ report_with r d places at)
      (sym s.rule) (sym s.board) (sym s.stands)
      (ap (λ (x : List ℕ). report_with r x places at) is)

-- ---- what is left to compute of a case
-- of a file that is accepted: what is answered
abbrev Accepted : List ℕ → Reply → Type 0
Accepted f load = (load_number f ≡ none) × (with_sets (rule_of f) ≡ load)

-- of a verdict, with the starts x put in
abbrev Taken : List ℕ → Reply → Starts → List (List ℕ × ℕ) → Reported → Type 0
Taken f load x chunks v =
    (load_number f ≡ none) × (installed (length (sets_of (rule_of f).targets (rule_of f).n (rule_of f).k)) x.startcount ≡ load) × (outside 1 64 (length chunks) ≡ false)
    × Checked (rule_of f) x.delegates (length chunks) 0 chunks (λ _. none)
    × (report_with (rule_of f) x.delegates (length chunks) (put_all 0 chunks (λ _. none)) ≡ v)

abbrev Left : Case → Type 0
Left (case f load (sets masks rows)) = Accepted f load × Shows f (sets masks rows) (built_of (rule_of f))
Left (case f load (delegates ds)) = Accepted f load × Shows f (delegates ds) (built_of (rule_of f))
Left (case f load (verdict chunks v)) = (x : Starts) × (starts_in (rule_of f) ≡ x) × Taken f load x chunks v
Left (case f load (turned_down_lem x)) = (refusal f ≡ some x) × (load ≡ refused x)

-- ---- and what follows from it
-- of the replies to the calls of the case and of the state that they leave, `AsTabled` is true
abbrev pub CaseHolds : Case → Type 0
CaseHolds c = AsTabled c (replies_to (calls_of c)) (judge_after (calls_of c))

-- the load is answered, and the rule is built
loads_so : (f : List ℕ) (load : Reply) → Accepted f load → answers_to (loads f ∷ []) ≡ load ∷ []
unfolding answers_to
loads_so f load a = ap (λ (x : Reply). x ∷ []) (ap (λ (o : Option ℕ). reply_by o (with_sets (rule_of f))) a.0 ∙ a.1)

built_so : (f : List ℕ) → load_number f ≡ none → (judge_after (loads f ∷ [])).built ≡ built_of (rule_of f)
unfolding rule_there
built_so f e =
    let there : rule_there (loads f ∷ []) ≡ some (rule_of f) = rw e in
    (subst (λ (present : Option Rule). BuiltBy present (judge_after (loads f ∷ []))) there (every_list (loads f ∷ [])).after.rule).0

verdict_answers : (f : List ℕ) (load : Reply) (x : Starts) (chunks : List (List ℕ × ℕ)) (v : Reported) → starts_in (rule_of f) ≡ x → Taken f load x chunks v
    → answers_to (calls_of (case f load (verdict chunks v))) ≡ replies_of (case f load (verdict chunks v))
unfolding answers_to
verdict_answers f load x chunks v is t =
    let r = rule_of f in
    let n = length chunks in
    let o = opened f n t.0 t.2 in
    let same = ap (λ (s : Starts). s.delegates) is in
    let h = opens n ∷ loads f ∷ [] in
    let d = all_delivered r n x.delegates same chunks h (λ _. none) (λ _. none) 0 o.1 t.3 in
    let first : answers_to h ≡ accepted ∷ load ∷ [] = rw (o.0, t.0, is, t.1) in
    ap₂ ◌∷◌
    (ap judged (asked r n x.delegates same (delivering 0 chunks h) (put_all 0 chunks (λ _. none)) (last_all 0 chunks (λ _. none)) d.1 ∙ t.4))
    (d.0 ∙ ap (answering chunks) first)

-- a file that is not read is refused with its number
load_refused : (f : List ℕ) (x : ℕ) → refusal f ≡ some x → answers_to (loads f ∷ []) ≡ refused x ∷ []
unfolding answers_to
load_refused f x e = let number : load_number f ≡ some x = load_number_lem f ∙ rw e in rw number

holds : (c : Case) → Left c → CaseHolds c
holds (case f load (sets masks rows)) l =
    ((every_list (loads f ∷ [])).correct ∙ loads_so f load l.0, subst (Shows f (sets masks rows)) (sym (built_so f l.0.0)) l.1)
holds (case f load (delegates ds)) l =
    ((every_list (loads f ∷ [])).correct ∙ loads_so f load l.0, subst (Shows f (delegates ds)) (sym (built_so f l.0.0)) l.1)
holds (case f load (verdict chunks v)) l =
    ((every_list (calls_for f (verdict chunks v))).correct ∙ verdict_answers f load l.0 chunks v l.1 l.2, tt)
holds (case f load (turned_down_lem x)) l =
    ((every_list (loads f ∷ [])).correct ∙ load_refused f x l.0 ∙ ap (λ (a : Reply). a ∷ []) (sym l.1), l.0)

pub each : {P Q : Case → Type 0} → ((c : Case) → P c → Q c) → (cases : List Case) → Each P cases → Each Q cases
each g [] x = tt
each g (c ∷ cases) x = (g c x.0, each g cases x.1)

-- ---- the cases, in the order of the list
infixr 20 ◌&◌
abbrev ◌&◌ : {A B : Type 0} → A → B → A × B
a & b = (a, b)

abbrev given_A : Starts
given_A = record { delegates = listed 0 1 2; startcount = 3 }

abbrev given_B : Starts
given_B = record { delegates = listed 0 1 1; startcount = 2 }

computed : Each Left cases
unfolding load_number refusal too_short too_long bad_states bad_symbols no_room bad_mask bad_pairs bad_section bad_arcs any_below targets_up_to list_from union index_of numbered expand_from close_from keys_up_to sets_of too_many next_set rows_from places_in standing last_revision text_of foreign counted looked delegate_in start_set total join_of
computed =
    ((refl, rw starts_A), (refl, refl)) &
    ((refl, rw starts_B), rw starts_B) &
    (given_A, starts_A, (refl, refl, refl, (refl, refl, (refl, refl, tt)), refl)) &
    (given_A, starts_A, (refl, refl, refl, (refl, refl, (refl, refl, tt)), refl)) &
    (given_A, starts_A, (refl, refl, refl, (refl, refl, tt), refl)) &
    (given_B, starts_B, (refl, refl, refl, (refl, refl, (refl, refl, tt)), refl)) &
    (given_B, starts_B, (refl, refl, refl, (refl, refl, (refl, refl, tt)), refl)) &
    (given_B, starts_B, (refl, refl, refl, (refl, refl, tt), refl)) &
    (given_B, starts_B, (refl, refl, refl, (refl, refl, (refl, refl, (refl, refl, tt))), refl)) & (refl, refl) &
    (given_A, starts_A, (refl, refl, refl, (refl, refl, tt), refl)) & tt

pub cases_hold : Each CaseHolds cases
cases_hold = each {P = Left} {Q = CaseHolds} holds cases computed
