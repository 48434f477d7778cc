-- The one proof of all that specs/Boards.antt claims. The route: the set after the chunks' texts, joined,
-- has a final state exactly where the rule accepts that text (follow), and so does the verdict of a
-- filled board (histories). Assumes nothing.
use mathlib.Core.Path.{◌≡◌, refl, sym, ap, ◌∙◌, subst}
use mathlib.Core.Logic.{◌↔◌}
use mathlib.Core.Bool.{true, false}
use mathlib.Core.List.{List, [], ◌∷◌, ◌++◌, append-nil, append_assoc, map, flatten}
use mathlib.Core.Option.{none, some}
use Prim.Native.Nat.{ℕ, ◌+◌, ◌<◌}
use native.Mathlib.Omega.{arith}
use lib.ListN.{length, get_or, length-append, get_or-append}
use lib.Seq.{get_or-append_seam}
use Rattle.base.proofs.Tests.{by_test, not_both}
use Rattle.marks.specs.Marks.{text_of}
use Rattle.automaton.specs.declared.Rule.{Rule}
use Rattle.automaton.specs.Automaton.{Accepts}
use Rattle.automaton.specs.Rules.{automaton_of}
use Rattle.calls.specs.Replies.{yes_with, no_with}
use Rattle.calls.specs.Calls.{Call}
use Rattle.histories.specs.History.{rule_there, rule_in, board_in, empties_in, summed_in, text_in, verdict_in}
use Rattle.histories.proofs.EveryList.{every_list}
use Rattle.fillings.specs.Filled.{Filled}
use Rattle.fillings.proofs.Boards as boards
use Rattle.fillings.proofs.Claims as fillings
use Rattle.follow.specs.Following.{follow_number, follow_of}
use Rattle.follow.specs.Claims.{handed, taken_text}
use Rattle.follow.proofs.Claims as follow
use Rattle.followverdict.specs.Boards.{FollowsAll, Claims}
use Rattle.followverdict.proofs.Refusals as refusals

follows : (h : List Call) (r : Rule) (ws : List (List ℕ)) → Filled h r ws → FollowsAll r ws
follows h r ws is i b = refusals.chunk_number_lem r (get_or ws i []) ((fillings.claims).well h r is.rule).0 ∙ boards.taken h r ws is i b

-- the texts of a list of chunks and one more
joined_last : (us : List (List ℕ)) (w : List ℕ) → flatten (map text_of (us ++ (w ∷ []))) ≡ flatten (map text_of us) ++ text_of w
unfolding flatten
joined_last [] w = append-nil (text_of w)
joined_last (u ∷ us) w = ap (λ (x : List ℕ). text_of u ++ x) (joined_last us w) ∙ sym (append_assoc (text_of u) (flatten (map text_of us)) (text_of w))

module _ (h : List Call) (r : Rule) (us : List (List ℕ)) (w : List ℕ) (is : Filled h r (us ++ (w ∷ []))) where
  all : FollowsAll r (us ++ (w ∷ []))
  all = follows h r (us ++ (w ∷ [])) is

  long : length (us ++ (w ∷ [])) ≡ length us + 1
  long = length-append us (w ∷ [])

  last_ok : follow_number r w ≡ none
  last_ok = subst (λ (x : List ℕ). follow_number r x ≡ none) (get_or-append_seam us w [] []) (all (length us) (omega (arith, long)))

  before_ok : FollowsAll r us
  before_ok i b = subst (λ (x : List ℕ). follow_number r x ≡ none) (get_or-append us (w ∷ []) [] i b) (all i (omega (arith, long)))

  text_is : taken_text r us ++ text_of w ≡ text_in h
  text_is =
      ap (λ (x : List ℕ). x ++ text_of w) ((follow.claims).all_taken r us before_ok)
      ∙ sym (joined_last us w)
      ∙ sym (boards.text_is h r (us ++ (w ∷ [])) is)

  by_text : ((follow_of r (handed r r.initials us) w).ends ≡ true) ↔ Accepts (automaton_of (rule_in h)) (text_in h)
  by_text = rw (boards.rule_is h r (us ++ (w ∷ [])) is, ← text_is) ((follow.claims).followed r us w last_ok).ends

  yes_same : ((follow_of r (handed r r.initials us) w).ends ≡ true) ↔ (verdict_in h ≡ yes_with (summed_in h))
  yes_same =
      let board = (every_list h).verdict.accepts is.board (boards.none_missing h r (us ++ (w ∷ [])) is) in
      ((λ e. board.1 (by_text.0 e)), λ e. by_text.1 (board.0 e))

  no_same : ((follow_of r (handed r r.initials us) w).ends ≡ false) ↔ (verdict_in h ≡ no_with (summed_in h))
  no_same =
      let board = (every_list h).verdict.rejects is.board (boards.none_missing h r (us ++ (w ∷ [])) is) in (
        (λ e. board.1 (λ a. not_both (by_text.1 a) e)),
        λ e. by_test (follow_of r (handed r r.initials us) w).ends (λ y. absurd (board.0 e (by_text.0 y))) (λ n. n),
      )

-- a list that is not empty has a last member
split_last : (u : List ℕ) (ws : List (List ℕ)) → (us : List (List ℕ)) × (w : List ℕ) × ((u ∷ ws) ≡ us ++ (w ∷ []))
split_last u [] = ([], u, refl)
split_last u (v ∷ ws) = let x = split_last v ws in (u ∷ x.0, x.1, ap (λ (y : List (List ℕ)). u ∷ y) x.2)

has_last : (ws : List (List ℕ)) → 0 < length ws → (us : List (List ℕ)) × (w : List ℕ) × (ws ≡ us ++ (w ∷ []))
has_last [] h = absurd (let x = h in omega arith)
has_last (u ∷ ws) h = split_last u ws

filled : (h : List Call) (r : Rule) → rule_there h ≡ some r → board_in h ≡ true → empties_in h ≡ 0
    → (us : List (List ℕ)) × (w : List ℕ) × Filled h r (us ++ (w ∷ []))
filled h r rule board empty =
    let x = boards.filled h r rule board empty in
    let some-place = (every_list h).verdict.board.0 board in
    let y = has_last x.0 (omega (arith, some-place, x.1.places)) in
    (y.0, y.1, subst (Filled h r) y.2 x.1)

pub claims : Claims
claims = record {
  yes_same = yes_same;
  no_same = no_same;
  follows = follows;
  filled = filled;
  fillings = λ r taken ws one most ok.
      boards.fillings r taken ws one most
      (λ i b.
      let x = ((follow.claims).numbers r (get_or ws i [])).accepted.0 (ok i b) in
      sym (refusals.chunk_number_lem r (get_or ws i []) x.0) ∙ ok i b);
  as_installed = refusals.as_installed;
  as_delivered = refusals.as_delivered;
}
