-- What holds after every list of calls; proofs/Claims.antt proves it.
--
--   Said h f w      what the chunk w is answered after the calls h, where the last accepted rule is
--                   that of the file f, which accepts the chunk as such: by the text so far, which
--                   is that of the chunks since then, the refused ones left out, and then this one
use Rattle.std.specs.Prelude.{◌≡◌, ◌↔◌, Bool, true, false, List, [], ◌∷◌, ◌++◌, ℕ, ◌-◌, ◌≤◌, ◌<◌, length, take}
use Rattle.std.proofs.Math.Option.{none, some}
use Rattle.masks.specs.Masks.{◌∈◌}
use Rattle.marks.specs.Marks.{text_of}
use Rattle.automaton.specs.Automaton.{Automaton, Accepts}
use Rattle.automaton.specs.Rules.{automaton_of, WellFormed}
use Rattle.ruleformat.specs.Reader.{rule_of}
use Rattle.executions.specs.Executions.{state_after}
use Rattle.live.specs.Continued.{Continued}
use Rattle.follow.specs.Following.{follow_number}
use Rattle.follow.specs.Claims.{taken_text}
use Rattle.followcalls.specs.Calls.{Call, follows, Reply, going, lost_at, refused, reply_of, follow_machine}
use Rattle.followcalls.specs.Histories.{rule_in, chunks_in, after_chunks, right_reply, LastBegun}

module _ (h : List Call) (f w : List ℕ) where
  abbrev pub automaton_for : Automaton
  automaton_for = automaton_of (rule_of f)

  -- the text so far, with as much of the chunk as is given
  abbrev pub text_with : List ℕ → List ℕ
  text_with u = taken_text (rule_of f) (chunks_in h) ++ u

  abbrev pub reply : Reply
  reply = right_reply h (follows w)

  pub record Said : Type 0 where
    -- yes exactly where the rule accepts the text so far; no where it does not, and some text continues
    -- it to an accepted one
    pub yes_exactly : ((m : ℕ) × (reply ≡ going true m)) ↔ Accepts automaton_for (text_with (text_of w))
    pub no_exactly : ((m : ℕ) × (reply ≡ going false m)) ↔ (Continued automaton_for (text_with (text_of w)) × (Accepts automaton_for (text_with (text_of w)) → ⊥))
    -- lost at b exactly where the text up to there has no accepted continuation, and every one that is
    -- shorter by bytes of this chunk has
    pub lost_exactly : (b : ℕ) → ((m : ℕ) × (reply ≡ lost_at b m))
        ↔ ((b ≤ length w) × (Continued automaton_for (text_with (text_of (take b w))) → ⊥) × ((i : ℕ) → i < b → Continued automaton_for (text_with (text_of (take i w)))))
    -- the symbols of the mask could come next, or could have stood there
    pub next : (e : Bool) (m s : ℕ) → reply ≡ going e m → s ∈ m ↔ Continued automaton_for (text_with (text_of w ++ (s ∷ [])))
    pub there : (b m s : ℕ) → reply ≡ lost_at b m → s ∈ m ↔ Continued automaton_for (text_with (text_of (take (b - 1) w) ++ (s ∷ [])))

pub record Claims : Type 0 where
  -- every call is answered by what the calls before it say
  pub right : (h : List Call) (c : Call) → reply_of (state_after follow_machine h) c ≡ right_reply h c
  -- the rule is that of the last accepted `rule` since the last forgetting, and it is well-formed
  pub last : (h : List Call) → LastBegun h
  pub well_formed : (h : List Call) (f : List ℕ) → rule_in h ≡ some f → WellFormed (rule_of f)
  -- a chunk without a rule; one that is refused; one that is not
  pub lacking : (h : List Call) (w : List ℕ) → rule_in h ≡ none → right_reply h (follows w) ≡ refused 20
  pub refused_exactly : (h : List Call) (f w : List ℕ) → rule_in h ≡ some f
      → (x : ℕ) → (right_reply h (follows w) ≡ refused x) ↔ (follow_number (rule_of f) w ≡ some x)
  pub said : (h : List Call) (f w : List ℕ) → rule_in h ≡ some f → follow_number (rule_of f) w ≡ none → Said h f w
  -- once lost, every further chunk is lost at its byte 0, and nothing is expected
  pub for_good : (h : List Call) (f w : List ℕ) (b m : ℕ) → rule_in h ≡ some f → right_reply h (follows w) ≡ lost_at b m
      → (ws : List (List ℕ)) (x : List ℕ) → follow_number (rule_of f) x ≡ none
      → right_reply (after_chunks (follows w ∷ h) ws) (follows x) ≡ lost_at 0 0
