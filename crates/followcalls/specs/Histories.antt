-- What the calls before say, and nothing else (a list has the LAST call first).
--
--   rule_in h         the file of the last accepted rule since the rule was last forgotten
--   chunks_in h        the chunks that came since then, oldest first, refused ones too: `handed` and
--                     `taken_text` of crates/follow leave those out
--   after_chunks h ws  the calls h, and then the chunks ws, oldest first
--   right_reply h c   the right reply to the call c after the calls h: by following from chunk to
--                     chunk from the rule's initial states on, where there is a rule
--   Accepted h c      after the calls h the call c is answered with no refusal
--   Changes c         the call may change which rule there is: it begins a trace, or forgets
--   LastBegun h       the file of `rule_in h` is f exactly where the last accepted of these calls
--                     begins by f: over the list cut in two at that call (executions' LastAccepted),
--                     where `rule_in` goes through the list
use Rattle.std.specs.Prelude.{◌≡◌, ◌↔◌, List, [], ◌∷◌, ◌++◌, ℕ}
use Rattle.std.proofs.Math.Option.{Option, none, some}
use Rattle.executions.specs.Last.{LastAccepted}
use Rattle.automaton.specs.declared.Rule.{Rule}
use Rattle.ruleformat.specs.Refusals.{refusal}
use Rattle.ruleformat.specs.Reader.{rule_of}
use Rattle.follow.specs.Following.{Outcome as Following, follow_of}
use Rattle.follow.specs.Claims.{handed}
use Rattle.followcalls.specs.Calls.{Call, forgets, begins, follows, Reply, forgotten, refused, begun_reply, followed_reply}

-- by the number with which reading a file refuses it: what it says, or the former
abbrev pub unless : {A : Type 0} → Option ℕ → A → A → A
unless none new former = new
unless (some x) new former = former

unfoldable pub rule_in : List Call → Option (List ℕ)
rule_in [] = none
rule_in (forgets ∷ h) = none
rule_in (begins f ∷ h) = unless (refusal f) (some f) (rule_in h)
rule_in (follows w ∷ h) = rule_in h

unfoldable pub chunks_in : List Call → List (List ℕ)
chunks_in [] = []
chunks_in (forgets ∷ h) = []
chunks_in (begins f ∷ h) = unless (refusal f) [] (chunks_in h)
chunks_in (follows w ∷ h) = chunks_in h ++ (w ∷ [])

abbrev pub after_chunks : List Call → List (List ℕ) → List Call
after_chunks h [] = h
after_chunks h (w ∷ ws) = after_chunks (follows w ∷ h) ws

abbrev pub followed : Rule → List (List ℕ) → List ℕ → Following
followed r ws w = follow_of r (handed r r.initials ws) w

abbrev pub right_next : Option (List ℕ) → List (List ℕ) → List ℕ → Reply
right_next none ws w = refused 20
right_next (some f) ws w = followed_reply (followed (rule_of f) ws w)

unfoldable pub right_reply : List Call → Call → Reply
right_reply h forgets = forgotten
right_reply h (begins f) = begun_reply (refusal f)
right_reply h (follows w) = right_next (rule_in h) (chunks_in h) w

-- ---- which rule is the last
abbrev pub Accepted : List Call → Call → Type 0
Accepted h c = (x : ℕ) → right_reply h c ≡ refused x → ⊥

abbrev pub Changes : Call → Type 0
Changes forgets = Unit {0}
Changes (begins f) = Unit {0}
Changes (follows w) = ⊥

abbrev pub LastBegun : List Call → Type 0
LastBegun h = (f : List ℕ) → (rule_in h ≡ some f) ↔ (earlier : List Call) × LastAccepted Accepted Changes h (begins f) earlier
