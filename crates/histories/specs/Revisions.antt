-- Revisions in document 02's words (R-11), after any calls. proofs/Revisions.antt proves it.
use Rattle.std.specs.Prelude.{◌≡◌, false, List, ◌∷◌, ℕ, ◌≤◌, ◌<◌, length}
use Rattle.std.proofs.Math.Option.{none, some}
use Rattle.limits.specs.Limits.{longest_chunk}
use Rattle.marks.specs.Marks.{text_of}
use Rattle.chunks.specs.Chunks.{foreign}
use Rattle.calls.specs.Replies.{accepted, delivered, refused}
use Rattle.calls.specs.Calls.{Call, opens, delivers, withdraws}
use Rattle.histories.specs.History.{rule_in, looked_of, last_revision, standing, answer_of}

pub record Revisions (h : List Call) : Type 0 where
  -- once the revision v was accepted at place p, one that is not greater gets 22 there, even after a
  -- withdrawal
  pub late : (p q v u n : ℕ) (w x : List ℕ) → answer_of h (delivers p v w) ≡ delivered n → u ≤ v
      → length x ≤ longest_chunk → foreign (text_of x) (rule_in h).k ≡ false
      → answer_of (withdraws q ∷ delivers p v w ∷ h) (delivers p u x) ≡ refused 22
  -- an opening that is accepted forgets: each of its places takes any revision
  pub anew : (n p v : ℕ) (w : List ℕ) → answer_of h (opens n) ≡ accepted → p < n
      → length w ≤ longest_chunk → foreign (text_of w) (rule_in h).k ≡ false
      → answer_of (opens n ∷ h) (delivers p v w) ≡ delivered (looked_of (rule_in h) p w)
  -- an accepted delivery stands, instead of what stood there, and its revision is the last one
  pub replaces : (p v n : ℕ) (w : List ℕ) → answer_of h (delivers p v w) ≡ delivered n
      → (standing (delivers p v w ∷ h) p ≡ some w) × (last_revision (delivers p v w ∷ h) p ≡ some v)
  -- where no revision was accepted nothing stands
  pub never : (p : ℕ) → last_revision h p ≡ none → standing h p ≡ none
