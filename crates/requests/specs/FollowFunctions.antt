-- What the functions that follow a trace, which C links, ask and allow by their own contracts, as the
-- checker reads them (`Reads`): any result that the contract does not rule out.
--
--   AsksFollowC, MayFollowC     `bellbadger_follow` on a rule, a set and a chunk
--   AsksFollowerC, MayPrepareC  `bellbadger_follower_prepare` on a rule
--   AsksByC, MayFollowByC       `bellbadger_follow_by` on a follower, a set and a chunk
use Rattle.std.specs.Prelude.{◌≡◌, List, ℕ}
use contract.Lifetimes.{Lfts}
use Rattle.std.specs.Borrow.{Bor}
use denote.Triple.Clauses.{AtExit}
use borrow.Fn.Kinds.{ended_of}
use Rattle.automaton.specs.declared.Rule.{Rule}
use Rattle.follow.specs.declared.Follower.{Follower}
use Rattle.c_follow.specs.declared.FollowNumbers.{FollowNumbers}
use Rattle.c_follow.specs.declared.FollowerNumbers.{FollowerNumbers}
use Rattle.c_follow.proofs.bellbadger_follow.Reads as follow_reads
use Rattle.c_follow.proofs.bellbadger_follow.Kinds as follow_kinds
use Rattle.c_follow.proofs.bellbadger_follower_prepare.Reads as prepare_reads
use Rattle.c_follow.proofs.bellbadger_follower_prepare.Kinds as prepare_kinds
use Rattle.c_follow.proofs.bellbadger_follow_by.Reads as by_reads
use Rattle.c_follow.proofs.bellbadger_follow_by.Kinds as by_kinds

-- a chunk is lent, as a reference to its bytes
abbrev pub AsksFollowC : Rule → ℕ → Bor (List ℕ) → Lfts 1 → Type 0
AsksFollowC r m c κs = follow_reads.Asked κs (r, (m, (c, tt)))

abbrev pub MayFollowC : Rule → ℕ → List ℕ → FollowNumbers → Type 0
MayFollowC r m w n =
    (κs : Lfts 1) × (c : Bor (List ℕ)) × (s : AtExit (ended_of 1 follow_kinds.ps follow_kinds.r) κs) × (c.now ≡ w) × follow_reads.Learnt κs (r, (m, (c, tt))) n s

abbrev pub AsksFollowerC : Rule → Type 0
AsksFollowerC r = prepare_reads.Asked tt (r, tt)

abbrev pub MayPrepareC : Rule → FollowerNumbers → Type 0
MayPrepareC r n = (s : AtExit (ended_of 0 prepare_kinds.ps prepare_kinds.r) tt) × prepare_reads.Learnt tt (r, tt) n s

abbrev pub AsksByC : Follower → ℕ → Bor (List ℕ) → Lfts 1 → Type 0
AsksByC f m c κs = by_reads.Asked κs (f, (m, (c, tt)))

abbrev pub MayFollowByC : Follower → ℕ → List ℕ → FollowNumbers → Type 0
MayFollowByC f m w n =
    (κs : Lfts 1) × (c : Bor (List ℕ)) × (s : AtExit (ended_of 1 by_kinds.ps by_kinds.r) κs) × (c.now ≡ w) × by_reads.Learnt κs (f, (m, (c, tt))) n s
