-- What a refused call gives C, number by number: the flag 0, the number of the refusal, 0 for what
-- only an accepted call has, and the judge that came. crates/capi/specs/Laws.antt has the law of
-- the numbers in every case.
--
--   RefusedFromC j x     the results of the functions that C links on the judge j, where they
--                        refuse with x
--   NoVerdictFromC j x   that of the verdict, where it is refused with x or waits for x places:
--                        three zeros beside it
use Rattle.std.specs.Prelude.{◌≡◌, List, ℕ}
use Rattle.std.proofs.Math.Option.{some}
use Rattle.automaton.specs.declared.Rule.{Rule}
use Rattle.calls.specs.declared.Judge.{Judge}
use Rattle.calls.specs.Replies.{waiting, refused_with, refusal_of}
use Rattle.calls.specs.mirror.Steps.{install_of, load_of, open_of, deliver_of, withdraw_of, verdict_of}
use Rattle.capi.specs.declared.InstallNumbers.{InstallNumbers}
use Rattle.capi.specs.declared.CallNumbers.{CallNumbers}
use Rattle.capi.specs.declared.DeliverNumbers.{DeliverNumbers}
use Rattle.capi.specs.declared.VerdictNumbers.{VerdictNumbers}
use Rattle.demands.specs.Functions.{MayInstall, MayLoad, MayOpen, MayDeliver, MayWithdraw, MayJudge}

pub record RefusedFromC (j : Judge) (x : ℕ) : Type 0 where
  pub install : (rule : Rule) → refusal_of (install_of j rule).reply ≡ some x
      → (r : InstallNumbers) → MayInstall j rule r → r ≡ record { accepted = 0; refused = x; sets = 0; starts = 0; judge = j }
  pub load : (f : List ℕ) → refusal_of (load_of j f).reply ≡ some x
      → (r : InstallNumbers) → MayLoad j f r → r ≡ record { accepted = 0; refused = x; sets = 0; starts = 0; judge = j }
  pub opening : (n : ℕ) → refusal_of (open_of j n).reply ≡ some x
      → (r : CallNumbers) → MayOpen j n r → r ≡ record { accepted = 0; refused = x; judge = j }
  pub deliver : (p v : ℕ) (w : List ℕ) → refusal_of (deliver_of j p v w).reply ≡ some x
      → (r : DeliverNumbers) → MayDeliver j p v w r → r ≡ record { accepted = 0; refused = x; looked = 0; judge = j }
  pub withdraw : (p : ℕ) → refusal_of (withdraw_of j p).reply ≡ some x
      → (r : CallNumbers) → MayWithdraw j p r → r ≡ record { accepted = 0; refused = x; judge = j }

pub record NoVerdictFromC (j : Judge) (x : ℕ) : Type 0 where
  pub is_refused : verdict_of j ≡ refused_with x
      → (v : VerdictNumbers) → MayJudge j v → v ≡ record { kind = 0; number = x; bytes = 0; quotient = 0; remainder = 0 }
  pub waits : verdict_of j ≡ waiting x
      → (v : VerdictNumbers) → MayJudge j v → v ≡ record { kind = 1; number = x; bytes = 0; quotient = 0; remainder = 0 }
