-- The numbers of each case of an answer are those of what it says. Assumes nothing.
use mathlib.Core.Path.{◌≡◌, refl, sym, ap, ◌∙◌}
use Prim.Native.Nat.{ℕ}
use Rattle.std.proofs.Common.{Result, Ok, Err}
use Rattle.base.specs.declared.Refusal.{Refusal}
use Rattle.base.specs.Answers.{refusal_number, result_number}
use Rattle.flags.specs.declared.AnswerFlags.{AnswerFlags}
use Rattle.flags.specs.Flags.{flag_by, refused_by}
use Rattle.automaton.specs.declared.Rule.{Rule}
use Rattle.ruleformat.specs.Reader.{no_rule, Reading, read_outcome}
use Rattle.calls.specs.declared.Sizes.{Sizes}
use Rattle.calls.specs.declared.Report.{Report}
use Rattle.calls.specs.declared.InstallResult.{InstallResult}
use Rattle.calls.specs.declared.CallResult.{CallResult}
use Rattle.calls.specs.declared.DeliverResult.{DeliverResult}
use Rattle.calls.specs.Replies.{install_means, call_means, deliver_means, report_means, Outcome, install_outcome, call_outcome, deliver_outcome}
use Rattle.replay.specs.Records.{ReplayReply, replay_means}
use Rattle.capi.specs.declared.VerdictNumbers.{VerdictNumbers}
use Rattle.capi.specs.Numbers.{read_shown, install_shown, call_shown, deliver_shown, verdict_shown, replay_shown}

module _ (o : Reading) (r : Result Rule Refusal) (is : read_outcome r ≡ o) where
  pub read_accepted : (rule : Rule) → r ≡ Ok rule → record { accepted = 1; refused = 0; rule = rule } ≡ read_shown o
  read_accepted rule e = ap read_shown (sym (ap read_outcome e) ∙ is)

  pub read_refused : (x : Refusal) → r ≡ Err x → (n : ℕ) → n ≡ refusal_number x → (rule : Rule) → rule ≡ no_rule
      → record { accepted = 0; refused = n; rule = rule } ≡ read_shown o
  read_refused x e n number rule zeros = rw (number, zeros) (ap read_shown (sym (ap read_outcome e) ∙ is))

pub call_shown_lem : (f : AnswerFlags) (r : CallResult) → f.accepted ≡ flag_by (result_number r.answer) → f.refused ≡ refused_by (result_number r.answer)
    → record { accepted = f.accepted; refused = f.refused; judge = r.judge } ≡ call_shown (call_outcome r)
call_shown_lem f r a n = rw (a, n) (by_answer r.answer)
  where
    by_answer : (x : Result (Unit {0}) Refusal)
        → record { accepted = flag_by (result_number x); refused = refused_by (result_number x); judge = r.judge } ≡ call_shown (record { reply = call_means x; state = r.judge })
    by_answer (Ok u) = refl
    by_answer (Err refusal) = refl

module _ (r : InstallResult) where
  pub install_accepted : (sizes : Sizes) → r.answer ≡ Ok sizes
      → record { accepted = 1; refused = 0; sets = sizes.sets; starts = sizes.starts; judge = r.judge } ≡ install_shown (install_outcome r)
  install_accepted sizes e = ap (λ (a : Result Sizes Refusal). install_shown (record { reply = install_means a; state = r.judge })) (sym e)

  pub install_refused : (x : Refusal) → r.answer ≡ Err x → (n : ℕ) → n ≡ refusal_number x
      → record { accepted = 0; refused = n; sets = 0; starts = 0; judge = r.judge } ≡ install_shown (install_outcome r)
  install_refused x e n number =
      rw number (ap (λ (a : Result Sizes Refusal). install_shown (record { reply = install_means a; state = r.judge })) (sym e))

module _ (o : Outcome) where
  module _ (r : DeliverResult) (is : deliver_outcome r ≡ o) where
    said : {a : Result ℕ Refusal} → r.answer ≡ a → record { reply = deliver_means a; state = r.judge } ≡ o
    said e = sym (ap (λ (a : Result ℕ Refusal). record { reply = deliver_means a; state = r.judge }) e) ∙ is

    pub deliver_accepted : (looked : ℕ) → r.answer ≡ Ok looked → record { accepted = 1; refused = 0; looked = looked; judge = r.judge } ≡ deliver_shown o
    deliver_accepted looked e = ap deliver_shown (said e)

    pub deliver_refused : (x : Refusal) → r.answer ≡ Err x → (n : ℕ) → n ≡ refusal_number x
        → record { accepted = 0; refused = n; looked = 0; judge = r.judge } ≡ deliver_shown o
    deliver_refused x e n number = rw number (ap deliver_shown (said e))

module _ (v : Result Report ℕ) (t : ReplayReply) (is : replay_means v ≡ t) where
  pub replay_verdict : (x : Report) → v ≡ Ok x → (r : VerdictNumbers) → r ≡ verdict_shown (report_means x)
      → record { kind = r.kind; number = r.number; bytes = r.bytes; quotient = r.quotient; remainder = r.remainder } ≡ replay_shown t
  replay_verdict x e r shows = rw shows (ap replay_shown (sym (ap replay_means e) ∙ is))

  pub replay_malformed : (line : ℕ) → v ≡ Err line → record { kind = 4; number = line; bytes = 0; quotient = 0; remainder = 0 } ≡ replay_shown t
  replay_malformed line e = ap replay_shown (sym (ap replay_means e) ∙ is)
