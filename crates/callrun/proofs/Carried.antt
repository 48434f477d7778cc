-- What reading the bytes of a line into the lent buffer leaves for the call. Assumes nothing.
--
--   load_malformed, load_put        the ways through a load
--   install_malformed, install_put  the ways through an installation
--   other_bytes, rule_bytes         the bytes of one: too few or too many, or those of a rule
--   deliver_malformed, deliver_put  the ways through a delivery
use mathlib.Core.Path.{◌≡◌, ap, ◌∙◌}
use mathlib.Core.List.{List}
use mathlib.Core.Option.{some}
use Prim.Native.Nat.{ℕ, ◌≤◌}
use native.Mathlib.Omega.{arith}
use borrow.Author.Tests.{eq-eqb, ne_eqb}
use lib.ListN.{length, take}
use Rattle.automaton.specs.declared.Rule.{Rule}
use Rattle.packed.specs.Packed.{rule_at}
use Rattle.std.proofs.Common.{Some, None}
use Rattle.std.proofs.Common as code
use Rattle.base.specs.Options.{option_of}
use Rattle.fields.specs.Bytes.{parse_bytes, Took}
use Rattle.fields.proofs.Taking.{carries, not_bytes}
use Rattle.calls.specs.declared.Judge.{Judge}
use Rattle.calls.specs.Replies.{Reply}
use Rattle.calls.specs.mirror.Steps.{install_of, load_of, deliver_of}
use Rattle.calltext.specs.Meaning.{malformed, load_by, install_by, deliver_by}
use Rattle.calltext.specs.Answers.{replied}
use Rattle.callrun.specs.Running.{LineOutcome, reply_of, line_step}
use Rattle.callrun.proofs.Clipped.{loads_clip, delivers_clip, installs_clip}

module _ (field before after : List ℕ) (x : code.Option ℕ) (took : Took field before (option_of x) after) where
  module _ (j : Judge) where
    pub load_malformed : x ≡ None → (o : LineOutcome) → o ≡ line_step j malformed → o ≡ line_step j (load_by (parse_bytes field))
    load_malformed e o l = rw (not_bytes field before after (option_of x) took (ap option_of e)) l

    pub install_malformed : x ≡ None → (o : LineOutcome) → o ≡ line_step j malformed → o ≡ line_step j (install_by (parse_bytes field))
    install_malformed e o l = rw (not_bytes field before after (option_of x) took (ap option_of e)) l

    pub deliver_malformed : (p v : ℕ) → x ≡ None → (o : LineOutcome) → o ≡ line_step j malformed → o ≡ line_step j (deliver_by (some p) (some v) (parse_bytes field))
    deliver_malformed p v e o l = rw (not_bytes field before after (option_of x) took (ap option_of e)) l

    pub install_put : 65537 ≤ length before → (n : ℕ) → x ≡ Some n → (o : LineOutcome) → o ≡ line_step j (install_by (some (take n after)))
        → o ≡ line_step j (install_by (parse_bytes field))
    install_put room n put o l =
        let k = carries field before after (option_of x) took n (ap option_of put) in
        let whole = ap (λ (b : List ℕ). install_by (some b)) k.is ∙ installs_clip k.bytes (length before) (omega arith) in
        rw k.said (l ∙ ap (line_step j) whole)

    module _ (room : 65537 ≤ length before) (n : ℕ) (put : x ≡ Some n) (a : Reply) (next : Judge) where
      pub load_put : record { reply = a; state = next } ≡ load_of j (take n after)
          → record { response = replied a; state = next } ≡ line_step j (load_by (parse_bytes field))
      load_put l =
          let k = carries field before after (option_of x) took n (ap option_of put) in
          let whole = l ∙ ap (load_of j) k.is ∙ loads_clip j k.bytes (length before) (omega arith) in
          rw k.said (ap reply_of whole)

      pub deliver_put : (p v : ℕ) → record { reply = a; state = next } ≡ deliver_of j p v (take n after)
          → record { response = replied a; state = next } ≡ line_step j (deliver_by (some p) (some v) (parse_bytes field))
      deliver_put p v l =
          let k = carries field before after (option_of x) took n (ap option_of put) in
          let whole = l ∙ ap (deliver_of j p v) k.is ∙ delivers_clip j p v k.bytes (length before) (omega arith) in
          rw k.said (ap reply_of whole)

module _ (j : Judge) (b : List ℕ) where
  pub other_bytes : (length b ≡ 2058 → ⊥) → (o : LineOutcome) → o ≡ line_step j malformed → o ≡ line_step j (install_by (some b))
  other_bytes other o l = rw (ne_eqb (length b) 2058 other) l

  pub rule_bytes : length b ≡ 2058 → (r : Rule) → r ≡ rule_at b → (a : Reply) (next : Judge) → record { reply = a; state = next } ≡ install_of j r
      → record { response = replied a; state = next } ≡ line_step j (install_by (some b))
  rule_bytes size r is a next l = rw (eq-eqb (length b) 2058 size) (ap reply_of (l ∙ ap (install_of j) is))
