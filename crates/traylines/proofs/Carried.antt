-- What reading the bytes of a line into the lent buffer leaves for the call. Assumes nothing.
--
--   file_malformed, file_put        the ways through a file, for the rows or for the columns
--   deliver_malformed, deliver_put  the ways through a delivery
use mathlib.Core.Path.{◌≡◌, refl, ap, ◌∙◌}
use mathlib.Core.Bool.{Bool, true, false}
use mathlib.Core.List.{List}
use mathlib.Core.Option.{none, some}
use Prim.Native.Nat.{ℕ, ◌≤◌}
use native.Mathlib.Omega.{arith}
use lib.ListN.{length, take}
use Rattle.fields.specs.Bytes.{parse_bytes, Took}
use Rattle.fields.proofs.Taking.{carries, not_bytes}
use Rattle.trays.specs.declared.Tray.{Tray}
use Rattle.trays.specs.Replies.{Reply}
use Rattle.trays.specs.mirror.Steps.{deliver_of}
use Rattle.traytext.specs.Lines.{malformed, deliver_by}
use Rattle.traytext.specs.Answers.{replied}
use Rattle.traylines.specs.Running.{file_by, load_of, LineOutcome, reply_of, line_step}
use Rattle.traylines.proofs.Clipped.{loads_long, delivers_long, clip}

module _ (field before after : List ℕ) (t : Tray) where
  module _ (took : Took field before none after) (o : LineOutcome) (l : o ≡ line_step t malformed) where
    pub file_malformed : (rows : Bool) → o ≡ line_step t (file_by rows (parse_bytes field))
    file_malformed true = rw (not_bytes field before after none took refl) l
    file_malformed false = rw (not_bytes field before after none took refl) l

    pub deliver_malformed : (p : ℕ) → o ≡ line_step t (deliver_by (some p) (parse_bytes field))
    deliver_malformed p = rw (not_bytes field before after none took refl) l

  module _ (room : 32907 ≤ length before) (n : ℕ) (took : Took field before (some n) after) (a : Reply) (next : Tray) where
    load_put : (rows : Bool) → record { reply = a; state = next } ≡ load_of rows t (take n after)
        → record { reply = a; state = next } ≡ load_of rows t (carries field before after (some n) took n refl).bytes
    load_put rows l =
        let k = carries field before after (some n) took n refl in
        l ∙ ap (load_of rows t) k.is ∙ clip 32906 (load_of rows t) (λ f g hf hg. loads_long t f g hf hg rows) k.bytes (length before) (omega arith)

    pub file_put : (rows : Bool) → record { reply = a; state = next } ≡ load_of rows t (take n after)
        → record { response = replied a; state = next } ≡ line_step t (file_by rows (parse_bytes field))
    file_put true l = rw (carries field before after (some n) took n refl).said (ap reply_of (load_put true l))
    file_put false l = rw (carries field before after (some n) took n refl).said (ap reply_of (load_put false l))

    pub deliver_put : (p : ℕ) → record { reply = a; state = next } ≡ deliver_of t p (take n after)
        → record { response = replied a; state = next } ≡ line_step t (deliver_by (some p) (parse_bytes field))
    deliver_put p l =
        let k = carries field before after (some n) took n refl in
        rw k.said (ap reply_of (l ∙ ap (deliver_of t p) k.is ∙ clip 1024 (deliver_of t p) (delivers_long t p) k.bytes (length before) (omega arith)))
