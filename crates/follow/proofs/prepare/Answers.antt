-- `prepare` meets its contract. Assumes nothing.
use Rattle.std.proofs.Common.{ℕ, sym, ap, ◌∙◌}
use mathlib.Core.Option.{none}
use Rattle.follow.proofs.Ways.{told}
use Rattle.follow.proofs.prepare.Goals as goal

pub returns : goal.returns
returns c =
    ap (λ (l : ℕ). record { refusal = none; follower = record { rule = c.args.rule; live = l } }) c.live_states-live.ensures
    ∙ told c.args.rule none (sym c.in_ok-check_rule.ensures)
