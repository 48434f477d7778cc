-- The ways through `run_parsed`, by what the line was parsed as, and `run_line`. Assumes nothing.
use mathlib.Core.Path.{◌≡◌, sym, ap, ◌∙◌, subst}
use mathlib.Core.List.{List}
use mathlib.Core.Option.{some}
use Prim.Native.Nat.{ℕ, ◌-◌, ◌≤◌}
use lib.ListN.{length, take, drop}
use Rattle.fields.specs.Bytes.{parse_bytes}
use Rattle.calls.specs.declared.Judge.{Judge}
use Rattle.calls.specs.Calls.{opens, withdraws, asks_verdict}
use Rattle.calltext.specs.declared.Line.{Line}
use Rattle.calltext.specs.declared.Line.TheVariants.{Empty, Load, Install, Open, Deliver, Withdraw, Verdict, Malformed}
use Rattle.calltext.specs.Meaning.{again, call, malformed, load_by, install_by, deliver_by, line_in, line_means, bytes_from, Parsed}
use Rattle.calltext.proofs.Readings.{to_the_end}
use Rattle.callrun.specs.Running.{LineOutcome, line_step}

module _ (w : List ℕ) (x : Line) (within : bytes_from x ≤ length w) where
  pub load_inside : x ≡ Load → 5 ≤ length w
  load_inside e = subst (λ (y : Line). bytes_from y ≤ length w) e within

  pub install_inside : x ≡ Install → 8 ≤ length w
  install_inside e = subst (λ (y : Line). bytes_from y ≤ length w) e within

  pub deliver_inside : (p v from : ℕ) → x ≡ Deliver p v from → from ≤ length w
  deliver_inside p v from e = subst (λ (y : Line). bytes_from y ≤ length w) e within

module _ (w : List ℕ) (x : Line) (j : Judge) (o : LineOutcome) where
  by : (y : Line) → x ≡ y → o ≡ line_step j (line_means w y) → o ≡ line_step j (line_means w x)
  by y e l = l ∙ ap (λ (z : Line). line_step j (line_means w z)) (sym e)

  pub line_empty : x ≡ Empty → o ≡ line_step j again → o ≡ line_step j (line_means w x)
  line_empty e = by Empty e

  pub line_load : x ≡ Load → o ≡ line_step j (load_by (parse_bytes (take (length w - 5) (drop 5 w)))) → o ≡ line_step j (line_means w x)
  line_load e l = by Load e (l ∙ ap (λ (v : List ℕ). line_step j (load_by (parse_bytes v))) (to_the_end w 5))

  pub line_install : x ≡ Install → o ≡ line_step j (install_by (parse_bytes (take (length w - 8) (drop 8 w)))) → o ≡ line_step j (line_means w x)
  line_install e l = by Install e (l ∙ ap (λ (v : List ℕ). line_step j (install_by (parse_bytes v))) (to_the_end w 8))

  pub line_open : (n : ℕ) → x ≡ Open n → o ≡ line_step j (call (opens n)) → o ≡ line_step j (line_means w x)
  line_open n e = by (Open n) e

  pub line_deliver : (p v from : ℕ) → x ≡ Deliver p v from
      → o ≡ line_step j (deliver_by (some p) (some v) (parse_bytes (take (length w - from) (drop from w)))) → o ≡ line_step j (line_means w x)
  line_deliver p v from e l = by (Deliver p v from) e (l ∙ ap (λ (u : List ℕ). line_step j (deliver_by (some p) (some v) (parse_bytes u))) (to_the_end w from))

  pub line_withdraw : (p : ℕ) → x ≡ Withdraw p → o ≡ line_step j (call (withdraws p)) → o ≡ line_step j (line_means w x)
  line_withdraw p e = by (Withdraw p) e

  pub line_verdict : x ≡ Verdict → o ≡ line_step j (call asks_verdict) → o ≡ line_step j (line_means w x)
  line_verdict e = by Verdict e

  pub line_malformed : x ≡ Malformed → o ≡ line_step j malformed → o ≡ line_step j (line_means w x)
  line_malformed e = by Malformed e

  -- the line itself
  pub line_parsed : Parsed w x → o ≡ line_step j (line_means w x) → o ≡ line_step j (line_in w)
  line_parsed parsed l = l ∙ ap (line_step j) (sym parsed.means)
