-- `kept_mask` meets its contract. Assumes nothing.
use mathlib.Core.Path.{◌≡◌}
use Rattle.masks.specs.Masks.{mask_of}
use Rattle.forms.specs.Form.{keeps}
use Rattle.formmaker.proofs.kept_mask.Given as goal

abbrev pub invariant-loop-s : goal.invariant-loop-s
invariant-loop-s l = l.mask ≡ mask_of (keeps l.next l.k l.t) l.s
