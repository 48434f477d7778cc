-- `put_delegate` meets its contract. Assumes nothing.
use mathlib.Core.Path.{◌≡◌, ap}
use mathlib.Core.List.{[], ◌∷◌}
use Rattle.delegates.specs.declared.DelegateAnswer.{DelegateAnswer}
use Rattle.delegates.specs.mirror.Answer.{delegate_means}
use Rattle.ruletext.specs.RuleText.{field, delegate_text}
use Rattle.ruletext.proofs.put_delegate.Goals as goal

pub returns-in-State : goal.returns-in-State
returns-in-State c =
    let d = c.args.delegate in
    let e : delegate_text (delegate_means d) ≡ field c.in-State.q.0 = ap (λ (a : DelegateAnswer). delegate_text (delegate_means a)) c.in-State.is in
    rw e c.put_field.ensures

pub returns-in-None : goal.returns-in-None
returns-in-None c =
    let d = c.args.delegate in
    let e : delegate_text (delegate_means d) ≡ 32 ∷ 45 ∷ [] = ap (λ (a : DelegateAnswer). delegate_text (delegate_means a)) c.in-None.is in
    rw e c.put_bytes.ensures
