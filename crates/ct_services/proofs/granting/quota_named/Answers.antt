use Rattle.std.proofs.Common.{refl, sym, ◌∙◌}
use Rattle.ct_services.proofs.Serving.{serves_as, serves_no_return, registers_alike}
use Rattle.ct_services.proofs.granting.quota_named.Goals as goal

pub returns-in-Some : goal.returns-in-Some
returns-in-Some g c = λ x ss. serves_no_return ss c.register.ensures c.in-Some.ensures

pub returns-else-is_quota : goal.returns-else-is_quota
returns-else-is_quota g c =
    let returns = rw c.register.ensures at (sym c.in_default.ensures) in
    let none = rw c.register-c.ensures at (sym c.is_quota.ensures ∙ c.if-is_quota.false) in
    λ x.
    serves_as c.refuse.ensures (λ i m ss h. rw (registers_alike m c.args.engine.now ss c.args.t, returns, none) refl)
