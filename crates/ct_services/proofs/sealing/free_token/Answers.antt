use Rattle.std.proofs.Common.{◌≡◌, ◌∙◌, refl, sym, eq-eqb, arith}
use Rattle.std.proofs.lemmas.Bool.{ne_eqb}
use Rattle.def_words.specs.Authority.{cap_top}
use Rattle.ct_services.proofs.Serving.{serves_as, register_alike}
use Rattle.ct_services.proofs.Sealed.{found_so, none_found, of_quota}
use Rattle.ct_services.proofs.sealing.free_token.Goals as goal

pub returns-then-found-quota : goal.returns-then-found-quota
returns-then-found-quota g c =
    let w = found_so _ _ _ c.in-Some.ensures in
    let other = ne_eqb w.object.quota c.args.quota (λ same. c.if-found-quota.true (w.quota ∙ same)) in
    serves_as c.refuse.ensures
    (λ i m ss h. rw (← register_alike m c.args.engine.now ss c.args.t 12, ← c.register-c.ensures, w.is, other) refl)

pub returns-else-found-quota : goal.returns-else-found-quota
returns-else-found-quota g c =
    let s = c.args.engine.now in
    let w = found_so _ _ _ c.in-Some.ensures in
    let same = sym w.quota ∙ c.if-found-quota.false in
    let own = eq-eqb w.object.quota c.args.quota same in
    let top : c.c.inside.bounds.top ≡ cap_top c.register-c.result = grind arith in
    let there = of_quota s.state.objects s.state.tokens c.args.key c.register-c.result w.object c.args.quota
    c.base_of.result c.c.inside.bounds.top same c.base_of.ensures top w.is in
    serves_as c.free_whole.ensures
    (λ i m ss h. rw (← register_alike m s ss c.args.t 12, ← c.register-c.ensures, w.is, own, there) refl)

pub returns-in-None : goal.returns-in-None
returns-in-None g c =
    serves_as c.refuse-in-None.ensures
    (λ i m ss h.
    rw (← register_alike m c.args.engine.now ss c.args.t 12, ← c.register-c.ensures, none_found _ _ c.in-None.ensures) refl)
