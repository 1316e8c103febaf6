use Rattle.std.proofs.Common.{◌∙◌, true, false, refl, sym}
use Rattle.ct_services.proofs.Sealed.{found_so, found_key, none_found}
use Rattle.ct_services.proofs.Serving.{serves_no_key}
use Rattle.ct_services.proofs.sealing.key_named.Goals as goal

pub returns-then-is_key : goal.returns-then-is_key
returns-then-is_key g c =
    let found = rw c.register.ensures at c.in-Some.ensures in
    let w = found_so _ _ _ found in
    let row = sym c.is_key.ensures ∙ c.if-is_key.true in
    record { object = w.object; is = found_key _ _ _ _ true found row ∙ w.is; number = w.number; row = row; same = refl }

pub returns-else-is_key : goal.returns-else-is_key
returns-else-is_key g c =
    let found = rw c.register.ensures at c.in-Some.ensures in
    serves_no_key c.refuse.ensures (found_key _ _ _ _ false found (sym c.is_key.ensures ∙ c.if-is_key.false))

pub returns-in-None : goal.returns-in-None
returns-in-None g c =
    serves_no_key c.refuse-in-None.ensures (rw (← c.register.ensures, none_found _ _ c.in-None.ensures) refl)
