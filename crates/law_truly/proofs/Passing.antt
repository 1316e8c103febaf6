-- What a list of checks comes to: it passes where all hold, and else the first that doesn't hold fails.
use Rattle.std.proofs.Common.{◌≡◌, true, false, List, [], ◌∷◌, Some, None, refl, ap}
use Rattle.def_words.specs.declared.Trap.{Trap}
use Rattle.def_step.specs.Checks.{Check, first_failed}
use Rattle.def_safety.specs.Traps.{AllHold, FirstFails}

pub passes_hold : (cs : List Check) → first_failed cs ≡ None → AllHold cs
passes_hold [] e = tt
passes_hold ((true, why) ∷ cs) e = (refl, passes_hold cs e)
passes_hold ((false, why) ∷ cs) e = absurd (let clash : Some why ≡ None = e in cc)

pub hold_passes : (cs : List Check) → AllHold cs → first_failed cs ≡ None
hold_passes [] h = refl
hold_passes ((true, why) ∷ cs) h = hold_passes cs h.1
hold_passes ((false, why) ∷ cs) h = absurd (let clash : false ≡ true = h.0 in cc)

pub fails_first : (cs : List Check) (why : Trap) → first_failed cs ≡ Some why → FirstFails cs why
fails_first [] why e = absurd (let clash : None ≡ Some why = e in cc)
fails_first ((true, other) ∷ cs) why e =
    let rest = fails_first cs why e in
    record { before = (true, other) ∷ rest.before; after = rest.after; list = ap (λ zs. (true, other) ∷ zs) rest.list; hold = (refl, rest.hold) }
fails_first ((false, other) ∷ cs) why e =
    let same : other ≡ why = cc in
    record { before = []; after = cs; list = ap (λ z. (false, z) ∷ cs) same; hold = tt }
