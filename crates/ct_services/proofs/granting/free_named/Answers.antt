use Rattle.std.proofs.Common.{◌≡◌, ◌&&◌, true, refl, arith}
use Rattle.def_words.specs.Authority.{cap_top}
use Rattle.def_words.specs.Seals.{is_unsealed}
use Rattle.ct_services.proofs.Serving.{serves_as}
use Rattle.ct_services.proofs.granting.free_named.Goals as goal

pub returns-then-not-c : goal.returns-then-not-c
returns-then-not-c g c = serves_as c.refuse.ensures (λ i m ss h. grind arith)

pub returns : goal.returns
returns g c =
    let plain : (c.args.c.tag && is_unsealed c.args.c) ≡ true = grind arith in
    let top : c.c-2.inside.bounds.top ≡ cap_top c.args.c = grind arith in
    serves_as c.free_whole.ensures (λ i m ss h. rw (plain, c.base_of.ensures, top) refl)
