use Rattle.std.proofs.Common.{◌≡◌, ◌∙◌, ◌==◌, ◌&&◌, true, refl, arith}
use Rattle.def_profile.specs.declared.seals.TheConstants.{TOKEN_TYPE}
use Rattle.def_words.specs.Authority.{cap_top}
use Rattle.def_words.specs.Seals.{cap_seal}
use Rattle.ct_services.proofs.sealing.sealed_in.Goals as goal

pub returns : goal.returns
returns g c =
    let sealed : (c.args.c.tag && (cap_seal c.args.c == TOKEN_TYPE)) ≡ true = grind arith in
    let top : c.c-2.inside.bounds.top ≡ cap_top c.args.c = grind arith in
    c.find.ensures ∙ rw (sealed, c.base_of.ensures, top) refl
