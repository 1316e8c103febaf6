use Rattle.std.proofs.Common.{◌≡◌, ◌∙◌, ap, sym}
use Rattle.def_words.specs.Authority.{cap_high, permission_bits}
use Rattle.def_words.specs.Capability.{with_seal_field}
use Rattle.def_words.specs.Permissions.{cap_perms, unpacked}
use Rattle.ct_cap.proofs.Parts.{sealed_rights}
use Rattle.ct_cap.proofs.live.with_seal.Goals as goal

pub respelled-requires-clause-rights : goal.respelled-requires-clause-rights
respelled-requires-clause-rights c =
    let set : c.l.inside.perms.0 ≡ cap_perms c.l.inside.cap = ap (λ p. p.0) c.l.invariant.1 in
    let high : c.with_seal_field-high.result ≡ with_seal_field (cap_high c.l.inside.cap) c.args.field =
    c.with_seal_field-high.ensures ∙ ap (λ h. with_seal_field h c.args.field) c.high_of.ensures in
    sealed_rights c.l.inside.cap c.args.field c.l.inside.perms.0 c.requires set ∙ ap (λ h. unpacked (permission_bits h)) (sym high)
