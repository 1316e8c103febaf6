use Rattle.std.proofs.Common.{◌<◌, ◌^◌, ◌≡◌, ◌∙◌, ap, arith, bit_and, sym}
use Rattle.def_words.specs.Authority.{permission_bits}
use Rattle.def_words.specs.Capability.{cap_of, word_with_set}
use Rattle.def_words.specs.Permissions.{cap_perms, normal_set, packed, unpacked}
use Rattle.law_words.proofs.Narrowing.{perms_small}
use Rattle.ct_cap.proofs.Parts.{normal_spelled, spelled_rights, word_unchanged}
use Rattle.ct_cap.proofs.rights.narrowed.Goals as goal

pub respelled-requires-clause-rights : goal.respelled-requires-clause-rights
respelled-requires-clause-rights c =
    let set : c.l.inside.perms.0 ≡ cap_perms c.l.inside.cap = ap (λ p. p.0) c.l.invariant.1 in
    let small : c.l.inside.perms.0 < 2 ^ 12 = omega (arith, set, perms_small c.l.inside.cap) in
    let normal : c.normal-normal.result.0 ≡ normal_set c.masked-set.result.0 = c.normal-normal.ensures.value in
    let bits : c.pack.result ≡ packed (normal_set c.masked-set.result.0) = c.pack.ensures.value ∙ ap (λ s. packed s) normal in
    normal
    ∙ normal_spelled c.masked-set.result.0 (c.masked-set.ensures.small small)
    ∙ ap (λ b. unpacked b) (sym bits)
    ∙ spelled_rights c.high_of.result c.pack.result c.pack.ensures.six
    ∙ ap (λ h. unpacked (permission_bits h)) (sym c.with_permission_bits-high.ensures)

pub returns-then-set-l : goal.returns-then-set-l
returns-then-set-l c =
    let kept : bit_and c.l.inside.perms.0 c.args.mask ≡ c.l.inside.perms.0 = sym c.masked-set.ensures.value ∙ c.if-set-l.true in
    let set : c.l.inside.perms.0 ≡ cap_perms c.l.inside.cap = ap (λ p. p.0) c.l.invariant.1 in
    let of_cap : bit_and (cap_perms c.l.inside.cap) c.args.mask ≡ cap_perms c.l.inside.cap = ap (λ s. bit_and s c.args.mask) (sym set) ∙ kept ∙ set in
    let word : c.l.inside.cap.word ≡ word_with_set c.l.inside.cap (bit_and (cap_perms c.l.inside.cap) c.args.mask) =
    sym (word_unchanged c.l.inside.cap (bit_and (cap_perms c.l.inside.cap) c.args.mask) of_cap) in
    c.retagged.ensures
    ∙ ap (λ d. cap_of c.args.tag d.word d.shadow) (sym c.l.view_is)
    ∙ ap (λ w. cap_of c.args.tag w c.l.inside.cap.shadow) word
    ∙ ap (λ d. cap_of c.args.tag (word_with_set d (bit_and (cap_perms d) c.args.mask)) d.shadow) c.l.view_is
