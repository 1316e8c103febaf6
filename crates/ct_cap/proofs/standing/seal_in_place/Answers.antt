use Rattle.std.proofs.Common.{◌≡◌, ap, sym, ◌∙◌}
use Rattle.def_words.specs.declared.Cap.{Cap}
use Rattle.def_words.specs.Authority.{cap_address, cap_high, seal_field, word_of}
use Rattle.def_words.specs.Capability.{with_seal_field}
use Rattle.def_words.specs.Permissions.{bit, cap_perms, execute}
use Rattle.def_words.specs.Seals.{seal_type}
use Rattle.law_words.proofs.Words.{bounds_same, seal_low, seal_seal}
use Rattle.ct_perm.proofs.Tests.{has_ex}
use Rattle.ct_cap.proofs.Parts.{perms_of, seal_of, sealed_rights}
use Rattle.ct_cap.proofs.standing.seal_in_place.Goals as goal

pub invariant_of-l : goal.invariant_of-l
invariant_of-l c =
    let old : Cap = c.l.inside.cap in
    let new : Cap = record { tag = old.tag; word = c.sealed_word-l-inside.result; shadow = c.shadow_from-l-inside.result } in
    let field = c.args.field in
    let high = with_seal_field (cap_high old) field in
    let is : new.word ≡ word_of high (cap_address old) = c.sealed_word-l-inside.ensures in
    let set : c.l.inside.perms.0 ≡ cap_perms old = ap (λ p. p.0) c.l.invariant.1 in
    let spelled = sealed_rights old field c.l.inside.perms.0 c.requires set in
    let kind : c.type_of-l-inside.result ≡ seal_type (bit c.l.inside.perms.0 execute) (seal_field high) =
    c.type_of-l-inside.ensures ∙ ap (λ b. seal_type b field) (c.contains.ensures tt ∙ has_ex c.l.inside.perms.0)
    ∙ ap (λ f. seal_type (bit c.l.inside.perms.0 execute) f) (sym (seal_seal (cap_high old) field c.requires)) in (
      c.l.invariant.0 ∙ sym (bounds_same old new high is (seal_low (cap_high old) field c.requires)),
      ap (λ p. record { 0 = p }) (perms_of old new high c.l.inside.perms.0 is spelled),
      kind ∙ seal_of old new high c.l.inside.perms.0 is spelled,
    )
