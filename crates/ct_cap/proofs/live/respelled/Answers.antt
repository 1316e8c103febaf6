use Rattle.std.proofs.Common.{◌%◌, ◌^◌, ◌≡◌, ◌∙◌, ap, sym}
use Rattle.def_words.specs.Authority.{cap_address, cap_high, seal_field, word_of}
use Rattle.def_words.specs.Permissions.{bit, execute}
use Rattle.def_words.specs.Seals.{seal_type}
use Rattle.law_words.proofs.Words.{bounds_same}
use Rattle.ct_perm.proofs.Tests.{has_ex}
use Rattle.ct_cap.proofs.Parts.{perms_of, seal_of}
use Rattle.ct_cap.proofs.live.respelled.Goals as goal

pub invariant_of-result : goal.invariant_of-result
invariant_of-result c =
    let is : c.cap_of.result.word ≡ word_of c.args.high (cap_address c.l.inside.cap) =
    ap (λ r. r.word) c.cap_of.ensures ∙ c.word_of-word.ensures ∙ ap (λ a. word_of c.args.high a) c.address_of.ensures in
    let low : c.args.high % 2 ^ 22 ≡ cap_high c.l.inside.cap % 2 ^ 22 = c.requires.bounds ∙ ap (λ d. cap_high d % 2 ^ 22) (sym c.l.view_is) in
    let kind : c.type_of.result ≡ seal_type (bit c.args.perms.0 execute) (seal_field c.args.high) =
    c.type_of.ensures ∙ ap (λ b. seal_type b c.field.result) (c.contains.ensures tt ∙ has_ex c.args.perms.0) ∙ ap (λ f. seal_type (bit c.args.perms.0 execute) f) c.field.ensures in (
      c.l.invariant.0 ∙ sym (bounds_same c.l.inside.cap c.cap_of.result c.args.high is low),
      ap (λ p. record { 0 = p }) (perms_of c.l.inside.cap c.cap_of.result c.args.high c.args.perms.0 is c.requires.rights),
      kind ∙ seal_of c.l.inside.cap c.cap_of.result c.args.high c.args.perms.0 is c.requires.rights,
    )
