use Rattle.std.proofs.Common.{◌&&◌, ◌<◌, ◌==◌, ◌^◌, ◌≡◌, ◌∙◌, ap, arith, refl, sym}
use Rattle.ct_cap.proofs.Addresses.{addressed_is}
use Rattle.ct_cap.proofs.pointing.set_address.Goals as goal
use Rattle.def_words.specs.Authority.{bounds_of, cap_high, word_of}
use Rattle.def_words.specs.Capability.{cap_of, with_address}
use Rattle.law_words.proofs.Words.{bounds_is, perms_same, seal_same}

pub invariant_of-result : goal.invariant_of-result
invariant_of-result c =
    let small : c.args.address < 2 ^ 32 = omega (arith, c.ranges.address) in
    let is_word : c.cap_of.result.word ≡ word_of (cap_high c.l.inside.cap) c.args.address =
    ap (λ r. r.word) c.cap_of.ensures ∙ c.word_of.ensures ∙ ap (λ h. word_of h c.args.address) c.high_of-high.ensures in
    let decoded : c.decode-bounds.result ≡ bounds_of (cap_high c.l.inside.cap) c.args.address = c.decode-bounds.ensures ∙ ap (λ h. bounds_of h c.args.address) c.high_of-high.ensures in (
      decoded ∙ sym (bounds_is c.cap_of.result (cap_high c.l.inside.cap) c.args.address small is_word),
      c.l.invariant.1 ∙ ap (λ p. record { 0 = p }) (sym (perms_same c.l.inside.cap c.cap_of.result (cap_high c.l.inside.cap) c.args.address small is_word refl)),
      c.l.invariant.2 ∙ sym (seal_same c.l.inside.cap c.cap_of.result (cap_high c.l.inside.cap) c.args.address small is_word refl refl),
    )

pub returns : goal.returns
returns c =
    let small : c.args.address < 2 ^ 32 = omega (arith, c.ranges.address) in
    let is_word : c.word_of.result ≡ word_of (cap_high c.l.inside.cap) c.args.address = c.word_of.ensures ∙ ap (λ h. word_of h c.args.address) c.high_of-high.ensures in
    let decoded : c.decode-bounds.result ≡ bounds_of (cap_high c.l.inside.cap) c.args.address = c.decode-bounds.ensures ∙ ap (λ h. bounds_of h c.args.address) c.high_of-high.ensures in
    c.cap_of.ensures
    ∙ ap (λ w. cap_of (c.l.inside.cap.tag && (c.l.inside.seal == 0) && ((c.decode-bounds.result.base == c.l.inside.bounds.base) && (c.decode-bounds.result.top == c.l.inside.bounds.top))) w c.l.inside.cap.shadow) is_word
    ∙ addressed_is c.l.inside.cap c.decode-bounds.result c.l.inside.bounds c.l.inside.seal c.args.address small decoded c.l.invariant.0 c.l.invariant.2
    ∙ ap (λ d. with_address d c.args.address) c.l.view_is
