use Rattle.std.proofs.Common.{ℕ, ◌<◌, ◌^◌, ◌≡◌, ◌∙◌, ap, arith, sym}
use Rattle.def_words.specs.Authority.{cap_high, permission_bits, seal_field, word_of}
use Rattle.def_words.specs.Capability.{with_fields}
use Rattle.law_words.proofs.Words.{address_small, bounds_is, perms_same, seal_same}
use Rattle.ct_cap.proofs.bounding.bounded.Goals as goal

rights_stay : (high fields : ℕ) → fields < 2 ^ 22 → permission_bits (with_fields high fields) ≡ permission_bits high
rights_stay high fields small = omega (arith, small)

seal_stays : (high fields : ℕ) → fields < 2 ^ 22 → seal_field (with_fields high fields) ≡ seal_field high
seal_stays high fields small = omega (arith, small)

pub invariant_of-result : goal.invariant_of-result
invariant_of-result c =
    let old = c.l.inside.cap in
    let new = c.cap_of.result in
    let high = c.with_fields-high.result in
    let address = c.address_of-address.result in
    let small : address < 2 ^ 32 = rw c.address_of-address.ensures (address_small old) in
    let is_high : high ≡ with_fields (cap_high old) c.args.fields = c.with_fields-high.ensures ∙ ap (λ h. with_fields h c.args.fields) c.high_of.ensures in
    let is_word : new.word ≡ word_of high address = ap (λ r. r.word) c.cap_of.ensures ∙ c.word_of.ensures in
    let rights : permission_bits high ≡ permission_bits (cap_high old) = ap (λ h. permission_bits h) is_high ∙ rights_stay (cap_high old) c.args.fields c.requires in
    let kind : seal_field high ≡ seal_field (cap_high old) = ap (λ h. seal_field h) is_high ∙ seal_stays (cap_high old) c.args.fields c.requires in (
      c.decode.ensures ∙ sym (bounds_is new high address small is_word),
      c.l.invariant.1 ∙ ap (λ p. record { 0 = p }) (sym (perms_same old new high address small is_word rights)),
      c.l.invariant.2 ∙ sym (seal_same old new high address small is_word rights kind),
    )
