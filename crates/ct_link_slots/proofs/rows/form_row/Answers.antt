use Rattle.std.proofs.Common.{◌≡◌, sym, ap, ◌∙◌}
use Rattle.def_image.specs.declared.SlotKind.TheVariants as kind
use Rattle.def_words.specs.Permissions.{packed}
use Rattle.def_profile.specs.declared.rights.TheConstants.{SEALED_RIGHTS}
use Rattle.def_desc.specs.Named.{device_names, shared_names, sealed_names}
use Rattle.def_link.specs.Slots.{index_of, slot_row, form_row}
use Rattle.ct_link_slots.proofs.rows.form_row.Goals as goal

pub returns-in-Device : goal.returns-in-Device
returns-in-Device c =
    let d = c.args.desc.now in
    let first : c.index_named.result ≡ index_of c.args.name.now (device_names d) = rw (← c.desc.view_is, ← c.as_bytes.ensures.value, ← c.as_slice.ensures.value) c.index_named.ensures in
    c.listed_row.ensures ∙ ap (λ n. slot_row kind.Device c.args.rights n 0) first ∙ ap (λ f. form_row d c.args.rights f c.args.name.now) (sym c.in-Device.is)

pub returns-in-Shared : goal.returns-in-Shared
returns-in-Shared c =
    let d = c.args.desc.now in
    let first : c.index_named-in-Shared.result ≡ index_of c.args.name.now (shared_names d) = rw (← c.desc.view_is, ← c.as_bytes-in-Shared.ensures.value, ← c.as_slice-in-Shared.ensures.value) c.index_named-in-Shared.ensures in
    c.listed_row-in-Shared.ensures ∙ ap (λ n. slot_row kind.Shared c.args.rights n 0) first ∙ ap (λ f. form_row d c.args.rights f c.args.name.now) (sym c.in-Shared.is)

pub returns-in-Sealed : goal.returns-in-Sealed
returns-in-Sealed c =
    let d = c.args.desc.now in
    let first : c.index_named-in-Sealed.result ≡ index_of c.args.name.now (sealed_names d) = rw (← c.desc.view_is, ← c.as_bytes-in-Sealed.ensures.value, ← c.as_slice-in-Sealed.ensures.value) c.index_named-in-Sealed.ensures in
    let rights : c.packed.result ≡ packed SEALED_RIGHTS = c.packed.ensures in
    c.listed_row-in-Sealed.ensures ∙ ap (λ n. slot_row kind.Sealed c.packed.result n 0) first ∙ ap (λ r. slot_row kind.Sealed r (index_of c.args.name.now (sealed_names d)) 0) rights ∙ ap (λ f. form_row d c.args.rights f c.args.name.now) (sym c.in-Sealed.is)
