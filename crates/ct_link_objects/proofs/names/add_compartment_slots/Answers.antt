use Rattle.std.proofs.Common.{◌≡◌, map, [], ◌∷◌}
use Rattle.def_desc.specs.Names.{key_name}
use Rattle.def_desc.specs.Rows.{ImportRow, QuotaRow}
use Rattle.ct_link_objects.specs.Slots.{with_slot, with_slots}
use Rattle.ct_link_objects.proofs.Slots.{slots_taken}
use Rattle.ct_link_objects.proofs.names.add_compartment_slots.Goals as goal

pub returns : goal.returns
returns c =
    let row = c.args.compartment.now in
    let names = c.args.names.now in
    let switch = 115 ∷ 119 ∷ 105 ∷ 116 ∷ 99 ∷ 104 ∷ [] in
    let one : c.add.new.names ≡ with_slot names switch = c.in_ok-add.ensures in
    let two : c.add_imports.new.names ≡ with_slots c.add.new.names (map (λ (x : ImportRow). x.alias) row.imports) = rw (← c.compartment.view_is, ← c.as_slice.ensures.value) c.in_ok-add_imports.ensures in
    let three : c.add_quotas.new.names ≡ with_slots c.add_imports.new.names (map (λ (q : QuotaRow). q.name) row.quotas) = rw (← c.compartment.view_is, ← c.as_slice-2.ensures.value) c.in_ok-add_quotas.ensures in
    let four : c.add_keys.new.names ≡ with_slots c.add_quotas.new.names (map key_name row.keys) = rw (← c.compartment.view_is, ← c.as_slice-3.ensures.value) c.in_ok-add_keys.ensures in
    slots_taken switch (map (λ (x : ImportRow). x.alias) row.imports) (map (λ (q : QuotaRow). q.name) row.quotas) (map key_name row.keys) names c.add.new.names c.add_imports.new.names c.add_quotas.new.names c.add_keys.new.names one two three four
