use Rattle.std.proofs.Common.{◌≡◌, map, take}
use Rattle.def_desc.specs.declared.tables.Form.TheVariants as form
use Rattle.def_desc.specs.Rows.{LimportRow}
use Rattle.def_link.specs.Slots.{slot, form_row}
use Rattle.ct_link_slots.proofs.tables.library_slots.Given as goal

abbrev pub invariant-loop-import : goal.invariant-loop-import
invariant-loop-import l =
    l.slots.items
    ≡ map (λ (x : LimportRow). slot x.alias (form_row l.desc 0 form.Library x.library)) (take l.import-index l.library.imports)
