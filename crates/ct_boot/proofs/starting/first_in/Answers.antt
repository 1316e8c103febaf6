use Rattle.std.proofs.Common.{◌≡◌, ◌+◌, ◌∙◌, length, refl, ap, arith}
use Rattle.ct_entry.specs.declared.rows.Owner.TheVariants.{Compartment}
use Rattle.def_boot.specs.Entries.{stack_row}
use Rattle.def_boot.specs.Made.{boot_cap_of, entry_cap_as}
use Rattle.def_image.specs.Members.{code_number, globals_number, text_base}
use Rattle.def_words.specs.Capability.{with_address}
use Rattle.def_words.specs.Derive.{memory_root}
use Rattle.ct_boot.proofs.Fits.{own_export_end, stack_end}
use Rattle.ct_boot.proofs.Made.{code_made_is, globals_made_are, stack_is}
use Rattle.law_image.proofs.Sounds.{compartment_is}
use Rattle.ct_boot.proofs.starting.first_in.Goals as goal

pub own_stack-requires : goal.own_stack-requires
own_stack-requires c = let end = stack_end c.args.parts.now c.requires.sound c.args.index c.args.thread.now c.requires.one in omega (arith, end)

pub text_base-requires : goal.text_base-requires
text_base-requires c =
    let end = own_export_end c.args.parts.now c.requires.sound c.args.thread.now.compartment c.args.thread.now.export c.args.own.now c.args.export.now c.requires.there c.requires.enters in
    let same = ap (λ o. text_base o.code) c.own.view_is in
    omega (arith, end, same)

pub overflow_add-text_base : goal.overflow_add-text_base
overflow_add-text_base c =
    let end = own_export_end c.args.parts.now c.requires.sound c.args.thread.now.compartment c.args.thread.now.export c.args.own.now c.args.export.now c.requires.there c.requires.enters in
    let same = c.text_base.ensures ∙ ap (λ o. text_base o.code) c.own.view_is in
    let offset = ap (λ x. x.row.offset) c.export.view_is in
    omega (arith, end, same, offset)

pub returns : goal.returns
returns c =
    let p = c.args.parts.now in
    let t = c.args.thread.now in
    let own = c.args.own.now in
    let code = ap (λ o. o.code) c.own.view_is in
    let owner = ap (λ x. x.compartment) c.thread.view_is in
    let number : c.code_number-number.result ≡ code_number p t.compartment = c.code_number-number.ensures.is ∙ ap (code_number p) owner in
    let globals : c.code_number-number.result + 1 ≡ globals_number p t.compartment = c.code_number-number.ensures.globals ∙ ap (globals_number p) owner in
    let slots = ap (λ d. length d.slots) code in
    let gate = ap (λ x. x.export) c.thread.view_is in
    let begin = c.text_base.ensures ∙ ap text_base code in
    let offset = ap (λ x. x.row.offset) c.export.view_is in
    let entry : c.export_number-entry.result ≡ code_number p t.compartment + 2 + length own.code.slots + t.export = omega (arith, c.export_number-entry.ensures, number, slots, gate) in
    let entered : c.text_base.result + c.export.inside.row.offset ≡ text_base own.code + c.args.export.now.row.offset = omega (arith, begin, offset) in
    rw (
      c.set_address.ensures ∙ ap (λ m. with_address m (c.text_base.result + c.export.inside.row.offset)) (c.own_code.ensures (Compartment t.compartment) ∙ code_made_is p t.compartment own _ _ c.requires.there number code)
          ∙ ap (λ at. with_address (boot_cap_of p (code_number p t.compartment)) at) entered,
      c.integer-none.ensures,
      c.return_sentry.ensures,
      c.own_stack.ensures c.args.index ∙ ap (λ n. entry_cap_as memory_root n (stack_row c.args.index t) (t.stack + t.stack_length) 0) c.stack_number.ensures ∙ stack_is p c.args.index t c.requires.one,
      c.own_globals.ensures t.compartment ∙ globals_made_are p t.compartment own _ c.requires.there globals,
      c.posture_of.ensures,
      owner,
      entry,
      compartment_is p t.compartment own c.requires.there,
      c.requires.enters,
    ) refl
