use Rattle.std.proofs.Common.{◌≡◌, ◌+◌, ◌∙◌, length, ap, sym, subst, arith}
use Rattle.def_image.specs.Members.{text_base, code_number}
use Rattle.def_boot.specs.Booting.{PutsBytes}
use Rattle.law_boot.proofs.Putting.{puts_text, puts_initial}
use Rattle.ct_boot.specs.Slots.{SlotsPut}
use Rattle.ct_boot.proofs.Fits.{own_code_end}
use Rattle.ct_boot.proofs.Made.{bytes_at, slots_put}
use Rattle.ct_boot.proofs.filling.put_compartment.Goals as goal

pub put_code-requires-clause-slots : goal.put_code-requires-clause-slots
put_code-requires-clause-slots g c =
    let number : c.code_number-first.result + 2 ≡ code_number c.args.parts.now c.args.of + 2 = ap (λ n. n + 2) c.code_number-first.ensures.is in
    subst (λ d. SlotsPut c.args.parts.now (c.code_number-first.result + 2) d) (sym (ap (λ o. o.code) c.own.view_is))
    (slots_put c.args.parts.now c.requires.sound c.args.of (c.code_number-first.result + 2) c.args.own.now c.requires.there number)

pub put_code-requires-clause-text : goal.put_code-requires-clause-text
put_code-requires-clause-text g c =
    subst (λ d. PutsBytes c.args.parts.now (text_base d) d.text) (sym (ap (λ o. o.code) c.own.view_is)) (puts_text c.args.parts.now c.requires.sound c.args.of c.args.own.now c.requires.there)

pub put_code-requires-clause-few : goal.put_code-requires-clause-few
put_code-requires-clause-few g c =
    let small = c.code_number-first.ensures.small in
    let few = (c.requires.sound.compartment c.args.of c.args.own.now c.requires.there).slots.1 in
    let same = ap (λ o. length o.code.slots) c.own.view_is in
    omega (arith, small, few, same)

pub put_code-requires-clause-fits : goal.put_code-requires-clause-fits
put_code-requires-clause-fits g c =
    let end = own_code_end c.args.parts.now c.requires.sound c.args.of c.args.own.now c.requires.there in
    let same = ap (λ o. text_base o.code) c.own.view_is in
    omega (arith, end, same)

pub put_bytes-requires-clause-puts : goal.put_bytes-requires-clause-puts
put_bytes-requires-clause-puts g c =
    bytes_at c.args.parts.now _ _ _ _ (puts_initial c.args.parts.now c.requires.sound c.args.of c.args.own.now c.requires.there) (ap (λ o. o.globals) c.own.view_is)
    (c.as_slice.ensures.value ∙ ap (λ o. o.initial) c.own.view_is)
