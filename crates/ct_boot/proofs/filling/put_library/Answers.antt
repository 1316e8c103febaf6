use Rattle.std.proofs.Common.{◌≡◌, ◌+◌, ap, arith}
use Rattle.def_image.specs.Members.{library_number}
use Rattle.law_boot.proofs.Putting.{puts_library_text}
use Rattle.ct_boot.proofs.Fits.{library_end}
use Rattle.ct_boot.proofs.Made.{library_slots_put}
use Rattle.ct_boot.proofs.filling.put_library.Goals as goal

pub put_code-requires-clause-slots : goal.put_code-requires-clause-slots
put_code-requires-clause-slots g c =
    let number : c.library_number-first.result + 1 ≡ library_number c.args.parts.now c.args.of + 1 = ap (λ n. n + 1) c.library_number-first.ensures.is in
    library_slots_put c.args.parts.now c.requires.sound c.args.of (c.library_number-first.result + 1) c.args.code.now c.requires.there number

pub put_code-requires-clause-text : goal.put_code-requires-clause-text
put_code-requires-clause-text g c = puts_library_text c.args.parts.now c.requires.sound c.args.of c.args.code.now c.requires.there

pub put_code-requires-clause-fits : goal.put_code-requires-clause-fits
put_code-requires-clause-fits g c = let end = library_end c.args.parts.now c.requires.sound c.args.of c.args.code.now c.requires.there in omega (arith, end)
