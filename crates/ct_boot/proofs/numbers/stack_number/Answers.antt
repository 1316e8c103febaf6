use Rattle.std.proofs.Common.{◌∙◌, ap, arith}
use Rattle.def_image.specs.Members.{compartment_entries, library_entries}
use Rattle.def_image.specs.Sizes.{sum_of}
use Rattle.ct_boot.proofs.Counts.{stack_at}
use Rattle.ct_boot.proofs.numbers.stack_number.Goals as goal

pub returns : goal.returns
returns c =
    let own = c.own_entries-owned.ensures.is ∙ ap (sum_of compartment_entries) (c.as_slice.ensures.value ∙ ap (λ p. p.compartments) c.parts.view_is) in
    let shared = c.shared_entries.ensures.is ∙ ap (sum_of library_entries) (c.as_slice-2.ensures.value ∙ ap (λ p. p.libraries) c.parts.view_is) in
    let at = stack_at c.args.parts.now c.args.of c.requires.there in
    omega (arith, own, shared, at)
