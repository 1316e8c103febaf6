use Rattle.std.proofs.Common.{◌∙◌, take, ap, arith}
use Rattle.def_image.specs.Members.{compartment_entries, library_entries, first_library}
use Rattle.def_image.specs.Sizes.{sum_of}
use Rattle.ct_boot.proofs.Counts.{number_at}
use Rattle.ct_boot.proofs.numbers.library_number.Goals as goal

pub returns-clause-is : goal.returns-clause-is
returns-clause-is c =
    let own = c.own_entries.ensures.is ∙ ap (sum_of compartment_entries) (c.as_slice.ensures.value ∙ ap (λ p. p.compartments) c.parts.view_is) in
    let shared = c.shared_entries.ensures.is ∙ ap (λ xs. sum_of library_entries (take c.args.of xs)) (c.deref.ensures.value ∙ ap (λ p. p.libraries) c.parts.view_is) in
    let at = number_at library_entries (first_library c.args.parts.now) c.args.parts.now.libraries c.args.of c.requires.there in
    omega (arith, own, shared, at)
