use Rattle.std.proofs.Common.{◌∙◌, take, ap, arith}
use Rattle.def_image.specs.Members.{compartment_entries}
use Rattle.def_image.specs.Sizes.{sum_of}
use Rattle.ct_boot.proofs.Counts.{number_at}
use Rattle.ct_boot.proofs.numbers.code_number.Goals as goal

pub returns-clause-is : goal.returns-clause-is
returns-clause-is c =
    let own = c.own_entries.ensures.is ∙ ap (λ xs. sum_of compartment_entries (take c.args.of xs)) (c.deref.ensures.value ∙ ap (λ p. p.compartments) c.parts.view_is) in
    let at = number_at compartment_entries 1 c.args.parts.now.compartments c.args.of c.requires.there in
    omega (arith, own, at)

pub returns-clause-globals : goal.returns-clause-globals
returns-clause-globals c =
    let own = c.own_entries.ensures.is ∙ ap (λ xs. sum_of compartment_entries (take c.args.of xs)) (c.deref.ensures.value ∙ ap (λ p. p.compartments) c.parts.view_is) in
    let at = number_at compartment_entries 2 c.args.parts.now.compartments c.args.of c.requires.there in
    omega (arith, own, at)
