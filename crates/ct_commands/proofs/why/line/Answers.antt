use Rattle.std.proofs.Common.{ap, ◌∙◌}
use Rattle.def_program.specs.Paths.{compartment_named, owner_named}
use Rattle.ct_commands.proofs.Told.{are_few, found}
use Rattle.ct_commands.proofs.why.line.Goals as goal

pub owner_named-requires : goal.owner_named-requires
owner_named-requires c = are_few c.args.image.now _ c.parts-parts.ensures.parts c.parts-parts.ensures.faultless

pub compartment_named-requires : goal.compartment_named-requires
compartment_named-requires c = are_few c.args.image.now _ c.parts-parts.ensures.parts c.parts-parts.ensures.faultless

pub returns : goal.returns
returns c =
    let p = c.parts-parts.result.now in
    found c.args.image.now p c.args.owner.now c.args.compartment.now _ _ _ c.parts-parts.ensures.parts
    (c.in-Some.ensures.named ∙ ap (owner_named p) c.as_bytes.ensures.value)
    (c.in-Some-compartment_named.ensures ∙ ap (compartment_named p) c.as_bytes-2.ensures.value) c.in_ok-text.ensures
