use Rattle.std.proofs.Common.{◌≡◌, [], Some, None, sym, ap, ◌∙◌}
use Rattle.def_image.specs.Checks.{first, walked}
use Rattle.def_image.specs.Rights.{compartment_rights, library_rights}
use Rattle.def_image.specs.First.{first_some}
use Rattle.ct_image_parts.specs.Places.{compartment_bytes, library_bytes}
use Rattle.ct_image.proofs.Found.{rights_by}
use Rattle.ct_image.proofs.rights.right_fault.Goals as goal

pub returns-in-Some : goal.returns-in-Some
returns-in-Some c =
    let p = c.args.parts.now in
    let at = c.args.at in
    let own : first (walked compartment_rights compartment_bytes at.compartments [] p.compartments) ≡ Some c.in-Some.place = cc in
    sym (rights_by p at c.requires.at ∙ ap (λ o. first_some o (first (walked library_rights library_bytes at.libraries [] p.libraries))) own)

pub returns-in-None : goal.returns-in-None
returns-in-None c =
    let p = c.args.parts.now in
    let at = c.args.at in
    let own : first (walked compartment_rights compartment_bytes at.compartments [] p.compartments) ≡ None = cc in
    let same : c.libraries_fault.result ≡ first (walked library_rights library_bytes at.libraries [] p.libraries) = cc in
    same ∙ sym (rights_by p at c.requires.at ∙ ap (λ o. first_some o (first (walked library_rights library_bytes at.libraries [] p.libraries))) own)
