use Rattle.std.proofs.Common.{◌≡◌, [], Some, None, sym, ap, ◌∙◌}
use Rattle.def_image.specs.declared.format.TheConstants.{THREAD}
use Rattle.def_image.specs.Checks.{first, walked}
use Rattle.def_image.specs.Indexes.{compartment_asked, library_asked, thread_asked}
use Rattle.def_image.specs.First.{first_some}
use Rattle.ct_image_parts.specs.Places.{compartment_bytes, library_bytes}
use Rattle.ct_image.proofs.Found.{indexes_by}
use Rattle.ct_image.proofs.indexes.index_fault.Goals as goal

pub returns-in-Some : goal.returns-in-Some
returns-in-Some c =
    let p = c.args.parts.now in
    let at = c.args.at in
    let own : first (walked (compartment_asked p) compartment_bytes at.compartments [] p.compartments) ≡ Some c.in-Some.place = cc in
    let lib = first (walked (library_asked p) library_bytes at.libraries [] p.libraries) in
    let threads = first (walked (thread_asked p) (λ t. THREAD) at.threads [] p.threads) in
    sym (indexes_by p at c.requires.at ∙ ap (λ o. first_some o (first_some lib threads)) own)

pub returns-in-Some-libraries_fault : goal.returns-in-Some-libraries_fault
returns-in-Some-libraries_fault c =
    let p = c.args.parts.now in
    let at = c.args.at in
    let own : first (walked (compartment_asked p) compartment_bytes at.compartments [] p.compartments) ≡ None = cc in
    let lib = first (walked (library_asked p) library_bytes at.libraries [] p.libraries) in
    let found : first (walked (library_asked p) library_bytes at.libraries [] p.libraries) ≡ Some c.in-Some-libraries_fault.place = cc in
    let threads = first (walked (thread_asked p) (λ t. THREAD) at.threads [] p.threads) in
    sym (indexes_by p at c.requires.at ∙ ap (λ o. first_some o (first_some lib threads)) own ∙ ap (λ o. first_some o threads) found)

pub returns-in-None-libraries_fault : goal.returns-in-None-libraries_fault
returns-in-None-libraries_fault c =
    let p = c.args.parts.now in
    let at = c.args.at in
    let own : first (walked (compartment_asked p) compartment_bytes at.compartments [] p.compartments) ≡ None = cc in
    let lib = first (walked (library_asked p) library_bytes at.libraries [] p.libraries) in
    let none : first (walked (library_asked p) library_bytes at.libraries [] p.libraries) ≡ None = cc in
    let threads = first (walked (thread_asked p) (λ t. THREAD) at.threads [] p.threads) in
    let same : c.threads_fault.result ≡ first (walked (thread_asked p) (λ t. THREAD) at.threads [] p.threads) = cc in
    same ∙ sym (indexes_by p at c.requires.at ∙ ap (λ o. first_some o (first_some lib threads)) own ∙ ap (λ o. first_some o threads) none)
