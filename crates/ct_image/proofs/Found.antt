-- The first fault of several walks, each at the place where its list begins.
use Rattle.std.proofs.Common.{◌≡◌, []}
use Rattle.def_image.specs.declared.format.TheConstants.{THREAD}
use Rattle.def_image.specs.Parts.{PartsRow}
use Rattle.def_image.specs.Checks.{first, walked}
use Rattle.def_image.specs.Indexes.{compartment_asked, library_asked, thread_asked, index_checks}
use Rattle.def_image.specs.Rights.{compartment_rights, library_rights, right_checks}
use Rattle.def_image.specs.First.{first_some}
use Rattle.ct_image_parts.specs.declared.sizes.Places.{Places}
use Rattle.ct_image_parts.specs.Places.{AreAt, compartment_bytes, library_bytes}
use Rattle.ct_image_parts.proofs.Walked.{indexes_first, rights_first}

pub indexes_by : (p : PartsRow) (at : Places) → AreAt p at → first (index_checks p)
    ≡ first_some (first (walked (compartment_asked p) compartment_bytes at.compartments [] p.compartments))
    (first_some (first (walked (library_asked p) library_bytes at.libraries [] p.libraries)) (first (walked (thread_asked p) (λ t. THREAD) at.threads [] p.threads)))
indexes_by p at h = rw (h.compartments, h.libraries, h.threads) (indexes_first p)

pub rights_by : (p : PartsRow) (at : Places) → AreAt p at → first (right_checks p)
    ≡ first_some (first (walked compartment_rights compartment_bytes at.compartments [] p.compartments)) (first (walked library_rights library_bytes at.libraries [] p.libraries))
rights_by p at h = rw (h.compartments, h.libraries) (rights_first p)
