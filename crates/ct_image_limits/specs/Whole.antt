-- The first place at which an image's fields fail, list by list.
use Rattle.std.specs.Prelude.{ℕ, ◌+◌, ◌*◌, List, [], length, Option}
use Rattle.def_image.specs.declared.format.TheConstants.{DEVICE, SHARED, THREAD}
use Rattle.def_image.specs.Raw.{RawImage}
use Rattle.def_image.specs.Sizes.{sealed_size, compartment_size, library_size, devices_at, shared_at, sealed_at, compartments_at, libraries_at, threads_at}
use Rattle.def_image.specs.Checks.{first, walked}
use Rattle.def_image.specs.Limits.{device_limits, shared_limits, sealed_limits, compartment_limits, library_limits, thread_limits}
use Rattle.def_image.specs.First.{first_some}

-- where the last thread ends
abbrev pub bytes_of : RawImage → ℕ
bytes_of r = threads_at r + THREAD * length r.threads

abbrev pub first_of_owners : RawImage → Option ℕ
first_of_owners r =
    first_some
    (first (walked compartment_limits compartment_size (compartments_at r) [] r.compartments))
    (first_some (first (walked (library_limits r) library_size (libraries_at r) [] r.libraries))
    (first (walked (thread_limits r) (λ t. THREAD) (threads_at r) [] r.threads)))

-- all but the header
abbrev pub first_of_parts : RawImage → Option ℕ
first_of_parts r =
    first_some (first (walked device_limits (λ d. DEVICE) (devices_at r) [] r.devices))
    (first_some (first (walked shared_limits (λ s. SHARED) (shared_at r) [] r.shared))
    (first_some (first (walked sealed_limits sealed_size (sealed_at r) [] r.sealed))
    (first_of_owners r)))
