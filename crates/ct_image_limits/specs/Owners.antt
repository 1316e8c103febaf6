-- What is asked of owners, by parts: their heads, which bound their tables, and these.
use Rattle.std.specs.Prelude.{ℕ, ◌+◌, Bool, false, List, ◌++◌, map, Option}
use Rattle.def_image.specs.declared.Check.{Check}
use Rattle.def_image.specs.declared.format.TheConstants.{COMPARTMENT_HEAD, LIBRARY_HEAD}
use Rattle.def_image.specs.Raw.{RawCode, RawCompartment, RawThread}
use Rattle.def_image.specs.Sizes.{sum_of}
use Rattle.def_image.specs.Checks.{first}
use Rattle.def_image.specs.Limits as limits
use Rattle.def_image.specs.Limits.{checks_of_name, code_limits, own_numbers, own_slots_limits, own_gates, dirty_padding, library_numbers, slots_limits, library_gate_checks, compartment_name, library_name, thread_name, raw_library_entries, library_limits_by, thread_limits_by}
use Rattle.def_image.specs.First.{first_some}
use Rattle.ct_image_limits.specs.declared.rows.Bounds.{Bounds}

-- what an export may ask for
abbrev pub bounds_of : Bounds → limits.Bounds
bounds_of b = record { stack = b.stack; args = b.args; posture = b.posture; passes = b.passes }

abbrev pub compartment_head : ℕ → Bool → RawCompartment → List Check
compartment_head at repeated c =
    checks_of_name at repeated false c.code.name ++ code_limits at c.code ++ own_numbers at c

-- slots, exports and padding
abbrev pub first_of_tables : ℕ → ℕ → RawCompartment → Option ℕ
first_of_tables at entry c =
    first_some (first (own_slots_limits (at + COMPARTMENT_HEAD) c.code))
    (first_some (first (own_gates entry at c.code)) (first (dirty_padding at c)))

abbrev pub library_head : ℕ → Bool → RawCode → List Check
library_head at repeated c =
    checks_of_name at repeated false c.name ++ code_limits at c ++ library_numbers at c

-- slots and exports
abbrev pub first_of_library : ℕ → ℕ → RawCode → Option ℕ
first_of_library at entry c =
    first_some (first (slots_limits (at + LIBRARY_HEAD) c)) (first (library_gate_checks entry at c))

-- ---- as walks ask it

abbrev pub library_asked : ℕ → List RawCompartment → ℕ → List RawCode → RawCode → List Check
library_asked first compartments at earlier c =
    library_limits_by (first + sum_of raw_library_entries earlier) at
    (map compartment_name compartments ++ map library_name earlier) c

abbrev pub thread_asked : List RawCompartment → List RawCode → ℕ → List RawThread → RawThread
    → List Check
thread_asked compartments libraries at earlier t =
    thread_limits_by at
    (map compartment_name compartments ++ map library_name libraries ++ map thread_name earlier)
    t
