-- F10: devices and RAM keep clear of one another and of the native entries.
use Rattle.std.specs.Prelude.{ℕ, ◌+◌, ◌-◌, ◌%◌, List, [], ◌∷◌, ◌++◌, length, Bool, not, ◌&&◌, ◌||◌, ◌==◌, Option, Some, None, nat_lt, if◌then◌else◌}
use Rattle.std.specs.List.{list_any}
use Rattle.ct_entry.specs.Listed.{DeviceRow}
use Rattle.def_profile.specs.declared.layout.TheConstants.{DEVICE_SIZE}
use Rattle.def_profile.specs.declared.native.TheConstants.{NATIVE_BASE, NATIVE_END}
use Rattle.def_desc.specs.declared.Ram.{Ram}
use Rattle.def_desc.specs.declared.faults.Place.{Place}
use Rattle.def_desc.specs.declared.faults.PartWord.TheVariants as part
use Rattle.def_desc.specs.Rows.{DescRow}
use Rattle.def_desc.specs.Walk.{place}

-- two ranges of addresses, each by its base and its length, have one in common
abbrev pub meets : ℕ → ℕ → ℕ → ℕ → Bool
meets a m b n = nat_lt a (b + n) && nat_lt b (a + m)

abbrev pub meets_native : ℕ → ℕ → Bool
meets_native a m = meets a m NATIVE_BASE (NATIVE_END - NATIVE_BASE)

abbrev pub meets_device : ℕ → DeviceRow → Bool
meets_device base x = meets base DEVICE_SIZE x.base DEVICE_SIZE

-- a device that begins at no multiple of its size, or meets RAM, an earlier device or native entries
abbrev pub is_astray : Ram → List DeviceRow → DeviceRow → Bool
is_astray ram earlier x =
    not (x.base % DEVICE_SIZE == 0)
    || meets x.base DEVICE_SIZE ram.base ram.size
    || list_any (meets_device x.base) earlier
    || meets_native x.base DEVICE_SIZE

abbrev pub first_astray : Ram → List DeviceRow → List DeviceRow → Option Place
first_astray ram earlier [] = None
first_astray ram earlier (x ∷ xs) =
    if is_astray ram earlier x
    then Some (place part.Device (length earlier) 0)
    else first_astray ram (earlier ++ x ∷ []) xs

abbrev pub address_fault : DescRow → Option Place
address_fault r =
    if meets_native r.ram.base r.ram.size
    then Some (place part.Ram 0 0)
    else first_astray r.ram [] r.devices
