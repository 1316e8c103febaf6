-- Where the authority of a board's roots lies.
use Rattle.std.specs.Prelude.{ℕ, ◌≡◌, ◌+◌, ◌≤◌, ◌<◌, ◌⊎◌, true, is_some}
use Rattle.def_native.specs.declared.TheConstants.{LAST_NATIVE}
use Rattle.def_profile.specs.declared.native.TheConstants.{NATIVE_LENGTH}
use Rattle.def_reach.specs.Roots.{is_root}
use Rattle.def_machine.specs.Image.{root}
use Rattle.def_confined.specs.Facts.{GrantsAccess}
use Rattle.def_step.specs.Devices.{found}
use Rattle.def_step.specs.Native.{entry_address}
use Rattle.def_machine.specs.Platform.{Platform}

-- an address of the entry of one of the native routines
pub record IsOfNative (x : ℕ) : Type 0 where
  pub number : ℕ
  pub few : number ≤ LAST_NATIVE
  pub from : entry_address number ≤ x
  pub to : x < entry_address number + NATIVE_LENGTH

-- an address of RAM, which ends so, of a device, or of a native routine's entry
abbrev pub IsReachable : Platform → ℕ → ℕ → Type 0
IsReachable b end x =
    ((b.image.ram ≤ x) × (x < end)) ⊎ (is_some (found b.bases x) ≡ true) ⊎ IsOfNative x

-- Each address of a root through which something may be loaded, stored or run is one of RAM, whose end is the heap's, of
-- a device, or of a native routine's entry.
pub record Inside (b : Platform) : Type 0 where
  pub roots : (n x : ℕ) → is_root (root b.image n).origin ≡ true → GrantsAccess (root b.image n)
      → (root b.image n).base ≤ x → x < (root b.image n).top → IsReachable b b.image.heap_end x
