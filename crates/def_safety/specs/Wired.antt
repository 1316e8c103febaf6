-- How a board's image and its devices stand to one another.
use Rattle.std.specs.Prelude.{ℕ, ◌≡◌, ◌≤◌, ◌<◌, ◌⊎◌, true, false, is_some}
use Rattle.def_words.specs.Authority.{cap_address}
use Rattle.def_words.specs.Permissions.{bit, load_data, store_data}
use Rattle.ct_entry.specs.declared.rows.Kind.TheVariants.{Device, Export}
use Rattle.def_reach.specs.Roots.{Listing, is_native}
use Rattle.def_machine.specs.Image.{root, made_cap}
use Rattle.def_step.specs.Devices.{found}
use Rattle.def_step.specs.Instructions.{is_native_entry}
use Rattle.def_machine.specs.Platform.{Platform}

-- All x are addresses. A capability of a native routine stands at a native entry, so that no instruction is
-- fetched through it. What an entry that may load or store reaches of a device, it reaches as an import of a
-- device. No device lies in the heap. Gates with interrupts disabled are of exports alone.
pub record Wired (b : Platform) : Type 0 where
  pub natives : (n : ℕ) → is_native (root b.image n).origin ≡ true
      → is_native_entry (cap_address (made_cap b.image n)) ≡ true
  pub devices : (n x : ℕ)
      → (bit (root b.image n).rights load_data ≡ true)
      ⊎ (bit (root b.image n).rights store_data ≡ true)
      → (root b.image n).base ≤ x → x < (root b.image n).top → is_some (found b.bases x) ≡ true
      → (root b.image n).origin ≡ Listing Device
  pub apart : (x : ℕ) → b.image.heap_base ≤ x → x < b.image.heap_end
      → is_some (found b.bases x) ≡ false
  pub gates : (n : ℕ) → (root b.image n).disabled ≡ true → (root b.image n).origin ≡ Listing Export
