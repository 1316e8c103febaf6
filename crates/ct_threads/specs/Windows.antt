-- The addresses at which a fetch need only ask for the tag and for a multiple of 4.
use Rattle.std.specs.Prelude.{ℕ, ◌+◌, ◌*◌, ◌^◌, ◌&&◌, ◌≡◌, ◌≤◌, ◌<◌, Bool, true, nat_le, List, length}
use Rattle.def_words.specs.declared.Cap.{Cap}
use Rattle.def_words.specs.Authority.{cap_base, cap_top}
use Rattle.def_words.specs.Permissions.{has, execute}
use Rattle.def_words.specs.Seals.{is_unsealed}
use Rattle.def_memory.specs.declared.Granule.{Granule}
use Rattle.def_machine.specs.State.{Thread}
use Rattle.ct_threads.specs.declared.window.Window.{Window}
use Rattle.ct_threads.specs.Steps.{first_after_native}

abbrev pub empty_window : Window
empty_window = record { from = 1; last = 0 }

abbrev pub window_holds : Window → ℕ → Bool
window_holds w at = nat_le w.from at && nat_le at w.last

-- unsealed and executable, its bounds hold the word at an address, and they end at an address
pub record Opens (c : Cap) (at : ℕ) : Type 0 where
  pub unsealed : is_unsealed c ≡ true
  pub executes : has c execute ≡ true
  pub base : cap_base c ≤ at
  pub top : at + 4 ≤ cap_top c
  pub small : cap_top c < 2 ^ 32

-- the word at an address lies past the native routines, in so many bytes of RAM
pub record LiesPastNative (ram size at : ℕ) : Type 0 where
  pub native : first_after_native ≤ at
  pub begin : ram ≤ at
  pub end : at + 4 ≤ ram + size

-- the capability is untagged, or opens each of its addresses
abbrev pub Suits : Window → Cap → Type 0
Suits w c = (at : ℕ) → window_holds w at ≡ true → c.tag ≡ true → Opens c at

-- It suits the capability, and its words lie in RAM past the native routines: while the capability is tagged and its
-- address is one of these, each check of a fetch passes.
pub record IsWindow (w : Window) (c : Cap) (ram size : ℕ) : Type 0 where
  pub suits : Suits w c
  pub lies : (at : ℕ) → window_holds w at ≡ true → LiesPastNative ram size at

-- of a thread's program counter capability, in RAM that begins at an address and has these granules
abbrev pub IsWindowOf : Thread → ℕ → List Granule → Window → Type 0
IsWindowOf t ram gs w = IsWindow w t.pcc ram (8 * length gs)

-- each address that the capability opens, and whose word lies so, is one of its
abbrev pub HoldsEach : Window → Cap → ℕ → ℕ → Type 0
HoldsEach w c ram size =
    (at : ℕ) → Opens c at → LiesPastNative ram size at → window_holds w at ≡ true
