-- Stores and loads, whole.
use Rattle.std.proofs.Common.{ℕ, ◌≡◌, ◌-◌, ◌%◌, List, true, false, Some, arith}
use Rattle.def_words.specs.declared.Cap.{Cap}
use Rattle.def_words.specs.Loaded.{stored_through}
use Rattle.def_words.specs.Permissions.{has, load_data, store_data, memory_capability}
use Rattle.def_memory.specs.declared.Granule.{Granule}
use Rattle.def_memory.specs.Granules.{plain}
use Rattle.def_memory.specs.Accesses.{with_part}
use Rattle.def_machine.specs.Image.{Image, granule_of}
use Rattle.def_machine.specs.State.{State, register, thread, granule}
use Rattle.def_machine.specs.Memory.{cap_stored, bytes_stored, filtered}
use Rattle.def_machine.specs.Registers.{put_register}
use Rattle.def_confined.specs.Confined.{Confined}
use Rattle.def_confined.specs.Keeps.{Beside, Keeps}
use Rattle.def_confined.specs.Made.{Derived}
use Rattle.def_confined.specs.Partitioned.{Partitioned}
use Rattle.def_confined.specs.Swept.{HasUnpainted}
use Rattle.def_confined.specs.Authorises.{Authorises}
use Rattle.law_moves.proofs.Loading.{load_stands}
use Rattle.law_moves.proofs.Stores.{through_case, store_cap_confined, store_bytes_confined}
use Rattle.law_moves.proofs.Slices.{live_unpainted}
use Rattle.law_moves.proofs.SweepsMoves.{RamLeft, set_left}
use Rattle.law_moves.proofs.Threads.{put_keeps}

-- granules change, and nothing else
ram_beside : (i : Image) (s : State) (gs : List Granule) → RamLeft i s gs → Beside i s → Beside i (record s { granules = gs })
ram_beside i s gs ram b = record {
  swept = record { granules = ram.swept b.swept; registers = b.swept.registers; frames = b.swept.frames; idle = b.swept.idle };
  bounded = record { deep = b.bounded.deep; few = b.bounded.few; many = b.bounded.many; areas = b.bounded.areas; fits = omega (arith, b.bounded.fits, ram.size) };
  ends = b.ends;
}

-- what a register of the running thread holds is of a live object
running_unpainted : (i : Image) (s : State) (t n : ℕ) → Confined i s → s.running ≡ Some t → HasUnpainted i s.objects (register (thread s t) n)
running_unpainted i s t n h runs tagged heap some = live_unpainted i s.next s.objects (register (thread s t) n) h.fits (h.live t runs n tagged heap some)

none_unpainted : (i : Image) (s : State) (c : Cap) → c.tag ≡ false → HasUnpainted i s.objects c
none_unpainted i s c none tagged = absurd (let clash : false ≡ true = cc in cc)

through_left : (i : Image) (s : State) (t at from x : ℕ) → Confined i s → s.running ≡ Some t → RamLeft i s (cap_stored i s x (register (thread s t) at) (register (thread s t) from)).granules
through_left i s t at from x h runs = set_left i s (granule_of i x) (stored_through (register (thread s t) at) (register (thread s t) from))
    (through_case (HasUnpainted i s.objects) (register (thread s t) at) (register (thread s t) from) (λ tagged. absurd (let clash : false ≡ true = tagged in cc))
    (λ local. running_unpainted i s t from h runs))

bytes_left : (i : Image) (s : State) (x width value : ℕ) → RamLeft i s (bytes_stored i s x width value).granules
bytes_left i s x width value = set_left i s (granule_of i x) (plain (with_part (granule s (granule_of i x)).cap.word ((x - i.ram) % 8) width value)) (λ tagged. absurd (let clash : false ≡ true = tagged in cc))

pub cap_keeps : (i : Image) (s : State) (t at from x : ℕ) → Partitioned i → Keeps i s → Authorises i s t at store_data x → x % 8 ≡ 0
    → ((register (thread s t) from).tag ≡ true → has (register (thread s t) at) memory_capability ≡ true) → Keeps i (cap_stored i s x (register (thread s t) at) (register (thread s t) from))
cap_keeps i s t at from x parts k a even carries = record {
  confined = store_cap_confined i s t at from x parts k.confined a.runs a.inside a.tagged a.may carries a.low a.high even;
  beside = ram_beside i s (cap_stored i s x (register (thread s t) at) (register (thread s t) from)).granules (through_left i s t at from x k.confined a.runs) k.beside;
}

pub bytes_keep : (i : Image) (s : State) (t at x width value : ℕ) → Partitioned i → Keeps i s → Authorises i s t at store_data x → Keeps i (bytes_stored i s x width value)
bytes_keep i s t at x width value parts k a = record {
  confined = store_bytes_confined i s t at x width value parts k.confined a.inside a.tagged a.may a.low a.high;
  beside = ram_beside i s (bytes_stored i s x width value).granules (bytes_left i s x width value) k.beside;
}

pub load_keeps : (i : Image) (s : State) (t at x n : ℕ) (d : Cap) → Partitioned i → Keeps i s → Authorises i s t at load_data x → x % 8 ≡ 0 → Derived (granule s (granule_of i x)).cap d
    → (d.tag ≡ true → has (register (thread s t) at) memory_capability ≡ true) → Keeps i (put_register s t n (filtered i s d))
load_keeps i s t at x n d parts k a even derived carries = put_keeps i s t n (filtered i s d) k a.runs (load_stands i s t at x d parts k.confined a.runs a.inside a.tagged a.may a.low a.high even derived carries)
