-- Loads and stores in RAM that no check refuses.
use Rattle.std.proofs.Common.{ℕ, ◌≡◌, ◌+◌, ◌-◌, ◌*◌, ◌&&◌, Bool, true, false, nat_le, List, length, Option, Some, None, is_some, not, ap, refl}
use Rattle.def_words.specs.declared.Cap.{Cap}
use Rattle.def_words.specs.Capability.{integer}
use Rattle.def_memory.specs.declared.Granule.{Granule}
use Rattle.def_memory.specs.Accesses.{loaded}
use Rattle.def_instr.specs.declared.Instr.{Instr}
use Rattle.def_step.specs.declared.Access.{Access}
use Rattle.def_step.specs.Checks.{first_failed}
use Rattle.def_step.specs.Accesses.{MemoryAndDevices, access_of, access_address, access_checks, load_checks, store_checks, access_result, accessed, ram_value, ram_stored, unless, widened}
use Rattle.ct_loadstore.specs.Shapes.{space_of}
use Rattle.ct_loadstore.specs.Quiet.{Quiet}

-- an instruction counts by its access
result_by : (i : Instr) (a : Access) (x y : Cap) (p : MemoryAndDevices) → access_of i ≡ a
    → access_result i x y p ≡ unless (first_failed (access_checks a x y (access_address a x))) (accessed a x y (access_address a x) p)
unfolding access_result
result_by i a x y p is = ap (λ (b : Access). unless (first_failed (access_checks b x y (access_address b x))) (accessed b x y (access_address b x) p)) is

-- so many bytes from an address on lie in RAM
abbrev pub lies : ℕ → List Granule → ℕ → ℕ → Bool
lies ram gs at width = nat_le ram at && nat_le (at + width) (ram + 8 * length gs)

pub quiet_load : (a : Access) (x y : Cap) (ram : ℕ) (gs : List Granule) → a.loads ≡ true → first_failed (load_checks a x (access_address a x)) ≡ None
    → lies ram gs (access_address a x) a.width ≡ true → Quiet a x y ram gs (Some (ram_value a x (access_address a x) ram gs)) gs
quiet_load a x y ram gs loads passes here i k time is = rw (result_by i a x y (space_of ram gs k time) is, loads, passes, here) refl

pub quiet_number : (a : Access) (x y : Cap) (ram : ℕ) (gs : List Granule) → a.loads ≡ true → a.whole ≡ false → first_failed (load_checks a x (access_address a x)) ≡ None
    → lies ram gs (access_address a x) a.width ≡ true
    → Quiet a x y ram gs (Some (integer (widened a (loaded gs (access_address a x - ram) a.width)))) gs
quiet_number a x y ram gs loads part passes here i k time is = rw (result_by i a x y (space_of ram gs k time) is, loads, passes, here, part) refl

pub quiet_store : (a : Access) (x y : Cap) (ram : ℕ) (gs : List Granule) → a.loads ≡ false → first_failed (store_checks a x (access_address a x) (a.whole && y.tag)) ≡ None
    → lies ram gs (access_address a x) a.width ≡ true → Quiet a x y ram gs None (ram_stored a x y (access_address a x) ram gs)
quiet_store a x y ram gs stores passes here i k time is = rw (result_by i a x y (space_of ram gs k time) is, stores, passes, here) refl

-- a check fails or none does
pub none_failed : {A : Type 0} (o : Option A) → not (is_some o) ≡ true → o ≡ None
none_failed None h = refl
none_failed (Some t) h = absurd cc
