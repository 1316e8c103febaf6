-- What boot makes, for the numbers of owners, slots and threads.
use Rattle.std.proofs.Common.{ℕ, List, ◌≡◌, ◌+◌, ◌*◌, ◌<◌, Some, length, slice_get, ap, sym, ◌∙◌, subst, arith}
use Rattle.std.specs.Prelude.{slice_index_or}
use Rattle.ct_entry.specs.declared.rows.Gate.{Gate}
use Rattle.ct_entry.specs.declared.rows.Owner.TheVariants.{Compartment, Library}
use Rattle.def_words.specs.declared.Cap.{Cap}
use Rattle.def_words.specs.Derive.{derive, executable_root, memory_root}
use Rattle.def_reach.specs.Roots.{gate_for}
use Rattle.def_image.specs.Parts.{GateRow, SlotRow, CodeRow, CompartmentRow, ThreadRow, PartsRow}
use Rattle.def_image.specs.Members.{compartment, library, text_base, gate_address, code_number, globals_number, library_number, stack_number, library_gate_number}
use Rattle.def_image.specs.Sound.{Names, Sound}
use Rattle.def_boot.specs.Entries.{code_row, globals_row, stack_row}
use Rattle.def_boot.specs.Gates.{gates_of}
use Rattle.def_boot.specs.Made.{from_entry, entry_cap_as, boot_cap_of, sentry_type}
use Rattle.def_image.specs.declared.ImportRow.{ImportRow}
use Rattle.def_image.specs.declared.SlotKind.TheVariants as slot
use Rattle.law_boot.proofs.Standing.{compartment_of, library_of, stack_of}
use Rattle.def_boot.specs.Booting.{BootPuts, PutsBytes}
use Rattle.law_boot.proofs.Putting.{puts_slot, puts_library_slot}
use Rattle.ct_boot.proofs.Fits.{gate_end}
use Rattle.ct_boot.proofs.Ranges.{got_of}
use Rattle.ct_boot.specs.Slots.{slot_cap, SlotPut, SlotsPut}
use Rattle.law_image.proofs.Sounds.{compartment_is, library_is}

pub stack_is : (p : PartsRow) (t : ℕ) (x : ThreadRow) → slice_get p.threads t ≡ Some x → entry_cap_as memory_root (stack_number p t) (stack_row t x) (x.stack + x.stack_length) 0 ≡ boot_cap_of p (stack_number p t)
stack_is p t x is = sym (stack_of p t x is).row.made_is

-- ---- the same by other names

pub puts_at : (p : PartsRow) (x y : ℕ) (c d : Cap) → BootPuts p x c → y ≡ x → d ≡ c → BootPuts p y d
puts_at p x y c d h place what = subst (λ z. BootPuts p z d) (sym place) (subst (λ z. BootPuts p x z) (sym what) h)

pub bytes_at : (p : PartsRow) (x y : ℕ) (b d : List ℕ) → PutsBytes p x b → y ≡ x → d ≡ b → PutsBytes p y d
bytes_at p x y b d h place what = subst (λ z. PutsBytes p z d) (sym place) (subst (λ z. PutsBytes p x z) (sym what) h)

-- ---- slots

pub slots_put : (p : PartsRow) → Sound p → (b first : ℕ) (c : CompartmentRow) → slice_get p.compartments b ≡ Some c → first ≡ code_number p b + 2 → SlotsPut p first c.code
slots_put p s b first c is number j slot there =
    let has = (compartment_of p b c is).slot j slot there in
    let same : code_number p b + 2 + j ≡ first + j = omega (arith, number) in
    record {
      fits = ((s.compartment b c is).slot j slot there).fits;
      owner = Compartment b;
      puts = subst (BootPuts p (c.code.base + 8 * j))
          (has.made_is ∙ ap (λ n. slot_cap p (Compartment b) n (c.code.base + 8 * j) slot.row) same)
          (puts_slot p s b j c slot is there);
    }

pub library_slots_put : (p : PartsRow) → Sound p → (l first : ℕ) (c : CodeRow) → slice_get p.libraries l ≡ Some c → first ≡ library_number p l + 1 → SlotsPut p first c
library_slots_put p s l first c is number j slot there =
    let has = (library_of p l c is).slot j slot there in
    let same : library_number p l + 1 + j ≡ first + j = omega (arith, number) in
    record {
      fits = ((s.library l c is).slot j slot there).fits;
      owner = Library l;
      puts = subst (BootPuts p (c.base + 8 * j))
          (has.made_is ∙ ap (λ n. slot_cap p (Library l) n (c.base + 8 * j) slot.row) same)
          (puts_library_slot p s l j c slot is there);
    }

-- the one that an index reads
pub slot_at : (p : PartsRow) (first : ℕ) (d : CodeRow) (i : ℕ) (xs : List SlotRow) (x : SlotRow) → SlotsPut p first d → xs ≡ d.slots → i < length xs → x ≡ slice_index_or xs i x
    → SlotPut p (first + i) (d.base + 8 * i) x.row
slot_at p first d i xs x slots same lt read = slots i x (got_of xs d.slots i x same (omega (arith, lt, ap length same)) read)

-- ---- a compartment's code and globals

pub code_made_is : (p : PartsRow) (b : ℕ) (c : CompartmentRow) (n : ℕ) (d : CodeRow)
    → slice_get p.compartments b ≡ Some c → n ≡ code_number p b → d ≡ c.code
    → entry_cap_as executable_root n (code_row (Compartment b) d) d.base 0 ≡ boot_cap_of p (code_number p b)
code_made_is p b c n d there number same = rw (number, same) (sym (compartment_of p b c there).code.made_is)

pub globals_made_are : (p : PartsRow) (b : ℕ) (c : CompartmentRow) (n : ℕ) → slice_get p.compartments b ≡ Some c → n ≡ globals_number p b
    → entry_cap_as memory_root n (globals_row b c) c.globals 0 ≡ boot_cap_of p (globals_number p b)
globals_made_are p b c n there number = rw number (sym (compartment_of p b c there).globals.made_is)

-- ---- what a row names

pub call_fits : (p : PartsRow) → Sound p → (r : ImportRow) → Names p r slot.Call → gate_address (compartment p r.first) r.second < 4294967296
call_fits p s r (c, x, there, export) =
    let end = gate_end p s r.first r.second c x there export in
    let same = ap (λ (d : CompartmentRow). gate_address d r.second) (compartment_is p r.first c there) in
    omega (arith, end, same)

pub library_made : (p : PartsRow) (l j : ℕ) (c : CodeRow) (x : GateRow) (n rights : ℕ) → slice_get p.libraries l ≡ Some c → slice_get c.exports j ≡ Some x
    → derive executable_root c.base c.length rights (text_base c + x.row.offset) (sentry_type x.row.posture) (from_entry n)
    ≡ derive executable_root (library p l).base (library p l).length rights (gate_for (gates_of p) (library_gate_number p l j)).code (sentry_type (gate_for (gates_of p) (library_gate_number p l j)).posture) (from_entry n)
library_made p l j c x n rights there export =
    sym (ap (λ (d : CodeRow). derive executable_root d.base d.length rights (gate_for (gates_of p) (library_gate_number p l j)).code (sentry_type (gate_for (gates_of p) (library_gate_number p l j)).posture) (from_entry n)) (library_is p l c there)
    ∙ ap (λ (g : Gate). derive executable_root c.base c.length rights g.code (sentry_type g.posture) (from_entry n))
    ((library_of p l c there).export j x export).gate_is)
