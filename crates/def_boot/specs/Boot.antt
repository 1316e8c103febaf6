-- *Boot state*: the image of the machine, its board, and its state at boot.
use Rattle.std.specs.Prelude.{ℕ, zero, suc, ◌+◌, Bool, true, false, List, [], ◌∷◌, length, map, slice_get, Option, Some, None, unwrap_or, option_map, if◌then◌else◌}
use Rattle.ct_entry.specs.Listed.{DeviceRow}
use Rattle.def_words.specs.declared.Cap.{Cap}
use Rattle.def_words.specs.declared.Posture.{Posture}
use Rattle.def_words.specs.Capability.{with_address}
use Rattle.def_memory.specs.Granules.{plain}
use Rattle.def_reach.specs.Roots.{turns_interrupts_off}
use Rattle.def_machine.specs.Image.{Image}
use Rattle.def_machine.specs.State as st
use Rattle.def_machine.specs.State.{State, Frame, interrupts_on, outermost, at_rest, fresh_device}
use Rattle.def_profile.specs.declared.layout.TheConstants.{TRUSTED_HEAD}
use Rattle.def_sched.specs.declared.Status.TheVariants.{Ready}
use Rattle.def_sched.specs.Picks.{first_order}
use Rattle.def_machine.specs.Platform.{Platform, MachineRow}
use Rattle.def_image.specs.Parts.{GateRow, ThreadRow, PartsRow}
use Rattle.def_image.specs.Members.{compartment, text_base, code_number, globals_number, stack_number, gate_number, handler_number}
use Rattle.def_boot.specs.Gates.{entries_of}
use Rattle.def_boot.specs.Made.{caps_at_boot, boot_cap_of, return_sentry}
use Rattle.def_boot.specs.Contents.{granules_in, boot_granules, parts_from}

-- ---- the image

-- the numbers of n members from index i on
abbrev pub numbered_from : (ℕ → ℕ) → ℕ → ℕ → List ℕ
numbered_from number i zero = []
numbered_from number i (suc n) = number i ∷ numbered_from number (i + 1) n

unfoldable pub image_of : PartsRow → Image
image_of p = record {
  entries = entries_of p;
  made = caps_at_boot p;
  ram = p.ram;
  regions = parts_from p p.ram (granules_in p);
  boot = boot_granules p;
  codes = numbered_from (code_number p) 0 (length p.compartments);
  globals = numbered_from (globals_number p) 0 (length p.compartments);
  handlers = numbered_from (handler_number p) 0 (length p.compartments);
  stacks = numbered_from (stack_number p) 0 (length p.threads);
  frames = map (λ (t : ThreadRow). t.frames) p.threads;
  priorities = map (λ (t : ThreadRow). t.priority) p.threads;
  trusted = p.trusted + TRUSTED_HEAD;
  sweep = p.sweep;
  heap_base = p.heap;
  heap_end = p.ram + p.size;
}

abbrev pub bases_of : PartsRow → List ℕ
bases_of p = map (λ (d : DeviceRow). d.base) p.devices

abbrev pub platform_of : PartsRow → Platform
platform_of p = record { image = image_of p; bases = bases_of p }

-- ---- a thread at its start

-- the export that it enters, its number, and the address of its code
abbrev pub entered_export : PartsRow → ThreadRow → Option GateRow
entered_export p t = slice_get (compartment p t.compartment).code.exports t.export

abbrev pub entry_number : PartsRow → ThreadRow → ℕ
entry_number p t = gate_number p t.compartment t.export

abbrev pub offset_of : Option GateRow → ℕ
offset_of x = unwrap_or (option_map (λ (x : GateRow). x.row.offset) x) 0

abbrev pub thread_entry_address : PartsRow → ThreadRow → ℕ
thread_entry_address p t = text_base (compartment p t.compartment).code + offset_of (entered_export p t)

abbrev pub gate_is_disabled : Option GateRow → Bool
gate_is_disabled None = false
gate_is_disabled (Some x) = turns_interrupts_off x.row.posture

abbrev pub first_posture : PartsRow → ThreadRow → Posture
first_posture p t =
    if gate_is_disabled (entered_export p t) then record { off = true; source = entry_number p t }
    else interrupts_on

-- one frame, whose caller is nobody
abbrev pub first_frame : PartsRow → ThreadRow → Frame
first_frame p t = outermost t.compartment (entry_number p t) (t.stack + t.stack_length)

abbrev pub first_pcc : PartsRow → ThreadRow → Cap
first_pcc p t = with_address (boot_cap_of p (code_number p t.compartment)) (thread_entry_address p t)

-- the return sentry in c1, the stack at its top in c2, the globals in c3
abbrev pub first_registers : PartsRow → ℕ → ThreadRow → List Cap
first_registers p n t =
    plain 0 ∷ return_sentry ∷ boot_cap_of p (stack_number p n)
    ∷ boot_cap_of p (globals_number p t.compartment)
    ∷ plain 0 ∷ plain 0 ∷ plain 0 ∷ plain 0 ∷ plain 0 ∷ plain 0
    ∷ plain 0 ∷ plain 0 ∷ plain 0 ∷ plain 0 ∷ plain 0 ∷ plain 0 ∷ []

abbrev pub first_thread : PartsRow → ℕ → ThreadRow → st.Thread
first_thread p n t = record {
  pcc = first_pcc p t;
  registers = first_registers p n t;
  frames = first_frame p t ∷ [];
  status = Ready;
  posture = first_posture p t;
}

abbrev pub first_threads : PartsRow → ℕ → List ThreadRow → List st.Thread
first_threads p n [] = []
first_threads p n (t ∷ ts) = first_thread p n t ∷ first_threads p (n + 1) ts

-- ---- the state

unfoldable pub boot_state : PartsRow → State
boot_state p =
    at_rest (boot_granules p) (first_threads p 0 p.threads)
    (map (λ (d : DeviceRow). fresh_device d.kind) p.devices) (first_order (length p.threads))

abbrev pub booted_machine : PartsRow → MachineRow
booted_machine p = record { board = platform_of p; state = boot_state p }
