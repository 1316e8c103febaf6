-- A firmware with two compartments, a library, a device and a shared object, as an image: the first
-- compartment writes the device, shares an object with the second, calls it, brings the library and has
-- a quota and a key. Its thread has a stack; the heap is what is left.
use Rattle.std.specs.Prelude.{ℕ, ◌+◌, [], ◌∷◌, true, false}
use Rattle.def_profile.specs.declared.rights.TheConstants.{CODE_RIGHTS, GLOBALS_RIGHTS, STACK_RIGHTS, SERVICE_RIGHTS, EXPORT_RIGHTS, QUOTA_RIGHTS, KEY_RIGHTS, GL, LG, SD, LM, LD, MC}
use Rattle.def_profile.specs.declared.native.TheConstants.{NATIVE_BASE, NATIVE_LENGTH, RETURN_ENTRY}
use Rattle.def_profile.specs.declared.layout.TheConstants.{DEVICE_SIZE}
use Rattle.def_profile.specs.declared.seals.TheConstants.{SENTRY_INHERIT, SENTRY_DISABLE, RETURN_ENABLE, EXPORT_TYPE, QUOTA_TYPE, FIRST_KEY_TYPE}
use Rattle.def_words.specs.declared.Cap.{Cap}
use Rattle.def_words.specs.Derive.{derive, memory_root, executable_root, sealing_root}
use Rattle.def_memory.specs.declared.Granule.{Granule}
use Rattle.def_memory.specs.Granules.{plain}
use Rattle.ct_entry.specs.declared.rows.Owner.TheVariants.{Compartment, Library, Thread}
use Rattle.ct_entry.specs.declared.rows.Kind.TheVariants as kinds
use Rattle.ct_entry.specs.declared.rows.Mode.TheVariants.{Disabled, Enabled}
use Rattle.ct_entry.specs.declared.rows.Gate.{Gate}
use Rattle.ct_entry.specs.Listed.{Listed, row}
use Rattle.def_machine.specs.Image.{Image, Fixed, Globals, Shared, HeapRam, Stack, Bare}

-- what imports with each letter may do: one of a device, one of a shared object
abbrev pub device_rights : ℕ
device_rights = GL + SD + LD

abbrev pub shared_rights : ℕ
shared_rights = GL + LG + SD + LM + LD + MC

abbrev pub gate : ℕ → ℕ → Gate
gate entry code = record {
  entry = entry;
  code = code;
  stack = 0;
  args = 0;
  posture = Enabled;
  capabilities = false;
}

-- the library's export disables interrupts; the second compartment's passes capabilities
abbrev pub entries : Listed
entries = record {
  rows = row (Compartment 0) kinds.Code 0x80000000 64 CODE_RIGHTS 0
      ∷ row (Compartment 0) kinds.Globals 0x80000060 16 GLOBALS_RIGHTS 0
      ∷ row (Compartment 0) kinds.Service NATIVE_BASE NATIVE_LENGTH SERVICE_RIGHTS 0
      ∷ row (Compartment 0) kinds.Device 0x10000000 DEVICE_SIZE device_rights 0
      ∷ row (Compartment 0) kinds.Shared 0x800000D0 16 shared_rights 0
      ∷ row (Compartment 0) kinds.Call 0x800000A0 16 EXPORT_RIGHTS 15
      ∷ row (Compartment 0) kinds.Library 0x800000C0 16 CODE_RIGHTS 17
      ∷ record (row (Compartment 0) kinds.Quota 0x80000028 8 QUOTA_RIGHTS 0) { limit = 48 }
      ∷ row (Compartment 0) kinds.Key FIRST_KEY_TYPE 1 KEY_RIGHTS 0
      ∷ row (Compartment 0) kinds.Export 0x80000050 16 EXPORT_RIGHTS 0
      ∷ row (Compartment 1) kinds.Code 0x80000070 32 CODE_RIGHTS 0
      ∷ row (Compartment 1) kinds.Globals 0x800000B0 16 GLOBALS_RIGHTS 0
      ∷ row (Compartment 1) kinds.Service NATIVE_BASE NATIVE_LENGTH SERVICE_RIGHTS 0
      ∷ row (Compartment 1) kinds.Shared 0x800000D0 16 shared_rights 0
      ∷ row (Compartment 1) kinds.Export 0x800000A0 16 EXPORT_RIGHTS 0
      ∷ row (Library 0) kinds.Code 0x800000C0 16 CODE_RIGHTS 0
      ∷ row (Library 0) kinds.Export 0x800000C0 16 CODE_RIGHTS 0
      ∷ row (Thread 0) kinds.Stack 0x800000E0 32 STACK_RIGHTS 0 ∷ [];
  gates =
      gate 10 0x80000038 ∷ record (gate 15 0x80000080) { capabilities = true }
      ∷ record (gate 17 0x800000C0) { posture = Disabled; capabilities = true } ∷ [];
}

abbrev pub made : ℕ → ℕ → ℕ → ℕ → ℕ → ℕ → ℕ → Cap
made n high base length set address type_is =
    derive high base length set address type_is (record { root = n; source = 0 })

abbrev pub made_0 : Cap
made_0 =
    made 0 executable_root RETURN_ENTRY NATIVE_LENGTH SERVICE_RIGHTS RETURN_ENTRY RETURN_ENABLE

abbrev pub made_1 : Cap
made_1 = made 1 executable_root 0x80000000 64 CODE_RIGHTS 0x80000000 0

abbrev pub made_2 : Cap
made_2 = made 2 memory_root 0x80000060 16 GLOBALS_RIGHTS 0x80000060 0

abbrev pub made_3 : Cap
made_3 = made 3 executable_root NATIVE_BASE NATIVE_LENGTH SERVICE_RIGHTS NATIVE_BASE SENTRY_INHERIT

abbrev pub made_4 : Cap
made_4 = made 4 memory_root 0x10000000 DEVICE_SIZE device_rights 0x10000000 0

abbrev pub made_5 : Cap
made_5 = made 5 memory_root 0x800000D0 16 shared_rights 0x800000D0 0

abbrev pub made_6 : Cap
made_6 = made 6 memory_root 0x800000A0 16 EXPORT_RIGHTS 0x800000A0 EXPORT_TYPE

abbrev pub made_7 : Cap
made_7 = made 7 executable_root 0x800000C0 16 CODE_RIGHTS 0x800000C0 SENTRY_DISABLE

abbrev pub made_8 : Cap
made_8 = made 8 memory_root 0x80000028 8 QUOTA_RIGHTS 0x80000028 QUOTA_TYPE

abbrev pub made_9 : Cap
made_9 = made 9 sealing_root FIRST_KEY_TYPE 1 KEY_RIGHTS FIRST_KEY_TYPE 0

abbrev pub made_11 : Cap
made_11 = made 11 executable_root 0x80000070 32 CODE_RIGHTS 0x80000070 0

abbrev pub made_12 : Cap
made_12 = made 12 memory_root 0x800000B0 16 GLOBALS_RIGHTS 0x800000B0 0

abbrev pub made_13 : Cap
made_13 =
    made 13 executable_root NATIVE_BASE NATIVE_LENGTH SERVICE_RIGHTS NATIVE_BASE SENTRY_INHERIT

abbrev pub made_14 : Cap
made_14 = made 14 memory_root 0x800000D0 16 shared_rights 0x800000D0 0

abbrev pub made_18 : Cap
made_18 = made 18 memory_root 0x800000E0 32 STACK_RIGHTS 0x80000100 0

abbrev pub small_cap : Cap → Granule
small_cap c = record { cap = c; mark = false }

abbrev pub small : Image
small = record {
  entries = entries;
  made =
      made_0 ∷ made_1 ∷ made_2 ∷ made_3 ∷ made_4 ∷ made_5 ∷ made_6 ∷ made_7 ∷ made_8 ∷ made_9
      ∷ plain 0 ∷ made_11 ∷ made_12 ∷ made_13 ∷ made_14 ∷ plain 0 ∷ plain 0 ∷ plain 0 ∷ made_18
      ∷ [];
  ram = 0x80000000;
  regions =
      Fixed ∷ Fixed ∷ Fixed ∷ Fixed ∷ Fixed ∷ Fixed ∷ Fixed ∷ Fixed ∷ Fixed ∷ Fixed ∷ Fixed ∷ Fixed
      ∷ Globals 0 ∷ Globals 0 ∷ Fixed ∷ Fixed ∷ Fixed ∷ Fixed ∷ Fixed ∷ Fixed ∷ Fixed ∷ Fixed
      ∷ Globals 1 ∷ Globals 1 ∷ Fixed ∷ Fixed ∷ Shared 0 ∷ Shared 0 ∷ Stack 0 ∷ Stack 0 ∷ Stack 0
      ∷ Stack 0 ∷ Fixed ∷ Bare ∷ HeapRam ∷ HeapRam ∷ HeapRam ∷ HeapRam ∷ HeapRam ∷ HeapRam ∷ HeapRam
      ∷ HeapRam ∷ [];
  boot =
      small_cap made_3 ∷ small_cap made_4 ∷ small_cap made_5 ∷ small_cap made_6 ∷ small_cap made_7 ∷ small_cap made_8
      ∷ small_cap made_9 ∷ small_cap (plain 0) ∷ small_cap made_1 ∷ small_cap made_2 ∷ small_cap (plain 0) ∷ small_cap (plain 0)
      ∷ small_cap (plain 0) ∷ small_cap (plain 0) ∷ small_cap made_13 ∷ small_cap made_14 ∷ small_cap (plain 0)
      ∷ small_cap (plain 0) ∷ small_cap made_11 ∷ small_cap made_12 ∷ small_cap (plain 0) ∷ small_cap (plain 0)
      ∷ small_cap (plain 0) ∷ small_cap (plain 0) ∷ small_cap (plain 0) ∷ small_cap (plain 0) ∷ small_cap (plain 0)
      ∷ small_cap (plain 0) ∷ small_cap (plain 0) ∷ small_cap (plain 0) ∷ small_cap (plain 0) ∷ small_cap (plain 0)
      ∷ small_cap made_0 ∷ [];
  codes = 1 ∷ 11 ∷ [];
  globals = 2 ∷ 12 ∷ [];
  handlers = [];
  stacks = 18 ∷ [];
  frames = 4 ∷ [];
  priorities = 1 ∷ [];
  trusted = 0;
  sweep = 64;
  heap_base = 0x80000110;
  heap_end = 0x80000150;
}
