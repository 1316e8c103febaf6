-- Two compartments that import nothing from each other. The second's export passes capabilities; a thread is in
-- it, called from the first by nobody's leave, and holds the second's globals in c10.
use Rattle.std.specs.Prelude.{[], ◌∷◌, Some, true, replicate}
use Rattle.def_profile.specs.declared.rights.TheConstants.{CODE_RIGHTS, GLOBALS_RIGHTS, STACK_RIGHTS, SERVICE_RIGHTS, EXPORT_RIGHTS}
use Rattle.def_profile.specs.declared.native.TheConstants.{NATIVE_LENGTH, RETURN_ENTRY}
use Rattle.def_profile.specs.declared.seals.TheConstants.{RETURN_ENABLE}
use Rattle.def_words.specs.declared.Cap.{Cap}
use Rattle.def_words.specs.Derive.{memory_root, executable_root}
use Rattle.def_memory.specs.Granules.{plain, nothing}
use Rattle.ct_entry.specs.declared.rows.Owner.TheVariants.{Compartment, Thread}
use Rattle.ct_entry.specs.declared.rows.Kind.TheVariants as kinds
use Rattle.ct_entry.specs.Listed.{Listed, row}
use Rattle.def_machine.specs.Image.{Image, Fixed, Globals, Stack}
use Rattle.def_machine.specs.State.{State, Frame, interrupts_on}
use Rattle.def_sched.specs.declared.Status.TheVariants.{Ready}
use Rattle.def_machine.specs.State as state
use Rattle.law_examples.specs.Small.{gate, made}

abbrev pub apart_entries : Listed
apart_entries = record {
  rows = row (Compartment 0) kinds.Code 0x80000000 16 CODE_RIGHTS 0
      ∷ row (Compartment 0) kinds.Globals 0x80000010 16 GLOBALS_RIGHTS 0
      ∷ row (Compartment 1) kinds.Code 0x80000020 16 CODE_RIGHTS 0
      ∷ row (Compartment 1) kinds.Globals 0x80000030 16 GLOBALS_RIGHTS 0
      ∷ row (Compartment 1) kinds.Export 0x80000020 16 EXPORT_RIGHTS 0
      ∷ row (Thread 0) kinds.Stack 0x80000040 64 STACK_RIGHTS 0
      ∷ [];
  gates = record (gate 5 0x80000020) { capabilities = true } ∷ [];
}

abbrev pub sentry : Cap
sentry = made 0 executable_root RETURN_ENTRY NATIVE_LENGTH SERVICE_RIGHTS RETURN_ENTRY RETURN_ENABLE

abbrev pub inner_globals : Cap
inner_globals = made 4 memory_root 0x80000030 16 GLOBALS_RIGHTS 0x80000030 0

abbrev pub two : Image
two = record {
  entries = apart_entries;
  made = sentry ∷ plain 0 ∷ plain 0 ∷ plain 0 ∷ inner_globals ∷ plain 0 ∷ plain 0 ∷ [];
  ram = 0x80000000;
  regions =
      Fixed ∷ Fixed ∷ Globals 0 ∷ Globals 0 ∷ Fixed ∷ Fixed ∷ Globals 1 ∷ Globals 1 ∷ Stack 0
      ∷ Stack 0 ∷ Stack 0 ∷ Stack 0 ∷ Stack 0 ∷ Stack 0 ∷ Stack 0 ∷ Stack 0 ∷ [];
  boot = [];
  codes = 1 ∷ 3 ∷ [];
  globals = 2 ∷ 4 ∷ [];
  handlers = [];
  stacks = 6 ∷ [];
  frames = 4 ∷ [];
  priorities = 1 ∷ [];
  trusted = 0;
  sweep = 64;
  heap_base = 0x80000080;
  heap_end = 0x80000080;
}

abbrev pub inner : Frame
inner = record (state.outermost 1 5 0x80000060) { c1 = sentry }

abbrev pub outermost : Frame
outermost = state.outermost 0 0 0x80000080

abbrev pub runner : state.Thread
runner = record {
  pcc = plain 0;
  registers =
      plain 0 ∷ plain 0 ∷ plain 0 ∷ plain 0 ∷ plain 0 ∷ plain 0 ∷ plain 0 ∷ plain 0 ∷ plain 0
      ∷ plain 0 ∷ inner_globals ∷ [];
  frames = inner ∷ outermost ∷ [];
  status = Ready;
  posture = interrupts_on;
}

abbrev pub before : State
before =
    record (state.at_rest (replicate 16 nothing) (runner ∷ []) [] (0 ∷ [])) { running = Some 0 }
