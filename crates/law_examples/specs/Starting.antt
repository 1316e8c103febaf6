-- The state in which this firmware starts: its one thread stands at the first compartment's export.
use Rattle.std.specs.Prelude.{[], ◌∷◌, ◌++◌, replicate}
use Rattle.def_profile.specs.declared.rights.TheConstants.{CODE_RIGHTS}
use Rattle.def_words.specs.declared.Cap.{Cap}
use Rattle.def_words.specs.Derive.{executable_root}
use Rattle.def_memory.specs.Granules.{plain}
use Rattle.def_machine.specs.State.{State, Thread, Frame, Serial, interrupts_on, outermost, at_rest}
use Rattle.def_sched.specs.declared.Status.TheVariants.{Ready}
use Rattle.law_examples.specs.Small.{small, made, small_cap, made_0, made_2, made_18}

abbrev pub first_pcc : Cap
first_pcc = made 1 executable_root 0x80000000 64 CODE_RIGHTS 0x80000038 0

abbrev pub first_frame : Frame
first_frame = outermost 0 10 0x80000100

abbrev pub first_thread : Thread
first_thread = record {
  pcc = first_pcc;
  registers =
      plain 0 ∷ made_0 ∷ made_18 ∷ made_2 ∷ plain 0 ∷ plain 0 ∷ plain 0 ∷ plain 0 ∷ plain 0
      ∷ plain 0 ∷ plain 0 ∷ plain 0 ∷ plain 0 ∷ plain 0 ∷ plain 0 ∷ plain 0 ∷ [];
  frames = first_frame ∷ [];
  status = Ready;
  posture = interrupts_on;
}

-- RAM is as boot fills it, and zero past that
abbrev pub starting : State
starting =
    at_rest (small.boot ++ replicate 9 (small_cap (plain 0))) (first_thread ∷ [])
    (Serial [] ∷ []) (0 ∷ [])
