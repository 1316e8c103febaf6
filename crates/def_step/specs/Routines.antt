-- Native routines: how they answer, and those of the switcher and the scheduler. A routine traps at a check, or leaves a
-- state, with what it did and the entry that it did it by.
use Rattle.std.specs.Prelude.{ℕ, ◌+◌, ◌-◌, ◌%◌, ◌==◌, ◌&&◌, Bool, List, [], ◌∷◌, Option, Some, None, if◌then◌else◌}
use Rattle.ct_entry.specs.declared.acts.Act.{Act}
use Rattle.ct_entry.specs.declared.acts.Act.TheVariants.{Call}
use Rattle.def_profile.specs.declared.answers.TheConstants.{NO_STACK, TOO_DEEP, DIFFERS}
use Rattle.def_words.specs.declared.Cap.{Cap}
use Rattle.def_words.specs.declared.Trap.{Trap}
use Rattle.def_words.specs.Authority.{cap_address}
use Rattle.def_words.specs.Capability.{integer, is_range_inside}
use Rattle.def_words.specs.Permissions.{has, load_data}
use Rattle.def_words.specs.Seals.{is_unsealed}
use Rattle.def_memory.specs.Granules.{plain}
use Rattle.def_memory.specs.Accesses.{loaded}
use Rattle.def_sched.specs.declared.Status.{Status}
use Rattle.def_sched.specs.Statuses.{asleep, awaiting, woken, woken_count}
use Rattle.def_reach.specs.Roots.{compartment_of}
use Rattle.def_machine.specs.Image.{Image, root, stack_base, frames_most}
use Rattle.def_machine.specs.State.{State, Thread, thread, register}
use Rattle.def_machine.specs.Memory.{lies_in}
use Rattle.def_machine.specs.Registers.{written, with_thread}
use Rattle.def_machine.specs.Threads.{resumed, with_status, statuses_of, with_statuses}
use Rattle.def_machine.specs.Frames.{switched, callee_start, entered}
use Rattle.def_step.specs.Checks.{Check, first_failed}
use Rattle.def_words.specs.Traps.{capability_trap, plain_trap}
use Rattle.def_profile.specs.declared.traps.TheConstants.{TAG_CODE, SEAL_CODE, LOAD_CODE, BOUNDS_CODE, MISALIGNED_LOAD}
use Rattle.def_step.specs.Switch.{Switched, Trapped, TooDeep, NoStack, Enters, switch_of, return_checks, frame_top}

pub data Ran : Type 0 where
  Traps : Trap → Ran
  Leaves : State → Option (ℕ × Act) → Ran

-- ---- answers

-- c10 is the result, c11 zero, the other registers as they were, and the thread goes on where c1 leads
abbrev pub answered : Thread → Cap → Thread
answered t value =
    record (resumed t (register t 1)) {
      registers = written (written t.registers 10 value) 11 (plain 0);
    }

-- a negative code as a word
abbrev pub code : ℕ → Cap
code n = integer (4294967296 - n)

abbrev pub answers : State → ℕ → Cap → State
answers s t value = with_thread s t (answered (thread s t) value)

-- an answer that is no deed
abbrev pub tells : State → ℕ → Cap → Ran
tells s t value = Leaves (answers s t value) None

-- what comes after the checks
abbrev pub checked : List Check → Ran → Ran
checked cs ran = by_failed (first_failed cs) ran
  where
    by_failed : Option Trap → Ran → Ran
    by_failed (Some why) ran = Traps why
    by_failed None ran = ran

-- ---- 0, the switch

abbrev pub enters : Image → State → ℕ → ℕ → ℕ → ℕ → Ran
enters i s t callee export high = Leaves
    (switched i s t high
    (entered i (thread s t) callee export high (callee_start i (thread s t) t callee export high))
    s.running)
    (Some ((register (thread s t) 6).shadow.root, Call export))

abbrev pub switched_to : Image → State → ℕ → Switched → Ran
switched_to i s t (Trapped why) = Traps why
switched_to i s t TooDeep = tells s t (code TOO_DEEP)
switched_to i s t NoStack = tells s t (code NO_STACK)
switched_to i s t (Enters export high) =
    enters i s t (compartment_of (root i export).owner) export high

abbrev pub switch : Image → State → ℕ → Ran
switch i s t =
    switched_to i s t
    (switch_of i.entries (stack_base i t) (frame_top (thread s t).frames) (frames_most i t)
    (thread s t))

-- ---- 2 and 3, yield and sleep

-- the thread stops running with this status, and with the answer 0
abbrev pub stops : State → ℕ → Status → Ran
stops s t status =
    Leaves
    (record (with_thread s t (with_status (answered (thread s t) (integer 0)) status)) {
      running = None;
    })
    None

abbrev pub yield : State → ℕ → Ran
yield s t = checked (return_checks (register (thread s t) 1)) (stops s t (asleep 0))

abbrev pub sleep : State → ℕ → Ran
sleep s t =
    checked (return_checks (register (thread s t) 1))
    (stops s t (asleep (cap_address (register (thread s t) 10))))

-- ---- 4 and 5, wait and wake

abbrev pub lies_in_ram : Image → State → ℕ → ℕ → Bool
lies_in_ram i s at width = lies_in i.ram s.granules at width

-- c10 as a load of four bytes of RAM
abbrev pub word_checks : Image → State → Cap → List Check
word_checks i s c =
    (c.tag, capability_trap TAG_CODE 10)
    ∷ (is_unsealed c, capability_trap SEAL_CODE 10)
    ∷ (has c load_data, capability_trap LOAD_CODE 10)
    ∷ (
      is_range_inside c (cap_address c) (cap_address c + 4)
          && lies_in_ram i s (cap_address c) 4,
      capability_trap BOUNDS_CODE 10,
    )
    ∷ (cap_address c % 4 == 0, plain_trap MISALIGNED_LOAD)
    ∷ []

-- it waits where the word holds the value; else it goes on with -21
abbrev pub waits : State → ℕ → ℕ → ℕ → ℕ → Ran
waits s t address held wanted =
    if held == wanted then stops s t (awaiting address held wanted) else tells s t (code DIFFERS)

abbrev pub wait : Image → State → ℕ → Ran
wait i s t =
    checked (return_checks (register (thread s t) 1))
    (checked (word_checks i s (register (thread s t) 10))
    (waits s t (cap_address (register (thread s t) 10))
    (loaded s.granules (cap_address (register (thread s t) 10) - i.ram) 4)
    (cap_address (register (thread s t) 11))))

-- so many threads are woken, and the answer is how many
abbrev pub threads_woken : State → ℕ → ℕ → ℕ → State
threads_woken s t address most =
    let after = answers s t (integer (woken_count address most (statuses_of s.threads))) in
    record after {
      threads = with_statuses after.threads (woken address most (statuses_of s.threads));
    }

abbrev pub wake : Image → State → ℕ → Ran
wake i s t =
    checked (return_checks (register (thread s t) 1))
    (checked (word_checks i s (register (thread s t) 10))
    (Leaves
    (threads_woken s t (cap_address (register (thread s t) 10))
    (cap_address (register (thread s t) 11)))
    None))
