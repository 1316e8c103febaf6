-- Instructions of a thread that tell nothing, one after another, over all of RAM, hidden or not.
use Rattle.std.specs.Prelude.{ℕ, zero, suc, ◌≡◌, List, None, Result, Ok, Err}
use Rattle.def_words.specs.declared.Trap.{Trap}
use Rattle.def_words.specs.Authority.{cap_address}
use Rattle.def_memory.specs.declared.Granule.{Granule}
use Rattle.def_instr.specs.declared.Instr.{Instr}
use Rattle.def_machine.specs.State.{Thread, Frame, Ready, register}
use Rattle.def_machine.specs.Threads.{jumped}
use Rattle.def_step.specs.declared.Next.TheVariants.{Instruction}
use Rattle.def_step.specs.Checks.{first_failed}
use Rattle.def_step.specs.Devices.{DeviceStates}
use Rattle.def_step.specs.Operands.{operands_of, class_of}
use Rattle.def_step.specs.Instructions.{Context, Effect, carried_out, fetch_checks, next_at}
use Rattle.ct_areas.specs.declared.thread.Thread as row
use Rattle.ct_loadstore.specs.Shapes.{space_of}
use Rattle.ct_threads.specs.Steps.{no_bank}

-- a row's thread while it runs, with these frames
abbrev pub running_thread : row.Thread → List Frame → Thread
running_thread r fs = record { pcc = r.pcc; registers = r.regs; frames = fs; status = Ready; posture = r.posture }

-- what thread w works on, in RAM from `ram` on with these granules, with these devices at a time
abbrev pub context : ℕ → Thread → List Granule → DeviceStates → ℕ → Context
context ram w gs k time = record { pcc = w.pcc; posture = w.posture; space = space_of ram gs k time }

-- what instruction i of thread w comes to there, where the root of its first source names this export
abbrev pub outcome : ℕ → Thread → List Granule → Instr → ℕ → DeviceStates → ℕ → Result Effect Trap
outcome ram w gs i named k time =
    carried_out (class_of i) i (operands_of i).to (register w (operands_of i).first)
    (register w (operands_of i).second) named (context ram w gs k time)

-- an effect after which thread w is `new` and the granules are `after`: nothing is told, and devices k and posture stay
abbrev pub IsQuiet : Thread → DeviceStates → Result Effect Trap → Thread → List Granule → Type 0
IsQuiet w k (Err why) new after = ⊥
IsQuiet w k (Ok d) new after =
    (new ≡ jumped w d.pcc d.posture d.to d.value) × (after ≡ d.granules) × (k ≡ d.bank)
    × (d.act ≡ None) × (d.posture ≡ w.posture)

-- an instruction takes thread w over granules gs so, whatever the devices, the time, and what is named
abbrev pub Carries : ℕ → Thread → List Granule → Instr → Thread → List Granule → Type 0
Carries ram w gs i new after =
    (named : ℕ) (k : DeviceStates) (time : ℕ) → IsQuiet w k (outcome ram w gs i named k time) new after

-- the instruction at its program counter takes thread w over granules gs so
pub record GoesOnce (ram : ℕ) (w : Thread) (gs : List Granule) (new : Thread) (after : List Granule) : Type 0 where
  pub instruction : Instr
  pub checks : first_failed (fetch_checks w.pcc) ≡ None
  pub stands : next_at (space_of ram gs no_bank 0) (cap_address w.pcc) ≡ Instruction instruction
  pub carries : Carries ram w gs instruction new after

-- so many instructions do, one after another
abbrev pub GoesFor : ℕ → ℕ → Thread → List Granule → Thread → List Granule → Type 0
GoesFor ram zero w gs new after = (new ≡ w) × (after ≡ gs)
GoesFor ram (suc n) w gs new after =
    (mid : Thread) × (between : List Granule) × GoesFor ram n w gs mid between
    × GoesOnce ram mid between new after
