-- Calls, returns and unwinds, whole.
use Rattle.std.specs.Prelude.{ℕ, ◌+◌, ◌-◌, true, false, List, [], ◌∷◌, Option, cond, nat_lt, slice_set}
use Rattle.def_profile.specs.declared.answers.TheConstants.{UNWOUND}
use Rattle.def_profile.specs.declared.rights.TheConstants.{STACK_RIGHTS}
use Rattle.def_words.specs.declared.Cap.{Cap}
use Rattle.def_words.specs.declared.Posture.{Posture}
use Rattle.def_words.specs.Capability.{untagged, with_address}
use Rattle.def_words.specs.Derive.{derive, memory_root}
use Rattle.def_words.specs.Seals.{cap_seal, posture_through}
use Rattle.def_words.specs.Jumped.{opened}
use Rattle.def_memory.specs.Granules.{plain}
use Rattle.def_memory.specs.Ranges.{zeroed_from}
use Rattle.ct_entry.specs.Listed.{Listed}
use Rattle.def_reach.specs.Roots.{root_of, gate_for}
use Rattle.def_machine.specs.Image.{Image, made_cap, code_entry, globals_entry, stack_base}
use Rattle.def_machine.specs.State.{State, Thread, Frame, register, thread, nobody, interrupts_on}
use Rattle.def_machine.specs.Memory.{filtered}

-- a thread changes whole, and its stack from its base up to an address is zeroed
abbrev pub switched : Image → State → ℕ → ℕ → Thread → Option ℕ → State
switched i s t high new run = record s {
  granules = zeroed_from (stack_base i t) high i.ram s.granules;
  threads = slice_set s.threads t new;
  running = run;
}

-- ---- a call

-- the four capabilities that the switcher makes for a callee
pub record Given : Type 0 where
  pub pcc : Cap
  pub back : Cap
  pub stack : Cap
  pub globals : Cap

-- The callee's code at the export's address, the return sentry, the stack from its base to the new top at
-- that top with the shadow of the caller's c2, and the callee's globals.
abbrev pub callee_start : Image → Thread → ℕ → ℕ → ℕ → ℕ → Given
callee_start i old t callee export high = record {
  pcc = with_address (made_cap i (code_entry i callee)) (gate_for i.entries.gates export).code;
  back = made_cap i 0;
  stack =
      derive memory_root (stack_base i t) (high - stack_base i t) STACK_RIGHTS high 0
      (register old 2).shadow;
  globals = made_cap i (globals_entry i callee);
}

-- the frame of a call, with what it saves of its caller
abbrev pub pushed_frame : Thread → ℕ → ℕ → ℕ → Frame
pushed_frame old callee export high = record {
  actor = callee;
  export = export;
  top = high;
  handling = false;
  c1 = register old 1;
  c2 = register old 2;
  c3 = register old 3;
  c8 = register old 8;
  c9 = register old 9;
}

-- what passes between compartments by an export: as it is where that passes capabilities, else untagged
abbrev pub cap_passed_by : Listed → ℕ → Cap → Cap
cap_passed_by e export c = cond (root_of e export).passes c (untagged c)

abbrev pub cap_passed : Image → ℕ → Cap → Cap
cap_passed i export c = cap_passed_by i.entries export c

-- an argument register that the export declares is the caller's; the others are zero
abbrev pub argument_by : Listed → Thread → ℕ → ℕ → Cap
argument_by e old export n =
    cond (nat_lt n (gate_for e.gates export).args) (cap_passed_by e export (register old (10 + n)))
    (plain 0)

abbrev pub argument : Image → Thread → ℕ → ℕ → Cap
argument i old export n = argument_by i.entries old export n

-- the export's posture; a compartment's export doesn't inherit
abbrev pub entry_posture : Listed → ℕ → Posture
entry_posture e export =
    cond (root_of e export).disabled (record { off = true; source = export }) interrupts_on

abbrev pub posture_of_call : Image → ℕ → Posture
posture_of_call i export = entry_posture i.entries export

abbrev pub entered_by : Listed → Thread → ℕ → ℕ → ℕ → Given → Thread
entered_by e old callee export high g = record {
  pcc = g.pcc;
  registers =
      plain 0 ∷ g.back ∷ g.stack ∷ g.globals ∷ plain 0 ∷ plain 0 ∷ plain 0 ∷ plain 0 ∷ plain 0
      ∷ plain 0
      ∷ argument_by e old export 0 ∷ argument_by e old export 1 ∷ argument_by e old export 2
      ∷ argument_by e old export 3 ∷ argument_by e old export 4 ∷ argument_by e old export 5 ∷ [];
  frames = pushed_frame old callee export high ∷ old.frames;
  status = old.status;
  posture = entry_posture e export;
}

abbrev pub entered : Image → Thread → ℕ → ℕ → ℕ → Given → Thread
entered i old callee export high g = entered_by i.entries old callee export high g

-- ---- a return, an unwind, the end of a thread

-- what an ending frame hands back in a register
abbrev pub answer_by : Listed → Thread → Frame → ℕ → Cap
answer_by e old f n = cap_passed_by e f.export (register old n)

abbrev pub answer : Image → Thread → Frame → ℕ → Cap
answer i old f n = answer_by i.entries old f n

-- The frame f ends with these two results, where `keep` is the load filter. Program counter and posture come from
-- the saved c1; c2, c3, c8 and c9 are the caller's, through the filter; the rest is zero.
abbrev pub left_with : (Cap → Cap) → Thread → Frame → List Frame → Cap → Cap → Thread
left_with keep old f fs first second = record {
  pcc = opened (keep f.c1);
  registers =
      plain 0 ∷ plain 0 ∷ keep f.c2 ∷ keep f.c3 ∷ plain 0 ∷ plain 0 ∷ plain 0 ∷ plain 0 ∷ keep f.c8
      ∷ keep f.c9
      ∷ first ∷ second ∷ plain 0 ∷ plain 0 ∷ plain 0 ∷ plain 0 ∷ [];
  frames = fs;
  status = old.status;
  posture = posture_through old.posture (cap_seal f.c1) 0 f.c1.shadow.source;
}

abbrev pub left_by : Image → State → Thread → Frame → List Frame → Cap → Cap → Thread
left_by i s old f fs first second = left_with (filtered i s) old f fs first second

-- the return: at the last frame the thread ends, and none runs
abbrev pub returned : Image → State → ℕ → List Frame → State
returned i s t [] = s
returned i s t (f ∷ []) = switched i s t f.top nobody Option.None
returned i s t (f ∷ g ∷ gs) =
    switched i s t f.top
    (left_by i s (thread s t) f (g ∷ gs) (answer i (thread s t) f 10) (answer i (thread s t) f 11))
    s.running

-- the end with a value: the return with it and 0
abbrev pub ended_with : Image → State → ℕ → ℕ → List Frame → State
ended_with i s t value [] = s
ended_with i s t value (f ∷ []) = switched i s t f.top nobody Option.None
ended_with i s t value (f ∷ g ∷ gs) =
    switched i s t f.top (left_by i s (thread s t) f (g ∷ gs) (plain value) (plain 0))
    s.running

-- the unwind: the end with -1
abbrev pub unwound : Image → State → ℕ → List Frame → State
unwound i s t fs = ended_with i s t UNWOUND fs
