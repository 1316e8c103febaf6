-- A call and a frame's end of the running thread: what they ask, what they come to, and what they leave of all that is
-- seen.
use Rattle.std.specs.Prelude.{ℕ, ◌+◌, ◌-◌, ◌*◌, ◌/◌, ◌%◌, ◌≡◌, ◌≤◌, true, false, List, [], ◌∷◌, length, Option, None, slice_set}
use Rattle.ct_entry.specs.Listed.{Listed}
use Rattle.def_profile.specs.declared.layout.TheConstants.{GRANULE}
use Rattle.def_profile.specs.declared.seals.TheConstants.{EXPORT_TYPE}
use Rattle.def_words.specs.declared.Cap.{Cap}
use Rattle.def_words.specs.Capability.{with_address}
use Rattle.def_words.specs.Seals.{cap_seal}
use Rattle.def_memory.specs.Granules.{plain, cap_in}
use Rattle.def_memory.specs.Ranges.{zeroed_from}
use Rattle.def_reach.specs.Roots.{root_of, gate_for}
use Rattle.def_boot.specs.Made.{return_sentry}
use Rattle.def_machine.specs.Image.{Image, made_cap, code_entry, globals_entry, stack_base}
use Rattle.def_machine.specs.State.{Thread, Frame, nobody, register}
use Rattle.def_machine.specs.Memory.{filtered_in}
use Rattle.def_machine.specs.Frames.{Given, entered_by, answer_by, left_with}
use Rattle.def_step.specs.Switch.{Switched, Enters, switch_of, frame_top}
use Rattle.ct_areas.specs.Threads.{frames_most}
use Rattle.ct_switch.specs.Exports.{AreSorted, IsCallable, callee_of, table_of}
use Rattle.ct_switch.specs.Calls.{stack_cap}
use Rattle.ct_engine.specs.Seen.{EngineRow, hides, thread, area_at}

-- ---- what they ask

-- the top of a thread's innermost frame is a multiple of 16 in its stack
pub record TopLies (s : EngineRow) (t : ℕ) : Type 0 where
  pub even : frame_top (thread s t).frames % 16 ≡ 0
  pub low : (area_at s t).stack ≤ frame_top (thread s t).frames
  pub high : frame_top (thread s t).frames ≤ (area_at s t).stack + (area_at s t).stack_length

-- the granule with which the table of an export begins
abbrev pub head_at : EngineRow → Listed → ℕ → ℕ
head_at s e export = (table_of e (callee_of e export) - s.region.ram) / GRANULE

-- an export that can be called, and the head of whose table isn't hidden
pub record IsEnterable (s : EngineRow) (e : Listed) (export : ℕ) : Type 0 where
  pub callable : IsCallable e s.region.ram (8 * length s.state.granules) export
  pub code : hides s (head_at s e export) ≡ false
  pub globals : hides s (head_at s e export + 1) ≡ false

-- Of a call: beside the top, gates stand by their numbers, and where c6 is a tagged capability of an export's type, its
-- root is an entry that names an open export.
pub record MayCall (s : EngineRow) (t : ℕ) (e : Listed) : Type 0 where
  pub top : TopLies s t
  pub sorted : AreSorted e.gates
  pub import : (register (thread s t) 6).tag ≡ true
      → cap_seal (register (thread s t) 6) ≡ EXPORT_TYPE
      → IsEnterable s e (root_of e (register (thread s t) 6).shadow.root).of

-- ---- a call

-- what the switch comes to
abbrev pub switch_at : EngineRow → Listed → ℕ → Switched
switch_at s e t =
    switch_of e (area_at s t).stack (frame_top (thread s t).frames) (frames_most (area_at s t))
    (thread s t)

-- What the callee is given: its code and its globals stand in the head of its export table.
abbrev pub given_at : EngineRow → Listed → ℕ → ℕ → ℕ → Given
given_at s e t export high = record {
  pcc = with_address (cap_in s.state.granules (head_at s e export)) (gate_for e.gates export).code;
  back = return_sentry;
  stack = stack_cap (area_at s t).stack high (register (thread s t) 2).shadow;
  globals = cap_in s.state.granules (head_at s e export + 1);
}

-- a thread changes whole, its stack from its base up to an address is zeroed, and who runs is told
abbrev pub switched : EngineRow → ℕ → ℕ → Thread → Option ℕ → EngineRow
switched s t high new run = record s {
  state = record s.state {
    granules = zeroed_from (area_at s t).stack high s.region.ram s.state.granules;
    threads = slice_set s.state.threads t new;
    running = run;
  };
}

-- where the switch enters, the thread goes on in the callee; else nothing changes
abbrev pub after_call : EngineRow → Listed → ℕ → Switched → EngineRow
after_call s e t (Enters export high) =
    switched s t high
    (entered_by e (thread s t) (callee_of e export) export high (given_at s e t export high))
    s.state.running
after_call s e t _ = s

-- ---- a frame's end

-- The innermost frame ends with results that may go by the frame. Without one below it the thread ends, and none runs.
abbrev pub ended_by : EngineRow → ℕ → (Frame → Cap) → (Frame → Cap) → List Frame → EngineRow
ended_by s t first second [] = s
ended_by s t first second (f ∷ []) = switched s t f.top nobody None
ended_by s t first second (f ∷ g ∷ fs) =
    switched s t f.top
    (left_with (filtered_in s.region.ram s.state.granules) (thread s t) f (g ∷ fs) (first f) (second f))
    s.state.running

-- the return, and the end with a value
abbrev pub returned : EngineRow → Listed → ℕ → EngineRow
returned s e t =
    ended_by s t (λ f. answer_by e (thread s t) f 10) (λ f. answer_by e (thread s t) f 11)
    (thread s t).frames

abbrev pub ended_with : EngineRow → ℕ → ℕ → EngineRow
ended_with s t value = ended_by s t (λ f. plain value) (λ f. plain 0) (thread s t).frames

-- ---- as boot made it

-- The head of an export's table is as boot made it, and so is the return sentry; the stack begins where the image has
-- it.
pub record HeadStands (i : Image) (s : EngineRow) (t export : ℕ) : Type 0 where
  pub code : cap_in s.state.granules (head_at s i.entries export)
      ≡ made_cap i (code_entry i (callee_of i.entries export))
  pub globals : cap_in s.state.granules (head_at s i.entries export + 1)
      ≡ made_cap i (globals_entry i (callee_of i.entries export))
  pub back : made_cap i 0 ≡ return_sentry
  pub stack : stack_base i t ≡ (area_at s t).stack
