-- A trap of the running thread, and its compartment's error handler: what is asked, whether it is entered, and what it
-- leaves.
use Rattle.std.specs.Prelude.{ℕ, ◌+◌, ◌≡◌, Bool, false, cond, List, [], ◌∷◌, slice_set}
use Rattle.ct_entry.specs.Listed.{Listed}
use Rattle.def_words.specs.declared.Trap.{Trap}
use Rattle.def_words.specs.Capability.{with_address}
use Rattle.def_memory.specs.Granules.{cap_in}
use Rattle.def_reach.specs.Roots.{gate_for}
use Rattle.def_boot.specs.Made.{return_sentry}
use Rattle.def_machine.specs.State.{Frame, register}
use Rattle.def_step.specs.Handlers.{Handed, is_handled_by, handled_by, record_words, words_written}
use Rattle.ct_switch.specs.Exports.{AreSorted}
use Rattle.ct_threads.specs.Handling.{record_place}
use Rattle.ct_engine.specs.Seen.{EngineRow, thread, area_at}
use Rattle.ct_engine.specs.Calls.{TopLies, IsEnterable, head_at}

-- ---- what is asked

-- Beside the top: gates stand by their numbers, and the error handler can be entered, this export; 0 is none.
pub record MayHandle (s : EngineRow) (t : ℕ) (e : Listed) (handler : ℕ) : Type 0 where
  pub top : TopLies s t
  pub sorted : AreSorted e.gates
  pub enterable : (handler ≡ 0 → ⊥) → IsEnterable s e handler

-- ---- whether it is entered

-- by the frames, of which the first is the innermost
abbrev pub is_handled_of : EngineRow → ℕ → ℕ → List Frame → Bool
is_handled_of s t handler [] = false
is_handled_of s t handler (f ∷ fs) = is_handled_by handler (area_at s t).stack (thread s t) f

abbrev pub is_handled_at : EngineRow → ℕ → ℕ → Bool
is_handled_at s t handler = is_handled_of s t handler (thread s t).frames

-- whether the innermost frame's error handler was entered
abbrev pub is_marked : List Frame → Bool
is_marked [] = false
is_marked (f ∷ fs) = f.handling

-- ---- what it leaves

-- What the handler gets: its code and its globals stand in the head of its export table.
abbrev pub handed_at : EngineRow → Listed → ℕ → Handed
handed_at s e handler = record {
  pcc = with_address (cap_in s.state.granules (head_at s e handler)) (gate_for e.gates handler).code;
  back = return_sentry;
  globals = cap_in s.state.granules (head_at s e handler + 1);
}

-- the record stands on the stack, and the thread goes on in the handler
abbrev pub handler_begun : EngineRow → Listed → ℕ → ℕ → Trap → List Frame → EngineRow
handler_begun s e t handler why [] = s
handler_begun s e t handler why (f ∷ fs) = record s {
  state = record s.state {
    granules =
        words_written s.state.granules (record_place s.region.ram (register (thread s t) 2))
        (record_words (thread s t) why);
    threads = slice_set s.state.threads t (handled_by (handed_at s e handler) (thread s t) why f fs);
  };
}

-- where it isn't entered nothing changes
abbrev pub after_trap : EngineRow → Listed → ℕ → ℕ → Trap → EngineRow
after_trap s e t handler why =
    cond (is_handled_at s t handler) (handler_begun s e t handler why (thread s t).frames) s
