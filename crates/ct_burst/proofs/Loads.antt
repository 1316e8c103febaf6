-- A load of a capability, which a register has got before the row goes on.
use Rattle.std.proofs.Common.{ℕ, ◌≡◌, false, true, List, Some, refl, ap}
use Rattle.def_instr.specs.declared.Instr.TheVariants.{Clc}
use Rattle.def_memory.specs.declared.Granule.{Granule}
use Rattle.def_step.specs.Accesses.{load_of}
use Rattle.def_words.specs.declared.Cap.{Cap}
use Rattle.ct_areas.specs.declared.thread.Thread as row
use Rattle.ct_loadstore.specs.Quiet.{Quiet}
use Rattle.ct_threads.specs.declared.window.Window.{Window}
use Rattle.ct_burst.specs.Carrying.{put_in, value_in, CarriesRow, IsHeld}
use Rattle.ct_burst.specs.Going.{running_thread}

-- the window holds its program counter, whatever its registers are
pub held_with : (r : row.Thread) (w : Window) (regs : List Cap) → IsHeld r w → IsHeld (record r { regs = regs }) w
held_with r w regs h = record {
  on = record { suits = h.on.suits; tagged = h.on.tagged; whole = h.on.whole };
  held = h.held;
}

pub loaded_quiet : (ram : ℕ) (r new : row.Thread) (gs : List Granule) (to by n : ℕ) (value : Cap)
    → ((y : Cap) → Quiet (load_of 8 false true by n) (value_in r by) y ram gs (Some value) gs)
    → new ≡ put_in r to value → CarriesRow ram r gs (Clc to by n) new gs
loaded_quiet ram r new gs to by n value quiet is = record {
  each = λ fs named k time. rw (quiet (value_in r 0) (Clc to by n) k time refl) (ap (λ (q : row.Thread). running_thread q fs) is, refl, refl, refl, refl);
}
