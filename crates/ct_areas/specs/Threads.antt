-- A thread as the machine's state has it, from what its row keeps and what stands in its area.
use Rattle.std.specs.Prelude.{ℕ, ◌+◌, ◌-◌, ◌/◌, ◌%◌, ◌==◌, ◌≡◌, ◌≤◌, ◌⊎◌, Bool, cond, List, [], ◌∷◌}
use Rattle.def_profile.specs.Areas.{area_length}
use Rattle.def_profile.specs.declared.layout.TheConstants.{GRANULE, AREA_HEAD, FRAME_SIZE}
use Rattle.def_words.specs.declared.Cap.{Cap}
use Rattle.def_words.specs.declared.Posture.{Posture}
use Rattle.def_memory.specs.declared.Granule.{Granule}
use Rattle.def_memory.specs.Granules.{plain, cap_in, caps_from}
use Rattle.def_machine.specs.State.{Thread, Ready, nobody, outermost}
use Rattle.def_areas.specs.Areas.{frames_in}
use Rattle.ct_areas.specs.declared.thread.Area.{Area}
use Rattle.ct_areas.specs.declared.thread.Thread as row

-- ---- where its area lies

-- the granules with which the area begins and before which it ends, counted from RAM's begin
abbrev pub area_begin : Area → ℕ
area_begin a = (a.trusted - a.ram) / GRANULE

abbrev pub area_end : Area → ℕ
area_end a = (a.trusted + a.trusted_length - a.ram) / GRANULE

-- how many frames it has room for
abbrev pub frames_most : Area → ℕ
frames_most a = (a.trusted_length - AREA_HEAD) / FRAME_SIZE

-- the area lies in RAM of so many bytes, and is its head and at least one frame
pub record HasArea (size : ℕ) (a : Area) : Type 0 where
  pub ram : a.ram % 16 ≡ 0
  pub even : a.trusted % 16 ≡ 0
  pub low : a.ram ≤ a.trusted
  pub high : a.trusted + a.trusted_length ≤ a.ram + size
  pub whole : a.trusted_length ≡ area_length (frames_most a)
  pub some : 1 ≤ frames_most a

-- a range of granules that meets no granule of the area
abbrev pub IsApart : ℕ → ℕ → Area → Type 0
IsApart lo hi a = (hi ≤ area_begin a) ⊎ (area_end a ≤ lo)

-- ---- what it is

-- A thread that hasn't ended. Where `runs` its program counter capability and registers stand in its row, as they do
-- from its pick until it is put away, else in its area. Whether it is ready is the scheduler's.
abbrev pub living : List Granule → Bool → row.Thread → Thread
living gs runs t = record {
  pcc = cond runs t.pcc (cap_in gs (area_begin t.area));
  registers = cond runs t.regs (plain 0 ∷ caps_from gs (area_begin t.area + 1) 15);
  frames = frames_in gs (area_begin t.area) t.actor t.top t.handling t.depth;
  status = Ready;
  posture = t.posture;
}

-- one without frames has ended
abbrev pub thread_of : List Granule → Bool → row.Thread → Thread
thread_of gs runs t = cond (t.depth == 0) nobody (living gs runs t)

-- a thread at its start
abbrev pub first : Cap → List Cap → Posture → ℕ → ℕ → ℕ → Thread
first pcc registers posture actor export top = record {
  pcc = pcc;
  registers = registers;
  frames = outermost actor export top ∷ [];
  status = Ready;
  posture = posture;
}
