-- What a call, a return and an unwind ask of a thread and of memory.
use Rattle.std.specs.Prelude.{ℕ, ◌+◌, ◌-◌, ◌*◌, ◌/◌, ◌%◌, ◌≡◌, ◌≤◌, ◌<◌, ◌⊎◌, true, List, length}
use Rattle.ct_entry.specs.Listed.{Listed}
use Rattle.def_profile.specs.declared.layout.TheConstants.{GRANULE}
use Rattle.def_profile.specs.declared.seals.TheConstants.{EXPORT_TYPE}
use Rattle.def_words.specs.Seals.{cap_seal}
use Rattle.def_memory.specs.declared.Granule.{Granule}
use Rattle.def_reach.specs.Roots.{root_of}
use Rattle.ct_areas.specs.declared.thread.Area.{Area}
use Rattle.ct_areas.specs.declared.thread.Thread as row
use Rattle.ct_areas.specs.Threads.{HasArea, IsApart, area_begin, area_end, frames_most}
use Rattle.ct_areas.specs.Parts.{register_in}
use Rattle.ct_switch.specs.Exports.{AreSorted, IsCallable}

-- the stack lies in RAM of so many bytes, in multiples of 16, and doesn't meet the area
pub record HasStack (size : ℕ) (a : Area) : Type 0 where
  pub even : a.stack % 16 ≡ 0
  pub whole : a.stack_length % 16 ≡ 0
  pub low : a.ram ≤ a.stack
  pub high : a.stack + a.stack_length ≤ a.ram + size
  pub apart : (a.stack + a.stack_length ≤ a.trusted) ⊎ (a.trusted + a.trusted_length ≤ a.stack)

-- a thread that hasn't ended, whose innermost frame's top is a multiple of 16 in its stack
pub record IsReady (gs : List Granule) (t : row.Thread) : Type 0 where
  pub area : HasArea (8 * length gs) t.area
  pub stack : HasStack (8 * length gs) t.area
  pub alive : 0 < t.depth
  pub room : t.depth ≤ frames_most t.area
  pub low : t.area.stack ≤ t.top
  pub high : t.top ≤ t.area.stack + t.area.stack_length
  pub even : t.top % 16 ≡ 0

-- beside that, of a call: gates stand by their numbers, and where c6 is a tagged capability of
-- an export's type, its root
-- is an entry that names an export that can be called
pub record MayCall (gs : List Granule) (t : row.Thread) (e : Listed) : Type 0 where
  pub ready : IsReady gs t
  pub sorted : AreSorted e.gates
  pub import : (register_in t 6).tag ≡ true → cap_seal (register_in t 6) ≡ EXPORT_TYPE
      → IsCallable e t.area.ram (8 * length gs) (root_of e (register_in t 6).shadow.root).of

-- the granules of a thread's stack
abbrev pub stack_begin : Area → ℕ
stack_begin a = (a.stack - a.ram) / GRANULE

abbrev pub stack_end : Area → ℕ
stack_end a = (a.stack + a.stack_length - a.ram) / GRANULE

-- another thread, whose area meets neither the area nor the stack of this one
pub record IsOther (t u : row.Thread) (size : ℕ) : Type 0 where
  pub has : HasArea size u.area
  pub room : u.depth ≤ frames_most u.area
  pub area : IsApart (area_begin t.area) (area_end t.area) u.area
  pub stack : IsApart (stack_begin t.area) (stack_end t.area) u.area
