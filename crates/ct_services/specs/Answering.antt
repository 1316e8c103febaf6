-- What an answer and a thread's stop leave of what is seen.
use Rattle.std.specs.Prelude.{ℕ, ◌+◌, ◌%◌, ◌≡◌, ◌≤◌, true, Option, Some, None}
use Rattle.def_words.specs.declared.Cap.{Cap}
use Rattle.def_words.specs.declared.Trap.{Trap}
use Rattle.def_words.specs.Authority.{cap_address}
use Rattle.def_words.specs.Capability.{integer, is_range_inside}
use Rattle.def_words.specs.Permissions.{has, load_data}
use Rattle.def_step.specs.Routines.{answered}
use Rattle.ct_engine.specs.Seen.{EngineRow, thread, with_thread, with_running}

-- the running thread goes on where c1 leads, with an answer
abbrev pub answered_in : EngineRow → ℕ → Cap → EngineRow
answered_in s t value = with_thread s t (answered (thread s t) value)

-- it stops running, with the answer 0
abbrev pub rested : EngineRow → ℕ → EngineRow
rested s t = with_running (answered_in s t (integer 0)) None

-- a capability through which an aligned word of RAM may be loaded, of RAM of so many bytes
pub record IsWord (ram size : ℕ) (c : Cap) : Type 0 where
  pub tag : c.tag ≡ true
  pub loads : has c load_data ≡ true
  pub inside : is_range_inside c (cap_address c) (cap_address c + 4) ≡ true
  pub low : ram ≤ cap_address c
  pub high : cap_address c + 4 ≤ ram + size
  pub even : cap_address c % 4 ≡ 0

abbrev pub IfPasses : Option Trap → Type 0 → Type 0
IfPasses (Some why) P = Unit {0}
IfPasses None P = P
