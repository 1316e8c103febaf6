-- How long threads' areas are, and where their frames begin.
use Rattle.std.specs.Prelude.{ℕ, ◌+◌, ◌*◌}
use Rattle.def_profile.specs.declared.layout.TheConstants.{AREA_HEAD, FRAME_SIZE}

-- an area that has room for so many frames
abbrev pub area_length : ℕ → ℕ
area_length frames = AREA_HEAD + FRAME_SIZE * frames

-- where a frame begins in an area, over so many others
abbrev pub frame_after : ℕ → ℕ → ℕ
frame_after area frames = area + AREA_HEAD + FRAME_SIZE * frames
