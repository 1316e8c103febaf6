-- What stands in a thread's area of the trusted region. All places count granules from RAM's begin. An area begins with
-- the program counter capability and registers c1 to c15 of a thread that doesn't stand in its row; its frames stand
-- after its head, the outermost first.
use Rattle.std.specs.Prelude.{ℕ, zero, suc, ◌+◌, ◌*◌, ◌/◌, ◌%◌, ◌^◌, ◌==◌, ◌++◌, Bool, true, false, List, [], ◌∷◌}
use Rattle.def_profile.specs.declared.layout.TheConstants.{GRANULE, AREA_HEAD, FRAME_SIZE}
use Rattle.def_words.specs.declared.Cap.{Cap}
use Rattle.def_memory.specs.declared.Granule.{Granule}
use Rattle.def_memory.specs.Granules.{plain, cap_in}
use Rattle.def_machine.specs.State.{Frame}

-- the two words of a granule
abbrev pub low_half : Cap → ℕ
low_half c = c.word % 2 ^ 32

abbrev pub high_half : Cap → ℕ
high_half c = c.word / 2 ^ 32

-- ---- a frame

-- where frame j of an area begins, of which the outermost is frame 0
abbrev pub frame_place : ℕ → ℕ → ℕ
frame_place area j = area + AREA_HEAD / GRANULE + FRAME_SIZE / GRANULE * j

-- The frame that begins at granule k keeps the caller's registers, the number of its own export, and the caller's
-- compartment, top and mark. Its own compartment, top and mark are its thread's, or stand in the frame above it.
abbrev pub frame_export : List Granule → ℕ → ℕ
frame_export gs k = low_half (cap_in gs (k + 5))

abbrev pub caller_actor : List Granule → ℕ → ℕ
caller_actor gs k = high_half (cap_in gs (k + 5))

abbrev pub caller_top : List Granule → ℕ → ℕ
caller_top gs k = low_half (cap_in gs (k + 6))

abbrev pub caller_handling : List Granule → ℕ → Bool
caller_handling gs k = low_half (cap_in gs (k + 7)) == 1

abbrev pub frame_at : List Granule → ℕ → ℕ → ℕ → Bool → Frame
frame_at gs k actor top handling = record {
  actor = actor;
  export = frame_export gs k;
  top = top;
  handling = handling;
  c1 = cap_in gs k;
  c2 = cap_in gs (k + 1);
  c3 = cap_in gs (k + 2);
  c8 = cap_in gs (k + 3);
  c9 = cap_in gs (k + 4);
}

-- So many frames of an area, innermost first, where the innermost has this compartment, top and mark.
abbrev pub frames_from : List Granule → ℕ → ℕ → ℕ → Bool → ℕ → List Frame
frames_from gs area actor top handling zero = []
frames_from gs area actor top handling (suc j) =
    frame_at gs (frame_place area j) actor top handling
    ∷ frames_from gs area (caller_actor gs (frame_place area j))
    (caller_top gs (frame_place area j)) (caller_handling gs (frame_place area j)) j

unfoldable pub frames_in : List Granule → ℕ → ℕ → ℕ → Bool → ℕ → List Frame
frames_in gs area actor top handling depth = frames_from gs area actor top handling depth

-- ---- what is written for a frame

abbrev pub mark_word : Bool → ℕ
mark_word true = 1
mark_word false = 0

-- the caller's registers c1, c2, c3, c8 and c9, the export, and the caller's compartment, top and mark
abbrev pub frame_words : List Cap → ℕ → ℕ → ℕ → Bool → List Cap
frame_words saved export actor top handling =
    saved ++ plain (export + actor * 2 ^ 32) ∷ plain top ∷ plain (mark_word handling) ∷ []
