-- What a thread jumps through, and where that leads.
use Rattle.std.specs.Prelude.{ℕ, ◌≡◌, ◌⊎◌, true, List}
use Rattle.def_words.specs.declared.Cap.{Cap}
use Rattle.def_words.specs.Permissions.{has, execute}
use Rattle.def_words.specs.Seals.{cap_seal}
use Rattle.def_machine.specs.Image.{Image}
use Rattle.def_machine.specs.State.{Frame, Object}
use Rattle.def_confined.specs.Places.{InFrames}
use Rattle.def_confined.specs.Confined.{IsPcc}

-- the types of forward sentries
abbrev pub IsForwardType : ℕ → Type 0
IsForwardType n = (n ≡ 1) ⊎ (n ≡ 2) ⊎ (n ≡ 3)

-- where it is tagged, it is unsealed and executable
abbrev pub IsRunnable : Cap → Type 0
IsRunnable p = p.tag ≡ true → (cap_seal p ≡ 0) × (has p execute ≡ true)

-- a capability of thread t, held by the first of these frames, that is tagged and executable
pub record MayJump (i : Image) (objects : List Object) (t : ℕ) (fs : List Frame) (x : Cap) : Type 0
  where
    pub there : InFrames i objects t fs x
    pub tagged : x.tag ≡ true
    pub executes : has x execute ≡ true

-- a program counter of thread t, held by the first of these frames
pub record Lands (i : Image) (objects : List Object) (t : ℕ) (fs : List Frame) (p : Cap) : Type 0
  where
    pub there : InFrames i objects t fs p
    pub runs : p.tag ≡ true → IsPcc i p
