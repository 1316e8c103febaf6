-- *Fresh objects*: what an allocation hands out.
use Rattle.std.specs.Prelude.{ℕ, ◌≡◌, ◌+◌, ◌≤◌, ◌<◌, ◌⊎◌, true, Some, None}
use Rattle.def_native.specs.declared.TheConstants.{ALLOCATE, TOKEN_KEY, TOKEN_NEW}
use Rattle.def_words.specs.declared.Cap.{Cap}
use Rattle.def_words.specs.Authority.{cap_base, cap_top}
use Rattle.def_memory.specs.Granules.{plain}
use Rattle.def_machine.specs.Platform.{Platform}
use Rattle.def_machine.specs.Heap.{IsPlaceFor, object_cap, with_object}
use Rattle.def_machine.specs.Image.{Image, address_of}
use Rattle.def_machine.specs.Objects.{Each}
use Rattle.def_machine.specs.State.{State, Frame, Object, granule, register, thread}
use Rattle.def_confined.specs.Changes.{NewObject}
use Rattle.def_step.specs.Routines.{answers}
use Rattle.def_step.specs.Tokens.{key_of, with_row, sealed_token}
use Rattle.def_safety.specs.Routine.{RunsRoutine}

-- a tagged capability whose authority isn't empty has none of an object's addresses
abbrev pub Misses : Object → Cap → Type 0
Misses r c =
    c.tag ≡ true → cap_base c < cap_top c → (cap_top c ≤ r.base) ⊎ (r.base + r.length ≤ cap_base c)

pub record SavedMiss (r : Object) (f : Frame) : Type 0 where
  pub c1 : Misses r f.c1
  pub c2 : Misses r f.c2
  pub c3 : Misses r f.c3
  pub c8 : Misses r f.c8
  pub c9 : Misses r f.c9

-- an object that may be put beside the others, which reads as zero and untagged, and which nothing that any capability
-- authorises meets
pub record IsFresh (i : Image) (s : State) (r : Object) : Type 0 where
  pub object : NewObject i s r
  pub place : IsPlaceFor i s.objects r.length r.base
  pub zero : (k : ℕ) → r.base ≤ address_of i k → address_of i k < r.base + r.length
      → (granule s k).cap ≡ plain 0
  pub granules : (k : ℕ) → Misses r (granule s k).cap
  pub registers : (t n : ℕ) → Misses r (register (thread s t) n)
  pub counters : (t : ℕ) → Misses r (thread s t).pcc
  pub frames : (t : ℕ) → Each (SavedMiss r) (thread s t).frames

-- How thread t's routine hands an object out, and what it leaves: as it is; as a key, sealed, with a row that names none;
-- as a token, sealed, with a row that names the key that c12 is.
abbrev pub AsMade : State → ℕ → State → Object → Type 0
AsMade s t after r = after ≡ answers (with_object s r) t (object_cap r)

abbrev pub AsKey : State → ℕ → State → Object → Type 0
AsKey s t after r = after ≡ answers (with_object (with_row s r None) r) t (sealed_token r)

abbrev pub AsToken : State → ℕ → State → Object → Type 0
AsToken s t after r =
    (key : Object) × ((key_of s (register (thread s t) 12) ≡ Some key)
    × (after ≡ answers (with_object (with_row s r (Some key.number)) r) t (sealed_token r)))

-- allocate hands it out as it is, token_key as a key, and token_new as a token
abbrev pub AsHanded : Platform → State → ℕ → State → Object → Type 0
AsHanded b s t after r =
    (RunsRoutine b s t ALLOCATE × AsMade s t after r)
    ⊎ (RunsRoutine b s t TOKEN_KEY × AsKey s t after r)
    ⊎ (RunsRoutine b s t TOKEN_NEW × AsToken s t after r)

-- the allocation that told this number, base and length: the object that it made, fresh, is handed out, by How it is
pub record HandsOut (i : Image) (s : State) (number base bytes : ℕ)
    (How : Object → Type 0) : Type 0 where
  pub object : Object
  pub told : (object.number ≡ number) × (object.base ≡ base) × (object.length ≡ bytes)
  pub fresh : IsFresh i s object
  pub after_is : How object
