-- *Temporal safety*, of one event: what a step accesses, and what an allocation hands out.
use Rattle.std.specs.Prelude.{ℕ, ◌≡◌, true, List, Some, None}
use Rattle.ct_entry.specs.declared.acts.Act.TheVariants.{Allocate}
use Rattle.ct_entry.specs.declared.acts.Deed.{Deed}
use Rattle.def_instr.specs.declared.Instr.{Instr}
use Rattle.def_words.specs.declared.Cap.{Cap}
use Rattle.def_machine.specs.Image.{Image}
use Rattle.def_machine.specs.State.{State, Object, register, thread}
use Rattle.def_machine.specs.Objects.{Any}
use Rattle.def_confined.specs.Capabilities.{heap_cap}
use Rattle.def_confined.specs.Places.{LiveCovers}
use Rattle.def_step.specs.declared.Event.{Event}
use Rattle.def_step.specs.Checks.{first_failed}
use Rattle.def_step.specs.Events.{happens}
use Rattle.def_machine.specs.Platform.{Platform}
use Rattle.def_step.specs.Routines.{word_checks}
use Rattle.def_safety.specs.Fresh.{HandsOut, AsHanded}
use Rattle.def_safety.specs.Each.{ready}
use Rattle.def_safety.specs.Used.{authority_of, AccessPasses}

-- a heap capability is of an object that is live, and so hasn't been freed
abbrev pub OfLive : Image → List Object → Cap → Type 0
OfLive i objects c = heap_cap i c ≡ true → Any (LiveCovers c) objects

-- The running thread uses only capabilities of which this holds: those that it loads or stores through with success, and
-- what it waits or wakes through.
pub record UsesOnly (b : Platform) (s : State) (P : Cap → Type 0) : Type 0 where
  pub access : (t : ℕ) (k : Instr) → (ready b s).running ≡ Some t → AccessPasses (ready b s) t k
      → P (authority_of (ready b s) t k)
  pub word : (t : ℕ) → (ready b s).running ≡ Some t
      → first_failed (word_checks b.image (ready b s) (register (thread (ready b s) t) 10)) ≡ None
      → P (register (thread (ready b s) t) 10)

abbrev pub UsesLive : Platform → State → Type 0
UsesLive b s = UsesOnly b s (OfLive b.image (ready b s).objects)

-- an allocation that is told hands out a fresh object with what is told of it, as it is, as a key or as a token: what the
-- event leaves is the answer of the routine that does so
abbrev pub AllocatesFresh : Platform → State → Event → Type 0
AllocatesFresh b s e =
    (d : Deed) (number base bytes charged : ℕ)
    → (happens b s e).1.deed ≡ Some d → d.act ≡ Allocate number base bytes charged
    → HandsOut b.image (ready b s) number base bytes
    (AsHanded b (ready b s) d.thread (happens b s e).0)
