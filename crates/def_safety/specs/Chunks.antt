-- What comes after a free that is told: no capability of the object is used, and its chunk isn't handed out again before
-- a whole sweep.
use Rattle.std.specs.Prelude.{ℕ, ◌≡◌, ◌+◌, ◌≤◌, ◌⊎◌, ◌≢◌, true, false, List, Some}
use Rattle.ct_entry.specs.declared.acts.Act.TheVariants.{Allocate, Free}
use Rattle.ct_entry.specs.declared.acts.Deed.{Deed}
use Rattle.def_profile.specs.declared.layout.TheConstants.{CHUNK_HEAD}
use Rattle.def_words.specs.declared.Cap.{Cap}
use Rattle.def_machine.specs.Image.{Image}
use Rattle.def_machine.specs.State.{State, Object}
use Rattle.def_confined.specs.Capabilities.{heap_cap}
use Rattle.def_step.specs.declared.Event.{Event}
use Rattle.def_step.specs.declared.Event.TheVariants.{Step}
use Rattle.def_step.specs.Events.{happens, run}
use Rattle.def_machine.specs.Platform.{Platform}
use Rattle.def_safety.specs.Reuse.{SweepsWhole}
use Rattle.def_safety.specs.Temporal.{UsesOnly}

-- objects of these lengths at these bases, with their heads, meet
abbrev pub ChunksMeet : ℕ → ℕ → ℕ → ℕ → Type 0
ChunksMeet from size base bytes =
    ((from + size + CHUNK_HEAD ≤ base) ⊎ (base + bytes + CHUNK_HEAD ≤ from)) → ⊥

-- the object of a number at a base, of which nothing else is asked
abbrev pub chunk_at : ℕ → ℕ → ℕ → Object
chunk_at number base bytes = record {
  number = number;
  quota = 0;
  base = base;
  length = bytes;
  charge = 0;
  live = false;
  painted = false;
}

-- the state in which a step leaves what these events left
abbrev pub stepped_after : Platform → State → List Event → State
stepped_after b s es = (happens b (run b s es) Step).0

-- a capability of no object with this number
abbrev pub IsNotOf : Image → ℕ → Cap → Type 0
IsNotOf i n c = heap_cap i c ≡ true → c.shadow.source ≢ n

-- Where a free is told after some events, then after any more no load or store whose checks pass, and no wait or wake,
-- goes through a capability of the freed object.
abbrev pub UnusedAfterFree : Platform → State → Type 0
UnusedAfterFree b s =
    (es fs : List Event) (d : Deed) (n base bytes charged : ℕ)
    → (happens b (run b s es) Step).1.deed ≡ Some d → d.act ≡ Free n base bytes charged
    → UsesOnly b (run b (stepped_after b s es) fs) (IsNotOf b.image n)

-- Where a free is told after some events, and after more an allocation whose chunk meets the chunk of the freed object,
-- there was a whole sweep among these, which began after the free.
abbrev pub SweptBeforeReuse : Platform → State → Type 0
SweptBeforeReuse b s =
    (es fs : List Event) (d : Deed) (n base bytes charged : ℕ)
    (c : Deed) (number from size total : ℕ)
    → (happens b (run b s es) Step).1.deed ≡ Some d → d.act ≡ Free n base bytes charged
    → (happens b (run b (stepped_after b s es) fs) Step).1.deed ≡ Some c
    → c.act ≡ Allocate number from size total → ChunksMeet from size base bytes
    → SweepsWhole b (stepped_after b s es) fs
