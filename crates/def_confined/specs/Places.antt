-- Places, the compartments that are their domains, and what each place may hold.
use Rattle.std.specs.Prelude.{ℕ, ◌≡◌, ◌+◌, ◌≤◌, ◌<◌, ◌⊎◌, true, false, cond, nat_lt, List, [], ◌∷◌}
use Rattle.def_profile.specs.declared.seals.TheConstants.{RETURN_DISABLE}
use Rattle.def_words.specs.declared.Cap.{Cap}
use Rattle.def_words.specs.Authority.{cap_base, cap_top}
use Rattle.def_words.specs.Seals.{cap_seal}
use Rattle.def_memory.specs.declared.Granule.{Granule}
use Rattle.ct_entry.specs.declared.rows.Owner.TheVariants.{Compartment}
use Rattle.def_reach.specs.Roots.{is_owned}
use Rattle.def_reach.specs.Sharing.{SharesC, Joined, Reaches}
use Rattle.def_machine.specs.Image.{Image, Region, Fixed, Globals, Shared, HeapRam, Stack, Bare, root, booted, stack_entry, address_of}
use Rattle.def_machine.specs.State.{State, Frame, Object, thread}
use Rattle.def_machine.specs.Objects.{Any}
use Rattle.def_confined.specs.Capabilities.{Rooted, heap_cap, stack_cap}

-- the object of a heap capability. That it is charged to the capability's root is a fact of its own: a
-- number alone would let one compartment's quota stand for another's object
pub record Covers (c : Cap) (r : Object) : Type 0 where
  pub number : r.number ≡ c.shadow.source
  pub quota : r.quota ≡ c.shadow.root
  pub low : r.base ≤ cap_base c
  pub high : cap_top c ≤ r.base + r.length

abbrev pub HasObject : Image → List Object → Cap → Type 0
HasObject i objects c = heap_cap i c ≡ true → cap_base c < cap_top c → Any (Covers c) objects

abbrev pub LiveCovers : Cap → Object → Type 0
LiveCovers c r = (r.live ≡ true) × Covers c r

abbrev pub HasLive : Image → List Object → Cap → Type 0
HasLive i objects c =
    c.tag ≡ true → heap_cap i c ≡ true → cap_base c < cap_top c → Any (LiveCovers c) objects

-- At most the top of the outermost frame of the run that begins these frames. A run is a longest row of
-- frames whose compartments reach one another in turn; tops never rise inward, so it is enough to lie below
-- the top of one frame of the run.
abbrev pub WithinRun : Image → List Frame → ℕ → Type 0
WithinRun i [] x = ⊥
WithinRun i (f ∷ []) x = x ≤ f.top
WithinRun i (f ∷ g ∷ fs) x =
    (x ≤ f.top) ⊎ (Joined i.entries f.actor g.actor × WithinRun i (g ∷ fs) x)

-- a capability at a place with this domain, and with what the place asks of a stack's
pub record Placed (i : Image) (objects : List Object) (domain : ℕ → Type 0) (stack : Cap → Type 0)
    (c : Cap) : Type 0 where
  pub rooted : Rooted i c
  pub object : HasObject i objects c
  pub owner : is_owned (root i c.shadow.root).origin ≡ true → (d : ℕ) → domain d
      → Reaches i.entries (root i c.shadow.root).owner d
  pub own : stack_cap i c ≡ true → stack c
  pub source : cap_seal c ≡ RETURN_DISABLE → (d : ℕ) → domain d
      → Reaches i.entries (root i c.shadow.source).owner d

abbrev pub NoStack : Cap → Type 0
NoStack c = ⊥

-- a thread's own stack, no further than the run goes
abbrev pub OwnStack : Image → ℕ → List Frame → Cap → Type 0
OwnStack i t fs c = (c.shadow.root ≡ stack_entry i t) × WithinRun i fs (cap_top c)

-- A place of thread t that the first of these frames holds: its registers and program counter by the
-- thread's frames, what a frame saved by the frames after it, a stack granule by the frames from the
-- innermost whose top is above it. Where no frame holds it, it is untagged.
abbrev pub InFrames : Image → List Object → ℕ → List Frame → Cap → Type 0
InFrames i objects t [] c = c.tag ≡ false
InFrames i objects t (f ∷ fs) c =
    c.tag ≡ true → Placed i objects (λ d. d ≡ f.actor) (OwnStack i t (f ∷ fs)) c

-- the frames from the innermost whose top is above an address
abbrev pub outer : List Frame → ℕ → List Frame
outer [] x = []
outer (f ∷ fs) x = cond (nat_lt x f.top) (f ∷ fs) (outer fs x)

-- a live object with this address, whose quota is compartment d's
abbrev pub LiveAt : Image → ℕ → ℕ → Object → Type 0
LiveAt i x d r =
    (r.live ≡ true) × (r.base ≤ x) × (x < r.base + r.length)
    × ((root i r.quota).owner ≡ Compartment d)

abbrev pub HeapDomain : Image → List Object → ℕ → ℕ → Type 0
HeapDomain i objects x d = Any (LiveAt i x d) objects

abbrev pub InRegion : Image → State → ℕ → Region → Granule → Type 0
InRegion i s k Fixed g = g.cap ≡ (booted i k).cap
InRegion i s k (Globals o) g = g.cap.tag ≡ true → Placed i s.objects (λ d. d ≡ o) NoStack g.cap
InRegion i s k (Shared n) g =
    g.cap.tag ≡ true
    → ((d : ℕ) × SharesC i.entries n d) × Placed i s.objects (SharesC i.entries n) NoStack g.cap
InRegion i s k HeapRam g =
    g.cap.tag ≡ true
    → ((d : ℕ) × HeapDomain i s.objects (address_of i k) d)
    × Placed i s.objects (HeapDomain i s.objects (address_of i k)) NoStack g.cap
InRegion i s k (Stack t) g =
    InFrames i s.objects t (outer (thread s t).frames (address_of i k)) g.cap
InRegion i s k Bare g = g.cap.tag ≡ false
