-- Chunks that wait for a sweep, and sweeps that begin and end in a list of events.
use Rattle.std.specs.Prelude.{ℕ, ◌≡◌, ◌<◌, ◌⊎◌, true, false, List, [], ◌∷◌, Some, None}
use Rattle.def_machine.specs.State.{State, Object}
use Rattle.def_machine.specs.Heap.{ram_size, slice_end}
use Rattle.def_machine.specs.Objects.{ApartFrom, has_quarantined}
use Rattle.def_step.specs.declared.Event.{Event}
use Rattle.def_step.specs.declared.Event.TheVariants.{Sweep}
use Rattle.def_step.specs.Events.{happens}
use Rattle.def_machine.specs.Platform.{Platform}

-- the object of this number, with its chunk where it was
abbrev pub IsSameObject : Object → Object → Type 0
IsSameObject r q = (q.number ≡ r.number) × (q.base ≡ r.base) × (q.length ≡ r.length)

-- and no sweep that will let it go has begun
abbrev pub Waits : Object → Object → Type 0
Waits r q = IsSameObject r q × (q.painted ≡ false)

abbrev pub IsPainted : Object → Object → Type 0
IsPainted r q = IsSameObject r q × (q.painted ≡ true)

abbrev pub ObjectsMeet : Object → Object → Type 0
ObjectsMeet q r = ApartFrom q r → ⊥

-- at an event a sweep begins: none ran, and something is quarantined, all of which it paints
abbrev pub SweepBegins : State → Event → Type 0
SweepBegins s e = (e ≡ Sweep) × (s.front ≡ None) × (has_quarantined s.objects ≡ true)

-- A sweep whose front is at an offset ends at one of these events. Until then each Sweep event moves the front on by a
-- slice, at most to the end of RAM, and other events leave it; where it comes to the end of RAM, and only there, it ends.
abbrev pub PassesFrom : Platform → ℕ → State → List Event → Type 0
PassesFrom b front s [] = ⊥
PassesFrom b front s (Sweep ∷ es) =
    ((slice_end b.image s front ≡ ram_size s) × ((happens b s Sweep).0.front ≡ None))
    ⊎ ((slice_end b.image s front < ram_size s)
    × ((happens b s Sweep).0.front ≡ Some (slice_end b.image s front))
    × PassesFrom b (slice_end b.image s front) (happens b s Sweep).0 es)
PassesFrom b front s (e ∷ es) =
    ((happens b s e).0.front ≡ Some front) × PassesFrom b front (happens b s e).0 es

-- A whole sweep: at one of these events it begins, with the front at 0, and it passes all of RAM.
abbrev pub SweepsWhole : Platform → State → List Event → Type 0
SweepsWhole b s [] = ⊥
SweepsWhole b s (e ∷ es) =
    (SweepBegins s e × PassesFrom b 0 s (e ∷ es)) ⊎ SweepsWhole b (happens b s e).0 es
