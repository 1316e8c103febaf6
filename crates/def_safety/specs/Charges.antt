-- Charges, of one event: what a free that is told takes from a quota, and what an allocation adds.
use Rattle.std.specs.Prelude.{ℕ, ◌≡◌, ◌+◌, ◌≢◌, List, Some}
use Rattle.ct_entry.specs.declared.acts.Act.TheVariants.{Allocate, Free}
use Rattle.ct_entry.specs.declared.acts.Deed.{Deed}
use Rattle.def_profile.specs.declared.layout.TheConstants.{CHUNK_HEAD}
use Rattle.def_machine.specs.State.{State, Object}
use Rattle.def_machine.specs.Objects.{charges}
use Rattle.def_step.specs.declared.Event.{Event}
use Rattle.def_step.specs.Events.{happens}
use Rattle.def_machine.specs.Platform.{Platform}

-- the live charges on a quota are more, by an object of this length with its head; on others they are as they were
pub record ChargesMore (less more : List Object) (quota bytes : ℕ) : Type 0 where
  pub more_by : charges quota more ≡ charges quota less + (bytes + CHUNK_HEAD)
  pub others : (q : ℕ) → q ≢ quota → charges q more ≡ charges q less

-- A free or an allocation that is told changes the live charges on its quota by the object's charge, and those on no
-- other; what it tells of them is what they come to.
pub record ChargesFollow (b : Platform) (s : State) (e : Event) : Type 0 where
  pub frees : (d : Deed) (number base bytes charged : ℕ)
      → (happens b s e).1.deed ≡ Some d → d.act ≡ Free number base bytes charged
      → ChargesMore (happens b s e).0.objects s.objects d.entry bytes
      × (charged ≡ charges d.entry (happens b s e).0.objects)
  pub allocates : (d : Deed) (number base bytes charged : ℕ)
      → (happens b s e).1.deed ≡ Some d → d.act ≡ Allocate number base bytes charged
      → ChargesMore s.objects (happens b s e).0.objects d.entry bytes
      × (charged ≡ charges d.entry (happens b s e).0.objects)
