-- *Integrity*, of the heap's rows: what an event may change of objects, and of keys and tokens.
use Rattle.std.specs.Prelude.{ℕ, ◌≡◌, ◌+◌, ◌⊎◌, true, Option}
use Rattle.ct_entry.specs.declared.acts.Act.TheVariants.{Allocate, Free}
use Rattle.ct_entry.specs.declared.acts.Deed.{Deed}
use Rattle.def_machine.specs.Objects.{Any, live_object, placed_among, quarantine, painted, unpainted}
use Rattle.def_machine.specs.Platform.{Platform}
use Rattle.def_machine.specs.State.{State, Object}
use Rattle.def_step.specs.declared.Event.{Event}
use Rattle.def_step.specs.declared.Event.TheVariants.{Step, Sweep}
use Rattle.def_step.specs.Events.{happens}
use Rattle.def_step.specs.Quotas.{without_row}
use Rattle.def_step.specs.Tokens.{row_among}
use Rattle.def_safety.specs.Each.{ready}
use Rattle.def_integrity.specs.Acting.{Acting, TellsAct}

-- An allocation that is told put a live object among the others, with the next number; the deed names its quota's
-- entry. The object has a row where it is a key or a token.
pub record IsHandedOut (s : State) (told : Option Deed) (after : State) : Type 0 where
  pub by : Acting s
  pub object : Object
  pub fresh : object ≡ live_object s.next object.quota object.base object.length
  pub left : ℕ
  pub why : TellsAct s by told (Allocate object.number object.base object.length left)
  pub quota : why.deed.entry ≡ object.quota
  pub objects : after.objects ≡ placed_among object s.objects
  pub next : after.next ≡ s.next + 1
  pub tokens : (after.tokens ≡ s.tokens)
      ⊎ ((key : Option ℕ)
      × (after.tokens ≡ row_among (record { number = object.number; key = key }) s.tokens))

-- a free that is told quarantined a live object, and took its row
pub record IsGivenBack (s : State) (told : Option Deed) (after : State) : Type 0 where
  pub by : Acting s
  pub object : Object
  pub there : Any (λ q. q ≡ object) s.objects
  pub live : object.live ≡ true
  pub left : ℕ
  pub why : TellsAct s by told (Free object.number object.base object.length left)
  pub quota : why.deed.entry ≡ object.quota
  pub objects : after.objects ≡ quarantine object.number s.objects
  pub next : after.next ≡ s.next
  pub tokens : after.tokens ≡ without_row object.number s.tokens

-- objects, the next number, keys and tokens are the same
pub record SameRows (s after : State) : Type 0 where
  pub objects : after.objects ≡ s.objects
  pub next : after.next ≡ s.next
  pub tokens : after.tokens ≡ s.tokens

-- A sweep that begins paints what is quarantined, and one that ends lets the painted go; neither numbers nor keys
-- change.
pub record RowsSwept (s after : State) : Type 0 where
  pub objects : (after.objects ≡ s.objects) ⊎ (after.objects ≡ painted s.objects)
      ⊎ (after.objects ≡ unpainted s.objects) ⊎ (after.objects ≡ unpainted (painted s.objects))
  pub next : after.next ≡ s.next
  pub tokens : after.tokens ≡ s.tokens

-- the rows are as they were before an event, or an allocation, a free or a sweep changed them
pub data RowsTouched (b : Platform) (s : State) (e : Event) : Type 0 where
  as_before : SameRows s (happens b s e).0 → RowsTouched b s e
  by_allocation : e ≡ Step → IsHandedOut (ready b s) (happens b s e).1.deed (happens b s e).0
      → RowsTouched b s e
  by_free : e ≡ Step → IsGivenBack (ready b s) (happens b s e).1.deed (happens b s e).0
      → RowsTouched b s e
  by_sweep : e ≡ Sweep → RowsSwept s (happens b s e).0 → RowsTouched b s e
