-- A step, by what its running thread carried out.
use Rattle.std.proofs.Common.{ℕ, ◌≡◌, List, [], ◌∷◌, Option, Some, None, refl}
use Rattle.ct_entry.specs.declared.acts.Deed.{Deed}
use Rattle.def_machine.specs.State.{State}
use Rattle.def_step.specs.declared.Event.{Event}
use Rattle.def_step.specs.Events.{noted, continued, happens, stepped}
use Rattle.def_step.specs.Instructions.{executed}
use Rattle.def_machine.specs.Platform.{Platform}
use Rattle.def_safety.specs.Each.{ready, EachEvent}

-- what no event told
pub none_told : {G : Type 0} (d : Deed) → None ≡ Some d → G
none_told d e = absurd (let clash : None ≡ Some d = e in cc)

-- none runs, or one carries on
pub step_case : (P : State × Option Deed → Type 0) (b : Platform) (s : State) → ((ready b s).running ≡ None → P (ready b s, None)) → ((t : ℕ) → (ready b s).running ≡ Some t → P (noted (executed b (ready b s) t))) → P (stepped b s)
step_case P b s idle runs = by (ready b s).running refl
  where
    by : (o : Option ℕ) → (ready b s).running ≡ o → P (continued b (ready b s) o)
    by None is = idle is
    by (Some t) is = runs t is

-- what each event keeps holds of the state that each event of a run finds
pub each_event : (P : State → Event → Type 0) (K : State → Type 0) (b : Platform) (s : State) (es : List Event) → ((z : State) (e : Event) → K z → K (happens b z e).0) → ((z : State) (e : Event) → K z → P z e) → K s → EachEvent P b s es
each_event P K b s [] keeps h k = tt
each_event P K b s (e ∷ es) keeps h k = (h s e k, each_event P K b (happens b s e).0 es keeps h (keeps s e k))
