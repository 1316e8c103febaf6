-- Who changes a device: an actor that an import of it reaches.
use Rattle.std.proofs.Common.{ℕ, ◌≡◌, ◌⊎◌, inl, inr, true, false, List, [], ◌∷◌, Option, refl, sym, ap, ◌∙◌, arith}
use Rattle.std.specs.Prelude.{is_some}
use Rattle.law_lists.proofs.Tests.{bool_tells, chosen}
use Rattle.ct_entry.specs.declared.rows.Kind.TheVariants as kind
use Rattle.def_words.specs.Permissions.{bit, load_data, store_data}
use Rattle.def_reach.specs.Roots.{Listing, is_owned}
use Rattle.def_machine.specs.Platform.{Platform}
use Rattle.def_machine.specs.Image.{root}
use Rattle.def_machine.specs.State.{State, DeviceState}
use Rattle.ct_entry.specs.declared.acts.Deed.{Deed}
use Rattle.def_confined.specs.Capabilities.{heap_cap}
use Rattle.def_confined.specs.Confined.{Confined, ObjectFits}
use Rattle.def_confined.specs.Facts.{Facts}
use Rattle.def_confined.specs.Keeps.{Keeps}
use Rattle.def_confined.specs.Partitioned.{Partitioned}
use Rattle.def_step.specs.declared.Access.{Access}
use Rattle.def_step.specs.declared.Event.{Event}
use Rattle.def_step.specs.Accesses.{access_of}
use Rattle.def_step.specs.Devices.{device, found}
use Rattle.def_step.specs.Events.{happens, run}
use Rattle.def_safety.specs.Accesses.{SpansLive}
use Rattle.def_safety.specs.Each.{ready}
use Rattle.def_safety.specs.Used.{authority_of, access_start, used_right}
use Rattle.def_safety.specs.Wired.{Wired}
use Rattle.def_integrity.specs.Devices.{IsAccessed, DeviceTouched, as_before, by_access, by_input, IsHeld, ActsOnDevice, DevicesHeld}
use Rattle.def_integrity.specs.Homes.{DevicesStay}
use Rattle.law_moves.proofs.Rows.{each_take}
use Rattle.law_events.proofs.Accesses.{width_of}
use Rattle.law_events.proofs.Events.{ready_keeps, event_keeps}
use Rattle.law_integrity.proofs.Devices.{devices_kept}
use Rattle.law_integrity.proofs.Homes.{held_to}

-- a used right is one to load or one to store
either : (a : Access) (rights : ℕ) → bit rights (used_right a) ≡ true → (bit rights load_data ≡ true) ⊎ (bit rights store_data ≡ true)
either a rights = chosen (λ (n : ℕ). bit rights n ≡ true → (bit rights load_data ≡ true) ⊎ (bit rights store_data ≡ true)) a.loads load_data store_data
    (λ is may. inl may)
    (λ not may. inr may)

held_by : (b : Platform) (s : State) (told : Option Deed) (n : ℕ) (new : DeviceState) → Wired b → Confined b.image s → IsAccessed b s told n new → IsHeld b s n
held_by b s told n new wired held h =
    let some = (width_of h.instruction).some in
    let there : is_some (found b.bases (access_start s h.by.thread_is h.instruction)) ≡ true = ap is_some h.here in
    elim (bool_tells (heap_cap b.image (authority_of s h.by.thread_is h.instruction))) [
      | inl heap ↦ absurd (each_take (ObjectFits b.image s.next) (SpansLive (authority_of s h.by.thread_is h.instruction) (access_start s h.by.thread_is h.instruction) (access_of h.instruction).width) ⊥ s.objects
          (λ q f spans.
          let low = f.low in
          let high = f.high in
          let from = spans.low in
          let to = spans.high in
          let away = wired.apart (access_start s h.by.thread_is h.instruction) (omega (arith, low, from)) (omega (arith, high, to, some)) in
          let clash : true ≡ false = sym there ∙ away in cc)
          held.fits (h.uses.object heap))
      | inr other ↦
          let range = h.uses.range other in
          let high = range.1 in
          let may = either (access_of h.instruction) (root b.image (authority_of s h.by.thread_is h.instruction).shadow.root).rights (held_to b.image (authority_of s h.by.thread_is h.instruction) (used_right (access_of h.instruction)) other h.uses.right) in
          let is : (root b.image (authority_of s h.by.thread_is h.instruction).shadow.root).origin ≡ Listing kind.Device =
          wired.devices (authority_of s h.by.thread_is h.instruction).shadow.root (access_start s h.by.thread_is h.instruction) may range.0 (omega (arith, high, some)) there in
          record {
            by = h.by;
            entry = (authority_of s h.by.thread_is h.instruction).shadow.root;
            address = access_start s h.by.thread_is h.instruction;
            is_device = is;
            reached = h.uses.uses.owner (ap is_owned is);
            low = range.0;
            high = omega (arith, high, some);
            here = h.here;
          }
    ]

pub devices_held : (b : Platform) (s : State) (e : Event) → Partitioned b.image → Wired b → Keeps b.image s → DevicesHeld b s e
devices_held b s e parts wired k n = by (devices_kept b s e parts k n)
  where
    by : DeviceTouched b s e n → (device (happens b s e).0.devices n ≡ device s.devices n) ⊎ ActsOnDevice b s e n
    by (as_before same) = inl same
    by (by_access step h) = inr (inl (step, held_by b (ready b s) _ n _ wired (ready_keeps b s parts k).confined h))
    by (by_input byte is new) = inr (inr (byte, is))

pub devices_stay : (b : Platform) (s : State) (es : List Event) → Partitioned b.image → Facts b.image → Wired b → Keeps b.image s → DevicesStay b s es
unfolding run
devices_stay b s [] parts facts wired k n none = refl
devices_stay b s (e ∷ es) parts facts wired k n none =
    devices_stay b (happens b s e).0 es parts facts wired (event_keeps b s e parts facts wired k) n none.1
    ∙ elim (devices_held b s e parts wired k n) [
      | inl same ↦ same
      | inr acts ↦ absurd (none.0 acts)
    ]
