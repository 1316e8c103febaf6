-- Charges, of one event: a free that is told takes the object's charge from its quota, and an allocation adds it.
use Rattle.std.proofs.Common.{ℕ, ◌≡◌, ◌+◌, Option, Some, None, refl, sym, ap, subst}
use Rattle.ct_entry.specs.declared.acts.Act.{Act}
use Rattle.ct_entry.specs.declared.acts.Act.TheVariants as acts
use Rattle.ct_entry.specs.declared.acts.Deed.{Deed}
use Rattle.def_profile.specs.declared.layout.TheConstants.{CHUNK_HEAD}
use Rattle.def_words.specs.declared.Cap.{Cap}
use Rattle.def_words.specs.Capability.{integer}
use Rattle.def_machine.specs.Image.{Image}
use Rattle.def_machine.specs.State.{State, Object}
use Rattle.def_machine.specs.Heap.{with_object, object_cap}
use Rattle.def_machine.specs.Objects.{charges}
use Rattle.def_machine.specs.Platform.{Platform}
use Rattle.def_confined.specs.Confined.{Confined, ObjectFits}
use Rattle.def_confined.specs.Keeps.{Keeps}
use Rattle.def_confined.specs.Partitioned.{Partitioned}
use Rattle.def_step.specs.declared.Event.{Event}
use Rattle.def_step.specs.declared.Event.TheVariants.{Step, Tick, Sweep, Input}
use Rattle.def_step.specs.Events.{stepped}
use Rattle.def_step.specs.Quotas.{Made, allocation, quota_in, let_go}
use Rattle.def_step.specs.Routines.{answers}
use Rattle.def_step.specs.Tokens.{with_row, sealed_token}
use Rattle.law_moves.proofs.Rows.{each_take}
use Rattle.law_routines.proofs.Leaving.{allocate_told, free_told, allocate_left, free_left, token_key_left, token_new_left, token_free_left}
use Rattle.law_routines.proofs.Objects.{Found, made_says}
use Rattle.law_events.proofs.Events.{ready_keeps}
use Rattle.law_history.proofs.ReuseCharging.{gives_less, hands_more}
use Rattle.law_history.proofs.Same.{ready_same}
use Rattle.def_safety.specs.Charges.{ChargesMore, ChargesFollow}
use Rattle.def_safety.specs.Each.{ready}
use Rattle.law_history.proofs.Steps.{none_told}
use Rattle.law_history.proofs.Handing.{AllAllocate, BothFree, allocate_told_case, free_told_case}

-- ---- what is told

abbrev entry_in : Option (ℕ × Act) → ℕ
entry_in None = 0
entry_in (Some told) = told.0

-- the length of an object that is told, and the live charges
abbrev length_in : Option (ℕ × Act) → ℕ
length_in None = 0
length_in (Some told) = of_act told.1
  where
    of_act : Act → ℕ
    of_act (acts.Free number base long live) = long
    of_act (acts.Allocate number base long live) = long
    of_act _ = 0

abbrev live_in : Option (ℕ × Act) → ℕ
live_in None = 0
live_in (Some told) = of_act told.1
  where
    of_act : Act → ℕ
    of_act (acts.Free number base long live) = live
    of_act (acts.Allocate number base long live) = live
    of_act _ = 0

-- the charges that are told are those of the state after, and differ so from those before
abbrev Falls : State → State → ℕ → ℕ → ℕ → Type 0
Falls s z entry long live = ChargesMore z.objects s.objects entry long × (live ≡ charges entry z.objects)

abbrev Rises : State → State → ℕ → ℕ → ℕ → Type 0
Rises s z entry long live = ChargesMore s.objects z.objects entry long × (live ≡ charges entry z.objects)

abbrev FreeFalls : State → State → Option (ℕ × Act) → Type 0
FreeFalls s z told = (entry number base long live : ℕ) → told ≡ Some (entry, acts.Free number base long live) → Falls s z entry long live

abbrev AllocateRises : State → State → Option (ℕ × Act) → Type 0
AllocateRises s z told = (entry number base long live : ℕ) → told ≡ Some (entry, acts.Allocate number base long live) → Rises s z entry long live

-- what holds of the entry, length and charges of one thing told holds of those of the same
renamed : (P : ℕ → ℕ → ℕ → Type 0) (a b : Option (ℕ × Act)) → a ≡ b → P (entry_in a) (length_in a) (live_in a) → P (entry_in b) (length_in b) (live_in b)
renamed P a b same h = subst (λ (o : Option (ℕ × Act)). P (entry_in o) (length_in o) (live_in o)) same h

-- ---- the routines

module _ (i : Image) (s : State) (t : ℕ) (h : Confined i s) where
  none_falls : (n : ℕ) → FreeFalls s (answers s t (integer n)) None
  none_falls n entry number base long live e = absurd (let clash : None ≡ Some (entry, acts.Free number base long live) = e in cc)

  none_rises : (n : ℕ) → AllocateRises s (answers s t (integer n)) None
  none_rises n entry number base long live e = absurd (let clash : None ≡ Some (entry, acts.Allocate number base long live) = e in cc)

  gives_falls : (r : Object) (c : Cap) → Found (quota_in s t) c s.objects r → FreeFalls s (answers (let_go i s t r) t (integer 0)) (Some (free_told i s t r))
  gives_falls r c f entry number base long live e =
      let charge = each_take (ObjectFits i s.next) (λ q. q ≡ r) (r.charge ≡ r.length + CHUNK_HEAD) s.objects (λ q fits same. subst (λ (z : Object). z.charge ≡ z.length + CHUNK_HEAD) same fits.charge) h.fits f.there in
      renamed (Falls s (answers (let_go i s t r) t (integer 0))) (Some (free_told i s t r)) (Some (entry, acts.Free number base long live)) e
      (gives_less r s.objects h.apart f.there f.live charge, refl)

  made_rises : (size : ℕ) (r : Object) (z : State) → allocation i s (quota_in s t) size ≡ Made r → z.objects ≡ (with_object s r).objects → AllocateRises s z (Some (allocate_told s r))
  made_rises size r z is rows entry number base long live e =
      let made = (made_says i s (quota_in s t) size r is).is in
      let more = hands_more r s.objects (ap (λ (o : Object). o.live) made) (subst (λ (o : Object). o.charge ≡ o.length + CHUNK_HEAD) (sym made) refl) in
      renamed (Rises s z) (Some (allocate_told s r)) (Some (entry, acts.Allocate number base long live)) e
      (subst (λ rs. ChargesMore s.objects rs r.quota r.length × (charges r.quota (with_object s r).objects ≡ charges r.quota rs)) (sym rows) (more, refl))

  frees_fall : BothFree (FreeFalls s) i s t
  frees_fall = (free_left (FreeFalls s) i s t none_falls gives_falls, token_free_left (FreeFalls s) i s t none_falls gives_falls)

  allocations_rise : AllAllocate (AllocateRises s) i s t
  allocations_rise = (
    allocate_left (AllocateRises s) i s t none_rises (λ size r is. made_rises size r (answers (with_object s r) t (object_cap r)) is refl),
    (
      token_key_left (AllocateRises s) i s t none_rises (λ r is. made_rises 8 r (answers (with_object (with_row s r None) r) t (sealed_token r)) is refl),
      token_new_left (AllocateRises s) i s t none_rises (λ size key r is k. made_rises size r (answers (with_object (with_row s r (Some key)) r) t (sealed_token r)) is refl),
    ),
  )

-- ---- an event

step_falls : (b : Platform) (s : State) (d : Deed) (number base long live : ℕ) → Partitioned b.image → Keeps b.image s → d.act ≡ acts.Free number base long live → (stepped b s).1 ≡ Some d → Falls s (stepped b s).0 d.entry long live
step_falls b s d number base long live parts k act = free_told_case (λ (z : State). Falls s z d.entry long live) (FreeFalls (ready b s)) b s d number base long live
    (λ t. frees_fall b.image (ready b s) t (ready_keeps b s parts k).confined)
    act
    (λ z c so. (let falls = so d.entry number base long live refl in (subst (λ rs. ChargesMore z.objects rs d.entry long) (ready_same b s).objects falls.0, falls.1)))

step_rises : (b : Platform) (s : State) (d : Deed) (number base long live : ℕ) → Partitioned b.image → Keeps b.image s → d.act ≡ acts.Allocate number base long live → (stepped b s).1 ≡ Some d → Rises s (stepped b s).0 d.entry long live
step_rises b s d number base long live parts k act = allocate_told_case (λ (z : State). Rises s z d.entry long live) (AllocateRises (ready b s)) b s d number base long live
    (λ t. allocations_rise b.image (ready b s) t (ready_keeps b s parts k).confined)
    act
    (λ z c so. (let rises = so d.entry number base long live refl in (subst (λ rs. ChargesMore rs z.objects d.entry long) (ready_same b s).objects rises.0, rises.1)))

pub charges_follow : (b : Platform) (s : State) (e : Event) → Partitioned b.image → Keeps b.image s → ChargesFollow b s e
charges_follow b s Step parts k = record {
  frees = λ d number base long live is act. step_falls b s d number base long live parts k act is;
  allocates = λ d number base long live is act. step_rises b s d number base long live parts k act is;
}
charges_follow b s Tick parts k = record { frees = λ d number base long live is act. none_told d is; allocates = λ d number base long live is act. none_told d is }
charges_follow b s Sweep parts k = record { frees = λ d number base long live is act. none_told d is; allocates = λ d number base long live is act. none_told d is }
charges_follow b s (Input n byte) parts k = record { frees = λ d number base long live is act. none_told d is; allocates = λ d number base long live is act. none_told d is }
