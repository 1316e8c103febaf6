-- Deeds of the running thread, read off the state.
use Rattle.std.proofs.Common.{ℕ, ◌≡◌, ◌+◌, ◌≤◌, ◌<◌, true, false, List, ◌∷◌, Some, refl, sym, ap, ◌∙◌, subst, arith}
use Rattle.def_words.specs.declared.Cap.{Cap}
use Rattle.def_words.specs.Authority.{cap_base, cap_top}
use Rattle.def_words.specs.Permissions.{has, load_data, store_data}
use Rattle.def_words.specs.Seals.{cap_seal}
use Rattle.ct_entry.specs.declared.rows.Kind.TheVariants as kinds
use Rattle.ct_entry.specs.declared.acts.Act.{Act}
use Rattle.ct_entry.specs.declared.acts.Act.TheVariants as acts
use Rattle.def_reach.specs.Roots.{Listing, is_owned}
use Rattle.def_machine.specs.Image.{Image, root}
use Rattle.def_machine.specs.State.{State, Frame, Object, thread, register}
use Rattle.def_machine.specs.Objects.{Any, charges}
use Rattle.def_confined.specs.Capabilities.{heap_cap}
use Rattle.def_confined.specs.Places.{Placed, InFrames, LiveCovers, OwnStack}
use Rattle.def_confined.specs.Confined.{Confined, IsPcc, PostureFits}
use Rattle.def_confined.specs.Licensed.{Licensed, OffLicensed, IsDeviceAccess}
use Rattle.def_confined.specs.Uses.{GatesOfExports}
use Rattle.def_safety.specs.Accesses.{IsUse}
use Rattle.law_moves.proofs.Places.{no_heap_of}
use Rattle.law_moves.proofs.Derives.{code_no_heap}

placed : (i : Image) (s : State) (t n : ℕ) (f : Frame) (fs : List Frame) → Confined i s → (thread s t).frames ≡ f ∷ fs → (register (thread s t) n).tag ≡ true → Placed i s.objects (λ d. d ≡ f.actor) (OwnStack i t (f ∷ fs)) (register (thread s t) n)
placed i s t n f fs h frames tagged = (subst (λ (gs : List Frame). InFrames i s.objects t gs (register (thread s t) n)) frames (h.registers t n)) tagged

-- what stands in a place of the thread is used as its root says
used : (i : Image) (objects : List Object) (t : ℕ) (f : Frame) (fs : List Frame) (c : Cap) → Placed i objects (λ d. d ≡ f.actor) (OwnStack i t (f ∷ fs)) c → (heap_cap i c ≡ true → cap_base c < cap_top c → Any (LiveCovers c) objects) → IsUse i objects t f.actor c
used i objects t f fs c p live = record {
  owner = λ owned. p.owner owned f.actor refl;
  own = λ stack. (p.own stack).0;
  range = p.rooted.range;
  rights = p.rooted.rights;
  heap = p.rooted.heap;
  heap_rights = p.rooted.heap_rights;
  live = live;
}

pub register_used : (i : Image) (s : State) (t n : ℕ) (f : Frame) (fs : List Frame) → Confined i s → s.running ≡ Some t → (thread s t).frames ≡ f ∷ fs → (register (thread s t) n).tag ≡ true → IsUse i s.objects t f.actor (register (thread s t) n)
register_used i s t n f fs h runs frames tagged = used i s.objects t f fs (register (thread s t) n) (placed i s t n f fs h frames tagged) (h.live t runs n tagged)

pub pcc_used : (i : Image) (s : State) (t : ℕ) (f : Frame) (fs : List Frame) → Confined i s → (thread s t).frames ≡ f ∷ fs → (thread s t).pcc.tag ≡ true → IsUse i s.objects t f.actor (thread s t).pcc × IsPcc i (thread s t).pcc
pcc_used i s t f fs h frames tagged =
    let p : Placed i s.objects (λ d. d ≡ f.actor) (OwnStack i t (f ∷ fs)) (thread s t).pcc = (subst (λ (gs : List Frame). InFrames i s.objects t gs (thread s t).pcc) frames (h.pcc t)) tagged in
    let none : heap_cap i (thread s t).pcc ≡ false = code_no_heap i (thread s t).pcc (h.runs t tagged).code in
    (used i s.objects t f fs (thread s t).pcc p (λ heap some. absurd (let clash : true ≡ false = sym heap ∙ none in cc)), h.runs t tagged)

pub call_licensed : (i : Image) (s : State) (t n : ℕ) (f : Frame) (fs : List Frame) → Confined i s → (thread s t).frames ≡ f ∷ fs → (register (thread s t) n).tag ≡ true → cap_seal (register (thread s t) n) ≡ 9
    → Licensed i.entries (record { thread = t; actor = f.actor; entry = (register (thread s t) n).shadow.root; act = acts.Call (root i (register (thread s t) n).shadow.root).of })
call_licensed i s t n f fs h frames tagged sealed =
    let p = placed i s t n f fs h frames tagged in
    let kind_is : (root i (register (thread s t) n).shadow.root).origin ≡ Listing kinds.Call = (placed i s t n f fs h frames tagged).rooted.calls sealed in
    (kind_is, refl, p.owner (ap is_owned kind_is) f.actor refl)

device : (i : Image) (s : State) (t n address width value right : ℕ) (act : Act) (f : Frame) (fs : List Frame) → Confined i s → (thread s t).frames ≡ f ∷ fs → (register (thread s t) n).tag ≡ true → (root i (register (thread s t) n).shadow.root).origin ≡ Listing kinds.Device → has (register (thread s t) n) right ≡ true
    → cap_base (register (thread s t) n) ≤ address → address + width ≤ cap_top (register (thread s t) n) → IsDeviceAccess i.entries (record { thread = t; actor = f.actor; entry = (register (thread s t) n).shadow.root; act = act }) address width right
device i s t n address width value right act f fs h frames tagged kind_is right_is low high =
    let p = placed i s t n f fs h frames tagged in
    let none : heap_cap i (register (thread s t) n) ≡ false = no_heap_of i (register (thread s t) n) (Listing kinds.Device) kind_is refl in
    let range = p.rooted.range none in
    (kind_is, p.owner (ap is_owned kind_is) f.actor refl, omega (arith, range.0, low), omega (arith, range.1, high), p.rooted.rights none right right_is)

pub load_licensed : (i : Image) (s : State) (t n address width value : ℕ) (f : Frame) (fs : List Frame) → Confined i s → (thread s t).frames ≡ f ∷ fs → (register (thread s t) n).tag ≡ true → (root i (register (thread s t) n).shadow.root).origin ≡ Listing kinds.Device → has (register (thread s t) n) load_data ≡ true
    → cap_base (register (thread s t) n) ≤ address → address + width ≤ cap_top (register (thread s t) n) → Licensed i.entries (record { thread = t; actor = f.actor; entry = (register (thread s t) n).shadow.root; act = acts.Load address width value })
load_licensed i s t n address width value f fs = device i s t n address width value load_data (acts.Load address width value) f fs

pub store_licensed : (i : Image) (s : State) (t n address width value : ℕ) (f : Frame) (fs : List Frame) → Confined i s → (thread s t).frames ≡ f ∷ fs → (register (thread s t) n).tag ≡ true → (root i (register (thread s t) n).shadow.root).origin ≡ Listing kinds.Device → has (register (thread s t) n) store_data ≡ true
    → cap_base (register (thread s t) n) ≤ address → address + width ≤ cap_top (register (thread s t) n) → Licensed i.entries (record { thread = t; actor = f.actor; entry = (register (thread s t) n).shadow.root; act = acts.Store address width value })
store_licensed i s t n address width value f fs = device i s t n address width value store_data (acts.Store address width value) f fs

-- an allocation and a free, by the quota in a register before and the charges in the state after
pub allocate_licensed : (i : Image) (s after : State) (t n number base long : ℕ) (f : Frame) (fs : List Frame) → Confined i s → Confined i after → (thread s t).frames ≡ f ∷ fs → (register (thread s t) n).tag ≡ true → (root i (register (thread s t) n).shadow.root).origin ≡ Listing kinds.Quota
    → Licensed i.entries (record { thread = t; actor = f.actor; entry = (register (thread s t) n).shadow.root; act = acts.Allocate number base long (charges (register (thread s t) n).shadow.root after.objects) })
allocate_licensed i s after t n number base long f fs h k frames tagged kind_is =
    let p = placed i s t n f fs h frames tagged in
    (kind_is, p.owner (ap is_owned kind_is) f.actor refl, k.limits (register (thread s t) n).shadow.root)

pub free_licensed : (i : Image) (s after : State) (t n number base long : ℕ) (f : Frame) (fs : List Frame) → Confined i s → Confined i after → (thread s t).frames ≡ f ∷ fs → (register (thread s t) n).tag ≡ true → (root i (register (thread s t) n).shadow.root).origin ≡ Listing kinds.Quota
    → Licensed i.entries (record { thread = t; actor = f.actor; entry = (register (thread s t) n).shadow.root; act = acts.Free number base long (charges (register (thread s t) n).shadow.root after.objects) })
free_licensed i s after t n number base long f fs h k frames tagged kind_is =
    let p = placed i s t n f fs h frames tagged in
    (kind_is, p.owner (ap is_owned kind_is) f.actor refl, k.limits (register (thread s t) n).shadow.root)

pub off_licensed : (i : Image) (s : State) (t : ℕ) (f : Frame) (fs : List Frame) → GatesOfExports i → Confined i s → (thread s t).frames ≡ f ∷ fs → (thread s t).posture.off ≡ true → OffLicensed i.entries (record { thread = t; actor = f.actor; export = (thread s t).posture.source })
off_licensed i s t f fs gates h frames off =
    let fits : PostureFits i (thread s t) (f ∷ fs) = subst (λ (gs : List Frame). PostureFits i (thread s t) gs) frames (h.postures t) in
    (gates (thread s t).posture.source (fits off).0, (fits off).0, (fits off).1)
