-- What comes after a free that is told: no capability of the object is used, and its chunk is handed out again only after
-- a whole sweep.
use Rattle.std.proofs.Common.{ℕ, ◌≡◌, inl, inr, true, List, Option, Some, None, refl, sym, ap, ◌∙◌, subst, arith}
use Rattle.ct_entry.specs.declared.acts.Act.{Act}
use Rattle.ct_entry.specs.declared.acts.Act.TheVariants as acts
use Rattle.ct_entry.specs.declared.acts.Deed.{Deed}
use Rattle.def_words.specs.declared.Cap.{Cap}
use Rattle.def_words.specs.Capability.{integer}
use Rattle.def_machine.specs.Image.{Image}
use Rattle.def_machine.specs.State.{State, Object, register, thread}
use Rattle.def_machine.specs.Objects.{Any}
use Rattle.def_confined.specs.Confined.{Apart, Confined, ObjectFits}
use Rattle.def_confined.specs.Keeps.{Keeps}
use Rattle.def_confined.specs.Partitioned.{Partitioned}
use Rattle.def_confined.specs.Facts.{Facts}
use Rattle.def_safety.specs.Wired.{Wired}
use Rattle.def_hidden.specs.Hidden.{Shut, Blank}
use Rattle.def_step.specs.declared.Event.{Event}
use Rattle.def_step.specs.declared.Event.TheVariants.{Step}
use Rattle.def_step.specs.Events.{happens, run, stepped}
use Rattle.def_machine.specs.Platform.{Platform}
use Rattle.def_step.specs.Quotas.{quota_in, let_go, free}
use Rattle.def_step.specs.Routines.{answers}
use Rattle.def_step.specs.Tokens.{token_free}
use Rattle.law_moves.proofs.Rows.{each_any, each_take}
use Rattle.def_events.specs.Leaving.{Left}
use Rattle.law_routines.proofs.Leaving.{free_told, free_left, token_free_left}
use Rattle.law_routines.proofs.Objects.{Found}
use Rattle.def_safety.specs.Fresh.{HandsOut, AsHanded}
use Rattle.def_safety.specs.Reuse.{IsSameObject, Waits, SweepsWhole}
use Rattle.law_history.proofs.Same.{Same, quarantined_stays, ready_same}
use Rattle.law_history.proofs.Waiting.{waiting}
use Rattle.law_history.proofs.Gone.{NoneLive, gives_none, ready_none, run_none, not_of}
use Rattle.law_events.proofs.Events.{ready_keeps}
use Rattle.law_events.proofs.Running.{run_keeps}
use Rattle.law_events.proofs.BlankEvents.{run_blank}
use Rattle.def_safety.specs.Each.{ready}
use Rattle.def_safety.specs.Chunks.{ChunksMeet, IsNotOf, chunk_at}
use Rattle.def_safety.specs.Temporal.{UsesLive, UsesOnly}
use Rattle.def_safety.specs.Used.{authority_of}
use Rattle.law_history.proofs.Handing.{free_told_case}
use Rattle.law_history.proofs.Safety.{step_allocates}

-- ---- a free is told

abbrev number_in : Act → ℕ
number_in (acts.Free number base long live) = number
number_in _ = 0

abbrev base_in : Act → ℕ
base_in (acts.Free number base long live) = base
base_in _ = 0

abbrev length_in : Act → ℕ
length_in (acts.Free number base long live) = long
length_in _ = 0

abbrev act_in : Act → Option (ℕ × Act) → Act
act_in a None = a
act_in a (Some d) = d.1

-- what a free that is told leaves waiting
abbrev FreeWaits : State → Option (ℕ × Act) → Type 0
FreeWaits z told = (entry number base long live : ℕ) → told ≡ Some (entry, acts.Free number base long live) → Any (Waits (chunk_at number base long)) z.objects

object_waits : (i : Image) (s : State) (r : Object) (number base long : ℕ) → Confined i s → Any (λ q. q ≡ r) s.objects → r.live ≡ true → r.number ≡ number → r.base ≡ base → r.length ≡ long → Any (Waits (chunk_at number base long)) s.objects
object_waits i s r number base long h there live n b l = each_any (ObjectFits i s.next) (λ q. q ≡ r) (Waits (chunk_at number base long)) s.objects
    (λ q fits same.
    ((ap (λ (z : Object). z.number) same ∙ n, ap (λ (z : Object). z.base) same ∙ b, ap (λ (z : Object). z.length) same ∙ l), fits.unpainted (ap (λ (z : Object). z.live) same ∙ live)))
    h.fits there

-- an object that is given back waits
gives_waits : (i : Image) (s : State) (t : ℕ) (r : Object) (c : Cap) → Confined i s → Found (quota_in s t) c s.objects r → FreeWaits (answers (let_go i s t r) t (integer 0)) (Some (free_told i s t r))
gives_waits i s t r c h f entry number base long live e =
    let same : acts.Free r.number r.base r.length _ ≡ acts.Free number base long live = ap (act_in (acts.Free 0 0 0 0)) e in
    let waits = object_waits i s r number base long h f.there f.live (ap number_in same) (ap base_in same) (ap length_in same) in
    let stays = quarantined_stays i s r in
    stays.waits (chunk_at number base long) waits

none_waits : (s : State) (t n : ℕ) → FreeWaits (answers s t (integer n)) None
none_waits s t n entry number base long live e = absurd (let clash : None ≡ Some (entry, acts.Free number base long live) = e in cc)

free_waits : (i : Image) (s : State) (t : ℕ) → Confined i s → Left FreeWaits (free i s t)
free_waits i s t h = free_left FreeWaits i s t (none_waits s t) (λ r c f. gives_waits i s t r c h f)

token_free_waits : (i : Image) (s : State) (t : ℕ) → Confined i s → Left FreeWaits (token_free i s t)
token_free_waits i s t h = token_free_left FreeWaits i s t (none_waits s t) (λ r c f. gives_waits i s t r c h f)

step_frees : (b : Platform) (s : State) (d : Deed) (number base long live : ℕ) → Partitioned b.image → Keeps b.image s → d.act ≡ acts.Free number base long live → (stepped b s).1 ≡ Some d → Any (Waits (chunk_at number base long)) (stepped b s).0.objects
step_frees b s d number base long live parts k act =
    let held = (ready_keeps b s parts k).confined in
    free_told_case (λ (z : State). Any (Waits (chunk_at number base long)) z.objects) FreeWaits b s d number base long live
    (λ t. (free_waits b.image (ready b s) t held, token_free_waits b.image (ready b s) t held))
    act
    (λ z c so. so d.entry number base long live refl)

-- ---- nothing of it is used

-- of the number of a free that is told no object is live
abbrev FreeNone : State → Option (ℕ × Act) → Type 0
FreeNone z told = (entry number base long live : ℕ) → told ≡ Some (entry, acts.Free number base long live) → NoneLive number z

none_none : (s : State) (t n : ℕ) → FreeNone (answers s t (integer n)) None
none_none s t n entry number base long live e = absurd (let clash : None ≡ Some (entry, acts.Free number base long live) = e in cc)

gives_none_live : (i : Image) (s : State) (t : ℕ) (r : Object) (c : Cap) → Confined i s → Found (quota_in s t) c s.objects r → FreeNone (answers (let_go i s t r) t (integer 0)) (Some (free_told i s t r))
gives_none_live i s t r c h f entry number base long live e =
    let same : acts.Free r.number r.base r.length _ ≡ acts.Free number base long live = ap (act_in (acts.Free 0 0 0 0)) e in
    subst (λ (n : ℕ). NoneLive n (answers (let_go i s t r) t (integer 0))) (ap number_in same) (gives_none i s t r c h f)

step_none : (b : Platform) (s : State) (d : Deed) (number base long live : ℕ) → Partitioned b.image → Keeps b.image s → d.act ≡ acts.Free number base long live → (stepped b s).1 ≡ Some d → NoneLive number (stepped b s).0
step_none b s d number base long live parts k act =
    let held = (ready_keeps b s parts k).confined in
    free_told_case (NoneLive number) FreeNone b s d number base long live
    (λ t. (
      free_left FreeNone b.image (ready b s) t (none_none (ready b s) t) (λ r c f. gives_none_live b.image (ready b s) t r c held f),
      token_free_left FreeNone b.image (ready b s) t (none_none (ready b s) t) (λ r c f. gives_none_live b.image (ready b s) t r c held f),
    ))
    act
    (λ z c so. (let none = so d.entry number base long live refl in record { given = none.given; gone = none.gone }))

-- what the running thread uses is of live objects, and so of none that was freed
pub free_then_use : (b : Platform) (s : State) (es : List Event) (d : Deed) (n base long live : ℕ) → Partitioned b.image → Keeps b.image s → (happens b s Step).1.deed ≡ Some d → d.act ≡ acts.Free n base long live
    → UsesLive b (run b (happens b s Step).0 es) → UsesOnly b (run b (happens b s Step).0 es) (IsNotOf b.image n)
free_then_use b s es d n base long live parts k frees act uses =
    let none = ready_none n b (run b (happens b s Step).0 es) (run_none n b (happens b s Step).0 es (step_none b s d n base long live parts k act frees)) in
    record {
      access = λ t i runs passes. not_of b.image n (ready b (run b (happens b s Step).0 es)) (authority_of (ready b (run b (happens b s Step).0 es)) t i) none (uses.access t i runs passes);
      word = λ t runs passes. not_of b.image n (ready b (run b (happens b s Step).0 es)) (register (thread (ready b (run b (happens b s Step).0 es)) t) 10) none (uses.word t runs passes);
    }

-- ---- an allocation that meets it

-- what holds of a machine whose events are counted on
pub record Sound (b : Platform) (s : State) : Type 0 where
  pub parts : Partitioned b.image
  pub facts : Facts b.image
  pub wired : Wired b
  pub shut : Shut b.image
  pub keeps : Keeps b.image s
  pub blank : Blank b.image s

pub waits_whole : (b : Platform) (s : State) (es : List Event) (n base long : ℕ) (d : Deed) (number from size live : ℕ) → Sound b s → Any (Waits (chunk_at n base long)) s.objects → (happens b (run b s es) Step).1.deed ≡ Some d → d.act ≡ acts.Allocate number from size live → ChunksMeet from size base long
    → SweepsWhole b s es
waits_whole b s es n base long d number from size live x waits is act meets = elim (waiting b s (chunk_at n base long) es waits) [
  | inr whole ↦ whole
  | inl there ↦
      let keeps = run_keeps b s es x.parts x.facts x.wired x.keeps in
      let blank = run_blank b s es x.parts x.facts x.wired x.shut x.keeps x.blank in
      let out : HandsOut b.image (ready b (run b s es)) number from size (AsHanded b (ready b (run b s es)) d.thread (stepped b (run b s es)).0) = step_allocates b (run b s es) d number from size live x.parts x.facts keeps blank act is in
      let same : Same (run b s es) (ready b (run b s es)) = ready_same b (run b s es) in
      let here : Any (IsSameObject (chunk_at n base long)) (ready b (run b s es)).objects = subst (Any (IsSameObject (chunk_at n base long))) (sym same.objects) there in
      let starts = out.told.1 in
      let spans = out.told.2 in
      absurd (each_take (Apart out.object) (IsSameObject (chunk_at n base long)) ⊥ (ready b (run b s es)).objects
      (λ q apart row. meets (elim apart.1 [ inl below ↦ inl (omega (arith, below, row.1, starts, spans)) | inr above ↦ inr (omega (arith, above, row.1, row.2, starts)) ]))
      out.fresh.object.apart here)
]

pub free_then_allocate : (b : Platform) (s : State) (es : List Event) (d : Deed) (n base long live : ℕ) (c : Deed) (number from size left : ℕ) → Sound b s → Sound b (happens b s Step).0 → (happens b s Step).1.deed ≡ Some d → d.act ≡ acts.Free n base long live
    → (happens b (run b (happens b s Step).0 es) Step).1.deed ≡ Some c → c.act ≡ acts.Allocate number from size left → ChunksMeet from size base long → SweepsWhole b (happens b s Step).0 es
free_then_allocate b s es d n base long live c number from size left x after frees act allocates by meets =
    waits_whole b (happens b s Step).0 es n base long c number from size left after (step_frees b s d n base long live x.parts x.keeps act frees) allocates by meets
