-- What a rule that holds says of a run of an image, whatever its code is.
use Rattle.std.specs.Prelude.{ℕ, ◌≡◌, ◌+◌, ◌≤◌, ◌&&◌, Bool, true, false, List, [], ◌∷◌, take, Some, slice_get, if◌then◌else◌}
use Rattle.std.specs.List.{AllByRecursion}
use Rattle.ct_entry.specs.declared.acts.Act.TheVariants as act
use Rattle.ct_entry.specs.declared.acts.Deed.{Deed}
use Rattle.ct_entry.specs.declared.acts.Happened.{Happened}
use Rattle.ct_entry.specs.declared.acts.Owned.{Owned}
use Rattle.ct_entry.specs.declared.rows.Entry.{Entry}
use Rattle.ct_entry.specs.declared.rows.Kind.{Kind}
use Rattle.ct_entry.specs.declared.rows.Kind.TheVariants as kind
use Rattle.ct_entry.specs.declared.rows.Owner.{Owner}
use Rattle.ct_entry.specs.Kinds.{is_quota}
use Rattle.ct_entry.specs.Listed.{DeviceRow, Listed}
use Rattle.def_boot.specs.Boot.{platform_of, boot_state}
use Rattle.def_boot.specs.Gates.{entries_of}
use Rattle.def_reach.specs.Reach.{same_owner}
use Rattle.def_image.specs.Parts.{PartsRow}
use Rattle.def_machine.specs.Platform.{Platform}
use Rattle.def_machine.specs.Objects.{charges}
use Rattle.def_machine.specs.State.{Frame, Object, State, register, thread}
use Rattle.def_policy.specs.Breaking.{lists_owner}
use Rattle.def_policy.specs.Rulings.{Ruling}
use Rattle.def_policy.specs.declared.Resource.{Resource}
use Rattle.def_policy.specs.declared.Resource.TheVariants.{Call, Device, Service, Shared}
use Rattle.def_policy.specs.declared.Subject.{Subject}
use Rattle.def_policy.specs.declared.Subject.TheVariants.{Apart, Data, Disabled, Only, Quota, Total}
use Rattle.def_reach.specs.Roots.{Listing, is_owned, root_of}
use Rattle.def_reach.specs.Sharing.{Reaches}
use Rattle.def_safety.specs.Clean.{CleanEntry, TakesNone}
use Rattle.def_safety.specs.Each.{EachEvent, ready}
use Rattle.def_step.specs.Events.{happens, run, happenings_of}
use Rattle.def_step.specs.declared.Event.{Event}
use Rattle.def_program.specs.Accesses.{AllListed}

-- an owner that a rule lists, and that reaches the compartment
abbrev pub IsListedFor : Listed → Ruling → Owner → ℕ → Type 0
IsListedFor e r owner actor = (lists_owner r.owners owner ≡ true) × Reaches e owner actor

-- ---- imports of a kind: what threads hold

-- Each tagged register of the thread that carries on, whose authority is an import of this kind and of what has this
-- number, has it by an import of a listed owner, which reaches the compartment that runs.
abbrev pub HoldsListed : Listed → Ruling → Kind → ℕ → Platform → State → Type 0
HoldsListed e r held number b s =
    (t m : ℕ) (f : Frame) (fs : List Frame)
    → (ready b s).running ≡ Some t → (thread (ready b s) t).frames ≡ f ∷ fs
    → (register (thread (ready b s) t) m).tag ≡ true
    → (root_of e (register (thread (ready b s) t) m).shadow.root).origin ≡ Listing held
    → (root_of e (register (thread (ready b s) t) m).shadow.root).of ≡ number
    → IsListedFor e r (root_of e (register (thread (ready b s) t) m).shadow.root).owner f.actor

abbrev pub RunsHoldListed : PartsRow → Ruling → Kind → ℕ → List Event → Type 0
RunsHoldListed p r held number es =
    EachEvent (λ s e. HoldsListed (entries_of p) r held number (platform_of p) s) (platform_of p)
    (boot_state p) es

-- ---- calls

-- a call of the export is by an import of it, of a listed owner, which reaches the caller
abbrev pub IsListedCall : Listed → Ruling → ℕ → Happened → Type 0
IsListedCall e r export h =
    (d : Deed) → h.deed ≡ Some d → d.act ≡ act.Call export
    → ((root_of e d.entry).origin ≡ Listing kind.Call) × ((root_of e d.entry).of ≡ export)
    × IsListedFor e r (root_of e d.entry).owner d.actor

-- a call of the export enters its callee clean, and takes no capability of the caller's along
abbrev pub EntersClean : ℕ → Platform → State → Event → Type 0
EntersClean export b s e =
    (d : Deed) → (happens b s e).1.deed ≡ Some d → d.act ≡ act.Call export
    → CleanEntry b.image (ready b s) d.thread export (happens b s e).0
    × TakesNone (happens b s e).0 d.thread

-- ---- spans with interrupts off

-- the span is an export's, of a listed owner, which reaches the compartment that runs
abbrev pub IsListedSpan : Listed → Ruling → Happened → Type 0
IsListedSpan e r h =
    (o : Owned) → h.off ≡ Some o → IsListedFor e r (root_of e o.export).owner o.actor

-- ---- quotas

-- whether a rule on quotas counts an entry
abbrev pub counts : Subject → Entry → Bool
counts (Total n) x = is_quota x.kind
counts (Quota o n) x = is_quota x.kind && same_owner x.owner o
counts _ x = false

-- the live charges on all quotas that a rule counts; the first entry has this number
abbrev pub charged_from : Subject → List Object → ℕ → List Entry → ℕ
charged_from s objects number [] = 0
charged_from s objects number (x ∷ xs) =
    (if counts s x then charges number objects else 0) + charged_from s objects (number + 1) xs

-- after so many of the events they sum to no more than this
abbrev pub ChargesKeep : PartsRow → Subject → ℕ → List Event → Type 0
ChargesKeep p s limit es =
    (k : ℕ)
    → charged_from s (run (platform_of p) (boot_state p) (take k es)).objects 1 (entries_of p).rows
    ≤ limit

-- ---- two apart

-- what the compartment does is by no entry of the owner
pub record IsApartEvent (e : Listed) (o : Owner) (b : ℕ) (h : Happened) : Type 0 where
  pub deed : (d : Deed) → h.deed ≡ Some d → d.actor ≡ b → (d.entry ≡ 0 → ⊥)
      → (root_of e d.entry).owner ≡ o → ⊥
  pub off : (s : Owned) → h.off ≡ Some s → s.actor ≡ b → (root_of e s.export).owner ≡ o → ⊥

-- no tagged register of a thread that runs in the compartment is authority of an entry of the owner
abbrev pub HoldsNone : Listed → Owner → ℕ → Platform → State → Type 0
HoldsNone e o c b s =
    (t m : ℕ) (f : Frame) (fs : List Frame)
    → (ready b s).running ≡ Some t → (thread (ready b s) t).frames ≡ f ∷ fs → f.actor ≡ c
    → (register (thread (ready b s) t) m).tag ≡ true
    → is_owned (root_of e (register (thread (ready b s) t) m).shadow.root).origin ≡ true
    → (root_of e (register (thread (ready b s) t) m).shadow.root).owner ≡ o → ⊥

pub record RunsApart (p : PartsRow) (o : Owner) (c : ℕ) (es : List Event) : Type 0 where
  pub happenings : AllByRecursion (IsApartEvent (entries_of p) o c)
      (happenings_of (platform_of p) (boot_state p) es)
  pub registers : EachEvent (λ s e. HoldsNone (entries_of p) o c (platform_of p) s) (platform_of p)
      (boot_state p) es

-- ---- rules

-- What a rule that keeps a resource to some owners says of a run of these events from boot. Of a device: each load and
-- store of one of its bytes is by an import of it, of a listed owner that reaches who acts.
abbrev pub KeepsResource : PartsRow → Ruling → Resource → ℕ → List Event → Type 0
KeepsResource p r Device n es =
    (d : DeviceRow) → slice_get p.devices n ≡ Some d
    → AllListed (entries_of p) r n d.base (happenings_of (platform_of p) (boot_state p) es)
KeepsResource p r Shared n es = RunsHoldListed p r kind.Shared n es
KeepsResource p r Service n es = RunsHoldListed p r kind.Service n es
KeepsResource p r Call n es =
    AllByRecursion (IsListedCall (entries_of p) r n) (happenings_of (platform_of p) (boot_state p) es)

-- what a rule says of it
abbrev pub KeepsOver : PartsRow → Ruling → Subject → List Event → Type 0
KeepsOver p r (Only resource n) es = KeepsResource p r resource n es
KeepsOver p r Disabled es =
    AllByRecursion (IsListedSpan (entries_of p) r) (happenings_of (platform_of p) (boot_state p) es)
KeepsOver p r (Data n) es =
    EachEvent (EntersClean n (platform_of p)) (platform_of p) (boot_state p) es
KeepsOver p r (Total n) es = ChargesKeep p (Total n) n es
KeepsOver p r (Quota o n) es = ChargesKeep p (Quota o n) n es
KeepsOver p r (Apart o b) es = RunsApart p o b es
