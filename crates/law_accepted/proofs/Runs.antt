-- A rule that no entry breaks holds over each run of an image.
use Rattle.std.proofs.Common.{◌≡◌, ℕ, zero, suc, ◌+◌, ◌≤◌, ◌&&◌, Bool, true, false, List, [], ◌∷◌, Option, Some, None, slice_get, take, refl, sym, ap, ◌∙◌, subst, arith, if◌then◌else◌}
use Rattle.std.specs.List.{AllByRecursion}
use Rattle.ct_entry.specs.declared.acts.Act.{Act}
use Rattle.ct_entry.specs.declared.acts.Act.TheVariants as act
use Rattle.ct_entry.specs.declared.acts.Deed.{Deed}
use Rattle.ct_entry.specs.declared.acts.Happened.{Happened}
use Rattle.ct_entry.specs.declared.rows.Entry.{Entry}
use Rattle.ct_entry.specs.declared.rows.Gate.{Gate}
use Rattle.ct_entry.specs.declared.rows.Kind.{Kind}
use Rattle.ct_entry.specs.declared.rows.Kind.TheVariants as kind
use Rattle.ct_entry.specs.declared.rows.Owner.{Owner}
use Rattle.ct_entry.specs.declared.rows.Owner.TheVariants.{Compartment, Library, Thread, Trusted}
use Rattle.ct_entry.specs.Kinds.{is_quota}
use Rattle.ct_entry.specs.Listed.{Listed}
use Rattle.ct_graph.proofs.Transfer.{owner_listed}
use Rattle.def_boot.specs.Boot.{platform_of, boot_state, image_of}
use Rattle.def_boot.specs.Gates.{entries_of}
use Rattle.def_confined.specs.Licensed.{IsLicensed}
use Rattle.def_confined.specs.Telling.{AllLicensed, IsLicensedEvent}
use Rattle.def_events.specs.Upheld.{Upholds}
use Rattle.def_reach.specs.Reach.{Reached, same_owner}
use Rattle.def_image.specs.Accepted.{IsFaultless}
use Rattle.def_image.specs.Parts.{PartsRow}
use Rattle.def_machine.specs.Platform.{Platform}
use Rattle.def_machine.specs.Image.{root}
use Rattle.def_machine.specs.Objects.{charges}
use Rattle.def_machine.specs.State.{Object, State, register, thread}
use Rattle.def_policy.specs.Breaking.{KeepsApart, KeepsRule, lists_owner}
use Rattle.def_policy.specs.Rulings.{Ruling}
use Rattle.def_policy.specs.declared.Resource.{Resource}
use Rattle.def_policy.specs.declared.Resource.TheVariants.{Call, Device, Service, Shared}
use Rattle.def_policy.specs.declared.Subject.{Subject}
use Rattle.def_policy.specs.declared.Subject.TheVariants.{Apart, Data, Disabled, Only, Quota, Total}
use Rattle.def_reach.specs.Roots.{Listing, TrustedPart, Unknown, gate_for, is_owned, listed_root, root_of}
use Rattle.def_reach.specs.Sharing.{Reaches}
use Rattle.def_safety.specs.Accesses.{UsesReach}
use Rattle.def_safety.specs.Each.{EachEvent, ready}
use Rattle.law_events.proofs.Cleans.{takes_none}
use Rattle.def_step.specs.Events.{happens, run, happenings_of}
use Rattle.def_step.specs.declared.Event.{Event}
use Rattle.ct_policy.specs.Kept.{IsUntrusted}
use Rattle.law_accepted.proofs.Running as running
use Rattle.law_boot.proofs.Holding.{holds}
use Rattle.law_image.proofs.Sounds.{sound}
use Rattle.def_program.specs.AllowedRuns.{ChargesKeep, EntersClean, HoldsListed, HoldsNone, IsApartEvent, IsListedCall, IsListedFor, IsListedSpan, KeepsOver, KeepsResource, RunsApart, RunsHoldListed, charged_from}
use Rattle.def_policy.specs.Denied.{AreDisabledListed, AreListed, PassesData, limits_counted}
use Rattle.law_policy.proofs.Kept.{data_held, disabled_held, only_held, quota_held, total_held}
use Rattle.ct_graph.proofs.Reached.{reached_of, thread_reaches_none}

-- what holds of each event holds in other words
each_so : (P Q : State → Event → Type 0) → ((s : State) (e : Event) → P s e → Q s e) → (b : Platform) (s : State) (es : List Event) → EachEvent P b s es → EachEvent Q b s es
each_so P Q so b s [] all = tt
each_so P Q so b s (e ∷ es) all = (so s e all.0, each_so P Q so b (happens b s e).0 es all.1)

licensed_so : (e : Listed) (Q : Happened → Type 0) → ((h : Happened) → IsLicensedEvent e h → Q h) → (hs : List Happened) → AllLicensed e hs → AllByRecursion Q hs
licensed_so e Q so [] all = tt
licensed_so e Q so (h ∷ hs) all = (so h all.0, licensed_so e Q so hs all.1)

-- ---- roots that rules name

module _ (e : Listed) (r : Ruling) (held : Kind) (number : ℕ) (are : AreListed e r held number) where
  by_row : (n : ℕ) (g : Gate) (o : Option Entry) → slice_get e.rows n ≡ o → (listed_root o g).origin ≡ Listing held → (listed_root o g).of ≡ number
      → lists_owner r.owners (listed_root o g).owner ≡ true
  by_row n g None there origin of_is = absurd (let clash : Unknown ≡ Listing held = origin in cc)
  by_row n g (Some x) there origin of_is =
      let kind_is : x.kind ≡ held = (let same : Listing x.kind ≡ Listing held = origin in cc) in
      are n x there kind_is of_is

  root_listed : (m : ℕ) → (root_of e m).origin ≡ Listing held → (root_of e m).of ≡ number → lists_owner r.owners (root_of e m).owner ≡ true
  unfolding root_of
  root_listed zero origin of_is = absurd (let clash : TrustedPart ≡ Listing held = origin in cc)
  root_listed (suc n) origin of_is = by_row n (gate_for e.gates (suc n)) (slice_get e.rows n) refl origin of_is

module _ (e : Listed) (r : Ruling) (are : AreDisabledListed e r) where
  off_row : (n : ℕ) (o : Option Entry) → slice_get e.rows n ≡ o → (listed_root o (gate_for e.gates (suc n))).origin ≡ Listing kind.Export
      → (listed_root o (gate_for e.gates (suc n))).disabled ≡ true → lists_owner r.owners (listed_root o (gate_for e.gates (suc n))).owner ≡ true
  off_row n None there origin off = absurd (let clash : Unknown ≡ Listing kind.Export = origin in cc)
  off_row n (Some x) there origin off =
      let kind_is : x.kind ≡ kind.Export = (let same : Listing x.kind ≡ Listing kind.Export = origin in cc) in
      are n x there kind_is off

  off_listed : (m : ℕ) → (root_of e m).origin ≡ Listing kind.Export → (root_of e m).disabled ≡ true → lists_owner r.owners (root_of e m).owner ≡ true
  unfolding root_of
  off_listed zero origin off = absurd (let clash : TrustedPart ≡ Listing kind.Export = origin in cc)
  off_listed (suc n) origin off = off_row n (slice_get e.rows n) refl origin off

-- an export that is to pass data passes no capabilities
module _ (e : Listed) (n : ℕ) (are : PassesData e n) where
  plain_row : (k : ℕ) (o : Option Entry) → slice_get e.rows k ≡ o → suc k ≡ n → (listed_root o (gate_for e.gates n)).origin ≡ Listing kind.Export
      → (listed_root o (gate_for e.gates n)).passes ≡ false
  plain_row k None there is origin = absurd (let clash : Unknown ≡ Listing kind.Export = origin in cc)
  plain_row k (Some x) there is origin =
      let kind_is : x.kind ≡ kind.Export = (let same : Listing x.kind ≡ Listing kind.Export = origin in cc) in
      are k x there is kind_is

  plain : (m : ℕ) → m ≡ n → (root_of e m).origin ≡ Listing kind.Export → (root_of e m).passes ≡ false
  unfolding root_of
  plain zero is origin = absurd (let clash : TrustedPart ≡ Listing kind.Export = origin in cc)
  plain (suc k) is origin =
      let at : (listed_root (slice_get e.rows k) (gate_for e.gates n)).origin ≡ Listing kind.Export = subst (λ z. (listed_root (slice_get e.rows k) (gate_for e.gates z)).origin ≡ Listing kind.Export) is origin in
      subst (λ z. (listed_root (slice_get e.rows k) (gate_for e.gates z)).passes ≡ false) (sym is) (plain_row k (slice_get e.rows k) refl is at)

-- ---- what is told of each event

licensed_each : (e : Listed) (b : Platform) (s : State) (es : List Event) → AllLicensed e (happenings_of b s es) → EachEvent (λ z x. IsLicensedEvent e (happens b z x).1) b s es
unfolding happenings_of
licensed_each e b s [] all = tt
licensed_each e b s (x ∷ es) all = (all.0, licensed_each e b (happens b s x).0 es all.1)

both_each : (P Q R : State → Event → Type 0) → ((s : State) (e : Event) → P s e → Q s e → R s e) → (b : Platform) (s : State) (es : List Event) → EachEvent P b s es → EachEvent Q b s es → EachEvent R b s es
both_each P Q R so b s [] one other = tt
both_each P Q R so b s (e ∷ es) one other = (so s e one.0 other.0, both_each P Q R so b (happens b s e).0 es one.1 other.1)

-- ---- quotas

one_within : (quota : Bool) (charge limit : ℕ) → charge ≤ limit → (if quota then charge else 0) ≤ (if quota then limit else 0)
one_within true charge limit within = within
one_within false charge limit within = omega arith

module _ (objects : List Object) (n : ℕ) where
  total_within : (number : ℕ) (rows : List Entry) → ((k : ℕ) (x : Entry) (at : ℕ) → slice_get rows k ≡ Some x → at ≡ number + k → charges at objects ≤ x.limit)
      → charged_from (Total n) objects number rows ≤ limits_counted (Total n) rows
  total_within number [] each = omega arith
  total_within number (x ∷ xs) each =
      let one = one_within (is_quota x.kind) (charges number objects) x.limit (each 0 x number refl (omega arith)) in
      let rest = total_within (number + 1) xs (λ k y at there is. each (suc k) y at there (omega (arith, is))) in
      omega (arith, one, rest)

  module _ (o : Owner) where
    quota_within : (number : ℕ) (rows : List Entry) → ((k : ℕ) (x : Entry) (at : ℕ) → slice_get rows k ≡ Some x → at ≡ number + k → charges at objects ≤ x.limit)
        → charged_from (Quota o n) objects number rows ≤ limits_counted (Quota o n) rows
    quota_within number [] each = omega arith
    quota_within number (x ∷ xs) each =
        let one = one_within (is_quota x.kind && same_owner x.owner o) (charges number objects) x.limit (each 0 x number refl (omega arith)) in
        let rest = quota_within (number + 1) xs (λ k y at there is. each (suc k) y at there (omega (arith, is))) in
        omega (arith, one, rest)

row_limit : (e : Listed) (k : ℕ) (x : Entry) → slice_get e.rows k ≡ Some x → (root_of e (suc k)).limit ≡ x.limit
unfolding root_of
row_limit e k x there = ap (λ o. (listed_root o (gate_for e.gates (suc k))).limit) there

-- ---- two apart

-- who owns an entry and reaches a compartment, reaches it in the graph
reached_by : (e : Listed) (n : ℕ) (o : Owner) (b : ℕ) → (root_of e n).owner ≡ o → (o ≡ Trusted → ⊥) → Reaches e o b → Reached e o b
reached_by e n Trusted b is other r = absurd (other refl)
reached_by e n (Compartment a) b is other r = reached_of e (Compartment a) b (owner_listed e n (Compartment a) refl is) r
reached_by e n (Library l) b is other r = reached_of e (Library l) b (owner_listed e n (Library l) refl is) r
reached_by e n (Thread t) b is other r = absurd (thread_reaches_none e t b r)

-- ---- over runs

module _ (p : PartsRow) (es : List Event) (f : IsFaultless p) where
  abbrev e : Listed
  e = entries_of p

  all_told : AllLicensed e (happenings_of (platform_of p) (boot_state p) es)
  unfolding image_of
  all_told = running.licensed p es f

  reaches : EachEvent (λ s x. UsesReach (platform_of p) s) (platform_of p) (boot_state p) es
  reaches = each_so (Upholds (platform_of p)) (λ s x. UsesReach (platform_of p) s) (λ s x u. u.safe.accesses) (platform_of p) (boot_state p) es (running.upheld p es (sound p f))

  module _ (r : Ruling) where
    -- the owner of an import that a register's authority is of reaches the compartment that runs
    held_so : (held : Kind) (number : ℕ) → is_owned (Listing held) ≡ true → AreListed e r held number → (s : State) (x : Event) → UsesReach (platform_of p) s → HoldsListed e r held number (platform_of p) s
    unfolding image_of
    held_so held number owned are s x u t m g gs running_is frames tagged origin of_is =
        let n : ℕ = (register (thread (ready (platform_of p) s) t) m).shadow.root in
        let used = u.registers t m g gs running_is frames tagged in
        (root_listed e r held number are n origin of_is, used.owner (ap is_owned origin ∙ owned))

    holds_over : (held : Kind) (number : ℕ) → is_owned (Listing held) ≡ true → AreListed e r held number → RunsHoldListed p r held number es
    holds_over held number owned are =
        each_so (λ s x. UsesReach (platform_of p) s) (λ s x. HoldsListed e r held number (platform_of p) s) (held_so held number owned are) (platform_of p) (boot_state p) es reaches

    call_by : (n : ℕ) → AreListed e r kind.Call n → (d : Deed) (a : Act) → IsLicensed e d a → a ≡ act.Call n
        → ((root_of e d.entry).origin ≡ Listing kind.Call) × ((root_of e d.entry).of ≡ n) × IsListedFor e r (root_of e d.entry).owner d.actor
    call_by n are d (act.Call export) l is =
        let same : export ≡ n = cc in
        let of_is : (root_of e d.entry).of ≡ n = l.1 ∙ same in
        (l.0, of_is, (root_listed e r kind.Call n are d.entry l.0 of_is, l.2))
    call_by n are d (act.Load address width value) l is = absurd (let clash : act.Load address width value ≡ act.Call n = is in cc)
    call_by n are d (act.Store address width value) l is = absurd (let clash : act.Store address width value ≡ act.Call n = is in cc)
    call_by n are d (act.Allocate number base length live) l is = absurd (let clash : act.Allocate number base length live ≡ act.Call n = is in cc)
    call_by n are d (act.Free number base length live) l is = absurd (let clash : act.Free number base length live ≡ act.Call n = is in cc)
    call_by n are d (act.Trap cause code at) l is = absurd (let clash : act.Trap cause code at ≡ act.Call n = is in cc)

    calls_over : (n : ℕ) → AreListed e r kind.Call n → AllByRecursion (IsListedCall e r n) (happenings_of (platform_of p) (boot_state p) es)
    calls_over n are = licensed_so e (IsListedCall e r n) (λ h l d is call. call_by n are d d.act (l.deed d is) call) (happenings_of (platform_of p) (boot_state p) es) all_told

    spans_over : AreDisabledListed e r → AllByRecursion (IsListedSpan e r) (happenings_of (platform_of p) (boot_state p) es)
    spans_over are =
        licensed_so e (IsListedSpan e r) (λ h l o is. (off_listed e r are o.export (l.off o is).0 (l.off o is).1, (l.off o is).2)) (happenings_of (platform_of p) (boot_state p) es) all_told

  -- what a call import names is an export
  named_export : (n : ℕ) (d : Deed) (a : Act) → IsLicensed e d a → a ≡ act.Call n → (root_of e n).origin ≡ Listing kind.Export
  unfolding image_of
  named_export n d (act.Call export) l is =
      let same : export ≡ n = cc in
      let of_is : (root_of e d.entry).of ≡ n = l.1 ∙ same in
      subst (λ z. (root_of e z).origin ≡ Listing kind.Export) of_is ((holds p (sound p f)).called d.entry l.0).kind_is
  named_export n d (act.Load address width value) l is = absurd (let clash : act.Load address width value ≡ act.Call n = is in cc)
  named_export n d (act.Store address width value) l is = absurd (let clash : act.Store address width value ≡ act.Call n = is in cc)
  named_export n d (act.Allocate number base length live) l is = absurd (let clash : act.Allocate number base length live ≡ act.Call n = is in cc)
  named_export n d (act.Free number base length live) l is = absurd (let clash : act.Free number base length live ≡ act.Call n = is in cc)
  named_export n d (act.Trap cause code at) l is = absurd (let clash : act.Trap cause code at ≡ act.Call n = is in cc)

  -- a call of an export that is to pass data enters clean
  enters_so : (n : ℕ) → PassesData e n → (s : State) (x : Event) → IsLicensedEvent e (happens (platform_of p) s x).1 → Upholds (platform_of p) s x → EntersClean n (platform_of p) s x
  unfolding image_of
  enters_so n are s x l u d is call =
      let named = named_export n d d.act (l.deed d is) call in
      let clean = u.safe.calls.enters d n is call in
      (clean, takes_none (platform_of p).image (ready (platform_of p) s) (happens (platform_of p) s x).0 d.thread n (plain e n are n refl named) clean)

  data_over : (n : ℕ) → PassesData e n → EachEvent (EntersClean n (platform_of p)) (platform_of p) (boot_state p) es
  data_over n are =
      both_each (λ s x. IsLicensedEvent e (happens (platform_of p) s x).1) (Upholds (platform_of p)) (EntersClean n (platform_of p)) (enters_so n are) (platform_of p) (boot_state p) es
      (licensed_each e (platform_of p) (boot_state p) es all_told) (running.upheld p es (sound p f))

  -- ---- quotas

  abbrev objects_after : ℕ → List Object
  objects_after k = (run (platform_of p) (boot_state p) (take k es)).objects

  each_within : (k i : ℕ) (x : Entry) (at : ℕ) → slice_get e.rows i ≡ Some x → at ≡ 1 + i → charges at (objects_after k) ≤ x.limit
  unfolding image_of
  each_within k i x at there is =
      let limit : charges at (run (platform_of p) (boot_state p) (take k es)).objects ≤ (root_of e at).limit = running.quotas p (take k es) at (sound p f) in
      let place : at ≡ suc i = omega (arith, is) in
      subst (λ m. charges at (run (platform_of p) (boot_state p) (take k es)).objects ≤ m) (ap (λ z. (root_of e z).limit) place ∙ row_limit e i x there) limit

  total_over : (n : ℕ) → limits_counted (Total n) e.rows ≤ n → ChargesKeep p (Total n) n es
  total_over n fits k = (let within = total_within (objects_after k) n 1 e.rows (each_within k) in omega (arith, within, fits))

  quota_over : (n : ℕ) (o : Owner) → limits_counted (Quota o n) e.rows ≤ n → ChargesKeep p (Quota o n) n es
  quota_over n o fits k = (let within = quota_within (objects_after k) n o 1 e.rows (each_within k) in omega (arith, within, fits))

  -- ---- two apart

  module _ (o : Owner) (b : ℕ) (apart : Reached e o b → ⊥) (other : o ≡ Trusted → ⊥) where
    not_by : (n actor : ℕ) → Reaches e (root_of e n).owner actor → actor ≡ b → (root_of e n).owner ≡ o → ⊥
    not_by n actor r actor_is owner_is =
        let here : Reaches e o actor = subst (λ z. Reaches e z actor) owner_is r in
        apart (reached_by e n o b owner_is other (subst (λ z. Reaches e o z) actor_is here))

    apart_deed : (d : Deed) (a : Act) → IsLicensed e d a → d.actor ≡ b → (d.entry ≡ 0 → ⊥) → (root_of e d.entry).owner ≡ o → ⊥
    apart_deed d (act.Call export) l actor_is entry owner_is = not_by d.entry d.actor l.2 actor_is owner_is
    apart_deed d (act.Load address width value) l actor_is entry owner_is = not_by d.entry d.actor l.1 actor_is owner_is
    apart_deed d (act.Store address width value) l actor_is entry owner_is = not_by d.entry d.actor l.1 actor_is owner_is
    apart_deed d (act.Allocate number base length live) l actor_is entry owner_is = not_by d.entry d.actor l.1 actor_is owner_is
    apart_deed d (act.Free number base length live) l actor_is entry owner_is = not_by d.entry d.actor l.1 actor_is owner_is
    apart_deed d (act.Trap cause code at) l actor_is entry owner_is = entry l.0

    apart_so : (h : Happened) → IsLicensedEvent e h → IsApartEvent e o b h
    apart_so h l = record {
      deed = λ d is actor_is entry owner_is. apart_deed d d.act (l.deed d is) actor_is entry owner_is;
      off = λ s is actor_is owner_is. not_by s.export s.actor (l.off s is).2 actor_is owner_is;
    }

    none_held : (s : State) (x : Event) → UsesReach (platform_of p) s → HoldsNone e o b (platform_of p) s
    unfolding image_of
    none_held s x u t m g gs running_is frames actor_is tagged owned owner_is =
        let n : ℕ = (register (thread (ready (platform_of p) s) t) m).shadow.root in
        not_by n g.actor ((u.registers t m g gs running_is frames tagged).owner owned) actor_is owner_is

    apart_over : RunsApart p o b es
    apart_over = record {
      happenings = licensed_so e (IsApartEvent e o b) apart_so (happenings_of (platform_of p) (boot_state p) es) all_told;
      registers = each_so (λ s x. UsesReach (platform_of p) s) (λ s x. HoldsNone e o b (platform_of p) s) none_held (platform_of p) (boot_state p) es reaches;
    }

  -- ---- a rule of those that hold

  module _ (r : Ruling) (keeps : KeepsRule e r) (untrusted : IsUntrusted r.subject) (device : (n : ℕ) → r.subject ≡ Only Device n → KeepsOver p r (Only Device n) es) where
    over_resource : (resource : Resource) (n : ℕ) → r.subject ≡ Only resource n → KeepsResource p r resource n es
    over_resource Device n is = device n is
    over_resource Shared n is = holds_over r kind.Shared n refl (only_held e r Shared n is keeps)
    over_resource Service n is = holds_over r kind.Service n refl (only_held e r Service n is keeps)
    over_resource Call n is = calls_over r n (only_held e r Call n is keeps)

    pub over : (s : Subject) → r.subject ≡ s → KeepsOver p r s es
    over (Only resource n) is = over_resource resource n is
    over Disabled is = spans_over r (disabled_held e r is keeps)
    over (Data n) is = data_over n (data_held e r n is keeps)
    over (Total n) is = total_over n (total_held e r n is keeps)
    over (Quota o n) is = quota_over n o (quota_held e r n o is keeps)
    over (Apart o b) is =
        let apart : Reached e o b → ⊥ = subst (λ s. KeepsApart e s) is keeps.apart in
        let other : o ≡ Trusted → ⊥ = (let P : Subject → Type 0 = λ s. IsUntrusted s in subst P is untrusted) in
        apart_over o b apart other
