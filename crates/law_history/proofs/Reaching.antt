-- *Licensed accesses*, of one event: what the running thread's capabilities are of, and what it does through them.
use Rattle.std.proofs.Common.{ℕ, ◌≡◌, ◌+◌, ◌-◌, ◌≤◌, ◌<◌, ◌&&◌, cond, inl, inr, Bool, true, false, List, ◌∷◌, Option, Some, None, refl, sym, ap, ◌∙◌, subst, arith}
use Rattle.std.proofs.lemmas.Bool.{and_parts, eqb-true}
use Rattle.law_lists.proofs.Tests.{chosen}
use Rattle.ct_entry.specs.declared.rows.Kind.TheVariants as kind
use Rattle.def_profile.specs.declared.rights.TheConstants.{HEAP_RIGHTS}
use Rattle.def_words.specs.declared.Cap.{Cap}
use Rattle.def_words.specs.Authority.{cap_address, cap_base, cap_top}
use Rattle.def_words.specs.Capability.{integer, is_range_inside, untagged}
use Rattle.def_words.specs.Loaded.{attenuated}
use Rattle.def_words.specs.Permissions.{bit, has, load_data, store_data, memory_capability, execute}
use Rattle.def_memory.specs.declared.Granule.{Granule}
use Rattle.def_memory.specs.Accesses.{loaded, loaded_cap}
use Rattle.def_reach.specs.Roots.{Origin, Unknown, TrustedPart, Listing, is_code, is_native, is_owned}
use Rattle.def_reach.specs.Sharing.{Reaches}
use Rattle.def_machine.specs.Image.{Image, root}
use Rattle.def_machine.specs.Memory.{filtered_in, is_marked_in}
use Rattle.def_machine.specs.State.{State, Frame, Object, register, thread}
use Rattle.def_machine.specs.Platform.{Platform}
use Rattle.def_confined.specs.Capabilities.{heap_cap, stack_cap}
use Rattle.def_confined.specs.Confined.{IsPcc}
use Rattle.def_confined.specs.Keeps.{Keeps}
use Rattle.def_confined.specs.Partitioned.{Partitioned}
use Rattle.def_confined.specs.Places.{LiveCovers, Covers, InFrames, WithinRun}
use Rattle.def_step.specs.declared.Access.{Access}
use Rattle.def_step.specs.Accesses.{MemoryAndDevices, Accessed, access_of, access_checks, load_checks, store_checks, accessed, ram_value, device_value, widened}
use Rattle.def_step.specs.Checks.{Check, first_failed}
use Rattle.def_instr.specs.declared.Instr.{Instr}
use Rattle.def_words.specs.Seals.{cap_seal, is_unsealed}
use Rattle.def_step.specs.Devices.{bank_value}
use Rattle.def_step.specs.Instructions.{fetch_checks, space_of}
use Rattle.def_step.specs.Operands.{operands_of}
use Rattle.def_step.specs.Routines.{word_checks, lies_in_ram}
use Rattle.law_moves.proofs.Derives.{within_less}
use Rattle.law_moves.proofs.Rows.{any_map}
use Rattle.law_boot.proofs.Imports.{reaches_library}
use Rattle.law_moves.proofs.Results.{attenuated_carries}
use Rattle.law_moves.proofs.Checks.{AllPass, all_pass}
use Rattle.law_moves.proofs.Deeds.{register_used, pcc_used}
use Rattle.law_routines.proofs.Accesses.{by_access}
use Rattle.law_routines.proofs.Leaving.{option_tells}
use Rattle.law_events.proofs.Accesses.{load_passes, store_passes, width_of, range_says}
use Rattle.law_events.proofs.Events.{ready_keeps}
use Rattle.def_safety.specs.Accesses.{IsUse, IsUseAt, SpansLive, RunsFor, UsesReach, root_rights}
use Rattle.def_safety.specs.Each.{ready}
use Rattle.def_safety.specs.Used.{AccessPasses, authority_of, value_of, access_start, used_right, moves_capability}

-- ---- a use of so many bytes

module _ (i : Image) (objects : List Object) (t actor : ℕ) (c : Cap) (u : IsUse i objects t actor c) where
  -- the rights of a capability are among those that it is held to
  held_right : (p : ℕ) → has c p ≡ true → bit (root_rights i c) p ≡ true
  held_right p may = chosen (λ (r : ℕ). bit r p ≡ true) (heap_cap i c) HEAP_RIGHTS (root i c.shadow.root).rights
      (λ is. u.heap_rights is p may)
      (λ not. u.rights not p may)

  -- what lies in its bounds lies in its root's range, or in its object
  use_at : (at width needed : ℕ) → 0 < width → is_unsealed c ≡ true → cap_base c ≤ at → at + width ≤ cap_top c → has c needed ≡ true → IsUseAt i objects t actor c at width needed
  use_at at width needed some open_one low high may = record {
    uses = u;
    unsealed = eqb-true (cap_seal c) 0 open_one;
    allows = may;
    inside = (low, high);
    right = held_right needed may;
    range = λ other. (let r = u.range other in (omega (arith, r.0, low), omega (arith, r.1, high)));
    object = λ heap. any_map (LiveCovers c) (SpansLive c at width) objects spans (u.live heap (omega (arith, low, high, some)));
  }
    where
      spans : (q : Object) → LiveCovers c q → SpansLive c at width q
      spans q k =
          let covers : Covers c q = k.1 in
          let from = covers.low in
          let to = covers.high in
          record { live = k.0; number = covers.number; quota = covers.quota; low = omega (arith, from, low); high = omega (arith, to, high) }

-- ---- what passed checks say

load_right : (a : Access) → a.loads ≡ true → used_right a ≡ load_data
load_right a is = rw is refl

store_right : (a : Access) → a.loads ≡ false → used_right a ≡ store_data
store_right a is = rw is refl

access_used : (i : Image) (objects : List Object) (t actor : ℕ) (a : Access) (x y : Cap) (at : ℕ) → 0 < a.width → (x.tag ≡ true → IsUse i objects t actor x) → AllPass (access_checks a x y at) → IsUseAt i objects t actor x at a.width (used_right a)
access_used i objects t actor a x y at some use_of =
    let Used : ℕ → Type 0 = λ p. IsUseAt i objects t actor x at a.width p in
    chosen (λ (cs : List Check). AllPass cs → IsUseAt i objects t actor x at a.width (used_right a)) a.loads (load_checks a x at) (store_checks a x at (a.whole && y.tag))
    (λ loads h. (let p = load_passes a x at h in subst Used (sym (load_right a loads)) (use_at i objects t actor x (use_of p.tagged) at a.width load_data some h.1.0 p.low p.high p.loads)))
    (λ stores h. (let p = store_passes a x at (a.whole && y.tag) h in subst Used (sym (store_right a stores)) (use_at i objects t actor x (use_of p.tagged) at a.width store_data some h.1.0 p.low p.high p.stores)))

-- checks that pass begin with the tag
access_tagged : (a : Access) (x y : Cap) (at : ℕ) → AllPass (access_checks a x y at) → x.tag ≡ true
access_tagged a x y at = chosen (λ (cs : List Check). AllPass cs → x.tag ≡ true) a.loads (load_checks a x at) (store_checks a x at (a.whole && y.tag)) (λ loads h. h.0) (λ stores h. h.0)

word_used : (i : Image) (s : State) (t actor : ℕ) (c : Cap) → (c.tag ≡ true → IsUse i s.objects t actor c) → AllPass (word_checks i s c) → IsUseAt i s.objects t actor c (cap_address c) 4 load_data
word_used i s t actor c use_of h =
    let both = and_parts (is_range_inside c (cap_address c) (cap_address c + 4)) (lies_in_ram i s (cap_address c) 4) h.1.1.1.0 in
    let range = range_says c (cap_address c) (cap_address c + 4) both.0 in
    use_at i s.objects t actor c (use_of h.0) (cap_address c) 4 load_data (omega arith) h.1.0 range.0 range.1 h.1.1.0

fetch_used : (i : Image) (objects : List Object) (t actor : ℕ) (c : Cap) → (c.tag ≡ true → IsUse i objects t actor c) → AllPass (fetch_checks c) → IsUseAt i objects t actor c (cap_address c) 4 execute
fetch_used i objects t actor c use_of h =
    let range = range_says c (cap_address c) (cap_address c + 4) h.1.1.1.0 in
    use_at i objects t actor c (use_of h.0) (cap_address c) 4 execute (omega arith) h.1.0 range.0 range.1 h.1.1.0

-- ---- a capability is moved

abbrev tag_in : Option Cap → Bool
tag_in None = false
tag_in (Some c) = c.tag

filtered_moved : (x c : Cap) (marked : Bool) → (cond marked (untagged (attenuated x c)) (attenuated x c)).tag ≡ true → has x memory_capability ≡ true
filtered_moved x c marked = chosen (λ (v : Cap). v.tag ≡ true → has x memory_capability ≡ true) marked (untagged (attenuated x c)) (attenuated x c)
    (λ is tagged. absurd (let clash : false ≡ true = tagged in cc))
    (λ not tagged. attenuated_carries x c tagged)

ram_moved : (a : Access) (x : Cap) (at ram : ℕ) (gs : List Granule) → (ram_value a x at ram gs).tag ≡ true → has x memory_capability ≡ true
ram_moved a x at ram gs = chosen (λ (v : Cap). v.tag ≡ true → has x memory_capability ≡ true) a.whole (filtered_in ram gs (attenuated x (loaded_cap gs (at - ram)))) (integer (widened a (loaded gs (at - ram) a.width)))
    (λ whole tagged. filtered_moved x (loaded_cap gs (at - ram)) ((attenuated x (loaded_cap gs (at - ram))).tag && is_marked_in ram gs (cap_base (attenuated x (loaded_cap gs (at - ram))))) tagged)
    (λ part tagged. absurd (let clash : false ≡ true = tagged in cc))

device_moved : (a : Access) (x : Cap) (n : ℕ) → (device_value a x n).tag ≡ true → has x memory_capability ≡ true
device_moved a x n = chosen (λ (v : Cap). v.tag ≡ true → has x memory_capability ≡ true) a.whole (attenuated x (integer n)) (integer (widened a n))
    (λ whole tagged. attenuated_carries x (integer n) tagged)
    (λ part tagged. absurd (let clash : false ≡ true = tagged in cc))

value_moved : (a : Access) (x y : Cap) (at : ℕ) (p : MemoryAndDevices) (v : Cap) → (accessed a x y at p).value ≡ Some v → v.tag ≡ true → has x memory_capability ≡ true
value_moved a x y at p = by_access (λ (m : Accessed). (v : Cap) → m.value ≡ Some v → v.tag ≡ true → has x memory_capability ≡ true) a x y at p (record {
  loads = λ ram loads v e tagged. ram_moved a x at p.ram p.granules (ap tag_in e ∙ tagged);
  stores = λ ram stores v e tagged. absurd (let clash : None ≡ Some v = e in cc);
  reads = λ loads v e tagged. device_moved a x (bank_value p.bank at a.width p.time) (ap tag_in e ∙ tagged);
  writes = λ stores v e tagged. absurd (let clash : None ≡ Some v = e in cc);
})

load_moved : (a : Access) (x y : Cap) (at : ℕ) (p : MemoryAndDevices) → a.loads ≡ true → moves_capability a x y at p ≡ true → has x memory_capability ≡ true
load_moved a x y at p loads moved = elim (option_tells (accessed a x y at p).value) [
  | inl none ↦ (let same : moves_capability a x y at p ≡ false = rw (none, loads) refl in absurd (let clash : false ≡ true = sym same ∙ moved in cc))
  | inr some ↦ (let same : moves_capability a x y at p ≡ some.0.tag = rw (some.1, loads) refl in value_moved a x y at p some.0 some.1 (sym same ∙ moved))
]

store_moved : (a : Access) (x y : Cap) (at : ℕ) (p : MemoryAndDevices) → a.loads ≡ false → moves_capability a x y at p ≡ true → (a.whole && y.tag) ≡ true
store_moved a x y at p stores moved = let same : moves_capability a x y at p ≡ (a.whole && y.tag) = rw stores refl in sym same ∙ moved

access_moved : (a : Access) (x y : Cap) (at : ℕ) (p : MemoryAndDevices) → AllPass (access_checks a x y at) → moves_capability a x y at p ≡ true → (x.tag ≡ true) × (has x memory_capability ≡ true)
access_moved a x y at p = chosen (λ (cs : List Check). AllPass cs → moves_capability a x y at p ≡ true → (x.tag ≡ true) × (has x memory_capability ≡ true)) a.loads (load_checks a x at) (store_checks a x at (a.whole && y.tag))
    (λ loads h moved. ((load_passes a x at h).tagged, load_moved a x y at p loads moved))
    (λ stores h moved. (let says = store_passes a x at (a.whole && y.tag) h in (says.tagged, says.may_carry (store_moved a x y at p stores moved))))

-- ---- the code that runs

runs_for : (i : Image) (n actor : ℕ) (o : Origin) → Partitioned i → (root i n).origin ≡ o → is_code o ≡ true → (is_owned o ≡ true → Reaches i.entries (root i n).owner actor) → RunsFor i n actor
runs_for i n actor Unknown parts is code owner = absurd (let clash : false ≡ true = code in cc)
runs_for i n actor TrustedPart parts is code owner = inr (inr (ap is_native is))
runs_for i n actor (Listing kind.Code) parts is code owner = inl (is, owner refl)
runs_for i n actor (Listing kind.Library) parts is code owner =
    let library = parts.libraries n is in
    inr (inl (is, reaches_library i.entries n library.0 actor is library.1 (owner refl)))
runs_for i n actor (Listing kind.Service) parts is code owner = inr (inr (ap is_native is))
runs_for i n actor (Listing kind.Globals) parts is code owner = absurd (let clash : false ≡ true = code in cc)
runs_for i n actor (Listing kind.Stack) parts is code owner = absurd (let clash : false ≡ true = code in cc)
runs_for i n actor (Listing kind.Device) parts is code owner = absurd (let clash : false ≡ true = code in cc)
runs_for i n actor (Listing kind.Shared) parts is code owner = absurd (let clash : false ≡ true = code in cc)
runs_for i n actor (Listing kind.Sealed) parts is code owner = absurd (let clash : false ≡ true = code in cc)
runs_for i n actor (Listing kind.Call) parts is code owner = absurd (let clash : false ≡ true = code in cc)
runs_for i n actor (Listing kind.Quota) parts is code owner = absurd (let clash : false ≡ true = code in cc)
runs_for i n actor (Listing kind.Key) parts is code owner = absurd (let clash : false ≡ true = code in cc)
runs_for i n actor (Listing kind.Export) parts is code owner = absurd (let clash : false ≡ true = code in cc)

-- ---- an event

pub uses_reach : (b : Platform) (s : State) → Partitioned b.image → Keeps b.image s → UsesReach b s
uses_reach b s parts k = record {
  registers = λ t n f fs runs frames tagged. of_register t n f fs runs frames tagged;
  counter = λ t f fs runs frames tagged. of_counter t f fs frames tagged;
  runs = λ t f fs runs frames tagged. (let u = of_counter t f fs frames tagged in runs_for b.image (thread (ready b s) t).pcc.shadow.root f.actor (root b.image (thread (ready b s) t).pcc.shadow.root).origin parts refl u.1.code u.0.owner);
  fetch = λ t f fs runs frames passes. fetch_used b.image (ready b s).objects t f.actor (thread (ready b s) t).pcc (λ tagged. (of_counter t f fs frames tagged).0) (all_pass (fetch_checks (thread (ready b s) t).pcc) passes);
  access = accessed;
  moves = λ t k f fs runs frames passes moved. (let says = access_moved (access_of k) (authority_of (ready b s) t k) (value_of (ready b s) t k) (access_start (ready b s) t k) (space_of b (ready b s)) (all_pass (access_checks (access_of k) (authority_of (ready b s) t k) (value_of (ready b s) t k) (access_start (ready b s) t k)) passes) moved in
      (says.1, held_right b.image (ready b s).objects t f.actor (authority_of (ready b s) t k) (of_register t (operands_of k).first f fs runs frames says.0) memory_capability says.1));
  run = λ t k f fs runs frames passes is. (let used = accessed t k f fs runs frames passes in within_less b.image (f ∷ fs) (cap_top (authority_of (ready b s) t k)) (access_start (ready b s) t k + (access_of k).width) used.inside.1 (in_run t (operands_of k).first f fs frames (access_tagged (access_of k) (authority_of (ready b s) t k) (value_of (ready b s) t k) (access_start (ready b s) t k) (all_pass (access_checks (access_of k) (authority_of (ready b s) t k) (value_of (ready b s) t k) (access_start (ready b s) t k)) passes)) is));
  word = worded;
  word_run = λ t f fs runs frames passes is. (let used = worded t f fs runs frames passes in
      within_less b.image (f ∷ fs) (cap_top (register (thread (ready b s) t) 10)) (cap_address (register (thread (ready b s) t) 10) + 4) used.inside.1 (in_run t 10 f fs frames (all_pass (word_checks b.image (ready b s) (register (thread (ready b s) t) 10)) passes).0 is));
}
  where
    of_register : (t n : ℕ) (f : Frame) (fs : List Frame) → (ready b s).running ≡ Some t → (thread (ready b s) t).frames ≡ f ∷ fs → (register (thread (ready b s) t) n).tag ≡ true → IsUse b.image (ready b s).objects t f.actor (register (thread (ready b s) t) n)
    of_register t n f fs runs frames tagged = register_used b.image (ready b s) t n f fs (ready_keeps b s parts k).confined runs frames tagged

    of_counter : (t : ℕ) (f : Frame) (fs : List Frame) → (thread (ready b s) t).frames ≡ f ∷ fs → (thread (ready b s) t).pcc.tag ≡ true → IsUse b.image (ready b s).objects t f.actor (thread (ready b s) t).pcc × IsPcc b.image (thread (ready b s) t).pcc
    of_counter t f fs frames tagged = pcc_used b.image (ready b s) t f fs (ready_keeps b s parts k).confined frames tagged

    accessed : (t : ℕ) (k : Instr) (f : Frame) (fs : List Frame) → (ready b s).running ≡ Some t → (thread (ready b s) t).frames ≡ f ∷ fs → AccessPasses (ready b s) t k → IsUseAt b.image (ready b s).objects t f.actor (authority_of (ready b s) t k) (access_start (ready b s) t k) (access_of k).width (used_right (access_of k))
    accessed t k f fs runs frames passes = access_used b.image (ready b s).objects t f.actor (access_of k) (authority_of (ready b s) t k) (value_of (ready b s) t k) (access_start (ready b s) t k) (width_of k).some
        (of_register t (operands_of k).first f fs runs frames) (all_pass (access_checks (access_of k) (authority_of (ready b s) t k) (value_of (ready b s) t k) (access_start (ready b s) t k)) passes)

    worded : (t : ℕ) (f : Frame) (fs : List Frame) → (ready b s).running ≡ Some t → (thread (ready b s) t).frames ≡ f ∷ fs → first_failed (word_checks b.image (ready b s) (register (thread (ready b s) t) 10)) ≡ None → IsUseAt b.image (ready b s).objects t f.actor (register (thread (ready b s) t) 10) (cap_address (register (thread (ready b s) t) 10)) 4 load_data
    worded t f fs runs frames passes = word_used b.image (ready b s) t f.actor (register (thread (ready b s) t) 10) (of_register t 10 f fs runs frames) (all_pass (word_checks b.image (ready b s) (register (thread (ready b s) t) 10)) passes)

    -- a stack's capability ends no further than the run goes
    in_run : (t n : ℕ) (f : Frame) (fs : List Frame) → (thread (ready b s) t).frames ≡ f ∷ fs → (register (thread (ready b s) t) n).tag ≡ true → stack_cap b.image (register (thread (ready b s) t) n) ≡ true → WithinRun b.image (f ∷ fs) (cap_top (register (thread (ready b s) t) n))
    in_run t n f fs frames tagged is =
        let held : InFrames b.image (ready b s).objects t (f ∷ fs) (register (thread (ready b s) t) n) = subst (λ (gs : List Frame). InFrames b.image (ready b s).objects t gs (register (thread (ready b s) t) n)) frames ((ready_keeps b s parts k).confined.registers t n) in
        ((held tagged).own is).1
