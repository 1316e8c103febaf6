-- What is linked is faultless: it has a spelling, and no check of an image fails.
use Rattle.std.proofs.Common.{ℕ, ◌≡◌, ◌+◌, ◌*◌, ◌^◌, ◌<◌, ◌≤◌, ◌&&◌, Bool, true, false, cond, nat_eq, List, [], ◌∷◌, length, map, drop, sym, ap₂, subst, arith, inl, inr, refl}
use Rattle.std.specs.List.{AllByRecursion}
use Rattle.std.proofs.lemmas.List.{length-map}
use Rattle.std.proofs.lemmas.Bool.{le-leb}
use Rattle.std.specs.Int.{is_in_range}
use Rattle.law_lists.proofs.Alls.{all_so}
use Rattle.law_lists.proofs.Tests.{eq_tells}
use Rattle.ct_entry.specs.Listed.{DeviceRow}
use Rattle.def_texts.specs.Names.{is_name}
use Rattle.def_profile.specs.Versions as version
use Rattle.def_layout.specs.declared.Region.{Region}
use Rattle.def_layout.specs.Placement.{placed, last_end}
use Rattle.def_image.specs.declared.RawEntry.{RawEntry}
use Rattle.def_image.specs.Raw.{RawCode, RawCompartment}
use Rattle.def_image.specs.Parts.{SharedRow as SharedPart, SealedRow as SealedPart, CodeRow as CodePart, CompartmentRow as CompartmentPart, ThreadRow as ThreadPart, PartsRow}
use Rattle.def_image.specs.Spelling.{raw_slot, raw_gate, raw_device, raw_shared, raw_sealed, raw_code, raw_compartment, raw_thread, raw_of, image_bytes}
use Rattle.def_image.specs.Sizes.{sum_of, compartments_at, libraries_at, shared_at, sealed_at, threads_at, compartment_size, library_size, sealed_size}
use Rattle.def_image.specs.declared.format.TheConstants.{SHARED, THREAD}
use Rattle.def_image.specs.Shapes.{IsRawEntry, IsShared, IsSealed, IsCode, IsCompartment, IsThread, IsShaped, Clean, SpellableCode, IsSpellable}
use Rattle.def_image.specs.Regions.{RegionRow, shared_regions, sealed_regions, compartment_regions, library_regions, stack_regions}
use Rattle.def_image.specs.Profile.{last_version}
use Rattle.def_image.specs.Checks.{first}
use Rattle.def_image.specs.Limits as lim
use Rattle.def_image.specs.Limits.{compartment_bounds, library_bounds}
use Rattle.def_image.specs.Accepted.{IsFaultless, IsImage, FaultAt}
use Rattle.law_image.proofs.Limited.{threads_most}
use Rattle.law_image.proofs.Backs.{one_reading}
use Rattle.law_image.proofs.Faults.{no_fault}
use Rattle.def_desc.specs.Rows.{DescThread, DescRow}
use Rattle.def_desc.specs.Lawful.{IsLawful, IsLawfulDevice, IsLawfulThread}
use Rattle.def_link.specs.Linked.{sizes_of, thread_parts, parts_of}
use Rattle.def_link.specs.Links.{RowsLinkTo}
use Rattle.law_link.proofs.Linkeds.{Parts, parts, compartments_good, libraries_good}
use Rattle.law_link.proofs.Granted.{rights_pass}
use Rattle.law_link.proofs.Indexed.{indexes_pass}
use Rattle.law_link.proofs.Orders.{all_to}
use Rattle.law_link.proofs.Lying.{ends, Stretches, stretches, orders, heap_inside, regions_pass}
use Rattle.law_link.proofs.Fields.{name_is, name_is_field, padded}
use Rattle.law_link.proofs.Along.{along_each}
use Rattle.law_link.proofs.Rows.{SlotGood}
use Rattle.law_link.proofs.Slots.{call_small}
use Rattle.law_link.proofs.Owners.{CodeGood, CompartmentGood}
use Rattle.law_link.proofs.Makings.{Numbered, NumberedAfter}
use Rattle.law_link.proofs.Lists.{SharedGood, SealedGood, ThreadGood}
use Rattle.law_link.proofs.Shapes.{slots_entries, slots_spellable, gates_entries, gates_spellable, devices_shaped}
use Rattle.law_link.proofs.Limits.{PartsGood, parts_good, limits_pass}

-- ---- numbers below 2^32

-- where regions end below 2^32
shared_few : (at n high : ℕ) (ss : List SharedPart) → high < 2 ^ 32 → AllByRecursion (λ (r : RegionRow). r.base + r.length ≤ high) (shared_regions at n ss)
    → AllByRecursion SharedGood ss → AllByRecursion IsShared (map raw_shared ss)
shared_few at n high [] small h g = tt
shared_few at n high (s ∷ ss) small h g =
    let top = h.0 in
    ((name_is_field s.name (name_is s.name g.0.named), omega (arith, top, small), omega (arith, top, small)), shared_few (at + SHARED) (n + 1) high ss small h.1 g.1)

sealed_few : (at n high : ℕ) (ss : List SealedPart) → high < 2 ^ 32 → AllByRecursion (λ (r : RegionRow). r.base + r.length ≤ high) (sealed_regions at n ss)
    → AllByRecursion SealedGood ss → AllByRecursion IsSealed (map raw_sealed ss)
sealed_few at n high [] small h g = tt
sealed_few at n high (s ∷ ss) small h g =
    let top = h.0 in
    let seal = g.0.seal.1 in
    let few = g.0.few.1 in (
      (name_is_field s.name (name_is s.name g.0.named), omega (arith, top, small), omega (arith, top, small), omega (arith, seal), (omega (arith, few), g.0.bytes), padded (length s.bytes)),
      sealed_few (at + sealed_size (raw_sealed s)) (n + 1) high ss small h.1 g.1,
    )

code_few : (c : CodePart) (slots : ℕ) → CodeGood c → c.base < 2 ^ 32 → c.length < 2 ^ 32 → length c.slots ≤ slots → slots < 2 ^ 32
    → AllByRecursion SlotGood c.slots → AllByRecursion (λ (e : RawEntry). IsRawEntry e) (map raw_gate c.exports) → IsCode (raw_code c)
code_few c slots h base size few small good gates =
    let text = h.few in
    let exports = h.exports in
    let count : length (map raw_slot c.slots) ≡ length c.slots = length-map c.slots raw_slot in
    let gate_count : length (map raw_gate c.exports) ≡ length c.exports = length-map c.exports raw_gate in
    record {
      name = name_is_field c.name (name_is c.name h.named);
      base = base;
      size = size;
      slots = (omega (arith, count, few, small), slots_entries c.slots good);
      exports = (omega (arith, gate_count, exports), gates);
      text = (omega (arith, text), h.bytes);
    }

compartment_slots_good : (e : ℕ) (c : CompartmentPart) → CompartmentGood e c → AllByRecursion SlotGood c.code.slots
compartment_slots_good e c h = subst (AllByRecursion SlotGood) (sym h.slots) (h.own.head, h.own.each)

compartments_few : (at b high : ℕ) (cs : List CompartmentPart) → high < 2 ^ 32 → AllByRecursion (λ (r : RegionRow). r.base + r.length ≤ high) (compartment_regions at b cs)
    → AllByRecursion (λ c. (before : List RawCompartment) × Numbered before c) cs → AllByRecursion IsCompartment (map raw_compartment cs)
unfolding Numbered
compartments_few at b high [] small h g = tt
compartments_few at b high (c ∷ cs) small h g =
    let top = h.0 in
    let table = h.1.0 in
    let globals = h.1.1.0 in
    let good = g.0.1 in
    let entry = 1 + sum_of lim.raw_compartment_entries g.0.0 in
    let initial = good.initial_few in (
      record {
        code = code_few c.code 148 good.code (omega (arith, top, small)) (omega (arith, top, small)) good.slots_few (omega arith) (compartment_slots_good entry c good)
            (gates_entries compartment_bounds (length c.code.text) c.code.exports (omega arith) good.gates.each);
        table = omega (arith, table, small);
        globals = omega (arith, globals, small);
        size = omega (arith, globals, small);
        initial = (omega (arith, initial), good.initial_bytes);
        padding = padded (length c.initial);
      },
      compartments_few (at + compartment_size (raw_compartment c)) (b + 1) high cs small h.1.1.1 g.1,
    )

libraries_few : (at l high first : ℕ) (ls : List CodePart) → high < 2 ^ 32 → AllByRecursion (λ (r : RegionRow). r.base + r.length ≤ high) (library_regions at l ls)
    → AllByRecursion (λ c. (before : List RawCode) × NumberedAfter first before c) ls → AllByRecursion IsCode (map raw_code ls)
unfolding NumberedAfter
libraries_few at l high first [] small h g = tt
libraries_few at l high first (c ∷ cs) small h g =
    let top = h.0 in
    let good = g.0.1 in (
      code_few c 128 good.code (omega (arith, top, small)) (omega (arith, top, small)) good.few (omega arith) good.slots.each (gates_entries library_bounds (length c.text) c.exports (omega arith) good.gates.each),
      libraries_few (at + library_size (raw_code c)) (l + 1) high first cs small h.1 g.1,
    )

-- a thread enters an export with small numbers
pub record EntersFew (t : ThreadPart) : Type 0 where
  pub compartment : t.compartment ≤ 64
  pub export : t.export ≤ 64

threads_enter : (d : DescRow) → IsLawful d → (regions : List Region) (ts : List DescThread) → AllByRecursion (IsLawfulThread d) ts → AllByRecursion EntersFew (thread_parts d regions ts)
unfolding thread_parts
threads_enter d law regions [] h = tt
threads_enter d law regions (t ∷ ts) h =
    let s = call_small d t.entry law h.0.entry in
    (record { compartment = s.owner_small; export = s.export_small }, threads_enter d law (drop 1 regions) ts h.1)

threads_few : (at n high : ℕ) (ts : List ThreadPart) → high < 2 ^ 32 → AllByRecursion (λ (r : RegionRow). r.base + r.length ≤ high) (stack_regions at n ts)
    → AllByRecursion ThreadGood ts → AllByRecursion EntersFew ts → AllByRecursion IsThread (map raw_thread ts)
threads_few at n high [] small h g e = tt
threads_few at n high (t ∷ ts) small h g e =
    let top = h.0 in
    let a = e.0.compartment in
    let b = e.0.export in
    let priority = g.0.priority in
    let frames = g.0.frames.1 in (
      (name_is_field t.name (name_is t.name g.0.named), omega (arith, top, small), omega (arith, top, small), omega (arith, a), omega (arith, b), omega (arith, priority), omega (arith, frames)),
      threads_few (at + THREAD) (n + 1) high ts small h.1 g.1 e.1,
    )

-- ---- names without a zero

shared_clean : (ss : List SharedPart) → AllByRecursion SharedGood ss → AllByRecursion (λ (s : SharedPart). Clean s.name) ss
shared_clean ss h = all_so SharedGood (λ (s : SharedPart). Clean s.name) ss (λ s g. (name_is s.name g.named).clean) h

sealed_clean : (ss : List SealedPart) → AllByRecursion SealedGood ss → AllByRecursion (λ (s : SealedPart). Clean s.name) ss
sealed_clean ss h = all_so SealedGood (λ (s : SealedPart). Clean s.name) ss (λ s g. (name_is s.name g.named).clean) h

threads_clean : (ts : List ThreadPart) → AllByRecursion ThreadGood ts → AllByRecursion (λ (t : ThreadPart). Clean t.name) ts
threads_clean ts h = all_so ThreadGood (λ (t : ThreadPart). Clean t.name) ts (λ t g. (name_is t.name g.named).clean) h

compartments_clean : (cs : List CompartmentPart) → AllByRecursion (λ c. (before : List RawCompartment) × Numbered before c) cs → AllByRecursion (λ (c : CompartmentPart). SpellableCode c.code) cs
unfolding Numbered
compartments_clean cs h = all_so (λ c. (before : List RawCompartment) × Numbered before c) (λ (c : CompartmentPart). SpellableCode c.code) cs
    (λ c g. record {
      name = (name_is c.code.name g.1.code.named).clean;
      slots = slots_spellable c.code.slots (compartment_slots_good (1 + sum_of lim.raw_compartment_entries g.0) c g.1);
      exports = gates_spellable compartment_bounds (length c.code.text) c.code.exports g.1.gates.each;
    }) h

libraries_clean : (first : ℕ) (ls : List CodePart) → AllByRecursion (λ c. (before : List RawCode) × NumberedAfter first before c) ls → AllByRecursion SpellableCode ls
unfolding NumberedAfter
libraries_clean first ls h = all_so (λ c. (before : List RawCode) × NumberedAfter first before c) SpellableCode ls
    (λ c g. record {
      name = (name_is c.name g.1.code.named).clean;
      slots = slots_spellable c.slots g.1.slots.each;
      exports = gates_spellable library_bounds (length c.text) c.exports g.1.gates.each;
    }) h

-- ---- the whole

-- what else is known of the parts
record Bounded (p : PartsRow) : Type 0 where
  pub version : p.version ≤ 2
  pub rate : p.version ≡ 1 → p.sweep ≡ 64
  pub sweep : p.sweep ≤ 65536
  pub quantum : p.quantum ≤ 1000000
  pub heap : p.heap ≤ p.ram + p.size
  pub bases : AllByRecursion (λ (d : DeviceRow). d.base < 2 ^ 32) p.devices
  pub enters : AllByRecursion EntersFew p.threads

below : (a b : ℕ) → a ≤ b → b < 2 ^ 32 → a < 2 ^ 32
below a b le lt = omega (arith, le, lt)

shaped : (p : PartsRow) → PartsGood p → (s : Stretches p) → Bounded p → IsShaped (raw_of p)
unfolding raw_of
shaped p g s k =
    let r = raw_of p in
    let o = orders p s in
    let end = g.header.end in
    let heap = k.heap in
    let version = k.version in
    let sweep = k.sweep in
    let quantum = k.quantum in
    let trusted_small = below p.trusted p.heap o.o6 (omega (arith, heap, end)) in
    let e5_small = below s.e5 p.trusted o.o5 trusted_small in
    let e4_small = below s.e4 s.e5 o.o4 e5_small in
    let e3_small = below s.e3 s.e4 o.o3 e4_small in
    let e2_small = below s.e2 s.e3 o.o2 e3_small in
    let e1_small = below s.e1 s.e2 o.o1 e2_small in
    let cs = along_each raw_compartment Numbered [] p.compartments g.compartments in
    let first = 1 + sum_of lim.raw_compartment_entries (map raw_compartment p.compartments) in
    let ls = along_each raw_code (NumberedAfter first) [] p.libraries g.libraries in
    let n1 = g.header.devices in
    let n2 = g.header.shared in
    let n3 = g.header.sealed in
    let n4 = g.header.compartments in
    let n5 = g.header.libraries in
    let n6 = g.header.threads in
    let most = threads_most p.version in
    let c1 : length r.devices ≡ length p.devices = length-map p.devices raw_device in
    let c2 : length r.shared ≡ length p.shared = length-map p.shared raw_shared in
    let c3 : length r.sealed ≡ length p.sealed = length-map p.sealed raw_sealed in
    let c4 : length r.compartments ≡ length p.compartments = length-map p.compartments raw_compartment in
    let c5 : length r.libraries ≡ length p.libraries = length-map p.libraries raw_code in
    let c6 : length r.threads ≡ length p.threads = length-map p.threads raw_thread in
    record {
      version = omega (arith, version);
      rate = k.rate;
      sweep = omega (arith, sweep);
      quantum = omega (arith, quantum);
      ram = omega (arith, end);
      size = omega (arith, end);
      trusted = trusted_small;
      heap = omega (arith, heap, end);
      name = name_is_field p.name (name_is p.name g.header.named);
      devices = (omega (arith, n1, c1), devices_shaped p.devices g.device_names k.bases);
      shared = (omega (arith, n2, c2), shared_few (shared_at r) 0 s.e3 p.shared e3_small (all_to s.e2 s.e3 (shared_regions (shared_at r) 0 p.shared) s.shared) g.shared);
      sealed = (omega (arith, n3, c3), sealed_few (sealed_at r) 0 s.e4 p.sealed e4_small (all_to s.e3 s.e4 (sealed_regions (sealed_at r) 0 p.sealed) s.sealed) g.sealed);
      compartments = (omega (arith, n4, c4), compartments_few (compartments_at r) 0 s.e1 p.compartments e1_small (all_to p.ram s.e1 (compartment_regions (compartments_at r) 0 p.compartments) s.compartments) cs);
      libraries = (omega (arith, n5, c5), libraries_few (libraries_at r) 0 s.e2 first p.libraries e2_small (all_to s.e1 s.e2 (library_regions (libraries_at r) 0 p.libraries) s.libraries) ls);
      threads = (omega (arith, n6, c6, most), threads_few (threads_at r) 0 s.e5 p.threads e5_small (all_to s.e4 s.e5 (stack_regions (threads_at r) 0 p.threads) s.stacks) g.threads k.enters);
    }

spellable : (p : PartsRow) → PartsGood p → (s : Stretches p) → Bounded p → IsSpellable p
spellable p g s k =
    let first = 1 + sum_of lim.raw_compartment_entries (map raw_compartment p.compartments) in
    record {
      shaped = shaped p g s k;
      name = (name_is p.name g.header.named).clean;
      devices = all_so (λ (d : DeviceRow). is_name d.name ≡ true) (λ (d : DeviceRow). Clean d.name) p.devices (λ d h. (name_is d.name h).clean) g.device_names;
      shared = shared_clean p.shared g.shared;
      sealed = sealed_clean p.sealed g.sealed;
      compartments = compartments_clean p.compartments (along_each raw_compartment Numbered [] p.compartments g.compartments);
      libraries = libraries_clean first p.libraries (along_each raw_code (NumberedAfter first) [] p.libraries g.libraries);
      threads = threads_clean p.threads g.threads;
    }

-- version 1 has one sweep rate
rate_is : (v n : ℕ) → version.least_sweep v ≤ n → n ≤ version.most_sweep v → v ≡ 1 → n ≡ 64
rate_is v n low high is = by (nat_eq v 1) one low high
  where
    one : nat_eq v 1 ≡ true
    one = elim (eq_tells v 1) [ inl h ↦ h.0 | inr h ↦ absurd (h.1 is) ]

    by : (b : Bool) → b ≡ true → cond b 64 1 ≤ n → n ≤ cond b 64 65536 → n ≡ 64
    by true t a b = omega (arith, a, b)
    by false t a b = absurd (let no : false ≡ true = t in cc)

rate_most : (v n : ℕ) → n ≤ version.most_sweep v → n ≤ 65536
rate_most v n = by (nat_eq v 1)
  where
    by : (b : Bool) → n ≤ cond b 64 65536 → n ≤ 65536
    by true le = omega (arith, le)
    by false le = le

bounded : (d : DescRow) (p : PartsRow) (law : IsLawful d) (s : Parts d p) → Bounded (parts_of d s.cs s.ls (placed d.ram.base (sizes_of d s.cs s.ls)) (last_end d.ram.base (sizes_of d s.cs s.ls)))
unfolding parts_of
bounded d p law s =
    let all = placed d.ram.base (sizes_of d s.cs s.ls) in
    let x = stretches d s.cs s.ls law (compartments_good d p law.compartment s) (libraries_good d p law.library s) (ends d s.cs s.ls) in
    record {
      version = law.version.1;
      rate = rate_is d.version d.sweep law.sweep.0 law.sweep.1;
      sweep = rate_most d.version d.sweep law.sweep.1;
      quantum = law.quantum.1;
      heap = heap_inside d p s x;
      bases = all_so (IsLawfulDevice d.ram) (λ (v : DeviceRow). v.base < 2 ^ 32) d.devices (λ v h. h.base) law.device;
      enters = threads_enter d law (drop (3 * length s.cs + length s.ls + length d.shared + length d.sealed) all) d.threads law.thread;
    }

pub spellable_parts : (d : DescRow) (sources : List (List ℕ)) (p : PartsRow) → RowsLinkTo d sources p → IsSpellable p
spellable_parts d sources p h =
    let s = parts d sources p h.linked in
    let law = h.lawful in
    let cs = compartments_good d p law.compartment s in
    let ls = libraries_good d p law.library s in
    let e = ends d s.cs s.ls in
    let q = parts_of d s.cs s.ls (placed d.ram.base (sizes_of d s.cs s.ls)) (last_end d.ram.base (sizes_of d s.cs s.ls)) in
    subst IsSpellable (sym s.parts) (spellable q (parts_good d s.cs s.ls law s.rows s.library_rows cs ls e) (stretches d s.cs s.ls law cs ls e) (bounded d p law s))

version_taken : (d : DescRow) (sources : List (List ℕ)) (p : PartsRow) → RowsLinkTo d sources p → is_in_range 1 last_version p.version ≡ true
unfolding parts_of
version_taken d sources p h =
    let s = parts d sources p h.linked in
    let v = h.lawful.version in
    subst (λ (q : PartsRow). is_in_range 1 last_version q.version ≡ true) (sym s.parts) (ap₂ (λ a b. a && b) (le-leb 1 d.version v.0) (le-leb d.version last_version v.1))

pub faultless : (d : DescRow) (sources : List (List ℕ)) (p : PartsRow) → RowsLinkTo d sources p → IsFaultless p
faultless d sources p h = record {
  spellable = spellable_parts d sources p h;
  version = version_taken d sources p h;
  limits = limits_pass d sources p h;
  regions = regions_pass d sources p h;
  indexes = indexes_pass d sources p h;
  rights = rights_pass d sources p h;
}

-- ---- what is written

pub written : (d : DescRow) (sources : List (List ℕ)) (p : PartsRow) → RowsLinkTo d sources p → IsImage (image_bytes p) p
written d sources p h = (faultless d sources p h, refl)

pub alone : (d : DescRow) (sources : List (List ℕ)) (p q : PartsRow) → RowsLinkTo d sources p → IsImage (image_bytes p) q → q ≡ p
alone d sources p q h i = one_reading q p i.0.spellable (spellable_parts d sources p h) (sym i.1)

pub no_fault_written : (d : DescRow) (sources : List (List ℕ)) (p : PartsRow) (number place : ℕ) → RowsLinkTo d sources p → FaultAt (image_bytes p) number place → ⊥
no_fault_written d sources p number place h f = no_fault (image_bytes p) p number place (written d sources p h) f
