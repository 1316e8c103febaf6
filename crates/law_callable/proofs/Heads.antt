-- The head of an export's table: it isn't hidden, and stands as boot made it.
use Rattle.std.proofs.Common.{ℕ, ◌≡◌, ◌+◌, ◌-◌, ◌*◌, ◌/◌, ◌%◌, ◌≤◌, ◌<◌, inl, inr, false, List, length, refl, sym, ap, ◌∙◌, arith, subst, true}
use Rattle.std.proofs.lemmas.Option.{slice_get_within}
use Rattle.law_lists.proofs.Tests.{le_tells, bool_tells}
use Rattle.law_lists.proofs.Places.{present}
use Rattle.ct_entry.specs.Listed.{Listed}
use Rattle.def_words.specs.declared.Cap.{Cap}
use Rattle.def_memory.specs.declared.Granule.{Granule}
use Rattle.def_memory.specs.Granules.{cap_in, plain}
use Rattle.def_reach.specs.Roots.{Root, compartment_of}
use Rattle.def_image.specs.Parts.{PartsRow}
use Rattle.def_image.specs.Members.{code_number, globals_number}
use Rattle.def_image.specs.Regions.{table_size, table_length}
use Rattle.def_image.specs.Sound.{Sound}
use Rattle.def_boot.specs.Boot.{image_of, boot_state}
use Rattle.def_boot.specs.Gates.{entries_of}
use Rattle.def_boot.specs.Made.{boot_cap_of}
use Rattle.def_machine.specs.Image.{made_cap, code_entry, globals_entry, Fixed, booted, address_of}
use Rattle.def_machine.specs.State.{State, granule}
use Rattle.def_confined.specs.Confined.{Confined}
use Rattle.law_boot.proofs.Standing as standing
use Rattle.law_boot.proofs.Putting.{puts_code, puts_globals}
use Rattle.def_boot.specs.Fits.{ExportAt}
use Rattle.law_boot.proofs.Lying.{own_there}
use Rattle.law_boot.proofs.Own.{code_stands, globals_stand, code_entry_is, globals_entry_is}
use Rattle.ct_switch.specs.Exports.{IsCallable, callee_of, table_of}
use Rattle.ct_engine.specs.declared.rows.Region.{Region}
use Rattle.ct_engine.specs.Seen.{EngineRow, region_hides, hides, region_of, area_at}
use Rattle.ct_engine.specs.Calls.{IsEnterable, HeadStands, head_at}
use Rattle.ct_boot.specs.Placed.{IsPlaced}
use Rattle.ct_boot.proofs.Placing.{heap_is, ram_is}
use Rattle.law_callable.proofs.Rows.{table_is, callable}
use Rattle.law_layout.proofs.Placing.{size_fits}
use Rattle.law_started.proofs.Grants.{sentry_is}
use Rattle.def_boot.specs.Contents.{boot_cap, granules_in}
use Rattle.def_machine.specs.Image as image
use Rattle.def_confined.specs.Places.{InRegion}
use Rattle.def_boot.specs.Booting.{BootPuts}
use Rattle.law_boot.proofs.Contents.{booted_in}
use Rattle.law_boot.proofs.Granules.{in_ram}
use Rattle.law_started.proofs.Granules.{same_granule}
use Rattle.law_started.proofs.Tags.{tagged_fixed}
use Rattle.ct_boot.proofs.Launched.{region_clear}

-- ---- what boot puts at an address: it is open to an engine of the image's region, and stands in each confined state

-- the granule with this number is one of RAM, begins there, and holds this at boot
record PutsIn (p : PartsRow) (k x : ℕ) (d : Cap) : Type 0 where
  few : k < granules_in p
  place : address_of (image_of p) k ≡ x
  is : (booted (image_of p) k).cap ≡ d

puts_in : (p : PartsRow) (x : ℕ) (d : Cap) → Sound p → BootPuts p x d → PutsIn p ((x - p.ram) / 8) x d
puts_in p x d s puts =
    let k : ℕ = (x - p.ram) / 8 in
    let low = puts.low in
    let high = puts.high in
    let even = puts.even in
    let base = s.ram.base in
    let size = s.ram.size in
    let here : p.ram + 8 * k ≡ x = omega (arith, low, even, base) in
    let few : k < granules_in p = omega (arith, low, high, even, base, size) in
    let place : address_of (image_of p) k ≡ x = ap (λ n. n + 8 * k) (sym (ram_is p)) ∙ here in
    record { few = few; place = place; is = booted_in p k few ∙ ap (λ n. boot_cap p n) place ∙ sym puts.is }

module _ (p : PartsRow) (x : ℕ) (d : Cap) (s : Sound p) (puts : BootPuts p x d) (tagged : d.tag ≡ true) where
  -- what is tagged isn't hidden
  open_at : region_hides (region_of (image_of p)) ((x - p.ram) / 8) ≡ false
  open_at = elim (bool_tells (region_hides (region_of (image_of p)) ((x - p.ram) / 8))) [
    | inl hidden ↦
        let k : ℕ = (x - p.ram) / 8 in
        let zero_it : cap_in (boot_state p).granules k ≡ plain 0 = region_clear p s k hidden in
        let stands : cap_in (boot_state p).granules k ≡ d = ap (λ (g : Granule). g.cap) (same_granule p s k) ∙ (puts_in p x d s puts).is in
        absurd (let clash : true ≡ false = sym tagged ∙ ap (λ (c : Cap). c.tag) (sym stands ∙ zero_it) in cc)
    | inr open_ ↦ open_
  ]

  -- and no event changes it
  stands_at : (m : State) → Confined (image_of p) m → cap_in m.granules ((x - p.ram) / 8) ≡ d
  stands_at m confined =
      let k : ℕ = (x - p.ram) / 8 in
      let at = puts_in p x d s puts in
      let there : boot_cap p (address_of (image_of p) k) ≡ d = ap (λ n. boot_cap p n) at.place ∙ sym puts.is in
      let fixed : image.region (image_of p) k ≡ Fixed = in_ram p k at.few ∙ tagged_fixed p (address_of (image_of p) k) (ap (λ (c : Cap). c.tag) there ∙ tagged) in
      let stays : (granule m k).cap ≡ (booted (image_of p) k).cap = subst (λ r. InRegion (image_of p) m k r (granule m k)) fixed (confined.granules k) in
      stays ∙ at.is

-- ---- the head of a table

pub entries_are : (p : PartsRow) → (image_of p).entries ≡ entries_of p
unfolding image_of
entries_are p = refl

made_is : (p : PartsRow) (k : ℕ) → made_cap (image_of p) k ≡ boot_cap_of p k
unfolding image_of
made_is p k = refl

-- in more RAM as much can be called
wider : (e : Listed) (ram size more n : ℕ) → size ≤ more → IsCallable e ram size n → IsCallable e ram more n
wider e ram size more n le may = record {
  counted = may.counted;
  export = may.export;
  together = may.together;
  head = record { low = may.head.low; even = may.head.even; high = (let high = may.head.high in omega (arith, high, le)) };
}

-- what lies below the heap isn't hidden by it
below_seen : (s : EngineRow) (k : ℕ) → region_hides s.region k ≡ false → s.region.ram + 8 * k < s.heap_base → hides s k ≡ false
below_seen s k open_ below = elim (le_tells s.heap_base (s.region.ram + 8 * k)) [
  | inl above ↦ absurd (let le = above.1 in omega (arith, le, below))
  | inr under ↦ rw (open_, under.0) refl
]

module _ (p : PartsRow) (n : ℕ) (s : Sound p) (x : ExportAt p n) where
  pub callee_is : callee_of (entries_of p) n ≡ x.index
  callee_is = ap (λ (r : Root). compartment_of r.owner) x.row.root_is

  -- where the table begins
  table_there : table_of (entries_of p) (callee_of (entries_of p) n) ≡ x.compartment.table
  table_there =
      let has = standing.compartment_of p x.index x.compartment x.owner in
      let most = slice_get_within x.compartment.code.exports x.which x.export x.there in
      let one = present x.compartment.code.exports 0 (omega (arith, most)) in
      ap (λ c. table_of (entries_of p) c) callee_is ∙ table_is p x.index x.compartment one.0 has one.1

  second : (x.compartment.table + 8 - p.ram) / 8 ≡ (x.compartment.table - p.ram) / 8 + 1
  second = let low = (puts_code p s x.index x.compartment x.owner).low in omega (arith, low)

  module _ (v : EngineRow) (region : v.region ≡ region_of (image_of p)) where
    ram_there : v.region.ram ≡ p.ram
    ram_there = ap (λ (g : Region). g.ram) region ∙ sym (ram_is p)

    head_is : head_at v (entries_of p) n ≡ (x.compartment.table - p.ram) / 8
    head_is = ap (λ k. (k - v.region.ram) / 8) table_there ∙ ap (λ k. (x.compartment.table - k) / 8) ram_there

    shown : (k j : ℕ) → k ≡ j → region_hides (region_of (image_of p)) j ≡ false → region_hides v.region k ≡ false
    shown k j same open_ = ap (λ k. region_hides v.region k) same ∙ ap (λ (g : Region). region_hides g j) region ∙ open_

    -- both of its granules lie below the heap
    under_heap : v.region.ram + 8 * (head_at v (image_of p).entries n + 1) < p.heap
    under_heap =
        let lies = (own_there p s x.index x.compartment x.owner).table in
        let low = lies.low in
        let even = lies.even in
        let high = lies.high in
        let long = size_fits (table_size x.compartment.code) in
        let base = s.ram.base in
        let ram = ram_there in
        let head = head_is in
        subst (λ (e : Listed). v.region.ram + 8 * (head_at v e n + 1) < p.heap) (sym (entries_are p))
        (below x.compartment.table (table_length x.compartment) p.ram v.region.ram (head_at v (entries_of p) n) p.heap head ram (omega (arith, even, base)) low (omega (arith, long)) high)
      where
        below : (table size ram own head heap : ℕ) → head ≡ (table - ram) / 8 → own ≡ ram → (table - ram) % 8 ≡ 0 → ram ≤ table → 16 ≤ size → table + size ≤ heap → own + 8 * (head + 1) < heap
        below table size ram own head heap is same even low long high = omega (arith, is, same, even, low, long, high)

    -- an export that a call import names is open to an engine of the image's region and heap, in RAM of the image's size
    pub enterable : p.size ≤ 8 * length v.state.granules → (image_of p).heap_base ≡ v.heap_base → IsEnterable v (image_of p).entries n
    enterable size heap =
        let may : IsCallable (entries_of p) p.ram (8 * length v.state.granules) n = wider (entries_of p) p.ram p.size (8 * length v.state.granules) n size (callable p n s x) in
        let code = open_at p x.compartment.table _ s (puts_code p s x.index x.compartment x.owner) (code_stands p s x.index x.compartment x.owner).made.tagged in
        let globals = open_at p (x.compartment.table + 8) _ s (puts_globals p s x.index x.compartment x.owner) (globals_stand p s x.index x.compartment x.owner).made.tagged in
        let under : v.region.ram + 8 * (head_at v (entries_of p) n + 1) < v.heap_base =
        subst (λ (e : Listed). v.region.ram + 8 * (head_at v e n + 1) < v.heap_base) (entries_are p) (let below = under_heap in let base = heap_is p in omega (arith, below, base, heap)) in
        subst (λ (e : Listed). IsEnterable v e n) (sym (entries_are p)) (record {
          callable = subst (λ k. IsCallable (entries_of p) k (8 * length v.state.granules) n) (sym ram_there) may;
          code = below_seen v (head_at v (entries_of p) n) (shown (head_at v (entries_of p) n) ((x.compartment.table - p.ram) / 8) head_is code) (omega (arith, under));
          globals = below_seen v (head_at v (entries_of p) n + 1) (shown (head_at v (entries_of p) n + 1) ((x.compartment.table + 8 - p.ram) / 8) (ap (λ k. k + 1) head_is ∙ sym second) globals) under;
        })

    -- ---- in a confined state whose RAM it shows

    abbrev Stand : Listed → Type 0
    Stand e =
        (cap_in v.state.granules (head_at v e n) ≡ made_cap (image_of p) (code_entry (image_of p) (callee_of e n)))
        × (cap_in v.state.granules (head_at v e n + 1) ≡ made_cap (image_of p) (globals_entry (image_of p) (callee_of e n)))

    code_is : made_cap (image_of p) (code_entry (image_of p) (callee_of (entries_of p) n)) ≡ boot_cap_of p (code_number p x.index)
    code_is =
        ap (λ b. made_cap (image_of p) (code_entry (image_of p) b)) callee_is
        ∙ ap (λ k. made_cap (image_of p) k) (code_entry_is p x.index (slice_get_within p.compartments x.index x.compartment x.owner))
        ∙ made_is p (code_number p x.index)

    globals_are : made_cap (image_of p) (globals_entry (image_of p) (callee_of (entries_of p) n)) ≡ boot_cap_of p (globals_number p x.index)
    globals_are =
        ap (λ b. made_cap (image_of p) (globals_entry (image_of p) b)) callee_is
        ∙ ap (λ k. made_cap (image_of p) k) (globals_entry_is p x.index (slice_get_within p.compartments x.index x.compartment x.owner))
        ∙ made_is p (globals_number p x.index)

    module _ (m : State) (confined : Confined (image_of p) m) (granules : v.state.granules ≡ m.granules) where
      standing_there : (k at : ℕ) (d : Cap) → k ≡ at → cap_in m.granules at ≡ d → cap_in v.state.granules k ≡ d
      standing_there k at d same there = ap (λ (gs : List Granule). cap_in gs k) granules ∙ ap (λ j. cap_in m.granules j) same ∙ there

      both_stand : Stand (entries_of p)
      both_stand =
          let code = stands_at p x.compartment.table (boot_cap_of p (code_number p x.index)) s (puts_code p s x.index x.compartment x.owner) (code_stands p s x.index x.compartment x.owner).made.tagged m confined in
          let globals =
          stands_at p (x.compartment.table + 8) (boot_cap_of p (globals_number p x.index)) s (puts_globals p s x.index x.compartment x.owner) (globals_stand p s x.index x.compartment x.owner).made.tagged m confined in (
            standing_there (head_at v (entries_of p) n) ((x.compartment.table - p.ram) / 8) (boot_cap_of p (code_number p x.index)) head_is code ∙ sym code_is,
            standing_there (head_at v (entries_of p) n + 1) ((x.compartment.table + 8 - p.ram) / 8) (boot_cap_of p (globals_number p x.index)) (ap (λ k. k + 1) head_is ∙ sym second) globals ∙ sym globals_are,
          )

      pub export_stands : (size t : ℕ) → IsPlaced (image_of p) size t (area_at v t) → HeadStands (image_of p) v t n
      export_stands size t placed =
          let both : Stand (image_of p).entries = subst (λ (e : Listed). Stand e) (sym (entries_are p)) both_stand in
          record { code = both.0; globals = both.1; back = sentry_is p; stack = sym placed.base_is }
