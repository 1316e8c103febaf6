-- Which granules and which registers are tagged at boot.
use Rattle.std.proofs.Common.{ap₂, ℕ, zero, suc, ◌≡◌, ◌+◌, ◌-◌, ◌*◌, ◌/◌, ◌%◌, ◌≤◌, ◌<◌, ◌⊎◌, ◌↔◌, inl, inr, Bool, true, false, cond, nat_lt, nat_eq, [], ◌∷◌, length, Option, Some, None, slice_get, slice_index_or, refl, sym, ap, ◌∙◌, arith}
use Rattle.std.proofs.lemmas.Option.{slice_get_within}
use Rattle.std.proofs.lemmas.Bool.{ltb-true, eqb-true}
use Rattle.law_lists.proofs.Tests.{lt_tells}
use Rattle.law_lists.proofs.Places.{present}
use Rattle.ct_entry.specs.declared.rows.Gate.{Gate}
use Rattle.ct_entry.specs.declared.rows.Kind.TheVariants as kind
use Rattle.ct_entry.specs.declared.rows.Owner.TheVariants.{Trusted, Compartment, Library, Thread}
use Rattle.def_profile.specs.declared.layout.TheConstants.{SLOT_SIZE, GRANULE, TABLE_HEAD, TABLE_ROW}
use Rattle.def_words.specs.declared.Cap.{Cap}
use Rattle.def_words.specs.Capability.{with_address}
use Rattle.def_reach.specs.Roots.{Root, Listing}
use Rattle.def_confined.specs.Facts.{gate_code}
use Rattle.def_memory.specs.declared.Granule.{Granule}
use Rattle.def_memory.specs.Granules.{plain}
use Rattle.def_machine.specs.Image.{address_of, booted, code_entry, made_cap, root}
use Rattle.def_machine.specs.State.{granule, thread, register}
use Rattle.def_machine.specs.State as st
use Rattle.def_image.specs.Parts.{CodeRow, CompartmentRow, ThreadRow, PartsRow}
use Rattle.def_image.specs.Members.{compartment, library, code_number, gate_address, globals_number, library_number, text_base}
use Rattle.def_image.specs.Regions.{Holder, CodeOf, TableOf, GlobalsOf, SharedOf, SealedOf, StackOf, TrustedPart, RegionRow}
use Rattle.def_image.specs.Sound.{Sound}
use Rattle.def_boot.specs.Contents.{boot_cap, code_content, content, content_at, gate_word, granules_in, region_at, table_content, word_from_bytes}
use Rattle.def_boot.specs.Made.{boot_cap_of, return_sentry}
use Rattle.def_boot.specs.Boot.{image_of, boot_state, entered_export, thread_entry_address, entry_number, first_pcc, first_registers, offset_of}
use Rattle.def_boot.specs.Entries.{export_row}
use Rattle.def_boot.specs.Gates.{entries_of, gate}
use Rattle.def_boot.specs.Places.{IsSlot, IsTableHead, HoldsTag}
use Rattle.def_boot.specs.Rows.{HasCompartment, HasRow}
use Rattle.law_boot.proofs.Standing.{compartment_of}
use Rattle.def_boot.specs.Held.{IsOf}
use Rattle.law_boot.proofs.Lists.{held}
use Rattle.law_boot.proofs.Found.{back}
use Rattle.law_moves.proofs.Places.{all_of}
use Rattle.law_boot.proofs.Sets.{no_way}
use Rattle.law_boot.proofs.Holding.{holds}
use Rattle.law_boot.proofs.Making.{sentry_made}
use Rattle.law_boot.proofs.Own.{code_entry_is, code_stands, globals_stand, slots_stand, library_slots_stand, stacks_stand}
use Rattle.law_boot.proofs.Contents.{booted_in}
use Rattle.def_boot.specs.Booting.{BootPuts}
use Rattle.law_boot.proofs.Putting.{puts_slot, puts_library_slot, puts_code, puts_globals, puts_sentry}
use Rattle.law_started.proofs.Granules.{same_granule, past_none}
use Rattle.law_started.proofs.Threads.{of_thread}
use Rattle.law_started.proofs.Entries.{granule_holds}
use Rattle.law_started.proofs.Starting.{thread_starts}
use Rattle.law_image.proofs.Sounds.{compartment_is, library_is}

-- ---- what a region holds

-- of two, of which the second is untagged, the first is there; and of three
first_there : (b : Bool) (c d : Cap) → (cond b c d).tag ≡ true → d.tag ≡ false → b ≡ true
first_there true c d tagged none = refl
first_there false c d tagged none = no_way (sym none ∙ tagged)

one_there : (a b : Bool) (c d e : Cap) → (cond a c (cond b d e)).tag ≡ true → e.tag ≡ false → (a ≡ true) ⊎ (b ≡ true)
one_there true b c d e tagged none = inl refl
one_there false b c d e tagged none = inr (first_there b d e tagged none)

-- of an owner's code a slot is tagged, and no word of its text
slot_there : (p : PartsRow) (first : ℕ) (c : CodeRow) (x base : ℕ) → base ≡ c.base → base ≤ x → (x - base) % 8 ≡ 0 → (code_content p first c (x - base)).tag ≡ true → IsSlot c x
slot_there p first c x base starts low unit tagged =
    let few : x - base < SLOT_SIZE * length c.slots = ltb-true (x - base) (SLOT_SIZE * length c.slots)
    (first_there (nat_lt (x - base) (SLOT_SIZE * length c.slots)) (boot_cap_of p (first + (x - base) / SLOT_SIZE)) (plain (word_from_bytes c.text (x - base - SLOT_SIZE * length c.slots))) tagged refl) in
    ((x - base) / 8, omega (arith, few), omega (arith, starts, low, unit))

-- of an export table the head's two granules are
head_there : (p : PartsRow) (b : ℕ) (c : CompartmentRow) (x base : ℕ) → base ≡ c.table → base ≤ x → (table_content p b (x - base)).tag ≡ true → IsTableHead c x
head_there p b c x base starts low tagged = elim (one_there (nat_eq (x - base) 0) (nat_eq (x - base) GRANULE) (boot_cap_of p (code_number p b)) (boot_cap_of p (globals_number p b))
    (plain (gate_word (slice_get (compartment p b).code.exports ((x - base - TABLE_HEAD) / TABLE_ROW)) ((x - base - TABLE_HEAD) % TABLE_ROW))) tagged refl) [
      | inl first ↦ let none : x - base ≡ 0 = eqb-true (x - base) 0 first in inl (omega (arith, starts, low, none))
      | inr second ↦ let one : x - base ≡ GRANULE = eqb-true (x - base) GRANULE second in inr (omega (arith, starts, low, one))
    ]

trusted_there : (x base : ℕ) → base ≤ x → (cond (nat_eq (x - base) 0) return_sentry (plain 0)).tag ≡ true → x ≡ base
trusted_there x base low tagged =
    let none : x - base ≡ 0 = eqb-true (x - base) 0 (first_there (nat_eq (x - base) 0) return_sentry (plain 0) tagged refl) in
    omega (arith, low, none)

holder_tags : (p : PartsRow) (r : RegionRow) (h : Holder) (x : ℕ) → IsOf p r h → r.base ≤ x → (x - r.base) % 8 ≡ 0 → (content p h (x - r.base)).tag ≡ true → HoldsTag p x
holder_tags p r (CodeOf (Compartment b)) x is low unit tagged =
    let same : compartment p b ≡ is.0 = compartment_is p b is.0 is.1 in
    inl (b, is.0, is.1, inl (slot_there p (code_number p b + 2) is.0.code x r.base is.2.base_is low unit (ap (λ (c : CompartmentRow). (code_content p (code_number p b + 2) c.code (x - r.base)).tag) (sym same) ∙ tagged)))
holder_tags p r (CodeOf (Library l)) x is low unit tagged =
    let same : library p l ≡ is.0 = library_is p l is.0 is.1 in
    inr (inl (l, is.0, is.1, slot_there p (library_number p l + 1) is.0 x r.base is.2.base_is low unit (ap (λ (c : CodeRow). (code_content p (library_number p l + 1) c (x - r.base)).tag) (sym same) ∙ tagged)))
holder_tags p r (CodeOf Trusted) x is low unit tagged = no_way tagged
holder_tags p r (CodeOf (Thread t)) x is low unit tagged = no_way tagged
holder_tags p r (TableOf b) x is low unit tagged = inl (b, is.0, is.1, inr (head_there p b is.0 x r.base is.2.base_is low tagged))
holder_tags p r (GlobalsOf b) x is low unit tagged = no_way tagged
holder_tags p r (SharedOf n) x is low unit tagged = no_way tagged
holder_tags p r (SealedOf n) x is low unit tagged = no_way tagged
holder_tags p r (StackOf t) x is low unit tagged = no_way tagged
holder_tags p r TrustedPart x is low unit tagged = inr (inr (trusted_there x r.base low tagged ∙ is.base_is))

module _ (p : PartsRow) (s : Sound p) where
  -- ---- granules

  found_tags : (k : ℕ) (o : Option RegionRow) → region_at p (address_of (image_of p) k) ≡ o → (content_at p o (address_of (image_of p) k)).tag ≡ true → HoldsTag p (address_of (image_of p) k)
  unfolding image_of
  found_tags k None is tagged = no_way tagged
  found_tags k (Some r) is tagged =
      let lying = back p (p.ram + 8 * k) r is in
      let even = (s.laid.each lying.index r lying.there).even in
      let ram = s.ram.base in
      let low = lying.lies.0 in
      holder_tags p r r.holder (p.ram + 8 * k) (held p lying.index r lying.there) low (omega (arith, even, ram, low)) tagged

  boot_tags : (k : ℕ) → (boot_cap p (address_of (image_of p) k)).tag ≡ true → HoldsTag p (address_of (image_of p) k)
  unfolding boot_cap
  boot_tags k tagged = found_tags k (region_at p (address_of (image_of p) k)) refl tagged

  tags_hold : (k : ℕ) → (booted (image_of p) k).cap.tag ≡ true → HoldsTag p (address_of (image_of p) k)
  tags_hold k tagged = elim (lt_tells k (granules_in p)) [
    | inl lt ↦ boot_tags k (ap (λ (c : Cap). c.tag) (sym (booted_in p k lt.1)) ∙ tagged)
    | inr past ↦ no_way (ap (λ (g : Granule). g.cap.tag) (sym (past_none p s k past.1)) ∙ tagged)
  ]

  puts_tag : (k x : ℕ) (c : Cap) → BootPuts p x c → c.tag ≡ true → address_of (image_of p) k ≡ x → (granule (boot_state p) k).cap.tag ≡ true
  puts_tag k x c h tagged at = ap (λ (z : Cap). z.tag) (granule_holds p s k x c h at) ∙ tagged

  slot_tags : (k b : ℕ) (c : CompartmentRow) → slice_get p.compartments b ≡ Some c → IsSlot c.code (address_of (image_of p) k) → (granule (boot_state p) k).cap.tag ≡ true
  slot_tags k b c is h =
      let slot = present c.code.slots h.0 h.1 in
      puts_tag k (c.code.base + SLOT_SIZE * h.0) _ (puts_slot p s b h.0 c slot.0 is slot.1) (slots_stand p s b c h.0 slot.0 is slot.1).made.tagged h.2

  head_tags : (k b : ℕ) (c : CompartmentRow) → slice_get p.compartments b ≡ Some c → IsTableHead c (address_of (image_of p) k) → (granule (boot_state p) k).cap.tag ≡ true
  head_tags k b c is (inl at) = puts_tag k c.table _ (puts_code p s b c is) (code_stands p s b c is).made.tagged at
  head_tags k b c is (inr at) = puts_tag k (c.table + GRANULE) _ (puts_globals p s b c is) (globals_stand p s b c is).made.tagged at

  own_tags : (k b : ℕ) (c : CompartmentRow) → slice_get p.compartments b ≡ Some c → IsSlot c.code (address_of (image_of p) k) ⊎ IsTableHead c (address_of (image_of p) k) → (granule (boot_state p) k).cap.tag ≡ true
  own_tags k b c is (inl slot) = slot_tags k b c is slot
  own_tags k b c is (inr head) = head_tags k b c is head

  library_tags : (k l : ℕ) (c : CodeRow) → slice_get p.libraries l ≡ Some c → IsSlot c (address_of (image_of p) k) → (granule (boot_state p) k).cap.tag ≡ true
  library_tags k l c is h =
      let slot = present c.slots h.0 h.1 in
      puts_tag k (c.base + SLOT_SIZE * h.0) _ (puts_library_slot p s l h.0 c slot.0 is slot.1) (library_slots_stand p s l c h.0 slot.0 is slot.1).made.tagged h.2

  hold_tags : (k : ℕ) → HoldsTag p (address_of (image_of p) k) → (granule (boot_state p) k).cap.tag ≡ true
  hold_tags k (inl h) = own_tags k h.0 h.1 h.2 h.3
  hold_tags k (inr (inl h)) = library_tags k h.0 h.1 h.2 h.3
  hold_tags k (inr (inr at)) = puts_tag k p.trusted return_sentry (puts_sentry p s) sentry_made.made.tagged at

  pub granule_tags : (k : ℕ) → ((granule (boot_state p) k).cap.tag ≡ true) ↔ HoldsTag p (address_of (image_of p) k)
  granule_tags k = (λ tagged. tags_hold k (ap (λ (g : Granule). g.cap.tag) (sym (same_granule p s k)) ∙ tagged), hold_tags k)

  -- ---- registers

  abbrev IsGiven : ℕ → Type 0
  IsGiven n = (n ≡ 1) ⊎ (n ≡ 2) ⊎ (n ≡ 3)

  rest_untagged : (n : ℕ) → (slice_index_or (plain 0 ∷ plain 0 ∷ plain 0 ∷ plain 0 ∷ plain 0 ∷ plain 0 ∷ plain 0 ∷ plain 0 ∷ plain 0 ∷ plain 0 ∷ plain 0 ∷ plain 0 ∷ []) n (plain 0)).tag ≡ false
  rest_untagged n = all_of (λ (c : Cap). c.tag ≡ false) (plain 0 ∷ plain 0 ∷ plain 0 ∷ plain 0 ∷ plain 0 ∷ plain 0 ∷ plain 0 ∷ plain 0 ∷ plain 0 ∷ plain 0 ∷ plain 0 ∷ plain 0 ∷ []) (plain 0) refl
      (refl, (refl, (refl, (refl, (refl, (refl, (refl, (refl, (refl, (refl, (refl, (refl, tt)))))))))))) n

  given : (t : ℕ) (x : ThreadRow) (n : ℕ) → (slice_index_or (first_registers p t x) n (plain 0)).tag ≡ true → IsGiven n
  given t x zero tagged = no_way tagged
  given t x (suc zero) tagged = inl refl
  given t x (suc (suc zero)) tagged = inr (inl refl)
  given t x (suc (suc (suc zero))) tagged = inr (inr refl)
  given t x (suc (suc (suc (suc n)))) tagged = no_way (sym (rest_untagged n) ∙ tagged)

  registers_given : (t n : ℕ) → (register (thread (boot_state p) t) n).tag ≡ true → (t < length p.threads) × IsGiven n
  registers_given t n = of_thread p (λ th. (register th n).tag ≡ true → (t < length p.threads) × IsGiven n) t
      (λ x there tagged. (slice_get_within p.threads t x there, given t x n tagged)) (λ tagged. no_way tagged)

  at_thread : (t n : ℕ) (x : ThreadRow) → slice_get p.threads t ≡ Some x → (slice_index_or (first_registers p t x) n (plain 0)).tag ≡ true → (register (thread (boot_state p) t) n).tag ≡ true
  at_thread t n x there tagged = ap (λ (z : st.Thread). (register z n).tag) (thread_starts p t x there) ∙ tagged

  given_tagged : (t n : ℕ) (x : ThreadRow) → slice_get p.threads t ≡ Some x → IsGiven n → (slice_index_or (first_registers p t x) n (plain 0)).tag ≡ true
  given_tagged t n x there (inl one) = ap (λ m. (slice_index_or (first_registers p t x) m (plain 0)).tag) one ∙ sentry_made.made.tagged
  given_tagged t n x there (inr (inl two)) = ap (λ m. (slice_index_or (first_registers p t x) m (plain 0)).tag) two ∙ (stacks_stand p s t x there).made.tagged
  given_tagged t n x there (inr (inr three)) =
      let enters = (s.thread t x there).enters in
      ap (λ m. (slice_index_or (first_registers p t x) m (plain 0)).tag) three ∙ (globals_stand p s x.compartment enters.0 enters.2).made.tagged

  pub register_tags : (t n : ℕ) → ((register (thread (boot_state p) t) n).tag ≡ true) ↔ ((t < length p.threads) × IsGiven n)
  register_tags t n = (registers_given t n, λ h. let row = present p.threads t h.0 in at_thread t n row.0 row.1 (given_tagged t n row.0 row.1 h.1))

  -- ---- program counters

  module _ (t : ℕ) (x : ThreadRow) (there : slice_get p.threads t ≡ Some x) where
    own_has : HasCompartment p x.compartment (s.thread t x there).enters.0
    own_has = compartment_of p x.compartment (s.thread t x there).enters.0 (s.thread t x there).enters.2

    row_has : HasRow p (entry_number p x) (export_row x.compartment (gate_address (s.thread t x there).enters.0 x.export)) (gate (entry_number p x) (s.thread t x there).enters.0.code (s.thread t x there).enters.1.row)
    row_has = own_has.export x.export (s.thread t x there).enters.1 (s.thread t x there).enters.3

    origin_is : (root (image_of p) (entry_number p x)).origin ≡ Listing kind.Export
    unfolding image_of
    origin_is = ap (λ (z : Root). z.origin) row_has.root_is

    owner_is : (root (image_of p) (entry_number p x)).owner ≡ Compartment x.compartment
    unfolding image_of
    owner_is = ap (λ (z : Root). z.owner) row_has.root_is

    code_is : gate_code (image_of p) (entry_number p x) ≡ thread_entry_address p x
    unfolding image_of entries_of
    code_is =
        let enters = (s.thread t x there).enters in
        let own : compartment p x.compartment ≡ enters.0 = compartment_is p x.compartment enters.0 enters.2 in
        let base : text_base (compartment p x.compartment).code ≡ text_base enters.0.code = ap (λ (c : CompartmentRow). text_base c.code) own in
        let offset : offset_of (entered_export p x) ≡ enters.1.row.offset = ap offset_of (ap (λ (c : CompartmentRow). slice_get c.code.exports x.export) own ∙ enters.3) in
        let code = ap (λ (g : Gate). g.code) row_has.gate_is in
        omega (arith, base, offset, code)

    code_made : made_cap (image_of p) (code_entry (image_of p) x.compartment) ≡ boot_cap_of p (code_number p x.compartment)
    unfolding image_of
    code_made = ap (boot_cap_of p) (code_entry_is p x.compartment (slice_get_within p.compartments x.compartment (s.thread t x there).enters.0 (s.thread t x there).enters.2))

    pub counter_tagged : (first_pcc p x).tag ≡ true
    counter_tagged =
        ap₂ (λ (c : Cap) (a : ℕ). (with_address c a).tag) (sym code_made) (sym code_is)
        ∙ (((holds p s).gates (entry_number p x) origin_is).begins x.compartment owner_is)

  counters_there : (t : ℕ) → (thread (boot_state p) t).pcc.tag ≡ true → t < length p.threads
  counters_there t = of_thread p (λ th. th.pcc.tag ≡ true → t < length p.threads) t (λ x there tagged. slice_get_within p.threads t x there) (λ tagged. no_way tagged)

  pub counter_tags : (t : ℕ) → ((thread (boot_state p) t).pcc.tag ≡ true) ↔ (t < length p.threads)
  counter_tags t = (counters_there t, λ few. let row = present p.threads t few in ap (λ (z : st.Thread). z.pcc.tag) (thread_starts p t row.0 row.1) ∙ counter_tagged t row.0 row.1)
