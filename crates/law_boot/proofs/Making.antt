-- What boot makes: each capability is exactly what its entry says.
use Rattle.std.proofs.Common.{ℕ, ◌≡◌, ◌≢◌, ◌+◌, ◌%◌, ◌^◌, ◌≤◌, ◌<◌, inl, inr, true, false, nat_eq, Some, option_map, unwrap_or, slice_get, refl, sym, ap, ◌∙◌, subst, arith, lit<, lit≤}
use Rattle.std.proofs.lemmas.Bool.{eqb-true}
use Rattle.std.proofs.lemmas.Option.{slice_get_within}
use Rattle.def_profile.specs.declared.bounds.TheConstants.{MOST_UNITS}
use Rattle.ct_entry.specs.Listed.{DeviceRow}
use Rattle.ct_entry.specs.declared.rows.Owner.{Owner}
use Rattle.ct_entry.specs.declared.rows.Entry.{Entry}
use Rattle.ct_entry.specs.declared.rows.Gate.{Gate}
use Rattle.ct_entry.specs.declared.rows.Mode.{Mode}
use Rattle.ct_entry.specs.declared.rows.Mode.TheVariants.{Inherit, Disabled, Enabled}
use Rattle.def_profile.specs.declared.layout.TheConstants.{SLOT_SIZE, TABLE_ROW, DEVICE_SIZE}
use Rattle.def_profile.specs.declared.native.TheConstants.{RETURN_ENTRY, NATIVE_LENGTH}
use Rattle.def_profile.specs.declared.rights.TheConstants.{CODE_RIGHTS, GLOBALS_RIGHTS, STACK_RIGHTS, SERVICE_RIGHTS, SEALED_RIGHTS, EXPORT_RIGHTS, QUOTA_RIGHTS, KEY_RIGHTS}
use Rattle.def_profile.specs.declared.seals.TheConstants.{SENTRY_INHERIT, SENTRY_DISABLE, SENTRY_ENABLE, RETURN_ENABLE, EXPORT_TYPE, QUOTA_TYPE, FIRST_KEY_TYPE, LAST_KEY_TYPE}
use Rattle.def_words.specs.LeastBounds.{rounded_of}
use Rattle.def_words.specs.Permissions.{bit, execute}
use Rattle.def_words.specs.Seals.{seal_type}
use Rattle.def_words.specs.Derive.{derive, memory_root, executable_root, sealing_root}
use Rattle.def_words.specs.Narrows.{IsMade}
use Rattle.def_words.specs.Facts.{IsRoot, SpellsPermissions, KindFits}
use Rattle.law_words.proofs.Making.{derive_makes}
use Rattle.law_words.proofs.Exacts.{exponent_zero, exact_base, exact_top, exact_flag}
use Rattle.law_words.proofs.Bits.{apart}
use Rattle.law_words.proofs.Rights.{memory_is_root, executable_is_root, sealing_is_root, taken}
use Rattle.def_reach.specs.Roots.{gate_for}
use Rattle.def_image.specs.declared.ImportRow.{ImportRow}
use Rattle.def_image.specs.declared.SlotKind.{SlotKind}
use Rattle.def_image.specs.declared.SlotKind.TheVariants as slot
use Rattle.def_image.specs.Parts.{GateRow, SharedRow, SealedRow, CodeRow, CompartmentRow, ThreadRow, PartsRow}
use Rattle.def_image.specs.Members.{no_code, no_compartment, no_shared, no_sealed, compartment, library, shared, sealed, device_base, text_base, gate_address, library_gate_number}
use Rattle.def_image.specs.Regions.{table_size, table_length}
use Rattle.def_image.specs.Rights.{fits_kind, rights_of}
use Rattle.def_image.specs.Sound.{Sound, Names}
use Rattle.def_boot.specs.Entries.{native_address, slot_entry}
use Rattle.def_boot.specs.Gates.{gates_of}
use Rattle.def_boot.specs.Made.{from_entry, entry_cap, return_sentry, sentry_type}
use Rattle.law_boot.proofs.Standing.{library_of}
use Rattle.def_boot.specs.Fits.{Lies, MadeAs, address_for, type_for}
use Rattle.law_boot.proofs.Lying.{own_there, library_there, shared_there, sealed_there, stack_there}
use Rattle.law_boot.proofs.Sets.{DataRights, RunRights, code_set, service_set, globals_set, sealed_set, export_set, quota_set, device_set, shared_set}
use Rattle.law_layout.proofs.Placing.{size_fits}

-- ---- bounds

pub exact_short : (base size : ℕ) → size ≤ MOST_UNITS → (rounded_of base (base + size)).exact ≡ true
exact_short base size few = exact_flag base (base + size) (exact_base base (base + size) (exponent_zero base size few)) (exact_top base (base + size) (exponent_zero base size few))

-- ---- types

pub run_kind : (s k : ℕ) → bit s execute ≡ true → k ≢ 0 → seal_type true (k % 8) ≡ k → KindFits s k
run_kind s k run some is = inr (some, ap (λ b. seal_type b (k % 8)) run ∙ is)

pub data_kind : (s k : ℕ) → bit s execute ≡ false → k ≢ 0 → seal_type false (k % 8) ≡ k → KindFits s k
data_kind s k run some is = inr (some, ap (λ b. seal_type b (k % 8)) run ∙ is)

sentry_kind : (s : ℕ) (m : Mode) → bit s execute ≡ true → KindFits s (sentry_type m)
sentry_kind s Inherit run = run_kind s SENTRY_INHERIT run (λ e. omega (arith, e)) refl
sentry_kind s Disabled run = run_kind s SENTRY_DISABLE run (λ e. omega (arith, e)) refl
sentry_kind s Enabled run = run_kind s SENTRY_ENABLE run (λ e. omega (arith, e)) refl

-- the types of keys
key_kind : (s k : ℕ) → bit s execute ≡ false → FIRST_KEY_TYPE ≤ k → k ≤ LAST_KEY_TYPE → KindFits s k
key_kind s k run low high = data_kind s k run (λ e. omega (arith, e, low)) (by k low high)
  where
    by : (k : ℕ) → FIRST_KEY_TYPE ≤ k → k ≤ LAST_KEY_TYPE → seal_type false (k % 8) ≡ k
    by k low high =
        let some : nat_eq (k % 8) 0 ≡ false = apart (k % 8) 0 (λ e. omega (arith, e, low, high)) in
        rw some (omega (arith, low, high))

-- ---- what is made

pub make : (high base size rights at kind n : ℕ) → IsRoot high → SpellsPermissions high rights → base < 2 ^ 32 → base + size ≤ 2 ^ 32 → (rounded_of base (base + size)).exact ≡ true
    → base ≤ at → at ≤ base + size → at < 2 ^ 32 → KindFits rights kind → MadeAs n base (base + size) rights at kind (derive high base size rights at kind (from_entry n))
make high base size rights at kind n root normal low fits exact from to small kind_fits =
    let K : ℕ → Type 0 = λ s. KindFits s kind in
    let made = derive_makes high base size rights at kind (from_entry n) (record { root = root; low = low; fits = fits; exact = exact; from = from; to = to; small = small; kind_fits = subst K (sym normal) kind_fits }) in
    let P : ℕ → Type 0 = λ s. IsMade base (base + size) s at kind (derive high base size rights at kind (from_entry n)) in
    record { made = subst P normal made.0; shadow_is = made.1 }

pub sentry_made : MadeAs 0 RETURN_ENTRY (RETURN_ENTRY + NATIVE_LENGTH) SERVICE_RIGHTS RETURN_ENTRY RETURN_ENABLE return_sentry
sentry_made = make executable_root RETURN_ENTRY NATIVE_LENGTH SERVICE_RIGHTS RETURN_ENTRY RETURN_ENABLE 0 executable_is_root service_set.spelled (lit< tt) (lit≤ tt) (exact_short RETURN_ENTRY NATIVE_LENGTH (lit≤ tt)) (lit≤ tt) (lit≤ tt) (lit< tt)
    (run_kind SERVICE_RIGHTS RETURN_ENABLE service_set.run (λ e. omega (arith, e)) refl)

-- ---- the rights of each kind of slot

-- what boot makes for entry n is just what this row says
abbrev pub RowMade : PartsRow → ℕ → Entry → Type 0
RowMade p n e = MadeAs n e.base (e.base + e.length) e.rights (address_for p e e.kind) (type_for p e e.kind) (entry_cap p n e e.kind)

pub service_rights : (x : ℕ) → fits_kind slot.Service x ≡ true → RunRights x
service_rights x fits = subst (λ y. RunRights y) (sym (eqb-true x SERVICE_RIGHTS fits)) service_set

pub library_rights : (x : ℕ) → fits_kind slot.Library x ≡ true → RunRights x
library_rights x fits = subst (λ y. RunRights y) (sym (eqb-true x CODE_RIGHTS fits)) code_set

pub sealed_rights : (x : ℕ) → fits_kind slot.Sealed x ≡ true → DataRights x
sealed_rights x fits = subst (λ y. DataRights y) (sym (eqb-true x SEALED_RIGHTS fits)) sealed_set

pub call_rights : (x : ℕ) → fits_kind slot.Call x ≡ true → DataRights x
call_rights x fits = subst (λ y. DataRights y) (sym (eqb-true x EXPORT_RIGHTS fits)) export_set

pub quota_rights : (x : ℕ) → fits_kind slot.Quota x ≡ true → DataRights x
quota_rights x fits = subst (λ y. DataRights y) (sym (eqb-true x QUOTA_RIGHTS fits)) quota_set

key_rights : (x : ℕ) → fits_kind slot.Key x ≡ true → SpellsPermissions sealing_root x
key_rights x fits = subst (λ y. SpellsPermissions sealing_root y) (sym (eqb-true x KEY_RIGHTS fits)) taken.key.1

module _ (p : PartsRow) (s : Sound p) where
  -- a range in RAM below the heap
  pub inside_made : (high base size rights at kind n : ℕ) → base + size ≤ p.heap → (rounded_of base (base + size)).exact ≡ true → IsRoot high → SpellsPermissions high rights
      → base ≤ at → at ≤ base + size → KindFits rights kind → MadeAs n base (base + size) rights at kind (derive high base size rights at kind (from_entry n))
  inside_made high base size rights at kind n under exact root normal from to kind_fits =
      let inside = s.heap.inside in
      let small = s.ram.end in
      make high base size rights at kind n root normal (omega (arith, under, inside, small)) (omega (arith, under, inside, small)) exact from to (omega (arith, to, under, inside, small)) kind_fits

  pub code_made : (n b : ℕ) (c : CompartmentRow) → slice_get p.compartments b ≡ Some c
      → MadeAs n c.code.base (c.code.base + c.code.length) CODE_RIGHTS c.code.base 0 (derive executable_root c.code.base c.code.length CODE_RIGHTS c.code.base 0 (from_entry n))
  code_made n b c is =
      let lies = (own_there p s b c is).code in
      inside_made executable_root c.code.base c.code.length CODE_RIGHTS c.code.base 0 n lies.high lies.exact executable_is_root code_set.spelled (omega arith) (omega arith) (inl refl)

  pub globals_made : (n b : ℕ) (c : CompartmentRow) → slice_get p.compartments b ≡ Some c
      → MadeAs n c.globals (c.globals + c.globals_length) GLOBALS_RIGHTS c.globals 0 (derive memory_root c.globals c.globals_length GLOBALS_RIGHTS c.globals 0 (from_entry n))
  globals_made n b c is =
      let lies = (own_there p s b c is).globals in
      inside_made memory_root c.globals c.globals_length GLOBALS_RIGHTS c.globals 0 n lies.high lies.exact memory_is_root globals_set.spelled (omega arith) (omega arith) (inl refl)

  pub stack_made : (n t : ℕ) (x : ThreadRow) → slice_get p.threads t ≡ Some x
      → MadeAs n x.stack (x.stack + x.stack_length) STACK_RIGHTS (x.stack + x.stack_length) 0 (derive memory_root x.stack x.stack_length STACK_RIGHTS (x.stack + x.stack_length) 0 (from_entry n))
  stack_made n t x is =
      let lies = stack_there p s t x is in
      inside_made memory_root x.stack x.stack_length STACK_RIGHTS (x.stack + x.stack_length) 0 n lies.high lies.exact memory_is_root taken.stack.1 (omega arith) (omega arith) (inl refl)

  -- ---- what slots name

  -- an export's row lies in its table
  pub gate_in : (b : ℕ) (c : CompartmentRow) (j : ℕ) (x : GateRow) → slice_get p.compartments b ≡ Some c → slice_get c.code.exports j ≡ Some x
      → (p.ram ≤ gate_address c j) × (gate_address c j + TABLE_ROW ≤ p.heap)
  gate_in b c j x is there =
      let lies = (own_there p s b c is).table in
      let few = slice_get_within c.code.exports j x there in
      let size : table_size c.code ≤ table_length c = size_fits (table_size c.code) in
      let low = lies.low in
      let high = lies.high in
      (omega (arith, low), omega (arith, high, size, few))

  -- where the code is that a library's slot names
  linked : (l j : ℕ) (c : CodeRow) (x : GateRow) → slice_get p.libraries l ≡ Some c → slice_get c.exports j ≡ Some x
      → (c.base ≤ (gate_for (gates_of p) (library_gate_number p l j)).code) × ((gate_for (gates_of p) (library_gate_number p l j)).code ≤ c.base + c.length)
  linked l j c x is there =
      let code : (gate_for (gates_of p) (library_gate_number p l j)).code ≡ text_base c + x.row.offset = ap (λ (g : Gate). g.code) ((library_of p l c is).export j x there).gate_is in
      let fits = (s.library l c is).code.fits in
      let inside = ((s.library l c is).export j x there).offset.inside in
      (omega (arith, code), omega (arith, code, fits, inside))

  pub device_base_is : (i : ℕ) (d : DeviceRow) → slice_get p.devices i ≡ Some d → device_base p i ≡ d.base
  device_base_is i d is = ap (λ o. unwrap_or (option_map (λ (x : DeviceRow). x.base) o) 0) is

  pub shared_lies : (i : ℕ) (o : SharedRow) → slice_get p.shared i ≡ Some o → Lies p (shared p i).base (shared p i).length
  shared_lies i o is =
      let same : shared p i ≡ o = ap (λ z. unwrap_or z no_shared) is in
      let P : SharedRow → Type 0 = λ z. Lies p z.base z.length in
      subst P (sym same) (shared_there p s i o is)

  pub sealed_lies : (i : ℕ) (o : SealedRow) → slice_get p.sealed i ≡ Some o → Lies p (sealed p i).base (sealed p i).length
  sealed_lies i o is =
      let same : sealed p i ≡ o = ap (λ z. unwrap_or z no_sealed) is in
      let P : SealedRow → Type 0 = λ z. Lies p z.base z.length in
      subst P (sym same) (sealed_there p s i o is)

  pub sealed_types : (i : ℕ) (o : SealedRow) → slice_get p.sealed i ≡ Some o → (FIRST_KEY_TYPE ≤ (sealed p i).seal) × ((sealed p i).seal ≤ LAST_KEY_TYPE)
  sealed_types i o is =
      let same : sealed p i ≡ o = ap (λ z. unwrap_or z no_sealed) is in
      let P : SealedRow → Type 0 = λ z. (FIRST_KEY_TYPE ≤ z.seal) × (z.seal ≤ LAST_KEY_TYPE) in
      subst P (sym same) (s.sealed i o is).seal

  pub called_in : (b : ℕ) (c : CompartmentRow) (j : ℕ) (x : GateRow) → slice_get p.compartments b ≡ Some c → slice_get c.code.exports j ≡ Some x
      → (p.ram ≤ gate_address (compartment p b) j) × (gate_address (compartment p b) j + TABLE_ROW ≤ p.heap)
  called_in b c j x is there =
      let same : compartment p b ≡ c = ap (λ z. unwrap_or z no_compartment) is in
      let P : CompartmentRow → Type 0 = λ z. (p.ram ≤ gate_address z j) × (gate_address z j + TABLE_ROW ≤ p.heap) in
      subst P (sym same) (gate_in b c j x is there)

  pub library_lies : (l : ℕ) (c : CodeRow) → slice_get p.libraries l ≡ Some c → Lies p (library p l).base (library p l).length
  library_lies l c is =
      let same : library p l ≡ c = ap (λ z. unwrap_or z no_code) is in
      let P : CodeRow → Type 0 = λ z. Lies p z.base z.length in
      subst P (sym same) (library_there p s l c is)

  linked_in : (l j : ℕ) (c : CodeRow) (x : GateRow) → slice_get p.libraries l ≡ Some c → slice_get c.exports j ≡ Some x
      → ((library p l).base ≤ (gate_for (gates_of p) (library_gate_number p l j)).code) × ((gate_for (gates_of p) (library_gate_number p l j)).code ≤ (library p l).base + (library p l).length)
  linked_in l j c x is there =
      let same : library p l ≡ c = ap (λ z. unwrap_or z no_code) is in
      let P : CodeRow → Type 0 = λ z. (z.base ≤ (gate_for (gates_of p) (library_gate_number p l j)).code) × ((gate_for (gates_of p) (library_gate_number p l j)).code ≤ z.base + z.length) in
      subst P (sym same) (linked l j c x is there)

  -- ---- what boot makes of slots

  pub slot_made : (n : ℕ) (o : Owner) (at : ℕ) (r : ImportRow) (k : SlotKind) → Names p r k → fits_kind k (rights_of r) ≡ true → at + SLOT_SIZE ≤ p.heap → RowMade p n (slot_entry p o at r k)
  slot_made n o at r slot.Service names fits inside =
      let run = service_rights (rights_of r) fits in
      make executable_root (native_address r.first) NATIVE_LENGTH (rights_of r) (native_address r.first) SENTRY_INHERIT n executable_is_root run.spelled (omega (arith, names)) (omega (arith, names))
      (exact_short (native_address r.first) NATIVE_LENGTH (lit≤ tt)) (omega arith) (omega arith) (omega (arith, names)) (run_kind (rights_of r) SENTRY_INHERIT run.run (λ e. omega (arith, e)) refl)
  slot_made n o at r slot.Device names fits inside =
      let same = device_base_is r.first names.0 names.1 in
      let small = (s.device r.first names.0 names.1).small in
      make memory_root (device_base p r.first) DEVICE_SIZE (rights_of r) (device_base p r.first) 0 n memory_is_root (device_set (rights_of r) fits).spelled (omega (arith, same, small)) (omega (arith, same, small))
      (exact_short (device_base p r.first) DEVICE_SIZE (lit≤ tt)) (omega arith) (omega arith) (omega (arith, same, small)) (inl refl)
  slot_made n o at r slot.Shared names fits inside =
      let lies = shared_lies r.first names.0 names.1 in
      inside_made memory_root (shared p r.first).base (shared p r.first).length (rights_of r) (shared p r.first).base 0 n lies.high lies.exact memory_is_root (shared_set (rights_of r) fits).spelled (omega arith) (omega arith) (inl refl)
  slot_made n o at r slot.Sealed names fits inside =
      let lies = sealed_lies r.first names.0 names.1 in
      let set = sealed_rights (rights_of r) fits in
      let types = sealed_types r.first names.0 names.1 in
      inside_made memory_root (sealed p r.first).base (sealed p r.first).length (rights_of r) (sealed p r.first).base (sealed p r.first).seal n lies.high lies.exact memory_is_root set.spelled (omega arith) (omega arith)
      (key_kind (rights_of r) (sealed p r.first).seal set.not_run types.0 types.1)
  slot_made n o at r slot.Call names fits inside =
      let under = (called_in r.first names.0 r.second names.1 names.2 names.3).1 in
      let set = call_rights (rights_of r) fits in
      inside_made memory_root (gate_address (compartment p r.first) r.second) TABLE_ROW (rights_of r) (gate_address (compartment p r.first) r.second) EXPORT_TYPE n under
      (exact_short (gate_address (compartment p r.first) r.second) TABLE_ROW (lit≤ tt)) memory_is_root set.spelled (omega arith) (omega arith)
      (data_kind (rights_of r) EXPORT_TYPE set.not_run (λ e. omega (arith, e)) refl)
  slot_made n o at r slot.Library names fits inside =
      let lies = library_lies r.first names.0 names.2 in
      let run = library_rights (rights_of r) fits in
      let ends = linked_in r.first r.second names.0 names.1 names.2 names.3 in
      inside_made executable_root (library p r.first).base (library p r.first).length (rights_of r) (gate_for (gates_of p) (library_gate_number p r.first r.second)).code
      (sentry_type (gate_for (gates_of p) (library_gate_number p r.first r.second)).posture) n lies.high lies.exact executable_is_root run.spelled ends.0 ends.1
      (sentry_kind (rights_of r) (gate_for (gates_of p) (library_gate_number p r.first r.second)).posture run.run)
  slot_made n o at r slot.Quota names fits inside =
      let set = quota_rights (rights_of r) fits in
      inside_made memory_root at SLOT_SIZE (rights_of r) at QUOTA_TYPE n inside (exact_short at SLOT_SIZE (lit≤ tt)) memory_is_root set.spelled (omega arith) (omega arith)
      (data_kind (rights_of r) QUOTA_TYPE set.not_run (λ e. omega (arith, e)) refl)
  slot_made n o at r slot.Key names fits inside =
      let high = names.1 in
      make sealing_root r.first 1 (rights_of r) r.first 0 n sealing_is_root (key_rights (rights_of r) fits) (omega (arith, high)) (omega (arith, high)) (exact_short r.first 1 (lit≤ tt)) (omega arith) (omega arith) (omega (arith, high)) (inl refl)
