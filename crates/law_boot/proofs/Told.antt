-- What is said of every entry number of a sound image: the entry's rights, where its range lies, what boot made for it.
use Rattle.std.proofs.Common.{ℕ, ◌≡◌, ◌+◌, ◌*◌, ◌≤◌, ◌<◌, ◌⊎◌, inl, inr, Bool, true, false, length, Some, slice_get, refl, sym, ap, ◌∙◌, subst, arith}
use Rattle.std.proofs.lemmas.Bool.{eqb-true}
use Rattle.std.proofs.lemmas.Option.{slice_get_within}
use Rattle.ct_entry.specs.declared.rows.Owner.{Owner}
use Rattle.ct_entry.specs.declared.rows.Owner.TheVariants.{Compartment, Library}
use Rattle.ct_entry.specs.Listed.{DeviceRow}
use Rattle.ct_entry.specs.declared.rows.Entry.{Entry}
use Rattle.ct_entry.specs.declared.rows.Gate.{Gate}
use Rattle.ct_entry.specs.declared.rows.Mode.{Mode}
use Rattle.ct_entry.specs.declared.rows.Mode.TheVariants.{Inherit, Disabled, Enabled}
use Rattle.ct_entry.specs.declared.rows.Kind.TheVariants as kind
use Rattle.def_profile.specs.declared.layout.TheConstants.{SLOT_SIZE, DEVICE_SIZE}
use Rattle.def_native.specs.declared.TheConstants.{LAST_NATIVE}
use Rattle.def_profile.specs.declared.native.TheConstants.{NATIVE_BASE, NATIVE_END, NATIVE_LENGTH, RETURN, RETURN_ENTRY}
use Rattle.def_profile.specs.declared.rights.TheConstants.{KEY_RIGHTS}
use Rattle.def_profile.specs.declared.seals.TheConstants.{FIRST_KEY_TYPE, RETURN_ENABLE, EXPORT_TYPE, QUOTA_TYPE, TOKEN_TYPE, SENTRY_INHERIT, SENTRY_DISABLE, SENTRY_ENABLE, RETURN_DISABLE, LAST_KEY_TYPE}
use Rattle.def_words.specs.declared.Cap.{Cap}
use Rattle.def_words.specs.Permissions.{bit, execute}
use Rattle.def_memory.specs.Granules.{plain}
use Rattle.def_reach.specs.Roots.{Origin, Unknown, TrustedPart, Listing, Root, root_of, gate_for, listed_root, no_gate, trusted_root, is_root, is_native, turns_interrupts_off}
use Rattle.def_confined.specs.Capabilities.{is_home}
use Rattle.def_image.specs.declared.ImportRow.{ImportRow}
use Rattle.def_image.specs.declared.SlotKind.{SlotKind}
use Rattle.def_image.specs.declared.SlotKind.TheVariants as slot
use Rattle.def_image.specs.Parts.{SlotRow, CodeRow, PartsRow}
use Rattle.def_image.specs.Members.{gate_number, library_gate_number}
use Rattle.def_image.specs.Rights.{fits_kind, rights_of, is_library as is_library_kind}
use Rattle.def_image.specs.Sound.{Sound, Names, IsAway}
use Rattle.def_boot.specs.Entries.{native_address, slot_entry}
use Rattle.def_boot.specs.Gates.{gate, gates_of, entries_of}
use Rattle.def_boot.specs.Made.{boot_cap_of, entry_cap, return_sentry, sentry_type}
use Rattle.def_boot.specs.Rows.{HasRow, EntryIs, is_nothing, is_trusted, is_code, is_globals, is_slot, is_export, is_library, is_library_slot, is_library_export, is_stack}
use Rattle.law_boot.proofs.Listing.{entry_of}
use Rattle.def_boot.specs.Fits.{Lies, MadeAs, type_for, address_for}
use Rattle.law_boot.proofs.Lying.{own_there, library_there, stack_there}
use Rattle.law_boot.proofs.Sets.{RightsFit, is_key, none_fit, data_fit, run_fit, stack_fit, key_fit, code_set, service_set, globals_set, export_set, device_set, shared_set, no_way}
use Rattle.law_boot.proofs.Making.{sentry_made, code_made, globals_made, stack_made, slot_made, RowMade, gate_in, called_in, shared_lies, sealed_lies, library_lies, sealed_types, device_base_is, service_rights, library_rights, sealed_rights, call_rights, quota_rights}

-- ---- types

-- what the type of a capability says of its entry
pub record TypeSays (p : PartsRow) (r : Root) (k : ℕ) : Type 0 where
  pub not_off : k ≡ RETURN_DISABLE → ⊥
  pub returns : k ≡ RETURN_ENABLE → (r.base < r.top) × (bit r.rights execute ≡ true)
  pub calls : k ≡ EXPORT_TYPE → r.origin ≡ Listing kind.Call
  pub quotas : k ≡ QUOTA_TYPE → r.origin ≡ Listing kind.Quota
  pub no_token : k ≡ TOKEN_TYPE → ⊥
  pub forwards : (k ≡ SENTRY_INHERIT) ⊎ (k ≡ SENTRY_DISABLE) ⊎ (k ≡ SENTRY_ENABLE) → (r.origin ≡ Listing kind.Library) ⊎ (r.origin ≡ Listing kind.Service)
  pub disables : k ≡ SENTRY_DISABLE → (r.origin ≡ Listing kind.Library) × (turns_interrupts_off (gate_for (gates_of p) r.of).posture ≡ true)

-- unsealed, or of a key's type
says_little : (p : PartsRow) (r : Root) (k : ℕ) → (k ≡ 0) ⊎ (FIRST_KEY_TYPE ≤ k) → TypeSays p r k
says_little p r k few = record {
  not_off = λ e. elim few [ inl a ↦ omega (arith, e, a) | inr a ↦ omega (arith, e, a) ];
  returns = λ e. absurd (elim few [ inl a ↦ omega (arith, e, a) | inr a ↦ omega (arith, e, a) ]);
  calls = λ e. absurd (elim few [ inl a ↦ omega (arith, e, a) | inr a ↦ omega (arith, e, a) ]);
  quotas = λ e. absurd (elim few [ inl a ↦ omega (arith, e, a) | inr a ↦ omega (arith, e, a) ]);
  no_token = λ e. elim few [ inl a ↦ omega (arith, e, a) | inr a ↦ omega (arith, e, a) ];
  forwards = λ any. absurd (none any);
  disables = λ e. absurd (elim few [ inl a ↦ omega (arith, e, a) | inr a ↦ omega (arith, e, a) ]);
}
  where
    none : (k ≡ SENTRY_INHERIT) ⊎ (k ≡ SENTRY_DISABLE) ⊎ (k ≡ SENTRY_ENABLE) → ⊥
    none (inl e) = elim few [ inl a ↦ omega (arith, e, a) | inr a ↦ omega (arith, e, a) ]
    none (inr (inl e)) = elim few [ inl a ↦ omega (arith, e, a) | inr a ↦ omega (arith, e, a) ]
    none (inr (inr e)) = elim few [ inl a ↦ omega (arith, e, a) | inr a ↦ omega (arith, e, a) ]

-- the sentry of a native routine or of a library
says_forward : (p : PartsRow) (r : Root) (k : ℕ) → (r.origin ≡ Listing kind.Library) ⊎ (r.origin ≡ Listing kind.Service) → k ≤ 3
    → (k ≡ 2 → (r.origin ≡ Listing kind.Library) × (turns_interrupts_off (gate_for (gates_of p) r.of).posture ≡ true)) → TypeSays p r k
says_forward p r k is few off = record {
  not_off = λ e. omega (arith, e, few);
  returns = λ e. absurd (omega (arith, e, few));
  calls = λ e. absurd (omega (arith, e, few));
  quotas = λ e. absurd (omega (arith, e, few));
  no_token = λ e. omega (arith, e, few);
  forwards = λ any. is;
  disables = off;
}

says_library : (p : PartsRow) (r : Root) (m : Mode) → r.origin ≡ Listing kind.Library → (gate_for (gates_of p) r.of).posture ≡ m → TypeSays p r (sentry_type m)
says_library p r Inherit is at = says_forward p r 1 (inl is) (omega arith) (λ e. absurd (omega (arith, e)))
says_library p r Disabled is at = says_forward p r 2 (inl is) (omega arith) (λ e. (is, ap turns_interrupts_off at))
says_library p r Enabled is at = says_forward p r 3 (inl is) (omega arith) (λ e. absurd (omega (arith, e)))

none_forward : (k : ℕ) → 4 ≤ k → (k ≡ SENTRY_INHERIT) ⊎ (k ≡ SENTRY_DISABLE) ⊎ (k ≡ SENTRY_ENABLE) → ⊥
none_forward k past (inl e) = omega (arith, e, past)
none_forward k past (inr (inl e)) = omega (arith, e, past)
none_forward k past (inr (inr e)) = omega (arith, e, past)

says_call : (p : PartsRow) (r : Root) → r.origin ≡ Listing kind.Call → TypeSays p r EXPORT_TYPE
says_call p r is = record {
  not_off = λ e. omega (arith, e);
  returns = λ e. absurd (omega (arith, e));
  calls = λ e. is;
  quotas = λ e. absurd (omega (arith, e));
  no_token = λ e. omega (arith, e);
  forwards = λ any. absurd (none_forward 9 (omega arith) any);
  disables = λ e. absurd (omega (arith, e));
}

says_quota : (p : PartsRow) (r : Root) → r.origin ≡ Listing kind.Quota → TypeSays p r QUOTA_TYPE
says_quota p r is = record {
  not_off = λ e. omega (arith, e);
  returns = λ e. absurd (omega (arith, e));
  calls = λ e. absurd (omega (arith, e));
  quotas = λ e. is;
  no_token = λ e. omega (arith, e);
  forwards = λ any. absurd (none_forward 10 (omega arith) any);
  disables = λ e. absurd (omega (arith, e));
}

says_return : (p : PartsRow) (r : Root) → r.base < r.top → bit r.rights execute ≡ true → TypeSays p r RETURN_ENABLE
says_return p r some run = record {
  not_off = λ e. omega (arith, e);
  returns = λ e. (some, run);
  calls = λ e. absurd (omega (arith, e));
  quotas = λ e. absurd (omega (arith, e));
  no_token = λ e. omega (arith, e);
  forwards = λ any. absurd (none_forward 5 (omega arith) any);
  disables = λ e. absurd (omega (arith, e));
}

-- ---- what is said of a number

-- a service stands at its native entry, and is one of the routines
pub record Serves (o : Origin) (at number : ℕ) : Type 0 where
  pub service : o ≡ Listing kind.Service
  pub at_entry : at ≡ native_address number
  pub few : number ≤ LAST_NATIVE

-- a capability is what its entry says
pub record Faithful (p : PartsRow) (n : ℕ) (r : Root) (d : Cap) : Type 0 where
  pub seal : ℕ
  pub at : ℕ
  pub made : MadeAs n r.base r.top r.rights at seal d
  pub says : TypeSays p r seal
  pub roots : is_root r.origin ≡ true
  pub home : is_home r.origin r.owner ≡ true
  pub native : is_native r.origin ≡ true → (at ≡ RETURN_ENTRY) ⊎ Serves r.origin at r.of

-- a range is of one native routine's entry
pub record IsNativeEntry (base top : ℕ) : Type 0 where
  pub number : ℕ
  pub few : number ≤ LAST_NATIVE
  pub starts : base ≡ native_address number
  pub ends : top ≡ base + NATIVE_LENGTH

pub native_low : (base top : ℕ) → IsNativeEntry base top → NATIVE_BASE ≤ base
native_low base top e = let starts = e.starts in omega (arith, starts)

pub native_high : (base top : ℕ) → IsNativeEntry base top → top ≤ NATIVE_END
native_high base top e = let few = e.few in let starts = e.starts in let ends = e.ends in omega (arith, few, starts, ends)

-- a range is of a device, away from RAM and from the native routines
pub record IsDevice (p : PartsRow) (base top : ℕ) : Type 0 where
  pub index : ℕ
  pub row : DeviceRow
  pub there : slice_get p.devices index ≡ Some row
  pub starts : base ≡ row.base
  pub ends : top ≡ base + DEVICE_SIZE
  pub ram : IsAway base DEVICE_SIZE p.ram (p.ram + p.size)
  pub native : IsAway base DEVICE_SIZE NATIVE_BASE NATIVE_END

-- a range is of nothing, of RAM below the heap, of the native routines, of a device, or a key's
pub data LiesAs (p : PartsRow) (o : Origin) (base top : ℕ) : Type 0 where
  of_nothing : is_key o ≡ false → top ≡ 0 → LiesAs p o base top
  in_ram : is_key o ≡ false → p.ram ≤ base → top ≤ p.heap → LiesAs p o base top
  native : is_key o ≡ false → is_native o ≡ true → IsNativeEntry base top → LiesAs p o base top
  device : o ≡ Listing kind.Device → IsDevice p base top → LiesAs p o base top
  of_key : o ≡ Listing kind.Key → FIRST_KEY_TYPE ≤ base → top ≤ LAST_KEY_TYPE + 1 → LiesAs p o base top

-- nothing was made, and the entry is of no native routine
pub record IsPlain (r : Root) (d : Cap) : Type 0 where
  pub plain_is : d ≡ plain 0
  pub other : is_native r.origin ≡ false
  pub bare : is_root r.origin ≡ true → is_home r.origin r.owner ≡ false

pub record Told (p : PartsRow) (n : ℕ) (r : Root) (d : Cap) : Type 0 where
  pub order : r.base ≤ r.top
  pub rights : RightsFit r.origin r.rights
  pub lies : LiesAs p r.origin r.base r.top
  pub gates : r.disabled ≡ true → r.origin ≡ Listing kind.Export
  pub made : IsPlain r d ⊎ Faithful p n r d
  pub owned : (r.origin ≡ Listing kind.Call) ⊎ (r.origin ≡ Listing kind.Quota) → (a : ℕ) × (r.owner ≡ Compartment a)

abbrev is_called : Origin → Bool
is_called (Listing kind.Call) = true
is_called (Listing kind.Quota) = true
is_called _ = false

-- no call and no quota
neither : {G : Type 0} (o : Origin) → is_called o ≡ false → (o ≡ Listing kind.Call) ⊎ (o ≡ Listing kind.Quota) → G
neither o none (inl e) = no_way (sym none ∙ ap is_called e)
neither o none (inr e) = no_way (sym none ∙ ap is_called e)

-- of an entry without a gate
told_row : (p : PartsRow) (n : ℕ) (e : Entry) (d : Cap) → RightsFit (Listing e.kind) e.rights → LiesAs p (Listing e.kind) e.base (e.base + e.length)
    → IsPlain (listed_root (Some e) no_gate) d ⊎ Faithful p n (listed_root (Some e) no_gate) d
    → ((Listing e.kind ≡ Listing kind.Call) ⊎ (Listing e.kind ≡ Listing kind.Quota) → (a : ℕ) × (e.owner ≡ Compartment a)) → Told p n (listed_root (Some e) no_gate) d
told_row p n e d rights lies made owned = record { order = omega arith; rights = rights; lies = lies; gates = λ no. no_way no; made = made; owned = owned }

-- of an export
told_export : (p : PartsRow) (n : ℕ) (e : Entry) (g : Gate) → e.kind ≡ kind.Export → RightsFit (Listing e.kind) e.rights → p.ram ≤ e.base → e.base + e.length ≤ p.heap → Told p n (listed_root (Some e) g) (plain 0)
told_export p n e g is rights low high = record {
  order = omega arith;
  rights = rights;
  lies = in_ram (ap (λ k. is_key (Listing k)) is) low high;
  gates = λ off. ap (λ k. Listing k) is;
  made = inl (record { plain_is = refl; other = ap (λ k. is_native (Listing k)) is; bare = λ root. no_way (sym (ap (λ k. is_root (Listing k)) is) ∙ root) });
  owned = λ any. neither (Listing e.kind) (ap (λ k. is_called (Listing k)) is) any;
}

-- what boot made of an entry, with what its type says
faithful : (p : PartsRow) (n : ℕ) (e : Entry) → RowMade p n e → TypeSays p (listed_root (Some e) no_gate) (type_for p e e.kind) → is_root (Listing e.kind) ≡ true → is_home (Listing e.kind) e.owner ≡ true
    → (is_native (Listing e.kind) ≡ true → (address_for p e e.kind ≡ RETURN_ENTRY) ⊎ Serves (Listing e.kind) (address_for p e e.kind) e.of)
    → Faithful p n (listed_root (Some e) no_gate) (entry_cap p n e e.kind)
faithful p n e made says roots home stands = record { seal = type_for p e e.kind; at = address_for p e e.kind; made = made; says = says; roots = roots; home = home; native = stands }

module _ (p : PartsRow) (s : Sound p) where
  -- ---- slots

  -- where a slot stands: in RAM below the heap
  pub slot_told : (n : ℕ) (o : Owner) (at : ℕ) (r : ImportRow) (k : SlotKind) → Names p r k → fits_kind k (rights_of r) ≡ true → p.ram ≤ at → at + SLOT_SIZE ≤ p.heap
      → (is_library_kind k ≡ false → (a : ℕ) × (o ≡ Compartment a)) → Told p n (listed_root (Some (slot_entry p o at r k)) no_gate) (entry_cap p n (slot_entry p o at r k) (slot_entry p o at r k).kind)
  slot_told n o at r slot.Service names fits low inside owned =
      told_row p n _ _ (run_fit (Listing kind.Service) (rights_of r) (service_rights (rights_of r) fits) refl refl (λ root. refl))
      (native refl refl (record { number = r.first; few = names; starts = refl; ends = refl }))
      (inr (faithful p n _ (slot_made p s n o at r slot.Service names fits inside) (says_forward p _ 1 (inr refl) (omega arith) (λ e. absurd (omega (arith, e)))) refl refl (λ is. inr (record { service = refl; at_entry = refl; few = names }))))
      (λ any. neither (Listing kind.Service) refl any)
  slot_told n o at r slot.Device names fits low inside owned =
      let same = device_base_is p s r.first names.0 names.1 in
      let A : ℕ → Type 0 = λ b. IsAway b DEVICE_SIZE p.ram (p.ram + p.size) in
      let N : ℕ → Type 0 = λ b. IsAway b DEVICE_SIZE NATIVE_BASE NATIVE_END in
      told_row p n _ _ (data_fit (Listing kind.Device) (rights_of r) (device_set (rights_of r) fits) refl refl)
      (device refl (record {
        index = r.first;
        row = names.0;
        there = names.1;
        starts = same;
        ends = refl;
        ram = subst A (sym same) (s.device r.first names.0 names.1).ram;
        native = subst N (sym same) (s.device r.first names.0 names.1).native;
      }))
      (inr (faithful p n _ (slot_made p s n o at r slot.Device names fits inside) (says_little p _ 0 (inl refl)) refl refl (λ no. no_way no)))
      (λ any. neither (Listing kind.Device) refl any)
  slot_told n o at r slot.Shared names fits low inside owned =
      let lies = shared_lies p s r.first names.0 names.1 in
      told_row p n _ _ (data_fit (Listing kind.Shared) (rights_of r) (shared_set (rights_of r) fits) refl refl)
      (in_ram refl lies.low lies.high)
      (inr (faithful p n _ (slot_made p s n o at r slot.Shared names fits inside) (says_little p _ 0 (inl refl)) refl refl (λ no. no_way no)))
      (λ any. neither (Listing kind.Shared) refl any)
  slot_told n o at r slot.Sealed names fits low inside owned =
      let lies = sealed_lies p s r.first names.0 names.1 in
      told_row p n _ _ (data_fit (Listing kind.Sealed) (rights_of r) (sealed_rights (rights_of r) fits) refl refl)
      (in_ram refl lies.low lies.high)
      (inr (faithful p n _ (slot_made p s n o at r slot.Sealed names fits inside) (says_little p _ _ (inr (sealed_types p s r.first names.0 names.1).0)) refl refl (λ no. no_way no)))
      (λ any. neither (Listing kind.Sealed) refl any)
  slot_told n o at r slot.Call names fits low inside owned =
      let lies = called_in p s r.first names.0 r.second names.1 names.2 names.3 in
      told_row p n _ _ (data_fit (Listing kind.Call) (rights_of r) (call_rights (rights_of r) fits) refl refl)
      (in_ram refl lies.0 lies.1)
      (inr (faithful p n _ (slot_made p s n o at r slot.Call names fits inside) (says_call p _ refl) refl refl (λ no. no_way no)))
      (λ any. owned refl)
  slot_told n o at r slot.Library names fits low inside owned =
      let lies = library_lies p s r.first names.0 names.2 in
      told_row p n _ _ (run_fit (Listing kind.Library) (rights_of r) (library_rights (rights_of r) fits) refl refl (λ root. refl))
      (in_ram refl lies.low lies.high)
      (inr (faithful p n _ (slot_made p s n o at r slot.Library names fits inside) (says_library p _ _ refl refl) refl refl (λ no. no_way no)))
      (λ any. neither (Listing kind.Library) refl any)
  slot_told n o at r slot.Quota names fits low inside owned =
      told_row p n _ _ (data_fit (Listing kind.Quota) (rights_of r) (quota_rights (rights_of r) fits) refl refl)
      (in_ram refl low inside)
      (inr (faithful p n _ (slot_made p s n o at r slot.Quota names fits inside) (says_quota p _ refl) refl refl (λ no. no_way no)))
      (λ any. owned refl)
  slot_told n o at r slot.Key names fits low inside owned =
      let high = names.1 in
      told_row p n _ _ (subst (λ x. RightsFit (Listing kind.Key) x) (sym (eqb-true (rights_of r) KEY_RIGHTS fits)) key_fit)
      (of_key refl names.0 (omega (arith, high)))
      (inr (faithful p n _ (slot_made p s n o at r slot.Key names fits inside) (says_little p _ 0 (inl refl)) refl refl (λ no. no_way no)))
      (λ any. neither (Listing kind.Key) refl any)

  -- a slot lies in its owner's code
  pub slot_in : (c : CodeRow) (j : ℕ) (x : SlotRow) → Lies p c.base c.length → SLOT_SIZE * length c.slots + length c.text ≤ c.length → slice_get c.slots j ≡ Some x
      → (p.ram ≤ c.base + SLOT_SIZE * j) × (c.base + SLOT_SIZE * j + SLOT_SIZE ≤ p.heap)
  slot_in c j x lies fits is =
      let few = slice_get_within c.slots j x is in
      let low = lies.low in
      let high = lies.high in
      (omega (arith, low), omega (arith, few, fits, high))

  -- ---- by number

  there : (n : ℕ) (e : Entry) (g : Gate) → HasRow p n e g → Told p n (listed_root (Some e) g) (entry_cap p n e e.kind) → Told p n (root_of (entries_of p) n) (boot_cap_of p n)
  there n e g h is = subst (λ (c : Cap). Told p n (root_of (entries_of p) n) c) (sym h.made_is) (subst (λ (z : Root). Told p n z (entry_cap p n e e.kind)) (sym h.root_is) is)

  at : (n m : ℕ) → n ≡ m → Told p m (root_of (entries_of p) m) (boot_cap_of p m) → Told p n (root_of (entries_of p) n) (boot_cap_of p n)
  at n m same is = subst (λ k. Told p k (root_of (entries_of p) k) (boot_cap_of p k)) (sym same) is

  trusted_told : Told p 0 trusted_root return_sentry
  trusted_told = record {
    order = omega arith;
    rights = run_fit TrustedPart _ service_set refl refl (λ root. refl);
    lies = native refl refl (record { number = RETURN; few = omega arith; starts = refl; ends = refl });
    gates = λ no. no_way no;
    made = inr (record { seal = RETURN_ENABLE; at = RETURN_ENTRY; made = sentry_made; says = says_return p _ (omega arith) service_set.run; roots = refl; home = refl; native = λ is. inl refl });
    owned = λ any. neither TrustedPart refl any;
  }

  in_case : (n : ℕ) → EntryIs p n → Told p n (root_of (entries_of p) n) (boot_cap_of p n)
  in_case n (is_nothing root_is gate_is made_is) =
      subst (λ (c : Cap). Told p n (root_of (entries_of p) n) c) (sym made_is) (subst (λ (z : Root). Told p n z (plain 0)) (sym root_is)
      (record { order = omega arith; rights = none_fit; lies = of_nothing refl refl; gates = λ no. no_way no; made = inl (record { plain_is = refl; other = refl; bare = λ root. no_way root }); owned = λ any. neither Unknown refl any }))
  in_case n (is_trusted number root_is gate_is made_is) =
      subst (λ (c : Cap). Told p n (root_of (entries_of p) n) c) (sym made_is) (subst (λ (z : Root). Told p n z return_sentry) (sym root_is)
      (subst (λ m. Told p m trusted_root return_sentry) (sym number) trusted_told))
  in_case n (is_code b c h number) =
      let lies = (own_there p s b c h.there).code in
      at n _ number (there _ _ _ h.code (told_row p _ _ _ (run_fit (Listing kind.Code) _ code_set refl refl (λ root. refl)) (in_ram refl lies.low lies.high)
      (inr (faithful p _ _ (code_made p s _ b c h.there) (says_little p _ 0 (inl refl)) refl refl (λ no. no_way no))) (λ any. neither (Listing kind.Code) refl any)))
  in_case n (is_globals b c h number) =
      let lies = (own_there p s b c h.there).globals in
      at n _ number (there _ _ _ h.globals (told_row p _ _ _ (data_fit (Listing kind.Globals) _ globals_set refl refl) (in_ram refl lies.low lies.high)
      (inr (faithful p _ _ (globals_made p s _ b c h.there) (says_little p _ 0 (inl refl)) refl refl (λ no. no_way no))) (λ any. neither (Listing kind.Globals) refl any)))
  in_case n (is_slot b c j x h is number) =
      let fits = s.compartment b c h.there in
      let own = (fits.slot j x is).fits in
      let place = slot_in c.code j x (own_there p s b c h.there).code fits.code.fits is in
      at n _ number (there _ _ _ (h.slot j x is) (slot_told _ (Compartment b) _ x.row x.row.kind own.names own.rights place.0 place.1 (λ any. (b, refl))))
  in_case n (is_export b c j x h is number) =
      let place = gate_in p s b c j x h.there is in
      at n _ number (there _ _ _ (h.export j x is) (told_export p _ _ (gate (gate_number p b j) c.code x.row) refl (data_fit (Listing kind.Export) _ export_set refl refl) place.0 place.1))
  in_case n (is_library l c h number) =
      let lies = library_there p s l c h.there in
      at n _ number (there _ _ _ h.code (told_row p _ _ _ (run_fit (Listing kind.Code) _ code_set refl refl (λ root. refl)) (in_ram refl lies.low lies.high) (inl (record { plain_is = refl; other = refl; bare = λ root. refl })) (λ any. neither (Listing kind.Code) refl any)))
  in_case n (is_library_slot l c j x h is number) =
      let fits = s.library l c h.there in
      let own = fits.slot j x is in
      let place = slot_in c j x (library_there p s l c h.there) fits.code.fits is in
      at n _ number (there _ _ _ (h.slot j x is) (slot_told _ (Library l) _ x.row x.row.kind own.fits.names own.fits.rights place.0 place.1 (λ other. no_way (sym other ∙ ap is_library_kind own.kind))))
  in_case n (is_library_export l c j x h is number) =
      let lies = library_there p s l c h.there in
      at n _ number (there _ _ _ (h.export j x is) (told_export p _ _ (gate (library_gate_number p l j) c x.row) refl (run_fit (Listing kind.Export) _ code_set refl refl (λ no. no_way no)) lies.low lies.high))
  in_case n (is_stack t x h number) =
      let lies = stack_there p s t x h.there in
      at n _ number (there _ _ _ h.row (told_row p _ _ _ stack_fit (in_ram refl lies.low lies.high)
      (inr (faithful p _ _ (stack_made p s _ t x h.there) (says_little p _ 0 (inl refl)) refl refl (λ no. no_way no))) (λ any. neither (Listing kind.Stack) refl any)))

  pub told : (n : ℕ) → Told p n (root_of (entries_of p) n) (boot_cap_of p n)
  told n = in_case n (entry_of p n)
