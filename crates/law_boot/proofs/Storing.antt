-- What entries store to, and carry capabilities through.
use Rattle.std.proofs.Common.{ℕ, ◌≡◌, ◌+◌, ◌<◌, ◌≤◌, ◌||◌, inl, inr, Bool, true, false, List, [], ◌∷◌, unwrap_or, refl, sym, ap, ◌∙◌, subst, arith}
use Rattle.std.proofs.lemmas.Bool.{eqb-true}
use Rattle.std.proofs.lemmas.Option.{slice_get_within}
use Rattle.law_lists.proofs.Tests.{eq_tells}
use Rattle.ct_entry.specs.declared.rows.Owner.{Owner}
use Rattle.ct_entry.specs.declared.rows.Owner.TheVariants.{Compartment, Library}
use Rattle.ct_entry.specs.declared.rows.Entry.{Entry}
use Rattle.ct_entry.specs.declared.rows.Gate.{Gate}
use Rattle.def_profile.specs.declared.rights.TheConstants.{CODE_RIGHTS, SERVICE_RIGHTS, SEALED_RIGHTS, EXPORT_RIGHTS, QUOTA_RIGHTS, KEY_RIGHTS}
use Rattle.def_words.specs.Permissions.{bit, store_data, memory_capability}
use Rattle.def_reach.specs.Roots.{Root, root_of, no_gate}
use Rattle.def_machine.specs.Image.{Region, Shared, root, granule_of}
use Rattle.def_machine.specs.Image as image
use Rattle.def_confined.specs.Partitioned.{StoresInto, Carries}
use Rattle.def_image.specs.declared.ImportRow.{ImportRow}
use Rattle.def_image.specs.declared.SlotKind.{SlotKind}
use Rattle.def_image.specs.declared.SlotKind.TheVariants as slot
use Rattle.def_image.specs.Parts.{SharedRow, SealedRow, PartsRow}
use Rattle.def_image.specs.Members.{no_shared, no_sealed, shared, sealed}
use Rattle.def_image.specs.Regions.{Holder, GlobalsOf, SharedOf, SealedOf, StackOf, region_row, regions_of}
use Rattle.def_image.specs.Rights.{fits_kind, rights_of, is_library as is_library_kind, is_one_of, device_right_sets, read_rights, write_rights, both_rights}
use Rattle.def_image.specs.Sound.{Sound, Names}
use Rattle.def_boot.specs.Contents.{region_part}
use Rattle.def_boot.specs.Entries.{slot_entry}
use Rattle.def_boot.specs.Gates.{entries_of}
use Rattle.def_boot.specs.Boot.{image_of}
use Rattle.def_boot.specs.Rows.{HasRow, EntryIs, is_nothing, is_trusted, is_code, is_globals, is_slot, is_export, is_library, is_library_slot, is_library_export, is_stack}
use Rattle.law_boot.proofs.Listing.{entry_of}
use Rattle.law_boot.proofs.Regions.{Among, globals_there, sealed_there, shared_there, stack_there}
use Rattle.law_boot.proofs.Sets.{clash_of, no_way}
use Rattle.law_boot.proofs.Making.{device_base_is}
use Rattle.law_boot.proofs.Own.{stack_entry_is}
use Rattle.law_boot.proofs.Granules.{of_address, past_address}

-- ---- rights

code_keeps : bit CODE_RIGHTS store_data ≡ false
unfolding bit
code_keeps = refl

service_keeps : bit SERVICE_RIGHTS store_data ≡ false
unfolding bit
service_keeps = refl

export_keeps : bit EXPORT_RIGHTS store_data ≡ false
unfolding bit
export_keeps = refl

key_keeps : bit KEY_RIGHTS store_data ≡ false
unfolding bit
key_keeps = refl

none_keeps : bit 0 store_data ≡ false
unfolding bit
none_keeps = refl

sealed_carries : bit SEALED_RIGHTS memory_capability ≡ false
unfolding bit
sealed_carries = refl

read_carries : bit read_rights memory_capability ≡ false
unfolding bit
read_carries = refl

write_carries : bit write_rights memory_capability ≡ false
unfolding bit
write_carries = refl

both_carry : bit both_rights memory_capability ≡ false
unfolding bit
both_carry = refl

one_of : (Q : ℕ → Type 0) (a x : ℕ) (xs : List ℕ) → is_one_of a (x ∷ xs) ≡ true → Q x → (is_one_of a xs ≡ true → Q a) → Q a
one_of Q a x xs is here later = elim (eq_tells a x) [
  | inl same ↦ subst Q (sym same.1) here
  | inr other ↦ later (let P : Bool → Type 0 = λ b. (b || is_one_of a xs) ≡ true in subst P other.0 is)
]

device_carries : (a : ℕ) → is_one_of a device_right_sets ≡ true → bit a memory_capability ≡ false
device_carries a is =
    let Q : ℕ → Type 0 = λ x. bit x memory_capability ≡ false in
    one_of Q a read_rights (write_rights ∷ both_rights ∷ []) is read_carries
    (λ more. one_of Q a write_rights (both_rights ∷ []) more write_carries (λ last. one_of Q a both_rights [] last both_carry (λ none. no_way none)))

-- ---- what an entry stores to

abbrev pub Part : PartsRow → ℕ → Region
Part p x = image.region (image_of p) (granule_of (image_of p) x)

pub record Stores (p : PartsRow) (n : ℕ) (z : Root) : Type 0 where
  pub into : (x : ℕ) → p.ram ≤ x → bit z.rights store_data ≡ true → z.base ≤ x → x < z.top → StoresInto (image_of p) n (Part p x)
  pub carries : (x : ℕ) → bit z.rights store_data ≡ true → bit z.rights memory_capability ≡ true → z.base ≤ x → x < z.top → (p.ram ≤ x) × Carries (image_of p) n (Part p x)

keeps : (p : PartsRow) (n : ℕ) (z : Root) → bit z.rights store_data ≡ false → Stores p n z
keeps p n z none = record {
  into = λ x from stores low high. clash_of (bit z.rights store_data) stores none;
  carries = λ x stores carries low high. clash_of (bit z.rights store_data) stores none;
}

-- through an entry of a region
in_region : (p : PartsRow) → Sound p → (n : ℕ) (z : Root) (h : Holder) (base size : ℕ) → Among (regions_of p) h base size → z.base ≡ base → z.top ≡ base + size
    → ((k : ℕ) → StoresInto (image_of p) n (region_part h k)) → ((k : ℕ) → bit z.rights memory_capability ≡ true → Carries (image_of p) n (region_part h k)) → Stores p n z
in_region p s n z h base size a starts ends into carries = record {
  into = λ x from stores low high.
      let found = of_address p s x a.index (region_row h a.place base size) a.is (omega (arith, starts, low), omega (arith, ends, high)) in
      subst (λ r. StoresInto (image_of p) n r) (sym found.1) (into found.0);
  carries = λ x stores mc low high.
      let found = of_address p s x a.index (region_row h a.place base size) a.is (omega (arith, starts, low), omega (arith, ends, high)) in
      let laid = (s.laid.each a.index (region_row h a.place base size) a.is).low in
      (omega (arith, laid, starts, low), subst (λ r. Carries (image_of p) n r) (sym found.1) (carries found.0 mc));
}

module _ (p : PartsRow) (s : Sound p) where
  kept : (n : ℕ) (e : Entry) (g : Gate) → HasRow p n e g → bit e.rights store_data ≡ false → Stores p n (root_of (entries_of p) n)
  kept n e g h none = keeps p n (root_of (entries_of p) n) (ap (λ (z : Root). bit z.rights store_data) h.root_is ∙ none)

  slot_stores : (n : ℕ) (o : Owner) (at : ℕ) (r : ImportRow) (k : SlotKind) → Names p r k → fits_kind k (rights_of r) ≡ true → (is_library_kind k ≡ false → (a : ℕ) × (o ≡ Compartment a))
      → HasRow p n (slot_entry p o at r k) no_gate → Stores p n (root_of (entries_of p) n)
  unfolding image_of
  slot_stores n o at r slot.Service names fits owned h = kept n _ _ h (ap (λ a. bit a store_data) (eqb-true (rights_of r) SERVICE_RIGHTS fits) ∙ service_keeps)
  slot_stores n o at r slot.Device names fits owned h =
      let base = ap (λ (z : Root). z.base) h.root_is ∙ device_base_is p s r.first names.0 names.1 in
      let top = ap (λ (z : Root). z.top) h.root_is ∙ ap (λ a. a + 16) (device_base_is p s r.first names.0 names.1) in
      record {
        into = λ x from stores low high. elim (s.device r.first names.0 names.1).ram [
          | inl a ↦ absurd (omega (arith, a, top, high, from))
          | inr a ↦ subst (λ q. StoresInto (image_of p) n q) (sym (past_address p s x (omega (arith, a, base, low)))) (inr (ap (λ (z : Root). z.origin) h.root_is))
        ];
        carries = λ x stores mc low high. clash_of (bit (root_of (entries_of p) n).rights memory_capability) mc (ap (λ (z : Root). bit z.rights memory_capability) h.root_is ∙ device_carries (rights_of r) fits);
      }
  slot_stores n o at r slot.Shared names fits owned h =
      let same : shared p r.first ≡ names.0 = ap (λ z. unwrap_or z no_shared) names.1 in
      let whose = owned refl in
      in_region p s n (root_of (entries_of p) n) (SharedOf r.first) names.0.base names.0.length (shared_there p r.first names.0 names.1)
      (ap (λ (z : Root). z.base) h.root_is ∙ ap (λ (c : SharedRow). c.base) same) (ap (λ (z : Root). z.top) h.root_is ∙ ap (λ (c : SharedRow). c.base + c.length) same)
      (λ k. (ap (λ (z : Root). z.origin) h.root_is, ap (λ (z : Root). z.of) h.root_is))
      (λ k mc. (
        ap (λ (z : Root). z.origin) h.root_is,
        (
          whose.0,
          ap (λ (z : Root). z.owner) h.root_is ∙ whose.1,
          record { import = n; kind_is = ap (λ (z : Root). z.origin) h.root_is; importer = ap (λ (z : Root). z.owner) h.root_is ∙ whose.1; object_is = ap (λ (z : Root). z.of) h.root_is; capabilities = mc },
        ),
      ))
  slot_stores n o at r slot.Sealed names fits owned h =
      let same : sealed p r.first ≡ names.0 = ap (λ z. unwrap_or z no_sealed) names.1 in
      in_region p s n (root_of (entries_of p) n) (SealedOf r.first) names.0.base names.0.length (sealed_there p r.first names.0 names.1)
      (ap (λ (z : Root). z.base) h.root_is ∙ ap (λ (c : SealedRow). c.base) same) (ap (λ (z : Root). z.top) h.root_is ∙ ap (λ (c : SealedRow). c.base + c.length) same)
      (λ k. inl (ap (λ (z : Root). z.origin) h.root_is))
      (λ k mc. clash_of (bit (root_of (entries_of p) n).rights memory_capability) mc
      (ap (λ (z : Root). bit z.rights memory_capability) h.root_is ∙ ap (λ a. bit a memory_capability) (eqb-true (rights_of r) SEALED_RIGHTS fits) ∙ sealed_carries))
  slot_stores n o at r slot.Call names fits owned h = kept n _ _ h (ap (λ a. bit a store_data) (eqb-true (rights_of r) EXPORT_RIGHTS fits) ∙ export_keeps)
  slot_stores n o at r slot.Library names fits owned h = kept n _ _ h (ap (λ a. bit a store_data) (eqb-true (rights_of r) CODE_RIGHTS fits) ∙ code_keeps)
  slot_stores n o at r slot.Quota names fits owned h = kept n _ _ h (ap (λ a. bit a store_data) (eqb-true (rights_of r) QUOTA_RIGHTS fits) ∙ export_keeps)
  slot_stores n o at r slot.Key names fits owned h = kept n _ _ h (ap (λ a. bit a store_data) (eqb-true (rights_of r) KEY_RIGHTS fits) ∙ key_keeps)

  at : (n m : ℕ) → n ≡ m → Stores p m (root_of (entries_of p) m) → Stores p n (root_of (entries_of p) n)
  at n m same is = subst (λ k. Stores p k (root_of (entries_of p) k)) (sym same) is

  in_case : (n : ℕ) → EntryIs p n → Stores p n (root_of (entries_of p) n)
  unfolding image_of
  in_case n (is_nothing root_is gate_is made_is) = keeps p n _ (ap (λ (z : Root). bit z.rights store_data) root_is ∙ none_keeps)
  in_case n (is_trusted number root_is gate_is made_is) = keeps p n _ (ap (λ (z : Root). bit z.rights store_data) root_is ∙ service_keeps)
  in_case n (is_code b c h number) = at n _ number (kept _ _ _ h.code code_keeps)
  in_case n (is_globals b c h number) =
      at n _ number (in_region p s _ _ (GlobalsOf b) c.globals c.globals_length (globals_there p b c h.there)
      (ap (λ (z : Root). z.base) h.globals.root_is) (ap (λ (z : Root). z.top) h.globals.root_is)
      (λ k. (ap (λ (z : Root). z.origin) h.globals.root_is, ap (λ (z : Root). z.owner) h.globals.root_is))
      (λ k mc. (ap (λ (z : Root). z.origin) h.globals.root_is, ap (λ (z : Root). z.owner) h.globals.root_is)))
  in_case n (is_slot b c j x h is number) =
      let own = ((s.compartment b c h.there).slot j x is).fits in
      at n _ number (slot_stores _ (Compartment b) _ x.row x.row.kind own.names own.rights (λ any. (b, refl)) (h.slot j x is))
  in_case n (is_export b c j x h is number) = at n _ number (kept _ _ _ (h.export j x is) export_keeps)
  in_case n (is_library l c h number) = at n _ number (kept _ _ _ h.code code_keeps)
  in_case n (is_library_slot l c j x h is number) =
      let own = (s.library l c h.there).slot j x is in
      at n _ number (slot_stores _ (Library l) _ x.row x.row.kind own.fits.names own.fits.rights (λ other. no_way (sym other ∙ ap is_library_kind own.kind)) (h.slot j x is))
  in_case n (is_library_export l c j x h is number) = at n _ number (kept _ _ _ (h.export j x is) code_keeps)
  in_case n (is_stack t x h number) =
      at n _ number (in_region p s _ _ (StackOf t) x.stack x.stack_length (stack_there p t x h.there)
      (ap (λ (z : Root). z.base) h.row.root_is) (ap (λ (z : Root). z.top) h.row.root_is)
      (λ k. (ap (λ (z : Root). z.origin) h.row.root_is, sym (stack_entry_is p t (slice_get_within p.threads t x h.there))))
      (λ k mc. (ap (λ (z : Root). z.origin) h.row.root_is, sym (stack_entry_is p t (slice_get_within p.threads t x h.there)))))

  pub into : (n x : ℕ) → (image_of p).ram ≤ x → bit (root (image_of p) n).rights store_data ≡ true → (root (image_of p) n).base ≤ x → x < (root (image_of p) n).top → StoresInto (image_of p) n (Part p x)
  unfolding image_of
  into n x from stores low high = (in_case n (entry_of p n)).into x from stores low high

  pub carries : (n x : ℕ) → bit (root (image_of p) n).rights store_data ≡ true → bit (root (image_of p) n).rights memory_capability ≡ true → (root (image_of p) n).base ≤ x → x < (root (image_of p) n).top
      → ((image_of p).ram ≤ x) × Carries (image_of p) n (Part p x)
  unfolding image_of
  carries n x stores mc low high = (in_case n (entry_of p n)).carries x stores mc low high
