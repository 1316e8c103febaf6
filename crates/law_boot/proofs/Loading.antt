-- What entries load capabilities through.
use Rattle.std.proofs.Common.{ℕ, ◌≡◌, ◌+◌, ◌-◌, ◌*◌, ◌/◌, ◌≤◌, ◌<◌, inl, inr, true, false, length, Some, unwrap_or, slice_get, refl, sym, ap, ◌∙◌, subst, arith}
use Rattle.std.proofs.lemmas.Bool.{eqb-true}
use Rattle.std.proofs.lemmas.Option.{slice_get_within}
use Rattle.law_lists.proofs.Tests.{lt_tells}
use Rattle.law_lists.proofs.Places.{present}
use Rattle.ct_entry.specs.declared.rows.Owner.{Owner}
use Rattle.ct_entry.specs.declared.rows.Owner.TheVariants.{Compartment, Library}
use Rattle.def_profile.specs.declared.layout.TheConstants.{SLOT_SIZE}
use Rattle.def_profile.specs.declared.native.TheConstants.{NATIVE_BASE, NATIVE_END}
use Rattle.def_profile.specs.declared.rights.TheConstants.{EXPORT_RIGHTS, QUOTA_RIGHTS, KEY_RIGHTS}
use Rattle.def_words.specs.declared.Cap.{Cap}
use Rattle.def_words.specs.Permissions.{bit, load_data, memory_capability}
use Rattle.def_words.specs.Seals.{cap_seal}
use Rattle.def_reach.specs.Roots.{Root, Listing, root_of, no_gate, is_stack as for_stack, is_owned}
use Rattle.def_reach.specs.Sharing.{Reaches}
use Rattle.def_machine.specs.Image.{root, made_cap, booted, granule_of, address_of}
use Rattle.def_machine.specs.Image as image
use Rattle.def_confined.specs.Partitioned.{Loads, BootHeld}
use Rattle.def_image.specs.declared.ImportRow.{ImportRow}
use Rattle.def_image.specs.declared.SlotKind.{SlotKind}
use Rattle.def_image.specs.declared.SlotKind.TheVariants as slot
use Rattle.def_image.specs.Parts.{SlotRow, SharedRow, SealedRow, CodeRow, CompartmentRow, PartsRow}
use Rattle.def_image.specs.Members.{no_code, no_compartment, no_shared, no_sealed, compartment, library, shared, sealed, code_number, library_number}
use Rattle.def_image.specs.Regions.{Holder, CodeOf, GlobalsOf, SharedOf, SealedOf, StackOf, RegionRow, region_row, regions_of}
use Rattle.def_image.specs.Rights.{fits_kind, rights_of, is_library as is_library_kind}
use Rattle.def_image.specs.Laid.{IsIn, IsRegion}
use Rattle.def_image.specs.Sound.{Sound, Names}
use Rattle.def_boot.specs.Contents.{content, content_at, code_content, region_part, boot_cap}
use Rattle.def_boot.specs.Entries.{slot_entry}
use Rattle.def_boot.specs.Gates.{entries_of}
use Rattle.def_boot.specs.Boot.{image_of}
use Rattle.def_boot.specs.Rows.{HasRow, EntryIs, is_nothing, is_trusted, is_code, is_globals, is_slot, is_export, is_library, is_library_slot, is_library_export, is_stack}
use Rattle.law_boot.proofs.Listing.{entry_of}
use Rattle.law_boot.proofs.Standing.{compartment_of, library_of, slot_owner}
use Rattle.law_boot.proofs.Regions.{Among, code_there, globals_there, library_there, sealed_there, shared_there, stack_there}
use Rattle.law_boot.proofs.Sets.{clash_of, no_way}
use Rattle.law_boot.proofs.Making.{device_base_is}
use Rattle.law_boot.proofs.Own.{stack_entry_is}
use Rattle.law_boot.proofs.Imports.{reach}
use Rattle.law_boot.proofs.Found.{found}
use Rattle.law_boot.proofs.Granules.{of_address, past_address, at_region, whole}
use Rattle.law_boot.proofs.Storing.{Part}
use Rattle.law_boot.proofs.Contents.{booted_in}
use Rattle.law_boot.proofs.Rooting.{faithful, boot_made, no_object}

export_carries : bit EXPORT_RIGHTS memory_capability ≡ false
unfolding bit
export_carries = refl

key_carries : bit KEY_RIGHTS memory_capability ≡ false
unfolding bit
key_carries = refl

none_carries : bit 0 memory_capability ≡ false
unfolding bit
none_carries = refl

-- no slot is a stack
slot_no_stack : (p : PartsRow) (o : Owner) (at : ℕ) (r : ImportRow) (k : SlotKind) → for_stack (Listing (slot_entry p o at r k).kind) ≡ false
slot_no_stack p o at r slot.Service = refl
slot_no_stack p o at r slot.Device = refl
slot_no_stack p o at r slot.Shared = refl
slot_no_stack p o at r slot.Sealed = refl
slot_no_stack p o at r slot.Call = refl
slot_no_stack p o at r slot.Library = refl
slot_no_stack p o at r slot.Quota = refl
slot_no_stack p o at r slot.Key = refl

abbrev Held : PartsRow → ℕ → Cap
Held p x = (booted (image_of p) (granule_of (image_of p) x)).cap

pub record Loaded (p : PartsRow) (n : ℕ) (z : Root) : Type 0 where
  pub loads : (x : ℕ) → p.ram ≤ x → bit z.rights memory_capability ≡ true → z.base ≤ x → x < z.top → Loads (image_of p) n (Held p x) (Part p x)

-- an entry number of this owner, no stack's
record SlotOf (p : PartsRow) (o : Owner) (m : ℕ) : Type 0 where
  pub owner : (root (image_of p) m).owner ≡ o
  pub no_stack : for_stack (root (image_of p) m).origin ≡ false

unread : (p : PartsRow) (n : ℕ) (z : Root) → bit z.rights memory_capability ≡ false → Loaded p n z
unread p n z none = record { loads = λ x from mc low high. clash_of (bit z.rights memory_capability) mc none }

module _ (p : PartsRow) (s : Sound p) where
  -- past RAM
  outside : (n : ℕ) (z : Root) → ((x : ℕ) → p.ram ≤ x → z.base ≤ x → x < z.top → p.ram + p.size ≤ x) → Loaded p n z
  outside n z away = record { loads = λ x from mc low high. subst (λ r. Loads (image_of p) n (Held p x) r) (sym (past_address p s x (away x from low high))) tt }

  past_natives : (base top x : ℕ) → NATIVE_BASE ≤ base → top ≤ NATIVE_END → p.ram ≤ x → base ≤ x → x < top → p.ram + p.size ≤ x
  past_natives base top x start end from low high = elim s.ram.native [ inl a ↦ omega (arith, a, start, low) | inr a ↦ absurd (omega (arith, a, end, high, from)) ]

  -- through a region that isn't fixed
  in_part : (n : ℕ) (z : Root) (h : Holder) (base size : ℕ) → Among (regions_of p) h base size → z.base ≡ base → z.top ≡ base + size
      → ((k : ℕ) (c : Cap) → bit z.rights memory_capability ≡ true → Loads (image_of p) n c (region_part h k)) → Loaded p n z
  in_part n z h base size a starts ends loads = record {
    loads = λ x from mc low high.
        let there = of_address p s x a.index (region_row h a.place base size) a.is (omega (arith, starts, low), omega (arith, ends, high)) in
        subst (λ r. Loads (image_of p) n (Held p x) r) (sym there.1) (loads there.0 (Held p x) mc);
  }

  -- ---- code

  content_there : (k i : ℕ) (r : RegionRow) → IsRegion p i r → IsIn r (address_of (image_of p) k) → (booted (image_of p) k).cap ≡ content p r.holder (address_of (image_of p) k - r.base)
  unfolding image_of boot_cap
  content_there k i r is lies =
      let high = (s.laid.each i r is).high in
      let inside = s.heap.inside in
      let size = s.ram.size in
      let lt = lies.1 in
      booted_in p k (omega (arith, lt, high, inside, size)) ∙ ap (λ o. content_at p o (address_of (image_of p) k)) (found p s i (address_of (image_of p) k) r is lies)

  held_slot : (n m : ℕ) (o : Owner) (c : Cap) → SlotOf p o m → ((d : ℕ) → Reaches (image_of p).entries (root (image_of p) n).owner d → Reaches (image_of p).entries o d)
      → c ≡ made_cap (image_of p) m → c.tag ≡ true → BootHeld (image_of p) n c
  held_slot n m o c own reaching e tagged =
      let tag = ap (λ (z : Cap). z.tag) (sym e) ∙ tagged in
      let made = boot_made p s m tag in
      let f = faithful p s m tag in
      let number : c.shadow.root ≡ m = ap (λ (z : Cap). z.shadow.root) e ∙ made.from in
      let source : c.shadow.source ≡ 0 = ap (λ (z : Cap). z.shadow.source) e ∙ made.source in
      record {
        no_stack = ap (λ k. for_stack (root (image_of p) k).origin) number ∙ own.no_stack;
        no_heap = no_object p s c source;
        owner = λ owned d reaches.
            let same : (root (image_of p) c.shadow.root).owner ≡ o = ap (λ k. (root (image_of p) k).owner) number ∙ own.owner in
            let P : Owner → Type 0 = λ w. Reaches (image_of p).entries w d in
            subst P (sym same) (reaching d reaches);
        no_source = λ four. f.says.not_off (sym f.made.made.kind_is ∙ ap cap_seal (sym e) ∙ four);
      }

  held_code : (n first : ℕ) (o : Owner) (c : CodeRow) → ((j : ℕ) (x : SlotRow) → slice_get c.slots j ≡ Some x → SlotOf p o (first + j))
      → ((d : ℕ) → Reaches (image_of p).entries (root (image_of p) n).owner d → Reaches (image_of p).entries o d) → (k : ℕ) (d : Cap) → d ≡ code_content p first c k → d.tag ≡ true → BootHeld (image_of p) n d
  unfolding image_of
  held_code n first o c slots reaching k d e tagged = elim (lt_tells k (SLOT_SIZE * length c.slots)) [
    | inl lt ↦
        let few = lt.1 in
        let found = present c.slots (k / SLOT_SIZE) (omega (arith, few)) in
        held_slot n (first + k / SLOT_SIZE) o d (slots (k / SLOT_SIZE) found.0 found.1) reaching (e ∙ rw lt.0 refl) tagged
    | inr past ↦
        let bare : d.tag ≡ false = ap (λ (z : Cap). z.tag) e ∙ rw past.0 refl in
        no_way (sym bare ∙ tagged)
  ]

  -- through an entry of code
  in_code : (n : ℕ) (z : Root) (o : Owner) (base size : ℕ) → Among (regions_of p) (CodeOf o) base size → z.base ≡ base → z.top ≡ base + size → is_owned (root (image_of p) n).origin ≡ true
      → ((k : ℕ) (d : Cap) → d ≡ content p (CodeOf o) k → d.tag ≡ true → BootHeld (image_of p) n d) → Loaded p n z
  in_code n z o base size a starts ends owned held = record {
    loads = λ x from mc low high.
        let r = region_row (CodeOf o) a.place base size in
        let lies = whole p s x a.index r a.is (omega (arith, starts, low), omega (arith, ends, high)) in
        let part = at_region p s (granule_of (image_of p) x) a.index r a.is lies in
        let there = content_there (granule_of (image_of p) x) a.index r a.is lies in
        subst (λ q. Loads (image_of p) n (Held p x) q) (sym part)
        (owned, λ tagged. held (address_of (image_of p) (granule_of (image_of p) x) - base) (Held p x) there tagged);
  }

  own_code : (n b : ℕ) (c : CompartmentRow) → slice_get p.compartments b ≡ Some c → ((d : ℕ) → Reaches (image_of p).entries (root (image_of p) n).owner d → Reaches (image_of p).entries (Compartment b) d)
      → (k : ℕ) (d : Cap) → d ≡ content p (CodeOf (Compartment b)) k → d.tag ≡ true → BootHeld (image_of p) n d
  unfolding image_of
  own_code n b c is reaching k d e tagged =
      let same : compartment p b ≡ c = ap (λ z. unwrap_or z no_compartment) is in
      let has = compartment_of p b c is in
      held_code n (code_number p b + 2) (Compartment b) c.code (λ j x at. record {
        owner = ap (λ (z : Root). z.owner) (has.slot j x at).root_is ∙ slot_owner p (Compartment b) _ x.row x.row.kind;
        no_stack = ap (λ (z : Root). for_stack z.origin) (has.slot j x at).root_is ∙ slot_no_stack p (Compartment b) _ x.row x.row.kind;
      }) reaching k d (e ∙ ap (λ (z : CompartmentRow). code_content p (code_number p b + 2) z.code k) same) tagged

  library_code : (n l : ℕ) (c : CodeRow) → slice_get p.libraries l ≡ Some c → ((d : ℕ) → Reaches (image_of p).entries (root (image_of p) n).owner d → Reaches (image_of p).entries (Library l) d)
      → (k : ℕ) (d : Cap) → d ≡ content p (CodeOf (Library l)) k → d.tag ≡ true → BootHeld (image_of p) n d
  unfolding image_of
  library_code n l c is reaching k d e tagged =
      let same : library p l ≡ c = ap (λ z. unwrap_or z no_code) is in
      let has = library_of p l c is in
      held_code n (library_number p l + 1) (Library l) c (λ j x at. record {
        owner = ap (λ (z : Root). z.owner) (has.slot j x at).root_is ∙ slot_owner p (Library l) _ x.row x.row.kind;
        no_stack = ap (λ (z : Root). for_stack z.origin) (has.slot j x at).root_is ∙ slot_no_stack p (Library l) _ x.row x.row.kind;
      }) reaching k d (e ∙ ap (λ (z : CodeRow). code_content p (library_number p l + 1) z k) same) tagged

  -- an owner reaches what it reaches
  itself : (n : ℕ) (o : Owner) → (root (image_of p) n).owner ≡ o → (d : ℕ) → Reaches (image_of p).entries (root (image_of p) n).owner d → Reaches (image_of p).entries o d
  itself n o same d reaches = let P : Owner → Type 0 = λ w. Reaches (image_of p).entries w d in subst P same reaches

  -- ---- slots

  slot_loads : (n : ℕ) (o : Owner) (at : ℕ) (r : ImportRow) (k : SlotKind) → Names p r k → fits_kind k (rights_of r) ≡ true → (is_library_kind k ≡ false → (a : ℕ) × (o ≡ Compartment a))
      → HasRow p n (slot_entry p o at r k) no_gate → Loaded p n (root_of (entries_of p) n)
  unfolding image_of
  slot_loads n o at r slot.Service names fits owned h =
      let base = ap (λ (z : Root). z.base) h.root_is in
      let top = ap (λ (z : Root). z.top) h.root_is in
      outside n _ (λ x from low high. past_natives _ _ x (omega (arith, base)) (omega (arith, top, names)) from low high)
  slot_loads n o at r slot.Device names fits owned h =
      let base = ap (λ (z : Root). z.base) h.root_is ∙ device_base_is p s r.first names.0 names.1 in
      let top = ap (λ (z : Root). z.top) h.root_is ∙ ap (λ a. a + 16) (device_base_is p s r.first names.0 names.1) in
      outside n _ (λ x from low high. elim (s.device r.first names.0 names.1).ram [ inl a ↦ absurd (omega (arith, a, top, high, from)) | inr a ↦ omega (arith, a, base, low) ])
  slot_loads n o at r slot.Shared names fits owned h =
      let same : shared p r.first ≡ names.0 = ap (λ z. unwrap_or z no_shared) names.1 in
      let whose = owned refl in
      in_part n _ (SharedOf r.first) names.0.base names.0.length (shared_there p r.first names.0 names.1)
      (ap (λ (z : Root). z.base) h.root_is ∙ ap (λ (c : SharedRow). c.base) same) (ap (λ (z : Root). z.top) h.root_is ∙ ap (λ (c : SharedRow). c.base + c.length) same)
      (λ k c mc. (
        ap (λ (z : Root). z.origin) h.root_is,
        (
          whose.0,
          ap (λ (z : Root). z.owner) h.root_is ∙ whose.1,
          record { import = n; kind_is = ap (λ (z : Root). z.origin) h.root_is; importer = ap (λ (z : Root). z.owner) h.root_is ∙ whose.1; object_is = ap (λ (z : Root). z.of) h.root_is; capabilities = mc },
        ),
      ))
  slot_loads n o at r slot.Sealed names fits owned h =
      let same : sealed p r.first ≡ names.0 = ap (λ z. unwrap_or z no_sealed) names.1 in
      in_part n _ (SealedOf r.first) names.0.base names.0.length (sealed_there p r.first names.0 names.1)
      (ap (λ (z : Root). z.base) h.root_is ∙ ap (λ (c : SealedRow). c.base) same) (ap (λ (z : Root). z.top) h.root_is ∙ ap (λ (c : SealedRow). c.base + c.length) same)
      (λ k c mc. tt)
  slot_loads n o at r slot.Call names fits owned h = unread p n _ (ap (λ (z : Root). bit z.rights memory_capability) h.root_is ∙ ap (λ a. bit a memory_capability) (eqb-true (rights_of r) EXPORT_RIGHTS fits) ∙ export_carries)
  slot_loads n o at r slot.Library names fits owned h =
      let same : library p r.first ≡ names.0 = ap (λ z. unwrap_or z no_code) names.2 in
      let origin = ap (λ (z : Root). z.origin) h.root_is in
      let of = ap (λ (z : Root). z.of) h.root_is in
      let row = ((library_of p r.first names.0 names.2).export r.second names.1 names.3).root_is in
      let whose : (root_of (entries_of p) (root_of (entries_of p) n).of).owner ≡ Library r.first = ap (λ m. (root_of (entries_of p) m).owner) of ∙ ap (λ (z : Root). z.owner) row in
      in_code n _ (Library r.first) names.0.base names.0.length (library_there p r.first names.0 names.2)
      (ap (λ (z : Root). z.base) h.root_is ∙ ap (λ (c : CodeRow). c.base) same) (ap (λ (z : Root). z.top) h.root_is ∙ ap (λ (c : CodeRow). c.base + c.length) same)
      (ap is_owned origin)
      (library_code n r.first names.0 names.2 (λ d reaches. let P : Owner → Type 0 = λ w. Reaches (image_of p).entries w d in subst P whose (reach p s n d origin reaches)))
  slot_loads n o at r slot.Quota names fits owned h = unread p n _ (ap (λ (z : Root). bit z.rights memory_capability) h.root_is ∙ ap (λ a. bit a memory_capability) (eqb-true (rights_of r) QUOTA_RIGHTS fits) ∙ export_carries)
  slot_loads n o at r slot.Key names fits owned h = unread p n _ (ap (λ (z : Root). bit z.rights memory_capability) h.root_is ∙ ap (λ a. bit a memory_capability) (eqb-true (rights_of r) KEY_RIGHTS fits) ∙ key_carries)

  -- ---- by number

  at : (n m : ℕ) → n ≡ m → Loaded p m (root_of (entries_of p) m) → Loaded p n (root_of (entries_of p) n)
  at n m same is = subst (λ k. Loaded p k (root_of (entries_of p) k)) (sym same) is

  in_case : (n : ℕ) → EntryIs p n → Loaded p n (root_of (entries_of p) n)
  unfolding image_of
  in_case n (is_nothing root_is gate_is made_is) = unread p n _ (ap (λ (z : Root). bit z.rights memory_capability) root_is ∙ none_carries)
  in_case n (is_trusted number root_is gate_is made_is) =
      let base = ap (λ (z : Root). z.base) root_is in
      let top = ap (λ (z : Root). z.top) root_is in
      outside n _ (λ x from low high. past_natives _ _ x (omega (arith, base)) (omega (arith, top)) from low high)
  in_case n (is_code b c h number) =
      at n _ number (in_code _ _ (Compartment b) c.code.base c.code.length (code_there p b c h.there) (ap (λ (z : Root). z.base) h.code.root_is) (ap (λ (z : Root). z.top) h.code.root_is)
      (ap (λ (z : Root). is_owned z.origin) h.code.root_is) (own_code _ b c h.there (itself _ (Compartment b) (ap (λ (z : Root). z.owner) h.code.root_is))))
  in_case n (is_globals b c h number) =
      at n _ number (in_part _ _ (GlobalsOf b) c.globals c.globals_length (globals_there p b c h.there) (ap (λ (z : Root). z.base) h.globals.root_is) (ap (λ (z : Root). z.top) h.globals.root_is)
      (λ k d mc. (ap (λ (z : Root). z.origin) h.globals.root_is, ap (λ (z : Root). z.owner) h.globals.root_is)))
  in_case n (is_slot b c j x h is number) =
      let own = ((s.compartment b c h.there).slot j x is).fits in
      at n _ number (slot_loads _ (Compartment b) _ x.row x.row.kind own.names own.rights (λ any. (b, refl)) (h.slot j x is))
  in_case n (is_export b c j x h is number) = at n _ number (unread p _ _ (ap (λ (z : Root). bit z.rights memory_capability) (h.export j x is).root_is ∙ export_carries))
  in_case n (is_library l c h number) =
      at n _ number (in_code _ _ (Library l) c.base c.length (library_there p l c h.there) (ap (λ (z : Root). z.base) h.code.root_is) (ap (λ (z : Root). z.top) h.code.root_is)
      (ap (λ (z : Root). is_owned z.origin) h.code.root_is) (library_code _ l c h.there (itself _ (Library l) (ap (λ (z : Root). z.owner) h.code.root_is))))
  in_case n (is_library_slot l c j x h is number) =
      let own = (s.library l c h.there).slot j x is in
      at n _ number (slot_loads _ (Library l) _ x.row x.row.kind own.fits.names own.fits.rights (λ other. no_way (sym other ∙ ap is_library_kind own.kind)) (h.slot j x is))
  in_case n (is_library_export l c j x h is number) =
      let row = (h.export j x is).root_is in
      at n _ number (in_code _ _ (Library l) c.base c.length (library_there p l c h.there) (ap (λ (z : Root). z.base) row) (ap (λ (z : Root). z.top) row)
      (ap (λ (z : Root). is_owned z.origin) row) (library_code _ l c h.there (itself _ (Library l) (ap (λ (z : Root). z.owner) row))))
  in_case n (is_stack t x h number) =
      at n _ number (in_part _ _ (StackOf t) x.stack x.stack_length (stack_there p t x h.there) (ap (λ (z : Root). z.base) h.row.root_is) (ap (λ (z : Root). z.top) h.row.root_is)
      (λ k d mc. (ap (λ (z : Root). z.origin) h.row.root_is, sym (stack_entry_is p t (slice_get_within p.threads t x h.there)))))

  pub loads : (n x : ℕ) → (image_of p).ram ≤ x → bit (root (image_of p) n).rights load_data ≡ true → bit (root (image_of p) n).rights memory_capability ≡ true → (root (image_of p) n).base ≤ x → x < (root (image_of p) n).top
      → Loads (image_of p) n (Held p x) (Part p x)
  unfolding image_of
  loads n x from ld mc low high = (in_case n (entry_of p n)).loads x from mc low high
