-- What stands in RAM at boot is rooted, and away from the heap.
use Rattle.std.proofs.Common.{ℕ, ◌≡◌, ◌<◌, inl, inr, true, false, nat_eq, Some, unwrap_or, refl, sym, ap, ◌∙◌, subst, arith}
use Rattle.law_lists.proofs.Tests.{bool_tells}
use Rattle.ct_entry.specs.declared.rows.Owner.{Owner}
use Rattle.ct_entry.specs.declared.rows.Entry.{Entry}
use Rattle.ct_entry.specs.declared.rows.Gate.{Gate}
use Rattle.def_words.specs.declared.Cap.{Cap}
use Rattle.def_words.specs.Authority.{cap_base}
use Rattle.def_reach.specs.Roots.{Root, root_of, listed_root, no_gate, is_root, is_quota}
use Rattle.def_machine.specs.Image.{Fixed, root, made_cap, booted}
use Rattle.def_machine.specs.Image as image
use Rattle.def_confined.specs.Capabilities.{Rooted, heap_cap, is_home}
use Rattle.def_confined.specs.Partitioned.{AwayFromHeap, BootMade}
use Rattle.def_image.specs.declared.ImportRow.{ImportRow}
use Rattle.def_image.specs.declared.SlotKind.{SlotKind}
use Rattle.def_image.specs.declared.SlotKind.TheVariants as slot
use Rattle.def_image.specs.Parts.{CodeRow, SharedRow, SealedRow, PartsRow}
use Rattle.def_image.specs.Members.{no_code, no_shared, no_sealed, library, shared, sealed}
use Rattle.def_image.specs.Sound.{Sound, Names}
use Rattle.def_boot.specs.Entries.{slot_entry}
use Rattle.def_boot.specs.Gates.{entries_of}
use Rattle.def_boot.specs.Boot.{image_of}
use Rattle.def_boot.specs.Rows.{HasRow, EntryIs, is_nothing, is_trusted, is_code, is_globals, is_slot, is_export, is_library, is_library_slot, is_library_export, is_stack}
use Rattle.law_boot.proofs.Listing.{entry_of}
use Rattle.law_boot.proofs.Sets.{no_way}
use Rattle.law_boot.proofs.Told.{Faithful}
use Rattle.law_boot.proofs.Clauses.{told_at, away_of}
use Rattle.law_boot.proofs.Booted.{made_stands}
use Rattle.law_boot.proofs.Contents.{booted_made}

-- ---- no entry of which something is made is empty

pub record Filled (z : Root) : Type 0 where
  pub some : is_root z.origin ≡ true → is_home z.origin z.owner ≡ true → z.base < z.top

filled : (z : Root) → z.base < z.top → Filled z
filled z some = record { some = λ root home. some }

module _ (p : PartsRow) (s : Sound p) where
  slot_filled : (o : Owner) (at : ℕ) (r : ImportRow) (k : SlotKind) → Names p r k → Filled (listed_root (Some (slot_entry p o at r k)) no_gate)
  slot_filled o at r slot.Service names = filled _ (omega arith)
  slot_filled o at r slot.Device names = filled _ (omega arith)
  slot_filled o at r slot.Shared names =
      let same : shared p r.first ≡ names.0 = ap (λ z. unwrap_or z no_shared) names.1 in
      let size = ap (λ (c : SharedRow). c.length) same in
      let some = (s.object r.first names.0 names.1).0 in
      filled _ (omega (arith, size, some))
  slot_filled o at r slot.Sealed names =
      let same : sealed p r.first ≡ names.0 = ap (λ z. unwrap_or z no_sealed) names.1 in
      let size = ap (λ (c : SealedRow). c.length) same in
      let some = (s.sealed r.first names.0 names.1).size.0 in
      filled _ (omega (arith, size, some))
  slot_filled o at r slot.Call names = filled _ (omega arith)
  slot_filled o at r slot.Library names =
      let same : library p r.first ≡ names.0 = ap (λ z. unwrap_or z no_code) names.2 in
      let size = ap (λ (c : CodeRow). c.length) same in
      let fits = s.library r.first names.0 names.2 in
      let text = fits.code.fits in
      let inside = (fits.export r.second names.1 names.3).offset.inside in
      filled _ (omega (arith, size, text, inside))
  slot_filled o at r slot.Quota names = filled _ (omega arith)
  slot_filled o at r slot.Key names = filled _ (omega arith)

  there : (n m : ℕ) (e : Entry) (g : Gate) → n ≡ m → HasRow p m e g → Filled (listed_root (Some e) g) → Filled (root_of (entries_of p) n)
  there n m e g same h is = subst (λ k. Filled (root_of (entries_of p) k)) (sym same) (subst (λ z. Filled z) (sym h.root_is) is)

  in_case : (n : ℕ) → EntryIs p n → Filled (root_of (entries_of p) n)
  in_case n (is_nothing root_is gate_is made_is) = subst (λ z. Filled z) (sym root_is) (record { some = λ root home. no_way root })
  in_case n (is_trusted number root_is gate_is made_is) = subst (λ z. Filled z) (sym root_is) (filled _ (omega arith))
  in_case n (is_code b c h number) =
      let fits = s.compartment b c h.there in
      let size = fits.code.fits in
      let some = fits.slots.0 in
      there n _ _ _ number h.code (filled _ (omega (arith, size, some)))
  in_case n (is_globals b c h number) = let some = (s.compartment b c h.there).globals.0 in there n _ _ _ number h.globals (filled _ (omega (arith, some)))
  in_case n (is_slot b c j x h is number) = there n _ _ _ number (h.slot j x is) (slot_filled _ _ x.row x.row.kind ((s.compartment b c h.there).slot j x is).fits.names)
  in_case n (is_export b c j x h is number) = there n _ _ _ number (h.export j x is) (record { some = λ root home. no_way root })
  in_case n (is_library l c h number) = there n _ _ _ number h.code (record { some = λ root home. no_way home })
  in_case n (is_library_slot l c j x h is number) = there n _ _ _ number (h.slot j x is) (slot_filled _ _ x.row x.row.kind ((s.library l c h.there).slot j x is).fits.names)
  in_case n (is_library_export l c j x h is number) = there n _ _ _ number (h.export j x is) (record { some = λ root home. no_way root })
  in_case n (is_stack t x h number) = let some = (s.thread t x h.there).stack.0 in there n _ _ _ number h.row (filled _ (omega (arith, some)))

  -- ---- what was made for an entry

  pub faithful : (n : ℕ) → (made_cap (image_of p) n).tag ≡ true → Faithful p n (root (image_of p) n) (made_cap (image_of p) n)
  faithful n tagged = elim (told_at p s n).made [
    | inl none ↦ no_way (sym (ap (λ (c : Cap). c.tag) none.plain_is) ∙ tagged)
    | inr f ↦ f
  ]

  pub boot_made : (n : ℕ) → (made_cap (image_of p) n).tag ≡ true → BootMade (image_of p) n (made_cap (image_of p) n)
  boot_made n tagged = made_stands p s n (faithful n tagged).roots tagged

  away_at : (n : ℕ) → (made_cap (image_of p) n).tag ≡ true → AwayFromHeap (image_of p) (cap_base (made_cap (image_of p) n))
  unfolding image_of
  away_at n tagged =
      let f = faithful n tagged in
      let some = (in_case n (entry_of p n)).some f.roots f.home in
      let at = f.made.made.base_is in
      elim (away_of p s _ _ _ (told_at p s n).lies) [ inl a ↦ inl (omega (arith, a, some, at)) | inr a ↦ inr (omega (arith, a, at)) ]

  pub no_object : (c : Cap) → c.shadow.source ≡ 0 → heap_cap (image_of p) c ≡ false
  no_object c source =
      let same : nat_eq c.shadow.source 0 ≡ true = ap (λ k. nat_eq k 0) source in
      elim (bool_tells (is_quota (root (image_of p) c.shadow.root).origin)) [
        | inl is ↦ rw (is, same) refl
        | inr none ↦ rw none refl
      ]

  -- ---- what stands in RAM

  made_there : (k : ℕ) → (booted (image_of p) k).cap.tag ≡ true → (n : ℕ) × ((booted (image_of p) k).cap ≡ made_cap (image_of p) n)
  unfolding image_of
  made_there k tagged = booted_made p k tagged

  moved : (P : Cap → Type 0) → ((n : ℕ) → (made_cap (image_of p) n).tag ≡ true → P (made_cap (image_of p) n)) → (k : ℕ) → (booted (image_of p) k).cap.tag ≡ true → P (booted (image_of p) k).cap
  moved P each k tagged =
      let found = made_there k tagged in
      subst P (sym found.1) (each found.0 (ap (λ (c : Cap). c.tag) (sym found.1) ∙ tagged))

  pub boot_rooted : (k : ℕ) → image.region (image_of p) k ≡ Fixed → (booted (image_of p) k).cap.tag ≡ true → Rooted (image_of p) (booted (image_of p) k).cap
  boot_rooted k fixed tagged = moved (λ c. Rooted (image_of p) c) (λ n t. (boot_made n t).rooted) k tagged

  pub boot_away : (k : ℕ) → image.region (image_of p) k ≡ Fixed → (booted (image_of p) k).cap.tag ≡ true → AwayFromHeap (image_of p) (cap_base (booted (image_of p) k).cap)
  boot_away k fixed tagged = moved (λ c. AwayFromHeap (image_of p) (cap_base c)) away_at k tagged

  pub boot_no_heap : (k : ℕ) → image.region (image_of p) k ≡ Fixed → (booted (image_of p) k).cap.tag ≡ true → heap_cap (image_of p) (booted (image_of p) k).cap ≡ false
  boot_no_heap k fixed tagged = moved (λ c. heap_cap (image_of p) c ≡ false) (λ n t. no_object (made_cap (image_of p) n) (boot_made n t).source) k tagged
