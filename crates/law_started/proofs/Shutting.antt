-- No entry of a sound image reaches the threads' areas or the heap.
use Rattle.std.proofs.Common.{ℕ, ◌≡◌, ◌+◌, ◌%◌, ◌<◌, ◌≤◌, ◌⊎◌, inl, inr, Bool, true, false, List, [], ◌∷◌, map, Some, unwrap_or, slice_get, refl, sym, ap, ◌∙◌, subst, arith}
use Rattle.std.proofs.lemmas.Option.{slice_get_within}
use Rattle.law_lists.proofs.Tests.{lt_tells}
use Rattle.ct_entry.specs.declared.rows.Owner.{Owner}
use Rattle.ct_entry.specs.declared.rows.Owner.TheVariants.{Compartment, Library}
use Rattle.def_profile.specs.declared.layout.TheConstants.{TRUSTED_HEAD, SLOT_SIZE}
use Rattle.def_reach.specs.Roots.{Root, root_of, listed_root, no_gate}
use Rattle.def_machine.specs.Image.{areas_size}
use Rattle.def_hidden.specs.Hidden.{Shut}
use Rattle.def_image.specs.declared.ImportRow.{ImportRow}
use Rattle.def_image.specs.declared.SlotKind.{SlotKind}
use Rattle.def_image.specs.declared.SlotKind.TheVariants as slot
use Rattle.def_image.specs.Parts.{SharedRow, SealedRow, CodeRow, CompartmentRow, ThreadRow, PartsRow}
use Rattle.def_image.specs.Members.{no_code, no_compartment, no_shared, no_sealed, compartment, library, shared, sealed}
use Rattle.def_image.specs.Regions.{Holder, CodeOf, TableOf, GlobalsOf, SharedOf, SealedOf, StackOf, RegionRow, region_row, trusted_region, trusted_size, table_size, regions_of}
use Rattle.def_image.specs.Regions as regions
use Rattle.def_image.specs.Laid.{IsRegion}
use Rattle.def_image.specs.Sound.{Sound, Names}
use Rattle.def_boot.specs.Entries.{slot_entry}
use Rattle.def_boot.specs.Gates.{entries_of}
use Rattle.def_boot.specs.Boot.{image_of}
use Rattle.def_boot.specs.Rows.{EntryIs, is_nothing, is_trusted, is_code, is_globals, is_slot, is_export, is_library, is_library_slot, is_library_export, is_stack}
use Rattle.law_boot.proofs.Listing.{entry_of}
use Rattle.law_boot.proofs.Regions.{Among, code_there, globals_there, library_there, sealed_there, shared_there, stack_there, table_there}
use Rattle.law_boot.proofs.Lying.{trusted_there}
use Rattle.law_boot.proofs.Making.{device_base_is}
use Rattle.law_boot.proofs.Sets.{no_way}
use Rattle.law_boot.proofs.Clauses.{told_at, away_of}
use Rattle.law_started.proofs.Whole.{areas_are, areas_fit}
use Rattle.law_layout.proofs.Placing.{size_fits}

-- ---- apart from the areas

abbrev pub Ends : PartsRow → ℕ
Ends p = p.trusted + TRUSTED_HEAD + areas_size (map (λ (x : ThreadRow). x.frames) p.threads)

pub record Clear (p : PartsRow) (z : Root) : Type 0 where
  pub away : (x : ℕ) → z.base ≤ x → x < z.top → (x < p.trusted + TRUSTED_HEAD) ⊎ (Ends p ≤ x)

abbrev is_trusted_holder : Holder → Bool
is_trusted_holder regions.TrustedPart = true
is_trusted_holder _ = false

areas_even : (ns : List ℕ) → areas_size ns % 8 ≡ 0
areas_even [] = refl
areas_even (n ∷ ns) = let rest = areas_even ns in omega (arith, rest)

module _ (p : PartsRow) (s : Sound p) where
  pub first_region : IsRegion p 0 (trusted_region p)
  unfolding regions_of
  first_region = refl

  pub ends_in : Ends p ≤ p.trusted + regions.trusted_length p
  ends_in = let long = size_fits (trusted_size p.threads) in let same = areas_are p.threads in omega (arith, long, same)

  not_both : (h : Holder) (place base size x : ℕ) → (i : ℕ) → IsRegion p i (region_row h place base size) → is_trusted_holder h ≡ false → base ≤ x → x < base + size → p.trusted ≤ x → x < Ends p → ⊥
  not_both h place base size x i is other low high from to =
      let long = ends_in in
      let index : i ≡ 0 = s.laid.one i 0 x (region_row h place base size) (trusted_region p) is first_region (low, high) (from, omega (arith, to, long)) in
      let both : Some (region_row h place base size) ≡ Some (trusted_region p) = sym is ∙ ap (λ k. slice_get (regions_of p) k) index ∙ first_region in
      let same : region_row h place base size ≡ trusted_region p = cc in
      no_way (sym other ∙ ap (λ (r : RegionRow). is_trusted_holder r.holder) same)

  in_region : (z : Root) (h : Holder) (base size : ℕ) → Among (regions_of p) h base size → is_trusted_holder h ≡ false → base ≤ z.base → z.top ≤ base + size → Clear p z
  in_region z h base size a other starts stops = record {
    away = λ x low high. elim (lt_tells x (p.trusted + TRUSTED_HEAD)) [
      | inl lt ↦ inl lt.1
      | inr past ↦ elim (lt_tells x (Ends p)) [
        | inl to ↦ let gone = past.1 in absurd (not_both h a.place base size x a.index a.is other (omega (arith, starts, low)) (omega (arith, stops, high)) (omega (arith, gone)) to.1)
        | inr after ↦ inr after.1
      ]
    ];
  }

  -- out of RAM, or below its first granule's end
  out_of_ram : (z : Root) → (z.top ≤ p.ram + 16) ⊎ (p.ram + p.size ≤ z.base) → Clear p z
  out_of_ram z any = record {
    away = λ x low high.
        let start = (trusted_there p s).low in
        let stop = areas_fit p s in
        elim any [ inl a ↦ inl (omega (arith, a, high, start)) | inr a ↦ inr (omega (arith, a, low, stop)) ];
  }

  slot_clear : (o : Owner) (at : ℕ) (r : ImportRow) (k : SlotKind) (h : Holder) (base size : ℕ) → Among (regions_of p) h base size → is_trusted_holder h ≡ false → base ≤ at → at + SLOT_SIZE ≤ base + size → Names p r k
      → Clear p (listed_root (Some (slot_entry p o at r k)) no_gate)
  slot_clear o at r slot.Service h base size a other low high names = out_of_ram _ (elim s.ram.native [ inl b ↦ inr (omega (arith, b)) | inr b ↦ inl (omega (arith, b, names)) ])
  slot_clear o at r slot.Device h base size a other low high names =
      let same = device_base_is p s r.first names.0 names.1 in
      out_of_ram _ (elim (s.device r.first names.0 names.1).ram [ inl b ↦ inl (omega (arith, b, same)) | inr b ↦ inr (omega (arith, b, same)) ])
  slot_clear o at r slot.Shared h base size a other low high names =
      let same : shared p r.first ≡ names.0 = ap (λ z. unwrap_or z no_shared) names.1 in
      let from = ap (λ (c : SharedRow). c.base) same in
      let long = ap (λ (c : SharedRow). c.length) same in
      in_region _ (SharedOf r.first) _ _ (shared_there p r.first names.0 names.1) refl (omega (arith, from)) (omega (arith, from, long))
  slot_clear o at r slot.Sealed h base size a other low high names =
      let same : sealed p r.first ≡ names.0 = ap (λ z. unwrap_or z no_sealed) names.1 in
      let from = ap (λ (c : SealedRow). c.base) same in
      let long = ap (λ (c : SealedRow). c.length) same in
      in_region _ (SealedOf r.first) _ _ (sealed_there p r.first names.0 names.1) refl (omega (arith, from)) (omega (arith, from, long))
  slot_clear o at r slot.Call h base size a other low high names =
      let same : compartment p r.first ≡ names.0 = ap (λ z. unwrap_or z no_compartment) names.2 in
      let from = ap (λ (c : CompartmentRow). c.table) same in
      let few = slice_get_within names.0.code.exports r.second names.1 names.3 in
      let long = size_fits (table_size names.0.code) in
      in_region _ (TableOf r.first) _ _ (table_there p r.first names.0 names.2) refl (omega (arith, from)) (omega (arith, from, few, long))
  slot_clear o at r slot.Library h base size a other low high names =
      let same : library p r.first ≡ names.0 = ap (λ z. unwrap_or z no_code) names.2 in
      let from = ap (λ (c : CodeRow). c.base) same in
      let long = ap (λ (c : CodeRow). c.length) same in
      in_region _ (CodeOf (Library r.first)) _ _ (library_there p r.first names.0 names.2) refl (omega (arith, from)) (omega (arith, from, long))
  slot_clear o at r slot.Quota h base size a other low high names = in_region _ h base size a other low high
  slot_clear o at r slot.Key h base size a other low high names = let most = names.1 in out_of_ram _ (inl (omega (arith, most)))

  abbrev ClearAt : ℕ → Type 0
  ClearAt n = Clear p (root_of (entries_of p) n)

  at : (n m : ℕ) (z : Root) → n ≡ m → root_of (entries_of p) m ≡ z → Clear p z → ClearAt n
  at n m z same is clear = subst ClearAt (sym same) (subst (λ (y : Root). Clear p y) (sym is) clear)

  in_case : (n : ℕ) → EntryIs p n → ClearAt n
  in_case n (is_nothing root_is gate_is made_is) = at n n _ refl root_is (out_of_ram _ (inl (omega arith)))
  in_case n (is_trusted number root_is gate_is made_is) = at n n _ refl root_is (out_of_ram _ (elim s.ram.native [ inl b ↦ inr (omega (arith, b)) | inr b ↦ inl (omega (arith, b)) ]))
  in_case n (is_code b c h number) = at n _ _ number h.code.root_is (in_region _ (CodeOf (Compartment b)) _ _ (code_there p b c h.there) refl (omega arith) (omega arith))
  in_case n (is_globals b c h number) = at n _ _ number h.globals.root_is (in_region _ (GlobalsOf b) _ _ (globals_there p b c h.there) refl (omega arith) (omega arith))
  in_case n (is_slot b c j x h is number) =
      let fits = s.compartment b c h.there in
      let few = slice_get_within c.code.slots j x is in
      let size = fits.code.fits in
      at n _ _ number (h.slot j x is).root_is
      (slot_clear (Compartment b) _ x.row x.row.kind (CodeOf (Compartment b)) _ _ (code_there p b c h.there) refl (omega arith) (omega (arith, few, size)) (fits.slot j x is).fits.names)
  in_case n (is_export b c j x h is number) =
      let few = slice_get_within c.code.exports j x is in
      let long = size_fits (table_size c.code) in
      at n _ _ number (h.export j x is).root_is (in_region _ (TableOf b) _ _ (table_there p b c h.there) refl (omega arith) (omega (arith, few, long)))
  in_case n (is_library l c h number) = at n _ _ number h.code.root_is (in_region _ (CodeOf (Library l)) _ _ (library_there p l c h.there) refl (omega arith) (omega arith))
  in_case n (is_library_slot l c j x h is number) =
      let fits = s.library l c h.there in
      let few = slice_get_within c.slots j x is in
      let size = fits.code.fits in
      at n _ _ number (h.slot j x is).root_is
      (slot_clear (Library l) _ x.row x.row.kind (CodeOf (Library l)) _ _ (library_there p l c h.there) refl (omega arith) (omega (arith, few, size)) (fits.slot j x is).fits.names)
  in_case n (is_library_export l c j x h is number) = at n _ _ number (h.export j x is).root_is (in_region _ (CodeOf (Library l)) _ _ (library_there p l c h.there) refl (omega arith) (omega arith))
  in_case n (is_stack t x h number) = at n _ _ number h.row.root_is (in_region _ (StackOf t) _ _ (stack_there p t x h.there) refl (omega arith) (omega arith))

  pub shut : Shut (image_of p)
  unfolding image_of
  shut =
      let here = trusted_there p s in
      let trusted = here.even in
      let areas = areas_even (map (λ (x : ThreadRow). x.frames) p.threads) in
      let start = s.ram.base in
      let size = s.ram.size in
      let heap = s.heap.even in
      let in_it = ends_in in
      let after = s.heap.after in
      record {
        trusted = λ n x may low high. (in_case n (entry_of p n)).away x low high;
        heap = λ n x may low high. elim (away_of p s _ _ _ (told_at p s n).lies) [ inl a ↦ inl (omega (arith, a, high)) | inr a ↦ inr (omega (arith, a, low)) ];
        even = (omega (arith, start), omega (arith, trusted), omega (arith, trusted, areas), omega (arith, heap), omega (arith, start, size));
        below = omega (arith, in_it, after);
      }
