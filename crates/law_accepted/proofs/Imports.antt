-- An import of a device names one of the image's devices, and has its range; and no two devices share a byte.
use Rattle.std.proofs.Common.{ℕ, ◌≡◌, ◌+◌, ◌<◌, true, false, Some, slice_get, option_map, unwrap_or, refl, sym, ap, ◌∙◌, subst, arith}
use Rattle.ct_entry.specs.Listed.{DeviceRow}
use Rattle.ct_entry.specs.declared.rows.Entry.{Entry}
use Rattle.ct_entry.specs.declared.rows.Gate.{Gate}
use Rattle.ct_entry.specs.declared.rows.Kind.{Kind}
use Rattle.ct_entry.specs.declared.rows.Kind.TheVariants as kind
use Rattle.ct_entry.specs.declared.rows.Owner.{Owner}
use Rattle.def_boot.specs.Entries.{slot_entry}
use Rattle.def_boot.specs.Gates.{entries_of}
use Rattle.def_image.specs.declared.ImportRow.{ImportRow}
use Rattle.def_image.specs.declared.SlotKind.{SlotKind}
use Rattle.def_image.specs.declared.SlotKind.TheVariants as slot
use Rattle.def_image.specs.Members.{device_base}
use Rattle.def_image.specs.Parts.{PartsRow}
use Rattle.def_image.specs.Sound.{Names, Sound}
use Rattle.ct_entry.specs.Kinds.{is_device}
use Rattle.def_profile.specs.declared.layout.TheConstants.{DEVICE_SIZE}
use Rattle.def_reach.specs.Roots.{Listing, Root, TrustedPart, Unknown, listed_root, no_gate, root_of}
use Rattle.law_boot.proofs.Listing.{entry_of}
use Rattle.def_boot.specs.Rows.{EntryIs, HasRow, is_code, is_export, is_globals, is_library, is_library_export, is_library_slot, is_nothing, is_slot, is_stack, is_trusted}

-- the device that an import names, and its range
pub record IsImport (p : PartsRow) (r : Root) : Type 0 where
  pub row : DeviceRow
  pub there : slice_get p.devices r.of ≡ Some row
  pub starts : r.base ≡ row.base
  pub ends : r.top ≡ row.base + DEVICE_SIZE

abbrev pub IsOfDevice : Root → Type 0
IsOfDevice r = r.origin ≡ Listing kind.Device

no_device : (k : Kind) → is_device k ≡ false → Listing k ≡ Listing kind.Device → ⊥
no_device k other is =
    let same : k ≡ kind.Device = cc in
    let clash : true ≡ false = sym (ap is_device same) ∙ other in
    cc

module _ (p : PartsRow) (s : Sound p) where
  -- ---- by slot

  base_is : (n : ℕ) (d : DeviceRow) → slice_get p.devices n ≡ Some d → device_base p n ≡ d.base
  base_is n d there = ap (λ o. unwrap_or (option_map (λ (d : DeviceRow). d.base) o) 0) there

  by_slot : (o : Owner) (at : ℕ) (r : ImportRow) (k : SlotKind) → Names p r k → IsOfDevice (listed_root (Some (slot_entry p o at r k)) no_gate)
      → IsImport p (listed_root (Some (slot_entry p o at r k)) no_gate)
  by_slot o at r slot.Device names is =
      let same = base_is r.first names.0 names.1 in
      record { row = names.0; there = names.1; starts = same; ends = ap (λ b. b + DEVICE_SIZE) same }
  by_slot o at r k names is = absurd (no_device (slot_entry p o at r k).kind refl is)

  -- ---- by number

  by_row : (n m : ℕ) (e : Entry) (g : Gate) → n ≡ m → HasRow p m e g → (IsOfDevice (listed_root (Some e) g) → IsImport p (listed_root (Some e) g))
      → IsOfDevice (root_of (entries_of p) n) → IsImport p (root_of (entries_of p) n)
  by_row n m e g number h says is =
      let root_is : root_of (entries_of p) n ≡ listed_root (Some e) g = ap (λ i. root_of (entries_of p) i) number ∙ h.root_is in
      subst (λ (z : Root). IsImport p z) (sym root_is) (says (subst IsOfDevice root_is is))

  by_other : (n m : ℕ) (e : Entry) (g : Gate) → n ≡ m → HasRow p m e g → is_device e.kind ≡ false
      → IsOfDevice (root_of (entries_of p) n) → IsImport p (root_of (entries_of p) n)
  by_other n m e g number h other is = by_row n m e g number h (λ device. absurd (no_device e.kind other device)) is

  in_case : (n : ℕ) → EntryIs p n → IsOfDevice (root_of (entries_of p) n) → IsImport p (root_of (entries_of p) n)
  in_case n (is_nothing root_is gate_is made_is) is = absurd (let clash : Unknown ≡ Listing kind.Device = subst IsOfDevice root_is is in cc)
  in_case n (is_trusted number root_is gate_is made_is) is = absurd (let clash : TrustedPart ≡ Listing kind.Device = subst IsOfDevice root_is is in cc)
  in_case n (is_code b c h number) is = by_other n _ _ _ number h.code refl is
  in_case n (is_globals b c h number) is = by_other n _ _ _ number h.globals refl is
  in_case n (is_slot b c j x h there number) is =
      by_row n _ _ _ number (h.slot j x there) (by_slot _ _ x.row x.row.kind ((s.compartment b c h.there).slot j x there).fits.names) is
  in_case n (is_export b c j x h there number) is = by_other n _ _ _ number (h.export j x there) refl is
  in_case n (is_library l c h number) is = by_other n _ _ _ number h.code refl is
  in_case n (is_library_slot l c j x h there number) is =
      by_row n _ _ _ number (h.slot j x there) (by_slot _ _ x.row x.row.kind ((s.library l c h.there).slot j x there).fits.names) is
  in_case n (is_library_export l c j x h there number) is = by_other n _ _ _ number (h.export j x there) refl is
  in_case n (is_stack t x h number) is = by_other n _ _ _ number h.row refl is

  pub import_of : (n : ℕ) → IsOfDevice (root_of (entries_of p) n) → IsImport p (root_of (entries_of p) n)
  import_of n is = in_case n (entry_of p n) is

  -- ---- by byte

  -- devices that share a byte are one
  pub same_device : (i j : ℕ) (d e : DeviceRow) → slice_get p.devices i ≡ Some d → slice_get p.devices j ≡ Some e
      → d.base < e.base + DEVICE_SIZE → e.base < d.base + DEVICE_SIZE → i ≡ j
  same_device i j d e there here low high =
      let one = (s.device i d there).even in
      let other = (s.device j e here).even in
      s.apart i j d e there here (omega (arith, one, other, low, high))
