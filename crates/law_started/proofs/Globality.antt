-- At boot what is local stands in stacks: every entry but a stack has GL.
use Rattle.std.proofs.Common.{ℕ, ◌≡◌, ◌||◌, inl, inr, Bool, true, false, Some, refl, sym, ap, ◌∙◌, subst}
use Rattle.std.proofs.lemmas.Bool.{eqb-true}
use Rattle.law_lists.proofs.Tests.{bool_tells}
use Rattle.ct_entry.specs.declared.rows.Entry.{Entry}
use Rattle.ct_entry.specs.declared.rows.Gate.{Gate}
use Rattle.ct_entry.specs.declared.rows.Kind.{Kind}
use Rattle.ct_entry.specs.declared.rows.Owner.{Owner}
use Rattle.def_profile.specs.declared.rights.TheConstants.{CODE_RIGHTS, SERVICE_RIGHTS, SEALED_RIGHTS, EXPORT_RIGHTS, QUOTA_RIGHTS, KEY_RIGHTS}
use Rattle.def_words.specs.declared.Cap.{Cap}
use Rattle.def_words.specs.Permissions.{bit, has, global}
use Rattle.def_reach.specs.Roots.{Root, Unknown, TrustedPart, Listing, is_stack, listed_root, no_gate, root_of}
use Rattle.def_machine.specs.Image.{Region, Fixed, Globals, Shared, HeapRam, Stack, Bare, region}
use Rattle.def_machine.specs.State.{granule}
use Rattle.def_confined.specs.Capabilities.{stack_cap}
use Rattle.def_confined.specs.Places.{InRegion}
use Rattle.def_image.specs.declared.ImportRow.{ImportRow}
use Rattle.def_image.specs.declared.SlotKind.{SlotKind}
use Rattle.def_image.specs.declared.SlotKind.TheVariants as slot
use Rattle.def_image.specs.Parts.{PartsRow}
use Rattle.def_image.specs.Rights.{carrying_rights, device_right_sets, fits_kind, is_one_of, rights_of}
use Rattle.def_image.specs.Sound.{Sound}
use Rattle.def_boot.specs.Boot.{boot_state, image_of}
use Rattle.def_boot.specs.Entries.{slot_entry}
use Rattle.def_boot.specs.Gates.{entries_of}
use Rattle.def_boot.specs.Listed.{IsListed}
use Rattle.def_boot.specs.Made.{return_sentry}
use Rattle.def_boot.specs.Places.{InRam}
use Rattle.def_boot.specs.Rows.{EntryIs, HasRow, is_nothing, is_trusted, is_code, is_globals, is_slot, is_export, is_library, is_library_slot, is_library_export, is_stack as of_stack}
use Rattle.def_safety.specs.Attenuates.{LocalsInStacks}
use Rattle.law_boot.proofs.Listing.{entry_of}
use Rattle.law_boot.proofs.Making.{sentry_made}
use Rattle.law_boot.proofs.Sets.{Each, no_way, one_of}
use Rattle.law_started.proofs.Fixing.{placed}
use Rattle.law_started.proofs.Starting.{places_listed}
use Rattle.law_started.proofs.Whole.{confined}

-- ---- the rights of entries

abbrev IsGlobal : ℕ → Type 0
IsGlobal s = bit s global ≡ true

devices_global : Each (λ s. bit s global ≡ true) device_right_sets
unfolding bit
devices_global = (refl, (refl, (refl, tt)))

carrying_global : Each (λ s. bit s global ≡ true) carrying_rights
unfolding bit
carrying_global = (refl, (refl, (refl, tt)))

slot_global : (r : ImportRow) (k : SlotKind) → fits_kind k (rights_of r) ≡ true → bit (rights_of r) global ≡ true
unfolding bit
slot_global r slot.Service fits = subst IsGlobal (sym (eqb-true (rights_of r) SERVICE_RIGHTS fits)) refl
slot_global r slot.Device fits = one_of (λ s. bit s global ≡ true) (rights_of r) device_right_sets fits devices_global
slot_global r slot.Shared fits = elim (bool_tells (is_one_of (rights_of r) device_right_sets)) [
  | inl plain ↦ one_of (λ s. bit s global ≡ true) (rights_of r) device_right_sets plain devices_global
  | inr other ↦ one_of (λ s. bit s global ≡ true) (rights_of r) carrying_rights (let P : Bool → Type 0 = λ x. (x || is_one_of (rights_of r) carrying_rights) ≡ true in subst P other fits) carrying_global
]
slot_global r slot.Sealed fits = subst IsGlobal (sym (eqb-true (rights_of r) SEALED_RIGHTS fits)) refl
slot_global r slot.Call fits = subst IsGlobal (sym (eqb-true (rights_of r) EXPORT_RIGHTS fits)) refl
slot_global r slot.Library fits = subst IsGlobal (sym (eqb-true (rights_of r) CODE_RIGHTS fits)) refl
slot_global r slot.Quota fits = subst IsGlobal (sym (eqb-true (rights_of r) QUOTA_RIGHTS fits)) refl
slot_global r slot.Key fits = subst IsGlobal (sym (eqb-true (rights_of r) KEY_RIGHTS fits)) refl

slot_rights : (p : PartsRow) (o : Owner) (at : ℕ) (r : ImportRow) (k : SlotKind) → (listed_root (Some (slot_entry p o at r k)) no_gate).rights ≡ rights_of r
slot_rights p o at r slot.Service = refl
slot_rights p o at r slot.Device = refl
slot_rights p o at r slot.Shared = refl
slot_rights p o at r slot.Sealed = refl
slot_rights p o at r slot.Call = refl
slot_rights p o at r slot.Library = refl
slot_rights p o at r slot.Quota = refl
slot_rights p o at r slot.Key = refl

-- of an entry but a stack
abbrev HasGlobal : Root → Type 0
HasGlobal z = is_stack z.origin ≡ false → (k : Kind) → z.origin ≡ Listing k → bit z.rights global ≡ true

module _ (p : PartsRow) (s : Sound p) where
  numbered : (n m : ℕ) → n ≡ m → HasGlobal (root_of (entries_of p) m) → HasGlobal (root_of (entries_of p) n)
  numbered n m same h = subst (λ k. HasGlobal (root_of (entries_of p) k)) (sym same) h

  rowed : (m : ℕ) (e : Entry) (g : Gate) → HasRow p m e g → bit (listed_root (Some e) g).rights global ≡ true → HasGlobal (root_of (entries_of p) m)
  rowed m e g h is no_stack k listed = ap (λ (z : Root). bit z.rights global) h.root_is ∙ is

  in_case : (n : ℕ) → EntryIs p n → HasGlobal (root_of (entries_of p) n)
  unfolding bit
  in_case n (is_nothing root_is gate_is made_is) no_stack k listed = absurd (let clash : Unknown ≡ Listing k = sym (ap (λ (z : Root). z.origin) root_is) ∙ listed in cc)
  in_case n (is_trusted number root_is gate_is made_is) no_stack k listed = absurd (let clash : TrustedPart ≡ Listing k = sym (ap (λ (z : Root). z.origin) root_is) ∙ listed in cc)
  in_case n (is_code b c h number) no_stack k listed = numbered n _ number (rowed _ _ _ h.code refl) no_stack k listed
  in_case n (is_globals b c h number) no_stack k listed = numbered n _ number (rowed _ _ _ h.globals refl) no_stack k listed
  in_case n (is_slot b c j x h is number) no_stack k listed =
      numbered n _ number (rowed _ _ _ (h.slot j x is) (ap (λ a. bit a global) (slot_rights p _ _ x.row x.row.kind) ∙ slot_global x.row x.row.kind ((s.compartment b c h.there).slot j x is).fits.rights)) no_stack k listed
  in_case n (is_export b c j x h is number) no_stack k listed = numbered n _ number (rowed _ _ _ (h.export j x is) refl) no_stack k listed
  in_case n (is_library l c h number) no_stack k listed = numbered n _ number (rowed _ _ _ h.code refl) no_stack k listed
  in_case n (is_library_slot l c j x h is number) no_stack k listed =
      numbered n _ number (rowed _ _ _ (h.slot j x is) (ap (λ a. bit a global) (slot_rights p _ _ x.row x.row.kind) ∙ slot_global x.row x.row.kind ((s.library l c h.there).slot j x is).fits.rights)) no_stack k listed
  in_case n (is_library_export l c j x h is number) no_stack k listed = numbered n _ number (rowed _ _ _ (h.export j x is) refl) no_stack k listed
  in_case n (of_stack t x h number) no_stack k listed = no_way (sym no_stack ∙ subst (λ m. is_stack (root_of (entries_of p) m).origin ≡ true) (sym number) (ap (λ (z : Root). is_stack z.origin) h.row.root_is))

  -- ---- what stands

  sentry_global : has return_sentry global ≡ true
  unfolding bit
  sentry_global = ap (λ a. bit a global) sentry_made.made.rights_are

  listed_global : (c : Cap) → IsListed (image_of p) c → stack_cap (image_of p) c ≡ false → has c global ≡ true
  unfolding image_of
  listed_global c (inl is) no_stack = subst (λ (z : Cap). has z global ≡ true) (sym is) sentry_global
  listed_global c (inr found) no_stack =
      let grant = found.2 in
      let none : is_stack (root_of (entries_of p) found.0).origin ≡ false = subst (λ m. is_stack (root_of (entries_of p) m).origin ≡ false) grant.root_is no_stack in
      ap (λ a. bit a global) grant.rights_are ∙ in_case found.0 (entry_of p found.0) none found.1.0 found.1.1

  -- ---- in granules

  no_stack_there : (c : Cap) → (stack_cap (image_of p) c ≡ true → ⊥) → stack_cap (image_of p) c ≡ false
  no_stack_there c none = elim (bool_tells (stack_cap (image_of p) c)) [ inl is ↦ absurd (none is) | inr not ↦ not ]

  global_there : (k : ℕ) → (granule (boot_state p) k).cap.tag ≡ true → (stack_cap (image_of p) (granule (boot_state p) k).cap ≡ true → ⊥) → has (granule (boot_state p) k).cap global ≡ true
  global_there k tagged none = listed_global (granule (boot_state p) k).cap (places_listed p s (InRam k) tagged) (no_stack_there (granule (boot_state p) k).cap none)

  region_local : (k : ℕ) (r : Region) → region (image_of p) k ≡ r → InRegion (image_of p) (boot_state p) k r (granule (boot_state p) k) → (granule (boot_state p) k).cap.tag ≡ true → has (granule (boot_state p) k).cap global ≡ false → (t : ℕ) × (region (image_of p) k ≡ Stack t)
  region_local k Fixed is h tagged local = no_way (sym local ∙ global_there k tagged (placed p s (boot_state p) (confined p s) k is tagged).own)
  region_local k (Globals o) is h tagged local = no_way (sym local ∙ global_there k tagged (h tagged).own)
  region_local k (Shared m) is h tagged local = no_way (sym local ∙ global_there k tagged (h tagged).1.own)
  region_local k HeapRam is h tagged local = no_way (sym local ∙ global_there k tagged (h tagged).1.own)
  region_local k (Stack t) is h tagged local = (t, is)
  region_local k Bare is h tagged local = no_way (sym h ∙ tagged)

  pub boots_local : LocalsInStacks (image_of p) (boot_state p)
  boots_local k = region_local k (region (image_of p) k) refl ((confined p s).granules k)
