-- What is tagged at boot stands in fixed granules, and sentries are what boot makes of native routines.
use Rattle.std.proofs.Common.{ℕ, ◌≡◌, ◌-◌, Bool, true, false, cond, nat_eq, Option, Some, None, refl, sym, ap, ◌∙◌, subst}
use Rattle.ct_entry.specs.declared.rows.Owner.{Owner}
use Rattle.ct_entry.specs.declared.rows.Owner.TheVariants.{Compartment, Library}
use Rattle.ct_entry.specs.declared.rows.Kind.TheVariants as kind
use Rattle.def_words.specs.declared.Cap.{Cap}
use Rattle.def_words.specs.Seals.{cap_seal}
use Rattle.def_memory.specs.Granules.{plain}
use Rattle.def_reach.specs.Roots.{Root, Origin, Unknown, TrustedPart, Listing, root_of}
use Rattle.def_machine.specs.Image.{Fixed, Bare, root, made_cap}
use Rattle.def_confined.specs.Capabilities.{Kept}
use Rattle.def_image.specs.declared.ImportRow.{ImportRow}
use Rattle.def_image.specs.declared.SlotKind.{SlotKind}
use Rattle.def_image.specs.declared.SlotKind.TheVariants as slot
use Rattle.def_image.specs.Parts.{PartsRow}
use Rattle.def_image.specs.Regions.{Holder, CodeOf, TableOf, GlobalsOf, SharedOf, SealedOf, StackOf, RegionRow}
use Rattle.def_image.specs.Regions as regions
use Rattle.def_image.specs.Sound.{Sound}
use Rattle.def_boot.specs.Entries.{slot_entry}
use Rattle.def_boot.specs.Gates.{entries_of}
use Rattle.def_boot.specs.Made.{boot_cap_of, return_sentry}
use Rattle.def_boot.specs.Contents.{content, content_at, boot_cap, part, part_at, region_part, region_at}
use Rattle.def_boot.specs.Boot.{image_of}
use Rattle.def_boot.specs.Rows.{EntryIs, is_nothing, is_trusted, is_code, is_globals, is_slot, is_export, is_library, is_library_slot, is_library_export, is_stack}
use Rattle.law_boot.proofs.Listing.{entry_of}
use Rattle.def_boot.specs.Fits.{type_for}
use Rattle.law_boot.proofs.Sets.{no_way}
use Rattle.law_boot.proofs.Making.{sentry_made}
use Rattle.law_boot.proofs.Own.{slots_stand, library_slots_stand}
use Rattle.law_boot.proofs.Rooting.{boot_made}

-- ---- where

fixed_in : (p : PartsRow) (h : Holder) (k : ℕ) → (content p h k).tag ≡ true → region_part h k ≡ Fixed
fixed_in p (CodeOf o) k tagged = refl
fixed_in p (TableOf b) k tagged = refl
fixed_in p (GlobalsOf b) k tagged = no_way tagged
fixed_in p (SharedOf n) k tagged = no_way tagged
fixed_in p (SealedOf n) k tagged = no_way tagged
fixed_in p (StackOf t) k tagged = no_way tagged
fixed_in p regions.TrustedPart k tagged = by (nat_eq k 0) tagged
  where
    by : (b : Bool) → (cond b return_sentry (plain 0)).tag ≡ true → cond b Fixed Bare ≡ Fixed
    by true is = refl
    by false is = no_way is

fixed_found : (p : PartsRow) (o : Option RegionRow) (x : ℕ) → (content_at p o x).tag ≡ true → part_at p o x ≡ Fixed
fixed_found p None x tagged = no_way tagged
fixed_found p (Some r) x tagged = fixed_in p r.holder (x - r.base) tagged

pub tagged_fixed : (p : PartsRow) (x : ℕ) → (boot_cap p x).tag ≡ true → part p x ≡ Fixed
unfolding boot_cap part
tagged_fixed p x tagged = fixed_found p (region_at p x) x tagged

-- ---- which type

-- of a native routine it is a sentry, of the trusted part a return sentry
abbrev Sealed : Origin → Cap → Type 0
Sealed o d = (o ≡ Listing kind.Service → cap_seal d ≡ 1) × (o ≡ TrustedPart → cap_seal d ≡ 5)

abbrev is_reserved : Origin → Bool
is_reserved (Listing kind.Service) = true
is_reserved TrustedPart = true
is_reserved _ = false

-- of every other entry nothing is said
free : (o : Origin) (d : Cap) → is_reserved o ≡ false → Sealed o d
free o d none = (λ service. no_way (sym none ∙ ap is_reserved service), λ trusted. no_way (sym none ∙ ap is_reserved trusted))

by_slot : (p : PartsRow) (o : Owner) (at : ℕ) (r : ImportRow) (k : SlotKind) (d : Cap) → cap_seal d ≡ type_for p (slot_entry p o at r k) (slot_entry p o at r k).kind → Sealed (Listing (slot_entry p o at r k).kind) d
by_slot p o at r slot.Service d is = (λ service. is, λ trusted. no_way (ap is_service trusted))
  where
    is_service : Origin → Bool
    is_service (Listing kind.Service) = false
    is_service _ = true
by_slot p o at r slot.Device d is = free (Listing kind.Device) d refl
by_slot p o at r slot.Shared d is = free (Listing kind.Shared) d refl
by_slot p o at r slot.Sealed d is = free (Listing kind.Sealed) d refl
by_slot p o at r slot.Call d is = free (Listing kind.Call) d refl
by_slot p o at r slot.Library d is = free (Listing kind.Library) d refl
by_slot p o at r slot.Quota d is = free (Listing kind.Quota) d refl
by_slot p o at r slot.Key d is = free (Listing kind.Key) d refl

abbrev SealedAt : PartsRow → ℕ → Type 0
SealedAt p n = Sealed (root_of (entries_of p) n).origin (boot_cap_of p n)

module _ (p : PartsRow) (s : Sound p) where
  at : (n m : ℕ) → n ≡ m → SealedAt p m → SealedAt p n
  at n m same is = subst (λ k. SealedAt p k) (sym same) is

  there : (n : ℕ) (r : Root) → root_of (entries_of p) n ≡ r → Sealed r.origin (boot_cap_of p n) → SealedAt p n
  there n r same is = subst (λ (z : Root). Sealed z.origin (boot_cap_of p n)) (sym same) is

  in_case : (n : ℕ) → EntryIs p n → SealedAt p n
  in_case n (is_nothing root_is gate_is made_is) = there n _ root_is (free Unknown _ refl)
  in_case n (is_trusted number root_is gate_is made_is) = (
    λ service. no_way (ap is_trusted_part (sym service ∙ ap (λ (z : Root). z.origin) root_is)),
    λ trusted. ap cap_seal made_is ∙ sentry_made.made.kind_is,
  )
    where
      is_trusted_part : Origin → Bool
      is_trusted_part TrustedPart = true
      is_trusted_part _ = false
  in_case n (is_code b c h number) = at n _ number (there _ _ h.code.root_is (free (Listing kind.Code) _ refl))
  in_case n (is_globals b c h number) = at n _ number (there _ _ h.globals.root_is (free (Listing kind.Globals) _ refl))
  in_case n (is_slot b c j x h is number) =
      at n _ number (there _ _ (h.slot j x is).root_is (by_slot p (Compartment b) _ x.row x.row.kind _ (slots_stand p s b c j x h.there is).made.kind_is))
  in_case n (is_export b c j x h is number) = at n _ number (there _ _ (h.export j x is).root_is (free (Listing kind.Export) _ refl))
  in_case n (is_library l c h number) = at n _ number (there _ _ h.code.root_is (free (Listing kind.Code) _ refl))
  in_case n (is_library_slot l c j x h is number) =
      at n _ number (there _ _ (h.slot j x is).root_is (by_slot p (Library l) _ x.row x.row.kind _ (library_slots_stand p s l c j x h.there is).made.kind_is))
  in_case n (is_library_export l c j x h is number) = at n _ number (there _ _ (h.export j x is).root_is (free (Listing kind.Export) _ refl))
  in_case n (is_stack t x h number) = at n _ number (there _ _ h.row.root_is (free (Listing kind.Stack) _ refl))

  sealed_at : (n : ℕ) → Sealed (root (image_of p) n).origin (made_cap (image_of p) n)
  unfolding image_of
  sealed_at n = in_case n (entry_of p n)

  pub kept_made : (n : ℕ) → Kept (image_of p) (made_cap (image_of p) n)
  kept_made n tagged = subst (λ m. Sealed (root (image_of p) m).origin (made_cap (image_of p) n)) (sym (boot_made p s n tagged).from) (sealed_at n)
