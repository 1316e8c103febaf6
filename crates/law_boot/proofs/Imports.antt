-- What imports name, and whom their owners reach.
use Rattle.std.proofs.Common.{ℕ, ◌≡◌, ◌+◌, Bool, true, false, [], ◌∷◌, ◌++◌, Some, unwrap_or, refl, sym, ap, ◌∙◌, subst}
use Rattle.ct_entry.specs.Listed.{Listed}
use Rattle.ct_entry.specs.declared.rows.Owner.{Owner}
use Rattle.ct_entry.specs.declared.rows.Owner.TheVariants as owner
use Rattle.ct_entry.specs.declared.rows.Entry.{Entry}
use Rattle.ct_entry.specs.declared.rows.Gate.{Gate}
use Rattle.ct_entry.specs.declared.rows.Kind.TheVariants as kind
use Rattle.def_reach.specs.Roots.{Origin, Listing, Root, root_of, listed_root, no_gate}
use Rattle.def_reach.specs.Sharing.{Reaches, Brings}
use Rattle.def_machine.specs.Image.{root}
use Rattle.def_image.specs.declared.ImportRow.{ImportRow}
use Rattle.def_image.specs.declared.SlotKind.{SlotKind}
use Rattle.def_image.specs.declared.SlotKind.TheVariants as slot
use Rattle.def_image.specs.Parts.{CodeRow, PartsRow}
use Rattle.def_image.specs.Members.{no_code, library}
use Rattle.def_image.specs.Sound.{Sound, Names}
use Rattle.def_boot.specs.Entries.{slot_entry}
use Rattle.def_boot.specs.Gates.{entries_of}
use Rattle.def_boot.specs.Boot.{image_of}
use Rattle.def_boot.specs.Rows.{HasRow, EntryIs, is_nothing, is_trusted, is_code, is_globals, is_slot, is_export, is_library, is_library_slot, is_library_export, is_stack}
use Rattle.law_boot.proofs.Listing.{entry_of}
use Rattle.law_boot.proofs.Standing.{compartment_of, library_of}
use Rattle.def_boot.specs.Fits.{ExportAt, LibraryExportAt}
use Rattle.law_boot.proofs.Sets.{no_way}
use Rattle.law_reach.proofs.Joins.{imports_on}

-- ---- what is named

abbrev names_export : Origin → Bool
names_export (Listing kind.Call) = true
names_export (Listing kind.Library) = true
names_export _ = false

-- what an entry names, where it is an import of an export
pub record Named (p : PartsRow) (z : Root) : Type 0 where
  pub call : z.origin ≡ Listing kind.Call → ExportAt p z.of
  pub library : z.origin ≡ Listing kind.Library → LibraryExportAt p z.of
  pub low : z.origin ≡ Listing kind.Library → z.base ≡ (root_of (entries_of p) z.of).base
  pub high : z.origin ≡ Listing kind.Library → z.top ≡ (root_of (entries_of p) z.of).top

other : (p : PartsRow) (z : Root) → names_export z.origin ≡ false → Named p z
other p z none = record {
  call = λ is. no_way (sym none ∙ ap names_export is);
  library = λ is. no_way (sym none ∙ ap names_export is);
  low = λ is. no_way (sym none ∙ ap names_export is);
  high = λ is. no_way (sym none ∙ ap names_export is);
}

abbrev is_call : Origin → Bool
is_call (Listing kind.Call) = true
is_call _ = false

abbrev is_linked : Origin → Bool
is_linked (Listing kind.Library) = true
is_linked _ = false

slot_named : (p : PartsRow) (o : Owner) (at : ℕ) (r : ImportRow) (k : SlotKind) → Names p r k → Named p (listed_root (Some (slot_entry p o at r k)) no_gate)
slot_named p o at r slot.Service names = other p _ refl
slot_named p o at r slot.Device names = other p _ refl
slot_named p o at r slot.Shared names = other p _ refl
slot_named p o at r slot.Sealed names = other p _ refl
slot_named p o at r slot.Call names = record {
  call = λ is. record {
    index = r.first;
    compartment = names.0;
    which = r.second;
    export = names.1;
    owner = names.2;
    there = names.3;
    number = refl;
    row = (compartment_of p r.first names.0 names.2).export r.second names.1 names.3;
  };
  library = λ is. no_way (ap is_linked is);
  low = λ is. no_way (ap is_linked is);
  high = λ is. no_way (ap is_linked is);
}
slot_named p o at r slot.Library names =
    let row = (library_of p r.first names.0 names.2).export r.second names.1 names.3 in
    let same : library p r.first ≡ names.0 = ap (λ z. unwrap_or z no_code) names.2 in
    record {
      call = λ is. no_way (ap is_call is);
      library = λ is. record {
        index = r.first;
        library = names.0;
        which = r.second;
        export = names.1;
        owner = names.2;
        there = names.3;
        number = refl;
        row = row;
      };
      low = λ is. ap (λ (c : CodeRow). c.base) same ∙ sym (ap (λ (z : Root). z.base) row.root_is);
      high = λ is. ap (λ (c : CodeRow). c.base + c.length) same ∙ sym (ap (λ (z : Root). z.top) row.root_is);
    }
slot_named p o at r slot.Quota names = other p _ refl
slot_named p o at r slot.Key names = other p _ refl

module _ (p : PartsRow) (s : Sound p) where
  there : (n : ℕ) (e : Entry) (g : Gate) → HasRow p n e g → Named p (listed_root (Some e) g) → Named p (root_of (entries_of p) n)
  there n e g h is = subst (λ z. Named p z) (sym h.root_is) is

  at : (n m : ℕ) → n ≡ m → Named p (root_of (entries_of p) m) → Named p (root_of (entries_of p) n)
  at n m same is = subst (λ k. Named p (root_of (entries_of p) k)) (sym same) is

  in_case : (n : ℕ) → EntryIs p n → Named p (root_of (entries_of p) n)
  in_case n (is_nothing root_is gate_is made_is) = subst (λ z. Named p z) (sym root_is) (other p _ refl)
  in_case n (is_trusted number root_is gate_is made_is) = subst (λ z. Named p z) (sym root_is) (other p _ refl)
  in_case n (is_code b c h number) = at n _ number (there _ _ _ h.code (other p _ refl))
  in_case n (is_globals b c h number) = at n _ number (there _ _ _ h.globals (other p _ refl))
  in_case n (is_slot b c j x h is number) = at n _ number (there _ _ _ (h.slot j x is) (slot_named p _ _ x.row x.row.kind ((s.compartment b c h.there).slot j x is).fits.names))
  in_case n (is_export b c j x h is number) = at n _ number (there _ _ _ (h.export j x is) (other p _ refl))
  in_case n (is_library l c h number) = at n _ number (there _ _ _ h.code (other p _ refl))
  in_case n (is_library_slot l c j x h is number) = at n _ number (there _ _ _ (h.slot j x is) (slot_named p _ _ x.row x.row.kind ((s.library l c h.there).slot j x is).fits.names))
  in_case n (is_library_export l c j x h is number) = at n _ number (there _ _ _ (h.export j x is) (other p _ refl))
  in_case n (is_stack t x h number) = at n _ number (there _ _ _ h.row (other p _ refl))

  pub named : (n : ℕ) → Named p (root (image_of p) n)
  unfolding image_of
  named n = in_case n (entry_of p n)

  pub library_low : (n : ℕ) → (root (image_of p) n).origin ≡ Listing kind.Library → (root (image_of p) n).base ≡ (root (image_of p) (root (image_of p) n).of).base
  unfolding image_of
  library_low n is = (named n).low is

  pub library_high : (n : ℕ) → (root (image_of p) n).origin ≡ Listing kind.Library → (root (image_of p) n).top ≡ (root (image_of p) (root (image_of p) n).of).top
  unfolding image_of
  library_high n is = (named n).high is

  pub libraries : (n : ℕ) → (root (image_of p) n).origin ≡ Listing kind.Library → (l : ℕ) × ((root (image_of p) (root (image_of p) n).of).owner ≡ owner.Library l)
  unfolding image_of
  libraries n is =
      let found = (named n).library is in
      (found.index, ap (λ (z : Root). z.owner) found.row.root_is)

-- ---- whom a library reaches

pub reaches_library : (e : Listed) (n l d : ℕ) → (root_of e n).origin ≡ Listing kind.Library → (root_of e (root_of e n).of).owner ≡ owner.Library l → Reaches e (root_of e n).owner d → Reaches e (root_of e (root_of e n).of).owner d
reaches_library e n l d is whose r =
    let brings : Brings e (root_of e n).owner (owner.Library l) = record { is_library = tt; import = n; kind_is = is; importer = refl; library_is = whose } in
    subst (λ o. Reaches e o d) (sym whose)
    (record { by = r.by; through = r.through ++ owner.Library l ∷ []; imports = imports_on e _ r.through (root_of e n).owner (owner.Library l) r.imports brings; joined = r.joined })

-- whom an importer of a library reaches, the library reaches
pub reach : (p : PartsRow) → Sound p → (n d : ℕ) → (root (image_of p) n).origin ≡ Listing kind.Library
    → Reaches (image_of p).entries (root (image_of p) n).owner d → Reaches (image_of p).entries (root (image_of p) (root (image_of p) n).of).owner d
reach p s n d is r =
    let whose = libraries p s n is in
    reaches_library (image_of p).entries n whose.0 d is whose.1 r
