-- What stands in granules that never change is placed there as everywhere else.
use Rattle.std.proofs.Common.{List, ℕ, ◌≡◌, ◌+◌, ◌-◌, ◌*◌, ◌/◌, ◌%◌, ◌<◌, inl, inr, Bool, true, false, cond, nat_eq, nat_lt, length, Option, Some, None, unwrap_or, slice_get, refl, sym, ap, ◌∙◌, subst, arith}
use Rattle.std.proofs.lemmas.Bool.{ltb-true}
use Rattle.law_lists.proofs.Tests.{lt_tells}
use Rattle.law_lists.proofs.Places.{present}
use Rattle.ct_entry.specs.declared.rows.Entry.{Entry}
use Rattle.ct_entry.specs.declared.rows.Owner.{Owner}
use Rattle.ct_entry.specs.declared.rows.Owner.TheVariants.{Trusted, Compartment, Library, Thread}
use Rattle.def_profile.specs.declared.layout.TheConstants.{SLOT_SIZE, GRANULE, TABLE_HEAD, TABLE_ROW}
use Rattle.def_words.specs.declared.Cap.{Cap}
use Rattle.def_memory.specs.declared.Granule.{Granule}
use Rattle.def_memory.specs.Granules.{plain}
use Rattle.def_reach.specs.Roots.{Root, Listing, root_of, listed_root, no_gate, is_owned, is_stack}
use Rattle.def_reach.specs.Sharing.{Reaches}
use Rattle.def_machine.specs.Image.{Region, Fixed, root, region, booted, made_cap, address_of}
use Rattle.def_machine.specs.State.{State, Object, granule}
use Rattle.def_confined.specs.Confined.{Confined}
use Rattle.def_confined.specs.Places.{InRegion, Placed, NoStack}
use Rattle.def_image.specs.declared.ImportRow.{ImportRow}
use Rattle.def_image.specs.declared.SlotKind.{SlotKind}
use Rattle.def_image.specs.declared.SlotKind.TheVariants as slot
use Rattle.def_image.specs.Parts.{CodeRow, CompartmentRow, PartsRow}
use Rattle.def_image.specs.Members.{compartment, library, no_compartment, no_code, code_number, globals_number, library_number}
use Rattle.def_image.specs.Regions.{Holder, CodeOf, TableOf, GlobalsOf, SharedOf, SealedOf, StackOf, TrustedPart, RegionRow}
use Rattle.def_image.specs.Sound.{Sound}
use Rattle.def_boot.specs.Entries.{slot_entry, code_row, globals_row}
use Rattle.def_boot.specs.Gates.{entries_of}
use Rattle.def_boot.specs.Made.{caps_at_boot, boot_cap_of, return_sentry}
use Rattle.def_boot.specs.Contents.{boot_cap, code_content, content, content_at, gate_word, granules_in, region_at, table_content, word_from_bytes}
use Rattle.def_boot.specs.Boot.{image_of}
use Rattle.def_boot.specs.Fixed.{HolderDomain, RegionDomain, FixedDomain, FixedPlaced}
use Rattle.law_reach.proofs.Joins.{reaches_own, joined_is}
use Rattle.def_boot.specs.Held.{IsOf}
use Rattle.law_boot.proofs.Lists.{held}
use Rattle.law_boot.proofs.Found.{back}
use Rattle.law_boot.proofs.Standing.{compartment_of, library_of, slot_owner}
use Rattle.law_boot.proofs.Sets.{no_way}
use Rattle.law_boot.proofs.Contents.{booted_in}
use Rattle.law_boot.proofs.Rooting.{faithful, boot_made, no_object}
use Rattle.law_started.proofs.Granules.{past_none}

-- no slot is a stack
slot_no_stack : (p : PartsRow) (o : Owner) (at : ℕ) (r : ImportRow) (k : SlotKind) → is_stack (Listing (slot_entry p o at r k).kind) ≡ false
slot_no_stack p o at r slot.Service = refl
slot_no_stack p o at r slot.Device = refl
slot_no_stack p o at r slot.Shared = refl
slot_no_stack p o at r slot.Sealed = refl
slot_no_stack p o at r slot.Call = refl
slot_no_stack p o at r slot.Library = refl
slot_no_stack p o at r slot.Quota = refl
slot_no_stack p o at r slot.Key = refl

-- what was made for an entry of this owner, or for the trusted part, may stand in a domain that the owner reaches
pub record MayStand (p : PartsRow) (domain : ℕ → Type 0) (n : ℕ) : Type 0 where
  pub owner : is_owned (root (image_of p) n).origin ≡ true → (d : ℕ) → domain d → Reaches (image_of p).entries (root (image_of p) n).owner d
  pub no_stack : is_stack (root (image_of p) n).origin ≡ false

-- tagged, it was made for an entry that may
abbrev Standing : PartsRow → (ℕ → Type 0) → Cap → Type 0
Standing p domain c = c.tag ≡ true → (n : ℕ) × (c ≡ boot_cap_of p n) × MayStand p domain n

either : (p : PartsRow) (domain : ℕ → Type 0) (b : Bool) (c d : Cap) → (b ≡ true → Standing p domain c) → Standing p domain d → Standing p domain (cond b c d)
either p domain true c d one other = one refl
either p domain false c d one other = other

bare : (p : PartsRow) (domain : ℕ → Type 0) (c : Cap) → c.tag ≡ false → Standing p domain c
bare p domain c none tagged = no_way (sym none ∙ tagged)

-- an entry with this row's owner, of another kind than a stack
may_stand : (p : PartsRow) (domain : ℕ → Type 0) (n : ℕ) (r : Root) → root (image_of p) n ≡ r → is_stack r.origin ≡ false → ((d : ℕ) → domain d → Reaches (image_of p).entries r.owner d) → MayStand p domain n
may_stand p domain n r same none reaches = record {
  owner = λ owned d there. subst (λ (z : Root). Reaches (image_of p).entries z.owner d) (sym same) (reaches d there);
  no_stack = ap (λ (z : Root). is_stack z.origin) same ∙ none;
}

own : (p : PartsRow) (b d : ℕ) → d ≡ b → Reaches (image_of p).entries (Compartment b) d
own p b d same = reaches_own (image_of p).entries b d (joined_is (image_of p).entries b d (sym same))

-- the owner of a slot reaches what the owner of the code does
slot_stands : (p : PartsRow) (domain : ℕ → Type 0) (o : Owner) (n at : ℕ) (r : ImportRow) (k : SlotKind) → root (image_of p) n ≡ listed_root (Some (slot_entry p o at r k)) no_gate → ((d : ℕ) → domain d → Reaches (image_of p).entries o d) → MayStand p domain n
slot_stands p domain o n at r k same reaches = may_stand p domain n (listed_root (Some (slot_entry p o at r k)) no_gate) same (slot_no_stack p o at r k)
    (λ d there. subst (λ w. Reaches (image_of p).entries w d) (sym (slot_owner p o at r k)) (reaches d there))

module _ (p : PartsRow) where
  sentry_made_for : return_sentry ≡ boot_cap_of p 0
  unfolding caps_at_boot
  sentry_made_for = refl

  in_code : (domain : ℕ → Type 0) (first : ℕ) (c : CodeRow) (k : ℕ) → ((j : ℕ) → j < length c.slots → MayStand p domain (first + j)) → Standing p domain (code_content p first c k)
  in_code domain first c k slots =
      either p domain (nat_lt k (SLOT_SIZE * length c.slots)) (boot_cap_of p (first + k / SLOT_SIZE)) (plain (word_from_bytes c.text (k - SLOT_SIZE * length c.slots)))
      (λ is tagged. let few = ltb-true k (SLOT_SIZE * length c.slots) is in (first + k / SLOT_SIZE, refl, slots (k / SLOT_SIZE) (omega (arith, few))))
      (bare p domain (plain (word_from_bytes c.text (k - SLOT_SIZE * length c.slots))) refl)

  own_slots : (b : ℕ) (o : Option CompartmentRow) → slice_get p.compartments b ≡ o → (j : ℕ) → j < length (unwrap_or o no_compartment).code.slots → MayStand p (λ d. d ≡ b) (code_number p b + 2 + j)
  unfolding image_of
  own_slots b None is j few = absurd (omega (arith, few))
  own_slots b (Some c) is j few =
      let x = present c.code.slots j few in
      slot_stands p (λ d. d ≡ b) (Compartment b) _ _ x.0.row x.0.row.kind ((compartment_of p b c is).slot j x.0 x.1).root_is (own p b)

  library_slots : (l : ℕ) (o : Option CodeRow) → slice_get p.libraries l ≡ o → (j : ℕ) → j < length (unwrap_or o no_code).slots → MayStand p (Reaches (image_of p).entries (Library l)) (library_number p l + 1 + j)
  unfolding image_of
  library_slots l None is j few = absurd (omega (arith, few))
  library_slots l (Some c) is j few =
      let x = present c.slots j few in
      slot_stands p (Reaches (entries_of p) (Library l)) (Library l) _ _ x.0.row x.0.row.kind ((library_of p l c is).slot j x.0 x.1).root_is (λ d there. there)

  -- what an export table's head holds is of the code and the globals of a compartment that is there
  head_stands : (b n : ℕ) (e : Entry) → root (image_of p) n ≡ listed_root (Some e) no_gate → is_stack (Listing e.kind) ≡ false → e.owner ≡ Compartment b → MayStand p (λ d. d ≡ b) n
  head_stands b n e same none whose = may_stand p (λ d. d ≡ b) n (listed_root (Some e) no_gate) same none
      (λ d there. subst (λ w. Reaches (image_of p).entries w d) (sym whose) (own p b d there))

  table_stands : (b : ℕ) (r : RegionRow) (k : ℕ) → IsOf p r (TableOf b) → Standing p (λ d. d ≡ b) (table_content p b k)
  unfolding image_of
  table_stands b r k is =
      let has = compartment_of p b is.0 is.1 in
      either p (λ d. d ≡ b) (nat_eq k 0) (boot_cap_of p (code_number p b)) _
      (λ first tagged. (code_number p b, refl, head_stands b (code_number p b) (code_row (Compartment b) is.0.code) has.code.root_is refl refl))
      (either p (λ d. d ≡ b) (nat_eq k GRANULE) (boot_cap_of p (globals_number p b)) _
      (λ second tagged. (globals_number p b, refl, head_stands b (globals_number p b) (globals_row b is.0) has.globals.root_is refl refl))
      (bare p (λ d. d ≡ b) (plain (gate_word (slice_get (compartment p b).code.exports ((k - TABLE_HEAD) / TABLE_ROW)) ((k - TABLE_HEAD) % TABLE_ROW))) refl))

  sentry_stands : (k : ℕ) → Standing p (λ d. ⊥) (cond (nat_eq k 0) return_sentry (plain 0))
  unfolding root_of
  sentry_stands k = either p (λ d. ⊥) (nat_eq k 0) return_sentry (plain 0)
      (λ first tagged. (0, sentry_made_for, record { owner = λ owned. no_way owned; no_stack = refl }))
      (bare p (λ d. ⊥) (plain 0) refl)

  holder_stands : (r : RegionRow) (h : Holder) (k : ℕ) → IsOf p r h → Standing p (HolderDomain (image_of p).entries h) (content p h k)
  holder_stands r (CodeOf (Compartment b)) k is = in_code (λ d. d ≡ b) (code_number p b + 2) (compartment p b).code k (own_slots b (slice_get p.compartments b) refl)
  holder_stands r (CodeOf (Library l)) k is = in_code (Reaches (image_of p).entries (Library l)) (library_number p l + 1) (library p l) k (library_slots l (slice_get p.libraries l) refl)
  holder_stands r (CodeOf Trusted) k is = λ tagged. no_way tagged
  holder_stands r (CodeOf (Thread t)) k is = λ tagged. no_way tagged
  holder_stands r (TableOf b) k is = table_stands b r k is
  holder_stands r (GlobalsOf b) k is = λ tagged. no_way tagged
  holder_stands r (SharedOf n) k is = λ tagged. no_way tagged
  holder_stands r (SealedOf n) k is = λ tagged. no_way tagged
  holder_stands r (StackOf t) k is = λ tagged. no_way tagged
  holder_stands r TrustedPart k is = sentry_stands k

  -- ---- by address

  found_stands : (o : Option RegionRow) (x : ℕ) → region_at p x ≡ o → Standing p (RegionDomain (image_of p).entries o) (content_at p o x)
  found_stands None x is = λ tagged. no_way tagged
  found_stands (Some r) x is = let lying = back p x r is in holder_stands r r.holder (x - r.base) (held p lying.index r lying.there)

  boot_stands : (x : ℕ) → Standing p (FixedDomain p x) (boot_cap p x)
  unfolding boot_cap
  boot_stands x = found_stands (region_at p x) x refl

module _ (p : PartsRow) (s : Sound p) where
  booted_stands : (k : ℕ) → Standing p (FixedDomain p (address_of (image_of p) k)) (booted (image_of p) k).cap
  booted_stands k tagged = elim (lt_tells k (granules_in p)) [
    | inl lt ↦ subst (Standing p (FixedDomain p (address_of (image_of p) k))) (sym (booted_in p k lt.1)) (boot_stands p (address_of (image_of p) k)) tagged
    | inr past ↦ no_way (ap (λ (g : Granule). g.cap.tag) (sym (past_none p s k past.1)) ∙ tagged)
  ]

  -- what was made for an entry that may stand there is placed
  made_placed : (objects : List Object) (domain : ℕ → Type 0) (n : ℕ) → MayStand p domain n → (made_cap (image_of p) n).tag ≡ true → Placed (image_of p) objects domain NoStack (made_cap (image_of p) n)
  made_placed objects domain n may tagged =
      let made = boot_made p s n tagged in
      let f = faithful p s n tagged in
      let none = no_object p s (made_cap (image_of p) n) made.source in
      record {
        rooted = made.rooted;
        object = λ heap. no_way (sym none ∙ heap);
        owner = λ owned d there.
            let number : n ≡ (made_cap (image_of p) n).shadow.root = sym made.from in
            subst (λ m. Reaches (image_of p).entries (root (image_of p) m).owner d) number (may.owner (ap (λ m. is_owned (root (image_of p) m).origin) number ∙ owned) d there);
        own = λ is. no_way (sym may.no_stack ∙ (ap (λ m. is_stack (root (image_of p) m).origin) (sym made.from) ∙ is));
        source = λ four. absurd (f.says.not_off (sym f.made.made.kind_is ∙ four));
      }

  stands_placed : (objects : List Object) (domain : ℕ → Type 0) (c : Cap) → Standing p domain c → c.tag ≡ true → Placed (image_of p) objects domain NoStack c
  unfolding image_of
  stands_placed objects domain c h tagged =
      let found = h tagged in
      subst (Placed (image_of p) objects domain NoStack) (sym found.1) (made_placed objects domain found.0 found.2 (ap (λ (z : Cap). z.tag) (sym found.1) ∙ tagged))

  -- in a confined state a fixed granule is as boot made it
  as_booted : (st : State) (k : ℕ) (r : Region) → r ≡ Fixed → InRegion (image_of p) st k r (granule st k) → (granule st k).cap ≡ (booted (image_of p) k).cap
  as_booted st k r fixed h = subst (λ q. InRegion (image_of p) st k q (granule st k)) fixed h

  pub placed : (st : State) → Confined (image_of p) st → FixedPlaced p st
  placed st h k fixed tagged =
      let same = as_booted st k (region (image_of p) k) fixed (h.granules k) in
      subst (Placed (image_of p) st.objects (FixedDomain p (address_of (image_of p) k)) NoStack) (sym same)
      (stands_placed st.objects (FixedDomain p (address_of (image_of p) k)) (booted (image_of p) k).cap (booted_stands k) (ap (λ (z : Cap). z.tag) (sym same) ∙ tagged))
