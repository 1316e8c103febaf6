-- What calls, quotas, libraries and the heap ask of a sound image.
use Rattle.std.proofs.Common.{ℕ, ◌≡◌, ◌+◌, ◌*◌, ◌%◌, ◌≤◌, ◌<◌, ◌⊎◌, inl, inr, Bool, true, false, length, Some, slice_get, refl, sym, ap, ◌∙◌, subst, arith}
use Rattle.std.proofs.lemmas.Option.{slice_get_within}
use Rattle.ct_entry.specs.declared.rows.Owner.{Owner}
use Rattle.ct_entry.specs.declared.rows.Owner.TheVariants.{Compartment, Library}
use Rattle.ct_entry.specs.declared.rows.Entry.{Entry}
use Rattle.ct_entry.specs.declared.rows.Gate.{Gate}
use Rattle.ct_entry.specs.declared.rows.Kind.TheVariants as kind
use Rattle.def_profile.specs.declared.layout.TheConstants.{SLOT_SIZE}
use Rattle.def_profile.specs.declared.native.TheConstants.{NATIVE_BASE, NATIVE_END}
use Rattle.def_reach.specs.Roots.{Root, Origin, Unknown, TrustedPart, Listing, root_of, gate_for, is_native, is_stack}
use Rattle.def_machine.specs.Image.{root, made_cap, code_entry}
use Rattle.ct_entry.specs.Kinds.{is_compartment}
use Rattle.def_confined.specs.Capabilities.{is_home}
use Rattle.def_confined.specs.Facts.{Facts, HasCapability, IsCompartmentExport, IsLibraryExport, GateFits, StackFits, LiesInRoot, GrantsAccess, gate_code}
use Rattle.def_image.specs.declared.ImportRow.{ImportRow}
use Rattle.def_image.specs.declared.SlotKind.{SlotKind}
use Rattle.def_image.specs.declared.SlotKind.TheVariants as slot
use Rattle.def_image.specs.Parts.{GateRow, CodeRow, CompartmentRow, PartsRow}
use Rattle.def_image.specs.Members.{text_base, code_number, gate_number, library_gate_number}
use Rattle.def_image.specs.Sound.{Sound}
use Rattle.def_boot.specs.Entries.{slot_entry}
use Rattle.def_boot.specs.Gates.{entries_of, gates_of}
use Rattle.def_boot.specs.Boot.{image_of}
use Rattle.def_boot.specs.Rows.{HasRow, HasCompartment, HasLibrary, EntryIs, is_nothing, is_trusted, is_code, is_globals, is_slot, is_export, is_library, is_library_slot, is_library_export, is_stack as of_stack}
use Rattle.law_boot.proofs.Listing.{entry_of}
use Rattle.def_boot.specs.Fits.{Lies}
use Rattle.law_boot.proofs.Lying.{own_there, library_there, stack_there}
use Rattle.def_profile.specs.declared.rights.TheConstants.{CODE_RIGHTS}
use Rattle.def_words.specs.declared.Cap.{Cap}
use Rattle.def_words.specs.Capability.{with_address}
use Rattle.def_words.specs.Derive.{derive, executable_root}
use Rattle.def_boot.specs.Made.{from_entry, boot_cap_of}
use Rattle.law_words.proofs.Rights.{executable_is_root}
use Rattle.law_boot.proofs.Entering.{made_again}
use Rattle.law_boot.proofs.Making.{code_made, inside_made}
use Rattle.law_boot.proofs.Sets.{no_way, code_set}
use Rattle.law_boot.proofs.Told.{LiesAs, of_nothing, in_ram, native, device, of_key}
use Rattle.law_boot.proofs.Imports.{named, library_low, library_high}
use Rattle.law_boot.proofs.Clauses.{told_at, away_of, roots_away, call_sealed, quota_sealed}
use Rattle.law_boot.proofs.Own.{code_entry_is}
use Rattle.law_boot.proofs.Settling.{settled as made_settled}
use Rattle.law_boot.proofs.Handling.{handler_fits}

-- ---- what has a capability

home_of : (o : Origin) (w : Owner) → (o ≡ Listing kind.Code → (b : ℕ) × (w ≡ Compartment b)) → is_home o w ≡ true
home_of Unknown w own = refl
home_of TrustedPart w own = refl
home_of (Listing kind.Code) w own = let found = own refl in ap is_compartment found.1
home_of (Listing kind.Globals) w own = refl
home_of (Listing kind.Stack) w own = refl
home_of (Listing kind.Device) w own = refl
home_of (Listing kind.Shared) w own = refl
home_of (Listing kind.Sealed) w own = refl
home_of (Listing kind.Call) w own = refl
home_of (Listing kind.Library) w own = refl
home_of (Listing kind.Service) w own = refl
home_of (Listing kind.Quota) w own = refl
home_of (Listing kind.Key) w own = refl
home_of (Listing kind.Export) w own = refl

-- ---- kinds of slots

-- an export or a stack
abbrev is_apart : Origin → Bool
is_apart (Listing kind.Export) = true
is_apart (Listing kind.Stack) = true
is_apart _ = false

slot_kind : (p : PartsRow) (o : Owner) (at : ℕ) (r : ImportRow) (k : SlotKind) → is_apart (Listing (slot_entry p o at r k).kind) ≡ false
slot_kind p o at r slot.Service = refl
slot_kind p o at r slot.Device = refl
slot_kind p o at r slot.Shared = refl
slot_kind p o at r slot.Sealed = refl
slot_kind p o at r slot.Call = refl
slot_kind p o at r slot.Library = refl
slot_kind p o at r slot.Quota = refl
slot_kind p o at r slot.Key = refl

-- of another kind
otherwise : {G : Type 0} (p : PartsRow) (n m : ℕ) (e : Entry) (g : Gate) (o : Origin) → n ≡ m → HasRow p m e g → is_apart (Listing e.kind) ≡ false → is_apart o ≡ true → (root_of (entries_of p) n).origin ≡ o → G
otherwise p n m e g o same h none apart is =
    no_way (sym none ∙ ap is_apart (sym (ap (λ (z : Root). z.origin) h.root_is) ∙ sym (ap (λ k. (root_of (entries_of p) k).origin) same) ∙ is) ∙ apart)

not_listed : {G : Type 0} (z : Root) (w o : Origin) → z.origin ≡ w → is_apart w ≡ false → is_apart o ≡ true → z.origin ≡ o → G
not_listed z w o at none apart is = no_way (sym none ∙ ap is_apart (sym at ∙ is) ∙ apart)

-- a word of a text
record WordIn (c : CodeRow) (x : ℕ) : Type 0 where
  pub even : (text_base c + x) % 4 ≡ 0
  pub low : c.base ≤ text_base c + x
  pub high : text_base c + x < c.base + c.length

word_in : (p : PartsRow) (c : CodeRow) (x : ℕ) → Lies p c.base c.length → SLOT_SIZE * length c.slots + length c.text ≤ c.length → x % 4 ≡ 0 → x < length c.text → WordIn c x
word_in p c x lies fits even lt =
    let unit = lies.even in
    record { even = omega (arith, unit, even); low = omega arith; high = omega (arith, fits, lt) }

module _ (p : PartsRow) (s : Sound p) where
  -- ---- gates

  code_begins : (b : ℕ) (c : CompartmentRow) (x : ℕ) → slice_get p.compartments b ≡ Some c → c.code.base ≤ x → x < c.code.base + c.code.length
      → (with_address (derive executable_root c.code.base c.code.length CODE_RIGHTS c.code.base 0 (from_entry (code_number p b))) x).tag ≡ true
  code_begins b c x is from to =
      let lies = (own_there p s b c is).code in
      let under = lies.high in
      let inside = s.heap.inside in
      let small = s.ram.end in
      made_again executable_root c.code.base c.code.length CODE_RIGHTS c.code.base x (from_entry (code_number p b)) (omega (arith, under, inside, small)) (omega (arith, under, inside, small, to))
      (code_made p s (code_number p b) b c is).made.tagged
      (inside_made p s executable_root c.code.base c.code.length CODE_RIGHTS x 0 (code_number p b) lies.high lies.exact executable_is_root code_set.spelled from (omega (arith, to)) (inl refl)).made.tagged

  own_fits : (n b : ℕ) (c : CompartmentRow) (j : ℕ) (x : GateRow) → HasCompartment p b c → slice_get c.code.exports j ≡ Some x → n ≡ gate_number p b j → GateFits (image_of p) n
  unfolding image_of entries_of
  own_fits n b c j x h is number =
      let fits = s.compartment b c h.there in
      let offset = (fits.export j x is).offset in
      let word = word_in p c.code x.row.offset (own_there p s b c h.there).code fits.code.fits offset.even offset.inside in
      let row = h.export j x is in
      let code : (gate_for (gates_of p) n).code ≡ text_base c.code + x.row.offset = ap (λ k. (gate_for (gates_of p) k).code) number ∙ ap (λ (g : Gate). g.code) row.gate_is in
      let whose : (root_of (entries_of p) n).owner ≡ Compartment b = ap (λ k. (root_of (entries_of p) k).owner) number ∙ ap (λ (z : Root). z.owner) row.root_is in
      let own : root_of (entries_of p) (code_entry (image_of p) b) ≡ _ = ap (λ k. root_of (entries_of p) k) (code_entry_is p b (slice_get_within p.compartments b c h.there)) ∙ h.code.root_is in
      let I : ℕ → Type 0 = λ k. LiesInRoot (root (image_of p) (code_entry (image_of p) k)) (gate_code (image_of p) n) in
      let low = word.low in
      let high = word.high in
      let base = ap (λ (z : Root). z.base) own in
      let top = ap (λ (z : Root). z.top) own in
      let made : made_cap (image_of p) (code_entry (image_of p) b) ≡ derive executable_root c.code.base c.code.length CODE_RIGHTS c.code.base 0 (from_entry (code_number p b)) =
      ap (λ k. boot_cap_of p k) (code_entry_is p b (slice_get_within p.compartments b c h.there)) ∙ h.code.made_is in
      let B : ℕ → Type 0 = λ k. (with_address (made_cap (image_of p) (code_entry (image_of p) k)) (gate_code (image_of p) n)).tag ≡ true in
      let begins : B b = subst (λ a. (with_address (made_cap (image_of p) (code_entry (image_of p) b)) a).tag ≡ true) (sym code) (subst (λ (d : Cap). (with_address d (text_base c.code + x.row.offset)).tag ≡ true) (sym made) (code_begins b c (text_base c.code + x.row.offset) h.there low high)) in
      let inside : I b = (subst (λ a. a ≤ gate_code (image_of p) n) (sym base) (subst (λ a. c.code.base ≤ a) (sym code) low), subst (λ a. gate_code (image_of p) n < a) (sym top) (subst (λ a. a < c.code.base + c.code.length) (sym code) high)) in
      record {
        even = subst (λ a. a % 4 ≡ 0) (sym code) word.even;
        compartment = λ k owner. (let both : Compartment b ≡ Compartment k = sym whose ∙ owner in let same : b ≡ k = cc in subst I same inside);
        begins = λ k owner. (let both : Compartment b ≡ Compartment k = sym whose ∙ owner in let same : b ≡ k = cc in subst B same begins);
        library = λ l owner. absurd (let both : Compartment b ≡ Library l = sym whose ∙ owner in cc);
      }

  library_fits : (n l : ℕ) (c : CodeRow) (j : ℕ) (x : GateRow) → HasLibrary p l c → slice_get c.exports j ≡ Some x → n ≡ library_gate_number p l j → GateFits (image_of p) n
  unfolding image_of entries_of
  library_fits n l c j x h is number =
      let fits = s.library l c h.there in
      let offset = (fits.export j x is).offset in
      let word = word_in p c x.row.offset (library_there p s l c h.there) fits.code.fits offset.even offset.inside in
      let row = h.export j x is in
      let code : (gate_for (gates_of p) n).code ≡ text_base c + x.row.offset = ap (λ k. (gate_for (gates_of p) k).code) number ∙ ap (λ (g : Gate). g.code) row.gate_is in
      let own : root_of (entries_of p) n ≡ _ = ap (λ k. root_of (entries_of p) k) number ∙ row.root_is in
      let whose = ap (λ (z : Root). z.owner) own in
      let base = ap (λ (z : Root). z.base) own in
      let top = ap (λ (z : Root). z.top) own in
      let low = word.low in
      let high = word.high in
      record {
        even = subst (λ a. a % 4 ≡ 0) (sym code) word.even;
        compartment = λ k owner. absurd (let both : Library l ≡ Compartment k = sym whose ∙ owner in cc);
        begins = λ k owner. absurd (let both : Library l ≡ Compartment k = sym whose ∙ owner in cc);
        library = λ k owner. (subst (λ a. a ≤ gate_code (image_of p) n) (sym base) (subst (λ a. c.base ≤ a) (sym code) low), subst (λ a. gate_code (image_of p) n < a) (sym top) (subst (λ a. a < c.base + c.length) (sym code) high));
      }

  gate_fits : (n : ℕ) → EntryIs p n → (root_of (entries_of p) n).origin ≡ Listing kind.Export → GateFits (image_of p) n
  gate_fits n (is_nothing root_is gate_is made_is) e = not_listed (root_of (entries_of p) n) Unknown (Listing kind.Export) (ap (λ (z : Root). z.origin) root_is) refl refl e
  gate_fits n (is_trusted number root_is gate_is made_is) e = not_listed (root_of (entries_of p) n) TrustedPart (Listing kind.Export) (ap (λ (z : Root). z.origin) root_is) refl refl e
  gate_fits n (is_code b c h number) e = otherwise p n _ _ _ _ number h.code refl refl e
  gate_fits n (is_globals b c h number) e = otherwise p n _ _ _ _ number h.globals refl refl e
  gate_fits n (is_slot b c j x h is number) e = otherwise p n _ _ _ _ number (h.slot j x is) (slot_kind p _ _ x.row x.row.kind) refl e
  gate_fits n (is_export b c j x h is number) e = own_fits n b c j x h is number
  gate_fits n (is_library l c h number) e = otherwise p n _ _ _ _ number h.code refl refl e
  gate_fits n (is_library_slot l c j x h is number) e = otherwise p n _ _ _ _ number (h.slot j x is) (slot_kind p _ _ x.row x.row.kind) refl e
  gate_fits n (is_library_export l c j x h is number) e = library_fits n l c j x h is number
  gate_fits n (of_stack t x h number) e =
      let clash : Listing kind.Stack ≡ Listing kind.Export = sym (ap (λ (z : Root). z.origin) h.row.root_is) ∙ sym (ap (λ k. (root_of (entries_of p) k).origin) number) ∙ e in
      no_way (sym (ap is_stack clash))

  -- ---- stacks

  stack_fits : (n : ℕ) → EntryIs p n → (root_of (entries_of p) n).origin ≡ Listing kind.Stack → StackFits (root_of (entries_of p) n)
  stack_fits n (is_nothing root_is gate_is made_is) e = not_listed (root_of (entries_of p) n) Unknown (Listing kind.Stack) (ap (λ (z : Root). z.origin) root_is) refl refl e
  stack_fits n (is_trusted number root_is gate_is made_is) e = not_listed (root_of (entries_of p) n) TrustedPart (Listing kind.Stack) (ap (λ (z : Root). z.origin) root_is) refl refl e
  stack_fits n (is_code b c h number) e = otherwise p n _ _ _ _ number h.code refl refl e
  stack_fits n (is_globals b c h number) e = otherwise p n _ _ _ _ number h.globals refl refl e
  stack_fits n (is_slot b c j x h is number) e = otherwise p n _ _ _ _ number (h.slot j x is) (slot_kind p _ _ x.row x.row.kind) refl e
  stack_fits n (is_export b c j x h is number) e =
      let clash : Listing kind.Export ≡ Listing kind.Stack = sym (ap (λ (z : Root). z.origin) (h.export j x is).root_is) ∙ sym (ap (λ k. (root_of (entries_of p) k).origin) number) ∙ e in
      no_way (ap is_stack clash)
  stack_fits n (is_library l c h number) e = otherwise p n _ _ _ _ number h.code refl refl e
  stack_fits n (is_library_slot l c j x h is number) e = otherwise p n _ _ _ _ number (h.slot j x is) (slot_kind p _ _ x.row x.row.kind) refl e
  stack_fits n (is_library_export l c j x h is number) e =
      let clash : Listing kind.Export ≡ Listing kind.Stack = sym (ap (λ (z : Root). z.origin) (h.export j x is).root_is) ∙ sym (ap (λ k. (root_of (entries_of p) k).origin) number) ∙ e in
      no_way (ap is_stack clash)
  stack_fits n (of_stack t x h number) e =
      let own : root_of (entries_of p) n ≡ _ = ap (λ k. root_of (entries_of p) k) number ∙ h.row.root_is in
      let lies = stack_there p s t x h.there in
      let few = (s.thread t x h.there).stack.1 in
      subst StackFits (sym own) (record { order = omega arith; exact = lies.exact; even = lies.even; short = omega (arith, few) })

  -- ---- ranges

  native_away : (o : Origin) (base top x : ℕ) → LiesAs p o base top → is_native o ≡ false → base ≤ x → x < top → (x < NATIVE_BASE) ⊎ (NATIVE_END ≤ x)
  native_away o base top x (of_nothing no_key none) other low high = absurd (omega (arith, none, high))
  native_away o base top x (in_ram no_key from to) other low high =
      let inside = s.heap.inside in
      elim s.ram.native [ inl a ↦ inl (omega (arith, a, to, high, inside)) | inr a ↦ inr (omega (arith, a, from, low)) ]
  native_away o base top x (native no_key own entry) other low high = no_way (sym other ∙ own)
  native_away o base top x (device its at) other low high =
      let ends = at.ends in
      elim at.native [ inl a ↦ inl (omega (arith, a, ends, high)) | inr a ↦ inr (omega (arith, a, low)) ]
  native_away o base top x (of_key its from to) other low high = inl (omega (arith, to, high))

  heap_away : (n x : ℕ) → GrantsAccess (root (image_of p) n) → LiesInRoot (root (image_of p) n) x → (x < (image_of p).heap_base) ⊎ ((image_of p).heap_end ≤ x)
  unfolding image_of
  heap_away n x reads inside =
      let low = inside.0 in
      let high = inside.1 in
      elim (away_of p s _ _ _ (told_at p s n).lies) [ inl a ↦ inl (omega (arith, a, high)) | inr a ↦ inr (omega (arith, a, low)) ]

  -- ---- what is made and named

  made : (n : ℕ) → HasCapability (image_of p) n → (made_cap (image_of p) n).tag ≡ true
  made n h = elim (told_at p s n).made [
    | inl none ↦ no_way (sym (none.bare h.rooted) ∙ home_of (root (image_of p) n).origin (root (image_of p) n).owner h.owned)
    | inr f ↦ f.made.made.tagged
  ]

  called : (n : ℕ) → (root (image_of p) n).origin ≡ Listing kind.Call → IsCompartmentExport (image_of p) (root (image_of p) n).of
  unfolding image_of
  called n is =
      let found = (named p s n).call is in
      record { kind_is = ap (λ (z : Root). z.origin) found.row.root_is; owner_is = (found.index, ap (λ (z : Root). z.owner) found.row.root_is) }

  imported : (n : ℕ) → (root (image_of p) n).origin ≡ Listing kind.Library → IsLibraryExport (image_of p) n (root (image_of p) n).of
  unfolding image_of
  imported n is =
      let found = (named p s n).library is in
      record { kind_is = ap (λ (z : Root). z.origin) found.row.root_is; owner_is = (found.index, ap (λ (z : Root). z.owner) found.row.root_is); base_is = library_low p s n is; top_is = library_high p s n is }

  gates : (n : ℕ) → (root (image_of p) n).origin ≡ Listing kind.Export → GateFits (image_of p) n
  unfolding image_of
  gates n is = gate_fits n (entry_of p n) is

  stacks : (n : ℕ) → (root (image_of p) n).origin ≡ Listing kind.Stack → StackFits (root (image_of p) n)
  unfolding image_of
  stacks n is = stack_fits n (entry_of p n) is

  -- a stack lies before the heap
  below_heap : (o : Origin) (base top : ℕ) → LiesAs p o base top → o ≡ Listing kind.Stack → top ≤ p.ram + p.size
  below_heap o base top (of_nothing no_key none) is = omega (arith, none)
  below_heap o base top (in_ram no_key from to) is = let inside = s.heap.inside in omega (arith, to, inside)
  below_heap o base top (native no_key own entry) is = no_way (sym (ap is_native is) ∙ own)
  below_heap o base top (device its at) is = no_way (sym (ap is_stack its) ∙ ap is_stack is)
  below_heap o base top (of_key its from to) is = no_way (sym (ap is_stack its) ∙ ap is_stack is)

  stacks_low : (n : ℕ) → (root (image_of p) n).origin ≡ Listing kind.Stack → (root (image_of p) n).top ≤ (image_of p).heap_end
  unfolding image_of
  stacks_low n is = below_heap _ _ _ (told_at p s n).lies is

  natives : (n x : ℕ) → is_native (root (image_of p) n).origin ≡ false → GrantsAccess (root (image_of p) n) → LiesInRoot (root (image_of p) n) x → (x < NATIVE_BASE) ⊎ (NATIVE_END ≤ x)
  natives n x other reads inside = native_away _ _ _ x (told_at p s n).lies other inside.0 inside.1

  pub holds : Facts (image_of p)
  holds = record {
    made = made;
    quotas = quota_sealed p s;
    calls = call_sealed p s;
    called = called;
    imported = imported;
    gates = gates;
    handlers = handler_fits p;
    stacks = stacks;
    stacks_low = stacks_low;
    natives = natives;
    heap = heap_away;
    away = roots_away p s;
    settled = made_settled p;
  }
