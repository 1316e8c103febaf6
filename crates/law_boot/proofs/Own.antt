-- The numbers that the image keeps of code, globals and stacks; whose they are; gates and the return sentry.
use Rattle.std.proofs.Common.{ℕ, zero, suc, ◌≡◌, ◌+◌, ◌*◌, ◌^◌, ◌≤◌, ◌<◌, inl, inr, Bool, true, false, List, [], ◌∷◌, length, Some, slice_get, slice_index_or, refl, sym, ap, ◌∙◌, subst, arith}
use Rattle.std.proofs.lemmas.Option.{slice_get_within}
use Rattle.def_profile.specs.declared.seals.TheConstants.{RETURN_ENABLE}
use Rattle.law_lists.proofs.Tests.{lt_tells}
use Rattle.ct_entry.specs.declared.rows.Owner.{Owner}
use Rattle.ct_entry.specs.declared.rows.Owner.TheVariants.{Trusted, Compartment, Library, Thread}
use Rattle.ct_entry.specs.declared.rows.Entry.{Entry}
use Rattle.ct_entry.specs.declared.rows.Gate.{Gate}
use Rattle.ct_entry.specs.declared.rows.Kind.TheVariants as kind
use Rattle.def_profile.specs.declared.layout.TheConstants.{SLOT_SIZE}
use Rattle.def_words.specs.declared.Cap.{Cap}
use Rattle.def_words.specs.Permissions.{bit, has, execute}
use Rattle.def_words.specs.Seals.{cap_seal}
use Rattle.def_reach.specs.Roots.{Root, TrustedPart, Listing, root_of, gate_for, is_stack}
use Rattle.def_machine.specs.Image.{root, made_cap, code_entry, globals_entry, stack_entry, handler_entry}
use Rattle.def_confined.specs.Partitioned.{IsOwnEntry}
use Rattle.def_image.specs.Parts.{SlotRow, CodeRow, CompartmentRow, ThreadRow, PartsRow}
use Rattle.def_image.specs.Members.{number_in, text_base, code_number, globals_number, stack_number, first_stack, handler_number}
use Rattle.def_image.specs.Sound.{Sound}
use Rattle.def_boot.specs.Entries.{code_row, globals_row, stack_row}
use Rattle.def_boot.specs.Gates.{gates_of, entries_of}
use Rattle.def_boot.specs.Made.{caps_at_boot}
use Rattle.def_boot.specs.Boot.{image_of, numbered_from}
use Rattle.def_boot.specs.Rows.{HasRow, EntryIs, is_nothing, is_trusted, is_code, is_globals, is_slot, is_export, is_library, is_library_slot, is_library_export, is_stack as of_stack, slot_row_at, slot_number, library_slot_number}
use Rattle.law_boot.proofs.Listing.{entry_of}
use Rattle.law_boot.proofs.Standing.{compartment_of, library_of, stack_of, slot_owner}
use Rattle.def_boot.specs.Fits.{Lies, MadeFor, MadeAs, address_for, type_for}
use Rattle.law_boot.proofs.Lying.{own_there, library_there}
use Rattle.law_boot.proofs.Sets.{code_set, no_way}
use Rattle.law_boot.proofs.Making.{sentry_made, code_made, globals_made, stack_made, slot_made, RowMade}
use Rattle.law_boot.proofs.Told.{slot_in}

numbered_there : (number : ℕ → ℕ) (b0 n k : ℕ) → k < n → slice_index_or (numbered_from number b0 n) k 0 ≡ number (b0 + k)
numbered_there number b0 zero k lt = absurd (omega (arith, lt))
numbered_there number b0 (suc n) zero lt = ap number (let same : b0 ≡ b0 + 0 = omega arith in same)
numbered_there number b0 (suc n) (suc k) lt = numbered_there number (b0 + 1) n k (omega (arith, lt)) ∙ ap number (let same : b0 + 1 + k ≡ b0 + suc k = omega arith in same)

numbered_past : (number : ℕ → ℕ) (b0 n k : ℕ) → n ≤ k → slice_index_or (numbered_from number b0 n) k 0 ≡ 0
numbered_past number b0 zero k past = refl
numbered_past number b0 (suc n) zero past = absurd (omega (arith, past))
numbered_past number b0 (suc n) (suc k) past = numbered_past number (b0 + 1) n k (omega (arith, past))

-- stacks are numbered one after another
ones : (n : ℕ) (xs : List ThreadRow) (t : ℕ) → t < length xs → number_in (λ (x : ThreadRow). 1) n xs t ≡ n + t
ones n [] t lt = absurd (omega (arith, lt))
ones n (x ∷ xs) zero lt = omega arith
ones n (x ∷ xs) (suc t) lt = let more = ones (n + 1) xs t (omega (arith, lt)) in omega (arith, more)

-- ---- whose an entry is

-- a compartment of this index is there
abbrev There : PartsRow → ℕ → Type 0
There p b = (c : CompartmentRow) × (slice_get p.compartments b ≡ Some c)

moved : (p : PartsRow) (b n k : ℕ) (c : CompartmentRow) (e : Entry) (g : Gate) → (root_of (entries_of p) n).owner ≡ Compartment b → HasRow p n e g → e.owner ≡ Compartment k → slice_get p.compartments k ≡ Some c → There p b
moved p b n k c e g owner h own is =
    let both : Compartment k ≡ Compartment b = sym own ∙ sym (ap (λ (z : Root). z.owner) h.root_is) ∙ owner in
    let same : k ≡ b = cc in
    subst (λ x. There p x) same (c, is)

abbrev is_own : Owner → Bool
is_own (Compartment b) = true
is_own _ = false

-- an owner that is no compartment
stranger : {G : Type 0} (p : PartsRow) (b n : ℕ) (o : Owner) → is_own o ≡ false → (root_of (entries_of p) n).owner ≡ o → (root_of (entries_of p) n).owner ≡ Compartment b → G
stranger p b n o none is owner = no_way (sym none ∙ ap is_own (sym is ∙ owner))

whose : (p : PartsRow) (b n m : ℕ) → n ≡ m → (root_of (entries_of p) n).owner ≡ Compartment b → (root_of (entries_of p) m).owner ≡ Compartment b
whose p b n m same owner = subst (λ k. (root_of (entries_of p) k).owner ≡ Compartment b) same owner

in_case : (p : PartsRow) (b n : ℕ) → (root_of (entries_of p) n).owner ≡ Compartment b → EntryIs p n → There p b
in_case p b n owner (is_nothing root_is gate_is made_is) = stranger p b n Trusted refl (ap (λ (z : Root). z.owner) root_is) owner
in_case p b n owner (is_trusted number root_is gate_is made_is) = stranger p b n Trusted refl (ap (λ (z : Root). z.owner) root_is) owner
in_case p b n owner (is_code k c h number) = moved p b _ k c _ _ (whose p b n _ number owner) h.code refl h.there
in_case p b n owner (is_globals k c h number) = moved p b _ k c _ _ (whose p b n _ number owner) h.globals refl h.there
in_case p b n owner (is_slot k c j x h is number) = moved p b _ k c _ _ (whose p b n _ number owner) (h.slot j x is) (slot_owner p (Compartment k) _ x.row x.row.kind) h.there
in_case p b n owner (is_export k c j x h is number) = moved p b _ k c _ _ (whose p b n _ number owner) (h.export j x is) refl h.there
in_case p b n owner (is_library l c h number) = stranger p b _ (Library l) refl (ap (λ (z : Root). z.owner) h.code.root_is) (whose p b n _ number owner)
in_case p b n owner (is_library_slot l c j x h is number) =
    stranger p b _ (Library l) refl (ap (λ (z : Root). z.owner) (h.slot j x is).root_is ∙ slot_owner p (Library l) _ x.row x.row.kind) (whose p b n _ number owner)
in_case p b n owner (is_library_export l c j x h is number) = stranger p b _ (Library l) refl (ap (λ (z : Root). z.owner) (h.export j x is).root_is) (whose p b n _ number owner)
in_case p b n owner (of_stack t x h number) = stranger p b _ (Thread t) refl (ap (λ (z : Root). z.owner) h.row.root_is) (whose p b n _ number owner)

pub owned_by : (p : PartsRow) (b n : ℕ) → (root (image_of p) n).owner ≡ Compartment b → There p b
unfolding image_of
owned_by p b n owner = in_case p b n owner (entry_of p n)

pub code_entry_is : (p : PartsRow) (b : ℕ) → b < length p.compartments → code_entry (image_of p) b ≡ code_number p b
unfolding image_of
code_entry_is p b lt = numbered_there (code_number p) 0 (length p.compartments) b lt ∙ ap (λ k. code_number p k) (let same : 0 + b ≡ b = omega arith in same)

pub globals_entry_is : (p : PartsRow) (b : ℕ) → b < length p.compartments → globals_entry (image_of p) b ≡ globals_number p b
unfolding image_of
globals_entry_is p b lt = numbered_there (globals_number p) 0 (length p.compartments) b lt ∙ ap (λ k. globals_number p k) (let same : 0 + b ≡ b = omega arith in same)

pub handler_entry_is : (p : PartsRow) (b : ℕ) → b < length p.compartments → handler_entry (image_of p) b ≡ handler_number p b
unfolding image_of
handler_entry_is p b lt = numbered_there (handler_number p) 0 (length p.compartments) b lt ∙ ap (λ k. handler_number p k) (let same : 0 + b ≡ b = omega arith in same)

-- a compartment that isn't there has none
pub no_handler_entry : (p : PartsRow) (b : ℕ) → length p.compartments ≤ b → handler_entry (image_of p) b ≡ 0
unfolding image_of
no_handler_entry p b past = numbered_past (handler_number p) 0 (length p.compartments) b past

pub stack_entry_is : (p : PartsRow) (t : ℕ) → t < length p.threads → stack_entry (image_of p) t ≡ stack_number p t
unfolding image_of
stack_entry_is p t lt = numbered_there (stack_number p) 0 (length p.threads) t lt ∙ ap (λ k. stack_number p k) (let same : 0 + t ≡ t = omega arith in same)

-- a thread that isn't there has number 0 for a stack
pub no_stack_entry : (p : PartsRow) (t : ℕ) → length p.threads ≤ t → stack_entry (image_of p) t ≡ 0
unfolding image_of
no_stack_entry p t past = numbered_past (stack_number p) 0 (length p.threads) t past

made_of : (p : PartsRow) (n : ℕ) (e : Entry) (g : Gate) → HasRow p n e g → RowMade p n e → MadeFor p n e
made_of p n e g h is = subst (λ (d : Cap). MadeAs n e.base (e.base + e.length) e.rights (address_for p e e.kind) (type_for p e e.kind) d) (sym h.made_is) is

module _ (p : PartsRow) (s : Sound p) where
  pub code_stands : (b : ℕ) (c : CompartmentRow) → slice_get p.compartments b ≡ Some c → MadeFor p (code_number p b) (code_row (Compartment b) c.code)
  code_stands b c is = made_of p _ _ _ (compartment_of p b c is).code (code_made p s _ b c is)

  pub globals_stand : (b : ℕ) (c : CompartmentRow) → slice_get p.compartments b ≡ Some c → MadeFor p (globals_number p b) (globals_row b c)
  globals_stand b c is = made_of p _ _ _ (compartment_of p b c is).globals (globals_made p s _ b c is)

  pub slots_stand : (b : ℕ) (c : CompartmentRow) (j : ℕ) (x : SlotRow) → slice_get p.compartments b ≡ Some c → slice_get c.code.slots j ≡ Some x
      → MadeFor p (slot_number p b j) (slot_row_at p (Compartment b) c.code j x.row)
  slots_stand b c j x is there =
      let fits = s.compartment b c is in
      let own = (fits.slot j x there).fits in
      let place = slot_in p s c.code j x (own_there p s b c is).code fits.code.fits there in
      made_of p _ _ _ ((compartment_of p b c is).slot j x there) (slot_made p s _ (Compartment b) _ x.row x.row.kind own.names own.rights place.1)

  pub library_slots_stand : (l : ℕ) (c : CodeRow) (j : ℕ) (x : SlotRow) → slice_get p.libraries l ≡ Some c → slice_get c.slots j ≡ Some x
      → MadeFor p (library_slot_number p l j) (slot_row_at p (Library l) c j x.row)
  library_slots_stand l c j x is there =
      let fits = s.library l c is in
      let own = (fits.slot j x there).fits in
      let place = slot_in p s c j x (library_there p s l c is) fits.code.fits there in
      made_of p _ _ _ ((library_of p l c is).slot j x there) (slot_made p s _ (Library l) _ x.row x.row.kind own.names own.rights place.1)

  pub stacks_stand : (t : ℕ) (x : ThreadRow) → slice_get p.threads t ≡ Some x → MadeFor p (stack_number p t) (stack_row t x)
  stacks_stand t x is = made_of p _ _ _ (stack_of p t x is).row (stack_made p s _ t x is)

  pub own_code : (b n : ℕ) → (root (image_of p) n).owner ≡ Compartment b → IsOwnEntry (image_of p) b (code_entry (image_of p) b) kind.Code × (has (made_cap (image_of p) (code_entry (image_of p) b)) execute ≡ true)
  unfolding image_of
  own_code b n owner =
      let found = owned_by p b n owner in
      let row = (compartment_of p b found.0 found.1).code in
      let stands = code_stands b found.0 found.1 in
      let own : IsOwnEntry (image_of p) b (code_number p b) kind.Code × (has (made_cap (image_of p) (code_number p b)) execute ≡ true) = (
        record { kind_is = ap (λ (z : Root). z.origin) row.root_is; owner_is = ap (λ (z : Root). z.owner) row.root_is; unsealed = stands.made.kind_is },
        ap (λ r. bit r execute) stands.made.rights_are ∙ code_set.run,
      ) in
      subst (λ m. IsOwnEntry (image_of p) b m kind.Code × (has (made_cap (image_of p) m) execute ≡ true)) (sym (code_entry_is p b (slice_get_within p.compartments b found.0 found.1))) own

  pub own_globals : (b n : ℕ) → (root (image_of p) n).owner ≡ Compartment b → IsOwnEntry (image_of p) b (globals_entry (image_of p) b) kind.Globals
  unfolding image_of
  own_globals b n owner =
      let found = owned_by p b n owner in
      let row = (compartment_of p b found.0 found.1).globals in
      let stands = globals_stand b found.0 found.1 in
      let own : IsOwnEntry (image_of p) b (globals_number p b) kind.Globals = record { kind_is = ap (λ (z : Root). z.origin) row.root_is; owner_is = ap (λ (z : Root). z.owner) row.root_is; unsealed = stands.made.kind_is } in
      subst (λ m. IsOwnEntry (image_of p) b m kind.Globals) (sym (globals_entry_is p b (slice_get_within p.compartments b found.0 found.1))) own

  -- ---- stacks

  -- number 0 is no stack
  trusted_number : (root (image_of p) 0).origin ≡ TrustedPart
  unfolding root_of
  trusted_number = refl

  pub few : (t : ℕ) → (root (image_of p) (stack_entry (image_of p) t)).origin ≡ Listing kind.Stack → t < length p.threads
  few t is = elim (lt_tells t (length p.threads)) [
    | inl lt ↦ lt.1
    | inr past ↦ no_way (sym (ap is_stack trusted_number) ∙ ap is_stack (subst (λ n. (root (image_of p) n).origin ≡ Listing kind.Stack) (no_stack_entry p t past.1) is))
  ]

  pub stacks_differ : (t u : ℕ) → (root (image_of p) (stack_entry (image_of p) t)).origin ≡ Listing kind.Stack → stack_entry (image_of p) t ≡ stack_entry (image_of p) u → t ≡ u
  stacks_differ t u is same =
      let first = few t is in
      let second = few u (subst (λ n. (root (image_of p) n).origin ≡ Listing kind.Stack) same is) in
      let one = stack_entry_is p t first ∙ ones (first_stack p) p.threads t first in
      let other = stack_entry_is p u second ∙ ones (first_stack p) p.threads u second in
      omega (arith, one, other, same)

  -- ---- gates and the sentry

  text_small : (c : CodeRow) (x : ℕ) → Lies p c.base c.length → SLOT_SIZE * length c.slots + length c.text ≤ c.length → x < length c.text → text_base c + x < 2 ^ 32
  text_small c x lies fits lt =
      let high = lies.high in
      let inside = s.heap.inside in
      let small = s.ram.end in
      omega (arith, high, fits, lt, inside, small)

  small_at : (n : ℕ) (g : Gate) → gate_for (gates_of p) n ≡ g → g.code < 2 ^ 32 → (gate_for (gates_of p) n).code < 2 ^ 32
  small_at n g is lt = subst (λ (h : Gate). h.code < 2 ^ 32) (sym is) lt

  at : (n m : ℕ) → n ≡ m → (gate_for (gates_of p) m).code < 2 ^ 32 → (gate_for (gates_of p) n).code < 2 ^ 32
  at n m same lt = subst (λ k. (gate_for (gates_of p) k).code < 2 ^ 32) (sym same) lt

  gate_small : (n : ℕ) → EntryIs p n → (gate_for (gates_of p) n).code < 2 ^ 32
  gate_small n (is_nothing root_is gate_is made_is) = small_at n _ gate_is (omega arith)
  gate_small n (is_trusted number root_is gate_is made_is) = small_at n _ gate_is (omega arith)
  gate_small n (is_code b c h number) = at n _ number (small_at _ _ h.code.gate_is (omega arith))
  gate_small n (is_globals b c h number) = at n _ number (small_at _ _ h.globals.gate_is (omega arith))
  gate_small n (is_slot b c j x h is number) = at n _ number (small_at _ _ (h.slot j x is).gate_is (omega arith))
  gate_small n (is_export b c j x h is number) =
      let fits = s.compartment b c h.there in
      at n _ number (small_at _ _ (h.export j x is).gate_is (text_small c.code x.row.offset (own_there p s b c h.there).code fits.code.fits (fits.export j x is).offset.inside))
  gate_small n (is_library l c h number) = at n _ number (small_at _ _ h.code.gate_is (omega arith))
  gate_small n (is_library_slot l c j x h is number) = at n _ number (small_at _ _ (h.slot j x is).gate_is (omega arith))
  gate_small n (is_library_export l c j x h is number) =
      let fits = s.library l c h.there in
      at n _ number (small_at _ _ (h.export j x is).gate_is (text_small c x.row.offset (library_there p s l c h.there) fits.code.fits (fits.export j x is).offset.inside))
  gate_small n (of_stack t x h number) = at n _ number (small_at _ _ h.row.gate_is (omega arith))

  pub gates_small : (n : ℕ) → (gate_for (image_of p).entries.gates n).code < 2 ^ 32
  unfolding image_of entries_of
  gates_small n = gate_small n (entry_of p n)

  pub sentry : (made_cap (image_of p) 0).tag ≡ true → cap_seal (made_cap (image_of p) 0) ≡ RETURN_ENABLE
  unfolding image_of caps_at_boot
  sentry tagged = sentry_made.made.kind_is
