-- Each entry's capability stands at boot.
use Rattle.std.proofs.Common.{ℕ, ◌≡◌, ◌+◌, ◌-◌, ◌*◌, ◌/◌, true, false, refl, sym, ap, ◌∙◌, subst, arith}
use Rattle.ct_entry.specs.declared.rows.Owner.TheVariants.{Compartment, Library}
use Rattle.def_words.specs.declared.Cap.{Cap}
use Rattle.def_memory.specs.declared.Granule.{Granule}
use Rattle.def_reach.specs.Roots.{Root, root_of, is_root}
use Rattle.def_machine.specs.Image.{made_cap, address_of}
use Rattle.def_machine.specs.State.{granule, register}
use Rattle.def_machine.specs.State as st
use Rattle.def_confined.specs.Facts.{HasCapability}
use Rattle.def_image.specs.Parts.{PartsRow}
use Rattle.def_image.specs.Members.{stack_number}
use Rattle.def_image.specs.Sound.{Sound}
use Rattle.def_boot.specs.Contents.{boot_cap}
use Rattle.def_boot.specs.Gates.{entries_of}
use Rattle.def_boot.specs.Made.{boot_cap_of, return_sentry}
use Rattle.def_boot.specs.Boot.{image_of, boot_state}
use Rattle.def_boot.specs.Places.{Place, InRam, InRegister, cap_at}
use Rattle.def_boot.specs.Listed.{StandsAtBoot}
use Rattle.def_boot.specs.Rows.{EntryIs, is_nothing, is_trusted, is_code, is_globals, is_slot, is_export, is_library, is_library_slot, is_library_export, is_stack}
use Rattle.law_boot.proofs.Listing.{entry_of}
use Rattle.law_boot.proofs.Sets.{no_way}
use Rattle.law_boot.proofs.Making.{sentry_made}
use Rattle.law_boot.proofs.Own.{code_stands, globals_stand, slots_stand, library_slots_stand, stacks_stand}
use Rattle.law_boot.proofs.Contents.{booted_in}
use Rattle.def_boot.specs.Booting.{BootPuts}
use Rattle.law_boot.proofs.Putting.{puts_slot, puts_library_slot, puts_code, puts_globals, puts_sentry}
use Rattle.law_started.proofs.Granules.{same_granule}
use Rattle.law_started.proofs.Grants.{sentry_is, made_grant}
use Rattle.law_started.proofs.Starting.{thread_starts}

module _ (p : PartsRow) (s : Sound p) where
  -- ---- where

  -- the granule of an address of RAM holds what boot puts there
  pub granule_holds : (k x : ℕ) (c : Cap) → BootPuts p x c → address_of (image_of p) k ≡ x → (granule (boot_state p) k).cap ≡ c
  unfolding image_of
  granule_holds k x c h at =
      let high = h.high in
      let size = s.ram.size in
      ap (λ (g : Granule). g.cap) (same_granule p s k) ∙ booted_in p k (omega (arith, high, at, size)) ∙ ap (boot_cap p) at ∙ sym h.is

  -- and it has a number
  abbrev number_at : ℕ → ℕ
  number_at x = (x - p.ram) / 8

  number_of : (x : ℕ) (c : Cap) → BootPuts p x c → address_of (image_of p) (number_at x) ≡ x
  unfolding image_of
  number_of x c h =
      let low = h.low in
      let even = h.even in
      let ram = s.ram.base in
      omega (arith, low, even, ram)

  -- ---- each entry

  stands : (n : ℕ) (x : Place) → cap_at (boot_state p) x ≡ made_cap (image_of p) n → (made_cap (image_of p) n).tag ≡ true → StandsAtBoot p n
  stands n x is tagged = record { place = x; is = is; tagged = tagged; grant = made_grant p s n tagged }

  stands_in_ram : (n x : ℕ) → BootPuts p x (boot_cap_of p n) → (boot_cap_of p n).tag ≡ true → StandsAtBoot p n
  unfolding image_of
  stands_in_ram n x h tagged = stands n (InRam (number_at x)) (granule_holds (number_at x) x (boot_cap_of p n) h (number_of x (boot_cap_of p n) h)) tagged

  at : (n m : ℕ) → n ≡ m → StandsAtBoot p m → StandsAtBoot p n
  at n m same is = subst (StandsAtBoot p) (sym same) is

  -- no capability is made for it
  other : {G : Type 0} (n : ℕ) (r : Root) → root_of (entries_of p) n ≡ r → is_root r.origin ≡ false → HasCapability (image_of p) n → G
  unfolding image_of
  other n r same none h = no_way (sym none ∙ (ap (λ (z : Root). is_root z.origin) (sym same) ∙ h.rooted))

  in_case : (n : ℕ) → EntryIs p n → HasCapability (image_of p) n → StandsAtBoot p n
  unfolding image_of
  in_case n (is_nothing root_is gate_is made_is) h = other n _ root_is refl h
  in_case n (is_trusted number root_is gate_is made_is) h =
      at n 0 number (subst (λ c. cap_at (boot_state p) (InRam (number_at p.trusted)) ≡ c → c.tag ≡ true → StandsAtBoot p 0) (sentry_is p) (stands 0 (InRam (number_at p.trusted)))
      (granule_holds (number_at p.trusted) p.trusted return_sentry (puts_sentry p s) (number_of p.trusted return_sentry (puts_sentry p s)))
      sentry_made.made.tagged)
  in_case n (is_code b c has number) h = at n _ number (stands_in_ram _ c.table (puts_code p s b c has.there) (code_stands p s b c has.there).made.tagged)
  in_case n (is_globals b c has number) h = at n _ number (stands_in_ram _ (c.table + 8) (puts_globals p s b c has.there) (globals_stand p s b c has.there).made.tagged)
  in_case n (is_slot b c j x has is number) h = at n _ number (stands_in_ram _ (c.code.base + 8 * j) (puts_slot p s b j c x has.there is) (slots_stand p s b c j x has.there is).made.tagged)
  in_case n (is_export b c j x has is number) h = other n _ (ap (root_of (entries_of p)) number ∙ (has.export j x is).root_is) refl h
  in_case n (is_library l c has number) h =
      let root_is = ap (root_of (entries_of p)) number ∙ has.code.root_is in
      let owned = h.owned (ap (λ (z : Root). z.origin) root_is) in
      absurd (let clash : Library l ≡ Compartment owned.0 = sym (ap (λ (z : Root). z.owner) root_is) ∙ owned.1 in cc)
  in_case n (is_library_slot l c j x has is number) h = at n _ number (stands_in_ram _ (c.base + 8 * j) (puts_library_slot p s l j c x has.there is) (library_slots_stand p s l c j x has.there is).made.tagged)
  in_case n (is_library_export l c j x has is number) h = other n _ (ap (root_of (entries_of p)) number ∙ (has.export j x is).root_is) refl h
  in_case n (is_stack t x has number) h =
      at n _ number (stands (stack_number p t) (InRegister t 2) (ap (λ (z : st.Thread). register z 2) (thread_starts p t x has.there)) (stacks_stand p s t x has.there).made.tagged)

  pub entry_stands : (n : ℕ) → HasCapability (image_of p) n → StandsAtBoot p n
  entry_stands n h = in_case n (entry_of p n) h
