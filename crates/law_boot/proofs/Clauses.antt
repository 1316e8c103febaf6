-- What a sound image's entries are together: their kinds, ranges and rights, and the types of what boot makes.
use Rattle.std.proofs.Common.{ℕ, ◌≡◌, ◌+◌, ◌%◌, ◌^◌, ◌≤◌, ◌<◌, ◌⊎◌, inl, inr, Bool, true, false, refl, sym, ap, ◌∙◌, arith}
use Rattle.ct_entry.specs.declared.rows.Owner.TheVariants as owner
use Rattle.ct_entry.specs.declared.rows.Gate.{Gate}
use Rattle.ct_entry.specs.declared.rows.Kind.TheVariants as kind
use Rattle.def_profile.specs.declared.limits.TheConstants.{RAM_END}
use Rattle.def_profile.specs.declared.rights.TheConstants.{STACK_RIGHTS}
use Rattle.def_profile.specs.declared.seals.TheConstants.{EXPORT_TYPE, QUOTA_TYPE, TOKEN_TYPE, FIRST_KEY_TYPE, SENTRY_INHERIT, SENTRY_DISABLE, SENTRY_ENABLE}
use Rattle.def_words.specs.declared.Cap.{Cap}
use Rattle.def_words.specs.Permissions.{bit, execute, sealing, unsealing}
use Rattle.def_words.specs.Seals.{cap_seal}
use Rattle.def_memory.specs.Granules.{plain}
use Rattle.def_reach.specs.Roots.{Root, Origin, Listing, gate_for, is_root, is_code, is_stack, turns_interrupts_off}
use Rattle.def_reach.specs.Sharing.{Reaches}
use Rattle.def_machine.specs.Image.{root, made_cap}
use Rattle.def_confined.specs.Partitioned.{AwayFromHeap}
use Rattle.def_image.specs.Parts.{PartsRow}
use Rattle.def_image.specs.Sound.{Sound}
use Rattle.def_boot.specs.Boot.{image_of}
use Rattle.def_boot.specs.Gates.{gates_of}
use Rattle.law_boot.proofs.Sets.{is_key, no_way}
use Rattle.law_boot.proofs.Told.{Told, Faithful, LiesAs, of_nothing, in_ram, native, device, of_key, native_low, native_high, told}
use Rattle.law_boot.proofs.Imports.{named, reach}

plain_seal : cap_seal (plain 0) ≡ 0
unfolding cap_seal
plain_seal = refl

abbrev pub is_device : Origin → Bool
is_device (Listing kind.Device) = true
is_device _ = false

-- a key's range begins at its type
key_low : (p : PartsRow) (o : Origin) (base top : ℕ) → LiesAs p o base top → o ≡ Listing kind.Key → FIRST_KEY_TYPE ≤ base
key_low p o base top (of_nothing no_key none) is = no_way (sym no_key ∙ ap is_key is)
key_low p o base top (in_ram no_key low high) is = no_way (sym no_key ∙ ap is_key is)
key_low p o base top (native no_key own entry) is = no_way (sym no_key ∙ ap is_key is)
key_low p o base top (device its at) is = no_way (sym (ap is_device is) ∙ ap is_device its)
key_low p o base top (of_key its low high) is = low

-- what is sealed as this type was made for its entry
pub record SealedAs (p : PartsRow) (n : ℕ) (r : Root) (d : Cap) (k : ℕ) : Type 0 where
  pub made : Faithful p n r d
  pub is : made.seal ≡ k

module _ (p : PartsRow) (s : Sound p) where
  pub told_at : (n : ℕ) → Told p n (root (image_of p) n) (made_cap (image_of p) n)
  unfolding image_of
  told_at n = told p s n

  -- ---- ranges

  pub away_of : (o : Origin) (base top : ℕ) → LiesAs p o base top → (top ≤ p.heap) ⊎ (p.ram + p.size ≤ base)
  away_of o base top (of_nothing no_key none) = inl (omega (arith, none))
  away_of o base top (in_ram no_key low high) = inl high
  away_of o base top (native no_key own entry) =
      let low = native_low base top entry in
      let high = native_high base top entry in
      let below = s.heap.below in
      elim s.ram.native [ inl a ↦ inr (omega (arith, a, low)) | inr a ↦ inl (omega (arith, a, high, below)) ]
  away_of o base top (device its at) =
      let below = s.heap.below in
      let ends = at.ends in
      elim at.ram [ inl a ↦ inl (omega (arith, a, ends, below)) | inr a ↦ inr a ]
  away_of o base top (of_key its low high) = let below = s.heap.below in inl (omega (arith, high, below))

  pub roots_away : (n : ℕ) → is_root (root (image_of p) n).origin ≡ true → ((root (image_of p) n).top ≤ (image_of p).heap_base) ⊎ ((image_of p).heap_end ≤ (root (image_of p) n).base)
  unfolding image_of
  roots_away n is = away_of _ _ _ (told_at n).lies

  pub runs_away : (n x : ℕ) → bit (root (image_of p) n).rights execute ≡ true → (root (image_of p) n).base ≤ x → x < (root (image_of p) n).top → AwayFromHeap (image_of p) x
  unfolding image_of
  runs_away n x runs low high = elim (away_of _ _ _ (told_at n).lies) [ inl a ↦ inl (omega (arith, a, high)) | inr a ↦ inr (omega (arith, a, low)) ]

  below_end : (o : Origin) (base top : ℕ) → LiesAs p o base top → is_stack o ≡ true → top ≤ RAM_END
  below_end o base top (of_nothing no_key none) is = omega (arith, none)
  below_end o base top (in_ram no_key low high) is = let inside = s.heap.inside in let small = s.ram.end in omega (arith, high, inside, small)
  below_end o base top (native no_key own entry) is = let high = native_high base top entry in omega (arith, high)
  below_end o base top (device its at) is = no_way (sym (ap is_stack its) ∙ is)
  below_end o base top (of_key its low high) is = omega (arith, high)

  pub stacks_are : (n : ℕ) → (root (image_of p) n).origin ≡ Listing kind.Stack → ((root (image_of p) n).rights ≡ STACK_RIGHTS) × ((root (image_of p) n).top ≤ RAM_END)
  stacks_are n is = ((told_at n).rights.stacks is, below_end _ _ _ (told_at n).lies (ap is_stack is))

  pub even : ((image_of p).ram % 8 ≡ 0) × ((image_of p).heap_base % 8 ≡ 0) × ((image_of p).heap_end % 8 ≡ 0)
  unfolding image_of
  even =
      let start = s.ram.base in
      let size = s.ram.size in
      let heap = s.heap.even in
      (omega (arith, start), omega (arith, heap), omega (arith, start, size))

  pub heap_small : (image_of p).heap_end ≤ 2 ^ 32
  unfolding image_of
  heap_small = let small = s.ram.end in omega (arith, small)

  -- ---- kinds and rights

  pub quotas : (n : ℕ) → (root (image_of p) n).origin ≡ Listing kind.Quota → (a : ℕ) × ((root (image_of p) n).owner ≡ owner.Compartment a)
  quotas n is = (told_at n).owned (inr is)

  pub calls : (n : ℕ) → (root (image_of p) n).origin ≡ Listing kind.Call → (a : ℕ) × ((root (image_of p) n).owner ≡ owner.Compartment a)
  calls n is = (told_at n).owned (inl is)

  pub keys : (n : ℕ) → is_root (root (image_of p) n).origin ≡ true → (bit (root (image_of p) n).rights sealing ≡ true) ⊎ (bit (root (image_of p) n).rights unsealing ≡ true) → FIRST_KEY_TYPE ≤ (root (image_of p) n).base
  keys n is any = key_low p _ _ _ (told_at n).lies ((told_at n).rights.keys any)

  pub executes : (n : ℕ) → is_root (root (image_of p) n).origin ≡ true → bit (root (image_of p) n).rights execute ≡ true → is_code (root (image_of p) n).origin ≡ true
  executes n is runs = (told_at n).rights.runs runs is

  pub interrupts : (n : ℕ) → (root (image_of p) n).disabled ≡ true → (root (image_of p) n).origin ≡ Listing kind.Export
  interrupts n off = (told_at n).gates off

  -- ---- types

  sealed_as : (n k : ℕ) → cap_seal (made_cap (image_of p) n) ≡ k → 0 < k → SealedAs p n (root (image_of p) n) (made_cap (image_of p) n) k
  sealed_as n k is some = elim (told_at n).made [
    | inl none ↦ absurd (let zero_is : 0 ≡ k = sym plain_seal ∙ sym (ap cap_seal none.plain_is) ∙ is in omega (arith, zero_is, some))
    | inr f ↦ record { made = f; is = sym f.made.made.kind_is ∙ is }
  ]

  pub forwards : (n : ℕ) → (cap_seal (made_cap (image_of p) n) ≡ SENTRY_INHERIT) ⊎ (cap_seal (made_cap (image_of p) n) ≡ SENTRY_DISABLE) ⊎ (cap_seal (made_cap (image_of p) n) ≡ SENTRY_ENABLE)
      → ((root (image_of p) n).origin ≡ Listing kind.Library) ⊎ ((root (image_of p) n).origin ≡ Listing kind.Service)
  forwards n (inl e) = let f = sealed_as n 1 e (omega arith) in f.made.says.forwards (inl f.is)
  forwards n (inr (inl e)) = let f = sealed_as n 2 e (omega arith) in f.made.says.forwards (inr (inl f.is))
  forwards n (inr (inr e)) = let f = sealed_as n 3 e (omega arith) in f.made.says.forwards (inr (inr f.is))

  -- a library's export with interrupts off
  off_named : (n : ℕ) → (root (image_of p) n).origin ≡ Listing kind.Library → turns_interrupts_off (gate_for (gates_of p) (root (image_of p) n).of).posture ≡ true → (root (image_of p) (root (image_of p) n).of).disabled ≡ true
  unfolding image_of
  off_named n is off =
      let found = (named p s n).library is in
      ap (λ (z : Root). z.disabled) found.row.root_is ∙ sym (ap (λ (g : Gate). turns_interrupts_off g.posture) found.row.gate_is) ∙ off

  pub disables : (n : ℕ) → cap_seal (made_cap (image_of p) n) ≡ SENTRY_DISABLE
      → ((root (image_of p) (root (image_of p) n).of).disabled ≡ true) × ((d : ℕ) → Reaches (image_of p).entries (root (image_of p) n).owner d → Reaches (image_of p).entries (root (image_of p) (root (image_of p) n).of).owner d)
  disables n two =
      let f = sealed_as n 2 two (omega arith) in
      let says = f.made.says.disables f.is in
      (off_named n says.0 says.1, λ d r. reach p s n d says.0 r)

  pub call_sealed : (n : ℕ) → cap_seal (made_cap (image_of p) n) ≡ EXPORT_TYPE → (root (image_of p) n).origin ≡ Listing kind.Call
  call_sealed n is = let f = sealed_as n EXPORT_TYPE is (omega arith) in f.made.says.calls f.is

  pub quota_sealed : (n : ℕ) → cap_seal (made_cap (image_of p) n) ≡ QUOTA_TYPE → (root (image_of p) n).origin ≡ Listing kind.Quota
  quota_sealed n is = let f = sealed_as n QUOTA_TYPE is (omega arith) in f.made.says.quotas f.is

  -- boot makes none that is sealed as a token
  pub no_token : (n : ℕ) → cap_seal (made_cap (image_of p) n) ≡ TOKEN_TYPE → ⊥
  no_token n is = let f = sealed_as n TOKEN_TYPE is (omega arith) in f.made.says.no_token f.is
