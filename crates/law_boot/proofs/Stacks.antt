-- The heap, and the stacks of threads.
use Rattle.std.proofs.Common.{ℕ, ◌≡◌, ◌+◌, ◌-◌, ◌*◌, ◌/◌, ◌<◌, ◌≤◌, inl, inr, Bool, true, false, cond, nat_eq, Option, Some, None, slice_get, refl, sym, ap, ◌∙◌, subst, arith}
use Rattle.std.proofs.lemmas.Option.{slice_get_within}
use Rattle.law_lists.proofs.Tests.{le_tells, lt_tells}
use Rattle.law_lists.proofs.Places.{present}
use Rattle.ct_entry.specs.declared.rows.Kind.TheVariants as kind
use Rattle.def_reach.specs.Roots.{Root, TrustedPart, Listing, root_of}
use Rattle.def_machine.specs.Image.{Region, HeapRam, Bare, Stack, Fixed, root, address_of, granule_of, stack_entry, stack_base, stack_top}
use Rattle.def_machine.specs.Image as image
use Rattle.def_image.specs.Parts.{ThreadRow, PartsRow}
use Rattle.def_image.specs.Regions.{Holder, CodeOf, TableOf, GlobalsOf, SharedOf, SealedOf, StackOf, RegionRow, region_row}
use Rattle.def_image.specs.Regions as regions
use Rattle.def_image.specs.Sound.{Sound}
use Rattle.def_boot.specs.Contents.{part, part_at, region_part, granules_in, region_at, is_heap}
use Rattle.def_boot.specs.Gates.{entries_of}
use Rattle.def_boot.specs.Boot.{image_of}
use Rattle.law_boot.proofs.Standing.{stack_of}
use Rattle.law_boot.proofs.Sets.{no_way}
use Rattle.law_boot.proofs.Own.{stack_entry_is, few}
use Rattle.def_boot.specs.Held.{IsOf}
use Rattle.law_boot.proofs.Regions.{stack_there}
use Rattle.law_boot.proofs.Lists.{held}
use Rattle.law_boot.proofs.Found.{none_there, back}
use Rattle.law_boot.proofs.Granules.{in_ram, past_ram, at_region}

-- ---- which part is a stack

abbrev is_stack_part : Region → Bool
is_stack_part (Stack t) = true
is_stack_part _ = false

part_thread : Region → ℕ
part_thread (Stack t) = t
part_thread _ = 0

stack_holder : (h : Holder) (k t : ℕ) → region_part h k ≡ Stack t → h ≡ StackOf t
unfolding part_thread
stack_holder (CodeOf o) k t is = no_way (ap is_stack_part is)
stack_holder (TableOf b) k t is = no_way (ap is_stack_part is)
stack_holder (GlobalsOf b) k t is = no_way (ap is_stack_part is)
stack_holder (SharedOf n) k t is = no_way (ap is_stack_part is)
stack_holder (SealedOf n) k t is = no_way (ap is_stack_part is)
stack_holder (StackOf u) k t is = ap StackOf (ap part_thread is)
stack_holder regions.TrustedPart k t is = no_way (sym (by (nat_eq k 0)) ∙ ap is_stack_part is)
  where
    by : (b : Bool) → is_stack_part (cond b Fixed Bare) ≡ false
    by true = refl
    by false = refl

module _ (p : PartsRow) (s : Sound p) where
  -- ---- stacks

  root_there : (t : ℕ) (x : ThreadRow) → slice_get p.threads t ≡ Some x → (stack_base (image_of p) t ≡ x.stack) × (stack_top (image_of p) t ≡ x.stack + x.stack_length)
  unfolding image_of
  root_there t x is =
      let number = stack_entry_is p t (slice_get_within p.threads t x is) in
      let whole = ap (λ n. root_of (entries_of p) n) number ∙ (stack_of p t x is).row.root_is in
      (ap (λ (z : Root). z.base) whole, ap (λ (z : Root). z.top) whole)

  from_region : (k t : ℕ) (o : Option RegionRow) → region_at p (address_of (image_of p) k) ≡ o → part_at p o (address_of (image_of p) k) ≡ Stack t → stack_base (image_of p) t ≤ address_of (image_of p) k
  from_region k t None found is = no_way (sym (by (is_heap p (address_of (image_of p) k))) ∙ ap is_stack_part is)
    where
      by : (b : Bool) → is_stack_part (cond b HeapRam Bare) ≡ false
      by true = refl
      by false = refl
  from_region k t (Some r) found is =
      let whose = stack_holder r.holder (address_of (image_of p) k - r.base) t is in
      let lying = back p (address_of (image_of p) k) r found in
      let of : IsOf p r (StackOf t) = subst (λ h. IsOf p r h) whose (held p lying.index r lying.there) in
      let base = of.2.base_is in
      let there = root_there t of.0 of.1 in
      let start = there.0 in
      let low = lying.lies.0 in
      omega (arith, base, start, low)

  pub stack_home : (k t : ℕ) → image.region (image_of p) k ≡ Stack t → stack_base (image_of p) t ≤ address_of (image_of p) k
  unfolding part
  stack_home k t is = elim (lt_tells k (granules_in p)) [
    | inl lt ↦ from_region k t (region_at p (address_of (image_of p) k)) refl (sym (in_ram p k lt.1) ∙ is)
    | inr past ↦ no_way (ap is_stack_part (sym (past_ram p k past.1) ∙ is))
  ]

  pub stack_span : (k t : ℕ) → (root (image_of p) (stack_entry (image_of p) t)).origin ≡ Listing kind.Stack → stack_base (image_of p) t ≤ address_of (image_of p) k → address_of (image_of p) k < stack_top (image_of p) t
      → image.region (image_of p) k ≡ Stack t
  stack_span k t is low high =
      let found = present p.threads t (few p s t is) in
      let among = stack_there p t found.0 found.1 in
      let ends = root_there t found.0 found.1 in
      let base = ends.0 in
      let top = ends.1 in
      at_region p s k among.index (region_row (StackOf t) among.place found.0.stack found.0.stack_length) among.is (omega (arith, base, low), omega (arith, top, high))

  -- ---- the heap

  heap_test : (x : ℕ) → p.heap ≤ x → x < p.ram + p.size → is_heap p x ≡ true
  heap_test x low high = elim (le_tells p.heap x) [
    | inl from ↦ elim (lt_tells x (p.ram + p.size)) [
      | inl to ↦ rw (from.0, to.0) refl
      | inr past ↦ absurd (let gone = past.1 in omega (arith, gone, high))
    ]
    | inr under ↦ absurd (let gone = under.1 in omega (arith, gone, low))
  ]

  pub heap : (x : ℕ) → (image_of p).heap_base ≤ x → x < (image_of p).heap_end → ((image_of p).ram ≤ x) × (image.region (image_of p) (granule_of (image_of p) x) ≡ HeapRam)
  unfolding image_of part
  heap x low high =
      let below = s.heap.below in
      let even = s.heap.even in
      let unit = s.ram.base in
      let size = s.ram.size in
      let a : ℕ = p.ram + 8 * ((x - p.ram) / 8) in
      let from : p.heap ≤ p.ram + 8 * ((x - p.ram) / 8) = omega (arith, low, below, even, unit) in
      let to : p.ram + 8 * ((x - p.ram) / 8) < p.ram + p.size = omega (arith, low, below, high) in
      let none : region_at p (p.ram + 8 * ((x - p.ram) / 8)) ≡ None = none_there p (p.ram + 8 * ((x - p.ram) / 8)) (λ i r is lies. let end = (s.laid.each i r is).high in let lt = lies.1 in omega (arith, end, lt, from)) in (
        omega (arith, low, below),
        in_ram p ((x - p.ram) / 8) (omega (arith, low, below, high, size))
            ∙ ap (λ o. part_at p o (p.ram + 8 * ((x - p.ram) / 8))) none
            ∙ ap (λ b. cond b HeapRam Bare) (heap_test (p.ram + 8 * ((x - p.ram) / 8)) from to),
      )
