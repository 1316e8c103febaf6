-- The threads of the tests may start, with a heap behind their stacks.
use Rattle.std.proofs.Common.{ℕ, ◌≡◌, ◌+◌, ◌*◌, ◌%◌, ◌≤◌, inr, List, [], ◌∷◌, length, replicate, refl, sym, ap, ◌∙◌, arith, subst}
use Rattle.std.proofs.Math.ListN.{get_or}
use Rattle.std.proofs.lemmas.List.{length-replicate}
use Rattle.def_profile.specs.declared.limits.TheConstants.{RAM_END}
use Rattle.def_memory.specs.declared.Granule.{Granule}
use Rattle.def_memory.specs.Granules.{plain, nothing, cap_in}
use Rattle.def_machine.specs.Objects.{Each}
use Rattle.def_chunks.specs.Heaps.{HeapRow}
use Rattle.ct_heap.specs.Effects.{Empty, empty, range_of}
use Rattle.ct_areas.specs.declared.thread.Area.{Area}
use Rattle.ct_areas.specs.Threads.{HasArea}
use Rattle.ct_areas.specs.declared.thread.Fresh.{Fresh}
use Rattle.ct_threads.specs.Starts.{IsFresh}
use Rattle.ct_engine.specs.declared.rows.Region.{Region}
use Rattle.ct_engine.specs.Kept.{StackLies}
use Rattle.ct_engine.specs.Starts.{MayStart}
use Rattle.law_granules.proofs.Lists.{none_held}

abbrev sample_area : ℕ → ℕ → Area
sample_area trusted stack = record { ram = 2147483648; stack = stack; stack_length = 256; trusted = trusted; trusted_length = 288 }

has_area : (trusted stack : ℕ) → trusted % 16 ≡ 0 → 2147483648 ≤ trusted → trusted + 288 ≤ 2147485696 → HasArea 2048 (sample_area trusted stack)
has_area trusted stack even low high = record { ram = refl; even = even; low = low; high = omega (arith, high); whole = refl; some = omega arith }

fresh_is : (f : Fresh) (trusted stack : ℕ) → f.area ≡ sample_area trusted stack → get_or f.first.regs 0 (plain 0) ≡ plain 0
    → HasArea 2048 (sample_area trusted stack) → stack + 256 ≤ RAM_END → IsFresh 2048 f
fresh_is f trusted stack is zero_ has le = record {
  area = subst (λ (a : Area). HasArea 2048 a) (sym is) has;
  zero = zero_;
  stack = subst (λ (a : Area). a.stack + a.stack_length ≤ RAM_END) (sym is) le;
}

abbrev sample_region : Region
sample_region = record { ram = 2147483648; trusted = 2147483664; end = 2147484240 }

stack_lies : (trusted stack : ℕ) → stack % 16 ≡ 0 → 2147484240 ≤ stack → stack + 256 ≤ 2147485184 → StackLies sample_region 2147485184 2048 (sample_area trusted stack)
stack_lies trusted stack even low high = record { even = even; whole = refl; low = omega (arith, low); high = omega (arith, high); apart = inr low; before = high }

-- half a KiB without a quota
abbrev sample_heap : HeapRow
sample_heap = empty (range_of 2147483648 2147485184 512) []

pub may_start : (gs : List Granule) (f g : Fresh) (h : HeapRow) → gs ≡ replicate 256 nothing → f.area ≡ sample_area 2147483664 2147484672 → g.area ≡ sample_area 2147483952 2147484928
    → get_or f.first.regs 0 (plain 0) ≡ plain 0 → get_or g.first.regs 0 (plain 0) ≡ plain 0
    → h ≡ sample_heap → Empty h → MayStart gs sample_region (f ∷ g ∷ []) h
may_start gs f g h is first second zero_f zero_g heap none =
    let size : 8 * length gs ≡ 2048 = ap (λ (xs : List Granule). 8 * length xs) is ∙ ap (λ n. 8 * n) (length-replicate 256 nothing) in
    let one : IsFresh 2048 f = fresh_is f 2147483664 2147484672 first zero_f (has_area 2147483664 2147484672 refl (omega arith) (omega arith)) (omega arith) in
    let two : IsFresh 2048 g = fresh_is g 2147483952 2147484928 second zero_g (has_area 2147483952 2147484928 refl (omega arith) (omega arith)) (omega arith) in
    rw heap (record {
      areas = (
        subst (λ (a : Area). 2147483664 ≤ a.trusted) (sym first) (omega arith),
        ap (λ (a : Area). a.ram) first,
        subst (λ n. IsFresh n f) (sym size) one,
        (
          subst (λ (a : Area). a.trusted + a.trusted_length ≤ g.area.trusted) (sym first) (subst (λ (a : Area). 2147483952 ≤ a.trusted) (sym second) (omega arith)),
          ap (λ (a : Area). a.ram) second,
          subst (λ n. IsFresh n g) (sym size) two,
          subst (λ (a : Area). a.trusted + a.trusted_length ≤ 2147484240) (sym second) (omega arith),
        ),
      );
      stacks = subst (λ n. Each (StackLies sample_region 2147485184 n) (f.area ∷ g.area ∷ [])) (sym size) (
        subst (λ (a : Area). StackLies sample_region 2147485184 2048 a) (sym first) (stack_lies 2147483664 2147484672 refl (omega arith) (omega arith)),
        (subst (λ (a : Area). StackLies sample_region 2147485184 2048 a) (sym second) (stack_lies 2147483952 2147484928 refl (omega arith) (omega arith)), tt),
      );
      clear = λ k hidden. subst (λ (xs : List Granule). cap_in xs k ≡ plain 0) (sym is) (none_held 256 k);
      heap = record {
        empty = subst Empty heap none;
        ram = refl;
        past = omega arith;
        inside = omega (arith, size);
        clear = λ k low high. subst (λ (xs : List Granule). cap_in xs k ≡ plain 0) (sym is) (none_held 256 k);
      };
    })
