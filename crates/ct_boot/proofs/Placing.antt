-- Where the areas and the stacks of a sound image's threads lie.
use Rattle.std.proofs.Common.{ℕ, ◌≡◌, ◌+◌, ◌%◌, ◌≤◌, ◌<◌, ◌⊎◌, inl, inr, true, false, Bool, Some, map, slice_get, refl, sym, ap, ◌∙◌, subst, arith}
use Rattle.std.proofs.lemmas.List.{length-map}
use Rattle.std.proofs.lemmas.Option.{slice_get_within}
use Rattle.law_lists.proofs.Tests.{lt_tells}
use Rattle.law_lists.proofs.Places.{present}
use Rattle.def_reach.specs.Roots.{Root, root_of}
use Rattle.def_machine.specs.Image as image
use Rattle.def_machine.specs.Image.{stack_base, stack_top, trusted_end}
use Rattle.def_image.specs.Parts.{ThreadRow, PartsRow}
use Rattle.def_image.specs.Regions.{Holder, StackOf, RegionRow, region_row, trusted_region, trusted_size, trusted_length, area_size, regions_of}
use Rattle.def_image.specs.Regions as regions
use Rattle.def_image.specs.Laid.{IsRegion}
use Rattle.def_image.specs.Sound.{Sound}
use Rattle.def_boot.specs.Boot.{image_of}
use Rattle.def_boot.specs.Gates.{entries_of}
use Rattle.law_boot.proofs.Standing.{stack_of}
use Rattle.law_boot.proofs.Lying.{trusted_there}
use Rattle.law_boot.proofs.Lying as lying
use Rattle.law_boot.proofs.Own.{stack_entry_is}
use Rattle.law_boot.proofs.Sets.{no_way}
use Rattle.law_boot.proofs.Regions.{stack_there}
use Rattle.law_started.proofs.Whole.{areas_are}
use Rattle.ct_areas.specs.declared.thread.Area.{Area}
use Rattle.ct_areas.specs.declared.thread.Fresh.{Fresh}
use Rattle.ct_engine.specs.Kept.{StackLies}
use Rattle.ct_engine.specs.declared.rows.Region.{Region}
use Rattle.ct_engine.specs.Seen.{region_of}
use Rattle.ct_boot.specs.Launching.{area_from, areas_begin, areas_end, fresh_of}
use Rattle.ct_boot.specs.Placed.{IsPlaced, ArePlaced}
use Rattle.ct_boot.proofs.Standing.{begin_in, room_of, area_lies, area_is, areas_count, frames_are, begins}
use Rattle.law_layout.proofs.Placing.{size_fits}

-- ---- the region

pub ends_are : (p : PartsRow) → areas_end p ≡ trusted_end (image_of p)
unfolding image_of
ends_are p = ap (λ n. areas_begin p + n) (areas_are p.threads)

pub begins_are : (p : PartsRow) → areas_begin p ≡ (image_of p).trusted
unfolding image_of
begins_are p = refl

pub ram_is : (p : PartsRow) → p.ram ≡ (image_of p).ram
unfolding image_of
ram_is p = refl

pub heap_is : (p : PartsRow) → p.heap ≡ (image_of p).heap_base
unfolding image_of
heap_is p = refl

pub region_is : (p : PartsRow) (ram begin end : ℕ) → ram ≡ p.ram → begin ≡ areas_begin p → end ≡ areas_end p
    → (let g : Region = record { ram = ram; trusted = begin; end = end } in g) ≡ region_of (image_of p)
region_is p ram begin end at from to = rw (at ∙ ram_is p, from ∙ begins_are p, to ∙ ends_are p) refl

-- ---- two ranges without a common address

apart : (a l b m : ℕ) → 1 ≤ l → 1 ≤ m → ((x : ℕ) → a ≤ x → x < a + l → b ≤ x → x < b + m → ⊥) → (a + l ≤ b) ⊎ (b + m ≤ a)
apart a l b m some more none = elim (lt_tells b (a + l)) [
  | inr after ↦ inl after.1
  | inl before ↦ elim (lt_tells a (b + m)) [
    | inr past ↦ inr past.1
    | inl meets ↦
        let low = before.1 in
        let high = meets.1 in
        elim (lt_tells a b) [
          | inl lt ↦ let less = lt.1 in absurd (none b (omega (arith, less)) low (omega arith) (omega (arith, more)))
          | inr ge ↦ let le = ge.1 in absurd (none a (omega arith) (omega (arith, some)) le high)
        ]
  ]
]

abbrev is_trusted_holder : Holder → Bool
is_trusted_holder regions.TrustedPart = true
is_trusted_holder _ = false

module _ (p : PartsRow) (s : Sound p) where
  pub first_region : IsRegion p 0 (trusted_region p)
  unfolding regions_of
  first_region = refl

  -- the areas stand in the trusted region
  pub ends_in : areas_end p ≤ p.trusted + trusted_length p
  ends_in = let long = size_fits (trusted_size p.threads) in omega (arith, long)

  pub ends_in_ram : areas_end p ≤ p.ram + p.size
  ends_in_ram =
      let end = ends_in in
      let after = s.heap.after in
      let inside = s.heap.inside in
      omega (arith, end, after, inside)

  pub ends_small : areas_end p < 4294967296
  ends_small =
      let end = ends_in_ram in
      let last = s.ram.end in
      omega (arith, end, last)

  pub begin_low : p.ram ≤ areas_begin p
  begin_low = let low = (trusted_there p s).low in omega (arith, low)

  pub begin_even : areas_begin p % 16 ≡ 0
  begin_even = let even = (trusted_there p s).even in omega (arith, even)

  -- ---- one thread

  module _ (t : ℕ) (x : ThreadRow) (there : slice_get p.threads t ≡ Some x) where
    root_there : (stack_base (image_of p) t ≡ x.stack) × (stack_top (image_of p) t ≡ x.stack + x.stack_length)
    unfolding image_of
    root_there =
        let number = stack_entry_is p t (slice_get_within p.threads t x there) in
        let whole = ap (λ n. root_of (entries_of p) n) number ∙ (stack_of p t x there).row.root_is in
        (ap (λ (z : Root). z.base) whole, ap (λ (z : Root). z.top) whole)

    -- no address is both the stack's and the trusted region's
    not_both : (at : ℕ) → x.stack ≤ at → at < x.stack + x.stack_length → p.trusted ≤ at → at < p.trusted + trusted_length p → ⊥
    not_both at low high from to =
        let among = stack_there p t x there in
        let row = region_row (StackOf t) among.place x.stack x.stack_length in
        let index : among.index ≡ 0 = s.laid.one among.index 0 at (region_row (StackOf t) among.place x.stack x.stack_length) (trusted_region p) among.is first_region (low, high) (from, to) in
        let both : Some (region_row (StackOf t) among.place x.stack x.stack_length) ≡ Some (trusted_region p) =
        sym among.is ∙ ap (λ k. slice_get (regions_of p) k) index ∙ first_region in
        let same : region_row (StackOf t) among.place x.stack x.stack_length ≡ trusted_region p = cc in
        let other : is_trusted_holder (StackOf t) ≡ is_trusted_holder regions.TrustedPart = ap (λ (r : RegionRow). is_trusted_holder r.holder) same in
        no_way other

    stack_apart : (x.stack + x.stack_length ≤ p.trusted) ⊎ (p.trusted + trusted_length p ≤ x.stack)
    stack_apart =
        let size = (s.thread t x there).stack.0 in
        let end = ends_in in
        apart x.stack x.stack_length p.trusted (trusted_length p) (omega (arith, size)) (omega (arith, end)) not_both

    abbrev begin : ℕ
    begin = begin_in (areas_begin p) p.threads t

    begin_there : begin ≡ image.area_of (image_of p) t
    unfolding image_of
    begin_there = refl

    room_there : x.frames ≡ image.frames_most (image_of p) t
    unfolding image_of
    room_there = sym (frames_are p.threads t x there)

    fits : begin + area_size x ≤ areas_end p
    fits = let part = (begins p.threads t x there).0 in omega (arith, part)

    pub stack_lies : (at : ℕ) → StackLies (region_of (image_of p)) p.heap p.size (area_from p at x)
    stack_lies at =
        let lies = lying.stack_there p s t x there in
        let low = lies.low in
        let high = lies.high in
        let inside = s.heap.inside in
        let last = ends_in in
        let ram = ram_is p in
        record {
          even = lies.even;
          whole = lies.whole;
          low = omega (arith, low, ram);
          high = omega (arith, high, inside, ram);
          apart = elim stack_apart [
            | inl before ↦ inl (rw (sym (begins_are p)) (omega (arith, before)))
            | inr after ↦ inr (rw (sym (ends_are p)) (omega (arith, after, last)))
          ];
          before = high;
        }

    placed : IsPlaced (image_of p) p.size t (area_from p begin x)
    placed =
        let ends = root_there in
        let part = (begins p.threads t x there).1 in
        let from = begin_low in
        let even = begin_even in
        let to = fits in
        let end = ends_in_ram in
        let unit = s.ram.base in
        record {
          area = area_lies p p.size begin x (omega (arith, unit)) (omega (arith, even, part)) (omega (arith, from)) (omega (arith, to, end)) (s.thread t x there).frames.0;
          stack = subst (λ base. StackLies (region_of (image_of p)) base p.size (area_from p begin x)) (heap_is p) (stack_lies begin);
          ram_is = ram_is p;
          base_is = sym ends.0;
          top_is = sym ends.1;
          begin_is = begin_there;
          room_is = room_of x p begin ∙ room_there;
        }

  -- ---- all threads

  pub are_placed : (size : ℕ) → size ≡ p.size → ArePlaced (image_of p) size (map (λ (f : Fresh). f.area) (fresh_of p))
  unfolding image_of
  are_placed size is = rw is (record {
    count = areas_count p 0 (areas_begin p) p.threads ∙ sym (length-map p.threads (λ (x : ThreadRow). x.frames));
    each = λ t lt.
        let found = present p.threads t (subst (λ n. t < n) (areas_count p 0 (areas_begin p) p.threads) lt) in
        subst (λ (a : Area). IsPlaced (image_of p) p.size t a) (sym (area_is p 0 (areas_begin p) p.threads t found.0 found.1)) (placed t found.0 found.1);
  })
