use Rattle.std.proofs.Common.{ℕ, ◌+◌, ◌≡◌, ◌<◌, ◌≤◌, List, [], ◌∷◌, ◌++◌, get_or, length, drop, refl, arith, sym, ap, ◌∙◌, subst}
use Rattle.def_layout.specs.declared.Region.{Region}
use Rattle.def_layout.specs.Placement.{region_base, region_length, region_from, last_end, placed}
use Rattle.law_layout.proofs.Placing.{next_end, grows}
use Rattle.ct_layout.proofs.Walking.{last_after, small_after, ends_under, placed_after, none_placed}
use Rattle.ct_layout.proofs.ends.placed.Goals as goal

pub region_base-base-requires-clause-end : goal.region_base-base-requires-clause-end
region_base-base-requires-clause-end c = let near = c.loop-size.invariant.near in let fits = c.requires.fits in omega (arith, near, fits)

pub overflow_cast-base : goal.overflow_cast-base
overflow_cast-base c =
    let lt : c.loop-size.size-index < length c.args.sizes.now = omega arith in
    let under = ends_under c.loop-size.end c.loop-size.size-index (last_end c.args.base c.args.sizes.now) c.args.sizes.now lt c.loop-size.invariant.same in
    let fits = c.requires.fits in
    let is = c.region_base-base.ensures.value in
    omega (arith, under, fits, is)

pub overflow_cast-length : goal.overflow_cast-length
overflow_cast-length c =
    let lt : c.loop-size.size-index < length c.args.sizes.now = omega arith in
    let under = ends_under c.loop-size.end c.loop-size.size-index (last_end c.args.base c.args.sizes.now) c.args.sizes.now lt c.loop-size.invariant.same in
    let fits = c.requires.fits in
    let is = c.region_length-length.ensures.value in
    omega (arith, under, fits, is)

pub overflow_add-end : goal.overflow_add-end
overflow_add-end c =
    let lt : c.loop-size.size-index < length c.args.sizes.now = omega arith in
    let under = ends_under c.loop-size.end c.loop-size.size-index (last_end c.args.base c.args.sizes.now) c.args.sizes.now lt c.loop-size.invariant.same in
    let fits = c.requires.fits in
    let is = c.region_length-length.ensures.value in
    let at = c.region_base-base.ensures.value in
    omega (arith, under, fits, is, at)

pub loop-size-init : goal.loop-size-init
loop-size-init c = record {
  told = ap (λ (rs : List Region). rs ++ placed c.args.base c.args.sizes.now) c.new-regions.ensures.items;
  same = refl;
  small = c.requires.small;
  near = grows c.args.base c.args.sizes.now;
}

pub loop-size-preserved : goal.loop-size-preserved
loop-size-preserved c =
    let lt : c.loop-size.size-index < length c.args.sizes.now = omega arith in
    let ended : next_end c.loop-size.end (get_or c.args.sizes.now c.loop-size.size-index 0) ≡ c.region_base-base.result + c.region_length-length.result = cc in
    let one : region_from (region_base c.loop-size.end (get_or c.args.sizes.now c.loop-size.size-index 0)) (region_length (get_or c.args.sizes.now c.loop-size.size-index 0)) ≡ region_from c.region_base-base.result c.region_length-length.result = cc in
    let pushed : c.push.new.self.items ≡ c.loop-size.regions.items ++ region_from (region_base c.loop-size.end (get_or c.args.sizes.now c.loop-size.size-index 0)) (region_length (get_or c.args.sizes.now c.loop-size.size-index 0)) ∷ [] =
    c.in_ok-push.ensures.items ∙ ap (λ (r : Region). c.loop-size.regions.items ++ r ∷ []) (sym one) in
    record {
      told =
          ap (λ (n : ℕ). c.push.new.self.items ++ placed n (drop (c.loop-size.size-index + 1) c.args.sizes.now)) (sym ended)
          ∙ ap (λ (rs : List Region). rs ++ placed (next_end c.loop-size.end (get_or c.args.sizes.now c.loop-size.size-index 0)) (drop (c.loop-size.size-index + 1) c.args.sizes.now)) pushed
          ∙ placed_after c.loop-size.regions.items c.loop-size.end c.loop-size.size-index c.args.sizes.now (placed c.args.base c.args.sizes.now) lt c.loop-size.invariant.told;
      same = ap (λ n. last_end n (drop (c.loop-size.size-index + 1) c.args.sizes.now)) (sym ended) ∙ last_after c.loop-size.end c.loop-size.size-index (last_end c.args.base c.args.sizes.now) c.args.sizes.now lt c.loop-size.invariant.same;
      small = small_after c.args.sizes.now c.loop-size.size-index lt c.loop-size.invariant.small;
      near = (let under = ends_under c.loop-size.end c.loop-size.size-index (last_end c.args.base c.args.sizes.now) c.args.sizes.now lt c.loop-size.invariant.same in subst (λ n. n ≤ last_end c.args.base c.args.sizes.now) ended under);
    }

pub returns : goal.returns
returns c = none_placed c.loop-size.regions.items c.loop-size.end c.loop-size.size-index c.args.sizes.now (placed c.args.base c.args.sizes.now) (omega arith) c.loop-size.invariant.told
