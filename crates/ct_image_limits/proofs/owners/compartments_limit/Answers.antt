use Rattle.std.proofs.Common.{sym, ap, ◌∙◌, take, map, arith}
use Rattle.def_image.specs.Checks.{first}
use Rattle.def_image.specs.Limits.{compartment_limits, compartment_limits_by, compartment_name, raw_compartment_entries}
use Rattle.def_image.specs.Sizes.{compartment_size}
use Rattle.law_image.proofs.Walks.{ends}
use Rattle.ct_image_limits.proofs.At.{goes_at, stops_at, left_at, more_at}
use Rattle.ct_image_limits.proofs.owners.compartments_limit.Goals as goal

pub returns-in-Some : goal.returns-in-Some
returns-in-Some c =
    let all = c.args.compartments.now in
    let x = c.index-compartments-index.result in
    let i = c.loop-index.index in
    let numbered = ap (λ n. first (compartment_limits_by n c.loop-index.place (map compartment_name (take i all)) x)) c.loop-index.invariant.entry in
    sym (stops_at compartment_limits compartment_size c.loop-index.place i all x _ c.in-Some.found c.loop-index-test.true c.index-compartments-index.is (sym numbered ∙ sym c.compartment_limit.ensures ∙ c.in-Some.is) c.loop-index.invariant.rest)

pub loop-index-preserved : goal.loop-index-preserved
loop-index-preserved c =
    let all = c.args.compartments.now in
    let x = c.index-compartments-index.result in
    let i = c.loop-index.index in
    let numbered = ap (λ n. first (compartment_limits_by n c.loop-index.place (map compartment_name (take i all)) x)) c.loop-index.invariant.entry in
    let left = left_at compartment_size i all x c.loop-index-test.true c.index-compartments-index.is in
    let more = more_at raw_compartment_entries i all x c.loop-index-test.true c.index-compartments-index.is in
    record {
      place = omega (arith, c.loop-index.invariant.place, left, c.compartment_size-place.ensures);
      entry = omega (arith, c.loop-index.invariant.entry, more, c.compartment_entries-entry.ensures.value);
      few = omega (arith, c.loop-index.invariant.few, c.compartment_size-place.ensures, c.compartment_entries-entry.ensures.few);
      rest = rw c.compartment_size-place.ensures (goes_at compartment_limits compartment_size c.loop-index.place i all x _ c.loop-index-test.true c.index-compartments-index.is (sym numbered ∙ sym c.compartment_limit.ensures ∙ c.in_default.is) c.loop-index.invariant.rest);
    }

pub returns : goal.returns
returns c = sym (ends compartment_limits compartment_size c.loop-index.place c.loop-index.index c.args.compartments.now _ c.loop-index-test.false c.loop-index.invariant.rest)
