use Rattle.std.proofs.Common.{sym, ap, ◌∙◌, ◌++◌, take, map, arith}
use Rattle.def_image.specs.Checks.{first as first_of}
use Rattle.def_image.specs.Limits.{library_limits_by, compartment_name, library_name, raw_library_entries}
use Rattle.def_image.specs.Sizes.{library_size}
use Rattle.law_image.proofs.Walks.{ends}
use Rattle.ct_image_limits.specs.Owners.{library_asked}
use Rattle.ct_image_limits.proofs.At.{goes_at, stops_at, left_at, more_at}
use Rattle.ct_image_limits.proofs.owners.libraries_limit.Goals as goal

pub returns-in-Some : goal.returns-in-Some
returns-in-Some c =
    let all = c.args.libraries.now in
    let x = c.index-libraries-index.result in
    let i = c.loop-index.index in
    let owners = c.args.compartments.now in
    let numbered = ap (λ n. first_of (library_limits_by n c.loop-index.place (map compartment_name owners ++ map library_name (take i all)) x)) c.loop-index.invariant.entry in
    sym (stops_at (library_asked c.args.first owners) library_size c.loop-index.place i all x _ c.in-Some.found c.loop-index-test.true c.index-libraries-index.is (sym numbered ∙ sym c.library_limit.ensures ∙ c.in-Some.is) c.loop-index.invariant.rest)

pub loop-index-preserved : goal.loop-index-preserved
loop-index-preserved c =
    let all = c.args.libraries.now in
    let x = c.index-libraries-index.result in
    let i = c.loop-index.index in
    let owners = c.args.compartments.now in
    let numbered = ap (λ n. first_of (library_limits_by n c.loop-index.place (map compartment_name owners ++ map library_name (take i all)) x)) c.loop-index.invariant.entry in
    let left = left_at library_size i all x c.loop-index-test.true c.index-libraries-index.is in
    let more = more_at raw_library_entries i all x c.loop-index-test.true c.index-libraries-index.is in
    record {
      place = omega (arith, c.loop-index.invariant.place, left, c.library_size-place.ensures);
      entry = omega (arith, c.loop-index.invariant.entry, more, c.library_entries-entry.ensures.value);
      few = omega (arith, c.loop-index.invariant.few, c.library_size-place.ensures, c.library_entries-entry.ensures.few);
      rest = rw c.library_size-place.ensures (goes_at (library_asked c.args.first owners) library_size c.loop-index.place i all x _ c.loop-index-test.true c.index-libraries-index.is (sym numbered ∙ sym c.library_limit.ensures ∙ c.in_default.is) c.loop-index.invariant.rest);
    }

pub returns : goal.returns
returns c = sym (ends (library_asked c.args.first c.args.compartments.now) library_size c.loop-index.place c.loop-index.index c.args.libraries.now _ c.loop-index-test.false c.loop-index.invariant.rest)
