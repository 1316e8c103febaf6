use Rattle.std.proofs.Common.{◌≡◌, ◌+◌, [], Some, None, sym, arith}
use Rattle.def_image.specs.Checks.{first, walked}
use Rattle.def_image.specs.Indexes.{compartment_asked, own_slot_asked}
use Rattle.law_image.proofs.Walks.{ends}
use Rattle.ct_image_limits.proofs.At.{goes_at, stops_at, left_at}
use Rattle.ct_image_parts.specs.Places.{compartment_bytes}
use Rattle.ct_image.proofs.indexes.compartments_fault.Goals as goal

pub returns-in-Some : goal.returns-in-Some
returns-in-Some c =
    let all = c.args.compartments.now in
    let x = c.index-compartments-index.result in
    let told : first (walked (own_slot_asked c.args.parts.now) (λ s. 48) (c.loop-index.place + 68) [] c.index-compartments-index.result.code.slots) ≡ Some c.in-Some.found = cc in
    sym (stops_at (compartment_asked c.args.parts.now) compartment_bytes c.loop-index.place c.loop-index.index all x _ c.in-Some.found c.loop-index-test.true c.index-compartments-index.is told c.loop-index.invariant.rest)

pub loop-index-preserved : goal.loop-index-preserved
loop-index-preserved c =
    let all = c.args.compartments.now in
    let x = c.index-compartments-index.result in
    let none : first (walked (own_slot_asked c.args.parts.now) (λ s. 48) (c.loop-index.place + 68) [] c.index-compartments-index.result.code.slots) ≡ None = cc in
    let left = left_at compartment_bytes c.loop-index.index all x c.loop-index-test.true c.index-compartments-index.is in
    record {
      place = omega (arith, c.loop-index.invariant.place, left, c.compartment_bytes-place.ensures);
      rest = rw c.compartment_bytes-place.ensures (goes_at (compartment_asked c.args.parts.now) compartment_bytes c.loop-index.place c.loop-index.index all x _ c.loop-index-test.true c.index-compartments-index.is none c.loop-index.invariant.rest);
    }

pub returns : goal.returns
returns c = sym (ends (compartment_asked c.args.parts.now) compartment_bytes c.loop-index.place c.loop-index.index c.args.compartments.now _ c.loop-index-test.false c.loop-index.invariant.rest)
