use Rattle.std.proofs.Common.{◌≡◌, ◌+◌, [], Some, None, sym, arith}
use Rattle.def_image.specs.Checks.{first, walked}
use Rattle.def_image.specs.Rights.{library_rights, library_right_asked}
use Rattle.law_image.proofs.Walks.{ends}
use Rattle.ct_image_limits.proofs.At.{goes_at, stops_at, left_at}
use Rattle.ct_image_parts.specs.Places.{library_bytes}
use Rattle.ct_image.proofs.rights.libraries_fault.Goals as goal

pub returns-in-Some : goal.returns-in-Some
returns-in-Some c =
    let all = c.args.libraries.now in
    let x = c.index-libraries-index.result in
    let told : first (walked (library_right_asked) (λ s. 48) (c.loop-index.place + 52) [] c.index-libraries-index.result.slots) ≡ Some c.in-Some.found = cc in
    sym (stops_at library_rights library_bytes c.loop-index.place c.loop-index.index all x _ c.in-Some.found c.loop-index-test.true c.index-libraries-index.is told c.loop-index.invariant.rest)

pub loop-index-preserved : goal.loop-index-preserved
loop-index-preserved c =
    let all = c.args.libraries.now in
    let x = c.index-libraries-index.result in
    let none : first (walked (library_right_asked) (λ s. 48) (c.loop-index.place + 52) [] c.index-libraries-index.result.slots) ≡ None = cc in
    let left = left_at library_bytes c.loop-index.index all x c.loop-index-test.true c.index-libraries-index.is in
    record {
      place = omega (arith, c.loop-index.invariant.place, left, c.library_bytes-place.ensures);
      rest = rw c.library_bytes-place.ensures (goes_at library_rights library_bytes c.loop-index.place c.loop-index.index all x _ c.loop-index-test.true c.index-libraries-index.is none c.loop-index.invariant.rest);
    }

pub returns : goal.returns
returns c = sym (ends library_rights library_bytes c.loop-index.place c.loop-index.index c.args.libraries.now _ c.loop-index-test.false c.loop-index.invariant.rest)
