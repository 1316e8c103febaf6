use Rattle.std.proofs.Common.{◌≡◌, ◌+◌, ◌-◌, refl, length, arith}
use Rattle.std.proofs.lemmas.Simd.{put_chunk_is}
use Rattle.ct_planes.proofs.bytes.put_bytes.Goals as goal

pub returns : goal.returns
returns c =
    let new = c.args.new.now in
    let same : c.copy_from_slice.new.self ≡ new = c.copy_from_slice.ensures.after in
    let width : c.args.at + length new - c.args.at ≡ length new = omega arith in
    rw (same, width, put_chunk_is c.args.at c.args.bytes.now new c.requires) refl
