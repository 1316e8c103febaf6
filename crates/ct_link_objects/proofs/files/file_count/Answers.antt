use Rattle.std.proofs.Common.{◌≡◌}
use Rattle.def_link.specs.Owners.{units_of}
use Rattle.ct_link_objects.specs.Objects.{file_of, unit_of}
use Rattle.ct_link_objects.proofs.Counts.{one_more}
use Rattle.ct_link_objects.proofs.files.file_count.Goals as goal

pub loop-owner-preserved : goal.loop-owner-preserved
loop-owner-preserved c =
    let l = c.loop-owner in
    let u = unit_of c.owner_row.result in
    let sized : c.files_in-files.result ≡ file_of u.code.file = rw (← c.code.ensures) c.files_in-files.ensures in
    one_more (units_of c.args.desc.now) l.owner u l.files c.files_in-files.result c.owner_row.ensures l.invariant sized
