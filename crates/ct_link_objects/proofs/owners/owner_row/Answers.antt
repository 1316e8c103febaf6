use Rattle.std.proofs.Common.{◌≡◌, length, vec_len, arith}
use Rattle.ct_link_objects.proofs.Rows.{owners_counted}
use Rattle.ct_link_objects.proofs.owners.owner_row.Goals as goal

pub index-requires-2 : goal.index-requires-2
index-requires-2 c =
    let all = owners_counted c.args.desc.now in
    let low = c.requires in
    let past = c.if-owner-own.false in
    let e = c.len-own.ensures in
    let own : c.len-own.result ≡ length c.args.desc.now.compartments = rw (← c.desc.view_is) (omega (arith, e)) in
    let lent : vec_len c.desc.inside.libraries ≡ length c.args.desc.now.libraries = rw (← c.desc.view_is) (omega arith) in
    omega (arith, all, low, past, own, lent)
