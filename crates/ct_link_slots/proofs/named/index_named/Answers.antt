use Rattle.std.proofs.Common.{◌≡◌, ◌≤◌, true, false, length, map, arith}
use Rattle.std.specs.Prelude.{bytes_eq}
use Rattle.def_link.specs.Slots.{index_of}
use Rattle.ct_link_slots.proofs.Names.{index_here, index_next, index_end}
use Rattle.ct_link_slots.proofs.named.index_named.Goals as goal

pub returns-then-eq : goal.returns-then-eq
returns-then-eq g c =
    let l = c.loop-one in
    let x = c.one-item.result in
    let yes : bytes_eq c.args.name.now (g.T.Named.name_of x) ≡ true = cc in
    index_here g.T.Named.name_of c.args.name.now c.args.all.now l.one-index l.index (index_of c.args.name.now (map g.T.Named.name_of c.args.all.now)) _ x l.invariant c.loop-one-test.true c.one-item.is yes

pub loop-one-preserved : goal.loop-one-preserved
loop-one-preserved g c =
    let l = c.loop-one in
    let x = c.one-item.result in
    let no : bytes_eq c.args.name.now (g.T.Named.name_of x) ≡ false = cc in
    index_next g.T.Named.name_of c.args.name.now c.args.all.now l.one-index l.index (index_of c.args.name.now (map g.T.Named.name_of c.args.all.now)) _ x l.invariant c.loop-one-test.true c.one-item.is no

pub returns : goal.returns
returns g c =
    let l = c.loop-one in
    let past = c.loop-one-test.false in
    let end : length c.args.all.now ≤ l.one-index = omega (arith, past) in
    index_end g.T.Named.name_of c.args.name.now c.args.all.now l.one-index l.index (index_of c.args.name.now (map g.T.Named.name_of c.args.all.now)) l.invariant end
