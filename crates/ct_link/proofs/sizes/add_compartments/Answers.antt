use Rattle.std.proofs.Common.{arith}
use Rattle.ct_link.specs.Rows.{IsSized, IsSmallOwner}
use Rattle.ct_link.proofs.Parts.{own_pushed}
use Rattle.ct_link.proofs.Stretches.{here}
use Rattle.ct_link.proofs.sizes.add_compartments.Goals as goal

pub code_size-requires-clause-row : goal.code_size-requires-clause-row
code_size-requires-clause-row c =
    here IsSmallOwner c.args.compartments.now c.loop-compartment.compartment-index _ c.compartment-item.result c.requires.rows c.loop-compartment-test.true c.compartment-item.is

pub code_size-requires-clause-object : goal.code_size-requires-clause-object
code_size-requires-clause-object c =
    let at = c.loop-compartment.invariant.0 in
    here IsSized c.args.objects.now c.loop-compartment.index _ c.index-objects-index.result c.requires.objects (omega (arith, at, c.loop-compartment-test.true, c.requires.each)) c.index-objects-index.is

pub table_size-requires : goal.table_size-requires
table_size-requires c =
    here IsSmallOwner c.args.compartments.now c.loop-compartment.compartment-index _ c.compartment-item.result c.requires.rows c.loop-compartment-test.true c.compartment-item.is

pub globals_size-requires : goal.globals_size-requires
globals_size-requires c =
    let at = c.loop-compartment.invariant.0 in
    here IsSized c.args.objects.now c.loop-compartment.index _ c.index-objects-index.result c.requires.objects (omega (arith, at, c.loop-compartment-test.true, c.requires.each)) c.index-objects-index.is

pub loop-compartment-preserved : goal.loop-compartment-preserved
loop-compartment-preserved c =
    let l = c.loop-compartment in
    own_pushed c.args.compartments.now c.args.objects.now l.compartment-index l.index _ c.compartment-item.result _ c.index-objects-index.result c.args.sizes.now.items l.sizes.items
    c.push.new.self.items c.push-in-loop-compartment.new.self.items c.push-in-loop-compartment-2.new.self.items c.code_size.result c.table_size.result c.globals_size.result
    l.invariant c.loop-compartment-test.true c.requires.each c.compartment-item.is c.index-objects-index.is c.code_size.ensures c.table_size.ensures c.globals_size.ensures
    c.in_ok-push.ensures.items c.in_ok-push-2.ensures.items c.in_ok-push-3.ensures.items
