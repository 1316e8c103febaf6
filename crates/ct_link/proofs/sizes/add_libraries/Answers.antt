use Rattle.std.proofs.Common.{arith}
use Rattle.ct_link.specs.Rows.{IsSized, IsSmallLibrary}
use Rattle.ct_link.proofs.Parts.{lent_pushed}
use Rattle.ct_link.proofs.Stretches.{here}
use Rattle.ct_link.proofs.sizes.add_libraries.Goals as goal

pub library_size-requires-clause-row : goal.library_size-requires-clause-row
library_size-requires-clause-row c =
    here IsSmallLibrary c.args.libraries.now c.loop-library.library-index _ c.library-item.result c.requires.rows c.loop-library-test.true c.library-item.is

pub library_size-requires-clause-object : goal.library_size-requires-clause-object
library_size-requires-clause-object c =
    let at = c.loop-library.invariant.0 in
    here IsSized c.args.objects.now c.loop-library.index _ c.index-objects-index.result c.requires.objects (omega (arith, at, c.loop-library-test.true, c.requires.each)) c.index-objects-index.is

pub loop-library-preserved : goal.loop-library-preserved
loop-library-preserved c =
    let l = c.loop-library in
    lent_pushed c.args.libraries.now c.args.objects.now l.library-index l.index _ c.library-item.result _ c.index-objects-index.result c.args.sizes.now.items l.sizes.items c.push.new.self.items c.library_size.result
    l.invariant c.loop-library-test.true c.requires.each c.library-item.is c.index-objects-index.is c.library_size.ensures c.in_ok-push.ensures.items
