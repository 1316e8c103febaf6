use Rattle.def_link.specs.Slots.{lexport_gate}
use Rattle.ct_link_objects.specs.Objects.{built_of}
use Rattle.ct_link.proofs.Stretches.{numbered_pushed}
use Rattle.ct_link.proofs.gates.library_gates.Goals as goal

pub loop-export-preserved : goal.loop-export-preserved
loop-export-preserved c =
    let l = c.loop-export in
    numbered_pushed (lexport_gate (built_of c.args.object.now)) c.args.entry c.args.exports.now l.export-index l.number _ c.export-item.result l.gates.items c.push.new.self.items c.in_ok-library_gate.field-0
    l.invariant c.loop-export-test.true c.export-item.is c.in_ok-library_gate.ensures c.in_ok-push.ensures.items
