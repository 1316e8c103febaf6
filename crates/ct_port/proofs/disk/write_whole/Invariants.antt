use Rattle.def_port.specs.Bytes.{AppendsBefore}
use Rattle.ct_port.proofs.disk.write_whole.Given as goal

abbrev pub invariant-loop : goal.invariant-loop
invariant-loop g l = AppendsBefore (g.W.Write.contents l.fn.writer) (g.W.Write.contents l.writer) l.rest l.piece
