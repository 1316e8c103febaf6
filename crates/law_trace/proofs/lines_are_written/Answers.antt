use Rattle.std.proofs.Common.{refl}
use Rattle.std.specs.Fmt.{digits}
use Rattle.def_trace.specs.Trace.{deed_line, off_line, summary_line}
use Rattle.law_trace.proofs.lines_are_written.Goals as goal

pub returns-clause-store : goal.returns-clause-store
unfolding deed_line digits
returns-clause-store c = refl

pub returns-clause-byte : goal.returns-clause-byte
unfolding deed_line digits
returns-clause-byte c = refl

pub returns-clause-load : goal.returns-clause-load
unfolding deed_line digits
returns-clause-load c = refl

pub returns-clause-call : goal.returns-clause-call
unfolding deed_line digits
returns-clause-call c = refl

pub returns-clause-allocate : goal.returns-clause-allocate
unfolding deed_line digits
returns-clause-allocate c = refl

pub returns-clause-free : goal.returns-clause-free
unfolding deed_line digits
returns-clause-free c = refl

pub returns-clause-trap : goal.returns-clause-trap
unfolding deed_line digits
returns-clause-trap c = refl

pub returns-clause-off : goal.returns-clause-off
unfolding off_line digits
returns-clause-off c = refl

pub returns-clause-limit : goal.returns-clause-limit
unfolding summary_line digits
returns-clause-limit c = refl

pub returns-clause-finished : goal.returns-clause-finished
unfolding summary_line digits
returns-clause-finished c = refl

pub returns-clause-idle : goal.returns-clause-idle
unfolding summary_line digits
returns-clause-idle c = refl
