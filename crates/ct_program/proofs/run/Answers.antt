use Rattle.std.proofs.Common.{ap}
use Rattle.def_port.specs.Forms.{disk_view}
use Rattle.ct_program.proofs.run.Goals as goal

pub returns : goal.returns
returns g c = record {
  folder = disk_view c.new-folder.result;
  folder_after = disk_view c.capfw.new.folder;
  fresh = ap disk_view c.new-folder.ensures;
  call = record {
    answer = c.capfw.ensures.answer;
    decided = c.capfw.ensures.decided;
    written = c.capfw.ensures.written;
    allowed = c.capfw.ensures.allowed;
    sound = c.capfw.ensures.sound;
    licensed = c.capfw.ensures.licensed;
    safe = c.capfw.ensures.safe;
  };
}
