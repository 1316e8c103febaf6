use Rattle.std.proofs.Common.{◌-◌, sym}
use Rattle.def_step.specs.declared.TheConstants.{TRAP_RECORD}
use Rattle.def_step.specs.Handlers.{record_end}
use Rattle.ct_areas.specs.Parts.{register_in}
use Rattle.ct_threads.specs.Handling.{is_handled_in}
use Rattle.ct_threads.proofs.Handlers.{says, place_some, record_lies}
use Rattle.ct_threads.proofs.handling.handle_row.Goals as goal

pub enter-requires : goal.enter-requires
enter-requires g c =
    let t = c.args.t.now in
    let place = place_some (is_handled_in t c.args.handler) (record_end (register_in t 2) - TRAP_RECORD) c.in-Some.at c.in-Some.ensures in
    let say = says t c.args.handler (sym place.0) in
    let lies = record_lies (g.M.Memory.granules c.args.mem.now) t c.args.handler c.in-Some.at c.requires.ready say place.1 in
    record {
      even = c.requires.ready.area.ram;
      sorted = c.requires.sorted;
      callable = c.requires.callable say.some;
      is = place.1;
      low = lies.low;
      inside = lies.inside;
      whole = lies.whole;
    }
