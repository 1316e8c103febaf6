use Rattle.std.proofs.Common.{◌/◌, refl}
use Rattle.def_areas.specs.Areas.{frame_at}
use Rattle.def_machine.specs.Memory.{filtered_in}
use Rattle.def_words.specs.declared.Cap.{Cap}
use Rattle.ct_areas.proofs.Registers.{kept_at, restored_all}
use Rattle.ct_areas.proofs.frames.take_kept.Goals as goal

pub returns : goal.returns
returns g c =
    let gs = g.M.Memory.granules c.args.mem.now in
    let at = c.args.at in
    let even = c.requires.even in
    let keep : Cap → Cap = filtered_in c.args.ram gs in
    λ actor top handling.
    let f = frame_at gs (at / 8) actor top handling in
    restored_all c.args.regs.now c.integer-none.result c.take.new.register c.take-2.new.register c.take-3.new.register c.take-4.new.register
    (keep f.c2) (keep f.c3) (keep f.c8) (keep f.c9) c.told-regs c.integer-none.ensures
    (kept_at keep gs at 8 1 c.take.new.register even refl c.take.ensures) (kept_at keep gs at 16 2 c.take-2.new.register even refl c.take-2.ensures)
    (kept_at keep gs at 24 3 c.take-3.new.register even refl c.take-3.ensures) (kept_at keep gs at 32 4 c.take-4.new.register even refl c.take-4.ensures)
