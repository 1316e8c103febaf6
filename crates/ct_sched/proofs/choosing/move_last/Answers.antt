use Rattle.std.proofs.Common.{arith}
use Rattle.std.proofs.lemmas.Slice.{put_mid-rotated}
use Rattle.ct_sched.proofs.choosing.move_last.Goals as goal

pub returns : goal.returns
returns c = put_mid-rotated c.args.place _ c.args.order.now c.rotate_left.new.self 0 c.requires (omega arith) c.rotate_left.ensures.after
