-- The threads of a sound image enter exports that are there.
use Rattle.std.specs.List.{AllByRecursion}
use Rattle.def_image.specs.Parts.{PartsRow}
use Rattle.def_image.specs.Sound.{Sound, ThreadFits}
use Rattle.ct_entries.proofs.Standing.{all_of}

pub threads_fit : (p : PartsRow) → Sound p → AllByRecursion (ThreadFits p) p.threads
threads_fit p s = all_of (ThreadFits p) p.threads s.thread
