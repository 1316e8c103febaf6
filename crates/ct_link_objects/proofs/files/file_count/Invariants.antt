use Rattle.std.proofs.Common.{◌≡◌, ◌≤◌, take}
use Rattle.def_link.specs.Owners.{units_of}
use Rattle.ct_link_objects.specs.Objects.{files_of}
use Rattle.ct_link_objects.proofs.files.file_count.Given as goal

abbrev pub invariant-loop-owner : goal.invariant-loop-owner
invariant-loop-owner l = (l.files ≡ files_of (take l.owner (units_of l.desc))) × (l.files ≤ l.owner)
