-- A row whose thread goes on elsewhere.
use Rattle.std.proofs.Common.{ℕ, zero, suc, ◌≡◌, true, List, [], ◌∷◌, refl, ◌∙◌}
use Rattle.std.proofs.Math.ListN.{get_or}
use Rattle.def_words.specs.declared.Cap.{Cap}
use Rattle.def_words.specs.declared.Posture.{Posture}
use Rattle.def_memory.specs.declared.Granule.{Granule}
use Rattle.def_memory.specs.Granules.{plain}
use Rattle.def_machine.specs.Registers.{written}
use Rattle.ct_areas.specs.declared.thread.Thread as row
use Rattle.ct_threads.specs.Rows.{row_gone}
use Rattle.ct_threads.specs.Kept.{IsKept}

written_first : (rs : List Cap) (n : ℕ) (c : Cap) → get_or (written rs n c) 0 (plain 0) ≡ get_or rs 0 (plain 0)
written_first rs zero c = refl
written_first [] (suc n) c = refl
written_first (r ∷ rs) (suc n) c = refl

pub gone_kept : (gs : List Granule) (r : row.Thread) (pcc : Cap) (posture : Posture) (to : ℕ) (value : Cap) → IsKept gs true r → IsKept gs true (row_gone r pcc posture to value)
gone_kept gs r pcc posture to value k = record {
  area = k.area;
  room = k.room;
  zero = written_first r.regs to value ∙ k.zero;
  alive = k.alive;
  clean = k.clean;
}
