-- A row's registers pass the load filter.
use Rattle.std.proofs.Common.{ℕ, ◌≡◌, ◌≤◌, true, List, [], ◌∷◌, length, map, refl, ap}
use Rattle.std.proofs.Math.ListN.{get_or}
use Rattle.std.proofs.lemmas.List.{append-nil, drop_all, take_all}
use Rattle.law_lists.proofs.Maps.{so_far}
use Rattle.def_words.specs.declared.Cap.{Cap}
use Rattle.def_memory.specs.declared.Granule.{Granule}
use Rattle.def_memory.specs.Granules.{plain}
use Rattle.def_machine.specs.Memory.{filtered_in}
use Rattle.ct_areas.specs.declared.thread.Thread as row
use Rattle.ct_threads.specs.Kept.{IsKept}

-- where each of them has passed
pub passed_all : (f : Cap → Cap) (n : ℕ) (cs : List Cap) → length cs ≤ n → so_far f n cs ≡ map f cs
passed_all f n cs le = rw (take_all n cs le, drop_all n cs le) (append-nil (map f cs))

abbrev pub row_sifted : List Granule → row.Thread → row.Thread
row_sifted gs t = record t { regs = map (filtered_in t.area.ram gs) t.regs }

sifted_first : (ram : ℕ) (gs : List Granule) (rs : List Cap) → get_or rs 0 (plain 0) ≡ plain 0 → get_or (map (filtered_in ram gs) rs) 0 (plain 0) ≡ plain 0
sifted_first ram gs [] e = refl
sifted_first ram gs (r ∷ rs) e = ap (filtered_in ram gs) e

pub sifted_kept : (gs : List Granule) (r : row.Thread) → IsKept gs true r → IsKept gs true (row_sifted gs r)
sifted_kept gs r k = record {
  area = k.area;
  room = k.room;
  zero = sifted_first r.area.ram gs r.regs k.zero;
  alive = k.alive;
  clean = k.clean;
}
