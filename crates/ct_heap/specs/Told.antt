-- Objects as the calls tell them.
use Rattle.std.specs.Prelude.{ℕ}
use Rattle.ct_heap.specs.declared.rows.Object.{Object}
use Rattle.ct_heap.specs.declared.rows.Found.{Found}

-- number, base, length, and the live charges on its quota
abbrev pub object_row : ℕ → ℕ → ℕ → ℕ → Object
object_row number base length live = record { number = number; base = base; length = length; live = live }

abbrev pub found : Object → ℕ → Found
found object quota = record { object = object; quota = quota }
