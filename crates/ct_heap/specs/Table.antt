-- The table of used chunks, looked at.
use Rattle.std.specs.Prelude.{ℕ, List, Option, Some, None, if◌then◌else◌}
use Rattle.def_chunks.specs.Heaps.{begins_used_chunk, quota_named}

-- the quota of the used chunk that begins at an offset
abbrev pub owner_at : List ℕ → ℕ → Option ℕ
owner_at names offset = if begins_used_chunk names offset then Some (quota_named names offset) else None
