-- A run of a list written with one value.
use Rattle.std.specs.Prelude.{ℕ, cond, ◌&&◌, nat_le, nat_lt, List, length, map, slice_index_or}
use Rattle.std.specs.List.{range_with_len}

-- what stands at place k once the places from one number to another hold x
abbrev pub filled_at : {A : Type 0} → ℕ → ℕ → A → List A → ℕ → A
filled_at from to x xs k = cond (nat_le from k && nat_lt k to) x (slice_index_or xs k x)

abbrev pub filled : {A : Type 0} → ℕ → ℕ → A → List A → List A
filled from to x xs = map (filled_at from to x xs) (range_with_len 0 (length xs))
