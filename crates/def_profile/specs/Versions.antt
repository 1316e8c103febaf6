-- Limits that differ from version to version of descriptions and images.
use Rattle.std.specs.Prelude.{ℕ, ◌==◌, if◌then◌else◌}
use Rattle.def_profile.specs.declared.limits.TheConstants.{MOST_RAM, MOST_RAM_2, MOST_THREADS, MOST_THREADS_2, SWEEP_RATE, LEAST_SWEEP_RATE, MOST_SWEEP_RATE}

-- bytes of RAM, at most
abbrev pub most_ram : ℕ → ℕ
most_ram version = if version == 1 then MOST_RAM else MOST_RAM_2

-- threads, at most
abbrev pub most_threads : ℕ → ℕ
most_threads version = if version == 1 then MOST_THREADS else MOST_THREADS_2

-- granules that one slice of the revoker passes: least and most
abbrev pub least_sweep : ℕ → ℕ
least_sweep version = if version == 1 then SWEEP_RATE else LEAST_SWEEP_RATE

abbrev pub most_sweep : ℕ → ℕ
most_sweep version = if version == 1 then SWEEP_RATE else MOST_SWEEP_RATE
