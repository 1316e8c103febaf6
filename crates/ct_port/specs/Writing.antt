-- What the answer of one write comes to.
use Rattle.std.specs.Prelude.{◌≡◌, ◌≢◌, ℕ, Result, Ok, Err}

-- How many bytes were taken: as many as the write says, none where its error is one after which a write is tried
-- again. A write that takes nothing of its own accord has failed, and so has one with any other error.
abbrev pub Took : {E F : Type 0} → (E → Type 0) → Result ℕ E → Result ℕ F → Type 0
Took again (Ok n) (Ok m) = (m ≡ n) × (n ≢ 0)
Took again (Ok n) (Err failed) = n ≡ 0
Took again (Err e) (Ok m) = (m ≡ 0) × again e
Took again (Err e) (Err failed) = again e → ⊥
