-- Several granules that aren't hidden.
use Rattle.std.proofs.Common.{ℕ, ◌≡◌, ◌+◌, ◌≤◌, ◌<◌, Bool, false, List, [], ◌∷◌, length, refl, ap, ◌∙◌, arith}
use Rattle.def_words.specs.declared.Cap.{Cap}
use Rattle.def_memory.specs.declared.Granule.{Granule}
use Rattle.def_memory.specs.Granules.{granule_at}
use Rattle.def_memory.specs.Granules.{holding, holding_all}
use Rattle.def_hidden.specs.Hiding.{with_hidden}
use Rattle.law_hidden.proofs.Granules.{seen_at, set_seen}

pub held_seen : (h : ℕ → Bool) (gs : List Granule) (k : ℕ) (cs : List Cap) → ((j : ℕ) → k ≤ j → j < k + length cs → h j ≡ false) → holding_all (with_hidden h gs) k cs ≡ with_hidden h (holding_all gs k cs)
held_seen h gs k [] open_ = refl
held_seen h gs k (c ∷ cs) open_ =
    let here : h k ≡ false = open_ k (omega arith) (omega arith) in
    ap (λ xs. holding_all xs (k + 1) cs) (rw (seen_at h gs k here) (set_seen h gs k (record { cap = c; mark = (granule_at gs k).mark }) here))
    ∙ held_seen h (holding gs k c) (k + 1) cs (λ j lo hi. open_ j (omega (arith, lo)) (omega (arith, hi)))
