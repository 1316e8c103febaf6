-- Results of the written operations. None makes what is sealed as a token, nor opens it.
use Rattle.std.specs.Prelude.{ℕ, ◌≡◌, ◌≤◌, ◌⊎◌, true}
use Rattle.def_profile.specs.declared.seals.TheConstants.{FIRST_KEY_TYPE}
use Rattle.def_words.specs.declared.Cap.{Cap}
use Rattle.def_words.specs.Narrows.{Narrows, SameSeal}
use Rattle.def_words.specs.Seals.{cap_seal}

-- unsealed, or sealed by a key
abbrev pub Keyed : ℕ → Type 0
Keyed n = (n ≡ 0) ⊎ (FIRST_KEY_TYPE ≤ n)

-- d is a result of an operation on c: within c's authority and rights, and either sealed or opened by a key,
-- or sealed as c is
pub record IsResult (c d : Cap) : Type 0 where
  pub narrows : Narrows c d
  pub seal : (Keyed (cap_seal c) × Keyed (cap_seal d)) ⊎ SameSeal c d

abbrev pub ResultOf : Cap → Cap → Type 0
ResultOf c d = d.tag ≡ true → IsResult c d
