-- The checks of fetches and accesses: which traps they tell, and what a fetch that passed says.
use Rattle.std.proofs.Common.{ℕ, ◌≡◌, ◌<◌, ◌≤◌, ◌+◌, ◌&&◌, Bool, true, inl, inr, refl, arith, nat_le}
use Rattle.std.proofs.lemmas.Bool.{eqb-true, leb-true, and_parts}
use Rattle.law_lists.proofs.Tests.{chosen}
use Rattle.def_words.specs.declared.Cap.{Cap}
use Rattle.def_words.specs.Authority.{cap_address, cap_base, cap_top}
use Rattle.def_words.specs.Permissions.{has, execute}
use Rattle.def_words.specs.Seals.{cap_seal}
use Rattle.def_step.specs.declared.Access.{Access}
use Rattle.def_profile.specs.declared.traps.TheConstants.{BOUNDS_CODE, TAG_CODE, SEAL_CODE, EXECUTE_CODE, LOAD_CODE, STORE_CODE, STORE_CAPABILITY_CODE}
use Rattle.def_step.specs.Accesses.{access_checks, load_checks, store_checks}
use Rattle.def_step.specs.Instructions.{fetch_checks}
use Rattle.law_moves.proofs.Checks.{AllTell, AllPass, register_tells, counter_tells, plain_tells}

-- ---- the traps of instructions

pub fetch_tells : (pcc : Cap) → AllTell (fetch_checks pcc)
fetch_tells pcc =
    (counter_tells TAG_CODE (inr (inl refl)), (counter_tells SEAL_CODE (inr (inr (inl refl))), (counter_tells EXECUTE_CODE (inr (inr (inr (inl refl)))), (counter_tells BOUNDS_CODE (inl refl), tt))))

load_tells : (a : Access) (x : Cap) (at : ℕ) → a.by < 16 → AllTell (load_checks a x at)
load_tells a x at small =
    (register_tells TAG_CODE a.by small (inr (inl refl)), (register_tells SEAL_CODE a.by small (inr (inr (inl refl))), (register_tells LOAD_CODE a.by small (inr (inr (inr (inr (inl refl))))), (register_tells BOUNDS_CODE a.by small (inl refl), (plain_tells 4 (inr (inr (inr (inl refl)))), tt)))))

pub store_tells : (a : Access) (x : Cap) (at : ℕ) (carries : Bool) → a.by < 16 → AllTell (store_checks a x at carries)
store_tells a x at carries small =
    (register_tells TAG_CODE a.by small (inr (inl refl)), (register_tells SEAL_CODE a.by small (inr (inr (inl refl))), (register_tells STORE_CODE a.by small (inr (inr (inr (inr (inr (inl refl)))))), (register_tells STORE_CAPABILITY_CODE a.by small (inr (inr (inr (inr (inr (inr refl)))))), (register_tells BOUNDS_CODE a.by small (inl refl), (plain_tells 6 (inr (inr (inr (inr (inl refl))))), tt))))))

pub access_tells : (a : Access) (x y : Cap) (at : ℕ) → a.by < 16 → AllTell (access_checks a x y at)
access_tells a x y at small = chosen AllTell a.loads (load_checks a x at) (store_checks a x at (a.whole && y.tag)) (λ loads. load_tells a x at small) (λ stores. store_tells a x at (a.whole && y.tag) small)

-- ---- a fetch that passed

pub record Fetched (pcc : Cap) : Type 0 where
  pub tagged : pcc.tag ≡ true
  pub unsealed : cap_seal pcc ≡ 0
  pub executes : has pcc execute ≡ true
  pub some : cap_base pcc < cap_top pcc

pub fetch_passes : (pcc : Cap) → AllPass (fetch_checks pcc) → Fetched pcc
fetch_passes pcc h =
    let ends = and_parts (nat_le (cap_base pcc) (cap_address pcc)) (nat_le (cap_address pcc + 4) (cap_top pcc)) h.1.1.1.0 in
    let low : cap_base pcc ≤ cap_address pcc = leb-true (cap_base pcc) (cap_address pcc) ends.0 in
    let high : cap_address pcc + 4 ≤ cap_top pcc = leb-true (cap_address pcc + 4) (cap_top pcc) ends.1 in
    record { tagged = h.0; unsealed = eqb-true (cap_seal pcc) 0 h.1.0; executes = h.1.1.0; some = omega (arith, low, high) }
