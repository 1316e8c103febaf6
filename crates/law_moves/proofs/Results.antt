-- Results of the written operations are derived from their first operand; targets and links of jumps.
use Rattle.std.proofs.Common.{ℕ, ◌≡◌, ◌+◌, ◌%◌, ◌^◌, ◌≤◌, ◌<◌, ◌⊎◌, inl, inr, true, false, sym, subst, arith}
use Rattle.std.proofs.lemmas.Bool.{cases_eq}
use Rattle.def_words.specs.declared.Cap.{Cap}
use Rattle.def_words.specs.declared.Posture.{Posture}
use Rattle.def_words.specs.Authority.{cap_address, cap_base}
use Rattle.def_words.specs.Capability.{with_address, raised, with_bounds, with_exact_bounds, masked, sealed_by, unsealed_by, untagged}
use Rattle.def_words.specs.Permissions.{bit, has, execute, memory_capability}
use Rattle.def_words.specs.Seals.{cap_seal}
use Rattle.def_words.specs.Loaded.{attenuated}
use Rattle.def_words.specs.Jumped.{return_link}
use Rattle.law_words.proofs.Narrowing.{addressed, address_narrows, bounds_narrows, exact_narrows, masked_narrows}
use Rattle.law_words.proofs.Sealed.{sealed_narrows, unsealed_narrows}
use Rattle.law_words.proofs.Passing.{loaded_facts, loaded_narrows, linked_is}
use Rattle.def_machine.specs.Image.{Image}
use Rattle.def_confined.specs.Capabilities.{Rooted}
use Rattle.def_confined.specs.Partitioned.{Partitioned}
use Rattle.def_words.specs.Narrows.{SameSeal}
use Rattle.def_confined.specs.Made.{Loose, Derived, Links}
use Rattle.def_safety.specs.Results.{Keyed, ResultOf}
use Rattle.law_moves.proofs.Keying.{key_above}

pub address_result : (c : Cap) (a : ℕ) → a < 2 ^ 32 → ResultOf c (with_address c a)
address_result c a small = λ tagged. record { narrows = address_narrows c a small tagged; seal = inl (inl (addressed c a small tagged).unsealed, inl (addressed c a small tagged).after) }

pub raised_result : (c : Cap) (n : ℕ) → ResultOf c (raised c n)
raised_result c n = address_result c ((cap_address c + n) % 2 ^ 32) (omega arith)

pub bounds_result : (c : Cap) (n : ℕ) → ResultOf c (with_bounds c n)
bounds_result c n = λ tagged. let h = bounds_narrows c n tagged in record { narrows = (bounds_narrows c n tagged).0; seal = inl (inl (bounds_narrows c n tagged).1.before, inl (bounds_narrows c n tagged).1.after) }

pub exact_result : (c : Cap) (n : ℕ) → ResultOf c (with_exact_bounds c n)
exact_result c n = λ tagged. record { narrows = (exact_narrows c n tagged).0; seal = inl (inl (exact_narrows c n tagged).1.before, inl (exact_narrows c n tagged).1.after) }

pub masked_result : (c : Cap) (n : ℕ) → ResultOf c (masked c n)
masked_result c n = λ tagged. record { narrows = (masked_narrows c n tagged).0; seal = inl (inl (masked_narrows c n tagged).1.before, inl (masked_narrows c n tagged).1.after) }

pub untagged_result : (c : Cap) → ResultOf c (untagged c)
untagged_result c = λ tagged. absurd (let clash : false ≡ true = tagged in cc)

-- a key that stands anywhere has a root
pub sealed_result : (i : Image) (c key : Cap) → Partitioned i → (key.tag ≡ true → Rooted i key) → ResultOf c (sealed_by c key)
sealed_result i c key p r = λ tagged.
    let says = (sealed_narrows c key tagged).1 in
    let inside = (sealed_narrows c key tagged).1.inside in
    let above : 13 ≤ cap_base key = key_above i key p (r inside.tagged) (inl says.right) in
    record { narrows = (sealed_narrows c key tagged).0; seal = inl (inl says.before, inr (omega (arith, above, inside.low))) }

pub unsealed_result : (i : Image) (c key : Cap) → Partitioned i → (key.tag ≡ true → Rooted i key) → ResultOf c (unsealed_by c key)
unsealed_result i c key p r = λ tagged.
    let says = (unsealed_narrows c key tagged).1 in
    let inside = (unsealed_narrows c key tagged).1.inside in
    let above : 13 ≤ cap_base key = key_above i key p (r inside.tagged) (inr says.right) in
    record { narrows = (unsealed_narrows c key tagged).0; seal = inl (inr (omega (arith, above, inside.low)), inl says.after) }

pub attenuated_result : (by c : Cap) → ResultOf c (attenuated by c)
attenuated_result by c = λ tagged. elim (cases_eq (cap_seal c) 0) [
  | inl open_one ↦ record { narrows = (loaded_narrows by c tagged).0; seal = inl (inl open_one, inl ((loaded_facts by c).open_stays open_one)) }
  | inr sealed ↦ record { narrows = (loaded_narrows by c tagged).0; seal = inr ((loaded_facts by c).sealed_stays sealed) }
]

-- ---- and so each is derived, as the moves take it

pub widened : (c d : Cap) → ResultOf c d → Derived c d
widened c d h = λ tagged. let is = h tagged in record { narrows = is.narrows; seal = by_key is.seal }
  where
    loose : (n : ℕ) → Keyed n → Loose n
    loose n (inl open_one) = inl open_one
    loose n (inr key) = inr (omega (arith, key))

    by_key : (Keyed (cap_seal c) × Keyed (cap_seal d)) ⊎ SameSeal c d → (Loose (cap_seal c) × Loose (cap_seal d)) ⊎ SameSeal c d
    by_key (inl keyed) = inl (loose (cap_seal c) keyed.0, loose (cap_seal d) keyed.1)
    by_key (inr same) = inr same

pub address_derived : (c : Cap) (a : ℕ) → a < 2 ^ 32 → Derived c (with_address c a)
address_derived c a small = widened c (with_address c a) (address_result c a small)

pub raised_derived : (c : Cap) (n : ℕ) → Derived c (raised c n)
raised_derived c n = widened c (raised c n) (raised_result c n)

pub bounds_derived : (c : Cap) (n : ℕ) → Derived c (with_bounds c n)
bounds_derived c n = widened c (with_bounds c n) (bounds_result c n)

pub exact_derived : (c : Cap) (n : ℕ) → Derived c (with_exact_bounds c n)
exact_derived c n = widened c (with_exact_bounds c n) (exact_result c n)

pub masked_derived : (c : Cap) (n : ℕ) → Derived c (masked c n)
masked_derived c n = widened c (masked c n) (masked_result c n)

pub untagged_derived : (c : Cap) → Derived c (untagged c)
untagged_derived c = widened c (untagged c) (untagged_result c)

pub sealed_derived : (i : Image) (c key : Cap) → Partitioned i → (key.tag ≡ true → Rooted i key) → Derived c (sealed_by c key)
sealed_derived i c key p r = widened c (sealed_by c key) (sealed_result i c key p r)

pub unsealed_derived : (i : Image) (c key : Cap) → Partitioned i → (key.tag ≡ true → Rooted i key) → Derived c (unsealed_by c key)
unsealed_derived i c key p r = widened c (unsealed_by c key) (unsealed_result i c key p r)

pub attenuated_derived : (by c : Cap) → Derived c (attenuated by c)
attenuated_derived by c = widened c (attenuated by c) (attenuated_result by c)

pub attenuated_carries : (by c : Cap) → (attenuated by c).tag ≡ true → has by memory_capability ≡ true
attenuated_carries by c tagged = (loaded_narrows by c tagged).1

-- an unsealed target, or the program counter further on: unsealed and as executable
pub address_runs : (c : Cap) (a : ℕ) → a < 2 ^ 32 → has c execute ≡ true → (with_address c a).tag ≡ true → (cap_seal (with_address c a) ≡ 0) × (has (with_address c a) execute ≡ true)
address_runs c a small runs tagged =
    let P : ℕ → Type 0 = λ n. bit n execute ≡ true in
    ((addressed c a small tagged).after, subst P (sym (addressed c a small tagged).rights) runs)

-- so the program counter further on
pub raised_runs : (c : Cap) (n : ℕ) → has c execute ≡ true → (raised c n).tag ≡ true → (cap_seal (raised c n) ≡ 0) × (has (raised c n) execute ≡ true)
raised_runs c n = address_runs c ((cap_address c + n) % 2 ^ 32) (omega arith)

-- the link of a jump
pub linked_links : (pcc : Cap) (before : Posture) → has pcc execute ≡ true → Links pcc before (return_link pcc before)
linked_links pcc before runs = λ tagged. linked_is pcc before runs tagged
