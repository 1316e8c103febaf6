-- An untagged first operand gives an untagged result, and an untagged result has no shadow.
use Rattle.std.proofs.Common.{ℕ, ◌+◌, ◌%◌, ◌^◌, ◌==◌, ◌≡◌, Bool, true, false, sym, ◌∙◌, refl, inl, inr}
use Rattle.law_lists.proofs.Tests.{bool_tells}
use Rattle.def_words.specs.declared.Cap.{Cap}
use Rattle.def_words.specs.declared.Posture.{Posture}
use Rattle.def_words.specs.declared.Shadow.{Shadow}
use Rattle.def_words.specs.Authority.{cap_address}
use Rattle.def_words.specs.Capability.{word_sealed, IsSettled, integer, masked, raised, sealed_by, unsealed_by, untagged, with_address, with_bounds, with_exact_bounds}
use Rattle.def_words.specs.Derive.{derive, root_cap, sealed_as}
use Rattle.def_words.specs.Jumped.{return_link, opened}
use Rattle.def_words.specs.Loaded.{attenuated}
use Rattle.law_words.proofs.Narrowing.{bounds_narrows, exact_narrows, masked_narrows}
use Rattle.law_words.proofs.Sealed.{sealed_narrows, unsealed_narrows}
use Rattle.law_words.proofs.Passing.{loaded_narrows}
use Rattle.law_words.proofs.Making.{settled}

-- what a tagged result would say of its operand
away : (before after : Bool) → (after ≡ true → before ≡ true) → before ≡ false → after ≡ false
away before true h off = absurd (let no_way : true ≡ false = sym (h refl) ∙ off in cc)
away before false h off = refl

pub address_away : (c : Cap) (a : ℕ) → c.tag ≡ false → (with_address c a).tag ≡ false
unfolding with_address
address_away c a off = rw off refl

pub bounds_away : (c : Cap) (n : ℕ) → c.tag ≡ false → (with_bounds c n).tag ≡ false
bounds_away c n off = away c.tag (with_bounds c n).tag (λ t. (bounds_narrows c n t).0.tagged) off

pub exact_away : (c : Cap) (n : ℕ) → c.tag ≡ false → (with_exact_bounds c n).tag ≡ false
exact_away c n off = away c.tag (with_exact_bounds c n).tag (λ t. (exact_narrows c n t).0.tagged) off

pub masked_away : (c : Cap) (n : ℕ) → c.tag ≡ false → (masked c n).tag ≡ false
masked_away c n off = away c.tag (masked c n).tag (λ t. (masked_narrows c n t).0.tagged) off

pub sealed_away : (c key : Cap) → c.tag ≡ false → (sealed_by c key).tag ≡ false
sealed_away c key off = away c.tag (sealed_by c key).tag (λ t. (sealed_narrows c key t).0.tagged) off

pub unsealed_away : (c key : Cap) → c.tag ≡ false → (unsealed_by c key).tag ≡ false
unsealed_away c key off = away c.tag (unsealed_by c key).tag (λ t. (unsealed_narrows c key t).0.tagged) off

pub loaded_away : (by c : Cap) → c.tag ≡ false → (attenuated by c).tag ≡ false
loaded_away by c off = away c.tag (attenuated by c).tag (λ t. (loaded_narrows by c t).0.tagged) off

pub address_settles : (c : Cap) (a : ℕ) → IsSettled (with_address c a)
unfolding with_address
address_settles c a = settled (with_address c a).tag (with_address c a).word c.shadow

pub raise_settles : (c : Cap) (n : ℕ) → IsSettled (raised c n)
raise_settles c n = address_settles c ((cap_address c + n) % 2 ^ 32)

pub bounds_settles : (c : Cap) (n : ℕ) → IsSettled (with_bounds c n)
unfolding with_bounds
bounds_settles c n = settled (with_bounds c n).tag (with_bounds c n).word c.shadow

pub exact_settles : (c : Cap) (n : ℕ) → IsSettled (with_exact_bounds c n)
unfolding with_exact_bounds
exact_settles c n = settled (with_exact_bounds c n).tag (with_exact_bounds c n).word c.shadow

pub mask_settles : (c : Cap) (n : ℕ) → IsSettled (masked c n)
unfolding masked
mask_settles c n = settled (masked c n).tag (masked c n).word c.shadow

pub seals_settles : (c key : Cap) → IsSettled (sealed_by c key)
unfolding sealed_by
seals_settles c key = settled (sealed_by c key).tag (sealed_by c key).word c.shadow

pub unseals_settles : (c key : Cap) → IsSettled (unsealed_by c key)
unfolding unsealed_by
unseals_settles c key = settled (unsealed_by c key).tag (unsealed_by c key).word c.shadow

pub loads_settles : (by c : Cap) → IsSettled (attenuated by c)
unfolding attenuated
loads_settles by c = settled (attenuated by c).tag (attenuated by c).word c.shadow

pub clears_settles : (c : Cap) → IsSettled (untagged c)
clears_settles c off = refl

pub opens_settles : (c : Cap) → IsSettled (opened c)
opens_settles c = settled (opened c).tag (opened c).word (record { root = c.shadow.root; source = 0 })

pub links_settles : (pcc : Cap) (before : Posture) → IsSettled (return_link pcc before)
links_settles pcc before off = rw off refl

pub integers_settles : (n : ℕ) → IsSettled (integer n)
integers_settles n off = refl

sealed_as_settles : (c : Cap) (kind : ℕ) → IsSettled c → IsSettled (sealed_as c kind)
sealed_as_settles c kind h = elim (bool_tells (kind == 0)) [ inl e ↦ rw e h | inr e ↦ rw e (settled c.tag (word_sealed c (kind % 8)) c.shadow) ]

pub derives_settle : (high base length set address kind : ℕ) (from : Shadow) → IsSettled (derive high base length set address kind from)
unfolding derive
derives_settle high base length set address kind from =
    sealed_as_settles (with_address (masked (with_exact_bounds (with_address (root_cap high from) base) length) set) address) kind
    (address_settles (masked (with_exact_bounds (with_address (root_cap high from) base) length) set) address)
