-- What an integer decodes to.
use Rattle.std.proofs.Common.{ℕ, ◌*◌, ◌/◌, ◌%◌, ◌^◌, ◌<◌, ◌≡◌, refl, ap, sym, ◌∙◌, inl, inr, arith}
use Rattle.law_lists.proofs.Tests.{lt_tells}
use Rattle.def_words.specs.declared.Cap.{Cap}
use Rattle.def_words.specs.Authority.{base_of, cap_bounds, one_if_less, top_of}
use Rattle.def_words.specs.Permissions.{bit, cap_perms, set_where, unpacked}
use Rattle.def_words.specs.Seals.{cap_seal}
use Rattle.law_words.proofs.Words.{bounds_is, perms_is, seal_is}

none_less : (a : ℕ) → one_if_less a 0 ≡ 0
none_less a = elim (lt_tells a 0) [ inl t ↦ absurd (omega (arith, t.1)) | inr t ↦ rw t.0 refl ]

base_at : (v : ℕ) → v < 2 ^ 32 → base_of 0 v ≡ v / 512 * 512
base_at v small = rw (none_less (v / 2 ^ 0 % 512)) (omega (arith, small))

top_at : (v : ℕ) → v < 2 ^ 32 → top_of 0 v ≡ v / 512 * 512
top_at v small = rw (none_less (v / 2 ^ 0 % 512)) (omega (arith, small))

pub integer_bounds : (c : Cap) → c.word < 2 ^ 32 → record { exponent = 0; base = c.word / 512 * 512; top = c.word / 512 * 512 } ≡ cap_bounds c
integer_bounds c small = sym (bounds_is c 0 c.word small (omega arith) ∙ ap (λ b. record { exponent = 0; base = b; top = top_of 0 c.word }) (base_at c.word small) ∙ ap (λ t. record { exponent = 0; base = c.word / 512 * 512; top = t }) (top_at c.word small))

nothing : unpacked 0 ≡ 0
unfolding unpacked set_where bit
nothing = refl

pub integer_perms : (c : Cap) → c.word < 2 ^ 32 → 0 ≡ cap_perms c
integer_perms c small = sym (perms_is c 0 c.word small (omega arith) ∙ nothing)

pub integer_seal : (c : Cap) → c.word < 2 ^ 32 → 0 ≡ cap_seal c
integer_seal c small = sym (seal_is c 0 c.word small (omega arith))
