-- The capabilities that boot makes, each from one of the three roots.
use Rattle.std.proofs.Common.{ℕ, ◌≡◌, ◌≢◌, ◌+◌, ◌%◌, ◌^◌, ◌≤◌, ◌<◌, inl, inr, true, false, bit_and, refl, sym, subst, arith, lit<, lit≤}
use Rattle.def_profile.specs.declared.rights.TheConstants.{CODE_RIGHTS, GLOBALS_RIGHTS, STACK_RIGHTS, SERVICE_RIGHTS, EXPORT_RIGHTS, QUOTA_RIGHTS, KEY_RIGHTS}
use Rattle.def_profile.specs.declared.native.TheConstants.{NATIVE_BASE, NATIVE_LENGTH, RETURN_ENTRY}
use Rattle.def_profile.specs.declared.layout.TheConstants.{DEVICE_SIZE}
use Rattle.def_profile.specs.declared.seals.TheConstants.{SENTRY_INHERIT, SENTRY_DISABLE, RETURN_ENABLE, EXPORT_TYPE, QUOTA_TYPE, FIRST_KEY_TYPE}
use Rattle.def_words.specs.Authority.{permission_bits}
use Rattle.def_words.specs.Permissions.{bit, normal_set, unpacked}
use Rattle.def_words.specs.Seals.{cap_seal, seal_type}
use Rattle.def_words.specs.Derive.{derive, memory_root, executable_root, sealing_root}
use Rattle.def_words.specs.Narrows.{IsMade}
use Rattle.def_memory.specs.Granules.{plain}
use Rattle.def_words.specs.Facts.{IsRoot, KindFits}
use Rattle.law_words.proofs.Rights.{memory_is_root, executable_is_root, sealing_is_root, taken}
use Rattle.law_words.proofs.Making.{derive_makes}
use Rattle.law_words.proofs.Exacts.{exponent_zero, exact_base, exact_top, exact_flag}
use Rattle.law_examples.specs.Starting.{first_pcc}
use Rattle.law_examples.specs.Small.{made_0, made_1, made_2, made_3, made_4, made_5, made_6, made_7, made_8, made_9, made_11, made_12, made_13, made_14, made_18, device_rights, shared_rights}

pub plain_seal : cap_seal (plain 0) ≡ 0
unfolding cap_seal
plain_seal = refl

pub make : (high base length set address type_is n : ℕ) → IsRoot high → normal_set (bit_and (unpacked (permission_bits high)) set) ≡ set → base < 2 ^ 32 → length ≤ 511 → base + length ≤ 2 ^ 32 → base ≤ address → address ≤ base + length → address < 2 ^ 32 → KindFits set type_is
    → IsMade base (base + length) set address type_is (derive high base length set address type_is (record { root = n; source = 0 })) × ((derive high base length set address type_is (record { root = n; source = 0 })).shadow ≡ record { root = n; source = 0 })
make high base length set address type_is n root normal low short fits from to small kind =
    let K : ℕ → Type 0 = λ s. KindFits s type_is in
    let made = derive_makes high base length set address type_is (record { root = n; source = 0 }) (record { root = root; low = low; fits = fits; exact = exact_flag base (base + length) (exact_base base (base + length) (exponent_zero base length short)) (exact_top base (base + length) (exponent_zero base length short)); from = from; to = to; small = small; kind_fits = subst K (sym normal) kind }) in
    let P : ℕ → Type 0 = λ s. IsMade base (base + length) s address type_is (derive high base length set address type_is (record { root = n; source = 0 })) in
    (subst P normal made.0, made.1)

kind_export : (k : ℕ) → seal_type false (k % 8) ≡ k → k ≢ 0 → KindFits EXPORT_RIGHTS k
unfolding bit
kind_export k e n = inr (n, e)

pub kind_service : (k : ℕ) → seal_type true (k % 8) ≡ k → k ≢ 0 → KindFits SERVICE_RIGHTS k
unfolding bit
kind_service k e n = inr (n, e)

kind_code : (k : ℕ) → seal_type true (k % 8) ≡ k → k ≢ 0 → KindFits CODE_RIGHTS k
unfolding bit
kind_code k e n = inr (n, e)

pub is_0 : IsMade RETURN_ENTRY (RETURN_ENTRY + NATIVE_LENGTH) SERVICE_RIGHTS RETURN_ENTRY RETURN_ENABLE made_0 × (made_0.shadow ≡ record { root = 0; source = 0 })
is_0 = make executable_root RETURN_ENTRY NATIVE_LENGTH SERVICE_RIGHTS RETURN_ENTRY RETURN_ENABLE 0 executable_is_root taken.service.1 (lit< tt) (lit≤ tt) (lit≤ tt) (lit≤ tt) (lit≤ tt) (lit< tt) (kind_service RETURN_ENABLE refl (λ e. omega (arith, e)))

pub is_1 : IsMade 0x80000000 0x80000040 CODE_RIGHTS 0x80000000 0 made_1 × (made_1.shadow ≡ record { root = 1; source = 0 })
is_1 = make executable_root 0x80000000 64 CODE_RIGHTS 0x80000000 0 1 executable_is_root taken.code.1 (lit< tt) (lit≤ tt) (lit≤ tt) (lit≤ tt) (lit≤ tt) (lit< tt) (inl refl)

pub is_2 : IsMade 0x80000060 0x80000070 GLOBALS_RIGHTS 0x80000060 0 made_2 × (made_2.shadow ≡ record { root = 2; source = 0 })
is_2 = make memory_root 0x80000060 16 GLOBALS_RIGHTS 0x80000060 0 2 memory_is_root taken.globals.1 (lit< tt) (lit≤ tt) (lit≤ tt) (lit≤ tt) (lit≤ tt) (lit< tt) (inl refl)

pub is_3 : IsMade NATIVE_BASE (NATIVE_BASE + NATIVE_LENGTH) SERVICE_RIGHTS NATIVE_BASE SENTRY_INHERIT made_3 × (made_3.shadow ≡ record { root = 3; source = 0 })
is_3 = make executable_root NATIVE_BASE NATIVE_LENGTH SERVICE_RIGHTS NATIVE_BASE SENTRY_INHERIT 3 executable_is_root taken.service.1 (lit< tt) (lit≤ tt) (lit≤ tt) (lit≤ tt) (lit≤ tt) (lit< tt) (kind_service SENTRY_INHERIT refl (λ e. omega (arith, e)))

pub is_4 : IsMade 0x10000000 0x10000010 device_rights 0x10000000 0 made_4 × (made_4.shadow ≡ record { root = 4; source = 0 })
is_4 = make memory_root 0x10000000 DEVICE_SIZE device_rights 0x10000000 0 4 memory_is_root taken.read_write.1 (lit< tt) (lit≤ tt) (lit≤ tt) (lit≤ tt) (lit≤ tt) (lit< tt) (inl refl)

pub is_5 : IsMade 0x800000D0 0x800000E0 shared_rights 0x800000D0 0 made_5 × (made_5.shadow ≡ record { root = 5; source = 0 })
is_5 = make memory_root 0x800000D0 16 shared_rights 0x800000D0 0 5 memory_is_root taken.globals.1 (lit< tt) (lit≤ tt) (lit≤ tt) (lit≤ tt) (lit≤ tt) (lit< tt) (inl refl)

pub is_6 : IsMade 0x800000A0 0x800000B0 EXPORT_RIGHTS 0x800000A0 EXPORT_TYPE made_6 × (made_6.shadow ≡ record { root = 6; source = 0 })
is_6 = make memory_root 0x800000A0 16 EXPORT_RIGHTS 0x800000A0 EXPORT_TYPE 6 memory_is_root taken.export.1 (lit< tt) (lit≤ tt) (lit≤ tt) (lit≤ tt) (lit≤ tt) (lit< tt) (kind_export EXPORT_TYPE refl (λ e. omega (arith, e)))

pub is_7 : IsMade 0x800000C0 0x800000D0 CODE_RIGHTS 0x800000C0 SENTRY_DISABLE made_7 × (made_7.shadow ≡ record { root = 7; source = 0 })
is_7 = make executable_root 0x800000C0 16 CODE_RIGHTS 0x800000C0 SENTRY_DISABLE 7 executable_is_root taken.code.1 (lit< tt) (lit≤ tt) (lit≤ tt) (lit≤ tt) (lit≤ tt) (lit< tt) (kind_code SENTRY_DISABLE refl (λ e. omega (arith, e)))

pub is_8 : IsMade 0x80000028 0x80000030 QUOTA_RIGHTS 0x80000028 QUOTA_TYPE made_8 × (made_8.shadow ≡ record { root = 8; source = 0 })
is_8 = make memory_root 0x80000028 8 QUOTA_RIGHTS 0x80000028 QUOTA_TYPE 8 memory_is_root taken.export.1 (lit< tt) (lit≤ tt) (lit≤ tt) (lit≤ tt) (lit≤ tt) (lit< tt) (kind_export QUOTA_TYPE refl (λ e. omega (arith, e)))

pub is_9 : IsMade FIRST_KEY_TYPE (FIRST_KEY_TYPE + 1) KEY_RIGHTS FIRST_KEY_TYPE 0 made_9 × (made_9.shadow ≡ record { root = 9; source = 0 })
is_9 = make sealing_root FIRST_KEY_TYPE 1 KEY_RIGHTS FIRST_KEY_TYPE 0 9 sealing_is_root taken.key.1 (lit< tt) (lit≤ tt) (lit≤ tt) (lit≤ tt) (lit≤ tt) (lit< tt) (inl refl)

pub is_11 : IsMade 0x80000070 0x80000090 CODE_RIGHTS 0x80000070 0 made_11 × (made_11.shadow ≡ record { root = 11; source = 0 })
is_11 = make executable_root 0x80000070 32 CODE_RIGHTS 0x80000070 0 11 executable_is_root taken.code.1 (lit< tt) (lit≤ tt) (lit≤ tt) (lit≤ tt) (lit≤ tt) (lit< tt) (inl refl)

pub is_12 : IsMade 0x800000B0 0x800000C0 GLOBALS_RIGHTS 0x800000B0 0 made_12 × (made_12.shadow ≡ record { root = 12; source = 0 })
is_12 = make memory_root 0x800000B0 16 GLOBALS_RIGHTS 0x800000B0 0 12 memory_is_root taken.globals.1 (lit< tt) (lit≤ tt) (lit≤ tt) (lit≤ tt) (lit≤ tt) (lit< tt) (inl refl)

pub is_13 : IsMade NATIVE_BASE (NATIVE_BASE + NATIVE_LENGTH) SERVICE_RIGHTS NATIVE_BASE SENTRY_INHERIT made_13 × (made_13.shadow ≡ record { root = 13; source = 0 })
is_13 = make executable_root NATIVE_BASE NATIVE_LENGTH SERVICE_RIGHTS NATIVE_BASE SENTRY_INHERIT 13 executable_is_root taken.service.1 (lit< tt) (lit≤ tt) (lit≤ tt) (lit≤ tt) (lit≤ tt) (lit< tt) (kind_service SENTRY_INHERIT refl (λ e. omega (arith, e)))

pub is_14 : IsMade 0x800000D0 0x800000E0 shared_rights 0x800000D0 0 made_14 × (made_14.shadow ≡ record { root = 14; source = 0 })
is_14 = make memory_root 0x800000D0 16 shared_rights 0x800000D0 0 14 memory_is_root taken.globals.1 (lit< tt) (lit≤ tt) (lit≤ tt) (lit≤ tt) (lit≤ tt) (lit< tt) (inl refl)

pub is_18 : IsMade 0x800000E0 0x80000100 STACK_RIGHTS 0x80000100 0 made_18 × (made_18.shadow ≡ record { root = 18; source = 0 })
is_18 = make memory_root 0x800000E0 32 STACK_RIGHTS 0x80000100 0 18 memory_is_root taken.stack.1 (lit< tt) (lit≤ tt) (lit≤ tt) (lit≤ tt) (lit≤ tt) (lit< tt) (inl refl)

pub is_first : IsMade 0x80000000 0x80000040 CODE_RIGHTS 0x80000038 0 first_pcc × (first_pcc.shadow ≡ record { root = 1; source = 0 })
is_first = make executable_root 0x80000000 64 CODE_RIGHTS 0x80000038 0 1 executable_is_root taken.code.1 (lit< tt) (lit≤ tt) (lit≤ tt) (lit≤ tt) (lit≤ tt) (lit< tt) (inl refl)
