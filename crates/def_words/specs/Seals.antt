-- *Seals*: the type that a seal field stands for, and what jumps, postures and keys have to do with it.
--
-- Field 0 is unsealed. Where `execute` is there, field t is type t: 1, 2, 3 are forward sentries that
-- inherit, disable, enable interrupts; 4 and 5 are return sentries that disable and enable; 6 and 7 are
-- never made. Elsewhere field t is type 8 + t: 9 is an export, 10 a quota, 11 a token, 12 is never made,
-- 13 to 15 are for keys. Type 0 stands for "unsealed".
use Rattle.std.specs.Prelude.{ℕ, ◌+◌, ◌==◌, ◌&&◌, ◌||◌, Bool, true, false, if◌then◌else◌}
use Rattle.std.specs.Int.{is_in_range}
use Rattle.def_profile.specs.declared.seals.TheConstants.{SENTRY_INHERIT, SENTRY_DISABLE, SENTRY_ENABLE, RETURN_DISABLE, RETURN_ENABLE, DATA_TYPES, EXPORT_TYPE, LAST_KEY_TYPE}
use Rattle.def_words.specs.declared.Cap.{Cap}
use Rattle.def_words.specs.declared.Posture.{Posture}
use Rattle.def_words.specs.Authority.{cap_high, seal_field}
use Rattle.def_words.specs.Permissions.{has, execute}

abbrev pub seal_type : Bool → ℕ → ℕ
seal_type executes field = if field == 0 then 0 else if executes then field else DATA_TYPES + field

-- the type of a capability, 0 where it is unsealed
unfoldable pub cap_seal : Cap → ℕ
cap_seal c = seal_type (has c execute) (seal_field (cap_high c))

abbrev pub is_unsealed : Cap → Bool
is_unsealed c = cap_seal c == 0

-- Which jump takes which type: `to` is the register that gets the link, `at` the one that holds the target.
-- A return (to c0, through c1) takes 0, 4 and 5, a call (to c1) 0 to 3, any other 0 and 1.
abbrev pub is_jump_taken : ℕ → ℕ → ℕ → Bool
is_jump_taken to at kind =
    (kind == 0)
    || (if (to == 0) && (at == 1) then is_in_range RETURN_DISABLE RETURN_ENABLE kind
    else if to == 1 then is_in_range SENTRY_INHERIT SENTRY_ENABLE kind
    else (kind == SENTRY_INHERIT))

-- Which posture a jump through a type leaves: `named` is the export that the target's root entry names,
-- `kept` the target's own source.
abbrev pub posture_through : Posture → ℕ → ℕ → ℕ → Posture
posture_through before kind named kept =
    if kind == SENTRY_DISABLE then record { off = true; source = named }
    else if kind == RETURN_DISABLE then record { off = true; source = kept }
    else if (kind == SENTRY_ENABLE) || (kind == RETURN_ENABLE)
    then record { off = false; source = 0 }
    else before

-- Which key addresses are types of a value's kind: these seal. A key opens the type that its address is.
abbrev pub is_key_type : Bool → ℕ → Bool
is_key_type executes n =
    if executes then is_in_range SENTRY_INHERIT RETURN_ENABLE n
    else is_in_range EXPORT_TYPE LAST_KEY_TYPE n
