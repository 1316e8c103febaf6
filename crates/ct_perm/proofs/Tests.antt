-- `contains` of one permission is its bit.
use Rattle.std.proofs.Common.{ℕ, ◌≡◌, ◌==◌, bit_and}
use Rattle.def_profile.specs.declared.rights.TheConstants.{GL, LG, SD, LM, SL, LD, MC, SR, EX, US, SE, U0}
use Rattle.law_words.proofs.Bits.{test_one}
use Rattle.def_words.specs.Permissions.{bit, global, load_global, store_data, load_mutable, store_local, load_data, memory_capability, system_registers, execute, unsealing, sealing, user}

pub has_gl : (set : ℕ) → (bit_and set GL == GL) ≡ bit set global
has_gl set = test_one set global

pub has_lg : (set : ℕ) → (bit_and set LG == LG) ≡ bit set load_global
has_lg set = test_one set load_global

pub has_sd : (set : ℕ) → (bit_and set SD == SD) ≡ bit set store_data
has_sd set = test_one set store_data

pub has_lm : (set : ℕ) → (bit_and set LM == LM) ≡ bit set load_mutable
has_lm set = test_one set load_mutable

pub has_sl : (set : ℕ) → (bit_and set SL == SL) ≡ bit set store_local
has_sl set = test_one set store_local

pub has_ld : (set : ℕ) → (bit_and set LD == LD) ≡ bit set load_data
has_ld set = test_one set load_data

pub has_mc : (set : ℕ) → (bit_and set MC == MC) ≡ bit set memory_capability
has_mc set = test_one set memory_capability

pub has_sr : (set : ℕ) → (bit_and set SR == SR) ≡ bit set system_registers
has_sr set = test_one set system_registers

pub has_ex : (set : ℕ) → (bit_and set EX == EX) ≡ bit set execute
has_ex set = test_one set execute

pub has_us : (set : ℕ) → (bit_and set US == US) ≡ bit set unsealing
has_us set = test_one set unsealing

pub has_se : (set : ℕ) → (bit_and set SE == SE) ≡ bit set sealing
has_se set = test_one set sealing

pub has_u0 : (set : ℕ) → (bit_and set U0 == U0) ≡ bit set user
has_u0 set = test_one set user

-- all twelve
pub ruleset each_flag = (has_gl, has_lg, has_sd, has_lm, has_sl, has_ld, has_mc, has_sr, has_ex, has_us, has_se, has_u0)
