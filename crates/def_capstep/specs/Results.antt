-- *Instruction step*, the part on capability instructions: what each writes to rd. x is rs1's value (c3's for
-- `auicgp`), y is rs2's, and pcc the program counter capability. None of them traps.
use Rattle.std.specs.Prelude.{ℕ, ◌+◌, ◌-◌, ◌*◌, ◌%◌, ◌^◌, Bool, true, false, min}
use Rattle.def_words.specs.declared.Cap.{Cap}
use Rattle.def_words.specs.Authority.{word_of, cap_address, cap_high, cap_base, cap_top}
use Rattle.def_words.specs.LeastBounds.{round_length_of, align_mask_of}
use Rattle.def_words.specs.Permissions.{cap_perms}
use Rattle.def_words.specs.Seals.{cap_seal}
use Rattle.def_words.specs.Capability.{cap_of, nowhere, integer, untagged, raised, with_address, with_bounds, with_exact_bounds, masked, sealed_by, unsealed_by, is_subset, is_same}
use Rattle.def_instr.specs.declared.Instr.{Instr}
use Rattle.def_instr.specs.declared.Instr.TheVariants.{AuiPcc, AuiCgp, CIncAddrImm, CSetBoundsImm, CSetBounds, CSetBoundsExact, CSeal, CUnseal, CAndPerm, CSetAddr, CIncAddr, CSub, CSetHigh, CTestSubset, CSetEqualExact, CGetPerm, CGetType, CGetBase, CGetLen, CGetTag, Crrl, Cram, CMove, CClearTag, CGetAddr, CGetHigh, CGetTop, Csr, CSpecialRw}
use Rattle.def_bits.specs.Bits.{extended}
use Rattle.def_instr.specs.Results.{truth}

-- 2048 times the signed 20-bit number, modulo 2^32
abbrev pub upper_offset : ℕ → ℕ
upper_offset n = extended 20 n * 2048 % 2 ^ 32

-- the length of the bounds, 0 where they are out of order
abbrev pub cap_length : Cap → ℕ
cap_length c = cap_top c - cap_base c

-- as a 32-bit word: what is past the greatest reads as the greatest
abbrev pub capped : ℕ → ℕ
capped n = min n (2 ^ 32 - 1)

unfoldable pub capability_result : Instr → Cap → Cap → Cap → Cap
capability_result (AuiPcc rd n) x y pcc = raised pcc (upper_offset n)
capability_result (AuiCgp rd n) x y pcc = raised x (upper_offset n)
capability_result (CIncAddrImm rd rs1 n) x y pcc = raised x n
capability_result (CIncAddr rd rs1 rs2) x y pcc = raised x (cap_address y)
capability_result (CSetAddr rd rs1 rs2) x y pcc = with_address x (cap_address y)
capability_result (CSetBoundsImm rd rs1 n) x y pcc = with_bounds x n
capability_result (CSetBounds rd rs1 rs2) x y pcc = with_bounds x (cap_address y)
capability_result (CSetBoundsExact rd rs1 rs2) x y pcc = with_exact_bounds x (cap_address y)
capability_result (CAndPerm rd rs1 rs2) x y pcc = masked x (cap_address y)
capability_result (CSeal rd rs1 rs2) x y pcc = sealed_by x y
capability_result (CUnseal rd rs1 rs2) x y pcc = unsealed_by x y
capability_result (CSetHigh rd rs1 rs2) x y pcc =
    cap_of false (word_of (cap_address y) (cap_address x)) nowhere
capability_result (CMove rd rs1) x y pcc = x
capability_result (CClearTag rd rs1) x y pcc = untagged x
capability_result (CTestSubset rd rs1 rs2) x y pcc = integer (truth (is_subset y x))
capability_result (CSetEqualExact rd rs1 rs2) x y pcc = integer (truth (is_same x y))
capability_result (CSub rd rs1 rs2) x y pcc =
    integer ((cap_address x + (2 ^ 32 - cap_address y)) % 2 ^ 32)
capability_result (CGetPerm rd rs1) x y pcc = integer (cap_perms x)
capability_result (CGetType rd rs1) x y pcc = integer (cap_seal x)
capability_result (CGetBase rd rs1) x y pcc = integer (cap_base x)
capability_result (CGetTop rd rs1) x y pcc = integer (capped (cap_top x))
capability_result (CGetLen rd rs1) x y pcc = integer (capped (cap_length x))
capability_result (CGetTag rd rs1) x y pcc = integer (truth x.tag)
capability_result (CGetAddr rd rs1) x y pcc = integer (cap_address x)
capability_result (CGetHigh rd rs1) x y pcc = integer (cap_high x)
capability_result (Crrl rd rs1) x y pcc = integer (round_length_of (cap_address x) % 2 ^ 32)
capability_result (Cram rd rs1) x y pcc = integer (align_mask_of (cap_address x) % 2 ^ 32)
capability_result _ x y pcc = integer 0
