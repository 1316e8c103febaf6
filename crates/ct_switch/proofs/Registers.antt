-- Sixteen registers that become those of a callee.
use Rattle.std.proofs.Common.{ℕ, ◌≡◌, cond, nat_lt, List, length, slice_set, slice_index_or, refl}
use Rattle.def_words.specs.declared.Cap.{Cap}
use Rattle.def_memory.specs.Granules.{plain}
use Rattle.ct_areas.proofs.Registers.{firsts, sixteen}
use Rattle.ct_switch.specs.declared.exports.Export.{Export}
use Rattle.ct_switch.specs.Calls.{callee_registers, handed}

-- an argument of a callee, by what its register held
abbrev pub argument_by : Export → ℕ → Cap → Cap
argument_by x n c = cond (nat_lt n x.args) (handed x.passes c) (plain 0)

-- those of a callee: the stack by what stood there, six arguments, each by what stood there, then the others
pub dressed_all : (x : Export) (stack_by : Cap → Cap) (back globals : Cap) (rs : List Cap) (s n o2 o0 o1 o3 o4 o5 o6 a0 a1 a2 a3 a4 a5 b g : Cap) → length rs ≡ 16
    → n ≡ plain 0 → b ≡ back → g ≡ globals → s ≡ stack_by (slice_index_or rs 2 o2)
    → a0 ≡ argument_by x 0 (slice_index_or (slice_set rs 2 s) 10 o0)
    → a1 ≡ argument_by x 1 (slice_index_or (slice_set (slice_set rs 2 s) 10 a0) 11 o1)
    → a2 ≡ argument_by x 2 (slice_index_or (slice_set (slice_set (slice_set rs 2 s) 10 a0) 11 a1) 12 o3)
    → a3 ≡ argument_by x 3 (slice_index_or (slice_set (slice_set (slice_set (slice_set rs 2 s) 10 a0) 11 a1) 12 a2) 13 o4)
    → a4 ≡ argument_by x 4 (slice_index_or (slice_set (slice_set (slice_set (slice_set (slice_set rs 2 s) 10 a0) 11 a1) 12 a2) 13 a3) 14 o5)
    → a5 ≡ argument_by x 5 (slice_index_or (slice_set (slice_set (slice_set (slice_set (slice_set (slice_set rs 2 s) 10 a0) 11 a1) 12 a2) 13 a3) 14 a4) 15 o6)
    → slice_set (slice_set (slice_set (slice_set (slice_set (slice_set (slice_set (slice_set (slice_set (slice_set (slice_set (slice_set (slice_set (slice_set (slice_set (slice_set rs 2 s) 10 a0) 11 a1) 12 a2) 13 a3)
    14 a4) 15 a5) 0 n) 1 b) 3 g) 4 n) 5 n) 6 n) 7 n) 8 n) 9 n ≡ callee_registers x rs back (stack_by (slice_index_or rs 2 (plain 0))) globals
unfolding firsts
dressed_all x stack_by back globals rs s n o2 o0 o1 o3 o4 o5 o6 a0 a1 a2 a3 a4 a5 b g long none back_is globals_is p p0 p1 p2 p3 p4 p5 =
    sixteen (λ l.
    s ≡ stack_by (slice_index_or l 2 o2)
    → a0 ≡ argument_by x 0 (slice_index_or (slice_set l 2 s) 10 o0)
    → a1 ≡ argument_by x 1 (slice_index_or (slice_set (slice_set l 2 s) 10 a0) 11 o1)
    → a2 ≡ argument_by x 2 (slice_index_or (slice_set (slice_set (slice_set l 2 s) 10 a0) 11 a1) 12 o3)
    → a3 ≡ argument_by x 3 (slice_index_or (slice_set (slice_set (slice_set (slice_set l 2 s) 10 a0) 11 a1) 12 a2) 13 o4)
    → a4 ≡ argument_by x 4 (slice_index_or (slice_set (slice_set (slice_set (slice_set (slice_set l 2 s) 10 a0) 11 a1) 12 a2) 13 a3) 14 o5)
    → a5 ≡ argument_by x 5 (slice_index_or (slice_set (slice_set (slice_set (slice_set (slice_set (slice_set l 2 s) 10 a0) 11 a1) 12 a2) 13 a3) 14 a4) 15 o6)
    → slice_set (slice_set (slice_set (slice_set (slice_set (slice_set (slice_set (slice_set (slice_set (slice_set (slice_set (slice_set (slice_set (slice_set (slice_set (slice_set l 2 s) 10 a0) 11 a1) 12 a2) 13 a3)
    14 a4) 15 a5) 0 n) 1 b) 3 g) 4 n) 5 n) 6 n) 7 n) 8 n) 9 n ≡ callee_registers x l back (stack_by (slice_index_or l 2 (plain 0))) globals) rs long
    (λ h h0 h1 h2 h3 h4 h5. rw (none, back_is, globals_is, h, h0, h1, h2, h3, h4, h5) refl) p p0 p1 p2 p3 p4 p5
