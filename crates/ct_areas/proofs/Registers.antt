-- Sixteen registers that are written one after another, and those of a frame's caller.
use Rattle.std.proofs.Common.{ℕ, zero, suc, ◌≡◌, ◌+◌, ◌*◌, ◌/◌, ◌%◌, List, [], ◌∷◌, length, drop, slice_set, slice_index_or, refl, ap, ◌∙◌, arith, subst}
use Rattle.def_words.specs.declared.Cap.{Cap}
use Rattle.def_memory.specs.declared.Granule.{Granule}
use Rattle.def_memory.specs.Granules.{plain, cap_in}
use Rattle.def_machine.specs.Memory.{filtered_in}
use Rattle.def_areas.specs.Areas.{frame_at}
use Rattle.ct_areas.specs.declared.thread.Thread as row
use Rattle.ct_areas.specs.Parts.{caller_registers, caller_row, filtered_frame, inner_place, register_in}

-- a list by its elements, of which there are so many
unfoldable pub firsts : ℕ → List Cap → List Cap
firsts zero rs = []
firsts (suc n) rs = slice_index_or rs 0 (plain 0) ∷ firsts n (drop 1 rs)

by_firsts : (n : ℕ) (rs : List Cap) → length rs ≡ n → firsts n rs ≡ rs
unfolding firsts
by_firsts zero [] long = refl
by_firsts zero (c ∷ cs) long = absurd (omega (arith, long))
by_firsts (suc n) [] long = absurd (omega (arith, long))
by_firsts (suc n) (c ∷ cs) long = ap (λ l. c ∷ l) (by_firsts n cs (omega (arith, long)))

-- what holds of sixteen that are written out holds of each list of sixteen
pub sixteen : (P : List Cap → Type 0) (rs : List Cap) → length rs ≡ 16 → P (firsts 16 rs) → P rs
sixteen P rs long p = subst P (by_firsts 16 rs long) p

-- those of a caller: two are left
pub restored_all : (rs : List Cap) (z c2 c3 c8 c9 d2 d3 d8 d9 : Cap) → length rs ≡ 16 → z ≡ plain 0 → c2 ≡ d2 → c3 ≡ d3 → c8 ≡ d8 → c9 ≡ d9
    → slice_set (slice_set (slice_set (slice_set (slice_set (slice_set (slice_set (slice_set (slice_set (slice_set (slice_set (slice_set (slice_set (slice_set rs 0 z) 1 z) 2 c2) 3 c3)
    4 z) 5 z) 6 z) 7 z) 8 c8) 9 c9) 12 z) 13 z) 14 z) 15 z
    ≡ plain 0 ∷ plain 0 ∷ d2 ∷ d3 ∷ plain 0 ∷ plain 0 ∷ plain 0 ∷ plain 0 ∷ d8 ∷ d9 ∷ slice_index_or rs 10 (plain 0) ∷ slice_index_or rs 11 (plain 0)
    ∷ plain 0 ∷ plain 0 ∷ plain 0 ∷ plain 0 ∷ []
unfolding firsts
restored_all rs z c2 c3 c8 c9 d2 d3 d8 d9 long none two three eight nine =
    rw (none, two, three, eight, nine) (sixteen (λ l.
    slice_set (slice_set (slice_set (slice_set (slice_set (slice_set (slice_set (slice_set (slice_set (slice_set (slice_set (slice_set (slice_set (slice_set l 0 (plain 0)) 1 (plain 0)) 2 d2) 3 d3)
    4 (plain 0)) 5 (plain 0)) 6 (plain 0)) 7 (plain 0)) 8 d8) 9 d9) 12 (plain 0)) 13 (plain 0)) 14 (plain 0)) 15 (plain 0)
    ≡ plain 0 ∷ plain 0 ∷ d2 ∷ d3 ∷ plain 0 ∷ plain 0 ∷ plain 0 ∷ plain 0 ∷ d8 ∷ d9 ∷ slice_index_or l 10 (plain 0) ∷ slice_index_or l 11 (plain 0)
    ∷ plain 0 ∷ plain 0 ∷ plain 0 ∷ plain 0 ∷ []) rs long refl)

-- what is read of a frame at an offset
pub kept_at : (keep : Cap → Cap) (gs : List Granule) (at offset n : ℕ) (c : Cap) → at % 8 ≡ 0 → offset ≡ 8 * n → c ≡ keep (cap_in gs ((at + offset) / 8)) → c ≡ keep (cap_in gs (at / 8 + n))
kept_at keep gs at offset n c even eights is =
    let place : (at + offset) / 8 ≡ at / 8 + n = omega (arith, even, eights) in
    is ∙ ap (λ k. keep (cap_in gs k)) place

-- the caller's row, by where its frame was read
pub caller_by : (gs : List Granule) (t : row.Thread) (at : ℕ) (pcc : Cap) (rs : List Cap) → at ≡ 8 * inner_place t
    → pcc ≡ filtered_in t.area.ram gs (cap_in gs (at / 8))
    → rs ≡ caller_registers (filtered_frame gs t.area.ram (frame_at gs (at / 8) t.actor t.top t.handling)) (register_in t 10) (register_in t 11)
    → record t { pcc = pcc; regs = rs } ≡ caller_row gs t
caller_by gs t at pcc rs place pcc_is rs_are =
    let here : at / 8 ≡ inner_place t = omega (arith, place) in
    rw (pcc_is, rs_are, here) refl
