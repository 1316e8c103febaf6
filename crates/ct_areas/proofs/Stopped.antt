-- Registers that go to granules one after another, and come back through a filter.
use Rattle.std.proofs.Common.{ℕ, zero, suc, ◌≡◌, ◌+◌, ◌*◌, ◌/◌, ◌%◌, ◌==◌, ◌<◌, ◌≤◌, inl, inr, true, false, cond, List, [], ◌∷◌, ◌++◌, length, drop, take, map, refl, sym, ap, ◌∙◌, arith}
use Rattle.std.proofs.Math.ListN.{get_or, set}
use Rattle.std.proofs.lemmas.List.{append-nil, drop_all}
use Rattle.def_words.specs.declared.Cap.{Cap}
use Rattle.def_memory.specs.declared.Granule.{Granule}
use Rattle.def_memory.specs.Granules.{plain, cap_in, caps_from, holding, holding_all}
use Rattle.def_machine.specs.State.{Thread, Frame, nobody}
use Rattle.def_machine.specs.Threads.{picked_with}
use Rattle.def_machine.specs.Memory.{filtered_in}
use Rattle.def_areas.specs.Areas.{frame_place, frames_in}
use Rattle.def_areas.specs.Touches.{Touches}
use Rattle.law_areas.proofs.Writes.{read_back, all_other, put_same, put_other, put_length}
use Rattle.law_areas.proofs.Frames.{frames_same}
use Rattle.law_areas.proofs.Changes.{all_touches}
use Rattle.ct_areas.specs.declared.thread.Thread as row
use Rattle.ct_areas.specs.Threads.{HasArea, area_begin, area_end, frames_most, living, thread_of}
use Rattle.ct_areas.specs.Parts.{register_in, with_saved, without_saved}
use Rattle.ct_areas.proofs.Places.{area_long, area_inside, area_touches, granules_zeroed, area_even, depth_tells}

-- ---- a stop

-- one more is written
put_next : (gs : List Granule) (k i : ℕ) (cs : List Cap) (z : Cap) → i < length cs
    → holding (holding_all gs k (take i cs)) (k + i) (get_or cs i z) ≡ holding_all gs k (take (i + 1) cs)
put_next gs k i [] z lt = absurd (omega (arith, lt))
put_next gs k zero (c ∷ cs) z lt = let here : k + zero ≡ k = omega arith in rw here refl
put_next gs k (suc i) (c ∷ cs) z lt =
    let next : suc i + 1 ≡ suc (i + 1) = omega arith in
    let place : k + suc i ≡ k + 1 + i = omega arith in
    rw (next, place) (put_next (holding gs k c) (k + 1) i cs z (omega (arith, lt)))

get_rest : (cs : List Cap) (i : ℕ) (z : Cap) → get_or (drop 1 cs) i z ≡ get_or cs (i + 1) z
get_rest [] i z = refl
get_rest (c ∷ cs) i z = let next : i + 1 ≡ suc i = omega arith in rw next refl

pub rest_length : (cs : List Cap) → length cs ≡ 16 → length (drop 1 cs) ≡ 15
rest_length [] h = absurd (omega (arith, h))
rest_length (c ∷ cs) h = omega (arith, h)

-- a list of sixteen by its first and the rest
first_rest : (rs : List Cap) (z : Cap) → length rs ≡ 16 → rs ≡ get_or rs 0 z ∷ drop 1 rs
first_rest [] z h = absurd (omega (arith, h))
first_rest (c ∷ cs) z h = refl

-- a turn of the loop that writes
pub put_step : (gs now new : List Granule) (rs : List Cap) (at i : ℕ) (z : Cap) → at % 8 ≡ 0 → length rs ≡ 16 → i < 15
    → now ≡ holding_all gs (at / 8) (take i (drop 1 rs)) → new ≡ holding now ((at + 8 * i) / 8) (get_or rs (i + 1) z)
    → new ≡ holding_all gs (at / 8) (take (i + 1) (drop 1 rs))
put_step gs now new rs at i z even long few is put =
    let place : (at + 8 * i) / 8 ≡ at / 8 + i = omega (arith, even) in
    rw (put, place, is, ← get_rest rs i z) (put_next gs (at / 8) i (drop 1 rs) z (omega (arith, few, rest_length rs long)))

pub saved_is : (gs : List Granule) (t : row.Thread) → HasArea (8 * length gs) t.area → t.depth ≤ frames_most t.area → length t.regs ≡ 16
    → register_in t 0 ≡ plain 0 → thread_of (with_saved gs t) false t ≡ thread_of gs true t
saved_is gs t has room sixteen zero_ =
    let a : ℕ = area_begin t.area in
    let rest : List Cap = drop 1 t.regs in
    let ms : List Granule = holding gs a t.pcc in
    let hs : List Granule = holding_all ms (a + 1) rest in
    let fifteen : length rest ≡ 15 = rest_length t.regs sixteen in
    let size : length ms ≡ length gs = put_length gs a t.pcc in
    let inside : a + 20 ≤ length gs = fits a (area_end t.area) (frames_most t.area) (length gs) (area_long (8 * length gs) t.area has) (area_inside (length gs) t.area has) in
    let pcc : cap_in hs a ≡ t.pcc =
    ap (λ (g : Granule). g.cap) (all_other ms (a + 1) a rest (inl (omega arith))) ∙ put_same gs a t.pcc (omega (arith, inside)) in
    let back : caps_from hs (a + 1) (length rest) ≡ rest = read_back ms (a + 1) rest (omega (arith, inside, fifteen, size)) in
    let others : caps_from hs (a + 1) 15 ≡ rest = ap (λ n. caps_from hs (a + 1) n) (sym fifteen) ∙ back in
    let registers : plain 0 ∷ caps_from hs (a + 1) 15 ≡ t.regs =
    ap (λ cs. plain 0 ∷ cs) others ∙ ap (λ c. c ∷ rest) (sym zero_) ∙ sym (first_rest t.regs (plain 0) sixteen) in
    let frames : frames_in hs a t.actor t.top t.handling t.depth ≡ frames_in gs a t.actor t.top t.handling t.depth =
    frames_same gs hs a t.actor t.top t.handling t.depth (λ m lo hi.
    ap (λ (g : Granule). g.cap) (all_other ms (a + 1) m rest (inr (omega (arith, lo, fifteen))) ∙ put_other gs a m t.pcc (λ e. omega (arith, e, lo)))) in
    let alive : living hs false t ≡ living gs true t =
    rw (pcc, frames) (ap (λ (cs : List Cap). let l : Thread = record (living gs true t) { registers = cs } in l) registers) in
    ap (λ (l : Thread). cond (t.depth == 0) nobody l) alive
  where
    fits : (b end most n : ℕ) → end ≡ frame_place b most → end ≤ n → b + 20 ≤ n
    fits b end most n is le = omega (arith, is, le)

pub saved_wrote : (gs ms hs : List Granule) (t : row.Thread) (at : ℕ) (c : Cap) → at ≡ 8 * area_begin t.area → c ≡ t.pcc → ms ≡ holding gs (at / 8) c
    → hs ≡ holding_all ms ((at + 8) / 8) (drop 1 t.regs) → hs ≡ with_saved gs t
saved_wrote gs ms hs t at c place same first rest =
    let here : at / 8 ≡ area_begin t.area = omega (arith, place) in
    let next : (at + 8) / 8 ≡ area_begin t.area + 1 = omega (arith, place) in
    rw (rest, first, same, here, next) refl

pub saved_touches : (gs : List Granule) (t : row.Thread) (size : ℕ) → HasArea size t.area → length t.regs ≡ 16
    → Touches (area_begin t.area) (area_end t.area) gs (with_saved gs t)
saved_touches gs t size has sixteen =
    let a : ℕ = area_begin t.area in
    let words : List Cap = t.pcc ∷ drop 1 t.regs in
    let fifteen = rest_length t.regs sixteen in
    area_touches a (a + length words) size t.area gs (holding_all gs a words) has (omega arith) (omega (arith, fifteen)) (all_touches gs a words)

-- ---- a pick

-- so many are read and filtered, the rest is as it was
abbrev pub filled : (Cap → Cap) → List Granule → ℕ → ℕ → List Cap → List Cap
filled keep gs k i cs = map keep (caps_from gs k i) ++ drop i cs

take_next : (keep : Cap → Cap) (gs : List Granule) (k i : ℕ) (cs : List Cap) → i < length cs
    → set (filled keep gs k i cs) i (keep (cap_in gs (k + i))) ≡ filled keep gs k (i + 1) cs
take_next keep gs k i [] lt = absurd (omega (arith, lt))
take_next keep gs k zero (c ∷ cs) lt = let here : k + zero ≡ k = omega arith in rw here refl
take_next keep gs k (suc i) (c ∷ cs) lt =
    let next : suc i + 1 ≡ suc (i + 1) = omega arith in
    let place : k + suc i ≡ k + 1 + i = omega arith in
    rw (next, place) (ap (λ r. keep (cap_in gs k) ∷ r) (take_next keep gs (k + 1) i cs (omega (arith, lt))))

-- a turn of the loop that reads
pub take_step : (keep : Cap → Cap) (gs : List Granule) (rs now new : List Cap) (at i : ℕ) (c d : Cap) → at % 8 ≡ 0 → length rs ≡ 16 → i < 15
    → now ≡ plain 0 ∷ filled keep gs (at / 8) i (drop 1 rs) → c ≡ cap_in gs ((at + 8 * i) / 8) → d ≡ keep c → new ≡ set now (i + 1) d
    → new ≡ plain 0 ∷ filled keep gs (at / 8) (i + 1) (drop 1 rs)
take_step keep gs rs now new at i c d even long few is read passed put =
    let place : (at + 8 * i) / 8 ≡ at / 8 + i = omega (arith, even) in
    let next : i + 1 ≡ suc i = omega arith in
    let got : d ≡ keep (cap_in gs (at / 8 + i)) = passed ∙ ap keep (read ∙ ap (λ n. cap_in gs n) place) in
    let here : set now (i + 1) d ≡ plain 0 ∷ set (filled keep gs (at / 8) i (drop 1 rs)) i d = rw (is, next) refl in
    put ∙ here ∙ ap (λ x. plain 0 ∷ set (filled keep gs (at / 8) i (drop 1 rs)) i x) got
    ∙ ap (λ l. plain 0 ∷ l) (take_next keep gs (at / 8) i (drop 1 rs) (omega (arith, few, rest_length rs long)))

-- at its end nothing is left of what was there
pub take_end : (keep : Cap → Cap) (gs : List Granule) (rs : List Cap) (k : ℕ) → length rs ≡ 16 → filled keep gs k 15 (drop 1 rs) ≡ map keep (caps_from gs k 15)
take_end keep gs rs k long =
    let fifteen = rest_length rs long in
    let none : drop 15 (drop 1 rs) ≡ [] = drop_all 15 (drop 1 rs) (omega (arith, fifteen)) in
    ap (λ l. map keep (caps_from gs k 15) ++ l) none ∙ append-nil (map keep (caps_from gs k 15))

restored_touches : (gs : List Granule) (t : row.Thread) (size : ℕ) → HasArea size t.area
    → Touches (area_begin t.area) (area_begin t.area + 16) gs (without_saved gs t)
restored_touches gs t size has =
    granules_zeroed gs t.area.ram t.area.trusted (area_begin t.area) 16 has.low (area_even size t.area has)

pub resumed_touches : (gs : List Granule) (t : row.Thread) (size : ℕ) → HasArea size t.area
    → Touches (area_begin t.area) (area_end t.area) gs (without_saved gs t)
resumed_touches gs t size has =
    let a : ℕ = area_begin t.area in
    area_touches a (a + 16) size t.area gs (without_saved gs t) has (omega arith) (omega arith) (restored_touches gs t size has)

pub resumed_is : (gs hs : List Granule) (t : row.Thread) (pcc : Cap) (rs : List Cap) (size ram : ℕ) → HasArea size t.area → hs ≡ without_saved gs t
    → pcc ≡ filtered_in ram gs (cap_in gs (area_begin t.area))
    → rs ≡ plain 0 ∷ map (filtered_in ram gs) (caps_from gs (area_begin t.area + 1) 15)
    → thread_of hs true (record t { pcc = pcc; regs = rs }) ≡ picked_with (filtered_in ram gs) (thread_of gs false t)
resumed_is gs hs t pcc rs size ram has wrote pcc_is rs_is =
    let a : ℕ = area_begin t.area in
    let touches = restored_touches gs t size has in
    let frames : frames_in (without_saved gs t) a t.actor t.top t.handling t.depth ≡ frames_in gs a t.actor t.top t.handling t.depth =
    frames_same gs (without_saved gs t) a t.actor t.top t.handling t.depth
    (λ m lo hi. ap (λ (g : Granule). g.cap) (touches.rest m (inr (omega (arith, lo))))) in
    elim (depth_tells t.depth) [
      | inl e ↦ rw (wrote, pcc_is, rs_is, e) refl
      | inr e ↦ rw (wrote, pcc_is, rs_is, e.1)
          (ap (λ (fs : List Frame). let l : Thread = record (picked_with (filtered_in ram gs) (living gs false t)) { frames = fs } in l) frames)
    ]
