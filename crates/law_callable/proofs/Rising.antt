-- Gates whose numbers never fall.
use Rattle.std.proofs.Common.{ℕ, zero, suc, ◌≡◌, ◌+◌, ◌<◌, ◌≤◌, List, [], ◌∷◌, ◌++◌, length, sym, arith, subst, append_assoc}
use Rattle.std.proofs.Math.ListN.{get_or}
use Rattle.ct_entry.specs.declared.rows.Gate.{Gate}
use Rattle.def_image.specs.Parts.{GateRow, CodeRow, CompartmentRow, PartsRow}
use Rattle.def_image.specs.Sizes.{sum_of}
use Rattle.def_image.specs.Members.{compartment_entries, library_entries, first_library}
use Rattle.def_boot.specs.Boot.{image_of}
use Rattle.def_boot.specs.Gates.{gates_in, compartment_gates, library_gates, gates_of, entries_of}
use Rattle.ct_switch.specs.Exports.{AreSorted}

-- from a number on
abbrev pub Rises : ℕ → List Gate → Type 0
Rises low [] = Unit {0}
Rises low (g ∷ gs) = (low ≤ g.entry) × Rises g.entry gs

rises_from : (low lower : ℕ) (gs : List Gate) → lower ≤ low → Rises low gs → Rises lower gs
rises_from low lower [] le r = tt
rises_from low lower (g ∷ gs) le r = (let here = r.0 in omega (arith, le, here), r.1)

above : (low : ℕ) (gs : List Gate) (k : ℕ) (d : Gate) → Rises low gs → k < length gs → low ≤ (get_or gs k d).entry
above low [] k d r lt = absurd (omega (arith, lt))
above low (g ∷ gs) zero d r lt = r.0
above low (g ∷ gs) (suc k) d r lt =
    let here = r.0 in
    let more = above g.entry gs k d r.1 (omega (arith, lt)) in
    omega (arith, here, more)

rises_sorted : (low : ℕ) (gs : List Gate) → Rises low gs → AreSorted gs
rises_sorted low [] r i j d le lt = absurd (omega (arith, lt))
rises_sorted low (g ∷ gs) r zero zero d le lt = omega arith
rises_sorted low (g ∷ gs) r zero (suc j) d le lt = above g.entry gs j d r.1 (omega (arith, lt))
rises_sorted low (g ∷ gs) r (suc i) zero d le lt = absurd (omega (arith, le))
rises_sorted low (g ∷ gs) r (suc i) (suc j) d le lt = rises_sorted g.entry gs r.1 i j d (omega (arith, le)) (omega (arith, lt))

-- the gates of one owner, before others
gates_rise : (n : ℕ) (c : CodeRow) (xs : List GateRow) (rest : List Gate) → Rises (n + length xs) rest → Rises n (gates_in n c xs ++ rest)
gates_rise n c [] rest r = rises_from (n + length {A = GateRow} []) n rest (omega arith) r
gates_rise n c (x ∷ xs) rest r =
    let next : n + length (x ∷ xs) ≡ n + 1 + length xs = omega arith in
    (omega arith, rises_from (n + 1) n (gates_in (n + 1) c xs ++ rest) (omega arith) (gates_rise (n + 1) c xs rest (subst (λ k. Rises k rest) next r)))

own_rise : (n : ℕ) (cs : List CompartmentRow) (rest : List Gate) → Rises (n + sum_of compartment_entries cs) rest → Rises n (compartment_gates n cs ++ rest)
own_rise n [] rest r = rises_from (n + sum_of compartment_entries []) n rest (omega arith) r
own_rise n (c ∷ cs) rest r =
    let first : ℕ = n + 2 + length c.code.slots in
    let later : List Gate = compartment_gates (n + compartment_entries c) cs ++ rest in
    let next : n + sum_of compartment_entries (c ∷ cs) ≡ n + compartment_entries c + sum_of compartment_entries cs = omega arith in
    let more : Rises (n + compartment_entries c) later = own_rise (n + compartment_entries c) cs rest (subst (λ k. Rises k rest) next r) in
    let here : Rises first (gates_in first c.code c.code.exports ++ later) =
    gates_rise first c.code c.code.exports later (rises_from (n + compartment_entries c) (first + length c.code.exports) later (omega arith) more) in
    subst (λ gs. Rises n gs) (sym (append_assoc (gates_in first c.code c.code.exports) (compartment_gates (n + compartment_entries c) cs) rest))
    (rises_from first n (gates_in first c.code c.code.exports ++ later) (omega arith) here)

shared_rise : (n : ℕ) (cs : List CodeRow) → Rises n (library_gates n cs)
shared_rise n [] = tt
shared_rise n (c ∷ cs) =
    let first : ℕ = n + 1 + length c.slots in
    let later : List Gate = library_gates (n + library_entries c) cs in
    rises_from first n (gates_in first c c.exports ++ later) (omega arith)
    (gates_rise first c c.exports later (rises_from (n + library_entries c) (first + length c.exports) later (omega arith) (shared_rise (n + library_entries c) cs)))

sorted_gates : (p : PartsRow) → AreSorted (gates_of p)
unfolding gates_of
sorted_gates p = rises_sorted 1 (compartment_gates 1 p.compartments ++ library_gates (first_library p) p.libraries)
    (own_rise 1 p.compartments (library_gates (first_library p) p.libraries) (shared_rise (first_library p) p.libraries))

sorted_entries : (p : PartsRow) → AreSorted (entries_of p).gates
unfolding entries_of
sorted_entries p = sorted_gates p

-- the gates of an image stand by the numbers of their exports
pub image_sorted : (p : PartsRow) → AreSorted (image_of p).entries.gates
unfolding image_of
image_sorted p = sorted_entries p
