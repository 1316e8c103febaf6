-- A slice over what is seen, as the machine's definition has it over a state.
use Rattle.std.proofs.Common.{ℕ, suc, ◌≡◌, ◌+◌, ◌-◌, ◌<◌, List, [], ◌∷◌, length, Option, refl, sym, ap, ◌∙◌, arith}
use Rattle.def_words.specs.declared.Cap.{Cap}
use Rattle.def_memory.specs.declared.Granule.{Granule}
use Rattle.def_machine.specs.Image.{Image}
use Rattle.def_machine.specs.State.{State, Thread, Status}
use Rattle.def_machine.specs.Threads.{with_status, with_statuses}
use Rattle.def_machine.specs.Slices.{is_number, filtered_between, kept_granules, kept_thread, kept_threads}
use Rattle.def_machine.specs.Heap as machine
use Rattle.ct_engine.specs.Seen.{EngineRow, area_at}
use Rattle.ct_engine.specs.Sweeps.{area_offset, with_slice}
use Rattle.ct_engine.specs.Written.{HasAreas, state_with}

-- ---- all threads, whatever their statuses

none_with : (ts : List Thread) → with_statuses ts [] ≡ ts
none_with [] = refl
none_with (t ∷ ts) = refl

-- so many areas, of which the first is thread n's, begin at the same offsets
abbrev Alike : (ℕ → ℕ) → (ℕ → ℕ) → ℕ → ℕ → Type 0
Alike a b n count = (k : ℕ) → k < count → a (n + k) ≡ b (n + k)

alike_first : (a b : ℕ → ℕ) (n count : ℕ) → Alike a b n (suc count) → a n ≡ b n
alike_first a b n count same =
    let here : n + 0 ≡ n = omega arith in
    ap a (sym here) ∙ same 0 (omega arith) ∙ ap b here

alike_more : (a b : ℕ → ℕ) (n count : ℕ) → Alike a b n (suc count) → Alike a b (n + 1) count
alike_more a b n count same k lt =
    let next : n + 1 + k ≡ n + suc k = omega arith in
    ap a next ∙ same (suc k) (omega (arith, lt)) ∙ ap b (sym next)

threads_alike : (f : ℕ → Cap → Cap) (a b : ℕ → ℕ) (run : Option ℕ) (n : ℕ) (ts : List Thread) (ss : List Status) → Alike a b n (length ts)
    → kept_threads f a run n (with_statuses ts ss) ≡ with_statuses (kept_threads f b run n ts) ss
threads_alike f a b run n [] ss same = refl
threads_alike f a b run n (t ∷ ts) [] same =
    ap (λ m. kept_thread f m (is_number run n) t ∷ kept_threads f a run (n + 1) ts) (alike_first a b n (length ts) same)
    ∙ ap (λ xs. kept_thread f (b n) (is_number run n) t ∷ kept_threads f a run (n + 1) xs) (sym (none_with ts))
    ∙ ap (λ xs. kept_thread f (b n) (is_number run n) t ∷ xs)
    (threads_alike f a b run (n + 1) ts [] (alike_more a b n (length ts) same) ∙ none_with (kept_threads f b run (n + 1) ts))
threads_alike f a b run n (t ∷ ts) (s ∷ ss) same =
    ap (λ m. with_status (kept_thread f m (is_number run n) t) s ∷ kept_threads f a run (n + 1) (with_statuses ts ss)) (alike_first a b n (length ts) same)
    ∙ ap (λ xs. with_status (kept_thread f (b n) (is_number run n) t) s ∷ xs) (threads_alike f a b run (n + 1) ts ss (alike_more a b n (length ts) same))

-- ---- the whole state

-- areas begin at the offsets at which the image has them
area_there : (i : Image) (s : EngineRow) (k : ℕ) → HasAreas i s → k < length s.state.threads → machine.area_offset i k ≡ area_offset s k
area_there i s k h lt =
    let count = h.count in
    ap (λ x. x - i.ram) (sym (h.begins k (omega (arith, lt, count)))) ∙ ap (λ x. (area_at s k).trusted - x) (sym h.ram)

pub slice_written : (i : Image) (m : State) (s : EngineRow) (statuses : List Status) (low high : ℕ) → HasAreas i s
    → machine.with_slice i (state_with m s statuses) low high ≡ state_with m (with_slice s low high) statuses
slice_written i m s statuses low high h =
    let f : ℕ → Cap → Cap = λ n c. filtered_between s.region.ram s.state.granules low high n c in
    let put : List Granule → List Thread → State = λ gs ts. record (state_with m (with_slice s low high) statuses) { granules = gs; threads = ts } in
    let none : (k : ℕ) → 0 + k ≡ k = λ k. omega arith in
    ap (λ ram. put (kept_granules (λ n c. filtered_between ram s.state.granules low high n c) 0 s.state.granules)
    (kept_threads (λ n c. filtered_between ram s.state.granules low high n c) (machine.area_offset i) s.state.running 0 (with_statuses s.state.threads statuses))) (sym h.ram)
    ∙ ap (λ ts. put (kept_granules f 0 s.state.granules) ts)
    (threads_alike f (machine.area_offset i) (area_offset s) s.state.running 0 s.state.threads statuses
    (λ k lt. ap (machine.area_offset i) (none k) ∙ area_there i s k h lt ∙ ap (area_offset s) (sym (none k))))
