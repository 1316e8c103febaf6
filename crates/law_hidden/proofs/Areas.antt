-- A slice over memory is the slice over the frames and the registers that stand there.
use Rattle.std.proofs.Common.{ℕ, zero, suc, ◌≡◌, ◌+◌, ◌*◌, ◌/◌, ◌%◌, ◌^◌, ◌&&◌, inl, inr, Bool, true, false, cond, nat_le, nat_lt, List, [], ◌∷◌, length, refl, sym, ap, ◌∙◌, arith}
use Rattle.def_profile.specs.Areas.{frame_after}
use Rattle.law_lists.proofs.Tests.{bool_tells}
use Rattle.def_words.specs.declared.Cap.{Cap}
use Rattle.def_memory.specs.declared.Granule.{Granule}
use Rattle.def_memory.specs.Granules.{granule_at, cap_in, caps_from}
use Rattle.def_machine.specs.State.{Frame}
use Rattle.def_machine.specs.Memory.{filtered_in, is_marked_in}
use Rattle.def_words.specs.Authority.{cap_base}
use Rattle.def_areas.specs.Areas.{low_half, high_half, frame_place, frame_at, caller_actor, caller_top, caller_handling, frames_from}
use Rattle.def_machine.specs.Slices.{filtered_between, kept_granules, kept_frame, kept_frames, kept_registers, KeepsWords}
use Rattle.law_hidden.proofs.Slices.{zero_passes}

kept_at : (f : ℕ → Cap → Cap) → KeepsWords f → (n : ℕ) (gs : List Granule) (k : ℕ) → (granule_at (kept_granules f n gs) k).cap ≡ f (n + 8 * k) (granule_at gs k).cap
kept_at f z n [] k = sym (z.zero_is (n + 8 * k))
kept_at f z n (g ∷ gs) zero = let here : n + 8 * zero ≡ n = omega arith in ap (λ m. f m g.cap) (sym here)
kept_at f z n (g ∷ gs) (suc k) =
    let next : n + 8 + 8 * k ≡ n + 8 * suc k = omega arith in
    kept_at f z (n + 8) gs k ∙ ap (λ m. f m (granule_at gs k).cap) next

pub held_kept : (f : ℕ → Cap → Cap) → KeepsWords f → (gs : List Granule) (k : ℕ) → cap_in (kept_granules f 0 gs) k ≡ f (8 * k) (cap_in gs k)
held_kept f z gs k = let here : 0 + 8 * k ≡ 8 * k = omega arith in kept_at f z 0 gs k ∙ ap (λ m. f m (cap_in gs k)) here

pub registers_kept : (f : ℕ → Cap → Cap) → KeepsWords f → (gs : List Granule) (k n : ℕ) → caps_from (kept_granules f 0 gs) k n ≡ kept_registers f (8 * k) (caps_from gs k n)
registers_kept f z gs k zero = refl
registers_kept f z gs k (suc n) =
    let next : 8 * (k + 1) ≡ 8 * k + 8 = omega arith in
    rw (held_kept f z gs k) (ap (λ cs. f (8 * k) (cap_in gs k) ∷ cs) (registers_kept f z gs (k + 1) n ∙ ap (λ m. kept_registers f m (caps_from gs (k + 1) n)) next))

-- words of a frame stay
low_kept : (f : ℕ → Cap → Cap) → KeepsWords f → (gs : List Granule) (k : ℕ) → low_half (cap_in (kept_granules f 0 gs) k) ≡ low_half (cap_in gs k)
low_kept f z gs k = ap low_half (held_kept f z gs k) ∙ ap (λ w. w % 2 ^ 32) (z.word_is (8 * k) (cap_in gs k))

high_kept : (f : ℕ → Cap → Cap) → KeepsWords f → (gs : List Granule) (k : ℕ) → high_half (cap_in (kept_granules f 0 gs) k) ≡ high_half (cap_in gs k)
high_kept f z gs k = ap high_half (held_kept f z gs k) ∙ ap (λ w. w / 2 ^ 32) (z.word_is (8 * k) (cap_in gs k))

saved_kept : (f : ℕ → Cap → Cap) → KeepsWords f → (gs : List Granule) (k j m : ℕ) → 8 * (k + j) ≡ m → cap_in (kept_granules f 0 gs) (k + j) ≡ f m (cap_in gs (k + j))
saved_kept f z gs k j m is = held_kept f z gs (k + j) ∙ ap (λ n. f n (cap_in gs (k + j))) is

frame_same : (actor top : ℕ) (handling : Bool) (e e' : ℕ) (a a' b b' c c' d d' g g' : Cap) → e ≡ e' → a ≡ a' → b ≡ b' → c ≡ c' → d ≡ d' → g ≡ g'
    → (let x : Frame = record { actor = actor; export = e; top = top; handling = handling; c1 = a; c2 = b; c3 = c; c8 = d; c9 = g } in x)
    ≡ record { actor = actor; export = e'; top = top; handling = handling; c1 = a'; c2 = b'; c3 = c'; c8 = d'; c9 = g' }
frame_same actor top handling e e' a a' b b' c c' d d' g g' p q r s t u = rw (p, q, r, s, t, u) refl

frame_kept : (f : ℕ → Cap → Cap) → KeepsWords f → (gs : List Granule) (k actor top : ℕ) (handling : Bool)
    → frame_at (kept_granules f 0 gs) k actor top handling ≡ kept_frame f (8 * k) (frame_at gs k actor top handling)
frame_kept f z gs k actor top handling =
    let one : 8 * (k + 1) ≡ 8 * k + 8 = omega arith in
    let two : 8 * (k + 2) ≡ 8 * k + 16 = omega arith in
    let three : 8 * (k + 3) ≡ 8 * k + 24 = omega arith in
    let four : 8 * (k + 4) ≡ 8 * k + 32 = omega arith in
    frame_same actor top handling _ _ _ _ _ _ _ _ _ _ _ _ (low_kept f z gs (k + 5)) (held_kept f z gs k)
    (saved_kept f z gs k 1 (8 * k + 8) one) (saved_kept f z gs k 2 (8 * k + 16) two) (saved_kept f z gs k 3 (8 * k + 24) three) (saved_kept f z gs k 4 (8 * k + 32) four)

frames_count : (gs : List Granule) (area actor top : ℕ) (handling : Bool) (j : ℕ) → length (frames_from gs area actor top handling j) ≡ j
frames_count gs area actor top handling zero = refl
frames_count gs area actor top handling (suc j) =
    ap (λ n. suc n) (frames_count gs area (caller_actor gs (frame_place area j)) (caller_top gs (frame_place area j)) (caller_handling gs (frame_place area j)) j)

pub frames_kept : (f : ℕ → Cap → Cap) → KeepsWords f → (gs : List Granule) (area actor top : ℕ) (handling : Bool) (j : ℕ)
    → frames_from (kept_granules f 0 gs) area actor top handling j ≡ kept_frames f (8 * area) (frames_from gs area actor top handling j)
frames_kept f z gs area actor top handling zero = refl
frames_kept f z gs area actor top handling (suc j) =
    let k : ℕ = frame_place area j in
    let count = frames_count gs area (caller_actor gs (frame_place area j)) (caller_top gs (frame_place area j)) (caller_handling gs (frame_place area j)) j in
    let place : 8 * frame_place area j ≡ frame_after (8 * area) j = omega arith in
    let more = frames_kept f z gs area (caller_actor gs (frame_place area j)) (caller_top gs (frame_place area j)) (caller_handling gs (frame_place area j)) j in
    let first : frame_at (kept_granules f 0 gs) (frame_place area j) actor top handling ≡ kept_frame f (frame_after (8 * area) j) (frame_at gs (frame_place area j) actor top handling) =
    frame_kept f z gs (frame_place area j) actor top handling ∙ ap (λ m. kept_frame f m (frame_at gs (frame_place area j) actor top handling)) place in
    rw (high_kept f z gs (frame_place area j + 5), low_kept f z gs (frame_place area j + 6), low_kept f z gs (frame_place area j + 7), first, more, count) refl

-- the slice of a sweep is such
filtered_word : (ram : ℕ) (gs : List Granule) (c : Cap) → (filtered_in ram gs c).word ≡ c.word
filtered_word ram gs c = elim (bool_tells (c.tag && is_marked_in ram gs (cap_base c))) [ inl e ↦ rw e refl | inr e ↦ rw e refl ]

passed_word : (ram : ℕ) (gs : List Granule) (low high n : ℕ) (c : Cap) → (filtered_between ram gs low high n c).word ≡ c.word
passed_word ram gs low high n c = elim (bool_tells (nat_le low n && nat_lt n high)) [ inl e ↦ rw e (filtered_word ram gs c) | inr e ↦ rw e refl ]

pub passed_keeps : (ram : ℕ) (gs : List Granule) (low high : ℕ) → KeepsWords (λ n c. filtered_between ram gs low high n c)
passed_keeps ram gs low high = record { zero_is = λ n. zero_passes ram gs low high n; word_is = λ n c. passed_word ram gs low high n c }
