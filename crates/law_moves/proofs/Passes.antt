-- What a slice has passed is of no painted object.
use Rattle.std.proofs.Common.{ℕ, suc, ◌≡◌, ◌+◌, ◌-◌, ◌*◌, ◌≤◌, ◌<◌, Bool, true, false, length, List, [], ◌∷◌, Option, Some, None, refl, sym, ap, ◌∙◌, subst, arith}
use Rattle.def_profile.specs.Areas.{frame_after}
use Rattle.def_words.specs.declared.Cap.{Cap}
use Rattle.def_memory.specs.declared.Granule.{Granule}
use Rattle.def_machine.specs.Image.{Image, area_of, frames_most}
use Rattle.def_machine.specs.State.{State, Thread, Frame, Object, thread, register, granule}
use Rattle.def_machine.specs.Objects.{Each}
use Rattle.def_machine.specs.Heap.{with_slice, sliced, area_offset}
use Rattle.def_machine.specs.Slices.{kept_frame, kept_frames, kept_registers, kept_thread, kept_threads, is_number}
use Rattle.def_confined.specs.Confined.{Confined}
use Rattle.def_confined.specs.Partitioned.{Partitioned}
use Rattle.def_confined.specs.Swept.{HasUnpainted, IsPassed, FramesSwept, Swept, Bounded}
use Rattle.def_confined.specs.Saved.{SavedHave}
use Rattle.law_moves.proofs.Holding.{granule_object, register_object, frames_object}
use Rattle.law_moves.proofs.Slices.{slice_unpainted, granule_at_slice, register_at_slice, thread_sliced, number_is, slice_length}

passed_low : (front : Option ℕ) (low x : ℕ) → front ≡ Some low → x < low → IsPassed front x
passed_low front low x is lt = subst (λ o. IsPassed o x) (sym is) lt

none_left : (i : Image) (objects : List Object) (c : Cap) → c.tag ≡ false → HasUnpainted i objects c
none_left i objects c none tagged = absurd (let clash : true ≡ false = sym tagged ∙ none in cc)

granules_pass : (i : Image) (s : State) (low high : ℕ) → s.front ≡ Some low → Partitioned i → Confined i s → Swept i s → (k : ℕ) → 8 * k < high → HasUnpainted i s.objects (granule (with_slice i s low high) k).cap
granules_pass i s low high is p h w k lt = granule_at_slice (λ (g : Granule). HasUnpainted i s.objects g.cap) i s low high 0 s.granules k
    (none_left i s.objects _ refl)
    (slice_unpainted i s low high (0 + 8 * k) (granule s k).cap p h (granule_object i s k p h) (λ before. w.granules k (passed_low s.front low (8 * k) is (omega (arith, before)))) (omega (arith, lt)))

thread_pass : (i : Image) (s : State) (low high u n area : ℕ) (b : Bool) → s.front ≡ Some low → Partitioned i → Confined i s → (b ≡ true → s.running ≡ Some u)
    → ((s.running ≡ Some u → ⊥) → area + 8 * n < low → HasUnpainted i s.objects (register (thread s u) n))
    → (s.running ≡ Some u → ⊥) → area + 8 * n < high → HasUnpainted i s.objects (register (kept_thread (sliced i s low high) area b (thread s u)) n)
thread_pass i s low high u n area true is p h runs before not lt = absurd (not (runs refl))
thread_pass i s low high u n area false is p h runs before not lt = register_at_slice (HasUnpainted i s.objects) i s low high area (thread s u).registers n
    (none_left i s.objects _ refl)
    (slice_unpainted i s low high (area + 8 * n) (register (thread s u) n) p h (register_object i s u n h) (λ lower. before not lower) lt)

frames_length : (i : Image) (s : State) (low high area : ℕ) (fs : List Frame) → length (kept_frames (sliced i s low high) area fs) ≡ length fs
frames_length i s low high area [] = refl
frames_length i s low high area (f ∷ fs) = ap (λ n. suc n) (frames_length i s low high area fs)

frames_pass : (i : Image) (s : State) (low high area : ℕ) (fs : List Frame) → s.front ≡ Some low → Partitioned i → Confined i s → Each (SavedHave i s.objects) fs → FramesSwept i s.objects s.front area fs
    → FramesSwept i s.objects (Some high) area (kept_frames (sliced i s low high) area fs)
frames_pass i s low high area [] is p h has w = tt
frames_pass i s low high area (f ∷ fs) is p h has w =
    let at : ℕ = frame_after area (length fs) in
    let same : frame_after area (length (kept_frames (sliced i s low high) area fs)) ≡ at = ap (λ n. frame_after area n) (frames_length i s low high area fs) in (
      subst (λ n. Rattle.def_confined.specs.Swept.SavedSwept i s.objects (Some high) n (kept_frame (sliced i s low high) at f)) (sym same) (record {
        c1 = slice_unpainted i s low high at f.c1 p h has.0.c1 (λ b. w.0.c1 (passed_low s.front low at is b));
        c2 = slice_unpainted i s low high (at + 8) f.c2 p h has.0.c2 (λ b. w.0.c2 (passed_low s.front low (at + 8) is b));
        c3 = slice_unpainted i s low high (at + 16) f.c3 p h has.0.c3 (λ b. w.0.c3 (passed_low s.front low (at + 16) is b));
        c8 = slice_unpainted i s low high (at + 24) f.c8 p h has.0.c8 (λ b. w.0.c8 (passed_low s.front low (at + 24) is b));
        c9 = slice_unpainted i s low high (at + 32) f.c9 p h has.0.c9 (λ b. w.0.c9 (passed_low s.front low (at + 32) is b));
      }),
      frames_pass i s low high area fs is p h has.1 w.1,
    )

pub slice_swept : (i : Image) (s : State) (low high : ℕ) → s.front ≡ Some low → Partitioned i → Confined i s → Swept i s → Swept i (with_slice i s low high)
slice_swept i s low high is p h w = record {
  granules = λ k lt. granules_pass i s low high is p h w k lt;
  registers = λ t n. thread_sliced (λ m x y. (s.running ≡ Some m → ⊥) → area_of i m - i.ram + 8 * n < high → HasUnpainted i s.objects (register y n)) i s low high t
      (λ m not lt. none_left i s.objects _ refl)
      (thread_pass i s low high t n (area_of i t - i.ram) (is_number s.running t) is p h (number_is s.running t) (λ not lt. w.registers t n not (passed_low s.front low _ is lt)));
  frames = λ t. thread_sliced (λ m x y. FramesSwept i s.objects (Some high) (area_of i m - i.ram) y.frames) i s low high t
      (λ m. tt)
      (frames_pass i s low high (area_of i t - i.ram) (thread s t).frames is p h (frames_object i s t h) (w.frames t));
  idle = λ none. absurd (let clash : Some high ≡ None = none in cc);
}

registers_length : (i : Image) (s : State) (low high at : ℕ) (rs : List Cap) → length (kept_registers (sliced i s low high) at rs) ≡ length rs
registers_length i s low high at [] = refl
registers_length i s low high at (r ∷ rs) = ap (λ n. suc n) (registers_length i s low high (at + 8) rs)

few_after : (i : Image) (s : State) (low high area : ℕ) (b : Bool) (t : Thread) → length t.registers ≤ 16 → length (kept_thread (sliced i s low high) area b t).registers ≤ 16
few_after i s low high area true t h = h
few_after i s low high area false t h = omega (arith, registers_length i s low high area t.registers, h)

threads_length : (i : Image) (s : State) (low high k : ℕ) (xs : List Thread) → length (kept_threads (sliced i s low high) (area_offset i) s.running k xs) ≡ length xs
threads_length i s low high k [] = refl
threads_length i s low high k (x ∷ xs) = ap (λ n. suc n) (threads_length i s low high (k + 1) xs)

pub slice_bounded : (i : Image) (s : State) (low high : ℕ) → Bounded i s → Bounded i (with_slice i s low high)
slice_bounded i s low high b = record {
  deep = λ t. thread_sliced (λ m x y. length x.frames ≤ frames_most i m → length y.frames ≤ frames_most i m) i s low high t (λ m z. z)
      (λ z. omega (arith, frames_length i s low high (area_of i t - i.ram) (thread s t).frames, z)) (b.deep t);
  few = λ t. thread_sliced (λ m x y. length x.registers ≤ 16 → length y.registers ≤ 16) i s low high t (λ m z. z)
      (few_after i s low high (area_of i t - i.ram) (is_number s.running t) (thread s t)) (b.few t);
  many = omega (arith, threads_length i s low high 0 s.threads, b.many);
  areas = b.areas;
  fits = omega (arith, slice_length i s low high 0 s.granules, b.fits);
}
