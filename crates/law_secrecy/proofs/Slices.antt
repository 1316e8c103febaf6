-- Two slices of a sweep by the same filter: over granules, and over threads in their areas.
use Rattle.std.proofs.Common.{ℕ, zero, suc, ◌≡◌, ◌+◌, ◌-◌, ◌/◌, ◌%◌, ◌&&◌, Bool, nat_le, nat_lt, List, [], ◌∷◌, length, map, Option, refl, sym, ap, ◌∙◌, arith}
use Rattle.std.proofs.Math.ListN.{get_or}
use Rattle.law_lists.proofs.Tests.{chosen}
use Rattle.def_profile.specs.declared.layout.TheConstants.{GRANULE}
use Rattle.def_words.specs.declared.Cap.{Cap}
use Rattle.def_words.specs.Authority.{cap_base}
use Rattle.def_words.specs.Capability.{untagged}
use Rattle.def_memory.specs.declared.Granule.{Granule}
use Rattle.def_memory.specs.Accesses.{byte_of}
use Rattle.def_memory.specs.Granules.{granule_at}
use Rattle.def_machine.specs.Image.{Image}
use Rattle.def_machine.specs.Memory.{filtered_in}
use Rattle.def_machine.specs.Slices.{filtered_between, is_number, kept_frames, kept_granules, kept_registers, kept_thread, kept_threads}
use Rattle.def_machine.specs.State.{Thread, Frame, nobody}
use Rattle.def_machine.specs.Threads.{statuses_of}
use Rattle.def_secrecy.specs.Agreeing.{SameMemory, AgreeingThread, frame_shape}
use Rattle.law_secrecy.proofs.Two.{two_choices}

-- ---- what passes a filter keeps its word

filter_word : (ram : ℕ) (gs : List Granule) (c : Cap) → (filtered_in ram gs c).word ≡ c.word
filter_word ram gs c = chosen (λ (z : Cap). z.word ≡ c.word) (c.tag && (nat_le ram (cap_base c) && (granule_at gs ((cap_base c - ram) / 8)).mark)) (untagged c) c (λ is. refl) (λ not. refl)

pub between_word : (ram : ℕ) (gs : List Granule) (low high at : ℕ) (c : Cap) → (filtered_between ram gs low high at c).word ≡ c.word
between_word ram gs low high at c = chosen (λ (z : Cap). z.word ≡ c.word) (nat_le low at && nat_lt at high) (filtered_in ram gs c) c (λ is. filter_word ram gs c) (λ not. refl)

-- ---- two filters that are the same

module _ (f g : ℕ → Cap → Cap) (same : (n : ℕ) (c : Cap) → f n c ≡ g n c) (words : (n : ℕ) (c : Cap) → (f n c).word ≡ c.word) where
  granules_two : (P : Granule → Granule → Type 0) → ((x y : Granule) (n : ℕ) → P x y → P (record x { cap = f n x.cap }) (record y { cap = g n y.cap })) → (at : ℕ) (gs hs : List Granule) (k : ℕ) → length gs ≡ length hs
      → P (granule_at gs k) (granule_at hs k) → P (granule_at (kept_granules f at gs) k) (granule_at (kept_granules g at hs) k)
  granules_two P goes at [] [] k e old = old
  granules_two P goes at [] (y ∷ ys) k e old = absurd (omega (arith, e))
  granules_two P goes at (x ∷ xs) [] k e old = absurd (omega (arith, e))
  granules_two P goes at (x ∷ xs) (y ∷ ys) zero e old = goes x y at old
  granules_two P goes at (x ∷ xs) (y ∷ ys) (suc k) e old = granules_two P goes (at + GRANULE) xs ys k (omega (arith, e)) old

  kept_length : (h : ℕ → Cap → Cap) (at : ℕ) (gs : List Granule) → length (kept_granules h at gs) ≡ length gs
  kept_length h at [] = refl
  kept_length h at (x ∷ xs) = ap (λ n. suc n) (kept_length h (at + GRANULE) xs)

  pub kept_memory : (i : Image) (sees : ℕ → Type 0) (at : ℕ) (gs hs : List Granule) → SameMemory i sees gs hs → SameMemory i sees (kept_granules f at gs) (kept_granules g at hs)
  kept_memory i sees at gs hs memory = record {
    size = kept_length f at gs ∙ memory.size ∙ sym (kept_length g at hs);
    bytes = λ x above seen. granules_two (λ (a b : Granule). byte_of a.cap.word ((x - i.ram) % 8) ≡ byte_of b.cap.word ((x - i.ram) % 8))
        (λ a b n e. ap (λ w. byte_of w ((x - i.ram) % 8)) (words n a.cap) ∙ e ∙ sym (ap (λ w. byte_of w ((x - i.ram) % 8)) (ap (λ (c : Cap). c.word) (sym (same n b.cap)) ∙ words n b.cap)))
        at gs hs ((x - i.ram) / 8) memory.size (memory.bytes x above seen);
    whole = λ k seen. granules_two (λ (a b : Granule). a.cap ≡ b.cap) (λ a b n e. same n a.cap ∙ ap (λ c. g n c) e) at gs hs k memory.size (memory.whole k seen);
  }

  registers_two : (at : ℕ) (cs : List Cap) → kept_registers f at cs ≡ kept_registers g at cs
  registers_two at [] = refl
  registers_two at (c ∷ cs) = ap (λ d. d ∷ kept_registers f (at + GRANULE) cs) (same at c) ∙ ap (λ ds. g at c ∷ ds) (registers_two (at + GRANULE) cs)

  pub kept_shapes : (h : ℕ → Cap → Cap) (area : ℕ) (fs : List Frame) → map frame_shape (kept_frames h area fs) ≡ map frame_shape fs
  kept_shapes h area [] = refl
  kept_shapes h area (x ∷ xs) = ap (λ zs. frame_shape x ∷ zs) (kept_shapes h area xs)

  -- a thread, in its area
  thread_two : (area : ℕ) (runs : Bool) (x y : Thread) → AgreeingThread x y → AgreeingThread (kept_thread f area runs x) (kept_thread g area runs y)
  thread_two area runs x y h = record {
    pcc = two_choices (λ (a b : Cap). a ≡ b) runs runs x.pcc (f area x.pcc) y.pcc (g area y.pcc) refl (λ is. h.pcc) (λ not. same area x.pcc ∙ ap (λ c. g area c) h.pcc);
    registers = two_choices (λ (a b : List Cap). a ≡ b) runs runs x.registers (kept_registers f area x.registers) y.registers (kept_registers g area y.registers) refl (λ is. h.registers) (λ not. registers_two area x.registers ∙ ap (λ cs. kept_registers g area cs) h.registers);
    posture = h.posture;
    frames = kept_shapes f area x.frames ∙ h.frames ∙ sym (kept_shapes g area y.frames);
  }

  pub threads_two : (area : ℕ → ℕ) (running : Option ℕ) (n : ℕ) (xs ys : List Thread) (t : ℕ) → length xs ≡ length ys → AgreeingThread (get_or xs t nobody) (get_or ys t nobody) → AgreeingThread (get_or (kept_threads f area running n xs) t nobody) (get_or (kept_threads g area running n ys) t nobody)
  threads_two area running n [] [] t e h = h
  threads_two area running n [] (y ∷ ys) t e h = absurd (omega (arith, e))
  threads_two area running n (x ∷ xs) [] t e h = absurd (omega (arith, e))
  threads_two area running n (x ∷ xs) (y ∷ ys) zero e h = thread_two (area n) (is_number running n) x y h
  threads_two area running n (x ∷ xs) (y ∷ ys) (suc t) e h = threads_two area running (n + 1) xs ys t (omega (arith, e)) h

  -- what of a thread a slice doesn't change
  pub kept_of : {A : Type 0} (p : Thread → A) → ((area : ℕ) (runs : Bool) (x : Thread) → p (kept_thread f area runs x) ≡ p x) → (area : ℕ → ℕ) (running : Option ℕ) (n : ℕ) (xs : List Thread) (t : ℕ) → p (get_or (kept_threads f area running n xs) t nobody) ≡ p (get_or xs t nobody)
  kept_of p keeps area running n [] t = refl
  kept_of p keeps area running n (x ∷ xs) zero = keeps (area n) (is_number running n) x
  kept_of p keeps area running n (x ∷ xs) (suc t) = kept_of p keeps area running (n + 1) xs t

  pub kept_statuses : (area : ℕ → ℕ) (running : Option ℕ) (n : ℕ) (xs : List Thread) → statuses_of (kept_threads f area running n xs) ≡ statuses_of xs
  kept_statuses area running n [] = refl
  kept_statuses area running n (x ∷ xs) = ap (λ vs. x.status ∷ vs) (kept_statuses area running (n + 1) xs)

pub statuses_length : (xs : List Thread) → length (statuses_of xs) ≡ length xs
statuses_length [] = refl
statuses_length (x ∷ xs) = ap (λ n. suc n) (statuses_length xs)
