-- Areas that stand one after another, and the threads that start with them.
use Rattle.std.proofs.Common.{ℕ, zero, suc, ◌≡◌, ◌+◌, ◌%◌, ◌≤◌, List, [], ◌∷◌, ◌++◌, length, map, take, drop, Some, slice_get, slice_index_or, refl, sym, ap, ◌∙◌, subst, arith, append_assoc}
use Rattle.std.proofs.lemmas.List.{drop_more}
use Rattle.std.proofs.lemmas.Option.{slice_get_within, get_or_from_slice_get}
use Rattle.def_profile.specs.Areas.{area_length}
use Rattle.def_profile.specs.declared.limits.TheConstants.{RAM_END}
use Rattle.def_machine.specs.Image.{areas_size}
use Rattle.def_machine.specs.Objects.{Each}
use Rattle.def_image.specs.Parts.{ThreadRow, PartsRow}
use Rattle.def_image.specs.Sizes.{sum_of}
use Rattle.def_image.specs.Regions.{area_size}
use Rattle.def_boot.specs.Boot.{first_thread, first_threads}
use Rattle.ct_boot.specs.Starts.{start_of}
use Rattle.ct_areas.specs.declared.thread.Area.{Area}
use Rattle.ct_areas.specs.declared.thread.First.{First}
use Rattle.ct_areas.specs.Threads.{HasArea, frames_most}
use Rattle.ct_areas.specs.declared.thread.Fresh.{Fresh}
use Rattle.ct_threads.specs.Starts.{IsFresh}
use Rattle.ct_areas.specs.Starts.{first_of}
use Rattle.ct_engine.specs.declared.rows.Region.{Region}
use Rattle.ct_engine.specs.Kept.{StackLies}
use Rattle.ct_engine.specs.Seen.{no_area}
use Rattle.ct_engine.specs.Starts.{AreFresh}
use Rattle.ct_boot.specs.Launching.{area_from, areas_end, fresh_by, fresh_from, fresh_of}

abbrev pub frames_in : List ThreadRow → List ℕ
frames_in xs = map (λ (x : ThreadRow). x.frames) xs

-- ---- one thread

pub room_of : (x : ThreadRow) (p : PartsRow) (at : ℕ) → frames_most (area_from p at x) ≡ x.frames
room_of x p at = omega arith

pub area_lies : (p : PartsRow) (size at : ℕ) (x : ThreadRow) → p.ram % 16 ≡ 0 → at % 16 ≡ 0 → p.ram ≤ at → at + area_size x ≤ p.ram + size → 1 ≤ x.frames
    → HasArea size (area_from p at x)
area_lies p size at x ram even low high one =
    let room = room_of x p at in
    record { ram = ram; even = even; low = low; high = high; whole = ap area_length (sym room); some = rw room one }

-- what a thread's row has for its start
pub record MayBegin (x : ThreadRow) : Type 0 where
  pub one : 1 ≤ x.frames
  pub end : x.stack + x.stack_length ≤ RAM_END

-- ---- all of them

pub laid : (p : PartsRow) (size n at : ℕ) (xs : List ThreadRow) → p.ram % 16 ≡ 0 → at % 16 ≡ 0 → p.ram ≤ at → at + sum_of area_size xs ≤ p.ram + size
    → ((k : ℕ) (x : ThreadRow) → slice_get xs k ≡ Some x → MayBegin x) → AreFresh p.ram size at (at + sum_of area_size xs) (fresh_from p n at xs)
laid p size n at [] ram even low high each = omega arith
laid p size n at (x ∷ xs) ram even low high each =
    let begin = each 0 x refl in
    let more : at + area_size x + sum_of area_size xs ≡ at + sum_of area_size (x ∷ xs) = omega arith in
    let fresh : IsFresh size (fresh_by (start_of (first_thread p n x)) (area_from p at x)) = record {
      area = area_lies p size at x ram even low (omega (arith, high)) begin.one;
      zero = refl;
      stack = begin.end;
    } in
    let rest = laid p size (n + 1) (at + area_size x) xs ram (omega (arith, even)) (omega (arith, low)) (omega (arith, high)) (λ k y is. each (suc k) y is) in
    (omega arith, refl, fresh, subst (λ to. AreFresh p.ram size (at + area_size x) to (fresh_from p (n + 1) (at + area_size x) xs)) more rest)

pub threads_are : (p : PartsRow) (n at : ℕ) (xs : List ThreadRow) → map (λ f. first_of f) (fresh_from p n at xs) ≡ first_threads p n xs
threads_are p n at [] = refl
threads_are p n at (x ∷ xs) = ap (λ ts. first_thread p n x ∷ ts) (threads_are p (n + 1) (at + area_size x) xs)

-- a stack lies wherever its thread's area stands
pub stacks_lie : (p : PartsRow) (g : Region) (base size n at : ℕ) (xs : List ThreadRow) → ((k : ℕ) (x : ThreadRow) → slice_get xs k ≡ Some x → (from : ℕ) → StackLies g base size (area_from p from x))
    → Each (StackLies g base size) (map (λ (f : Fresh). f.area) (fresh_from p n at xs))
stacks_lie p g base size n at [] each = tt
stacks_lie p g base size n at (x ∷ xs) each = (each 0 x refl at, stacks_lie p g base size (n + 1) (at + area_size x) xs (λ k y is. each (suc k) y is))

-- ---- by number

abbrev areas_in : List Fresh → List Area
areas_in fs = map (λ (f : Fresh). f.area) fs

pub areas_count : (p : PartsRow) (n at : ℕ) (xs : List ThreadRow) → length (areas_in (fresh_from p n at xs)) ≡ length xs
areas_count p n at [] = refl
areas_count p n at (x ∷ xs) = ap (λ k. suc k) (areas_count p (n + 1) (at + area_size x) xs)

-- where area t begins, after those before it
abbrev pub begin_in : ℕ → List ThreadRow → ℕ → ℕ
begin_in at xs t = at + areas_size (take t (frames_in xs))

pub area_is : (p : PartsRow) (n at : ℕ) (xs : List ThreadRow) (t : ℕ) (x : ThreadRow) → slice_get xs t ≡ Some x
    → slice_index_or (areas_in (fresh_from p n at xs)) t no_area ≡ area_from p (begin_in at xs t) x
area_is p n at [] t x is = cc
area_is p n at (y ∷ ys) zero x is =
    let same : y ≡ x = cc in
    let begin : at ≡ at + 0 = omega arith in
    ap (λ z. area_from p at z) same ∙ ap (λ n. area_from p n x) begin
area_is p n at (y ∷ ys) (suc t) x is =
    let begin : begin_in (at + area_size y) ys t ≡ begin_in at (y ∷ ys) (suc t) = omega arith in
    area_is p (n + 1) (at + area_size y) ys t x is ∙ ap (λ n. area_from p n x) begin

pub frames_are : (xs : List ThreadRow) (t : ℕ) (x : ThreadRow) → slice_get xs t ≡ Some x → slice_index_or (frames_in xs) t 0 ≡ x.frames
frames_are [] t x is = cc
frames_are (y ∷ ys) zero x is = let same : y ≡ x = cc in ap (λ (z : ThreadRow). z.frames) same
frames_are (y ∷ ys) (suc t) x is = frames_are ys t x is

-- it ends before all end, at a multiple of 16
pub begins : (xs : List ThreadRow) (t : ℕ) (x : ThreadRow) → slice_get xs t ≡ Some x
    → (areas_size (take t (frames_in xs)) + area_size x ≤ sum_of area_size xs) × (areas_size (take t (frames_in xs)) % 16 ≡ 0)
begins [] t x is = cc
begins (y ∷ ys) zero x is =
    let same : y ≡ x = cc in
    let size : area_size y ≡ area_size x = ap (λ z. area_size z) same in
    (omega (arith, size), refl)
begins (y ∷ ys) (suc t) x is =
    let rest = begins ys t x is in
    let fits = rest.0 in
    let even = rest.1 in
    (omega (arith, fits), omega (arith, even))

-- ---- one after another

-- so many of an image's threads stand in a list, and the next one's area begins at an address
pub record IsSoFar (p : PartsRow) (fs : List Fresh) (n at : ℕ) : Type 0 where
  pub done : fs ++ fresh_from p n at (drop n p.threads) ≡ fresh_of p
  pub end : at + sum_of area_size (drop n p.threads) ≡ areas_end p

left_of : (p : PartsRow) (n : ℕ) (x : ThreadRow) → slice_get p.threads n ≡ Some x → drop n p.threads ≡ x ∷ drop (n + 1) p.threads
left_of p n x is =
    drop_more p.threads n x (slice_get_within p.threads n x is) ∙ ap (λ y. y ∷ drop (n + 1) p.threads) (get_or_from_slice_get p.threads n x x is)

pub one_more : (p : PartsRow) (fs : List Fresh) (n at : ℕ) (f : First) (a : Area) (x : ThreadRow) → IsSoFar p fs n at → slice_get p.threads n ≡ Some x
    → f ≡ start_of (first_thread p n x) → a ≡ area_from p at x → IsSoFar p (fs ++ fresh_by f a ∷ []) (n + 1) (at + a.trusted_length)
one_more p fs n at f a x so_far is start area =
    let left = left_of p n x is in
    let rest = drop (n + 1) p.threads in
    let one = fresh_by (start_of (first_thread p n x)) (area_from p at x) in
    let end : at + (area_size x + sum_of area_size rest) ≡ areas_end p = ap (λ xs. at + sum_of area_size xs) (sym left) ∙ so_far.end in
    rw (start, area) (record {
      done = append_assoc fs (one ∷ []) (fresh_from p (n + 1) (at + area_size x) rest) ∙ ap (λ xs. fs ++ fresh_from p n at xs) (sym left) ∙ so_far.done;
      end = omega (arith, end);
    })

-- the next one's area ends no later than all
pub next_fits : (p : PartsRow) (fs : List Fresh) (n at : ℕ) (x : ThreadRow) → IsSoFar p fs n at → slice_get p.threads n ≡ Some x → at + area_size x ≤ areas_end p
next_fits p fs n at x so_far is =
    let end : at + (area_size x + sum_of area_size (drop (n + 1) p.threads)) ≡ areas_end p = ap (λ xs. at + sum_of area_size xs) (sym (left_of p n x is)) ∙ so_far.end in
    omega (arith, end)
