-- Moves of the heap's objects: an allocation, a free.
use Rattle.std.proofs.Common.{ℕ, ◌≡◌, ◌+◌, ◌-◌, inr, true, false, List, [], ◌∷◌, map, Option, arith}
use Rattle.std.proofs.lemmas.List.{length-map}
use Rattle.law_granules.proofs.Lists.{zeroed_length, marked_length}
use Rattle.def_words.specs.declared.Cap.{Cap}
use Rattle.def_memory.specs.Ranges.{zeroed_from}
use Rattle.def_machine.specs.Image.{Image, area_of}
use Rattle.def_machine.specs.State.{State, Frame, Object, thread, register, granule}
use Rattle.def_machine.specs.Memory.{filtered}
use Rattle.def_machine.specs.Objects.{Each, quarantine, placed_among}
use Rattle.def_machine.specs.Heap.{with_object, quarantined, freed}
use Rattle.def_machine.specs.Registers.{put_register}
use Rattle.def_confined.specs.Changes.{NewObject, Frees}
use Rattle.def_confined.specs.Keeps.{Beside, Keeps}
use Rattle.def_confined.specs.Partitioned.{Partitioned}
use Rattle.def_confined.specs.Swept.{UnpaintedCovers, HasUnpainted, FramesSwept}
use Rattle.law_moves.proofs.Rows.{among_any, among_each}
use Rattle.law_moves.proofs.Allocates.{allocate_confined}
use Rattle.law_moves.proofs.Quarantines.{quarantine_any, quarantine_each}
use Rattle.law_moves.proofs.Frees.{free_confined, freed_cap}
use Rattle.def_confined.specs.Premises.{Allocates}
use Rattle.law_moves.proofs.Threads.{put_beside, registers_beside}

-- what a capability has of unpainted objects before, it has of those after
abbrev Grows : Image → List Object → List Object → Type 0
Grows i old new = (c : Cap) → HasUnpainted i old c → HasUnpainted i new c

frames_grow : (i : Image) (old new : List Object) (front : Option ℕ) (area : ℕ) (fs : List Frame) → Grows i old new → FramesSwept i old front area fs → FramesSwept i new front area fs
frames_grow i old new front area [] grow h = tt
frames_grow i old new front area (f ∷ fs) grow h = (
  record {
    c1 = λ p. grow f.c1 (h.0.c1 p);
    c2 = λ p. grow f.c2 (h.0.c2 p);
    c3 = λ p. grow f.c3 (h.0.c3 p);
    c8 = λ p. grow f.c8 (h.0.c8 p);
    c9 = λ p. grow f.c9 (h.0.c9 p);
  },
  frames_grow i old new front area fs grow h.1,
)

-- ---- an allocation

placed_grows : (i : Image) (r : Object) (objects : List Object) → Grows i objects (placed_among r objects)
placed_grows i r objects c has tagged heap some = among_any (UnpaintedCovers c) r objects (inr (has tagged heap some))

pub object_beside : (i : Image) (s : State) (r : Object) → NewObject i s r → Beside i s → Beside i (with_object s r)
object_beside i s r n b = record {
  swept = record {
    granules = λ k passed. placed_grows i r s.objects (granule s k).cap (b.swept.granules k passed);
    registers = λ t m idle passed. placed_grows i r s.objects (register (thread s t) m) (b.swept.registers t m idle passed);
    frames = λ t. frames_grow i s.objects (placed_among r s.objects) s.front (area_of i t - i.ram) (thread s t).frames (placed_grows i r s.objects) (b.swept.frames t);
    idle = λ none. among_each (λ (q : Object). q.painted ≡ false) r s.objects (n.fits.unpainted n.live) (b.swept.idle none);
  };
  bounded = record { deep = b.bounded.deep; few = b.bounded.few; many = b.bounded.many; areas = b.bounded.areas; fits = b.bounded.fits };
  ends = b.ends;
}

pub allocate_keeps : (i : Image) (s : State) (t n : ℕ) (r : Object) (c : Cap) → Partitioned i → Keeps i s → Allocates i s t r c → Keeps i (put_register (with_object s r) t n c)
allocate_keeps i s t n r c parts k a = record {
  confined = allocate_confined i s t n r c parts k.confined a.object a.tagged a.quota a.is_quota a.made;
  beside = put_beside i (with_object s r) t n c a.running (object_beside i s r a.object k.beside);
}

-- ---- a free

pub each_unit : (rs : List Object) → Each (λ q. Unit {0}) rs
each_unit [] = tt
each_unit (x ∷ xs) = (tt, each_unit xs)

quarantine_grows : (i : Image) (n : ℕ) (objects : List Object) → Grows i objects (quarantine n objects)
quarantine_grows i n objects c has tagged heap some = quarantine_any (λ q. Unit {0}) (UnpaintedCovers c) (UnpaintedCovers c) n objects (λ q any k not. k)
    (λ q any k is. (k.0, record { number = k.1.number; quota = k.1.quota; low = k.1.low; high = k.1.high }))
    (each_unit objects) (has tagged heap some)

pub quarantined_beside : (i : Image) (s : State) (r : Object) → Beside i s → Beside i (quarantined i s r)
quarantined_beside i s r b = record {
  swept = record {
    granules = λ k passed. freed_cap (HasUnpainted i (quarantine r.number s.objects)) i s r k
        (λ low high tagged. absurd (let clash : false ≡ true = tagged in cc))
        (λ outside. quarantine_grows i r.number s.objects (granule s k).cap (b.swept.granules k passed));
    registers = λ t m idle passed. quarantine_grows i r.number s.objects (register (thread s t) m) (b.swept.registers t m idle passed);
    frames = λ t. frames_grow i s.objects (quarantine r.number s.objects) s.front (area_of i t - i.ram) (thread s t).frames (quarantine_grows i r.number s.objects) (b.swept.frames t);
    idle = λ none. quarantine_each (λ (q : Object). q.painted ≡ false) (λ (q : Object). q.painted ≡ false) r.number s.objects (λ q h. h) (λ q h. h) (b.swept.idle none);
  };
  bounded = record {
    deep = b.bounded.deep;
    few = b.bounded.few;
    many = b.bounded.many;
    areas = b.bounded.areas;
    fits = omega (arith, b.bounded.fits, marked_length (r.base - 8) (r.base + r.length) true i.ram (zeroed_from r.base (r.base + r.length) i.ram s.granules), zeroed_length r.base (r.base + r.length) i.ram s.granules);
  };
  ends = b.ends;
}

pub free_keeps : (i : Image) (s : State) (t : ℕ) (r : Object) → Partitioned i → Keeps i s → Frees s t r → Keeps i (freed i s t r)
free_keeps i s t r parts k f = record {
  confined = free_confined i s t r parts k.confined f;
  beside = registers_beside i (quarantined i s r) t (map (filtered i (quarantined i s r)) (thread s t).registers) f.running
      (omega (arith, k.beside.bounded.few t, length-map (thread s t).registers (filtered i (quarantined i s r))))
      (quarantined_beside i s r k.beside);
}
