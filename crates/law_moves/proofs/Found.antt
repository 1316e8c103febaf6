-- A place that was found gives an object that may be put beside the others.
use Rattle.std.proofs.Common.{false, ℕ, zero, suc, ◌≡◌, ◌+◌, ◌*◌, ◌/◌, ◌%◌, ◌^◌, ◌≤◌, List, [], ◌∷◌, true, refl, ◌∙◌, arith}
use Rattle.def_words.specs.LeastBounds.{exponent_for}
use Rattle.def_machine.specs.Image.{Image, root}
use Rattle.def_machine.specs.State.{State, Object}
use Rattle.def_machine.specs.Objects.{Each, ApartFrom, charges}
use Rattle.def_machine.specs.Heap.{Fits, length_for, charge_for, new_object}
use Rattle.def_confined.specs.Confined.{Confined, Apart, ObjectFits}
use Rattle.def_confined.specs.Changes.{NewObject}
use Rattle.law_words.proofs.Leasts.{rounded_eights}

length_eights : (size : ℕ) → length_for size % 8 ≡ 0
length_eights size = rounded_eights ((size + 7) / 8 * 8) (exponent_for 0 ((size + 7) / 8 * 8)) (omega arith)

apart_each : (s : State) (quota size base : ℕ) (i : Image) (rs : List Object) → Each (ObjectFits i s.next) rs → Each (λ q. ApartFrom (record { number = 0; quota = 0; base = base; length = length_for size; charge = 0; live = true; painted = false }) q) rs → Each (Apart (new_object s quota size base)) rs
apart_each s quota size base i [] f a = tt
apart_each s quota size base i (q ∷ qs) f a = (((λ same. let number = f.0.number in omega (arith, number, same)), a.0), apart_each s quota size base i qs f.1 a.1)

-- a place that was found, with room in the quota, gives an object that may be put beside the others
pub place_found : (i : Image) (s : State) (quota size base : ℕ) → Confined i s → Fits i s.objects (length_for size) base → charge_for size + charges quota s.objects ≤ (root i quota).limit → NewObject i s (new_object s quota size base)
place_found i s quota size base h f limit = record {
  live = refl;
  fits = record { first = h.numbered; number = omega arith; low = f.low; high = f.high; whole = (f.eight, length_eights size); charge = refl; unpainted = λ live. refl };
  number = refl;
  apart = apart_each s quota size base i s.objects h.fits f.apart;
  limit = limit;
}
