-- What a thread sees goes by the shapes of its frames.
use Rattle.std.proofs.Common.{ℕ, ◌≡◌, ◌+◌, ◌≤◌, inl, inr, List, [], ◌∷◌, length, map, ap, subst, arith}
use Rattle.def_machine.specs.Image.{Image}
use Rattle.def_machine.specs.Platform.{Platform}
use Rattle.def_machine.specs.State.{Frame, Object}
use Rattle.def_machine.specs.Objects.{Any}
use Rattle.def_confined.specs.Places.{WithinRun}
use Rattle.def_reach.specs.Sharing.{Joined}
use Rattle.def_secrecy.specs.View.{ReadsThrough, ReadsObject, Sees, SeesDevice}
use Rattle.def_secrecy.specs.Agreeing.{Shape, frame_shape}
use Rattle.law_secrecy.proofs.Puts.{shaped_actor}

abbrev pub head_of : Shape → List Shape → Shape
head_of d [] = d
head_of d (x ∷ xs) = x

abbrev tail_of : List Shape → List Shape
tail_of [] = []
tail_of (x ∷ xs) = xs

run_shaped : (i : Image) (fs gs : List Frame) (x : ℕ) → map frame_shape fs ≡ map frame_shape gs → WithinRun i fs x → WithinRun i gs x
run_shaped i [] gs x e h = absurd h
run_shaped i (f ∷ fs) [] x e h = absurd (omega (arith, ap (λ (zs : List Shape). length zs) e))
run_shaped i (f ∷ []) (g ∷ []) x e h =
    let same : frame_shape f ≡ frame_shape g = ap (head_of (frame_shape f)) e in
    subst (λ (z : Shape). x ≤ z.top) same h
run_shaped i (f ∷ []) (g ∷ k ∷ gs) x e h = absurd (omega (arith, ap (λ (zs : List Shape). length zs) e))
run_shaped i (f ∷ k ∷ fs) (g ∷ []) x e h = absurd (omega (arith, ap (λ (zs : List Shape). length zs) e))
run_shaped i (f ∷ k ∷ fs) (g ∷ l ∷ gs) x e h =
    let same : frame_shape f ≡ frame_shape g = ap (head_of (frame_shape f)) e in
    let rest : map frame_shape (k ∷ fs) ≡ map frame_shape (l ∷ gs) = ap tail_of e in
    let next : frame_shape k ≡ frame_shape l = ap (head_of (frame_shape k)) rest in
    elim h [
      | inl below ↦ inl (subst (λ (z : Shape). x ≤ z.top) same below)
      | inr more ↦ inr (
        subst (λ (z : Shape). Joined i.entries g.actor z.actor) next (subst (λ (z : Shape). Joined i.entries z.actor k.actor) same more.0),
        run_shaped i (k ∷ fs) (l ∷ gs) x rest more.1,
      )
    ]

pub sees_shaped : (i : Image) (os : List Object) (t : ℕ) (fs gs : List Frame) (x : ℕ) → map frame_shape fs ≡ map frame_shape gs → Sees i os t fs x → Sees i os t gs x
sees_shaped i os t fs gs x e (inl entry) = inl (subst (λ a. (n : ℕ) × ReadsThrough i a n x) (shaped_actor fs gs e) entry)
sees_shaped i os t fs gs x e (inr (inl object)) = inr (inl (subst (λ a. Any (ReadsObject i a x) os) (shaped_actor fs gs e) object))
sees_shaped i os t fs gs x e (inr (inr own)) = inr (inr (own.0, run_shaped i fs gs (x + 1) e own.1))

pub device_shaped : (b : Platform) (fs gs : List Frame) (m : ℕ) → map frame_shape fs ≡ map frame_shape gs → SeesDevice b fs m → SeesDevice b gs m
device_shaped b fs gs m e seen = record {
  entry = seen.entry;
  address = seen.address;
  reads = subst (λ a. ReadsThrough b.image a seen.entry seen.address) (shaped_actor fs gs e) seen.reads;
  is_device = seen.is_device;
  here = seen.here;
}
