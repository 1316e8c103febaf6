use Rattle.std.proofs.Common.{ℕ, ◌/◌, ◌∙◌, Bool, sym, ap, arith}
use Rattle.ct_planes.proofs.Planed.{seen_sizes, seen_granule}
use Rattle.def_words.specs.declared.Cap.{Cap}
use Rattle.def_words.specs.declared.Shadow.{Shadow}
use Rattle.def_memory.specs.declared.Granule.{Granule}
use Rattle.ct_planes.proofs.planes.PlanesMemory.load_cap.Goals as goal

pub get-requires : goal.get-requires
get-requires c = omega (arith, (seen_sizes _ _ _ _ _ c.self.invariant c.self.view_is).tags, c.requires.aligned, c.requires.inside)

pub word-requires : goal.word-requires
word-requires c = omega (arith, (seen_sizes _ _ _ _ _ c.self.invariant c.self.view_is).words, c.requires.aligned, c.requires.inside)

pub get-requires-2 : goal.get-requires-2
get-requires-2 c = omega (arith, (seen_sizes _ _ _ _ _ c.self.invariant c.self.view_is).shadows, c.requires.aligned, c.requires.inside)

pub returns : goal.returns
returns c =
    let p = c.self.inside in
    let made : Bool → ℕ → Shadow → Cap = λ t w s. record { tag = t; word = w; shadow = s } in
    (λ i. made (c.get.ensures i) (c.word.ensures i) (c.get-2.ensures i))
    ∙ ap (λ (g : Granule). g.cap) (sym (seen_granule p.words p.tags p.shadows p.marks c.args.self.now (c.args.at / 8) c.self.invariant c.self.view_is))
