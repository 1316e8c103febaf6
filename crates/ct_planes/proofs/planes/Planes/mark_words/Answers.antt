use Rattle.std.proofs.Common.{◌∙◌, map, sym, ap}
use Rattle.ct_planes.proofs.Planed.{marks_of}
use Rattle.def_memory.specs.declared.Granule.{Granule}
use Rattle.ct_planes.specs.Bits.{words_of}
use Rattle.ct_planes.proofs.planes.Planes.mark_words.Goals as goal

pub returns : goal.returns
returns c =
    let p = c.self.inside in
    c.words.ensures ∙ ap words_of (sym (marks_of p.words p.tags p.shadows p.marks c.self.invariant)) ∙ ap (λ l. words_of (map (λ (g : Granule). g.mark) l)) c.self.view_is
