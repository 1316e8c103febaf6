use Rattle.std.proofs.Common.{◌≡◌, ◌∙◌, ap, sym, arith, ℕ, ◌<◌, length, map, List, [], slice_index_or}
use Rattle.std.proofs.lemmas.List.{length-map, get_or-map}
use Rattle.ct_graph.proofs.Graphs.{row_size}
use Rattle.ct_graph.proofs.sharing.find.Goals as goal

pub index-requires : goal.index-requires
index-requires c =
    let n : ℕ = length c.args.nodes.now in
    let rows : List (List ℕ) = map (λ d. d.items) c.args.far.now in
    let size : length rows ≡ length c.args.far.now = length-map c.args.far.now (λ d. d.items) in
    let inside : c.in-Some-place_of.to < length c.args.far.now = omega (arith, size, c.requires.size.0, c.in-Some-place_of.ensures.inside) in
    let row : length (slice_index_or rows c.in-Some-place_of.to []) ≡ n = row_size n rows c.in-Some-place_of.to c.requires.size c.in-Some-place_of.ensures.inside in
    let same : slice_index_or rows c.in-Some-place_of.to [] ≡ c.index-far-to.result.items =
    get_or-map (λ d. d.items) c.args.far.now c.in-Some-place_of.to c.index-far-to.result [] inside ∙ ap (λ d. d.items) (sym c.index-far-to.is) in
    let wide : length c.index-far-to.result.items ≡ n = ap (λ (l : List ℕ). length l) (sym same) ∙ row in
    omega (arith, wide, c.index-far-to.result.ok.0, c.in-Some.ensures.inside)
