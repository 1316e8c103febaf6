use Rattle.std.proofs.Common.{ℕ, ◌/◌, ◌%◌, ◌*◌, ◌∙◌, List, length, map, get_or, ap}
use Rattle.std.specs.List.{range_with_len}
use Rattle.std.proofs.lemmas.List.FromFn.{fill_by_all}
use Rattle.def_memory.specs.Accesses.{byte_of}
use Rattle.ct_planes.specs.Bytes.{words_in}
use Rattle.ct_planes.proofs.bytes.Bytes.bytes.Goals as goal

pub returns : goal.returns
returns c =
    let bs = c.self.inside.bytes.items in
    let held = c.self.invariant.1 in
    let ws = words_in bs in
    c.deref.ensures.value
    ∙ fill_by_all (λ at. byte_of (get_or ws (at / 8) 0) (at % 8)) bs (8 * length ws) 0 held.size (λ k lt. held.bytes_are k)
    ∙ ap (λ (l : List ℕ). map (λ at. byte_of (get_or l (at / 8) 0) (at % 8)) (range_with_len 0 (8 * length l))) c.self.view_is
