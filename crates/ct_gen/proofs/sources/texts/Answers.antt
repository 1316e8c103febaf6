use Rattle.std.proofs.Common.{◌≡◌, ◌+◌, [], ◌∷◌, ◌++◌, map, string_bytes, ap, ◌∙◌}
use Rattle.std.proofs.lemmas.List.{map-append}
use Rattle.def_gen.specs.Numbers.{count_of, x_at}
use Rattle.def_gen.specs.Sources.{source, source_by}
use Rattle.ct_gen.proofs.Chosen.{x_first, x_next, one_more}
use Rattle.ct_gen.proofs.sources.texts.Goals as goal

pub loop-i-init : goal.loop-i-init
loop-i-init c = (x_first c.args.number, ap (map string_bytes) c.new-texts.ensures.items)

pub loop-i-preserved : goal.loop-i-preserved
loop-i-preserved c =
    let seed = c.args.number in
    let i = c.loop-i.i in
    let next : c.following-x.result ≡ x_at seed (i + 1) = c.following-x.ensures ∙ x_next seed i c.loop-i.x c.loop-i.invariant.0 in
    let here : string_bytes c.in_ok-source_by.field-0 ≡ source seed i =
    c.in_ok-source_by.ensures
    ∙ ap (λ n. source_by n c.following-x.result i) c.count_of-count.ensures.value
    ∙ ap (λ y. source_by (count_of seed) y i) next in
    let pushed : map string_bytes c.push.new.self.items ≡ map string_bytes c.loop-i.texts.items ++ string_bytes c.in_ok-source_by.field-0 ∷ [] =
    ap (map string_bytes) c.in_ok-push.ensures.items ∙ map-append string_bytes c.loop-i.texts.items (c.in_ok-source_by.field-0 ∷ []) in
    (next, one_more (source seed) i (map string_bytes c.loop-i.texts.items) (map string_bytes c.push.new.self.items) (string_bytes c.in_ok-source_by.field-0) c.loop-i.invariant.1 pushed here)
