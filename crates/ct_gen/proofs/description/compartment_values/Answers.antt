use Rattle.std.proofs.Common.{◌≡◌, ◌+◌, [], ◌∷◌, ◌++◌, map, ap, ◌∙◌}
use Rattle.std.proofs.lemmas.List.{map-append}
use Rattle.serde_json.specs.View.{view}
use Rattle.def_gen.specs.Numbers.{count_of, x_at}
use Rattle.def_gen.specs.Description.{compartment_object, compartment_by}
use Rattle.ct_gen.proofs.Chosen.{x_first, x_next, one_more}
use Rattle.ct_gen.proofs.description.compartment_values.Goals as goal

pub loop-i-init : goal.loop-i-init
loop-i-init c = (x_first c.args.number, ap (map view) c.new-values.ensures.items)

pub loop-i-preserved : goal.loop-i-preserved
loop-i-preserved c =
    let seed = c.args.number in
    let i = c.loop-i.i in
    let next : c.following-x.result ≡ x_at seed (i + 1) = c.following-x.ensures ∙ x_next seed i c.loop-i.x c.loop-i.invariant.0 in
    let here : view c.in_ok-compartment_by.field-0 ≡ compartment_object seed i =
    c.in_ok-compartment_by.ensures
    ∙ ap (λ n. compartment_by n c.following-x.result i) c.count_of-count.ensures.value
    ∙ ap (λ y. compartment_by (count_of seed) y i) next in
    let pushed : map view c.push.new.self.items ≡ map view c.loop-i.values.items ++ view c.in_ok-compartment_by.field-0 ∷ [] =
    ap (map view) c.in_ok-push.ensures.items ∙ map-append view c.loop-i.values.items (c.in_ok-compartment_by.field-0 ∷ []) in
    (next, one_more (compartment_object seed) i (map view c.loop-i.values.items) (map view c.push.new.self.items) (view c.in_ok-compartment_by.field-0) c.loop-i.invariant.1 pushed here)
