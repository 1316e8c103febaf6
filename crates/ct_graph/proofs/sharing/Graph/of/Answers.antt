use Rattle.std.proofs.Common.{◌≡◌, ◌∙◌, ap, sym, subst, arith, ◌≤◌, length, map, List}
use Rattle.std.proofs.lemmas.List.{length-map}
use Rattle.ct_entry.specs.Listed.{Listed}
use Rattle.ct_entry.specs.declared.rows.Owner.{Owner}
use Rattle.ct_graph.specs.Links.{links_of, own}
use Rattle.ct_graph.specs.Nodes.{nodes_of, matrix_of, IsGraph, AllDistances}
use Rattle.ct_graph.proofs.Graphs.{nodes_fit, matrix_is, steps_size}
use Rattle.ct_graph.proofs.sharing.Graph.of.Goals as goal

pub all_distances-requires : goal.all_distances-requires
all_distances-requires c =
    let e : Listed = c.args.e.now in
    let ns : List Owner = c.in_ok-nodes.nodes.items in
    let nodes_is : ns ≡ nodes_of (links_of e) = c.in_ok-nodes.ensures ∙ ap nodes_of (c.as_slice.ensures.value ∙ c.in_ok-all.ensures) in
    let own_is : map (λ l. l.items) c.in_ok-own.own.items ≡ map (own (links_of e)) ns = rw (c.as_slice-2.ensures.value, c.as_slice-3.ensures.value, c.in_ok-all.ensures) at c.in_ok-own.ensures in
    let steps_are : map (λ r. r.items) c.in_ok-steps.steps.items ≡ matrix_of e ns = (rw (c.as_slice-4.ensures.value, c.as_slice-5.ensures.value, own_is) at c.in_ok-steps.ensures) ∙ matrix_is e ns in
    let same : length c.as_slice-6.result.now ≡ length ns =
    ap length c.as_slice-6.ensures.value ∙ sym (length-map c.in_ok-steps.steps.items (λ r. r.items)) ∙ ap length steps_are ∙ steps_size e ns in
    let few : length ns ≤ length e.rows = subst (λ l. length l ≤ length e.rows) (sym nodes_is) (nodes_fit e) in
    record { few = omega (arith, same, few, c.requires) }

pub invariant_of-result : goal.invariant_of-result
invariant_of-result c =
    let e : Listed = c.args.e.now in
    let ns : List Owner = c.in_ok-nodes.nodes.items in
    let nodes_is : ns ≡ nodes_of (links_of e) = c.in_ok-nodes.ensures ∙ ap nodes_of (c.as_slice.ensures.value ∙ c.in_ok-all.ensures) in
    let own_is : map (λ l. l.items) c.in_ok-own.own.items ≡ map (own (links_of e)) ns = rw (c.as_slice-2.ensures.value, c.as_slice-3.ensures.value, c.in_ok-all.ensures) at c.in_ok-own.ensures in
    let steps_are : map (λ r. r.items) c.in_ok-steps.steps.items ≡ matrix_of e ns = (rw (c.as_slice-4.ensures.value, c.as_slice-5.ensures.value, own_is) at c.in_ok-steps.ensures) ∙ matrix_is e ns in
    let few : length ns ≤ length e.rows = subst (λ l. length l ≤ length e.rows) (sym nodes_is) (nodes_fit e) in
    let far_is : AllDistances (map (λ r. r.items) c.in_ok-steps.steps.items) (map (λ d. d.items) c.in_ok-far.far.items) = rw c.as_slice-6.ensures.value at c.in_ok-far.ensures in
    let rows_are : c.in_ok-rows.rows.items ≡ c.e.inside.rows.items = c.in_ok-rows.ensures.items ∙ c.as_slice-7.ensures.value in
    let gates_are : c.in_ok-gates.gates.items ≡ c.e.inside.gates.items = c.in_ok-gates.ensures.items ∙ c.as_slice-8.ensures.value in
    let graph : IsGraph e ns (map (λ r. r.items) c.in_ok-steps.steps.items) (map (λ d. d.items) c.in_ok-far.far.items) =
    record { few = omega (arith, few, c.requires); nodes = nodes_is; steps_are = steps_are; distances = far_is } in
    rw (rows_are, gates_are, c.e.view_is) graph
