use Rattle.std.proofs.Common.{◌≡◌, ◌∙◌, ap, sym, length, map}
use Rattle.std.proofs.lemmas.List.{length-map}
use Rattle.ct_entry.specs.Listed.{Listed}
use Rattle.std.proofs.Common.{true}
use Rattle.ct_entry.specs.declared.rows.Owner.TheVariants.{Compartment}
use Rattle.ct_graph.specs.Nodes.{is_node, IsRoute, NotNear}
use Rattle.ct_graph.proofs.Graphs.{route_path, not_reached, steps_size}
use Rattle.ct_graph.proofs.sharing.Graph.path.Goals as goal

pub route-requires-clause-square : goal.route-requires-clause-square
route-requires-clause-square c =
    let e : Listed = record { rows = c.self.inside.rows.items; gates = c.self.inside.gates.items } in
    ap length c.as_slice-2.ensures.value ∙ sym (length-map c.self.inside.steps.items (λ r. r.items)) ∙ ap length c.self.invariant.steps_are ∙ steps_size e c.self.inside.nodes.items ∙ sym (ap length c.as_slice.ensures.value)

pub returns-in-Some : goal.returns-in-Some
returns-in-Some c =
    let part : is_node c.args.o ≡ true = sym c.has_slots.ensures ∙ c.if-not-has_slots.false in
    let route : IsRoute c.self.inside.nodes.items (map (λ r. r.items) c.self.inside.steps.items) (map (λ d. d.items) c.self.inside.far.items) c.args.o (Compartment c.args.c.0) c.in-Some.owners.items =
    rw (c.in-Some.is, c.as_slice.ensures.value, c.as_slice-2.ensures.value, c.as_slice-3.ensures.value) at c.in_ok-owners.ensures in
    rw (← c.self.view_is) (route_path _ c.self.inside.nodes.items _ _ c.args.o c.args.c.0 c.in-Some.owners.items c.self.invariant part route)

pub returns-in-None : goal.returns-in-None
returns-in-None c =
    let part : is_node c.args.o ≡ true = sym c.has_slots.ensures ∙ c.if-not-has_slots.false in
    let none : NotNear c.self.inside.nodes.items (map (λ d. d.items) c.self.inside.far.items) c.args.o (Compartment c.args.c.0) =
    rw (c.in-None.is, c.as_slice.ensures.value, c.as_slice-3.ensures.value) at c.in_ok-owners.ensures in
    rw (← c.self.view_is) (not_reached _ c.self.inside.nodes.items _ _ c.args.o c.args.c.0 c.self.invariant part none)
