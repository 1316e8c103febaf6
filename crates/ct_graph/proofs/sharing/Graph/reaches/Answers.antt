use Rattle.std.proofs.Common.{◌≡◌, ◌∙◌, ap, sym, ℕ, List, Bool, true, false, refl}
use Rattle.std.specs.Bool.{MatchBool}
use Rattle.std.proofs.lemmas.Bool.{both_ways}
use Rattle.ct_entry.specs.Listed.{Listed}
use Rattle.ct_entry.specs.declared.rows.Owner.{Owner}
use Rattle.ct_entry.specs.declared.rows.Owner.TheVariants.{Compartment}
use Rattle.def_reach.specs.Reach.{has_entry, Reached}
use Rattle.ct_graph.specs.Nodes.{stands_among, IsGraph, IsNear, NotNear, is_node}
use Rattle.ct_graph.specs.declared.sharing.Ends.{Ends}
use Rattle.ct_graph.proofs.Graphs.{rows_of_graph, near_reached, not_reached, trusted_reaches}
use Rattle.ct_graph.proofs.sharing.Graph.reaches.Goals as goal

pub near-requires : goal.near-requires
near-requires c = record { size = rw (c.as_slice-then-has_slots.ensures.value, c.as_slice.ensures.value) (rows_of_graph _ _ _ _ c.self.invariant) }

told : (e : Listed) (ns : List Owner) (steps : List (List Bool)) (all : List (List ℕ)) (o : Owner) (n : ℕ) (b : Bool) → IsGraph e ns steps all → is_node o ≡ true
    → MatchBool b ((p : Ends) × IsNear ns all o (Compartment n) p.from p.to) (NotNear ns all o (Compartment n)) → (b ≡ true → Reached e o n) × (Reached e o n → b ≡ true)
told e ns steps all o n true g part near = (λ _. near_reached e ns steps all o n near.0.from near.0.to g part near.1, λ _. refl)
told e ns steps all o n false g part none = (λ h. absurd (both_ways false refl h), λ r. absurd (not_reached e ns steps all o n g part none r))

pub returns-then-has_slots : goal.returns-then-has_slots
returns-then-has_slots c =
    rw (← c.self.view_is) (told _ c.self.inside.nodes.items _ _ c.args.o c.args.c.0 c.near.result c.self.invariant (sym c.has_slots.ensures ∙ c.if-has_slots.true) (rw (c.as_slice-then-has_slots.ensures.value, c.as_slice.ensures.value) at c.near.ensures))

pub returns-in-Trusted : goal.returns-in-Trusted
returns-in-Trusted c =
    let e : Listed = record { rows = c.self.inside.rows.items; gates = c.self.inside.gates.items } in
    let says : c.stands.result ≡ has_entry e.rows (Compartment c.args.c.0) =
    c.stands.ensures ∙ ap (λ l. stands_among l (Compartment c.args.c.0)) c.as_slice-in-Trusted.ensures.value ∙ trusted_reaches e c.self.inside.nodes.items c.args.c.0 c.self.invariant.nodes in
    rw (c.in-Trusted.is, ← c.self.view_is) ((λ t. sym says ∙ t), (λ r. says ∙ r))
