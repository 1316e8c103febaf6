use Rattle.std.proofs.Common.{◌≡◌, ℕ, List, Bool, true, false, refl}
use Rattle.std.specs.Bool.{MatchBool}
use Rattle.std.proofs.lemmas.Bool.{both_ways}
use Rattle.ct_entry.specs.Listed.{Listed}
use Rattle.ct_entry.specs.declared.rows.Owner.{Owner}
use Rattle.ct_entry.specs.declared.rows.Owner.TheVariants.{Compartment}
use Rattle.def_reach.specs.Route.{Neighbours}
use Rattle.ct_graph.specs.Nodes.{IsGraph, HasStep, NoStep}
use Rattle.ct_graph.proofs.Graphs.{step_joins, no_step_apart}
use Rattle.ct_graph.proofs.sharing.Graph.joins.Goals as goal

told : (e : Listed) (ns : List Owner) (steps : List (List Bool)) (all : List (List ℕ)) (a c : ℕ) (b : Bool) → IsGraph e ns steps all
    → MatchBool b (HasStep ns steps (Compartment a) (Compartment c)) (NoStep ns steps (Compartment a) (Compartment c))
    → (b ≡ true → Neighbours e (Compartment a) (Compartment c)) × (Neighbours e (Compartment a) (Compartment c) → b ≡ true)
told e ns steps all a c true g step = (λ _. step_joins e ns steps all a c g step, λ _. refl)
told e ns steps all a c false g none = (λ h. absurd (both_ways false refl h), λ n. absurd (no_step_apart e ns steps all a c g none n))

pub returns : goal.returns
returns c =
    rw (← c.self.view_is) (told _ c.self.inside.nodes.items _ _ c.args.a.0 c.args.b.0 c.has_step.result c.self.invariant (rw (c.as_slice-2.ensures.value, c.as_slice.ensures.value) at c.has_step.ensures))
