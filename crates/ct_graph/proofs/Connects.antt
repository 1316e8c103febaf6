-- An owner reaches a compartment exactly where a list of steps leads there.
use Rattle.std.proofs.Common.{◌≡◌, ℕ, List, [], ◌∷◌, ◌++◌, refl, ap, sym, subst, inl, inr}
use Rattle.std.proofs.lemmas.Bool.{cases_eq}
use Rattle.ct_entry.specs.declared.rows.Owner.{Owner}
use Rattle.ct_entry.specs.declared.rows.Owner.TheVariants.{Trusted, Compartment, Library, Thread}
use Rattle.ct_entry.specs.Listed.{Listed}
use Rattle.def_reach.specs.Sharing.{Joined, Imports, Reaches}
use Rattle.def_reach.specs.Sharing as reach
use Rattle.def_reach.specs.Route.{IsWay}
use Rattle.law_reach.proofs.Joins.{no_imports, same_compartment, imports_on}

-- a list of steps
pub record Way (e : Listed) (o : Owner) (b : ℕ) : Type 0 where
  pub members : List Owner
  pub leads : IsWay e o members (Compartment b)

-- an edge from a compartment to itself is no step; it is left out
along_edges : (e : Listed) (a : ℕ) (xs : List ℕ) (b : ℕ) → reach.IsEdgeList e a xs b → Way e (Compartment a) b
along_edges e a [] b h = record { members = []; leads = ap (λ n. Compartment n) h }
along_edges e a (x ∷ xs) b h =
    let rest : Way e (Compartment x) b = along_edges e x xs b h.1 in
    elim (cases_eq a x) [
      | inl same ↦ subst (λ n. Way e (Compartment n) b) (sym same) rest
      | inr other ↦ record { members = Compartment x ∷ rest.members; leads = (inr (other, h.0), rest.leads) }
    ]

-- from an importer's way to the library's
against_imports : (e : Listed) (a : Owner) (xs : List Owner) (o : Owner) (b : ℕ) → Imports e a xs o → Way e a b → Way e o b
against_imports e a [] o b h way = subst (λ x. Way e x b) h way
against_imports e a (x ∷ xs) o b h way = against_imports e x xs o b h.1 (record { members = a ∷ way.members; leads = (inl h.0, way.leads) })

pub way_of : (e : Listed) (o : Owner) (b : ℕ) → Reaches e o b → Way e o b
way_of e o b h = against_imports e (Compartment h.by) h.through o b h.imports (along_edges e h.by h.joined.members b h.joined.leads)

-- ---- back

back : (e : Listed) (o : Owner) (xs : List Owner) (b : ℕ) → IsWay e o xs (Compartment b) → Reaches e o b
back e o [] b h = record { by = b; through = []; imports = sym h; joined = record { members = []; leads = refl } }
back e (Library l) (x ∷ xs) b (inl step, rest) =
    let later : Reaches e x b = back e x xs b rest in
    record { by = later.by; through = later.through ++ Library l ∷ []; imports = imports_on e (Compartment later.by) later.through x (Library l) later.imports step; joined = later.joined }
back e (Compartment a) (Compartment x ∷ xs) b (inr step, rest) =
    let later : Reaches e (Compartment x) b = back e (Compartment x) xs b rest in
    let same : later.by ≡ x = same_compartment later.by x (no_imports e (Compartment later.by) later.through x later.imports) in
    let joined : Joined e x b = subst (λ n. Joined e n b) same later.joined in
    record { by = a; through = []; imports = refl; joined = record { members = x ∷ joined.members; leads = (step.1, joined.leads) } }
back e (Compartment a) (x ∷ xs) b (inl step, rest) = absurd step.is_library
back e Trusted (x ∷ xs) b (inl step, rest) = absurd step.is_library
back e (Thread t) (x ∷ xs) b (inl step, rest) = absurd step.is_library
back e (Library l) (x ∷ xs) b (inr step, rest) = absurd step
back e Trusted (x ∷ xs) b (inr step, rest) = absurd step
back e (Thread t) (x ∷ xs) b (inr step, rest) = absurd step
back e (Compartment a) (Library x ∷ xs) b (inr step, rest) = absurd step
back e (Compartment a) (Trusted ∷ xs) b (inr step, rest) = absurd step
back e (Compartment a) (Thread x ∷ xs) b (inr step, rest) = absurd step

pub reaches_by : (e : Listed) (o : Owner) (b : ℕ) → Way e o b → Reaches e o b
reaches_by e o b way = back e o way.members b way.leads
