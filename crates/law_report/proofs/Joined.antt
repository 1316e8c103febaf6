-- The report's test of neighbours is exact: it is the graph's test of a step.
use Rattle.std.proofs.Common.{ℕ, ◌≡◌, Bool, true, false, ◌&&◌, ◌||◌, not, List, [], ◌∷◌, refl, sym, ap, ◌∙◌, inl, inr, nat_eq}
use Rattle.std.specs.List.{list_any}
use Rattle.std.proofs.lemmas.Bool.{cases_Bool, both_ways}
use Rattle.ct_entry.specs.declared.rows.Entry.{Entry}
use Rattle.ct_entry.specs.declared.rows.Owner.TheVariants.{Compartment}
use Rattle.ct_entry.specs.Listed.{Listed}
use Rattle.def_reach.specs.Route.{Neighbours}
use Rattle.ct_graph.specs.Links.{link_of, links_of, own, goes, calls as link_calls, holds as link_holds, shares as link_shares}
use Rattle.ct_graph.proofs.Owners.{any_own}
use Rattle.ct_graph.proofs.Steps.{step_found, step_made}
use Rattle.ct_graph.proofs.Graphs.{neighbours_of}
use Rattle.def_report.specs.Edges.{is_owned_by, carries, calls, holds_object, share, are_joined}

any_same : {A : Type 0} (p q : A → Bool) (xs : List A) → ((x : A) → p x ≡ q x) → list_any p xs ≡ list_any q xs
any_same p q [] same = refl
any_same p q (x ∷ xs) same = let here = same x in let rest = any_same p q xs same in rw (here, rest) refl

calls_same : (e : Listed) (a b : ℕ) → calls e a b ≡ list_any (link_calls (Compartment b)) (own (links_of e) (Compartment a))
calls_same e a b = sym (any_own e e.rows (link_calls (Compartment b)) (Compartment a))

holds_same : (e : Listed) (b object : ℕ) → holds_object e b object ≡ list_any (link_holds object) (own (links_of e) (Compartment b))
holds_same e b object = sym (any_own e e.rows (link_holds object) (Compartment b))

share_same : (e : Listed) (a b : ℕ) → share e a b ≡ list_any (link_shares (own (links_of e) (Compartment b))) (own (links_of e) (Compartment a))
share_same e a b =
    let ms = own (links_of e) (Compartment b) in
    any_same (λ (r : Entry). is_owned_by a r && (carries r && holds_object e b r.of)) (λ (r : Entry). is_owned_by a r && link_shares ms (link_of e r)) e.rows
    (λ r. ap (λ t. is_owned_by a r && (carries r && t)) (holds_same e b r.of))
    ∙ sym (any_own e e.rows (link_shares ms) (Compartment a))

joined_goes : (e : Listed) (a b : ℕ) → are_joined e a b ≡ goes e (Compartment a) (Compartment b)
unfolding are_joined
joined_goes e a b =
    let here : Bool = list_any (link_calls (Compartment b)) (own (links_of e) (Compartment a)) in
    let there : Bool = list_any (link_calls (Compartment a)) (own (links_of e) (Compartment b)) in
    ap (λ t. not (nat_eq a b) && (t || (calls e b a || share e a b))) (calls_same e a b)
    ∙ ap (λ t. not (nat_eq a b) && (here || (t || share e a b))) (calls_same e b a)
    ∙ ap (λ t. not (nat_eq a b) && (here || (there || t))) (share_same e a b)

-- where the report's test of two compartments is true, an edge of the sharing graph joins them
pub joined_found : (e : Listed) (a b : ℕ) → are_joined e a b ≡ true → Neighbours e (Compartment a) (Compartment b)
joined_found e a b h = neighbours_of e a b (step_found e (Compartment a) (Compartment b) (sym (joined_goes e a b) ∙ h))

-- and where an edge joins them it is true
pub joined_made : (e : Listed) (a b : ℕ) → Neighbours e (Compartment a) (Compartment b) → are_joined e a b ≡ true
joined_made e a b n = joined_goes e a b ∙ step_made e (Compartment a) (Compartment b) (inr n)

-- what answers true exactly at neighbours answers as the test does
pub tested : (r : Bool) (e : Listed) (a b : ℕ) → (r ≡ true → Neighbours e (Compartment a) (Compartment b)) × (Neighbours e (Compartment a) (Compartment b) → r ≡ true) → r ≡ are_joined e a b
tested true e a b h = sym (joined_made e a b (h.0 refl))
tested false e a b h = elim (cases_Bool (are_joined e a b)) [
  | inl is ↦ absurd (both_ways false refl (h.1 (joined_found e a b is)))
  | inr other ↦ sym other
]
