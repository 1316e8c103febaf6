-- Lists of edges turned round and put together.
use Rattle.std.proofs.Common.{◌≡◌, ℕ, List, [], ◌∷◌, ◌++◌, refl, sym, subst, inl, inr}
use Rattle.ct_entry.specs.declared.rows.Owner.{Owner}
use Rattle.ct_entry.specs.declared.rows.Owner.TheVariants.{Trusted, Compartment, Library, Thread}
use Rattle.ct_entry.specs.Listed.{Listed}
use Rattle.def_reach.specs.Sharing.{Brings, Edge, IsEdgeList, Joined, Imports, IsLibrary, Reaches}
use Rattle.def_reach.specs.Laws.{IsReflexive, IsSymmetric, IsTransitive, ReachesComponents}

pub edge_back : (e : Listed) (a b : ℕ) → Edge e a b → Edge e b a
edge_back e a b (inl c) = inr (inl c)
edge_back e a b (inr (inl c)) = inl c
edge_back e a b (inr (inr (object, x, y))) = inr (inr (object, y, x))

leads_on : (e : Listed) (a : ℕ) (xs : List ℕ) (b : ℕ) (ys : List ℕ) (c : ℕ) → IsEdgeList e a xs b → IsEdgeList e b ys c → IsEdgeList e a (xs ++ ys) c
leads_on e a [] b ys c x y = subst (λ n. IsEdgeList e n ys c) (sym x) y
leads_on e a (x ∷ xs) b ys c h y = (h.0, leads_on e x xs b ys c h.1 y)

pub joined_refl : (e : Listed) (a : ℕ) → Joined e a a
joined_refl e a = record { members = []; leads = refl }

pub joined_is : (e : Listed) (a b : ℕ) → a ≡ b → Joined e a b
joined_is e a b h = record { members = []; leads = h }

pub joined_edge : (e : Listed) (a b : ℕ) → Edge e a b → Joined e a b
joined_edge e a b h = record { members = b ∷ []; leads = (h, refl) }

pub joined_trans : (e : Listed) (a b c : ℕ) → Joined e a b → Joined e b c → Joined e a c
joined_trans e a b c x y = record { members = x.members ++ y.members; leads = leads_on e a x.members b y.members c x.leads y.leads }

leads_back : (e : Listed) (a : ℕ) (xs : List ℕ) (b : ℕ) → IsEdgeList e a xs b → Joined e b a
leads_back e a [] b h = joined_is e b a (sym h)
leads_back e a (x ∷ xs) b h = joined_trans e b x a (leads_back e x xs b h.1) (joined_edge e x a (edge_back e a x h.0))

pub joined_sym : (e : Listed) (a b : ℕ) → Joined e a b → Joined e b a
joined_sym e a b h = leads_back e a h.members b h.leads

-- a list of imports that ends in a compartment is empty
pub no_imports : (e : Listed) (a : Owner) (xs : List Owner) (c : ℕ) → Imports e a xs (Compartment c) → a ≡ Compartment c
no_imports e a [] c h = h
no_imports e a (x ∷ xs) c h =
    let last : x ≡ Compartment c = no_imports e x xs c h.1 in
    let lib : IsLibrary (Compartment c) = subst IsLibrary last h.0.is_library in absurd lib

-- imports go on from where they led
pub imports_on : (e : Listed) (a : Owner) (xs : List Owner) (o p : Owner) → Imports e a xs o → Brings e o p → Imports e a (xs ++ p ∷ []) p
imports_on e a [] o p h brings = (subst (λ x. Brings e x p) (sym h) brings, refl)
imports_on e a (x ∷ xs) o p h brings = (h.0, imports_on e x xs o p h.1 brings)

pub same_compartment : (a b : ℕ) → Compartment a ≡ Compartment b → a ≡ b
same_compartment a b h = cc

-- a compartment reaches what it is joined to, and nothing else
pub own_joined : (e : Listed) (a b : ℕ) → Reaches e (Compartment a) b → Joined e a b
own_joined e a b h = subst (λ n. Joined e n b) (same_compartment h.by a (no_imports e (Compartment h.by) h.through a h.imports)) h.joined

pub reaches_own : (e : Listed) (a b : ℕ) → Joined e a b → Reaches e (Compartment a) b
reaches_own e a b h = record { by = a; through = []; imports = refl; joined = h }

-- what an owner reaches goes along the edges
pub reaches_on : (e : Listed) (o : Owner) (a b : ℕ) → Reaches e o a → Joined e a b → Reaches e o b
reaches_on e o a b r j = record { by = r.by; through = r.through; imports = r.imports; joined = joined_trans e r.by a b r.joined j }

pub reflexive : (e : Listed) → IsReflexive e
reflexive e a h = (h, h, reaches_own e a a (joined_refl e a))

pub symmetric : (e : Listed) → IsSymmetric e
symmetric e a b r = (r.1, r.0, reaches_own e b a (joined_sym e a b (own_joined e a b r.2)))

pub transitive : (e : Listed) → IsTransitive e
transitive e a b c x y = (x.0, y.1, reaches_own e a c (joined_trans e a b c (own_joined e a b x.2) (own_joined e b c y.2)))

pub components : (e : Listed) → ReachesComponents e
components e Trusted a b x y = y.1
components e (Compartment n) a b x y = (x.0, y.1, reaches_on e (Compartment n) a b x.2 (own_joined e a b y.2))
components e (Library l) a b x y = (x.0, y.1, reaches_on e (Library l) a b x.2 (own_joined e a b y.2))
components e (Thread t) a b x y = absurd x
