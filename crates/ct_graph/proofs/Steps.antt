-- The test of a step says that there is a step, and finds each.
use Rattle.std.proofs.Common.{◌≡◌, ◌≢◌, ℕ, zero, suc, Bool, true, false, not, ◌&&◌, Option, Some, None, refl, ap, sym, ◌∙◌, subst, inl, inr, slice_get, nat_eq, List}
use Rattle.std.specs.List.{list_any}
use Rattle.std.proofs.lemmas.Bool.{cases_Bool, and_parts, and_from, or_cases, both_ways, eqb-true, eq-eqb, not-true, or_left, or_right}
use Rattle.def_words.specs.Permissions.{bit, memory_capability}
use Rattle.ct_entry.specs.declared.rows.Entry.{Entry}
use Rattle.ct_entry.specs.declared.rows.Gate.{Gate}
use Rattle.ct_entry.specs.declared.rows.Owner.{Owner}
use Rattle.ct_entry.specs.declared.rows.Owner.TheVariants.{Trusted, Compartment, Library, Thread}
use Rattle.ct_entry.specs.declared.rows.Kind.{Kind}
use Rattle.ct_entry.specs.declared.rows.Kind.TheVariants as kind
use Rattle.ct_entry.specs.Listed.{Listed}
use Rattle.def_reach.specs.Roots.{TrustedPart, Unknown, Listing, root_of, listed_root, gate_for}
use Rattle.def_reach.specs.Sharing.{Calls, SharesC, Edge, Brings, IsLibrary}
use Rattle.def_reach.specs.Reach.{same_owner}
use Rattle.def_reach.specs.Route.{Step}
use Rattle.ct_entry.specs.Kinds.{is_call, is_shared, is_library_slot}
use Rattle.ct_graph.specs.declared.links.Link.{Link}
use Rattle.ct_graph.specs.Links.{link_of, links_of, own, calls, brings, holds, shares, meets, goes}
use Rattle.ct_graph.proofs.Owners.{same_is, same_of, any_at, at_any, any_own, FoundAt}

-- ---- kinds

is_call_is : (k : Kind) → is_call k ≡ true → k ≡ kind.Call
is_call_is kind.Call h = refl
is_call_is kind.Code h = cc
is_call_is kind.Globals h = cc
is_call_is kind.Stack h = cc
is_call_is kind.Device h = cc
is_call_is kind.Shared h = cc
is_call_is kind.Sealed h = cc
is_call_is kind.Library h = cc
is_call_is kind.Service h = cc
is_call_is kind.Quota h = cc
is_call_is kind.Key h = cc
is_call_is kind.Export h = cc

is_shared_is : (k : Kind) → is_shared k ≡ true → k ≡ kind.Shared
is_shared_is kind.Shared h = refl
is_shared_is kind.Call h = cc
is_shared_is kind.Code h = cc
is_shared_is kind.Globals h = cc
is_shared_is kind.Stack h = cc
is_shared_is kind.Device h = cc
is_shared_is kind.Sealed h = cc
is_shared_is kind.Library h = cc
is_shared_is kind.Service h = cc
is_shared_is kind.Quota h = cc
is_shared_is kind.Key h = cc
is_shared_is kind.Export h = cc

is_library_slot_is : (k : Kind) → is_library_slot k ≡ true → k ≡ kind.Library
is_library_slot_is kind.Library h = refl
is_library_slot_is kind.Call h = cc
is_library_slot_is kind.Code h = cc
is_library_slot_is kind.Globals h = cc
is_library_slot_is kind.Stack h = cc
is_library_slot_is kind.Device h = cc
is_library_slot_is kind.Shared h = cc
is_library_slot_is kind.Sealed h = cc
is_library_slot_is kind.Service h = cc
is_library_slot_is kind.Quota h = cc
is_library_slot_is kind.Key h = cc
is_library_slot_is kind.Export h = cc

-- ---- rows and their numbers

-- what a number that names an entry of a kind stands for
pub record Row (e : Listed) (n : ℕ) (k : Kind) : Type 0 where
  pub place : ℕ
  pub row : Entry
  pub at : slice_get e.rows place ≡ Some row
  pub kind_is : row.kind ≡ k
  pub owner_is : (root_of e n).owner ≡ row.owner
  pub of_is : (root_of e n).of ≡ row.of
  pub rights_are : (root_of e n).rights ≡ row.rights

pub origin_of : (r : Entry) (g : Gate) (k : Kind) → (listed_root (Some r) g).origin ≡ Listing k → r.kind ≡ k
origin_of r g k h = cc

by_row : (e : Listed) (n : ℕ) (k : Kind) (o : Option Entry) → slice_get e.rows n ≡ o → (root_of e (suc n)).origin ≡ Listing k → Row e (suc n) k
unfolding root_of
by_row e n k None at h = let here : Unknown ≡ Listing k = rw at at h in absurd (different here)
  where
    different : Unknown ≡ Listing k → ⊥
    different x = cc
by_row e n k (Some r) at h = record {
  place = n;
  row = r;
  at = at;
  kind_is = let here : (listed_root (Some r) (gate_for e.gates (suc n))).origin ≡ Listing k = rw at at h in origin_of r (gate_for e.gates (suc n)) k here;
  owner_is = rw at refl;
  of_is = rw at refl;
  rights_are = rw at refl;
}

pub row_of : (e : Listed) (n : ℕ) (k : Kind) → (root_of e n).origin ≡ Listing k → Row e n k
unfolding root_of
row_of e zero k h = absurd (different h)
  where
    different : TrustedPart ≡ Listing k → ⊥
    different x = cc
row_of e (suc n) k h = by_row e n k (slice_get e.rows n) refl h

-- the number of a row
pub record Number (e : Listed) (r : Entry) : Type 0 where
  pub number : ℕ
  pub origin_is : (root_of e number).origin ≡ Listing r.kind
  pub owner_is : (root_of e number).owner ≡ r.owner
  pub of_is : (root_of e number).of ≡ r.of
  pub rights_are : (root_of e number).rights ≡ r.rights

pub number_of : (e : Listed) (n : ℕ) (r : Entry) → slice_get e.rows n ≡ Some r → Number e r
unfolding root_of
number_of e n r at = record { number = suc n; origin_is = rw at refl; owner_is = rw at refl; of_is = rw at refl; rights_are = rw at refl }

-- ---- a link of an owner, found or made

pub record OwnRow (e : Listed) (o : Owner) (q : Link → Bool) : Type 0 where
  pub row : Entry
  pub number : Number e row
  pub owner_is : row.owner ≡ o
  pub passes : q (link_of e row) ≡ true

pub own_found : (e : Listed) (o : Owner) (q : Link → Bool) → list_any q (own (links_of e) o) ≡ true → OwnRow e o q
own_found e o q h =
    let found : FoundAt (λ (r : Entry). same_owner r.owner o && q (link_of e r)) e.rows = at_any (λ (r : Entry). same_owner r.owner o && q (link_of e r)) e.rows (sym (any_own e e.rows q o) ∙ h) in
    let both : (same_owner found.element.owner o ≡ true) × (q (link_of e found.element) ≡ true) = and_parts _ _ found.passes in
    record { row = found.element; number = number_of e found.place found.element found.at; owner_is = same_is found.element.owner o both.0; passes = both.1 }

pub own_made : (e : Listed) (o : Owner) (q : Link → Bool) (k : ℕ) (r : Entry) → slice_get e.rows k ≡ Some r → r.owner ≡ o → q (link_of e r) ≡ true → list_any q (own (links_of e) o) ≡ true
own_made e o q k r at owner passes =
    any_own e e.rows q o ∙ any_at (λ (s : Entry). same_owner s.owner o && q (link_of e s)) e.rows k r at (and_from _ _ (same_of r.owner o owner) passes)

-- ---- imports

pub brings_found : (e : Listed) (a b : Owner) → IsLibrary a → list_any (brings a) (own (links_of e) b) ≡ true → Brings e b a
brings_found e a b lib h =
    let found : OwnRow e b (brings a) = own_found e b (brings a) h in
    let both : (is_library_slot found.row.kind ≡ true) × (same_owner (root_of e found.row.of).owner a ≡ true) = and_parts _ _ found.passes in
    record {
      is_library = lib;
      import = found.number.number;
      kind_is = found.number.origin_is ∙ ap (λ k. Listing k) (is_library_slot_is found.row.kind both.0);
      importer = found.number.owner_is ∙ found.owner_is;
      library_is = ap (λ n. (root_of e n).owner) found.number.of_is ∙ same_is (root_of e found.row.of).owner a both.1;
    }

pub brings_made : (e : Listed) (a b : Owner) → Brings e b a → list_any (brings a) (own (links_of e) b) ≡ true
brings_made e a b h =
    let r : Row e h.import kind.Library = row_of e h.import kind.Library h.kind_is in
    let slot : is_library_slot r.row.kind ≡ true = rw r.kind_is refl in
    let target : same_owner (root_of e r.row.of).owner a ≡ true = same_of (root_of e r.row.of).owner a (ap (λ n. (root_of e n).owner) (sym r.of_is) ∙ h.library_is) in
    own_made e b (brings a) r.place r.row r.at (sym r.owner_is ∙ h.importer) (and_from _ _ slot target)

-- ---- edges

pub calls_found : (e : Listed) (a b : ℕ) → list_any (calls (Compartment b)) (own (links_of e) (Compartment a)) ≡ true → Calls e a b
calls_found e a b h =
    let found : OwnRow e (Compartment a) (calls (Compartment b)) = own_found e (Compartment a) (calls (Compartment b)) h in
    let both : (is_call found.row.kind ≡ true) × ((same_owner (root_of e found.row.of).owner (Compartment b) && (root_of e found.row.of).passes) ≡ true) = and_parts _ _ found.passes in
    let rest : (same_owner (root_of e found.row.of).owner (Compartment b) ≡ true) × ((root_of e found.row.of).passes ≡ true) = and_parts _ _ both.1 in
    record {
      import = found.number.number;
      kind_is = found.number.origin_is ∙ ap (λ k. Listing k) (is_call_is found.row.kind both.0);
      caller = found.number.owner_is ∙ found.owner_is;
      callee = ap (λ n. (root_of e n).owner) found.number.of_is ∙ same_is (root_of e found.row.of).owner (Compartment b) rest.0;
      passes = ap (λ n. (root_of e n).passes) found.number.of_is ∙ rest.1;
    }

pub calls_made : (e : Listed) (a b : ℕ) → Calls e a b → list_any (calls (Compartment b)) (own (links_of e) (Compartment a)) ≡ true
calls_made e a b h =
    let r : Row e h.import kind.Call = row_of e h.import kind.Call h.kind_is in
    let slot : is_call r.row.kind ≡ true = rw r.kind_is refl in
    let target : same_owner (root_of e r.row.of).owner (Compartment b) ≡ true = same_of (root_of e r.row.of).owner (Compartment b) (ap (λ n. (root_of e n).owner) (sym r.of_is) ∙ h.callee) in
    let passes : (root_of e r.row.of).passes ≡ true = ap (λ n. (root_of e n).passes) (sym r.of_is) ∙ h.passes in
    own_made e (Compartment a) (calls (Compartment b)) r.place r.row r.at (sym r.owner_is ∙ h.caller) (and_from _ _ slot (and_from _ _ target passes))

-- the number of a shared object that an owner holds with letter C
pub holds_found : (e : Listed) (b object : ℕ) → list_any (holds object) (own (links_of e) (Compartment b)) ≡ true → SharesC e object b
holds_found e b object h =
    let found : OwnRow e (Compartment b) (holds object) = own_found e (Compartment b) (holds object) h in
    let both : ((is_shared found.row.kind && bit found.row.rights memory_capability) ≡ true) × (nat_eq found.row.of object ≡ true) = and_parts _ _ found.passes in
    let rest : (is_shared found.row.kind ≡ true) × (bit found.row.rights memory_capability ≡ true) = and_parts _ _ both.0 in
    record {
      import = found.number.number;
      kind_is = found.number.origin_is ∙ ap (λ k. Listing k) (is_shared_is found.row.kind rest.0);
      importer = found.number.owner_is ∙ found.owner_is;
      object_is = found.number.of_is ∙ eqb-true found.row.of object both.1;
      capabilities = ap (λ n. bit n memory_capability) found.number.rights_are ∙ rest.1;
    }

pub holds_made : (e : Listed) (b object : ℕ) → SharesC e object b → list_any (holds object) (own (links_of e) (Compartment b)) ≡ true
holds_made e b object h =
    let r : Row e h.import kind.Shared = row_of e h.import kind.Shared h.kind_is in
    let slot : is_shared r.row.kind ≡ true = rw r.kind_is refl in
    let carries : bit r.row.rights memory_capability ≡ true = ap (λ n. bit n memory_capability) (sym r.rights_are) ∙ h.capabilities in
    own_made e (Compartment b) (holds object) r.place r.row r.at (sym r.owner_is ∙ h.importer)
    (and_from _ _ (and_from _ _ slot carries) (eq-eqb r.row.of object (sym r.of_is ∙ h.object_is)))

pub shares_found : (e : Listed) (a b : ℕ) → list_any (shares (own (links_of e) (Compartment b))) (own (links_of e) (Compartment a)) ≡ true → (object : ℕ) × SharesC e object a × SharesC e object b
shares_found e a b h =
    let found : OwnRow e (Compartment a) (shares (own (links_of e) (Compartment b))) = own_found e (Compartment a) (shares (own (links_of e) (Compartment b))) h in
    let both : ((is_shared found.row.kind && bit found.row.rights memory_capability) ≡ true) × (list_any (holds found.row.of) (own (links_of e) (Compartment b)) ≡ true) = and_parts _ _ found.passes in
    let rest : (is_shared found.row.kind ≡ true) × (bit found.row.rights memory_capability ≡ true) = and_parts _ _ both.0 in (
      found.row.of,
      record {
        import = found.number.number;
        kind_is = found.number.origin_is ∙ ap (λ k. Listing k) (is_shared_is found.row.kind rest.0);
        importer = found.number.owner_is ∙ found.owner_is;
        object_is = found.number.of_is;
        capabilities = ap (λ n. bit n memory_capability) found.number.rights_are ∙ rest.1;
      },
      holds_found e b found.row.of both.1,
    )

pub shares_made : (e : Listed) (a b object : ℕ) → SharesC e object a → SharesC e object b → list_any (shares (own (links_of e) (Compartment b))) (own (links_of e) (Compartment a)) ≡ true
shares_made e a b object ha hb =
    let r : Row e ha.import kind.Shared = row_of e ha.import kind.Shared ha.kind_is in
    let slot : is_shared r.row.kind ≡ true = rw r.kind_is refl in
    let carries : bit r.row.rights memory_capability ≡ true = ap (λ n. bit n memory_capability) (sym r.rights_are) ∙ ha.capabilities in
    let of_is : r.row.of ≡ object = sym r.of_is ∙ ha.object_is in
    let other : list_any (holds r.row.of) (own (links_of e) (Compartment b)) ≡ true = subst (λ n. list_any (holds n) (own (links_of e) (Compartment b)) ≡ true) (sym of_is) (holds_made e b object hb) in
    own_made e (Compartment a) (shares (own (links_of e) (Compartment b))) r.place r.row r.at (sym r.owner_is ∙ ha.importer) (and_from _ _ (and_from _ _ slot carries) other)

shared_back : (ls ms : List Link) → list_any (shares ms) ls ≡ true → list_any (shares ls) ms ≡ true
shared_back ls ms h =
    let l : FoundAt (shares ms) ls = at_any (shares ms) ls h in
    let l_is : ((is_shared l.element.kind && l.element.carries) ≡ true) × (list_any (holds l.element.of) ms ≡ true) = and_parts _ _ l.passes in
    let m : FoundAt (holds l.element.of) ms = at_any (holds l.element.of) ms l_is.1 in
    let m_is : ((is_shared m.element.kind && m.element.carries) ≡ true) × (nat_eq m.element.of l.element.of ≡ true) = and_parts _ _ m.passes in
    let back : list_any (holds m.element.of) ls ≡ true =
    any_at (holds m.element.of) ls l.place l.element l.at (and_from _ _ l_is.0 (eq-eqb l.element.of m.element.of (sym (eqb-true m.element.of l.element.of m_is.1)))) in
    any_at (shares ls) ms m.place m.element m.at (and_from _ _ m_is.0 back)

-- two owners share an object from either side
pub shared_both_ways : (ls ms : List Link) → list_any (shares ms) ls ≡ list_any (shares ls) ms
shared_both_ways ls ms = elim (cases_Bool (list_any (shares ms) ls)) [
  | inl t ↦ t ∙ sym (shared_back ls ms t)
  | inr f ↦ elim (cases_Bool (list_any (shares ls) ms)) [
    | inl t ↦ absurd (both_ways _ f (shared_back ms ls t))
    | inr g ↦ f ∙ sym g
  ]
]

pub meets_found : (e : Listed) (a b : ℕ) → meets (Compartment a) (own (links_of e) (Compartment a)) (Compartment b) (own (links_of e) (Compartment b)) ≡ true → Edge e a b
meets_found e a b h = elim (or_cases _ _ h) [
  | inl c ↦ inl (calls_found e a b c)
  | inr r ↦ elim (or_cases _ _ r) [
    | inl c ↦ inr (inl (calls_found e b a c))
    | inr s ↦ inr (inr (shares_found e a b s))
  ]
]

pub meets_made : (e : Listed) (a b : ℕ) → Edge e a b → meets (Compartment a) (own (links_of e) (Compartment a)) (Compartment b) (own (links_of e) (Compartment b)) ≡ true
meets_made e a b (inl c) = or_left _ _ (calls_made e a b c)
meets_made e a b (inr (inl c)) = or_right _ _ (or_left _ _ (calls_made e b a c))
meets_made e a b (inr (inr (object, x, y))) = or_right _ _ (or_right _ _ (shares_made e a b object x y))

-- ---- steps

pub step_found : (e : Listed) (a b : Owner) → goes e a b ≡ true → Step e a b
step_found e (Library l) b h = elim (or_cases _ _ h) [
  | inl c ↦ inl (brings_found e (Library l) b tt c)
  | inr c ↦ absurd (both_ways false refl c)
]
step_found e (Compartment a) (Compartment b) h =
    let both : (not (nat_eq a b) ≡ true) × (meets (Compartment a) (own (links_of e) (Compartment a)) (Compartment b) (own (links_of e) (Compartment b)) ≡ true) = and_parts _ _ h in
    inr ((λ same. both_ways (nat_eq a b) (not-true (nat_eq a b) both.0) (eq-eqb a b same)), meets_found e a b both.1)
step_found e (Compartment a) (Library b) h = absurd (both_ways false refl h)
step_found e (Compartment a) Trusted h = absurd (both_ways false refl h)
step_found e (Compartment a) (Thread b) h = absurd (both_ways false refl h)
step_found e Trusted b h = absurd (both_ways false refl h)
step_found e (Thread t) b h = absurd (both_ways false refl h)

pub step_made : (e : Listed) (a b : Owner) → Step e a b → goes e a b ≡ true
step_made e (Library l) b (inl h) = or_left _ _ (brings_made e (Library l) b h)
step_made e (Compartment a) b (inl h) = absurd h.is_library
step_made e Trusted b (inl h) = absurd h.is_library
step_made e (Thread t) b (inl h) = absurd h.is_library
step_made e (Compartment a) (Compartment b) (inr h) = and_from _ _ (rw (differ a b h.0) refl) (meets_made e a b h.1)
  where
    differ : (x y : ℕ) → x ≢ y → nat_eq x y ≡ false
    differ x y n = elim (cases_Bool (nat_eq x y)) [ inl t ↦ absurd (n (eqb-true x y t)) | inr f ↦ f ]
step_made e (Compartment a) (Library b) (inr h) = absurd h
step_made e (Compartment a) Trusted (inr h) = absurd h
step_made e (Compartment a) (Thread b) (inr h) = absurd h
step_made e (Library l) b (inr h) = absurd h
step_made e Trusted b (inr h) = absurd h
step_made e (Thread t) b (inr h) = absurd h
