-- Owners compared and ordered, and what a test finds among the rows.
use Rattle.std.proofs.Common.{◌≡◌, ℕ, zero, suc, Bool, true, false, cond, ◌&&◌, ◌||◌, List, [], ◌∷◌, map, Some, refl, ap, arith, inl, inr, slice_get, nat_lt}
use Rattle.std.specs.List.{list_any}
use Rattle.std.proofs.lemmas.Bool.{cases_order, or_cases, both_ways, eqb-true, eq-eqb, ltb-true, lt-ltb}
use Rattle.ct_entry.specs.declared.rows.Entry.{Entry}
use Rattle.ct_entry.specs.declared.rows.Owner.{Owner}
use Rattle.ct_entry.specs.declared.rows.Owner.TheVariants.{Trusted, Compartment, Library, Thread}
use Rattle.ct_entry.specs.Listed.{Listed}
use Rattle.def_reach.specs.Reach.{same_owner}
use Rattle.def_reach.specs.Route.{precedes}
use Rattle.ct_graph.specs.declared.links.Link.{Link}
use Rattle.ct_graph.specs.Links.{link_of, own}
use Rattle.ct_graph.specs.Nodes.{is_node}

pub same_is : (a b : Owner) → same_owner a b ≡ true → a ≡ b
same_is Trusted Trusted h = refl
same_is (Compartment a) (Compartment b) h = ap (λ n. Compartment n) (eqb-true a b h)
same_is (Library a) (Library b) h = ap (λ n. Library n) (eqb-true a b h)
same_is (Thread a) (Thread b) h = ap (λ n. Thread n) (eqb-true a b h)
same_is Trusted (Compartment b) h = cc
same_is Trusted (Library b) h = cc
same_is Trusted (Thread b) h = cc
same_is (Compartment a) Trusted h = cc
same_is (Compartment a) (Library b) h = cc
same_is (Compartment a) (Thread b) h = cc
same_is (Library a) Trusted h = cc
same_is (Library a) (Compartment b) h = cc
same_is (Library a) (Thread b) h = cc
same_is (Thread a) Trusted h = cc
same_is (Thread a) (Compartment b) h = cc
same_is (Thread a) (Library b) h = cc

pub same_self : (a : Owner) → same_owner a a ≡ true
same_self Trusted = refl
same_self (Compartment a) = eq-eqb a a refl
same_self (Library a) = eq-eqb a a refl
same_self (Thread a) = eq-eqb a a refl

pub same_of : (a b : Owner) → a ≡ b → same_owner a b ≡ true
same_of a b e = rw e (same_self b)

-- ---- tests over lists

pub any_at : {A : Type 0} (p : A → Bool) (xs : List A) (k : ℕ) (x : A) → slice_get xs k ≡ Some x → p x ≡ true → list_any p xs ≡ true
any_at p [] k x at h = cc
any_at p (y ∷ ys) zero x at h = let same : y ≡ x = cc in rw (same, h) refl
any_at p (y ∷ ys) (suc k) x at h = rw (any_at p ys k x at h) (or_true (p y))
  where
    or_true : (b : Bool) → (b || true) ≡ true
    or_true true = refl
    or_true false = refl

pub record FoundAt {A : Type 0} (p : A → Bool) (xs : List A) : Type 0 where
  pub place : ℕ
  pub element : A
  pub at : slice_get xs place ≡ Some element
  pub passes : p element ≡ true

pub at_any : {A : Type 0} (p : A → Bool) (xs : List A) → list_any p xs ≡ true → FoundAt p xs
at_any p [] h = absurd (both_ways false refl h)
at_any p (x ∷ xs) h = elim (or_cases (p x) (list_any p xs) h) [
  | inl here ↦ record { place = 0; element = x; at = refl; passes = here }
  | inr later ↦ let found : FoundAt p xs = at_any p xs later in record { place = suc found.place; element = found.element; at = found.at; passes = found.passes }
]

-- among an owner's links stands what is tested of its rows
pub any_own : (e : Listed) (rows : List Entry) (q : Link → Bool) (o : Owner) → list_any q (own (map (link_of e) rows) o) ≡ list_any (λ (r : Entry). same_owner r.owner o && q (link_of e r)) rows
any_own e [] q o = refl
any_own e (r ∷ rows) q o = by_case (same_owner r.owner o) (any_own e rows q o)
  where
    by_case : (b : Bool) → list_any q (own (map (link_of e) rows) o) ≡ list_any (λ (s : Entry). same_owner s.owner o && q (link_of e s)) rows
        → list_any q (cond b (link_of e r ∷ own (map (link_of e) rows) o) (own (map (link_of e) rows) o)) ≡ ((b && q (link_of e r)) || list_any (λ (s : Entry). same_owner s.owner o && q (link_of e s)) rows)
    by_case true h = ap (λ t. q (link_of e r) || t) h
    by_case false h = h

-- ---- order

pub precedes_trans : (a b c : Owner) → precedes a b ≡ true → precedes b c ≡ true → precedes a c ≡ true
precedes_trans (Compartment a) (Compartment b) (Compartment c) x y = lt-ltb a c (omega (arith, ltb-true a b x, ltb-true b c y))
precedes_trans (Compartment a) (Compartment b) (Library c) x y = refl
precedes_trans (Compartment a) (Library b) (Library c) x y = refl
precedes_trans (Library a) (Library b) (Library c) x y = lt-ltb a c (omega (arith, ltb-true a b x, ltb-true b c y))
precedes_trans (Library a) (Library b) (Compartment c) x y = cc
precedes_trans (Library a) (Library b) Trusted x y = cc
precedes_trans (Library a) (Library b) (Thread c) x y = cc
precedes_trans (Compartment a) (Library b) (Compartment c) x y = cc
precedes_trans (Compartment a) (Library b) Trusted x y = cc
precedes_trans (Compartment a) (Library b) (Thread c) x y = cc
precedes_trans (Compartment a) (Compartment b) Trusted x y = cc
precedes_trans (Compartment a) (Compartment b) (Thread c) x y = cc
precedes_trans Trusted b c x y = cc
precedes_trans (Thread a) b c x y = cc
precedes_trans (Compartment a) Trusted c x y = cc
precedes_trans (Compartment a) (Thread b) c x y = cc
precedes_trans (Library a) Trusted c x y = cc
precedes_trans (Library a) (Thread b) c x y = cc
precedes_trans (Library a) (Compartment b) c x y = cc

-- two nodes are the same, or one precedes the other
pub one_first : (a b : Owner) → is_node a ≡ true → is_node b ≡ true → precedes a b ≡ false → same_owner a b ≡ false → precedes b a ≡ true
one_first (Compartment a) (Compartment b) x y before same = lt-ltb b a (elim (cases_order a b) [
  | inl e ↦ absurd (both_ways (same_owner (Compartment a) (Compartment b)) same (eq-eqb a b e))
  | inr (inl lt) ↦ absurd (both_ways (nat_lt a b) before (lt-ltb a b lt))
  | inr (inr gt) ↦ gt
])
one_first (Compartment a) (Library b) x y before same = cc
one_first (Library a) (Compartment b) x y before same = refl
one_first (Library a) (Library b) x y before same = lt-ltb b a (elim (cases_order a b) [
  | inl e ↦ absurd (both_ways (same_owner (Library a) (Library b)) same (eq-eqb a b e))
  | inr (inl lt) ↦ absurd (both_ways (nat_lt a b) before (lt-ltb a b lt))
  | inr (inr gt) ↦ gt
])
one_first Trusted b x y before same = cc
one_first (Thread a) b x y before same = cc
one_first (Compartment a) Trusted x y before same = cc
one_first (Compartment a) (Thread b) x y before same = cc
one_first (Library a) Trusted x y before same = cc
one_first (Library a) (Thread b) x y before same = cc
