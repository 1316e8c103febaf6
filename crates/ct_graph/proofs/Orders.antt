-- The nodes are in order, each once, and they are exactly the owners of rows.
use Rattle.std.proofs.Common.{◌≡◌, ℕ, zero, suc, ◌<◌, Bool, true, false, ◌||◌, List, [], ◌∷◌, map, length, refl, ap, sym, ◌∙◌, subst, arith, inl, inr}
use Rattle.std.specs.List.{list_any}
use Rattle.std.proofs.lemmas.Bool.{cases_Bool, or_cases, both_ways, cases_order, ltb-true}
use Rattle.ct_entry.specs.declared.rows.Entry.{Entry}
use Rattle.ct_entry.specs.declared.rows.Owner.{Owner}
use Rattle.ct_entry.specs.declared.rows.Owner.TheVariants.{Trusted, Compartment, Library, Thread}
use Rattle.ct_entry.specs.Listed.{Listed}
use Rattle.def_reach.specs.Reach.{same_owner, has_entry}
use Rattle.def_reach.specs.Route.{precedes}
use Rattle.ct_graph.specs.declared.links.Link.{Link}
use Rattle.ct_graph.specs.Links.{link_of, links_of}
use Rattle.ct_graph.specs.Nodes.{is_node, with_node, nodes_of, node, IsNode}
use Rattle.ct_graph.proofs.Owners.{same_is, same_self, precedes_trans, one_first}

-- each of the nodes comes after o
abbrev pub After : Owner → List Owner → Type 0
After o [] = Unit {0}
After o (n ∷ ns) = (precedes o n ≡ true) × After o ns

abbrev pub Ordered : List Owner → Type 0
Ordered [] = Unit {0}
Ordered (n ∷ ns) = (is_node n ≡ true) × After n ns × Ordered ns

after_all : (o n : Owner) (ns : List Owner) → precedes o n ≡ true → After n ns → After o ns
after_all o n [] h after = tt
after_all o n (m ∷ ns) h after = (precedes_trans o n m h after.0, after_all o n ns h after.1)

after_with : (o p : Owner) (ns : List Owner) → precedes o p ≡ true → After o ns → After o (with_node p ns)
after_with o p [] h after = (h, tt)
after_with o p (n ∷ ns) h after = elim (cases_Bool (precedes n p)) [
  | inl t ↦ rw t (after.0, after_with o p ns h after.1)
  | inr f ↦ elim (cases_Bool (same_owner n p)) [
    | inl same ↦ rw (f, same) after
    | inr other ↦ rw (f, other) (h, after)
  ]
]

pub ordered_with : (o : Owner) (ns : List Owner) → is_node o ≡ true → Ordered ns → Ordered (with_node o ns)
ordered_with o [] h ordered = (h, tt, tt)
ordered_with o (n ∷ ns) h ordered = elim (cases_Bool (precedes n o)) [
  | inl t ↦ rw t (ordered.0, after_with n o ns t ordered.1, ordered_with o ns h ordered.2)
  | inr f ↦ elim (cases_Bool (same_owner n o)) [
    | inl same ↦ rw (f, same) ordered
    | inr other ↦
        let first : precedes o n ≡ true = one_first n o ordered.0 h f other in
        rw (f, other) (h, (first, after_all o n ns first ordered.1), ordered)
  ]
]

pub ordered_nodes : (ls : List Link) → Ordered (nodes_of ls)
ordered_nodes [] = tt
ordered_nodes (l ∷ ls) = elim (cases_Bool (is_node l.owner)) [
  | inl t ↦ rw t (ordered_with l.owner (nodes_of ls) t (ordered_nodes ls))
  | inr f ↦ rw f (ordered_nodes ls)
]

-- ---- who stands among the nodes

found_with : (o p : Owner) (ns : List Owner) → list_any (λ (n : Owner). same_owner n p) (with_node o ns) ≡ (same_owner o p || list_any (λ (n : Owner). same_owner n p) ns)
found_with o p [] = refl
found_with o p (n ∷ ns) = elim (cases_Bool (precedes n o)) [
  | inl t ↦ rw (t, found_with o p ns) (swap (same_owner n p) (same_owner o p) (list_any (λ (m : Owner). same_owner m p) ns))
  | inr f ↦ elim (cases_Bool (same_owner n o)) [
    | inl same ↦ let is : n ≡ o = same_is n o same in rw (f, same, is) (twice (same_owner o p) (list_any (λ (m : Owner). same_owner m p) ns))
    | inr other ↦ rw (f, other) refl
  ]
]
  where
    swap : (x y z : Bool) → (x || (y || z)) ≡ (y || (x || z))
    swap true true z = refl
    swap true false z = refl
    swap false y z = refl

    twice : (x z : Bool) → (x || z) ≡ (x || (x || z))
    twice true z = refl
    twice false z = refl

pub found_nodes : (p : Owner) (ls : List Link) → is_node p ≡ true → list_any (λ (n : Owner). same_owner n p) (nodes_of ls) ≡ list_any (λ (l : Link). same_owner l.owner p) ls
found_nodes p [] h = refl
found_nodes p (l ∷ ls) h = elim (cases_Bool (is_node l.owner)) [
  | inl t ↦ rw t (found_with l.owner p (nodes_of ls) ∙ ap (λ b. same_owner l.owner p || b) (found_nodes p ls h))
  | inr f ↦
      let other : same_owner l.owner p ≡ false = elim (cases_Bool (same_owner l.owner p)) [
        | inl same ↦ let is : l.owner ≡ p = same_is l.owner p same in absurd (both_ways (is_node l.owner) f (rw is h))
        | inr no_one ↦ no_one
      ] in
      rw (f, other) (found_nodes p ls h)
]

links_owners : (e : Listed) (rows : List Entry) (p : Owner) → list_any (λ (l : Link). same_owner l.owner p) (map (link_of e) rows) ≡ has_entry rows p
links_owners e [] p = refl
links_owners e (r ∷ rows) p = ap (λ b. same_owner r.owner p || b) (links_owners e rows p)

-- a compartment or library stands among the nodes exactly where it has an entry
pub nodes_have : (e : Listed) (p : Owner) → is_node p ≡ true → list_any (λ (n : Owner). same_owner n p) (nodes_of (links_of e)) ≡ has_entry e.rows p
nodes_have e p h = found_nodes p (links_of e) h ∙ links_owners e e.rows p

-- ---- by place

pub stands_at : (ns : List Owner) (o : Owner) → list_any (λ (n : Owner). same_owner n o) ns ≡ true → (i : ℕ) × IsNode ns o i
stands_at [] o h = absurd (both_ways false refl h)
stands_at (n ∷ ns) o h = elim (or_cases _ _ h) [
  | inl here ↦ (0, record { inside = omega arith; here = λ z. same_is n o here })
  | inr later ↦ let found : (i : ℕ) × IsNode ns o i = stands_at ns o later in (suc found.0, record { inside = omega (arith, found.1.inside); here = found.1.here })
]

pub among : (ns : List Owner) (i : ℕ) → i < length ns → list_any (λ (n : Owner). same_owner n (node ns i)) ns ≡ true
among [] i lt = absurd (omega (arith, lt))
among (n ∷ ns) zero lt = rw (same_self n) refl
among (n ∷ ns) (suc i) lt = rw (among ns i (omega (arith, lt))) (or_true (same_owner n (node ns i)))
  where
    or_true : (b : Bool) → (b || true) ≡ true
    or_true true = refl
    or_true false = refl

after_place : (o : Owner) (ns : List Owner) (i : ℕ) → After o ns → i < length ns → precedes o (node ns i) ≡ true
after_place o [] i after lt = absurd (omega (arith, lt))
after_place o (n ∷ ns) zero after lt = after.0
after_place o (n ∷ ns) (suc i) after lt = after_place o ns i after.1 (omega (arith, lt))

pub in_order : (ns : List Owner) (i k : ℕ) → Ordered ns → i < k → k < length ns → precedes (node ns i) (node ns k) ≡ true
in_order [] i k ordered lt inside = absurd (omega (arith, inside))
in_order (n ∷ ns) zero zero ordered lt inside = absurd (omega (arith, lt))
in_order (n ∷ ns) zero (suc k) ordered lt inside = after_place n ns k ordered.1 (omega (arith, inside))
in_order (n ∷ ns) (suc i) zero ordered lt inside = absurd (omega (arith, lt))
in_order (n ∷ ns) (suc i) (suc k) ordered lt inside = in_order ns i k ordered.2 (omega (arith, lt)) (omega (arith, inside))

irreflexive : (o : Owner) → precedes o o ≡ true → ⊥
irreflexive (Compartment a) h = absurd (omega (arith, ltb-true a a h))
irreflexive (Library a) h = absurd (omega (arith, ltb-true a a h))
irreflexive Trusted h = both_ways false refl h
irreflexive (Thread t) h = both_ways false refl h

-- each stands once
pub once : (ns : List Owner) (i k : ℕ) → Ordered ns → i < length ns → k < length ns → node ns i ≡ node ns k → i ≡ k
once ns i k ordered hi hk same = elim (cases_order i k) [
  | inl e ↦ e
  | inr (inl lt) ↦ absurd (irreflexive (node ns k) (let before : precedes (node ns i) (node ns k) ≡ true = in_order ns i k ordered lt hk in subst (λ o. precedes o (node ns k) ≡ true) same before))
  | inr (inr gt) ↦ absurd (irreflexive (node ns i) (let before : precedes (node ns k) (node ns i) ≡ true = in_order ns k i ordered gt hi in subst (λ o. precedes o (node ns i) ≡ true) (sym same) before))
]
