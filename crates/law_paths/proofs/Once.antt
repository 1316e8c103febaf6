-- No two paths come before all others.
use Rattle.std.proofs.Common.{◌≡◌, ℕ, ◌<◌, true, false, List, [], ◌∷◌, length, inl, inr, refl, subst, arith}
use Rattle.std.proofs.lemmas.Bool.{ltb-true}
use Rattle.ct_entry.specs.declared.rows.Owner.{Owner}
use Rattle.ct_entry.specs.declared.rows.Owner.TheVariants.{Trusted, Compartment, Library, Thread}
use Rattle.ct_entry.specs.Listed.{Listed}
use Rattle.def_reach.specs.Route.{precedes, IsLeft, Before, IsPath}

apart : (x y : Owner) → precedes x y ≡ true → precedes y x ≡ true → ⊥
apart (Compartment a) (Compartment b) h k = let one : a < b = ltb-true a b h in let two : b < a = ltb-true b a k in absurd (omega (arith, one, two))
apart (Compartment a) (Library b) h k = absurd (let clash : false ≡ true = k in cc)
apart (Compartment a) Trusted h k = absurd (let clash : false ≡ true = h in cc)
apart (Compartment a) (Thread b) h k = absurd (let clash : false ≡ true = h in cc)
apart (Library a) (Library b) h k = let one : a < b = ltb-true a b h in let two : b < a = ltb-true b a k in absurd (omega (arith, one, two))
apart (Library a) (Compartment b) h k = absurd (let clash : false ≡ true = h in cc)
apart (Library a) Trusted h k = absurd (let clash : false ≡ true = h in cc)
apart (Library a) (Thread b) h k = absurd (let clash : false ≡ true = h in cc)
apart Trusted y h k = absurd (let clash : false ≡ true = h in cc)
apart (Thread a) y h k = absurd (let clash : false ≡ true = h in cc)

same_left : (xs ys : List Owner) → length xs ≡ length ys → IsLeft xs ys → IsLeft ys xs → xs ≡ ys
same_left [] [] size a b = refl
same_left [] (y ∷ ys) size a b = absurd (omega (arith, size))
same_left (x ∷ xs) [] size a b = absurd (omega (arith, size))
same_left (x ∷ xs) (y ∷ ys) size a b =
    elim a [
      | inl p ↦ elim b [ inl q ↦ absurd (apart x y p q) | inr q ↦ absurd (let back : precedes x x ≡ true = subst (λ z. precedes x z ≡ true) q.0 p in apart x x back back) ]
      | inr p ↦ elim b [
        | inl q ↦ absurd (let back : precedes y y ≡ true = subst (λ z. precedes y z ≡ true) p.0 q in apart y y back back)
        | inr q ↦ let rest : xs ≡ ys = same_left xs ys (omega (arith, size)) p.1 q.1 in let head : x ≡ y = p.0 in cc
      ]
    ]

same_members : (xs ys : List Owner) → Before xs ys → Before ys xs → xs ≡ ys
same_members xs ys a b =
    elim a [
      | inl p ↦ elim b [ inl q ↦ absurd (omega (arith, p, q)) | inr q ↦ absurd (let size = q.0 in omega (arith, p, size)) ]
      | inr p ↦ elim b [ inl q ↦ absurd (let size = p.0 in omega (arith, q, size)) | inr q ↦ same_left xs ys p.0 p.1 q.1 ]
    ]

pub same_path : (e : Listed) (o : Owner) (c : ℕ) (xs ys : List Owner) → IsPath e o c xs → IsPath e o c ys → xs ≡ ys
same_path e o c xs ys a b =
    let members : a.members ≡ b.members = same_members a.members b.members (a.first b.members b.leads) (b.first a.members a.leads) in
    let start : xs ≡ o ∷ a.members = a.starts in
    let other : ys ≡ o ∷ b.members = b.starts in
    cc
