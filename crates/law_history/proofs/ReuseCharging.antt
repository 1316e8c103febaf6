-- What an object that is given back takes from the live charges on its quota, and what a new one adds.
use Rattle.std.proofs.Common.{ℕ, ◌≡◌, ◌+◌, ◌≢◌, ◌&&◌, true, false, cond, nat_eq, inl, inr, List, [], ◌∷◌, refl, sym, ap, ◌∙◌, subst, arith}
use Rattle.std.proofs.lemmas.Bool.{eqb-true, eqb-false, and_parts, cases_Bool}
use Rattle.law_lists.proofs.Tests.{chosen}
use Rattle.def_profile.specs.declared.layout.TheConstants.{CHUNK_HEAD}
use Rattle.def_machine.specs.State.{Object}
use Rattle.def_machine.specs.Objects.{Any, Each, charges, quarantine, placed_among}
use Rattle.def_confined.specs.Confined.{Apart, AllApart}
use Rattle.law_moves.proofs.Rows.{among_charges, each_map, each_take}
use Rattle.law_moves.proofs.Quarantines.{gone}
use Rattle.def_safety.specs.Charges.{ChargesMore}

-- what an object adds to the live charges on a quota
abbrev charge_on : ℕ → Object → ℕ
charge_on q r = cond (r.live && nat_eq r.quota q) r.charge 0

spared : (q n : ℕ) (rs : List Object) → Each (λ (x : Object). x.number ≢ n) rs → charges q (quarantine n rs) ≡ charges q rs
spared q n [] h = refl
spared q n (x ∷ xs) h =
    chosen (λ (z : Object). charge_on q z + charges q (quarantine n xs) ≡ charge_on q x + charges q xs) (nat_eq x.number n) (gone x) x
    (λ is. absurd (h.0 (eqb-true x.number n is)))
    (λ other. ap (λ (m : ℕ). charge_on q x + m) (spared q n xs h.1))

-- a live object that is quarantined
freed_less : (q : ℕ) (r : Object) (rs : List Object) → AllApart rs → Any (λ x. x ≡ r) rs → charges q rs ≡ charges q (quarantine r.number rs) + charge_on q r
freed_less q r [] apart there = absurd there
freed_less q r (x ∷ xs) apart (inl same) = subst (λ (z : Object). charges q (x ∷ xs) ≡ charges q (quarantine z.number (x ∷ xs)) + charge_on q z) same own
  where
    own : charges q (x ∷ xs) ≡ charges q (quarantine x.number (x ∷ xs)) + charge_on q x
    own =
        let rest = spared q x.number xs (each_map (Apart x) (λ (z : Object). z.number ≢ x.number) xs (λ z a is. a.0 (sym is)) apart.0) in
        chosen (λ (z : Object). charge_on q x + charges q xs ≡ charge_on q z + charges q (quarantine x.number xs) + charge_on q x) (nat_eq x.number x.number) (gone x) x
        (λ is. omega (arith, rest))
        (λ other. absurd (eqb-false x.number x.number other refl))
freed_less q r (x ∷ xs) apart (inr there) =
    let rest = freed_less q r xs apart.1 there in
    chosen (λ (z : Object). charge_on q x + charges q xs ≡ charge_on q z + charges q (quarantine r.number xs) + charge_on q r) (nat_eq x.number r.number) (gone x) x
    (λ is. absurd (each_take (Apart x) (λ z. z ≡ r) ⊥ xs (λ z a same. a.0 (eqb-true x.number r.number is ∙ sym (ap (λ (o : Object). o.number) same))) apart.0 there))
    (λ other. omega (arith, rest))

own_charge : (r : Object) → r.live ≡ true → charge_on r.quota r ≡ r.charge
own_charge r live = chosen (λ (n : ℕ). n ≡ r.charge) (r.live && nat_eq r.quota r.quota) r.charge 0
    (λ is. refl)
    (λ not. elim (cases_Bool (nat_eq r.quota r.quota)) [
      | inl same ↦ (let both : (r.live && nat_eq r.quota r.quota) ≡ true = rw (live, same) refl in absurd (let clash : true ≡ false = sym both ∙ not in cc))
      | inr other ↦ absurd (eqb-false r.quota r.quota other refl)
    ])

other_charge : (q : ℕ) (r : Object) → q ≢ r.quota → charge_on q r ≡ 0
other_charge q r other = chosen (λ (n : ℕ). n ≡ 0) (r.live && nat_eq r.quota q) r.charge 0
    (λ is. absurd (other (sym (eqb-true r.quota q (and_parts r.live (nat_eq r.quota q) is).1))))
    (λ not. refl)

pub gives_less : (r : Object) (rs : List Object) → AllApart rs → Any (λ x. x ≡ r) rs → r.live ≡ true → r.charge ≡ r.length + CHUNK_HEAD → ChargesMore (quarantine r.number rs) rs r.quota r.length
gives_less r rs apart there live charge = record {
  more_by = (let less = freed_less r.quota r rs apart there in let own = own_charge r live in omega (arith, less, own, charge));
  others = λ q other. (let less = freed_less q r rs apart there in let none = other_charge q r other in omega (arith, less, none));
}

pub hands_more : (r : Object) (rs : List Object) → r.live ≡ true → r.charge ≡ r.length + CHUNK_HEAD → ChargesMore rs (placed_among r rs) r.quota r.length
hands_more r rs live charge = record {
  more_by = (let more = among_charges r.quota r rs in let own = own_charge r live in omega (arith, more, own, charge));
  others = λ q other. (let more = among_charges q r rs in let none = other_charge q r other in omega (arith, more, none));
}
