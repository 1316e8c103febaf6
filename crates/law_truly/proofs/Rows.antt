-- What an allocation and a free make of the heap's rows.
use Rattle.std.proofs.Common.{ℕ, zero, suc, ◌≡◌, ◌<◌, inl, inr, false, cond, nat_eq, List, [], ◌∷◌, Some, None, length, slice_get, refl, ap, ◌∙◌, subst}
use Rattle.law_lists.proofs.Tests.{eq_tells, lt_tells}
use Rattle.def_machine.specs.Objects.{placed_among, quarantine}
use Rattle.def_machine.specs.State.{Object}
use Rattle.def_truly.specs.Rows.{IsPutAmong, IsTakenBack}

pub put_among : (r : Object) (rs : List Object) → IsPutAmong r rs (placed_among r rs)
put_among r [] = record { low = []; high = []; old_is = refl; new_is = refl; earlier = tt; later = λ q qs e. absurd (let clash : [] ≡ q ∷ qs = e in cc) }
put_among r (q ∷ qs) = elim (lt_tells r.base q.base) [
  | inl before ↦ record {
    low = [];
    high = q ∷ qs;
    old_is = refl;
    new_is = rw before.0 refl;
    earlier = tt;
    later = λ x xs e. (let same : q ≡ x = cc in subst (λ (z : Object). r.base < z.base) same before.1);
  }
  | inr behind ↦
      let rest = put_among r qs in
      record {
        low = q ∷ rest.low;
        high = rest.high;
        old_is = ap (λ zs. q ∷ zs) rest.old_is;
        new_is = rw behind.0 (ap (λ zs. q ∷ zs) rest.new_is);
        earlier = (behind.1, rest.earlier);
        later = rest.later;
      }
]

abbrev row : ℕ → Object → Object
row n r = cond (nat_eq r.number n) (record r { live = false }) r

row_taken : (n : ℕ) (r : Object) → r.number ≡ n → row n r ≡ record r { live = false }
row_taken n r e = elim (eq_tells r.number n) [ inl same ↦ rw same.0 refl | inr other ↦ absurd (other.1 e) ]

row_other : (n : ℕ) (r : Object) → (r.number ≡ n → ⊥) → row n r ≡ r
row_other n r other = elim (eq_tells r.number n) [ inl same ↦ absurd (other same.1) | inr fails ↦ rw fails.0 refl ]

row_at : (n : ℕ) (rs : List Object) (k : ℕ) (r : Object) → slice_get rs k ≡ Some r → slice_get (quarantine n rs) k ≡ Some (row n r)
row_at n [] k r e = absurd (let clash : None ≡ Some r = e in cc)
row_at n (q ∷ qs) zero r e = (let same : q ≡ r = cc in ap (λ (z : Object). Some (row n z)) same)
row_at n (q ∷ qs) (suc k) r e = row_at n qs k r e

rows_stay : (n : ℕ) (rs : List Object) → length (quarantine n rs) ≡ length rs
rows_stay n [] = refl
rows_stay n (q ∷ qs) = ap (λ m. suc m) (rows_stay n qs)

pub taken_back : (n : ℕ) (rs : List Object) → IsTakenBack n rs (quarantine n rs)
taken_back n rs = record {
  size = rows_stay n rs;
  taken = λ k r e same. row_at n rs k r e ∙ ap (λ (z : Object). Some z) (row_taken n r same);
  others = λ k r e other. row_at n rs k r e ∙ ap (λ (z : Object). Some z) (row_other n r other);
}
