-- Every entry, every granule of a range, one after another or by a test.
use Rattle.std.proofs.Common.{ℕ, zero, suc, ◌≡◌, ◌+◌, ◌-◌, ◌*◌, ◌/◌, ◌≤◌, ◌<◌, Bool, true, false, List, [], ◌∷◌, ◌++◌, replicate, get_or, refl, sym, subst, arith}
use Rattle.ct_entry.specs.Kinds.{is_compartment, is_library}
use Rattle.ct_entry.specs.declared.rows.Owner.{Owner}
use Rattle.ct_entry.specs.declared.rows.Owner.TheVariants.{Trusted, Compartment, Library, Thread}
use Rattle.ct_entry.specs.declared.rows.Kind.{Kind}
use Rattle.def_reach.specs.Roots.{Origin, Listing}
use Rattle.def_machine.specs.Objects.{Each}
use Rattle.def_machine.specs.Image.{granule_of}
use Rattle.law_examples.specs.Small.{small}

pub by_entry : (P : ℕ → Type 0) → P 0 → P 1 → P 2 → P 3 → P 4 → P 5 → P 6 → P 7 → P 8 → P 9 → P 10 → P 11 → P 12 → P 13 → P 14 → P 15 → P 16 → P 17 → P 18 → ((n : ℕ) → P ((suc (suc (suc (suc (suc (suc (suc (suc (suc (suc (suc (suc (suc (suc (suc (suc (suc (suc (suc n))))))))))))))))))))) → (n : ℕ) → P n
by_entry P p0 p1 p2 p3 p4 p5 p6 p7 p8 p9 p10 p11 p12 p13 p14 p15 p16 p17 p18 rest zero = p0
by_entry P p0 p1 p2 p3 p4 p5 p6 p7 p8 p9 p10 p11 p12 p13 p14 p15 p16 p17 p18 rest (suc zero) = p1
by_entry P p0 p1 p2 p3 p4 p5 p6 p7 p8 p9 p10 p11 p12 p13 p14 p15 p16 p17 p18 rest (suc (suc zero)) = p2
by_entry P p0 p1 p2 p3 p4 p5 p6 p7 p8 p9 p10 p11 p12 p13 p14 p15 p16 p17 p18 rest (suc (suc (suc zero))) = p3
by_entry P p0 p1 p2 p3 p4 p5 p6 p7 p8 p9 p10 p11 p12 p13 p14 p15 p16 p17 p18 rest (suc (suc (suc (suc zero)))) = p4
by_entry P p0 p1 p2 p3 p4 p5 p6 p7 p8 p9 p10 p11 p12 p13 p14 p15 p16 p17 p18 rest (suc (suc (suc (suc (suc zero))))) = p5
by_entry P p0 p1 p2 p3 p4 p5 p6 p7 p8 p9 p10 p11 p12 p13 p14 p15 p16 p17 p18 rest (suc (suc (suc (suc (suc (suc zero)))))) = p6
by_entry P p0 p1 p2 p3 p4 p5 p6 p7 p8 p9 p10 p11 p12 p13 p14 p15 p16 p17 p18 rest (suc (suc (suc (suc (suc (suc (suc zero))))))) = p7
by_entry P p0 p1 p2 p3 p4 p5 p6 p7 p8 p9 p10 p11 p12 p13 p14 p15 p16 p17 p18 rest (suc (suc (suc (suc (suc (suc (suc (suc zero)))))))) = p8
by_entry P p0 p1 p2 p3 p4 p5 p6 p7 p8 p9 p10 p11 p12 p13 p14 p15 p16 p17 p18 rest (suc (suc (suc (suc (suc (suc (suc (suc (suc zero))))))))) = p9
by_entry P p0 p1 p2 p3 p4 p5 p6 p7 p8 p9 p10 p11 p12 p13 p14 p15 p16 p17 p18 rest (suc (suc (suc (suc (suc (suc (suc (suc (suc (suc zero)))))))))) = p10
by_entry P p0 p1 p2 p3 p4 p5 p6 p7 p8 p9 p10 p11 p12 p13 p14 p15 p16 p17 p18 rest (suc (suc (suc (suc (suc (suc (suc (suc (suc (suc (suc zero))))))))))) = p11
by_entry P p0 p1 p2 p3 p4 p5 p6 p7 p8 p9 p10 p11 p12 p13 p14 p15 p16 p17 p18 rest (suc (suc (suc (suc (suc (suc (suc (suc (suc (suc (suc (suc zero)))))))))))) = p12
by_entry P p0 p1 p2 p3 p4 p5 p6 p7 p8 p9 p10 p11 p12 p13 p14 p15 p16 p17 p18 rest (suc (suc (suc (suc (suc (suc (suc (suc (suc (suc (suc (suc (suc zero))))))))))))) = p13
by_entry P p0 p1 p2 p3 p4 p5 p6 p7 p8 p9 p10 p11 p12 p13 p14 p15 p16 p17 p18 rest (suc (suc (suc (suc (suc (suc (suc (suc (suc (suc (suc (suc (suc (suc zero)))))))))))))) = p14
by_entry P p0 p1 p2 p3 p4 p5 p6 p7 p8 p9 p10 p11 p12 p13 p14 p15 p16 p17 p18 rest (suc (suc (suc (suc (suc (suc (suc (suc (suc (suc (suc (suc (suc (suc (suc zero))))))))))))))) = p15
by_entry P p0 p1 p2 p3 p4 p5 p6 p7 p8 p9 p10 p11 p12 p13 p14 p15 p16 p17 p18 rest (suc (suc (suc (suc (suc (suc (suc (suc (suc (suc (suc (suc (suc (suc (suc (suc zero)))))))))))))))) = p16
by_entry P p0 p1 p2 p3 p4 p5 p6 p7 p8 p9 p10 p11 p12 p13 p14 p15 p16 p17 p18 rest (suc (suc (suc (suc (suc (suc (suc (suc (suc (suc (suc (suc (suc (suc (suc (suc (suc zero))))))))))))))))) = p17
by_entry P p0 p1 p2 p3 p4 p5 p6 p7 p8 p9 p10 p11 p12 p13 p14 p15 p16 p17 p18 rest (suc (suc (suc (suc (suc (suc (suc (suc (suc (suc (suc (suc (suc (suc (suc (suc (suc (suc zero)))))))))))))))))) = p18
by_entry P p0 p1 p2 p3 p4 p5 p6 p7 p8 p9 p10 p11 p12 p13 p14 p15 p16 p17 p18 rest (suc (suc (suc (suc (suc (suc (suc (suc (suc (suc (suc (suc (suc (suc (suc (suc (suc (suc (suc n))))))))))))))))))) = rest n

-- an entry of such a kind
abbrev pub of_kind : (Kind → Bool) → Origin → Bool
of_kind f (Listing k) = f k
of_kind f _ = false

pub compartment_is : (o : Owner) → is_compartment o ≡ true → (b : ℕ) × (o ≡ Compartment b)
compartment_is (Compartment b) h = (b, refl)
compartment_is Trusted h = absurd (let clash : false ≡ true = h in cc)
compartment_is (Library l) h = absurd (let clash : false ≡ true = h in cc)
compartment_is (Thread n) h = absurd (let clash : false ≡ true = h in cc)

pub library_is : (o : Owner) → is_library o ≡ true → (l : ℕ) × (o ≡ Library l)
library_is (Library l) h = (l, refl)
library_is Trusted h = absurd (let clash : false ≡ true = h in cc)
library_is (Compartment b) h = absurd (let clash : false ≡ true = h in cc)
library_is (Thread n) h = absurd (let clash : false ≡ true = h in cc)

-- of a list, and what is past its end
pub each_at : {A : Type 0} (P : A → Type 0) (xs : List A) (z : A) → P z → Each P xs → (n : ℕ) → P (get_or xs n z)
each_at P [] z none h n = none
each_at P (x ∷ xs) z none h zero = h.0
each_at P (x ∷ xs) z none h (suc n) = each_at P xs z none h.1 n

pub past_end : {A : Type 0} (xs : List A) (n k : ℕ) (d : A) → get_or (xs ++ replicate n d) k d ≡ get_or xs k d
past_end [] zero k d = refl
past_end [] (suc n) zero d = refl
past_end [] (suc n) (suc k) d = past_end [] n k d
past_end (x ∷ xs) n zero d = refl
past_end (x ∷ xs) n (suc k) d = past_end xs n k d

pub upto_2 : (Q : ℕ → Type 0) → Q 0 → Q 1 → (j : ℕ) → j < 2 → Q j
upto_2 Q q0 q1 zero lt = q0
upto_2 Q q0 q1 (suc zero) lt = q1
upto_2 Q q0 q1 (suc (suc j)) lt = absurd (omega (arith, lt))

pub upto_4 : (Q : ℕ → Type 0) → Q 0 → Q 1 → Q 2 → Q 3 → (j : ℕ) → j < 4 → Q j
upto_4 Q q0 q1 q2 q3 zero lt = q0
upto_4 Q q0 q1 q2 q3 (suc zero) lt = q1
upto_4 Q q0 q1 q2 q3 (suc (suc zero)) lt = q2
upto_4 Q q0 q1 q2 q3 (suc (suc (suc zero))) lt = q3
upto_4 Q q0 q1 q2 q3 (suc (suc (suc (suc j)))) lt = absurd (omega (arith, lt))

pub upto_8 : (Q : ℕ → Type 0) → Q 0 → Q 1 → Q 2 → Q 3 → Q 4 → Q 5 → Q 6 → Q 7 → (j : ℕ) → j < 8 → Q j
upto_8 Q q0 q1 q2 q3 q4 q5 q6 q7 zero lt = q0
upto_8 Q q0 q1 q2 q3 q4 q5 q6 q7 (suc zero) lt = q1
upto_8 Q q0 q1 q2 q3 q4 q5 q6 q7 (suc (suc zero)) lt = q2
upto_8 Q q0 q1 q2 q3 q4 q5 q6 q7 (suc (suc (suc zero))) lt = q3
upto_8 Q q0 q1 q2 q3 q4 q5 q6 q7 (suc (suc (suc (suc zero)))) lt = q4
upto_8 Q q0 q1 q2 q3 q4 q5 q6 q7 (suc (suc (suc (suc (suc zero))))) lt = q5
upto_8 Q q0 q1 q2 q3 q4 q5 q6 q7 (suc (suc (suc (suc (suc (suc zero)))))) lt = q6
upto_8 Q q0 q1 q2 q3 q4 q5 q6 q7 (suc (suc (suc (suc (suc (suc (suc zero))))))) lt = q7
upto_8 Q q0 q1 q2 q3 q4 q5 q6 q7 (suc (suc (suc (suc (suc (suc (suc (suc j)))))))) lt = absurd (omega (arith, lt))

pub span : (P : ℕ → Type 0) (g m x : ℕ) → 0x80000000 + 8 * g ≤ x → x < 0x80000000 + 8 * g + 8 * m → ((j : ℕ) → j < m → P (g + j)) → P (granule_of small x)
span P g m x low high f =
    let at : (x - 0x80000000) / 8 ≡ g + ((x - 0x80000000) / 8 - g) = omega (arith, low) in
    let fits : (x - 0x80000000) / 8 - g < m = omega (arith, low, high) in
    subst P (sym at) (f ((x - 0x80000000) / 8 - g) fits)

pub span_of : (P : ℕ → Type 0) (g m k : ℕ) → g ≤ k → k < g + m → ((j : ℕ) → j < m → P (g + j)) → P k
span_of P g m k low high f =
    let at : k ≡ g + (k - g) = omega (arith, low) in
    let fits : k - g < m = omega (arith, low, high) in
    subst P (sym at) (f (k - g) fits)
