-- What a name stands for after a file of that name was put in place of another, or at the end.
use Rattle.std.proofs.Common.{◌≡◌, ℕ, zero, suc, ◌+◌, ◌<◌, List, [], ◌∷◌, ◌++◌, Bool, true, false, cond, Some, None, length, take, refl, sym, ◌∙◌, arith, inl, inr}
use Rattle.std.proofs.Math.ListN.{get_or, set}
use Rattle.std.specs.Str.{bytes_eq}
use Rattle.std.proofs.lemmas.Bool.{cases_Bool, both_ways}
use Rattle.std.proofs.lemmas.Slice.Eq.{bytes_eq-Decides}
use Rattle.def_port.specs.Forms.{FileRow, file_named}

no_match : (a b c : List ℕ) → bytes_eq a b ≡ false → bytes_eq a c ≡ true → bytes_eq b c ≡ false
no_match a b c differ same = elim (cases_Bool (bytes_eq b c)) [
  | inl e ↦ let both : a ≡ b = (bytes_eq-Decides a c).0 same ∙ sym ((bytes_eq-Decides b c).0 e) in absurd (both_ways (bytes_eq a b) differ ((bytes_eq-Decides a b).1 both))
  | inr e ↦ e
]

twice : {A : Type 0} (b : Bool) (x y z : A) → cond b x z ≡ cond b x (cond b y z)
twice true x y z = refl
twice false x y z = refl

some_none : (b : List ℕ) → Some b ≡ None → ⊥
some_none b h = cc

pub put_at : (fs : List FileRow) (i : ℕ) (z : FileRow) (name bytes n : List ℕ) → i < length fs → (get_or fs i z).name ≡ name → file_named (take i fs) name ≡ None
    → file_named (set fs i (record { name = name; bytes = bytes })) n ≡ cond (bytes_eq name n) (Some bytes) (file_named fs n)
put_at [] i z name bytes n lt is none = absurd (omega (arith, lt))
put_at (f ∷ fs) zero z name bytes n lt is none = rw is (twice (bytes_eq name n) (Some bytes) (Some f.bytes) (file_named fs n))
put_at (f ∷ fs) (suc i) z name bytes n lt is none = elim (cases_Bool (bytes_eq f.name name)) [
  | inl e ↦ let found : Some f.bytes ≡ None = rw e at none in absurd (some_none f.bytes found)
  | inr e ↦
      let rest : file_named (take i fs) name ≡ None = rw e at none in
      let later : file_named (set fs i (record { name = name; bytes = bytes })) n ≡ cond (bytes_eq name n) (Some bytes) (file_named fs n) = put_at fs i z name bytes n (omega (arith, lt)) is rest in
      elim (cases_Bool (bytes_eq f.name n)) [
        | inl t ↦ rw (t, no_match f.name name n e t) refl
        | inr t ↦ rw t later
      ]
]

pub put_last : (fs : List FileRow) (name bytes n : List ℕ) → file_named fs name ≡ None
    → file_named (fs ++ (record { name = name; bytes = bytes }) ∷ []) n ≡ cond (bytes_eq name n) (Some bytes) (file_named fs n)
put_last [] name bytes n none = refl
put_last (f ∷ fs) name bytes n none = elim (cases_Bool (bytes_eq f.name name)) [
  | inl e ↦ let found : Some f.bytes ≡ None = rw e at none in absurd (some_none f.bytes found)
  | inr e ↦
      let rest : file_named fs name ≡ None = rw e at none in
      elim (cases_Bool (bytes_eq f.name n)) [
        | inl t ↦ rw (t, no_match f.name name n e t) refl
        | inr t ↦ rw t (put_last fs name bytes n rest)
      ]
]

more : (fs : List FileRow) (i : ℕ) (z : FileRow) (name : List ℕ) → i < length fs → file_named (take i fs) name ≡ None → bytes_eq (get_or fs i z).name name ≡ false → file_named (take (suc i) fs) name ≡ None
more [] i z name lt none differ = refl
more (f ∷ fs) zero z name lt none differ = rw differ refl
more (f ∷ fs) (suc i) z name lt none differ = elim (cases_Bool (bytes_eq f.name name)) [
  | inl e ↦ let found : Some f.bytes ≡ None = rw e at none in absurd (some_none f.bytes found)
  | inr e ↦ let rest : file_named (take i fs) name ≡ None = rw e at none in rw e (more fs i z name (omega (arith, lt)) rest differ)
]

-- the search for a name goes on past a file of another name
pub none_more : (fs : List FileRow) (i : ℕ) (z : FileRow) (name : List ℕ) → i < length fs → file_named (take i fs) name ≡ None → bytes_eq (get_or fs i z).name name ≡ false → file_named (take (i + 1) fs) name ≡ None
none_more fs i z name lt none differ = let next : i + 1 ≡ suc i = omega arith in rw next (more fs i z name lt none differ)
