-- What is written into a slot is what its word says.
use Rattle.std.proofs.Common.{ℕ, zero, suc, ◌≡◌, ◌∙◌, List, length, replicate, ◌<◌, slice_set, slice_index_or, subst, sym, ap, nat_eq, true}
use Rattle.std.proofs.lemmas.Bool.{eqb-true}
use Rattle.std.proofs.lemmas.List.{get_or_read_under, length-set, length-replicate}
use Rattle.def_step.specs.Operands.{operands_of}
use Rattle.ct_decode.specs.declared.reading.Reading.{Reading}
use Rattle.ct_decode.specs.declared.decoded.TheConstants.{SLOTS}
use Rattle.ct_decode.specs.Reading.{reading_of, AreRegisters, IsRead, AreRead}
use Rattle.law_lists.proofs.Sets.{after_set}

pub one_read : (r : Reading) (word : ℕ) → r ≡ reading_of word → r.word ≡ word → AreRegisters (operands_of r.instruction) → IsRead r
one_read r word is same registers = record {
  is = is ∙ ap reading_of (sym same);
  registers = registers;
}

pub kept_read : (rows : List Reading) (i : ℕ) (r : Reading) → AreRead rows → IsRead r → AreRead (slice_set rows i r)
kept_read rows i r h new = record {
  size = length-set rows i r ∙ h.size;
  each = λ k. after_set IsRead rows i k r (reading_of 0) new (h.each k);
}

pub row_read : (rows : List Reading) (i : ℕ) (x : Reading) → AreRead rows → i < SLOTS → x ≡ slice_index_or rows i x → IsRead x
row_read rows i x h inside is = subst IsRead (sym (get_or_read_under rows i SLOTS x (reading_of 0) is inside (sym h.size))) (h.each i)

-- what a slot holds whose word is this one
pub held : (rows : List Reading) (i word : ℕ) (x : Reading) → AreRead rows → i < SLOTS → x ≡ slice_index_or rows i x → nat_eq x.word word ≡ true
    → slice_index_or rows i (reading_of 0) ≡ reading_of word
held rows i word x h inside is same =
    sym (get_or_read_under rows i SLOTS x (reading_of 0) is inside (sym h.size)) ∙ (row_read rows i x h inside is).is ∙ ap reading_of (eqb-true x.word word same)

of_copies : {A : Type 0} (P : A → Type 0) (n k : ℕ) (x z : A) → P x → P z → P (slice_index_or (replicate n x) k z)
of_copies P zero k x z here past = past
of_copies P (suc n) zero x z here past = here
of_copies P (suc n) (suc k) x z here past = of_copies P n k x z here past

pub copies_read : (rows : List Reading) (n : ℕ) (r : Reading) → rows ≡ replicate n r → n ≡ SLOTS → r ≡ reading_of 0 → IsRead r → AreRead rows
copies_read rows n r copies size is read = record {
  size = ap length copies ∙ length-replicate n r ∙ size;
  each = λ k. rw copies (of_copies IsRead n k r (reading_of 0) read (rw (← is) read));
}
