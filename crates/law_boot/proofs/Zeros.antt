-- What boots anything but zeros is written.
use Rattle.std.proofs.Common.{ℕ, zero, ◌≡◌, ◌+◌, ◌-◌, ◌*◌, ◌/◌, ◌%◌, ◌≤◌, ◌⊎◌, inl, inr, false, cond, nat_lt, nat_eq, length, Option, Some, None, slice_get, refl, ap, ◌∙◌, arith}
use Rattle.std.proofs.lemmas.Option.{slice_get_past}
use Rattle.std.proofs.lemmas.Bool.{le-ltb, ne_eqb}
use Rattle.law_lists.proofs.Tests.{lt_tells, eq_tells}
use Rattle.ct_entry.specs.declared.rows.Owner.TheVariants.{Trusted, Compartment, Library, Thread}
use Rattle.def_memory.specs.Granules.{plain}
use Rattle.def_image.specs.Parts.{SealedRow, CodeRow, CompartmentRow, PartsRow}
use Rattle.def_image.specs.Members.{compartment, code_number, globals_number, library_number}
use Rattle.def_image.specs.Regions.{Holder, CodeOf, TableOf, GlobalsOf, SharedOf, SealedOf, StackOf, TrustedPart, RegionRow}
use Rattle.def_boot.specs.Contents.{content, content_at, code_content, table_content, gate_word, word_from_bytes, boot_cap, region_at}
use Rattle.def_boot.specs.Made.{boot_cap_of, return_sentry}
use Rattle.def_boot.specs.Held.{IsOf}
use Rattle.law_boot.proofs.Found.{back}
use Rattle.law_boot.proofs.Lists.{held}
use Rattle.def_boot.specs.Written.{InCode, IsBootWritten}
use Rattle.law_boot.proofs.Past.{word_past}
use Rattle.law_boot.proofs.Putting.{sealed_is}
use Rattle.law_image.proofs.Sounds.{compartment_is, library_is}

-- ---- past the end of what stands in a region

code_past : (p : PartsRow) (first : ℕ) (c : CodeRow) (k : ℕ) → 8 * length c.slots + length c.text ≤ k → code_content p first c k ≡ plain 0
code_past p first c k past =
    let over : nat_lt k (8 * length c.slots) ≡ false = le-ltb k (8 * length c.slots) (omega (arith, past)) in
    ap (λ t. cond t (boot_cap_of p (first + k / 8)) (plain (word_from_bytes c.text (k - 8 * length c.slots)))) over
    ∙ ap plain (word_past c.text (k - 8 * length c.slots) (omega (arith, past)))

table_past : (p : PartsRow) (b : ℕ) (c : CompartmentRow) (k : ℕ) → slice_get p.compartments b ≡ Some c → 16 + 16 * length c.code.exports ≤ k → table_content p b k ≡ plain 0
table_past p b c k there past =
    let first : nat_eq k 0 ≡ false = ne_eqb k 0 (λ e. omega (arith, e, past)) in
    let second : nat_eq k 8 ≡ false = ne_eqb k 8 (λ e. omega (arith, e, past)) in
    let none : slice_get (compartment p b).code.exports ((k - 16) / 16) ≡ None =
    ap (λ (d : CompartmentRow). slice_get d.code.exports ((k - 16) / 16)) (compartment_is p b c there) ∙ slice_get_past c.code.exports ((k - 16) / 16) (omega (arith, past)) in
    let rows = plain (gate_word (slice_get (compartment p b).code.exports ((k - 16) / 16)) ((k - 16) % 16)) in
    ap (λ t. cond t (boot_cap_of p (code_number p b)) (cond (nat_eq k 8) (boot_cap_of p (globals_number p b)) rows)) first
    ∙ ap (λ t. cond t (boot_cap_of p (globals_number p b)) rows) second
    ∙ ap (λ o. plain (gate_word o ((k - 16) % 16))) none

-- ---- by what the region is of

in_code : (p : PartsRow) (x : ℕ) (r : RegionRow) (first : ℕ) (c : CodeRow) → r.base ≡ c.base → r.base ≤ x → InCode c x ⊎ (code_content p first c (x - r.base) ≡ plain 0)
in_code p x r first c same low = elim (lt_tells x (c.base + 8 * length c.slots + length c.text)) [
  | inl lt ↦ let less = lt.1 in inl (omega (arith, same, low), less)
  | inr ge ↦ let past = ge.1 in inr (code_past p first c (x - r.base) (omega (arith, past, same)))
]

by_holder : (p : PartsRow) (x : ℕ) (r : RegionRow) (h : Holder) → IsOf p r h → r.base ≤ x → IsBootWritten p x ⊎ (content p h (x - r.base) ≡ plain 0)
by_holder p x r (CodeOf (Compartment b)) (c, there, spans) low =
    elim (in_code p x r (code_number p b + 2) c.code spans.base_is low) [
      | inl in_it ↦ inl (inl (b, c, there, inl in_it))
      | inr none ↦ inr (ap (λ (d : CompartmentRow). code_content p (code_number p b + 2) d.code (x - r.base)) (compartment_is p b c there) ∙ none)
    ]
by_holder p x r (CodeOf (Library l)) (c, there, spans) low =
    elim (in_code p x r (library_number p l + 1) c spans.base_is low) [
      | inl in_it ↦ inl (inr (inl (l, c, there, in_it)))
      | inr none ↦ inr (ap (λ (d : CodeRow). code_content p (library_number p l + 1) d (x - r.base)) (library_is p l c there) ∙ none)
    ]
by_holder p x r (CodeOf Trusted) of low = absurd of
by_holder p x r (CodeOf (Thread t)) of low = absurd of
by_holder p x r (TableOf b) (c, there, spans) low =
    let same = spans.base_is in
    elim (lt_tells x (c.table + 16 + 16 * length c.code.exports)) [
      | inl lt ↦ let less = lt.1 in inl (inl (b, c, there, inr (inl (omega (arith, same, low), less))))
      | inr ge ↦ let past = ge.1 in inr (table_past p b c (x - r.base) there (omega (arith, past, same)))
    ]
by_holder p x r (GlobalsOf b) (c, there, spans) low =
    let same = spans.base_is in
    elim (lt_tells x (c.globals + length c.initial)) [
      | inl lt ↦ let less = lt.1 in inl (inl (b, c, there, inr (inr (omega (arith, same, low), less))))
      | inr ge ↦
          let past = ge.1 in
          inr (ap (λ (d : CompartmentRow). plain (word_from_bytes d.initial (x - r.base))) (compartment_is p b c there) ∙ ap plain (word_past c.initial (x - r.base) (omega (arith, past, same))))
    ]
by_holder p x r (SharedOf n) of low = inr refl
by_holder p x r (SealedOf n) (s, there, spans) low =
    let same = spans.base_is in
    elim (lt_tells x (s.base + length s.bytes)) [
      | inl lt ↦ let less = lt.1 in inl (inr (inr (inl (n, s, there, (omega (arith, same, low), less)))))
      | inr ge ↦
          let past = ge.1 in
          inr (ap (λ (d : SealedRow). plain (word_from_bytes d.bytes (x - r.base))) (sealed_is p n s there) ∙ ap plain (word_past s.bytes (x - r.base) (omega (arith, past, same))))
    ]
by_holder p x r (StackOf t) of low = inr refl
by_holder p x r TrustedPart spans low =
    let same = spans.base_is in
    elim (eq_tells (x - r.base) 0) [
      | inl at ↦ let zero = at.1 in inl (inr (inr (inr (omega (arith, same, low), omega (arith, same, zero, low)))))
      | inr off ↦ inr (ap (λ t. cond t return_sentry (plain 0)) off.0)
    ]

by_region : (p : PartsRow) (x : ℕ) (o : Option RegionRow) → region_at p x ≡ o → IsBootWritten p x ⊎ (content_at p o x ≡ plain 0)
by_region p x None is = inr refl
by_region p x (Some r) is =
    let lying = back p x r is in
    by_holder p x r r.holder (held p lying.index r lying.there) lying.lies.0

pub zero_else : (p : PartsRow) (x : ℕ) → IsBootWritten p x ⊎ (boot_cap p x ≡ plain 0)
unfolding boot_cap
zero_else p x = by_region p x (region_at p x) refl
