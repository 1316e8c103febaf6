-- Where an export begins is an offset in the text.
use Rattle.std.proofs.Common.{ℕ, ◌≡◌, ◌%◌, ◌<◌, Bool, true, false, cond, nat_lt, nat_eq, length, Option, Some, None, refl, sym, ◌∙◌, subst, inl, inr}
use Rattle.std.specs.Prelude.{option_and_then}
use Rattle.law_lists.proofs.Tests.{lt_tells, both_right}
use Rattle.def_desc.specs.Rows.{AtRow}
use Rattle.def_link.specs.Owners.{Built, label_or, is_begin, begin_of}
use Rattle.law_link.proofs.Builts.{begin_at}

at_inside : (b : Built) (offset n : ℕ) → begin_at b offset ≡ Some n → n < length b.text
unfolding begin_at
at_inside b offset n e = by (is_begin b offset) refl e
  where
    by : (c : Bool) → is_begin b offset ≡ c → cond c (Some offset) None ≡ Some n → n < length b.text
    by false is h = absurd (let no : None ≡ Some n = h in cc)
    by true is h =
        let same : offset ≡ n = cc in
        elim (lt_tells offset (length b.text)) [
          | inl k ↦ subst (λ m. m < length b.text) same k.1
          | inr k ↦ absurd (let no : true ≡ false = sym (both_right (nat_eq (offset % 4) 0) (nat_lt offset (length b.text)) is) ∙ k.0 in cc)
        ]

pub begins_small : (b : Built) (at : AtRow) (n : ℕ) → begin_of b at ≡ Some n → n < length b.text
unfolding begin_at
begins_small b at n e = by (label_or b at.label at.offset) e
  where
    by : (o : Option ℕ) → option_and_then (begin_at b) o ≡ Some n → n < length b.text
    by None h = absurd (let no : None ≡ Some n = h in cc)
    by (Some offset) h = at_inside b offset n h
