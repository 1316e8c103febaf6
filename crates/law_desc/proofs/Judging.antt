-- Bytes are judged in one way: as a description of one list of rows, or by one fault.
use Rattle.std.proofs.Common.{◌≡◌, ℕ, Bool, true, false, List, Option, Some, None, refl, sym, ap, ◌∙◌, ◌⊎◌, inl, inr}
use Rattle.std.specs.Str.{is_utf8}
use Rattle.std.proofs.lemmas.Str.{IsUtf8-from_is_utf8, is_utf8-from_IsUtf8}
use Rattle.std.specs.Prelude.{IsUtf8}
use Rattle.serde_json.specs.Data.{Data}
use Rattle.serde_json.specs.Read.{read}
use Rattle.def_desc.specs.declared.faults.Fault.{Fault}
use Rattle.def_desc.specs.Rows.{DescRow}
use Rattle.def_desc.specs.Reading.{description_of}
use Rattle.def_desc.specs.WellFormed.{WellFormed, IsFaulty, IsText, IsNoText, fault_of, json_fault}
use Rattle.def_desc.specs.Described.{IsDescribed, DescriptionHasFault}

-- a value without a fault is a description
judged : (bytes : List ℕ) (d : Data) (f : Option Fault) → IsText bytes d → fault_of d ≡ f → IsDescribed bytes ⊎ DescriptionHasFault bytes
judged bytes d None text fault = inl (description_of d, (d, (text, fault, refl)))
judged bytes d (Some f) text fault = inr (f, inr (d, (text, fault)))

no_text : (bytes : List ℕ) → IsNoText bytes → DescriptionHasFault bytes
no_text bytes none = (json_fault, inl (refl, none))

-- text is JSON or it isn't
parsed : (bytes : List ℕ) (value : Option Data) → IsUtf8 bytes → read bytes ≡ value → IsDescribed bytes ⊎ DescriptionHasFault bytes
parsed bytes None utf none = inr (no_text bytes (λ u. none))
parsed bytes (Some d) utf some = judged bytes d (fault_of d) (utf, some) refl

-- bytes are text or they aren't
decoded : (bytes : List ℕ) (utf : Bool) → is_utf8 bytes ≡ utf → IsDescribed bytes ⊎ DescriptionHasFault bytes
decoded bytes true is = parsed bytes (read bytes) (IsUtf8-from_is_utf8 bytes is) refl
decoded bytes false is = inr (no_text bytes (λ u. let both : true ≡ false = sym (is_utf8-from_IsUtf8 bytes u) ∙ is in cc))

pub one : (bytes : List ℕ) → IsDescribed bytes ⊎ DescriptionHasFault bytes
one bytes = decoded bytes (is_utf8 bytes) refl

-- a text isn't none
is_text : (bytes : List ℕ) (d : Data) → IsText bytes d → IsNoText bytes → ⊥
is_text bytes d text none = let same : Some d ≡ None = sym text.1 ∙ none text.0 in cc

-- a text has one value
same_value : (bytes : List ℕ) (d e : Data) → IsText bytes d → IsText bytes e → d ≡ e
same_value bytes d e one other = let same : Some d ≡ Some e = sym one.1 ∙ other.1 in cc

pub not_both : (bytes : List ℕ) (rows : DescRow) (f : Fault) → WellFormed bytes rows → IsFaulty bytes f → ⊥
not_both bytes rows f good (inl none) = is_text bytes good.0 good.1.0 none.1
not_both bytes rows f good (inr bad) =
    let is : good.0 ≡ bad.0 = same_value bytes good.0 bad.0 good.1.0 bad.1.0 in
    let both : None ≡ Some f = sym good.1.1 ∙ ap fault_of is ∙ bad.1.1 in
    cc

pub same_rows : (bytes : List ℕ) (rows others : DescRow) → WellFormed bytes rows → WellFormed bytes others → rows ≡ others
same_rows bytes rows others one other =
    one.1.2 ∙ ap description_of (same_value bytes one.0 other.0 one.1.0 other.1.0) ∙ sym other.1.2

pub same_fault : (bytes : List ℕ) (f other : Fault) → IsFaulty bytes f → IsFaulty bytes other → f ≡ other
same_fault bytes f other (inl none) (inl neither) = none.0 ∙ sym neither.0
same_fault bytes f other (inl none) (inr bad) = absurd (is_text bytes bad.0 bad.1.0 none.1)
same_fault bytes f other (inr bad) (inl none) = absurd (is_text bytes bad.0 bad.1.0 none.1)
same_fault bytes f other (inr bad) (inr worse) =
    let both : Some f ≡ Some other = sym bad.1.1 ∙ ap fault_of (same_value bytes bad.0 worse.0 bad.1.0 worse.1.0) ∙ worse.1.1 in
    cc
