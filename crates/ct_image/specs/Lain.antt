-- Where ranges lie, as the code asks it.
use Rattle.std.specs.Prelude.{ℕ, ◌+◌, ◌&&◌, ◌||◌, not, Bool, nat_le, List, [], ◌∷◌}
use Rattle.std.specs.List.{list_any}
use Rattle.def_image.specs.declared.Check.{Check}
use Rattle.def_image.specs.Parts.{PartsRow}
use Rattle.def_image.specs.Checks.{check}
use Rattle.def_image.specs.Lying.{is_laid, meets_region}
use Rattle.ct_image.specs.declared.spans.Span.{Span}
use Rattle.ct_image.specs.Spans.{row_of, rows_of}

abbrev pub is_inside : ℕ → ℕ → ℕ → ℕ → Bool
is_inside ram size base length = nat_le ram base && nat_le (base + length) (ram + size)

-- of a region after the trusted one
abbrev pub is_span_astray : PartsRow → Span → List Span → Span → Bool
is_span_astray p trusted earlier s =
    not (is_laid p (rows_of earlier) (row_of s)) || not (nat_le (s.base + s.length) p.heap)
    || list_any (meets_region (row_of s)) (rows_of (trusted ∷ []))

abbrev pub span_asked : PartsRow → Span → ℕ → List Span → Span → List Check
span_asked p trusted at earlier s = check s.place (is_span_astray p trusted earlier s) ∷ []
