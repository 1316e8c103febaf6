-- What is asked of the regions of an image, and of these without their holders.
use Rattle.std.proofs.Common.{◌≡◌, ◌+◌, ◌&&◌, ◌||◌, not, Bool, true, false, nat_le, List, [], ◌∷◌, ◌++◌, map, refl, sym, ap, ◌∙◌}
use Rattle.std.specs.List.{list_any}
use Rattle.std.proofs.lemmas.List.{map-append}
use Rattle.def_image.specs.declared.Check.{Check}
use Rattle.def_image.specs.Parts.{PartsRow}
use Rattle.def_image.specs.Regions.{RegionRow, trusted_region, later_regions}
use Rattle.def_image.specs.Checks.{walked, check}
use Rattle.def_image.specs.Lying.{region_asked, is_laid_below, is_in_ram, is_even, meets_region}
use Rattle.def_words.specs.LeastBounds.{rounded_of}
use Rattle.ct_image.specs.declared.spans.Span.{Span}
use Rattle.ct_image.specs.Spans.{row_of, rows_of, unheld}
use Rattle.ct_image.specs.Lain.{is_span_astray, span_asked}

-- ---- without holders

meets_alike : (r : RegionRow) (rs : List RegionRow) → list_any (meets_region r) (map unheld rs) ≡ list_any (meets_region r) rs
meets_alike r [] = refl
meets_alike r (q ∷ qs) = ap (λ b. meets_region r q || b) (meets_alike r qs)

below_alike : (p : PartsRow) (earlier : List RegionRow) (r : RegionRow) → is_laid_below p (map unheld earlier) (unheld r) ≡ is_laid_below p earlier r
below_alike p earlier r =
    ap (λ m. is_in_ram p r && is_even r.base && is_even r.length && (rounded_of r.base (r.base + r.length)).exact && not (meets_region r (trusted_region p) || m) && nat_le (r.base + r.length) p.heap)
    (meets_alike r earlier)

abbrev walk : PartsRow → List RegionRow → List RegionRow → List Check
walk p earlier rs = walked (region_asked p) (λ r. 0) 0 earlier rs

unheld_walk : (p : PartsRow) (earlier rs : List RegionRow) → walk p (map unheld earlier) (map unheld rs) ≡ walk p earlier rs
unfolding walked
unheld_walk p earlier [] = refl
unheld_walk p earlier (r ∷ rs) =
    let grown : map unheld earlier ++ unheld r ∷ [] ≡ map unheld (earlier ++ r ∷ []) = sym (map-append unheld earlier (r ∷ [])) in
    ap (λ b. check r.place (not b) ∷ walk p (map unheld earlier ++ unheld r ∷ []) (map unheld rs)) (below_alike p earlier r)
    ∙ ap (λ (l : List Check). check r.place (not (is_laid_below p earlier r)) ∷ l) (ap (λ e. walk p e (map unheld rs)) grown ∙ unheld_walk p (earlier ++ r ∷ []) rs)

-- ---- as the code asks it

regrouped : (x m a b : Bool) → not (x && not (m || a) && b) ≡ (not (x && not a) || not b || (m || false))
regrouped false m a false = refl
regrouped false m a true = refl
regrouped true true true true = refl
regrouped true true true false = refl
regrouped true true false true = refl
regrouped true true false false = refl
regrouped true false true true = refl
regrouped true false true false = refl
regrouped true false false true = refl
regrouped true false false false = refl

-- the trusted region's base and length are those of its span
alike_bounds : (p : PartsRow) (trusted : Span) (r : RegionRow) → row_of trusted ≡ unheld (trusted_region p) → meets_region r (trusted_region p) ≡ meets_region r (row_of trusted)
alike_bounds p trusted r e = ap (λ q. meets_region r q) (sym e)

span_same : (p : PartsRow) (trusted : Span) (earlier : List Span) (s : Span) → row_of trusted ≡ unheld (trusted_region p)
    → not (is_laid_below p (rows_of earlier) (row_of s)) ≡ is_span_astray p trusted earlier s
span_same p trusted earlier s e =
    let r = row_of s in
    let x = is_in_ram p r && is_even r.base && is_even r.length && (rounded_of r.base (r.base + r.length)).exact in
    let a = list_any (meets_region r) (rows_of earlier) in
    let b = nat_le (r.base + r.length) p.heap in
    ap (λ m. not (x && not (m || a) && b)) (alike_bounds p trusted r e) ∙ regrouped x (meets_region r (row_of trusted)) a b

spans_walk : (p : PartsRow) (trusted : Span) (earlier spans : List Span) → row_of trusted ≡ unheld (trusted_region p)
    → walk p (rows_of earlier) (rows_of spans) ≡ walked (span_asked p trusted) (λ s. 0) 0 earlier spans
unfolding walked
spans_walk p trusted earlier [] e = refl
spans_walk p trusted earlier (s ∷ ss) e =
    let grown : rows_of earlier ++ row_of s ∷ [] ≡ rows_of (earlier ++ s ∷ []) = sym (map-append row_of earlier (s ∷ [])) in
    ap (λ b. check s.place b ∷ walk p (rows_of earlier ++ row_of s ∷ []) (rows_of ss)) (span_same p trusted earlier s e)
    ∙ ap (λ (l : List Check). check s.place (is_span_astray p trusted earlier s) ∷ l) (ap (λ l. walk p l (rows_of ss)) grown ∙ spans_walk p trusted (earlier ++ s ∷ []) ss e)

-- the regions after the trusted one, as the code lists them
pub later_asked : (p : PartsRow) (trusted : Span) (spans : List Span) → row_of trusted ≡ unheld (trusted_region p) → rows_of spans ≡ map unheld (later_regions p)
    → walked (region_asked p) (λ r. 0) 0 [] (later_regions p) ≡ walked (span_asked p trusted) (λ s. 0) 0 [] spans
later_asked p trusted spans e f = sym (unheld_walk p [] (later_regions p)) ∙ ap (λ l. walk p [] l) (sym f) ∙ spans_walk p trusted [] spans e
