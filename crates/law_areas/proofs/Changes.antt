-- Changes that keep to a range of granules.
use Rattle.std.proofs.Common.{ℕ, ◌≡◌, ◌+◌, ◌-◌, ◌/◌, ◌%◌, ◌≤◌, inl, inr, List, length, refl, sym, ◌∙◌, arith}
use Rattle.std.proofs.lemmas.List.{length-set, ext_get_or}
use Rattle.law_granules.proofs.Lists.{store_rest, store_marks, cap_rest, cap_marks, zeroed_length, zeroed_at}
use Rattle.def_words.specs.declared.Cap.{Cap}
use Rattle.def_memory.specs.declared.Granule.{Granule}
use Rattle.def_memory.specs.Granules.{nothing, granule_at, holding_all}
use Rattle.def_memory.specs.Accesses.{stored, stored_cap}
use Rattle.def_memory.specs.Ranges.{IsZeroed, zeroed_from}
use Rattle.def_areas.specs.Touches.{Touches}
use Rattle.law_areas.proofs.Writes.{all_length, all_mark, all_other}

pub all_touches : (gs : List Granule) (k : ℕ) (cs : List Cap) → Touches k (k + length cs) gs (holding_all gs k cs)
all_touches gs k cs = record { size = all_length gs k cs; marks = λ m. all_mark gs k cs m; rest = λ m out. all_other gs k m cs out }

pub store_touches : (gs : List Granule) (at width value : ℕ) → Touches (at / 8) (at / 8 + 1) gs (stored gs at width value)
store_touches gs at width value = record {
  size = length-set gs (at / 8) _;
  marks = λ m. store_marks gs at width value m;
  rest = λ m out. store_rest gs at width value m (λ e. elim out [ inl a ↦ omega (arith, a, e) | inr b ↦ omega (arith, b, e) ]);
}

pub store_cap_touches : (gs : List Granule) (at : ℕ) (c : Cap) → Touches (at / 8) (at / 8 + 1) gs (stored_cap gs at c)
store_cap_touches gs at c = record {
  size = length-set gs (at / 8) _;
  marks = λ m. cap_marks gs at c m;
  rest = λ m out. cap_rest gs at c m (λ e. elim out [ inl a ↦ omega (arith, a, e) | inr b ↦ omega (arith, b, e) ]);
}

-- so many bytes that were zeroed from an offset on are those from an address on
pub cleared_is : (ram from bytes : ℕ) (old new : List Granule) → ram ≤ from → IsZeroed (from - ram) (from - ram + bytes) old new
    → new ≡ zeroed_from from (from + bytes) ram old
cleared_is ram from bytes old new low is =
    ext_get_or nothing new (zeroed_from from (from + bytes) ram old) (is.size ∙ sym (zeroed_length from (from + bytes) ram old))
    (λ k lt. zeroed_at from (from + bytes) ram old k (λ g. granule_at new k ≡ g)
    (λ a b. is.zero k (omega (arith, a, low), omega (arith, b, low)))
    (λ o. is.rest k (elim o [ inl a ↦ inl (omega (arith, a, low)) | inr b ↦ inr (omega (arith, b, low)) ])))

pub zeroed_touches : (gs : List Granule) (ram from to : ℕ) → ram ≤ from → from % 8 ≡ ram % 8 → to % 8 ≡ ram % 8
    → Touches ((from - ram) / 8) ((to - ram) / 8) gs (zeroed_from from to ram gs)
zeroed_touches gs ram from to low even whole = record {
  size = zeroed_length from to ram gs;
  marks = λ k. zeroed_at from to ram gs k (λ g. g.mark ≡ (granule_at gs k).mark) (λ a b. refl) (λ o. refl);
  rest = λ k out. zeroed_at from to ram gs k (λ g. g ≡ granule_at gs k)
      (λ a b. absurd (elim out [ inl c ↦ omega (arith, a, c, low, even) | inr c ↦ omega (arith, b, c, low, whole) ])) (λ o. refl);
}

-- a change that keeps to a part of a range, and two after one another
pub touches_more : (lo hi low high : ℕ) (gs hs : List Granule) → low ≤ lo → hi ≤ high → Touches lo hi gs hs → Touches low high gs hs
touches_more lo hi low high gs hs below above t = record {
  size = t.size;
  marks = t.marks;
  rest = λ k out. t.rest k (elim out [ inl a ↦ inl (omega (arith, a, below)) | inr b ↦ inr (omega (arith, b, above)) ]);
}

-- nothing is touched
pub unchanged : (gs : List Granule) (lo hi : ℕ) → Touches lo hi gs gs
unchanged gs lo hi = record { size = refl; marks = λ k. refl; rest = λ k out. refl }
