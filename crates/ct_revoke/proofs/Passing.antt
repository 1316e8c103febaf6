-- The tagged granules of a range, least first.
use Rattle.std.proofs.Common.{ℕ, ◌≡◌, ◌+◌, ◌*◌, ◌/◌, ◌≤◌, ◌<◌, inl, inr, true, false, List, length, min, refl, sym, ap, ◌∙◌, arith, subst}
use Rattle.std.proofs.lemmas.List.{get_or-set_same, length-set}
use Rattle.std.proofs.lemmas.Bool.{cases_eq}
use Rattle.law_lists.proofs.Tests.{lt_tells}
use Rattle.def_words.specs.declared.Cap.{Cap}
use Rattle.def_words.specs.Authority.{cap_base}
use Rattle.def_memory.specs.declared.Granule.{Granule}
use Rattle.def_memory.specs.Granules.{nothing, granule_at}
use Rattle.def_memory.specs.Accesses.{loaded_cap, stored_cap}
use Rattle.def_memory.specs.Ranges.{InsideRange, IsNextTagged, is_tagged}
use Rattle.def_machine.specs.Memory.{filtered_in, is_marked_in}
use Rattle.law_granules.proofs.Lists.{cap_rest, past_untagged}
use Rattle.ct_revoke.specs.Slices.{CleanFrom, IsSliced}
use Rattle.ct_revoke.proofs.Filters.{SameMarks, filters_alike, marked_alike, untagged_passes, passes_clean}

-- so far the granules below `at` are passed, and none at or past `high` is
pub record Passing (ram low high at : ℕ) (old new : List Granule) : Type 0 where
  pub order : low ≤ at
  pub sliced : IsSliced ram low at old new
  pub within : (k : ℕ) → low ≤ 8 * k → 8 * k < at → 8 * k < high

pub begins : (ram low high : ℕ) (gs : List Granule) → Passing ram low high low gs gs
begins ram low high gs = record {
  order = omega arith;
  sliced = record { size = refl; passed = λ k h. absurd (omega (arith, h.0, h.1)); rest = λ k h. refl };
  within = λ k a b. absurd (omega (arith, a, b));
}

-- ---- marks stay

pub sliced_marks : (ram low high : ℕ) (old new : List Granule) → IsSliced ram low high old new → SameMarks new old
sliced_marks ram low high old new is k = elim (lt_tells (8 * k) low) [
  | inl below ↦ ap (λ (g : Granule). g.mark) (is.rest k (inl below.1))
  | inr above ↦ elim (lt_tells (8 * k) high) [
    | inl inside ↦ ap (λ (g : Granule). g.mark) (is.passed k (above.1, inside.1))
    | inr past ↦ ap (λ (g : Granule). g.mark) (is.rest k (inr past.1))
  ]
]

-- what stands untagged reads as passed
untagged_is_passed : (ram : ℕ) (gs : List Granule) (k : ℕ) → is_tagged gs k ≡ false → granule_at gs k ≡ record (granule_at gs k) { cap = filtered_in ram gs (granule_at gs k).cap }
untagged_is_passed ram gs k none = ap (λ (c : Cap). record (granule_at gs k) { cap = c }) (sym (untagged_passes ram gs (granule_at gs k).cap none))

-- the granules up to another offset are passed, where none from `at` on is tagged
pub passed_on : (ram low high at to : ℕ) (old new : List Granule) → Passing ram low high at old new → ((k : ℕ) → at ≤ 8 * k → 8 * k < to → is_tagged new k ≡ false)
    → (k : ℕ) → InsideRange low to k → granule_at new k ≡ record (granule_at old k) { cap = filtered_in ram old (granule_at old k).cap }
passed_on ram low high at to old new p none k inside = elim (lt_tells (8 * k) at) [
  | inl below ↦ p.sliced.passed k (inside.0, below.1)
  | inr above ↦
      let same : granule_at new k ≡ granule_at old k = p.sliced.rest k (inr above.1) in
      let free : is_tagged old k ≡ false = ap (λ (g : Granule). g.cap.tag) (sym same) ∙ none k above.1 inside.1 in
      same ∙ untagged_is_passed ram old k free
]

-- ---- one more granule

pub passes_next : (ram low high at found : ℕ) (old new after : List Granule) → Passing ram low high at old new → IsNextTagged new at found → found < high
    → after ≡ stored_cap new found (filtered_in ram new (loaded_cap new found)) → Passing ram low high (found + 8) old after
passes_next ram low high at found old new after p next under is =
    let whole : 8 * (found / 8) ≡ found = let even = next.aligned in omega (arith, even) in
    let later : at ≤ found = next.later in
    let order : low ≤ at = p.order in
    let inside : found / 8 < length new = let here = next.inside in omega (arith, here, whole) in
    let same : granule_at new (found / 8) ≡ granule_at old (found / 8) = p.sliced.rest (found / 8) (inr (omega (arith, whole, later))) in
    let others : (k : ℕ) → (8 * k ≡ found → ⊥) → granule_at after k ≡ granule_at new k = λ k other.
    ap (λ gs. granule_at gs k) is ∙ cap_rest new found (filtered_in ram new (loaded_cap new found)) k (λ e. other (ap (λ n. 8 * n) e ∙ whole)) in
    let here : granule_at after (found / 8) ≡ record (granule_at old (found / 8)) { cap = filtered_in ram old (granule_at old (found / 8)).cap } =
    ap (λ gs. granule_at gs (found / 8)) is
    ∙ get_or-set_same new (found / 8) (record { cap = filtered_in ram new (loaded_cap new found); mark = (granule_at new (found / 8)).mark }) nothing inside
    ∙ ap (λ (g : Granule). record g { cap = filtered_in ram new g.cap }) same
    ∙ ap (λ (c : Cap). record (granule_at old (found / 8)) { cap = c }) (filters_alike ram new old (granule_at old (found / 8)).cap (sliced_marks ram low at old new p.sliced)) in
    record {
      order = omega (arith, order, later);
      sliced = record {
        size = ap length is ∙ length-set new (found / 8) _ ∙ p.sliced.size;
        passed = λ k h. elim (cases_eq (8 * k) found) [
          | inl e ↦
              let place : k ≡ found / 8 = omega (arith, e, whole) in
              subst (λ n. granule_at after n ≡ record (granule_at old n) { cap = filtered_in ram old (granule_at old n).cap }) (sym place) here
          | inr other ↦ others k other ∙ passed_on ram low high at found old new p next.least k (h.0, below k other h.1 whole)
        ];
        rest = λ k h. elim h [
          | inl before ↦ others k (λ e. absurd (omega (arith, e, before, order, later))) ∙ p.sliced.rest k (inl before)
          | inr past ↦ others k (λ e. absurd (omega (arith, e, past))) ∙ p.sliced.rest k (inr (omega (arith, past, later)))
        ];
      };
      within = λ k a b. less k b whole;
    }
  where
    below : (k : ℕ) → (8 * k ≡ found → ⊥) → 8 * k < found + 8 → 8 * (found / 8) ≡ found → 8 * k < found
    below k other lt whole = elim (lt_tells (8 * k) found) [ inl e ↦ e.1 | inr e ↦ let up = e.1 in absurd (other (omega (arith, up, lt, whole))) ]

    less : (k : ℕ) → 8 * k < found + 8 → 8 * (found / 8) ≡ found → 8 * k < high
    less k lt whole = omega (arith, lt, whole, under)

-- ---- the end

pub finishes : (ram low high at : ℕ) (old new : List Granule) → Passing ram low high at old new → ((k : ℕ) → at ≤ 8 * k → 8 * k < high → is_tagged new k ≡ false) → IsSliced ram low high old new
finishes ram low high at old new p none = record {
  size = p.sliced.size;
  passed = passed_on ram low high at high old new p none;
  rest = λ k h. elim h [
    | inl before ↦ p.sliced.rest k (inl before)
    | inr past ↦ elim (lt_tells (8 * k) at) [
      | inl below ↦ elim (lt_tells (8 * k) low) [
        | inl before ↦ p.sliced.rest k (inl before.1)
        | inr from ↦ let under = p.within k from.1 below.1 in absurd (omega (arith, under, past))
      ]
      | inr above ↦ p.sliced.rest k (inr above.1)
    ]
  ];
}

-- none is left up to the end of the range, or of memory
pub finishes_within : (ram low high at end : ℕ) (old new : List Granule) → Passing ram low high at old new → end ≡ min high (8 * length old)
    → ((k : ℕ) → InsideRange at end k → is_tagged new k ≡ false) → IsSliced ram low high old new
finishes_within ram low high at end old new p is none =
    finishes ram low high at old new p
    (λ k a b. elim (lt_tells (8 * k) end) [
      | inl within ↦ none k (a, within.1)
      | inr past ↦ past_untagged new k (let size = p.sliced.size in let le = past.1 in omega (arith, b, le, is, size))
    ])

-- ---- what a slice leaves is clean

pub sliced_clean : (ram low high : ℕ) (old new : List Granule) → IsSliced ram low high old new → CleanFrom ram low high new
sliced_clean ram low high old new is k inside tagged =
    let c : Cap = (granule_at old k).cap in
    let same : (granule_at new k).cap ≡ filtered_in ram old c = ap (λ (g : Granule). g.cap) (is.passed k inside) in
    let tag : (filtered_in ram old c).tag ≡ true = ap (λ (d : Cap). d.tag) (sym same) ∙ tagged in
    marked_alike ram new old (cap_base (granule_at new k).cap) (sliced_marks ram low high old new is)
    ∙ ap (λ (d : Cap). is_marked_in ram old (cap_base d)) same ∙ passes_clean ram old c tag
