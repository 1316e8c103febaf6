-- Accesses to a list of granules.
use Rattle.std.proofs.Common.{ℕ, zero, suc, ◌≡◌, ◌+◌, ◌*◌, ◌/◌, ◌%◌, ◌^◌, ◌<◌, ◌≤◌, ◌⊎◌, inl, inr, Bool, true, false, List, [], ◌∷◌, length, refl, sym, ap, ◌∙◌, arith, subst}
use Rattle.std.proofs.Math.ListN.{set, replicate}
use Rattle.std.proofs.lemmas.Bool.{cases_eq}
use Rattle.std.proofs.lemmas.List.{get_or-set_same, get_or-set_other, set_comm, ext_get_or}
use Rattle.law_lists.proofs.Sets.{after_set_at}
use Rattle.law_lists.proofs.Tests.{lt_tells, chosen_in}
use Rattle.def_words.specs.declared.Cap.{Cap}
use Rattle.def_words.specs.Capability.{IsSettled}
use Rattle.def_memory.specs.declared.Granule.{Granule}
use Rattle.def_memory.specs.Granules.{plain, nothing, granule_at, cap_in, blank}
use Rattle.def_memory.specs.Accesses.{IsAccess, Disjoint, part_of, with_part, loaded, stored, loaded_cap, stored_cap, byte_at}
use Rattle.def_memory.specs.Ranges.{IsZeroed, IsMarked, zeroed, zeroed_from, mark_range, marked_from, IsNextTagged, NoneTagged, is_tagged}
use Rattle.law_granules.proofs.Words.{words_comm, words_same, words_below, words_above, pair_of, four_of}

set_twice : {A : Type 0} (xs : List A) (i : ℕ) (x y : A) → set (set xs i x) i y ≡ set xs i y
set_twice [] i x y = refl
set_twice (z ∷ zs) zero x y = refl
set_twice (z ∷ zs) (suc i) x y = ap (λ r. z ∷ r) (set_twice zs i x y)

-- what is plain is settled
pub plain_settled : (n : ℕ) → IsSettled (plain n)
plain_settled n e = refl

-- granules of nothing hold zero
pub none_held : (n k : ℕ) → cap_in (replicate n nothing) k ≡ plain 0
none_held zero k = refl
none_held (suc n) zero = refl
none_held (suc n) (suc k) = none_held n k

-- an access lies in one granule of the list
pub in_list : (gs : List Granule) (at width : ℕ) → IsAccess (8 * length gs) at width → at / 8 < length gs
in_list gs at width is = let h = is.inside in elim is.known [ inl e ↦ omega (arith, e) | inr r ↦ elim r [ inl e ↦ omega (arith, e) | inr e ↦ omega (arith, e) ] ]

-- a plain store clears the tag that it touches
pub store_untags : (gs : List Granule) (at width value : ℕ) → at / 8 < length gs → is_tagged (stored gs at width value) (at / 8) ≡ false
store_untags gs at width value inside =
    ap (λ (g : Granule). g.cap.tag) (get_or-set_same gs (at / 8) (record { cap = plain (with_part (granule_at gs (at / 8)).cap.word (at % 8) width value); mark = (granule_at gs (at / 8)).mark }) nothing inside)

pub store_rest : (gs : List Granule) (at width value k : ℕ) → (k ≡ at / 8 → ⊥) → granule_at (stored gs at width value) k ≡ granule_at gs k
store_rest gs at width value k other =
    get_or-set_other gs (at / 8) k (record { cap = plain (with_part (granule_at gs (at / 8)).cap.word (at % 8) width value); mark = (granule_at gs (at / 8)).mark }) nothing other

pub store_marks : (gs : List Granule) (at width value k : ℕ) → (granule_at (stored gs at width value) k).mark ≡ (granule_at gs k).mark
store_marks gs at width value k =
    let P : ℕ → Granule → Type 0 = λ n g. g.mark ≡ (granule_at gs n).mark in
    after_set_at P gs (at / 8) k (record { cap = plain (with_part (granule_at gs (at / 8)).cap.word (at % 8) width value); mark = (granule_at gs (at / 8)).mark }) nothing refl refl

pub cap_marks : (gs : List Granule) (at : ℕ) (c : Cap) (k : ℕ) → (granule_at (stored_cap gs at c) k).mark ≡ (granule_at gs k).mark
cap_marks gs at c k =
    let P : ℕ → Granule → Type 0 = λ n g. g.mark ≡ (granule_at gs n).mark in
    after_set_at P gs (at / 8) k (record { cap = c; mark = (granule_at gs (at / 8)).mark }) nothing refl refl

pub cap_back : (gs : List Granule) (at : ℕ) (c : Cap) → at / 8 < length gs → loaded_cap (stored_cap gs at c) at ≡ c
cap_back gs at c inside = ap (λ (g : Granule). g.cap) (get_or-set_same gs (at / 8) (record { cap = c; mark = (granule_at gs (at / 8)).mark }) nothing inside)

pub cap_rest : (gs : List Granule) (at : ℕ) (c : Cap) (k : ℕ) → (k ≡ at / 8 → ⊥) → granule_at (stored_cap gs at c) k ≡ granule_at gs k
cap_rest gs at c k other = get_or-set_other gs (at / 8) k (record { cap = c; mark = (granule_at gs (at / 8)).mark }) nothing other

abbrev made : Granule → ℕ → ℕ → ℕ → Granule
made g from width value = record { cap = plain (with_part g.cap.word from width value); mark = g.mark }

pub load_back : (gs : List Granule) (at width value : ℕ) → at / 8 < length gs → loaded (stored gs at width value) at width ≡ value % 2 ^ (8 * width)
load_back gs at width value inside =
    ap (λ (g : Granule). part_of g.cap.word (at % 8) width) (get_or-set_same gs (at / 8) (made (granule_at gs (at / 8)) (at % 8) width value) nothing inside)
    ∙ words_same (granule_at gs (at / 8)).cap.word (at % 8) width value

-- what was stored elsewhere isn't loaded
pub load_rest : (gs : List Granule) (at width value other span : ℕ) → at / 8 < length gs → Disjoint at width other span → loaded (stored gs at width value) other span ≡ loaded gs other span
load_rest gs at width value other span inside apart = elim (cases_eq (other / 8) (at / 8)) [
  | inl e ↦
      let here : granule_at (stored gs at width value) (other / 8) ≡ made (granule_at gs (other / 8)) (at % 8) width value =
      let P : ℕ → Type 0 = λ n. granule_at (stored gs at width value) n ≡ made (granule_at gs n) (at % 8) width value in
      subst P (sym e) (get_or-set_same gs (at / 8) (made (granule_at gs (at / 8)) (at % 8) width value) nothing inside) in
      ap (λ (g : Granule). part_of g.cap.word (other % 8) span) here
      ∙ elim apart [
        | inl before ↦ words_above (granule_at gs (other / 8)).cap.word (at % 8) width value (other % 8) span (omega arith)
        | inr after ↦ words_below (granule_at gs (other / 8)).cap.word (other % 8) span (at % 8) width value (omega arith)
      ]
  | inr n ↦ ap (λ (g : Granule). part_of g.cap.word (other % 8) span) (store_rest gs at width value (other / 8) n)
]

-- two changes of one granule
same_granule : (gs : List Granule) (i p n v q m u : ℕ) → i < length gs → (p + n ≤ q) ⊎ (q + m ≤ p)
    → set (set gs i (made (granule_at gs i) p n v)) i (made (granule_at (set gs i (made (granule_at gs i) p n v)) i) q m u)
    ≡ set (set gs i (made (granule_at gs i) q m u)) i (made (granule_at (set gs i (made (granule_at gs i) q m u)) i) p n v)
same_granule gs i p n v q m u inside apart =
    let x = made (granule_at gs i) p n v in
    let y = made (granule_at gs i) q m u in
    let first : granule_at (set gs i (made (granule_at gs i) p n v)) i ≡ made (granule_at gs i) p n v = get_or-set_same gs i x nothing inside in
    let second : granule_at (set gs i (made (granule_at gs i) q m u)) i ≡ made (granule_at gs i) q m u = get_or-set_same gs i y nothing inside in
    let word = (granule_at gs i).cap.word in
    let order : with_part (with_part word p n v) q m u ≡ with_part (with_part word q m u) p n v =
    elim apart [ inl l ↦ words_comm word p n v q m u l | inr r ↦ sym (words_comm word q m u p n v r) ] in
    let both : made (made (granule_at gs i) p n v) q m u ≡ made (made (granule_at gs i) q m u) p n v =
    let put_in : ℕ → Granule = λ k. record { cap = plain k; mark = (granule_at gs i).mark } in ap put_in order in
    set_twice gs i x (made (granule_at (set gs i x) i) q m u) ∙ ap (λ g. set gs i (made g q m u)) first ∙ ap (λ g. set gs i g) both
    ∙ ap (λ g. set gs i (made g p n v)) (sym second) ∙ sym (set_twice gs i y (made (granule_at (set gs i y) i) p n v))

-- stores that share no byte commute
pub store_comm : (gs : List Granule) (at width value other span more : ℕ) → at / 8 < length gs → Disjoint at width other span
    → stored (stored gs at width value) other span more ≡ stored (stored gs other span more) at width value
store_comm gs at width value other span more inside apart = elim (cases_eq (at / 8) (other / 8)) [
  | inl e ↦
      let P : ℕ → Type 0 = λ j.
      set (set gs (at / 8) (made (granule_at gs (at / 8)) (at % 8) width value)) j (made (granule_at (set gs (at / 8) (made (granule_at gs (at / 8)) (at % 8) width value)) j) (other % 8) span more)
      ≡ set (set gs j (made (granule_at gs j) (other % 8) span more)) (at / 8) (made (granule_at (set gs j (made (granule_at gs j) (other % 8) span more)) (at / 8)) (at % 8) width value) in
      let order : (at % 8 + width ≤ other % 8) ⊎ (other % 8 + span ≤ at % 8) = elim apart [ inl before ↦ inl (omega arith) | inr after ↦ inr (omega arith) ] in
      subst P e (same_granule gs (at / 8) (at % 8) width value (other % 8) span more inside order)
  | inr n ↦
      let x = made (granule_at gs (at / 8)) (at % 8) width value in
      let y = made (granule_at gs (other / 8)) (other % 8) span more in
      ap (λ g. set (set gs (at / 8) x) (other / 8) (made g (other % 8) span more)) (store_rest gs at width value (other / 8) (λ e. n (sym e)))
      ∙ set_comm gs (at / 8) (other / 8) x y n
      ∙ sym (ap (λ g. set (set gs (other / 8) y) (at / 8) (made g (at % 8) width value)) (store_rest gs other span more (at / 8) n))
]

-- the range as a function and as facts
pub zeroed_length : (from to place : ℕ) (gs : List Granule) → length (zeroed_from from to place gs) ≡ length gs
zeroed_length from to place [] = refl
zeroed_length from to place (g ∷ gs) = ap (λ n. suc n) (zeroed_length from to (place + 8) gs)

pub zeroed_at : (from to place : ℕ) (gs : List Granule) (k : ℕ) (P : Granule → Type 0) → (from ≤ place + 8 * k → place + 8 * k < to → P (blank (granule_at gs k))) → ((place + 8 * k < from) ⊎ (to ≤ place + 8 * k) → P (granule_at gs k))
    → P (granule_at (zeroed_from from to place gs) k)
zeroed_at from to place [] k P in_it out_of = elim (lt_tells (place + 8 * k) from) [
  | inl e ↦ out_of (inl e.1)
  | inr e ↦ elim (lt_tells (place + 8 * k) to) [ inl f ↦ in_it e.1 f.1 | inr f ↦ out_of (inr f.1) ]
]
zeroed_at from to place (g ∷ gs) zero P in_it out_of =
    chosen_in P from to place (blank g) g (λ a b. in_it (omega (arith, a)) (omega (arith, b))) (λ o. out_of (elim o [ inl a ↦ inl (omega (arith, a)) | inr b ↦ inr (omega (arith, b)) ]))
zeroed_at from to place (g ∷ gs) (suc k) P in_it out_of =
    zeroed_at from to (place + 8) gs k P (λ a b. in_it (omega (arith, a)) (omega (arith, b))) (λ o. out_of (elim o [ inl a ↦ inl (omega (arith, a)) | inr b ↦ inr (omega (arith, b)) ]))

pub zeroed_holds : (from to : ℕ) (gs : List Granule) → IsZeroed from to gs (zeroed from to gs)
zeroed_holds from to gs = record {
  size = zeroed_length from to 0 gs;
  zero = λ k within. zeroed_at from to 0 gs k (λ g. g ≡ blank (granule_at gs k)) (λ a b. refl) (λ o. absurd (elim o [ inl a ↦ omega (arith, a, within.0) | inr b ↦ omega (arith, b, within.1) ]));
  rest = λ k outside. zeroed_at from to 0 gs k (λ g. g ≡ granule_at gs k) (λ a b. absurd (elim outside [ inl c ↦ omega (arith, a, c) | inr c ↦ omega (arith, b, c) ])) (λ o. refl);
}

pub zeroed_is : (from to : ℕ) (old new : List Granule) → IsZeroed from to old new → new ≡ zeroed from to old
zeroed_is from to old new is =
    ext_get_or nothing new (zeroed from to old) (is.size ∙ sym (zeroed_length from to 0 old))
    (λ k lt. zeroed_at from to 0 old k (λ g. granule_at new k ≡ g) (λ a b. is.zero k (omega (arith, a), omega (arith, b))) (λ o. is.rest k (elim o [ inl a ↦ inl (omega (arith, a)) | inr b ↦ inr (omega (arith, b)) ])))

pub marked_length : (from to : ℕ) (on : Bool) (place : ℕ) (gs : List Granule) → length (marked_from from to on place gs) ≡ length gs
marked_length from to on place [] = refl
marked_length from to on place (g ∷ gs) = ap (λ n. suc n) (marked_length from to on (place + 8) gs)

-- past the end the mark stays as it is: nothing is there
pub marked_at : (from to : ℕ) (on : Bool) (place : ℕ) (gs : List Granule) (k : ℕ) (P : Granule → Type 0) → k < length gs → (from ≤ place + 8 * k → place + 8 * k < to → P (record (granule_at gs k) { mark = on })) → ((place + 8 * k < from) ⊎ (to ≤ place + 8 * k) → P (granule_at gs k))
    → P (granule_at (marked_from from to on place gs) k)
marked_at from to on place [] k P lt in_it out_of = absurd (omega (arith, lt))
marked_at from to on place (g ∷ gs) zero P lt in_it out_of =
    chosen_in P from to place (record g { mark = on }) g (λ a b. in_it (omega (arith, a)) (omega (arith, b))) (λ o. out_of (elim o [ inl a ↦ inl (omega (arith, a)) | inr b ↦ inr (omega (arith, b)) ]))
marked_at from to on place (g ∷ gs) (suc k) P lt in_it out_of =
    marked_at from to on (place + 8) gs k P (omega (arith, lt)) (λ a b. in_it (omega (arith, a)) (omega (arith, b))) (λ o. out_of (elim o [ inl a ↦ inl (omega (arith, a)) | inr b ↦ inr (omega (arith, b)) ]))

pub marked_is : (from to : ℕ) (on : Bool) (old new : List Granule) → IsMarked from to on old new → new ≡ mark_range from to on old
marked_is from to on old new is =
    ext_get_or nothing new (mark_range from to on old) (is.size ∙ sym (marked_length from to on 0 old))
    (λ k lt. let inside : k < length old = omega (arith, lt, is.size) in
    marked_at from to on 0 old k (λ g. granule_at new k ≡ g) inside (λ a b. is.marks k inside (omega (arith, a), omega (arith, b))) (λ o. is.rest k (elim o [ inl a ↦ inl (omega (arith, a)) | inr b ↦ inr (omega (arith, b)) ])))

-- past memory none is tagged
pub past_untagged : (gs : List Granule) (k : ℕ) → length gs ≤ k → is_tagged gs k ≡ false
past_untagged [] k le = refl
past_untagged (g ∷ gs) zero le = absurd (omega (arith, le))
past_untagged (g ∷ gs) (suc k) le = past_untagged gs k (omega (arith, le))

-- there is one least tagged granule, or none
pub next_one : (gs : List Granule) (from a b : ℕ) → IsNextTagged gs from a → IsNextTagged gs from b → a ≡ b
next_one gs from a b one two = elim (lt_tells a b) [
  | inl lt ↦
      let whole : 8 * (a / 8) ≡ a = omega (arith, one.aligned) in
      let none : is_tagged gs (a / 8) ≡ false = two.least (a / 8) (omega (arith, one.later)) (omega (arith, lt.1)) in
      absurd (let clash : true ≡ false = sym one.tagged ∙ none in cc)
  | inr ge ↦ elim (lt_tells b a) [
    | inl lt ↦
        let whole : 8 * (b / 8) ≡ b = omega (arith, two.aligned) in
        let none : is_tagged gs (b / 8) ≡ false = one.least (b / 8) (omega (arith, two.later)) (omega (arith, lt.1)) in
        absurd (let clash : true ≡ false = sym two.tagged ∙ none in cc)
    | inr ge_too ↦ omega (arith, ge.1, ge_too.1)
  ]
]

pub next_or_none : (gs : List Granule) (from a : ℕ) → IsNextTagged gs from a → NoneTagged gs from → ⊥
next_or_none gs from a one none =
    let whole : 8 * (a / 8) ≡ a = omega (arith, one.aligned) in
    let not : is_tagged gs (a / 8) ≡ false = none (a / 8) (omega (arith, one.later)) in
    let clash : true ≡ false = sym one.tagged ∙ not in cc

-- little-endian
pub two_bytes : (gs : List Granule) (at : ℕ) → at % 2 ≡ 0 → loaded gs at 2 ≡ byte_at gs at + 256 * byte_at gs (at + 1)
two_bytes gs at even =
    let same : (at + 1) / 8 ≡ at / 8 = omega (arith, even) in
    let next : (at + 1) % 8 ≡ at % 8 + 1 = omega (arith, even) in
    rw (same, next) (pair_of (granule_at gs (at / 8)).cap.word (at % 8))

pub four_bytes : (gs : List Granule) (at : ℕ) → at % 4 ≡ 0 → loaded gs at 4 ≡ byte_at gs at + 256 * byte_at gs (at + 1) + 65536 * byte_at gs (at + 2) + 16777216 * byte_at gs (at + 3)
four_bytes gs at even =
    let same1 : (at + 1) / 8 ≡ at / 8 = omega (arith, even) in
    let same2 : (at + 2) / 8 ≡ at / 8 = omega (arith, even) in
    let same3 : (at + 3) / 8 ≡ at / 8 = omega (arith, even) in
    let next1 : (at + 1) % 8 ≡ at % 8 + 1 = omega (arith, even) in
    let next2 : (at + 2) % 8 ≡ at % 8 + 2 = omega (arith, even) in
    let next3 : (at + 3) % 8 ≡ at % 8 + 3 = omega (arith, even) in
    rw (same1, same2, same3, next1, next2, next3) (four_of (granule_at gs (at / 8)).cap.word (at % 8))
