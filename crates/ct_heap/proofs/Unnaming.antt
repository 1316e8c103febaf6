-- Painted chunks leave the table, one by one.
use Rattle.std.proofs.Common.{ℕ, zero, suc, ◌≡◌, ◌+◌, ◌-◌, ◌*◌, ◌/◌, ◌%◌, ◌^◌, ◌<◌, ◌≤◌, ◌⊎◌, inl, inr, ◌&&◌, ◌||◌, Bool, true, false, cond, nat_eq, nat_le, nat_lt, List, [], ◌∷◌, ◌++◌, map, length, refl, sym, ap, ◌∙◌, arith, subst}
use Rattle.std.proofs.Math.ListN.{get_or, set}
use Rattle.std.proofs.lemmas.Bool.{cases_eq}
use Rattle.std.proofs.lemmas.List.{get_or-set_same, length-set, append_assoc, append-nil}
use Rattle.std.proofs.Math.Bool.{or-false}
use Rattle.law_lists.proofs.Tests.{bool_tells, eq_tells, le_tells, lt_tells}
use Rattle.def_memory.specs.declared.Granule.{Granule}
use Rattle.def_memory.specs.Granules.{granule_at, nothing}
use Rattle.def_memory.specs.Ranges.{IsMarked}
use Rattle.def_chunks.specs.declared.rows.Range.{Range}
use Rattle.def_chunks.specs.Chunks.{Chunk, is_free, total_size, head_at, head_in, IsChunk, AreChunks}
use Rattle.def_chunks.specs.Tiles.{chunks, TilesSettled}
use Rattle.def_chunks.specs.Gaps.{ChunkStands}
use Rattle.def_chunks.specs.Heaps.{object_name_at, begins_used_chunk, quota_named, is_used_at}
use Rattle.law_chunks.proofs.Lays.{total_both, are_split, are_join}
use Rattle.law_chunks.proofs.Reading.{sits}
use Rattle.law_chunks.proofs.Rows.{UsedStarts}
use Rattle.law_chunks.proofs.Kept.{settled_same}
use Rattle.ct_chunks.proofs.Painting.{tells}
use Rattle.ct_heap.specs.Steps.{waiting_chunks, staying_chunks, let_go, is_painted_in, UnnamesChunk, Unnames}
use Rattle.ct_heap.proofs.Named.{used_low, used_high, used_apart, used_says, used_between, used_split, used_first, used_second, tests_same, named_same, set_elsewhere}

-- ---- chunks without their painted objects

pub let_go_size : (c : Chunk) → (let_go c).size ≡ c.size
let_go_size c = elim (bool_tells (nat_eq c.state 3)) [ inl e ↦ rw e refl | inr e ↦ rw e refl ]

pub let_go_are : (cs : List Chunk) → AreChunks cs → AreChunks (map let_go cs)
let_go_are [] are = tt
let_go_are (c ∷ cs) are = (
  elim (bool_tells (nat_eq c.state 3)) [
    | inl e ↦ rw e (record { whole = are.0.whole; some = are.0.some; used = λ u. absurd (let clash : true ≡ false = u in cc); states = omega arith; number = omega arith; blank = λ f. refl })
    | inr e ↦ rw e are.0
  ],
  let_go_are cs are.1,
)

pub let_go_total : (cs : List Chunk) → total_size (map let_go cs) ≡ total_size cs
let_go_total [] = refl
let_go_total (c ∷ cs) = let first = let_go_size c in let rest = let_go_total cs in omega (arith, first, rest)

map_both : (xs ys : List Chunk) → map let_go (xs ++ ys) ≡ map let_go xs ++ map let_go ys
map_both [] ys = refl
map_both (x ∷ xs) ys = ap (λ l. let_go x ∷ l) (map_both xs ys)

painted_both : (p at : ℕ) (xs ys : List Chunk) → is_painted_in p at (xs ++ ys) ≡ (is_painted_in p at xs || is_painted_in p (at + total_size xs) ys)
painted_both p at [] ys = let here : at + 0 ≡ at = omega arith in rw here refl
painted_both p at (x ∷ xs) ys =
    let there : at + (x.size + total_size xs) ≡ at + x.size + total_size xs = omega arith in
    let rest = painted_both p (at + x.size) xs ys in
    rw there (elim (bool_tells (nat_eq x.state 3 && nat_le at p && nat_lt p (at + x.size))) [ inl e ↦ rw e refl | inr e ↦ rw e rest ])

waiting_both : (xs ys : List Chunk) → waiting_chunks (xs ++ ys) ≡ waiting_chunks xs + waiting_chunks ys
waiting_both [] ys = omega arith
waiting_both (x ∷ xs) ys = let rest = waiting_both xs ys in omega (arith, rest)

staying_both : (xs ys : List Chunk) → staying_chunks (xs ++ ys) ≡ staying_chunks xs + staying_chunks ys
staying_both [] ys = omega arith
staying_both (x ∷ xs) ys = let rest = staying_both xs ys in omega (arith, rest)

-- ---- so far

pub record Unnaming (r : Range) (gs hs : List Granule) (names more : List ℕ) (now left : ℕ) : Type 0 where
  pub above : List Chunk
  pub rest : List Chunk
  pub whole : chunks r gs ≡ above ++ rest
  pub left_is : left ≡ total_size rest
  pub settled : TilesSettled r hs
  pub same : chunks r hs ≡ chunks r gs
  pub size : length hs ≡ length gs
  pub caps : (k : ℕ) → (granule_at hs k).cap ≡ (granule_at gs k).cap
  pub marks : (k : ℕ) → (granule_at hs k).mark ≡ cond (is_painted_in (r.ram + 8 * k) r.base above) false (granule_at gs k).mark
  pub entries : length more ≡ length names
  pub named : (o : ℕ) → o % 8 ≡ 0 → begins_used_chunk more o ≡ is_used_at (r.base + o) r.base (map let_go above ++ rest)
  pub quotas : (o : ℕ) → begins_used_chunk more o ≡ true → quota_named more o ≡ quota_named names o
  pub now_is : now ≡ staying_chunks above + waiting_chunks rest

pub unnaming_starts : (r : Range) (gs : List Granule) (names : List ℕ) (waiting : ℕ) → TilesSettled r gs → ((o : ℕ) → o % 8 ≡ 0 → begins_used_chunk names o ≡ is_used_at (r.base + o) r.base (chunks r gs)) → waiting ≡ waiting_chunks (chunks r gs) → Unnaming r gs gs names names waiting r.length
unnaming_starts r gs names waiting h named is = record {
  above = [];
  rest = chunks r gs;
  whole = refl;
  left_is = sym h.tiled.size;
  settled = h;
  same = refl;
  size = refl;
  caps = λ k. refl;
  marks = λ k. refl;
  entries = refl;
  named = named;
  quotas = λ o e. refl;
  now_is = omega (arith, is);
}

pub unnaming_stands : (r : Range) (gs hs : List Granule) (names more : List ℕ) (now left : ℕ) → Unnaming r gs hs names more now left → (left ≡ 0 → ⊥) → ChunkStands r hs (r.base + (r.length - left))
unnaming_stands r gs hs names more now left w some = first w.rest w.whole w.left_is
  where
    first : (rest : List Chunk) → chunks r gs ≡ w.above ++ rest → left ≡ total_size rest → ChunkStands r hs (r.base + (r.length - left))
    first [] whole is = absurd (some is)
    first (c ∷ cs) whole is =
        let both = total_both w.above (c ∷ cs) in
        let sum = sym (ap total_size (w.same ∙ whole)) ∙ w.settled.tiled.size in
        record { above = w.above; chunk = c; below = cs; whole = w.same ∙ whole; place = omega (arith, both, sum, is) }

-- what the code has to know
pub record Ahead (r : Range) (left now size one : ℕ) : Type 0 where
  pub most : left ≤ r.length
  pub fits : r.base + (r.length - left) < 2 ^ 32

pub unnaming_ahead : (r : Range) (gs hs : List Granule) (names more : List ℕ) (now left : ℕ) → Unnaming r gs hs names more now left → (left ≡ 0 → ⊥) → Ahead r left now 0 0
unnaming_ahead r gs hs names more now left w some =
    let s = unnaming_stands r gs hs names more now left w some in
    let k = sits r hs (r.base + (r.length - left)) w.settled.tiled s in
    let fits = k.fits in
    let wide = k.shape.some in
    let small = w.settled.tiled.small in
    let both = total_both w.above w.rest in
    let sum = sym (ap total_size (w.same ∙ w.whole)) ∙ w.settled.tiled.size in
    let is = w.left_is in
    record { most = omega (arith, both, sum, is); fits = omega (arith, fits, small, wide) }

-- ---- one more

pub record Unnamed (r : Range) (gs ks : List Granule) (names last : List ℕ) (now left size one : ℕ) : Type 0 where
  pub most : size ≤ left
  pub some : 8 ≤ size
  pub fewer : one ≤ now
  pub goes_on : Unnaming r gs ks names last (now - one) (left - size)

-- marking changes no capability
marked_caps : (gs hs : List Granule) (from to : ℕ) → IsMarked from to false gs hs → (k : ℕ) → k < length gs → (granule_at hs k).cap ≡ (granule_at gs k).cap
marked_caps gs hs from to is k inside = elim (le_tells from (8 * k)) [
  | inl a ↦ elim (lt_tells (8 * k) to) [
    | inl b ↦ ap (λ (g : Granule). g.cap) (is.marks k inside (a.1, b.1))
    | inr b ↦ ap (λ (g : Granule). g.cap) (is.rest k (inr b.1))
  ]
  | inr a ↦ ap (λ (g : Granule). g.cap) (is.rest k (inl a.1))
]

past_end : (gs : List Granule) (k : ℕ) → length gs ≤ k → granule_at gs k ≡ nothing
past_end [] k le = refl
past_end (g ∷ gs) zero le = absurd (omega (arith, le))
past_end (g ∷ gs) (suc k) le = past_end gs k (omega (arith, le))

all_caps : (gs hs : List Granule) (from to : ℕ) → IsMarked from to false gs hs → (k : ℕ) → (granule_at hs k).cap ≡ (granule_at gs k).cap
all_caps gs hs from to is k = elim (lt_tells k (length gs)) [
  | inl e ↦ marked_caps gs hs from to is k e.1
  | inr e ↦ (let size = is.size in let past = e.1 in ap (λ (g : Granule). g.cap) (past_end hs k (omega (arith, size, past)) ∙ sym (past_end gs k past)))
]

-- the test of the painted chunk
here_painted : (c : Chunk) (p at : ℕ) → nat_eq c.state 3 ≡ true → at ≤ p → p < at + c.size → (nat_eq c.state 3 && nat_le at p && nat_lt p (at + c.size)) ≡ true
here_painted c p at e a b =
    let a_ : nat_le at p ≡ true = elim (le_tells at p) [ inl x ↦ x.0 | inr x ↦ absurd (let lt = x.1 in omega (arith, lt, a)) ] in
    let b_ : nat_lt p (at + c.size) ≡ true = elim (lt_tells p (at + c.size)) [ inl x ↦ x.0 | inr x ↦ absurd (let ge = x.1 in omega (arith, ge, b)) ] in
    rw (e, a_, b_) refl

not_here : (c : Chunk) (p at : ℕ) → (p < at) ⊎ (at + c.size ≤ p) → (nat_eq c.state 3 && nat_le at p && nat_lt p (at + c.size)) ≡ false
not_here c p at out = elim (bool_tells (nat_eq c.state 3)) [
  | inr e ↦ rw e refl
  | inl e ↦ elim out [
    | inl a ↦ (let a_ : nat_le at p ≡ false = elim (le_tells at p) [ inl x ↦ absurd (let le = x.1 in omega (arith, le, a)) | inr x ↦ x.0 ] in rw (e, a_) refl)
    | inr b ↦ elim (bool_tells (nat_le at p)) [
      | inr x ↦ rw (e, x) refl
      | inl x ↦ (let b_ : nat_lt p (at + c.size) ≡ false = elim (lt_tells p (at + c.size)) [ inl y ↦ absurd (let lt = y.1 in omega (arith, lt, b)) | inr y ↦ y.0 ] in rw (e, x, b_) refl)
    ]
  ]
]

not_painted : (c : Chunk) (p at : ℕ) → nat_eq c.state 3 ≡ false → (nat_eq c.state 3 && nat_le at p && nat_lt p (at + c.size)) ≡ false
not_painted c p at e = rw e refl

-- with one more chunk behind
one_more : (p at : ℕ) (xs : List Chunk) (c : Chunk) (b : Bool) → (nat_eq c.state 3 && nat_le (at + total_size xs) p && nat_lt p (at + total_size xs + c.size)) ≡ b → is_painted_in p at (xs ++ c ∷ []) ≡ (is_painted_in p at xs || b)
one_more p at xs c b e = painted_both p at xs (c ∷ []) ∙ (let none : (b || false) ≡ b = elim (bool_tells b) [ inl x ↦ rw x refl | inr x ↦ rw x refl ] in rw e (ap (λ x. is_painted_in p at xs || x) none))

abbrev one_unless : Bool → ℕ
one_unless b = cond b 0 1

pub unnaming_step : (r : Range) (gs hs ks : List Granule) (names more last : List ℕ) (now left size one : ℕ) → length names ≡ r.length / 16 → Unnaming r gs hs names more now left → (left ≡ 0 → ⊥)
    → size ≡ (head_in (head_at hs r.ram (r.base + (r.length - left)))).size
    → UnnamesChunk r hs ks more last (r.base + (r.length - left)) one (head_in (head_at hs r.ram (r.base + (r.length - left))))
    → Unnamed r gs ks names last now left size one
unnaming_step r gs hs ks names more last now left size one slots w some size_is u = step w.rest w.whole w.left_is w.now_is w.named
  where
    marks_now : (c : Chunk) (j at : ℕ) → at ≡ r.base + total_size w.above → nat_eq c.state 3 ≡ true → r.ram ≤ at → (at - r.ram) % 8 ≡ 0 → (hs ks : List Granule) (b : Bool) → IsMarked (at - r.ram) (at - r.ram + c.size) false hs ks → (granule_at hs j).mark ≡ cond b false (granule_at gs j).mark → at + c.size ≤ r.ram + 8 * length hs → length hs ≡ length gs
        → (granule_at ks j).mark ≡ cond (b || is_painted_in (r.ram + 8 * j) (r.base + total_size w.above) (c ∷ [])) false (granule_at gs j).mark
    marks_now c j at place e over even hs ks b marked old inside size = elim (le_tells (at - r.ram) (8 * j)) [
      | inr a ↦
          let out : is_painted_in (r.ram + 8 * j) (r.base + total_size w.above) (c ∷ []) ≡ false = (let lt = a.1 in ap (λ x. x || false) (not_here c (r.ram + 8 * j) (r.base + total_size w.above) (inl (omega (arith, lt, place, over))))) in
          ap (λ (g : Granule). g.mark) (marked.rest j (inl a.1)) ∙ old ∙ rw out (ap (λ x. cond x false (granule_at gs j).mark) (sym (or-false b)))
      | inl a ↦ elim (lt_tells (8 * j) (at - r.ram + c.size)) [
        | inr z ↦
            let out : is_painted_in (r.ram + 8 * j) (r.base + total_size w.above) (c ∷ []) ≡ false = (let ge = z.1 in ap (λ x. x || false) (not_here c (r.ram + 8 * j) (r.base + total_size w.above) (inr (omega (arith, ge, place, over))))) in
            ap (λ (g : Granule). g.mark) (marked.rest j (inr z.1)) ∙ old ∙ rw out (ap (λ x. cond x false (granule_at gs j).mark) (sym (or-false b)))
        | inl z ↦
            let le = a.1 in
            let lt = z.1 in
            let is_in : is_painted_in (r.ram + 8 * j) (r.base + total_size w.above) (c ∷ []) ≡ true = ap (λ x. x || false) (here_painted c (r.ram + 8 * j) (r.base + total_size w.above) e (omega (arith, le, place, over)) (omega (arith, lt, place, over))) in
            ap (λ (g : Granule). g.mark) (marked.marks j (omega (arith, lt, inside, over)) (le, lt)) ∙ rw is_in (elim (bool_tells b) [ inl x ↦ rw x refl | inr x ↦ rw x refl ])
      ]
    ]

    step : (rest : List Chunk) → chunks r gs ≡ w.above ++ rest → left ≡ total_size rest → now ≡ staying_chunks w.above + waiting_chunks rest → ((o : ℕ) → o % 8 ≡ 0 → begins_used_chunk more o ≡ is_used_at (r.base + o) r.base (map let_go w.above ++ rest)) → Unnamed r gs ks names last now left size one
    step [] whole left_is now_is named = absurd (some left_is)
    step (c ∷ cs) whole left_is now_is named =
        let at : ℕ = r.base + (r.length - left) in
        let both = total_both w.above (c ∷ cs) in
        let sum = sym (ap total_size (w.same ∙ whole)) ∙ w.settled.tiled.size in
        let place : at ≡ r.base + total_size w.above = omega (arith, both, sum, left_is) in
        let s : ChunkStands r hs at = record { above = w.above; chunk = c; below = cs; whole = w.same ∙ whole; place = place } in
        let k = sits r hs at w.settled.tiled s in
        let t = tells r hs at s w.settled.tiled in
        let size_c : size ≡ c.size = size_is ∙ t.size in
        let wide = k.shape.some in
        let whole_more : chunks r gs ≡ (w.above ++ c ∷ []) ++ cs = whole ∙ sym (append_assoc w.above (c ∷ []) cs) in
        let staying = staying_both w.above (c ∷ []) in
        let painted_is : nat_eq (head_in (head_at hs r.ram at)).state 3 ≡ nat_eq c.state 3 = ap (λ n. nat_eq n 3) t.state in
        elim (bool_tells (nat_eq c.state 3)) [
          | inr e ↦
              let o = u.others (painted_is ∙ e) in
              let kept : let_go c ≡ c = rw e refl in
              let list : map let_go (w.above ++ c ∷ []) ++ cs ≡ map let_go w.above ++ c ∷ cs = ap (λ (l : List Chunk). l ++ cs) (map_both w.above (c ∷ [])) ∙ append_assoc (map let_go w.above) (let_go c ∷ []) cs ∙ ap (λ (x : Chunk). map let_go w.above ++ x ∷ cs) kept in
              let count : one_unless (is_free c || nat_eq c.state 1 || nat_eq c.state 3) ≡ one_unless (is_free c || nat_eq c.state 1) = rw e (ap one_unless (or-false (is_free c || nat_eq c.state 1))) in
              let one_is = o.2 in
              record {
                most = omega (arith, size_c, left_is);
                some = omega (arith, size_c, wide);
                fewer = omega (arith, one_is);
                goes_on = record {
                  above = w.above ++ c ∷ [];
                  rest = cs;
                  whole = whole_more;
                  left_is = omega (arith, left_is, size_c);
                  settled = subst (TilesSettled r) (sym o.0) w.settled;
                  same = ap (λ l. chunks r l) o.0 ∙ w.same;
                  size = ap length o.0 ∙ w.size;
                  caps = λ j. ap (λ l. (granule_at l j).cap) o.0 ∙ w.caps j;
                  marks = λ j. ap (λ l. (granule_at l j).mark) o.0 ∙ w.marks j ∙ ap (λ b. cond b false (granule_at gs j).mark) (sym (one_more (r.ram + 8 * j) r.base w.above c false (not_painted c (r.ram + 8 * j) (r.base + total_size w.above) e) ∙ or-false (is_painted_in (r.ram + 8 * j) r.base w.above)));
                  entries = ap length o.1 ∙ w.entries;
                  named = λ x even. ap (λ l. begins_used_chunk l x) o.1 ∙ named x even ∙ ap (λ l. is_used_at (r.base + x) r.base l) (sym list);
                  quotas = λ x yes_. ap (λ l. quota_named l x) o.1 ∙ w.quotas x (sym (ap (λ l. begins_used_chunk l x) o.1) ∙ yes_);
                  now_is = omega (arith, now_is, staying, count, one_is);
                };
              }
          | inl e ↦
              let o = u.painted (painted_is ∙ e) in
              let marked : IsMarked (at - r.ram) (at - r.ram + c.size) false hs ks = subst (λ n. IsMarked (at - r.ram) (at - r.ram + n) false hs ks) t.size o.0 in
              let offset : ℕ = at - r.base in
              let three : c.state ≡ 3 = elim (eq_tells c.state 3) [ inl x ↦ x.1 | inr x ↦ absurd (let clash : true ≡ false = sym e ∙ x.0 in cc) ] in
              let used : is_free c ≡ false = ap (λ n. nat_eq n 0) three in
              let live : nat_eq c.state 1 ≡ false = ap (λ n. nat_eq n 1) three in
              let gone : let_go c ≡ record c { state = 0; number = 0 } = rw e refl in
              let d : Chunk = record c { state = 0; number = 0 } in
              let list : map let_go (w.above ++ c ∷ []) ++ cs ≡ map let_go w.above ++ d ∷ cs = ap (λ (l : List Chunk). l ++ cs) (map_both w.above (c ∷ [])) ∙ append_assoc (map let_go w.above) (let_go c ∷ []) cs ∙ ap (λ (x : Chunk). map let_go w.above ++ x ∷ cs) gone in
              let count : one_unless (is_free c || nat_eq c.state 1) ≡ 1 = rw (used, live) refl in
              let count_staying : one_unless (is_free c || nat_eq c.state 1 || nat_eq c.state 3) ≡ 0 = rw (used, live, e) refl in
              let one_is = o.2 in
              let low = k.low in
              let over = k.over in
              let even = k.even in
              let eight = k.eight in
              let fits = k.fits in
              let inside = k.inside in
              let base_even = w.settled.tiled.even.1 in
              let length_even = w.settled.tiled.even.2 in
              let ram_even = w.settled.tiled.even.0 in
              let ram_low = w.settled.tiled.above in
              let wide_used = k.shape.used used in
              let entries = w.entries in
              let slot_in : offset / 16 < length more = omega (arith, entries, slots, low, fits, wide_used, length_even) in
              let above_are = let_go_are w.above k.above_are in
              let above_total = let_go_total w.above in
              let old_are : AreChunks (map let_go w.above ++ c ∷ cs) = are_join (map let_go w.above) (c ∷ cs) above_are (k.shape, k.below_are) in
              let d_is : IsChunk d = record { whole = k.shape.whole; some = k.shape.some; used = λ x. absurd (let clash : true ≡ false = x in cc); states = omega arith; number = omega arith; blank = λ x. refl } in
              let new_are : AreChunks (map let_go w.above ++ d ∷ cs) = are_join (map let_go w.above) (d ∷ cs) above_are (d_is, k.below_are) in
              let mine : UsedStarts at r.base (map let_go w.above ++ c ∷ cs) = used_between at r.base (map let_go w.above) c cs used (omega (arith, place, above_total)) in
              let to_old : (p : ℕ) → UsedStarts p r.base (map let_go w.above ++ d ∷ cs) → UsedStarts p r.base (map let_go w.above ++ c ∷ cs) = λ p x. elim (used_split p r.base (map let_go w.above) (d ∷ cs) x) [
                | inl a ↦ used_first p r.base (map let_go w.above) (c ∷ cs) a
                | inr b ↦ elim b [ inl z ↦ absurd (let clash : true ≡ false = z.0 in cc) | inr z ↦ used_second p r.base (map let_go w.above) (c ∷ cs) (inr z) ]
              ] in
              let to_new : (p : ℕ) → (p ≡ at → ⊥) → UsedStarts p r.base (map let_go w.above ++ c ∷ cs) → UsedStarts p r.base (map let_go w.above ++ d ∷ cs) = λ p other x. elim (used_split p r.base (map let_go w.above) (c ∷ cs) x) [
                | inl a ↦ used_first p r.base (map let_go w.above) (d ∷ cs) a
                | inr b ↦ elim b [ inl z ↦ absurd (other (let is = z.1 in omega (arith, is, place, above_total))) | inr z ↦ used_second p r.base (map let_go w.above) (d ∷ cs) (inr z) ]
              ] in
              let gone_at : (p : ℕ) → UsedStarts p r.base (map let_go w.above ++ d ∷ cs) → p ≡ at → ⊥ = λ p x is. elim (used_split p r.base (map let_go w.above) (d ∷ cs) x) [
                | inl a ↦ (let hi = used_high p r.base (map let_go w.above) above_are a in omega (arith, hi, is, place, above_total))
                | inr b ↦ elim b [ inl z ↦ (let clash : true ≡ false = z.0 in cc) | inr z ↦ (let lo = used_low p (r.base + total_size (map let_go w.above) + d.size) cs z in omega (arith, lo, is, place, above_total, wide)) ]
              ] in
              let new_named : (x : ℕ) → x % 8 ≡ 0 → begins_used_chunk (set more (offset / 16) 0) x ≡ is_used_at (r.base + x) r.base (map let_go w.above ++ d ∷ cs) = λ x x_even. elim (cases_eq (x / 16) (offset / 16)) [
                | inl slot ↦
                    let none : object_name_at (set more (offset / 16) 0) x ≡ 0 = ap (λ j. get_or (set more (offset / 16) 0) j 0) slot ∙ get_or-set_same more (offset / 16) 0 0 slot_in in
                    let not_named : begins_used_chunk (set more (offset / 16) 0) x ≡ false = rw none refl in
                    let not_used : is_used_at (r.base + x) r.base (map let_go w.above ++ d ∷ cs) ≡ false = elim (bool_tells (is_used_at (r.base + x) r.base (map let_go w.above ++ d ∷ cs))) [
                      | inr z ↦ z
                      | inl z ↦
                          let starts = used_says (r.base + x) r.base (map let_go w.above ++ d ∷ cs) z in
                          absurd (elim (used_apart (r.base + x) at r.base (map let_go w.above ++ c ∷ cs) old_are (to_old (r.base + x) starts) mine) [
                            | inl is ↦ gone_at (r.base + x) starts is
                            | inr (inl a) ↦ omega (arith, a, slot, low)
                            | inr (inr b) ↦ omega (arith, b, slot, low)
                          ])
                    ] in
                    not_named ∙ sym not_used
                | inr apart ↦
                    let stays : object_name_at (set more (offset / 16) 0) x ≡ object_name_at more x = set_elsewhere more offset x 0 apart in
                    let other : r.base + x ≡ at → ⊥ = λ is. apart (ap (λ n. n / 16) (omega (arith, is, low))) in
                    named_same more (set more (offset / 16) 0) x stays ∙ named x x_even
                    ∙ sym (tests_same (r.base + x) r.base (map let_go w.above ++ d ∷ cs) (map let_go w.above ++ c ∷ cs) new_are old_are (to_old (r.base + x)) (to_new (r.base + x) other))
              ] in
              let new_quota : (x : ℕ) → begins_used_chunk (set more (offset / 16) 0) x ≡ true → quota_named (set more (offset / 16) 0) x ≡ quota_named names x = λ x yes_. elim (cases_eq (x / 16) (offset / 16)) [
                | inl slot ↦
                    let none : object_name_at (set more (offset / 16) 0) x ≡ 0 = ap (λ j. get_or (set more (offset / 16) 0) j 0) slot ∙ get_or-set_same more (offset / 16) 0 0 slot_in in
                    absurd (let clash : false ≡ true = rw none at yes_ in cc)
                | inr apart ↦
                    let stays : object_name_at (set more (offset / 16) 0) x ≡ object_name_at more x = set_elsewhere more offset x 0 apart in
                    ap (λ n. (n - 1) / 2) stays ∙ w.quotas x (sym (named_same more (set more (offset / 16) 0) x stays) ∙ yes_)
              ] in
              let last_is : last ≡ set more (offset / 16) 0 = o.1 in
              let caps = all_caps hs ks (at - r.ram) (at - r.ram + c.size) marked in
              let same = settled_same r hs ks w.settled marked.size (λ p head. caps ((p - r.ram) / 8)) in
              record {
                most = omega (arith, size_c, left_is);
                some = omega (arith, size_c, wide);
                fewer = omega (arith, one_is, now_is, count);
                goes_on = record {
                  above = w.above ++ c ∷ [];
                  rest = cs;
                  whole = whole_more;
                  left_is = omega (arith, left_is, size_c);
                  settled = same.settled;
                  same = same.chunks_are ∙ w.same;
                  size = marked.size ∙ w.size;
                  caps = λ j. caps j ∙ w.caps j;
                  marks = λ j. marks_now c j (at) place e over even hs ks (is_painted_in (r.ram + 8 * j) r.base w.above) marked (w.marks j) inside (w.size) ∙ ap (λ b. cond b false (granule_at gs j).mark) (sym (painted_both (r.ram + 8 * j) r.base w.above (c ∷ [])));
                  entries = ap length last_is ∙ length-set more (offset / 16) 0 ∙ w.entries;
                  named = λ x x_even. ap (λ l. begins_used_chunk l x) last_is ∙ new_named x x_even ∙ ap (λ l. is_used_at (r.base + x) r.base l) (sym list);
                  quotas = λ x yes_. ap (λ l. quota_named l x) last_is ∙ new_quota x (sym (ap (λ l. begins_used_chunk l x) last_is) ∙ yes_);
                  now_is = omega (arith, now_is, staying, count, count_staying, one_is);
                };
              }
        ]

pub unnaming_ends : (r : Range) (gs hs : List Granule) (names more : List ℕ) (now left : ℕ) → TilesSettled r gs → Unnaming r gs hs names more now left → left ≡ 0 → Unnames r gs hs names more now
unnaming_ends r gs hs names more now left h w none = all w.rest w.whole w.left_is w.now_is w.named (are_split w.above w.rest (subst AreChunks w.whole h.tiled.are)).1
  where
    all : (rest : List Chunk) → chunks r gs ≡ w.above ++ rest → left ≡ total_size rest → now ≡ staying_chunks w.above + waiting_chunks rest → ((o : ℕ) → o % 8 ≡ 0 → begins_used_chunk more o ≡ is_used_at (r.base + o) r.base (map let_go w.above ++ rest)) → AreChunks rest → Unnames r gs hs names more now
    all (c ∷ cs) whole is now_is named are = absurd (let wide = are.0.some in omega (arith, is, none, wide))
    all [] whole is now_is named are =
        let old : chunks r gs ≡ w.above = whole ∙ append-nil w.above in
        record {
          size = w.size;
          caps = w.caps;
          marks = λ k. w.marks k ∙ ap (λ l. cond (is_painted_in (r.ram + 8 * k) r.base l) false (granule_at gs k).mark) (sym old);
          entries = w.entries;
          named = λ o even. named o even ∙ ap (λ l. is_used_at (r.base + o) r.base l) (append-nil (map let_go w.above) ∙ ap (map let_go) (sym old));
          quotas = w.quotas;
          left_is = now_is ∙ (let none_ : staying_chunks w.above + 0 ≡ staying_chunks w.above = omega arith in none_) ∙ ap staying_chunks (sym old);
        }
