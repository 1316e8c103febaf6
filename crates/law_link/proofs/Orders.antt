-- Regions one after another, and walks over stretches of them.
use Rattle.std.proofs.Common.{ℕ, ◌≡◌, ◌+◌, ◌%◌, ◌≤◌, ◌&&◌, ◌||◌, not, Bool, true, false, nat_lt, List, [], ◌∷◌, ◌++◌, length, drop, get_or, refl, sym, ap, ap₂, subst, arith, ◌⊎◌, inl, inr, None}
use Rattle.std.specs.List.{AllByRecursion, list_any}
use Rattle.std.proofs.lemmas.Bool.{le-leb, le-ltb, eq-eqb}
use Rattle.law_lists.proofs.Alls.{all_joined}
use Rattle.def_words.specs.LeastBounds.{rounded_of}
use Rattle.def_layout.specs.declared.Region.{Region}
use Rattle.def_layout.specs.Placement.{region_length, region_base, placed, last_end}
use Rattle.law_layout.proofs.Multiples.{after}
use Rattle.law_layout.proofs.Placing.{spelled_one}
use Rattle.def_image.specs.Parts.{PartsRow}
use Rattle.def_image.specs.Regions.{Holder, RegionRow, region_row, trusted_region}
use Rattle.def_image.specs.Checks.{first, walked}
use Rattle.def_image.specs.Lying.{meets_region, is_laid, is_laid_below, region_asked}
use Rattle.law_image.proofs.Passing.{joined_none, one_none}

-- ---- tests

-- ---- placement in two stretches

pub last_joined : (end : ℕ) (xs ys : List ℕ) → last_end end (xs ++ ys) ≡ last_end (last_end end xs) ys
unfolding last_end
last_joined end [] ys = refl
last_joined end (n ∷ ns) ys = last_joined (region_base end n + region_length n) ns ys

dropped : (end : ℕ) (xs ys : List ℕ) → drop (length xs) (placed end (xs ++ ys)) ≡ placed (last_end end xs) ys
unfolding placed last_end
dropped end [] ys = refl
dropped end (n ∷ ns) ys = dropped (region_base end n + region_length n) ns ys

-- what is left of the regions after those of a first stretch
pub left_after : (end k : ℕ) (sizes xs ys : List ℕ) → sizes ≡ xs ++ ys → k ≡ length xs → drop k (placed end sizes) ≡ placed (last_end end xs) ys
left_after end k sizes xs ys cut count = rw (cut, count) (dropped end xs ys)

at_end : (end : ℕ) (xs : List ℕ) (n : ℕ) (d : Region) → (get_or (placed end (xs ++ n ∷ [])) (length xs) d).base ≡ region_base (last_end end xs) n
unfolding placed last_end
at_end end [] n d = refl
at_end end (m ∷ ms) n d = at_end (region_base end m + region_length m) ms n d

pub last_base : (end k : ℕ) (sizes xs : List ℕ) (n : ℕ) (d : Region) → sizes ≡ xs ++ n ∷ [] → k ≡ length xs → (get_or (placed end sizes) k d).base ≡ region_base (last_end end xs) n
last_base end k sizes xs n d cut count = rw (cut, count) (at_end end xs n d)

-- ---- regions in order

-- it begins at or after an address, in whole units, and a word can spell it
pub record Stands (from : ℕ) (r : RegionRow) : Type 0 where
  pub low : from ≤ r.base
  pub even : r.base % 16 ≡ 0
  pub whole : r.length % 16 ≡ 0
  pub exact : (rounded_of r.base (r.base + r.length)).exact ≡ true

-- one after another, from an address to another
unfoldable pub Between : ℕ → List RegionRow → ℕ → Type 0
Between low [] high = low ≤ high
Between low (r ∷ rs) high = Stands low r × Between (r.base + r.length) rs high

-- the region of a size, with that length said in another way
pub stands : (end n : ℕ) (h : Holder) (place k : ℕ) → n ≤ 2097152 → k ≡ region_length n → Stands end (region_row h place (region_base end n) k)
stands end n h place k small is =
    let s = spelled_one end n small in
    subst (λ l. Stands end (region_row h place (region_base end n) l)) (sym is) (record { low = after end n; even = s.even; whole = s.whole; exact = s.exact })

pub grows : (low high : ℕ) (rs : List RegionRow) → Between low rs high → low ≤ high
unfolding Between
grows low high [] h = h
grows low high (r ∷ rs) h =
    let first = h.0.low in
    let rest = grows (r.base + r.length) high rs h.1 in
    omega (arith, first, rest)

-- all lie at or after the begin, and end at or before the end
pub all_from : (low high : ℕ) (rs : List RegionRow) → Between low rs high → AllByRecursion (λ (r : RegionRow). low ≤ r.base) rs
unfolding Between
all_from low high [] h = tt
all_from low high (r ∷ rs) h =
    let first = h.0.low in
    (first, lower (r.base + r.length) low rs (omega (arith, first)) (all_from (r.base + r.length) high rs h.1))
  where
    lower : (a b : ℕ) (rs : List RegionRow) → b ≤ a → AllByRecursion (λ (r : RegionRow). a ≤ r.base) rs → AllByRecursion (λ (r : RegionRow). b ≤ r.base) rs
    lower a b [] le h = tt
    lower a b (r ∷ rs) le h = (let x = h.0 in omega (arith, x, le), lower a b rs le h.1)

pub all_to : (low high : ℕ) (rs : List RegionRow) → Between low rs high → AllByRecursion (λ (r : RegionRow). r.base + r.length ≤ high) rs
unfolding Between
all_to low high [] h = tt
all_to low high (r ∷ rs) h = (grows (r.base + r.length) high rs h.1, all_to (r.base + r.length) high rs h.1)

-- ---- a stretch apart from what stands before

Apart : ℕ → ℕ → RegionRow → Type 0
Apart low high q = (q.base + q.length ≤ low) ⊎ (high ≤ q.base)

-- each region seen ends before the stretch, or begins after it
pub Clear : ℕ → ℕ → List RegionRow → Type 0
Clear low high earlier = AllByRecursion (Apart low high) earlier

pub clear_after : (low high : ℕ) (rs : List RegionRow) → AllByRecursion (λ (r : RegionRow). r.base + r.length ≤ low) rs → Clear low high rs
unfolding Clear Apart
clear_after low high [] h = tt
clear_after low high (r ∷ rs) h = (inl h.0, clear_after low high rs h.1)

pub clear_before : (low high : ℕ) (rs : List RegionRow) → AllByRecursion (λ (r : RegionRow). high ≤ r.base) rs → Clear low high rs
unfolding Clear Apart
clear_before low high [] h = tt
clear_before low high (r ∷ rs) h = (inr h.0, clear_before low high rs h.1)

pub clear_joined : (low high : ℕ) (xs ys : List RegionRow) → Clear low high xs → Clear low high ys → Clear low high (xs ++ ys)
unfolding Clear
clear_joined low high xs ys a b = all_joined (Apart low high) xs ys a b

pub third_false : (x y w : Bool) → (x && y && false && w) ≡ false
third_false true true w = refl
third_false true false w = refl
third_false false y w = refl

pub fourth_false : (x y z : Bool) → (x && y && z && false) ≡ false
fourth_false true true true = refl
fourth_false true true false = refl
fourth_false true false z = refl
fourth_false false y z = refl

pub none_meets : (r q : RegionRow) → (q.base + q.length ≤ r.base) ⊎ (r.base + r.length ≤ q.base) → meets_region r q ≡ false
none_meets r q (inl le) = rw (le-ltb r.base (q.base + q.length) le) (third_false (nat_lt 0 r.length) (nat_lt 0 q.length) (nat_lt q.base (r.base + r.length)))
none_meets r q (inr le) = rw (le-ltb q.base (r.base + r.length) le) (fourth_false (nat_lt 0 r.length) (nat_lt 0 q.length) (nat_lt r.base (q.base + q.length)))

apart_meets : (low high : ℕ) (r q : RegionRow) → low ≤ r.base → r.base + r.length ≤ high → Apart low high q → meets_region r q ≡ false
unfolding Apart
apart_meets low high r q a b (inl h) = none_meets r q (inl (omega (arith, a, h)))
apart_meets low high r q a b (inr h) = none_meets r q (inr (omega (arith, b, h)))

clear_meets : (low high : ℕ) (r : RegionRow) (earlier : List RegionRow) → low ≤ r.base → r.base + r.length ≤ high → Clear low high earlier → list_any (meets_region r) earlier ≡ false
unfolding Clear
clear_meets low high r [] a b h = refl
clear_meets low high r (q ∷ qs) a b h = ap₂ (λ x y. x || y) (apart_meets low high r q a b h.0) (clear_meets low high r qs a b h.1)

raised : (low more high : ℕ) (earlier : List RegionRow) → low ≤ more → Clear low high earlier → Clear more high earlier
unfolding Clear Apart
raised low more high [] le h = tt
raised low more high (q ∷ qs) le h = (elim h.0 [ inl k ↦ inl (omega (arith, k, le)) | inr k ↦ inr k ], raised low more high qs le h.1)

-- where a stretch lies: in RAM, below the heap and the trusted region
pub record Lies (p : PartsRow) (low high : ℕ) : Type 0 where
  pub ram : p.ram ≤ low
  pub trusted : high ≤ p.trusted
  pub heap : high ≤ p.heap
  pub inside : p.heap ≤ p.ram + p.size

pub laid_so : (p : PartsRow) (earlier : List RegionRow) (low : ℕ) (r : RegionRow) → Stands low r → p.ram ≤ low → r.base + r.length ≤ p.ram + p.size → list_any (meets_region r) earlier ≡ false → is_laid p earlier r ≡ true
laid_so p earlier low r s ram top apart =
    let lo = s.low in
    rw (le-leb p.ram r.base (omega (arith, ram, lo)), le-leb (r.base + r.length) (p.ram + p.size) top, eq-eqb (r.base % 16) 0 s.even, eq-eqb (r.length % 16) 0 s.whole, s.exact, apart) refl

region_passes : (p : PartsRow) (low high at : ℕ) (earlier : List RegionRow) (r : RegionRow) → Lies p low high → Stands low r → r.base + r.length ≤ high → Clear low high earlier
    → first (region_asked p at earlier r) ≡ None
region_passes p low high at earlier r l s top c =
    let lo = s.low in
    let trusted = l.trusted in
    let heap = l.heap in
    let inside = l.inside in
    let below : r.base + r.length ≤ p.heap = omega (arith, top, heap) in
    let apart : list_any (meets_region r) (trusted_region p ∷ earlier) ≡ false = ap₂ (λ x y. x || y) (none_meets r (trusted_region p) (inr (omega (arith, top, trusted)))) (clear_meets low high r earlier lo top c) in
    let laid : is_laid p (trusted_region p ∷ earlier) r ≡ true = laid_so p (trusted_region p ∷ earlier) low r s l.ram (omega (arith, below, inside)) apart in
    let both : is_laid_below p earlier r ≡ true = ap₂ (λ x y. x && y) laid (le-leb (r.base + r.length) p.heap below) in
    one_none r.place (not (is_laid_below p earlier r)) (ap not both)

pub stretch_passes : (p : PartsRow) (low high at : ℕ) (earlier rs : List RegionRow) → Lies p low high → Between low rs high → Clear low high earlier
    → first (walked (region_asked p) (λ r. 0) at earlier rs) ≡ None
unfolding walked first Between
stretch_passes p low high at earlier [] l b c = refl
stretch_passes p low high at earlier (r ∷ rs) l b c =
    let s = b.0 in
    let lo = s.low in
    let ram = l.ram in
    let top = grows (r.base + r.length) high rs b.1 in
    let next : Clear (r.base + r.length) high (earlier ++ r ∷ []) = clear_joined (r.base + r.length) high earlier (r ∷ [])
    (raised low (r.base + r.length) high earlier (omega (arith, lo)) c) (clear_after (r.base + r.length) high (r ∷ []) (omega arith, tt)) in
    joined_none (region_asked p at earlier r) (walked (region_asked p) (λ r. 0) (at + 0) (earlier ++ r ∷ []) rs)
    (region_passes p low high at earlier r l s top c)
    (stretch_passes p (r.base + r.length) high (at + 0) (earlier ++ r ∷ []) rs (record { ram = omega (arith, ram, lo); trusted = l.trusted; heap = l.heap; inside = l.inside }) b.1 next)
