-- Four planes seen as a list of granules.
use Rattle.std.proofs.Common.{ℕ, zero, suc, ◌≡◌, ◌+◌, ◌*◌, ◌/◌, ◌%◌, ◌<◌, ◌≤◌, ◌⊎◌, inl, inr, Bool, false, List, [], ◌∷◌, length, map, get_or, replicate, refl, sym, ap, ◌∙◌, arith}
use Rattle.std.proofs.Math.ListN.{set}
use Rattle.std.proofs.lemmas.List.{length-set}
use Rattle.std.specs.List.{range_with_len}
use Rattle.std.proofs.lemmas.List.FromFn.{length-map-range_with_len, get_or-map-range_with_len, fill_by_all}
use Rattle.def_memory.specs.Accesses.{byte_of, byte_at}
use Rattle.ct_planes.specs.Lent.{bytes_of}
use Rattle.def_words.specs.declared.Shadow.{Shadow}
use Rattle.def_memory.specs.declared.Granule.{Granule}
use Rattle.def_memory.specs.Granules.{nothing, granule_at, blank}
use Rattle.def_memory.specs.Ranges.{IsRange, IsZeroed, IsMarked, IsNextTagged, InsideRange, is_tagged}
use Rattle.ct_planes.specs.Bits.{Clear, IsNextSet}
use Rattle.ct_planes.specs.Fills.{filled}
use Rattle.def_words.specs.Capability.{nowhere}
use Rattle.ct_planes.specs.View.{granules_of, Fit}
use Rattle.ct_planes.proofs.Fillings.{length_filled, filled_inside, filled_rest}

abbrev pub granule : ℕ → Bool → Shadow → Bool → Granule
granule w t s m = record { cap = record { tag = t; word = w; shadow = s }; mark = m }

pub length_granules : (ws : List ℕ) (ts : List Bool) (ss : List Shadow) (ms : List Bool) → length ts ≡ length ws → length ss ≡ length ws → length ms ≡ length ws → length (granules_of ws ts ss ms) ≡ length ws
length_granules [] [] [] [] a b c = refl
length_granules (w ∷ ws) (t ∷ ts) (s ∷ ss) (m ∷ ms) a b c = ap (λ n. suc n) (length_granules ws ts ss ms (omega (arith, a)) (omega (arith, b)) (omega (arith, c)))
length_granules [] [] [] (m ∷ ms) a b c = absurd (omega (arith, c))
length_granules [] [] (s ∷ ss) ms a b c = absurd (omega (arith, b))
length_granules [] (t ∷ ts) ss ms a b c = absurd (omega (arith, a))
length_granules (w ∷ ws) [] ss ms a b c = absurd (omega (arith, a))
length_granules (w ∷ ws) (t ∷ ts) [] ms a b c = absurd (omega (arith, b))
length_granules (w ∷ ws) (t ∷ ts) (s ∷ ss) [] a b c = absurd (omega (arith, c))

granule_from : (ws : List ℕ) (ts : List Bool) (ss : List Shadow) (ms : List Bool) (k : ℕ) → length ts ≡ length ws → length ss ≡ length ws → length ms ≡ length ws → granule_at (granules_of ws ts ss ms) k ≡ granule (get_or ws k 0) (get_or ts k false) (get_or ss k nowhere) (get_or ms k false)
granule_from [] [] [] [] k a b c = refl
granule_from (w ∷ ws) (t ∷ ts) (s ∷ ss) (m ∷ ms) zero a b c = refl
granule_from (w ∷ ws) (t ∷ ts) (s ∷ ss) (m ∷ ms) (suc k) a b c = granule_from ws ts ss ms k (omega (arith, a)) (omega (arith, b)) (omega (arith, c))
granule_from [] [] [] (m ∷ ms) k a b c = absurd (omega (arith, c))
granule_from [] [] (s ∷ ss) ms k a b c = absurd (omega (arith, b))
granule_from [] (t ∷ ts) ss ms k a b c = absurd (omega (arith, a))
granule_from (w ∷ ws) [] ss ms k a b c = absurd (omega (arith, a))
granule_from (w ∷ ws) (t ∷ ts) [] ms k a b c = absurd (omega (arith, b))
granule_from (w ∷ ws) (t ∷ ts) (s ∷ ss) [] k a b c = absurd (omega (arith, c))

set_from : (ws : List ℕ) (ts : List Bool) (ss : List Shadow) (ms : List Bool) (i w : ℕ) (t : Bool) (s : Shadow) → length ts ≡ length ws → length ss ≡ length ws → length ms ≡ length ws → granules_of (set ws i w) (set ts i t) (set ss i s) ms ≡ set (granules_of ws ts ss ms) i (granule w t s (get_or ms i false))
set_from [] [] [] [] i w t s a b c = refl
set_from (x ∷ ws) (u ∷ ts) (r ∷ ss) (m ∷ ms) zero w t s a b c = refl
set_from (x ∷ ws) (u ∷ ts) (r ∷ ss) (m ∷ ms) (suc i) w t s a b c = ap (λ l. granule x u r m ∷ l) (set_from ws ts ss ms i w t s (omega (arith, a)) (omega (arith, b)) (omega (arith, c)))
set_from [] [] [] (m ∷ ms) i w t s a b c = absurd (omega (arith, c))
set_from [] [] (r ∷ ss) ms i w t s a b c = absurd (omega (arith, b))
set_from [] (u ∷ ts) ss ms i w t s a b c = absurd (omega (arith, a))
set_from (x ∷ ws) [] ss ms i w t s a b c = absurd (omega (arith, a))
set_from (x ∷ ws) (u ∷ ts) [] ms i w t s a b c = absurd (omega (arith, b))
set_from (x ∷ ws) (u ∷ ts) (r ∷ ss) [] i w t s a b c = absurd (omega (arith, c))

tags_from : (ws : List ℕ) (ts : List Bool) (ss : List Shadow) (ms : List Bool) → length ts ≡ length ws → length ss ≡ length ws → length ms ≡ length ws → map (λ (g : Granule). g.cap.tag) (granules_of ws ts ss ms) ≡ ts
tags_from [] [] [] [] a b c = refl
tags_from (w ∷ ws) (t ∷ ts) (s ∷ ss) (m ∷ ms) a b c = ap (λ l. t ∷ l) (tags_from ws ts ss ms (omega (arith, a)) (omega (arith, b)) (omega (arith, c)))
tags_from [] [] [] (m ∷ ms) a b c = absurd (omega (arith, c))
tags_from [] [] (s ∷ ss) ms a b c = absurd (omega (arith, b))
tags_from [] (t ∷ ts) ss ms a b c = absurd (omega (arith, a))
tags_from (w ∷ ws) [] ss ms a b c = absurd (omega (arith, a))
tags_from (w ∷ ws) (t ∷ ts) [] ms a b c = absurd (omega (arith, b))
tags_from (w ∷ ws) (t ∷ ts) (s ∷ ss) [] a b c = absurd (omega (arith, c))

marks_from : (ws : List ℕ) (ts : List Bool) (ss : List Shadow) (ms : List Bool) → length ts ≡ length ws → length ss ≡ length ws → length ms ≡ length ws → map (λ (g : Granule). g.mark) (granules_of ws ts ss ms) ≡ ms
marks_from [] [] [] [] a b c = refl
marks_from (w ∷ ws) (t ∷ ts) (s ∷ ss) (m ∷ ms) a b c = ap (λ l. m ∷ l) (marks_from ws ts ss ms (omega (arith, a)) (omega (arith, b)) (omega (arith, c)))
marks_from [] [] [] (m ∷ ms) a b c = absurd (omega (arith, c))
marks_from [] [] (s ∷ ss) ms a b c = absurd (omega (arith, b))
marks_from [] (t ∷ ts) ss ms a b c = absurd (omega (arith, a))
marks_from (w ∷ ws) [] ss ms a b c = absurd (omega (arith, a))
marks_from (w ∷ ws) (t ∷ ts) [] ms a b c = absurd (omega (arith, b))
marks_from (w ∷ ws) (t ∷ ts) (s ∷ ss) [] a b c = absurd (omega (arith, c))

pub new_granules : (n : ℕ) → granules_of (replicate n 0) (replicate n false) (replicate n nowhere) (replicate n false) ≡ replicate n nothing
new_granules zero = refl
new_granules (suc n) = ap (λ l. nothing ∷ l) (new_granules n)

-- the same of planes that fit
pub count_of : (ws : List ℕ) (ts : List Bool) (ss : List Shadow) (ms : List Bool) → Fit ws ts ss ms → length (granules_of ws ts ss ms) ≡ length ws
count_of ws ts ss ms f = length_granules ws ts ss ms f.tags f.shadows f.marks

pub granule_of : (ws : List ℕ) (ts : List Bool) (ss : List Shadow) (ms : List Bool) (k : ℕ) → Fit ws ts ss ms → granule_at (granules_of ws ts ss ms) k ≡ granule (get_or ws k 0) (get_or ts k false) (get_or ss k nowhere) (get_or ms k false)
granule_of ws ts ss ms k f = granule_from ws ts ss ms k f.tags f.shadows f.marks

pub set_of : (ws : List ℕ) (ts : List Bool) (ss : List Shadow) (ms : List Bool) (i w : ℕ) (t : Bool) (s : Shadow) → Fit ws ts ss ms → granules_of (set ws i w) (set ts i t) (set ss i s) ms ≡ set (granules_of ws ts ss ms) i (granule w t s (get_or ms i false))
set_of ws ts ss ms i w t s f = set_from ws ts ss ms i w t s f.tags f.shadows f.marks

pub tags_of : (ws : List ℕ) (ts : List Bool) (ss : List Shadow) (ms : List Bool) → Fit ws ts ss ms → map (λ (g : Granule). g.cap.tag) (granules_of ws ts ss ms) ≡ ts
tags_of ws ts ss ms f = tags_from ws ts ss ms f.tags f.shadows f.marks

pub marks_of : (ws : List ℕ) (ts : List Bool) (ss : List Shadow) (ms : List Bool) → Fit ws ts ss ms → map (λ (g : Granule). g.mark) (granules_of ws ts ss ms) ≡ ms
marks_of ws ts ss ms f = marks_from ws ts ss ms f.tags f.shadows f.marks

-- what keeps the planes fitting
pub fit_set : (ws : List ℕ) (ts : List Bool) (ss : List Shadow) (ms : List Bool) (i w : ℕ) (t : Bool) (s : Shadow) → Fit ws ts ss ms → Fit (set ws i w) (set ts i t) (set ss i s) ms
fit_set ws ts ss ms i w t s f = record {
  tags = length-set ts i t ∙ f.tags ∙ sym (length-set ws i w);
  shadows = length-set ss i s ∙ f.shadows ∙ sym (length-set ws i w);
  marks = f.marks ∙ sym (length-set ws i w);
  small = omega (arith, f.small, length-set ws i w);
}

pub fit_zeroed : (ws : List ℕ) (ts : List Bool) (ss : List Shadow) (ms : List Bool) (from to : ℕ) → Fit ws ts ss ms → Fit (filled from to 0 ws) (filled from to false ts) (filled from to nowhere ss) ms
fit_zeroed ws ts ss ms from to f = record {
  tags = length_filled from to false ts ∙ f.tags ∙ sym (length_filled {A = ℕ} from to 0 ws);
  shadows = length_filled from to nowhere ss ∙ f.shadows ∙ sym (length_filled {A = ℕ} from to 0 ws);
  marks = f.marks ∙ sym (length_filled {A = ℕ} from to 0 ws);
  small = omega (arith, f.small, length_filled {A = ℕ} from to 0 ws);
}

pub fit_marked : (ws : List ℕ) (ts : List Bool) (ss : List Shadow) (ms : List Bool) (from to : ℕ) (on : Bool) → Fit ws ts ss ms → Fit ws ts ss (filled from to on ms)
fit_marked ws ts ss ms from to on f = record { tags = f.tags; shadows = f.shadows; marks = length_filled from to on ms ∙ f.marks; small = f.small }

-- a range of granules, by their numbers
pub zeroed_is : (ws : List ℕ) (ts : List Bool) (ss : List Shadow) (ms : List Bool) (from to : ℕ) → Fit ws ts ss ms → IsRange (8 * length ws) from to → IsZeroed from to (granules_of ws ts ss ms) (granules_of (filled (from / 8) (to / 8) 0 ws) (filled (from / 8) (to / 8) false ts) (filled (from / 8) (to / 8) nowhere ss) ms)
zeroed_is ws ts ss ms from to f r =
    let a = from / 8 in
    let b = to / 8 in
    let new = fit_zeroed ws ts ss ms a b f in
    record {
      size = count_of (filled a b 0 ws) (filled a b false ts) (filled a b nowhere ss) ms new ∙ length_filled {A = ℕ} a b 0 ws ∙ sym (count_of ws ts ss ms f);
      zero = λ k within.
          let le : a ≤ k = omega (arith, within.0) in
          let lt : k < b = omega (arith, within.1, r.finish) in
          let few : k < length ws = omega (arith, within.1, r.inside) in
          granule_of (filled a b 0 ws) (filled a b false ts) (filled a b nowhere ss) ms k new
          ∙ (λ i. granule (filled_inside {A = ℕ} a b 0 ws k 0 le lt few i) (filled_inside a b false ts k false le lt (omega (arith, few, f.tags)) i) (filled_inside a b nowhere ss k nowhere le lt (omega (arith, few, f.shadows)) i) (get_or ms k false))
          ∙ ap blank (sym (granule_of ws ts ss ms k f));
      rest = λ k out.
          let away : (k < a) ⊎ (b ≤ k) = elim out [ inl q ↦ inl (omega (arith, q, r.start)) | inr q ↦ inr (omega (arith, q)) ] in
          granule_of (filled a b 0 ws) (filled a b false ts) (filled a b nowhere ss) ms k new
          ∙ (λ i. granule (filled_rest {A = ℕ} a b 0 ws k 0 away i) (filled_rest a b false ts k false away i) (filled_rest a b nowhere ss k nowhere away i) (get_or ms k false))
          ∙ sym (granule_of ws ts ss ms k f);
    }

pub marked_is : (ws : List ℕ) (ts : List Bool) (ss : List Shadow) (ms : List Bool) (from to : ℕ) (on : Bool) → Fit ws ts ss ms → IsRange (8 * length ws) from to → IsMarked from to on (granules_of ws ts ss ms) (granules_of ws ts ss (filled (from / 8) (to / 8) on ms))
marked_is ws ts ss ms from to on f r =
    let a = from / 8 in
    let b = to / 8 in
    let new = fit_marked ws ts ss ms a b on f in
    record {
      size = count_of ws ts ss (filled a b on ms) new ∙ sym (count_of ws ts ss ms f);
      marks = λ k few within.
          granule_of ws ts ss (filled a b on ms) k new
          ∙ ap (λ m. granule (get_or ws k 0) (get_or ts k false) (get_or ss k nowhere) m) (filled_inside a b on ms k false (omega (arith, within.0)) (omega (arith, within.1, r.finish)) (omega (arith, within.1, r.inside, f.marks)))
          ∙ ap {A = Granule} (λ g. record g { mark = on }) (sym (granule_of ws ts ss ms k f));
      rest = λ k out.
          let away : (k < a) ⊎ (b ≤ k) = elim out [ inl q ↦ inl (omega (arith, q, r.start)) | inr q ↦ inr (omega (arith, q)) ] in
          granule_of ws ts ss (filled a b on ms) k new
          ∙ ap (λ m. granule (get_or ws k 0) (get_or ts k false) (get_or ss k nowhere) m) (filled_rest a b on ms k false away)
          ∙ sym (granule_of ws ts ss ms k f);
    }

pub tag_of : (ws : List ℕ) (ts : List Bool) (ss : List Shadow) (ms : List Bool) (k : ℕ) → Fit ws ts ss ms → is_tagged (granules_of ws ts ss ms) k ≡ get_or ts k false
tag_of ws ts ss ms k f = ap (λ (g : Granule). g.cap.tag) (granule_of ws ts ss ms k f)

pub none_tagged : (ws : List ℕ) (ts : List Bool) (ss : List Shadow) (ms : List Bool) (from to : ℕ) → Fit ws ts ss ms → Clear ts ((from + 7) / 8) ((to + 7) / 8)
    → (k : ℕ) → InsideRange from to k → is_tagged (granules_of ws ts ss ms) k ≡ false
none_tagged ws ts ss ms from to f none k within = tag_of ws ts ss ms k f ∙ none k (let le = within.0 in omega (arith, le)) (let lt = within.1 in omega (arith, lt))

pub next_tagged_is : (ws : List ℕ) (ts : List Bool) (ss : List Shadow) (ms : List Bool) (from i : ℕ) → Fit ws ts ss ms → IsNextSet ts ((from + 7) / 8) i → IsNextTagged (granules_of ws ts ss ms) from (8 * i)
next_tagged_is ws ts ss ms from i f next = record {
  aligned = omega arith;
  later = omega (arith, next.later);
  inside = omega (arith, next.inside, f.tags, count_of ws ts ss ms f);
  tagged = let same : 8 * i / 8 ≡ i = omega arith in ap (λ k. is_tagged (granules_of ws ts ss ms) k) same ∙ tag_of ws ts ss ms i f ∙ next.set;
  least = λ k le lt. tag_of ws ts ss ms k f ∙ next.least k (omega (arith, le)) (omega (arith, lt));
}

-- each plane is as long as the list of granules that they are seen as
pub record Sizes (ws : List ℕ) (ts : List Bool) (ss : List Shadow) (ms : List Bool) (gs : List Granule) : Type 0 where
  pub words : length ws ≡ length gs
  pub tags : length ts ≡ length gs
  pub shadows : length ss ≡ length gs
  pub marks : length ms ≡ length gs

pub seen_sizes : (ws : List ℕ) (ts : List Bool) (ss : List Shadow) (ms : List Bool) (gs : List Granule) → Fit ws ts ss ms → granules_of ws ts ss ms ≡ gs → Sizes ws ts ss ms gs
seen_sizes ws ts ss ms gs f v =
    let count : length ws ≡ length gs = sym (count_of ws ts ss ms f) ∙ ap length v in
    record { words = count; tags = f.tags ∙ count; shadows = f.shadows ∙ count; marks = f.marks ∙ count }

pub seen_granule : (ws : List ℕ) (ts : List Bool) (ss : List Shadow) (ms : List Bool) (gs : List Granule) (k : ℕ) → Fit ws ts ss ms → granules_of ws ts ss ms ≡ gs → granule_at gs k ≡ granule (get_or ws k 0) (get_or ts k false) (get_or ss k nowhere) (get_or ms k false)
seen_granule ws ts ss ms gs k f v = ap (λ l. granule_at l k) (sym v) ∙ granule_of ws ts ss ms k f

-- the bytes of planes are those of their granules
pub bytes_seen : (ws : List ℕ) (ts : List Bool) (ss : List Shadow) (ms : List Bool) → Fit ws ts ss ms → map (λ at. byte_of (get_or ws (at / 8) 0) (at % 8)) (range_with_len 0 (8 * length ws)) ≡ bytes_of (granules_of ws ts ss ms)
bytes_seen ws ts ss ms f =
    let gs = granules_of ws ts ss ms in
    let held : ℕ → ℕ = λ at. byte_of (get_or ws (at / 8) 0) (at % 8) in
    let bs = map held (range_with_len 0 (8 * length ws)) in
    fill_by_all (byte_at gs) bs (8 * length gs) 0 (length-map-range_with_len held 0 (8 * length ws) ∙ ap (λ n. 8 * n) (sym (count_of ws ts ss ms f)))
    (λ k lt. get_or-map-range_with_len held 0 (8 * length ws) k k 0 (omega (arith, lt, count_of ws ts ss ms f)) (omega arith) ∙ ap (λ (g : Granule). byte_of g.cap.word (k % 8)) (sym (granule_of ws ts ss ms (k / 8) f)))
