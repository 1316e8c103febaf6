-- Threads that start one after another.
use Rattle.std.proofs.Common.{ℕ, ◌≡◌, ◌+◌, ◌*◌, ◌<◌, ◌≤◌, inl, inr, true, false, List, [], ◌∷◌, ◌++◌, length, map, drop, Bool, refl, sym, ap, ◌∙◌, arith, subst}
use Rattle.std.proofs.Math.ListN.{get_or}
use Rattle.std.proofs.lemmas.List.{append_assoc, append-nil, drop_all, map_push}
use Rattle.law_lists.proofs.Places.{from_here}
use Rattle.law_lists.proofs.Tests.{lt_tells}
use Rattle.def_words.specs.declared.Cap.{Cap}
use Rattle.def_memory.specs.declared.Granule.{Granule}
use Rattle.def_memory.specs.Granules.{plain, cap_in}
use Rattle.def_areas.specs.Touches.{Touches}
use Rattle.def_hidden.specs.Hiding.{with_hidden}
use Rattle.law_hidden.proofs.Granules.{hidden_changes}
use Rattle.ct_areas.specs.declared.thread.Area.{Area}
use Rattle.ct_areas.specs.declared.thread.Thread as row
use Rattle.ct_areas.specs.Threads.{HasArea, area_begin, area_end, thread_of}
use Rattle.ct_areas.specs.declared.thread.Fresh.{Fresh}
use Rattle.ct_threads.specs.Kept.{IsPlain, IsKept}
use Rattle.ct_threads.specs.Starts.{IsFresh}
use Rattle.ct_areas.specs.Starts.{first_of}
use Rattle.ct_threads.proofs.Beside.{within}
use Rattle.ct_engine.specs.declared.rows.Region.{Region}
use Rattle.ct_engine.specs.Seen.{region_hides, threads_of}
use Rattle.ct_engine.specs.Kept.{ArePlain, AreasFrom}
use Rattle.ct_engine.specs.Starts.{AreFresh, HaveBegun}
use Rattle.ct_engine.proofs.Lists.{Same, ends, outside, rows_same}
use Rattle.ct_engine.proofs.Whole.{hidden_is}

-- ---- one more after others

threads_last : (gs : List Granule) (n : ℕ) (ts : List row.Thread) (t : row.Thread)
    → threads_of gs [] n (ts ++ t ∷ []) ≡ threads_of gs [] n ts ++ thread_of gs false t ∷ []
threads_last gs n [] t = refl
threads_last gs n (u ∷ us) t = ap (λ xs. thread_of gs false u ∷ xs) (threads_last gs (n + 1) us t)

plain_zero : (c : Cap) → c ≡ plain 0 → IsPlain c
plain_zero c e = rw e refl

no_plain : (ram : ℕ) (gs : List Granule) (from : ℕ) → ArePlain ram gs from from
no_plain ram gs from = λ k lo hi. absurd (omega (arith, lo, hi))

plain_both : (ram : ℕ) (gs : List Granule) (from mid to : ℕ) → ArePlain ram gs from mid → ArePlain ram gs mid to → ArePlain ram gs from to
plain_both ram gs from mid to first second = λ k lo hi. elim (lt_tells (ram + 8 * k) mid) [ inl a ↦ first k lo a.1 | inr a ↦ second k a.1 hi ]

areas_last : (ram : ℕ) (gs : List Granule) (n from to : ℕ) (ts : List row.Thread) (t : row.Thread) → AreasFrom ram gs [] n from to ts
    → to ≤ t.area.trusted → t.area.ram ≡ ram → IsKept gs false t → ArePlain ram gs to t.area.trusted
    → AreasFrom ram gs [] n from (t.area.trusted + t.area.trusted_length) (ts ++ t ∷ [])
areas_last ram gs n from to [] t h above base kept between =
    let low = h.0 in
    (omega (arith, low, above), base, kept, (omega arith, no_plain ram gs (t.area.trusted + t.area.trusted_length)), plain_both ram gs from to t.area.trusted h.1 between)
areas_last ram gs n from to (u ∷ us) t h above base kept between =
    (h.0, h.1, h.2, areas_last ram gs (n + 1) (u.area.trusted + u.area.trusted_length) to us t h.3 above base kept between, h.4)

areas_more : (ram : ℕ) (gs : List Granule) (standing : List Bool) (n from to more : ℕ) (ts : List row.Thread) → to ≤ more → ArePlain ram gs to more
    → AreasFrom ram gs standing n from to ts → AreasFrom ram gs standing n from more ts
areas_more ram gs standing n from to more [] le past h = (let low = h.0 in omega (arith, low, le), plain_both ram gs from to more h.1 past)
areas_more ram gs standing n from to more (t ∷ ts) le past h =
    (h.0, h.1, h.2, areas_more ram gs standing (n + 1) (t.area.trusted + t.area.trusted_length) to more ts le past h.3, h.4)

fresh_ends : (ram size from to : ℕ) (fs : List Fresh) → AreFresh ram size from to fs → from ≤ to
fresh_ends ram size from to [] h = h
fresh_ends ram size from to (f ∷ fs) h =
    let low = h.0 in
    let rest = fresh_ends ram size (f.area.trusted + f.area.trusted_length) to fs h.3 in
    omega (arith, low, rest)

-- where the areas of those that started end
abbrev pub end_of : ℕ → List row.Thread → ℕ
end_of from [] = from
end_of from (t ∷ ts) = end_of (t.area.trusted + t.area.trusted_length) ts

end_last : (from : ℕ) (ts : List row.Thread) (t : row.Thread) → end_of from (ts ++ t ∷ []) ≡ t.area.trusted + t.area.trusted_length
end_last from [] t = refl
end_last from (u ∷ us) t = end_last (u.area.trusted + u.area.trusted_length) us t

-- some started, in memory that was otherwise, and others have yet to
pub record Begun (g : Region) (was gs : List Granule) (ts : List row.Thread) (fs todo : List Fresh) : Type 0 where
  pub size : length gs ≡ length was
  pub memory : with_hidden (region_hides g) gs ≡ with_hidden (region_hides g) was
  pub threads : threads_of gs [] 0 ts ++ map (λ f. first_of f) todo ≡ map (λ f. first_of f) fs
  pub places : map (λ (t : row.Thread). t.area) ts ++ map (λ (f : Fresh). f.area) todo ≡ map (λ (f : Fresh). f.area) fs
  pub areas : AreasFrom g.ram gs [] 0 g.trusted (end_of g.trusted ts) ts
  pub clear : (k : ℕ) → end_of g.trusted ts ≤ g.ram + 8 * k → g.ram + 8 * k < g.end → cap_in gs k ≡ plain 0
  pub rest : AreFresh g.ram (8 * length was) (end_of g.trusted ts) g.end todo

pub begun_first : (g : Region) (gs : List Granule) (fs : List Fresh) → AreFresh g.ram (8 * length gs) g.trusted g.end fs
    → ((k : ℕ) → region_hides g k ≡ true → cap_in gs k ≡ plain 0) → Begun g gs gs [] fs fs
begun_first g gs fs fresh clear = record {
  size = refl;
  memory = refl;
  threads = refl;
  places = refl;
  areas = (omega arith, no_plain g.ram gs g.trusted);
  clear = λ k lo hi. clear k (hidden_is g k lo hi);
  rest = fresh;
}

-- so many of them started
abbrev pub BegunTo : Region → List Granule → List Granule → List row.Thread → List Fresh → ℕ → Type 0
BegunTo g was gs ts fs i = Begun g was gs ts fs (drop i fs)

-- the one that an index gives is next
pub begun_at : (g : Region) (was gs : List Granule) (ts : List row.Thread) (fs : List Fresh) (i : ℕ) (f : Fresh) → BegunTo g was gs ts fs i → i < length fs
    → f ≡ get_or fs i f → Begun g was gs ts fs (f ∷ drop (i + 1) fs)
begun_at g was gs ts fs i f b lt is = subst (Begun g was gs ts fs) (from_here fs i f lt is) b

-- the next one
module _ (g : Region) (was gs : List Granule) (ts : List row.Thread) (fs todo : List Fresh) (f : Fresh) (b : Begun g was gs ts fs (f ∷ todo)) where
  high : f.area.trusted + f.area.trusted_length ≤ g.end
  high = fresh_ends g.ram (8 * length was) (f.area.trusted + f.area.trusted_length) g.end todo b.rest.3

  -- its area is clear
  pub next_clear : (k : ℕ) → area_begin f.area ≤ k → k < area_end f.area → cap_in gs k ≡ plain 0
  next_clear k lo hi =
      let low = b.rest.0 in
      let base = b.rest.1 in
      let most = high in
      let w = within (8 * length was) f.area k b.rest.2.area lo hi in
      let l = w.0 in
      let h = w.1 in
      b.clear k (omega (arith, low, base, l)) (omega (arith, base, most, h))

  pub next_fresh : IsFresh (8 * length gs) f
  next_fresh = subst (λ n. IsFresh (8 * n) f) (sym b.size) b.rest.2

  -- and started
  pub begun_next : (hs : List Granule) (t : row.Thread) → Touches (area_begin f.area) (area_end f.area) gs hs → IsKept hs false t → t.area ≡ f.area
      → thread_of hs false t ≡ first_of f → Begun g was hs (ts ++ t ∷ []) fs todo
  begun_next hs t touches kept place same =
      let low = b.rest.0 in
      let base = b.rest.1 in
      let most = high in
      let has : HasArea (8 * length was) f.area = b.rest.2.area in
      let from = ends g.ram gs [] 0 g.trusted (end_of g.trusted ts) ts b.areas in
      let end : end_of g.trusted (ts ++ t ∷ []) ≡ f.area.trusted + f.area.trusted_length = end_last g.trusted ts t ∙ ap (λ (a : Area). a.trusted + a.trusted_length) place in
      let before : Same g.ram gs hs g.trusted (end_of g.trusted ts) =
      λ m lo hi. outside (8 * length was) f.area gs hs m has touches (inl (omega (arith, hi, low, base))) in
      let same_rows = rows_same g.ram gs hs [] [] 0 g.trusted (end_of g.trusted ts) ts b.areas touches.size before (λ u lo. refl) in
      let between : ArePlain g.ram hs (end_of g.trusted ts) f.area.trusted =
      λ m lo hi. plain_zero (cap_in hs m) (outside (8 * length was) f.area gs hs m has touches (inl (omega (arith, hi, base))) ∙ b.clear m lo (omega (arith, hi, most))) in
      record {
        size = touches.size ∙ b.size;
        memory = hidden_changes (region_hides g) gs hs (area_begin f.area) (area_end f.area) touches
            (λ k lo hi. let w = within (8 * length was) f.area k has lo hi in
            let l = w.0 in
            let h = w.1 in
            hidden_is g k (omega (arith, from, low, base, l)) (omega (arith, most, base, h)))
            ∙ b.memory;
        threads = ap (λ xs. xs ++ map (λ u. first_of u) todo) (threads_last hs 0 ts t ∙ ap (λ xs. xs ++ thread_of hs false t ∷ []) same_rows.1)
            ∙ append_assoc (threads_of gs [] 0 ts) (thread_of hs false t ∷ []) (map (λ u. first_of u) todo)
            ∙ ap (λ x. threads_of gs [] 0 ts ++ x ∷ map (λ u. first_of u) todo) same ∙ b.threads;
        places = ap (λ xs. xs ++ map (λ (u : Fresh). u.area) todo) (map_push (λ (u : row.Thread). u.area) ts t)
            ∙ append_assoc (map (λ (u : row.Thread). u.area) ts) (t.area ∷ []) (map (λ (u : Fresh). u.area) todo)
            ∙ ap (λ a. map (λ (u : row.Thread). u.area) ts ++ a ∷ map (λ (u : Fresh). u.area) todo) place ∙ b.places;
        areas = rw (end_last g.trusted ts t) (areas_last g.ram hs 0 g.trusted (end_of g.trusted ts) ts t same_rows.0 (rw place low) (rw place base) kept
            (subst (λ (a : Area). ArePlain g.ram hs (end_of g.trusted ts) a.trusted) (sym place) between));
        clear = λ k lo hi. (let after : f.area.trusted + f.area.trusted_length ≤ g.ram + 8 * k = subst (λ n. n ≤ g.ram + 8 * k) end lo in
            outside (8 * length was) f.area gs hs k has touches (inr (omega (arith, after, base)))
            ∙ b.clear k (omega (arith, after, low)) hi);
        rest = subst (λ n. AreFresh g.ram (8 * length was) n g.end todo) (sym end) b.rest.3;
      }

-- all of them started
pub have_begun : (g : Region) (was gs : List Granule) (ts : List row.Thread) (fs : List Fresh) (i : ℕ) → BegunTo g was gs ts fs i → length fs ≤ i
    → HaveBegun g was gs ts fs
have_begun g was gs ts fs i b le =
    let all : Begun g was gs ts fs [] = subst (Begun g was gs ts fs) (drop_all i fs le) b in
    record {
      size = all.size;
      memory = all.memory;
      threads = sym (append-nil (threads_of gs [] 0 ts)) ∙ all.threads;
      places = sym (append-nil (map (λ (t : row.Thread). t.area) ts)) ∙ all.places;
      areas = areas_more g.ram gs [] 0 g.trusted (end_of g.trusted ts) g.end ts all.rest (λ k lo hi. plain_zero (cap_in gs k) (all.clear k lo hi)) all.areas;
    }
