-- A generated firmware links.
use Rattle.std.proofs.Common.{ℕ, zero, suc, ◌≡◌, ◌+◌, ◌*◌, ◌/◌, ◌%◌, ◌^◌, ◌<◌, ◌≤◌, Bool, true, false, cond, List, [], ◌∷◌, ◌++◌, length, map, max, take, Ok, refl, ap, sym, ◌∙◌, subst, arith, append-nil}
use Rattle.std.specs.Prelude.{nat_lt}
use Rattle.std.specs.List.{range_with_len}
use Rattle.std.proofs.lemmas.Bool.{le-ltb}
use Rattle.std.proofs.lemmas.List.{take_all}
use Rattle.std.proofs.lemmas.List.FromFn.{length-map-range_with_len}
use Rattle.def_profile.specs.declared.layout.TheConstants.{TRUSTED_HEAD}
use Rattle.def_profile.specs.Areas.{area_length}
use Rattle.serde_json.specs.Data.{Data}
use Rattle.def_layout.specs.Placement.{placed, last_end, needed}
use Rattle.def_image.specs.Parts.{PartsRow}
use Rattle.def_desc.specs.Rows.{DescCompartment, DescRow}
use Rattle.def_desc.specs.Reading.{cut, compartment_of_object, description_of}
use Rattle.def_link.specs.Owners.{Unit as OwnerUnit, Built, numbered, compartment_unit, units_of, built_before, all_built}
use Rattle.def_link.specs.Linked.{BuiltCompartment, compartments_with, compartment_sizes, sizes_of, parts_of, built_parts, linked_with, linked}
use Rattle.def_gen.specs.declared.TheConstants.{RAM_BASE, RAM_SIZE}
use Rattle.def_gen.specs.Numbers.{count_of, chosen, globals_of, passes_data, is_last}
use Rattle.def_gen.specs.Description.{firmware_over, array_data, compartments, firmware}
use Rattle.def_gen.specs.Sources.{source_with, sources}
use Rattle.law_gen.proofs.Lists.{list_items}
use Rattle.law_gen.proofs.Owned.{one}
use Rattle.law_gen.proofs.Built.{initial_with, no_initial, few_text, built_with, unit_is}
use Rattle.law_gen.proofs.Room.{Takes, takes_none, takes_one, takes_both}

-- ---- what the compartments are

-- by their indexes: whether one is the last, whether it passes data alone, its globals, and which of the sizes it
-- allocates
pub record Plan : Type 0 where
  pub count : ℕ
  pub last : ℕ → Bool
  pub passes : ℕ → Bool
  pub globals : ℕ → ℕ
  pub units : ℕ → ℕ

record IsSmall (p : Plan) : Type 0 where
  most : p.count ≤ 64
  globals : (i : ℕ) → p.globals i ≤ 1024
  units : (i : ℕ) → p.units i < 32

abbrev pub row_at : Plan → ℕ → DescCompartment
row_at p i = compartment_of_object (one p.last p.passes p.globals i)

abbrev source_at : Plan → ℕ → List ℕ
source_at p i = source_with (p.last i) (8 * (1 + p.units i)) i

abbrev built_at : Plan → ℕ → Built
built_at p i = built_with (p.last i) (8 * (1 + p.units i)) i

rows_map : (f : ℕ → Data) (a m : ℕ) → map compartment_of_object (map f (range_with_len a m)) ≡ map (λ i. compartment_of_object (f i)) (range_with_len a m)
rows_map f a zero = refl
rows_map f a (suc m) = ap (λ (l : List DescCompartment). compartment_of_object (f a) ∷ l) (rows_map f (a + 1) m)

all_units : (p : Plan) → IsSmall p → (a m : ℕ) → a + m ≤ 64
    → all_built (numbered compartment_unit a (map (row_at p) (range_with_len a m))) (map (source_at p) (range_with_len a m)) ≡ Ok (map (built_at p) (range_with_len a m))
unfolding all_built
all_units p small a zero le = refl
all_units p small a (suc m) le =
    ap (λ r. built_before r (all_built (numbered compartment_unit (a + 1) (map (row_at p) (range_with_len (a + 1) m))) (map (source_at p) (range_with_len (a + 1) m))))
    (unit_is (p.last a) (p.passes a) (p.globals a) (p.units a) a (small.units a) (omega arith))
    ∙ ap (built_before (Ok (built_at p a))) (all_units p small (a + 1) m (omega arith))

-- ---- sizes

abbrev with_built : Plan → ℕ → ℕ → List BuiltCompartment
with_built p a m = compartments_with (map (row_at p) (range_with_len a m)) (map (built_at p) (range_with_len a m))

cut_small : (n most : ℕ) → n ≤ most → cut n ≤ most
cut_small n most le = by (nat_lt n (2 ^ 32))
  where
    by : (b : Bool) → cond b n 0 ≤ most
    by true = le
    by false = omega arith

-- code, exports and globals of one compartment
one_takes : (last passes : Bool) (globals size i : ℕ) → globals ≤ 1024
    → Takes (compartment_sizes (record { row = compartment_of_object (one (λ k. last) (λ k. passes) (λ k. globals) i); built = built_with last size i } ∷ [])) 1720
one_takes last passes globals size i le = by last passes
  where
    three : (a b c : ℕ) → a ≤ 216 → b ≤ 48 → c ≤ 1024 → Takes (a ∷ b ∷ c ∷ []) 1720
    three a b c ha hb hc = record {
      within = λ end. (
          let first = takes_one a (omega (arith, ha)) in
          let second = takes_one b (omega (arith, hb)) in
          let third = takes_one c (omega (arith, hc)) in
          let all = (takes_both (a ∷ []) (b ∷ c ∷ []) (a + 144) ((b + 144) + (c + 144)) first (takes_both (b ∷ []) (c ∷ []) (b + 144) (c + 144) second third)).within end in
          omega (arith, all, ha, hb, hc)
          );
    }

    initial_small : (l : Bool) → max (cut globals) (length (initial_with l size i)) ≤ 1024
    initial_small l =
        let none : length (initial_with l size i) ≡ 0 = ap length (no_initial l size i) in
        let few = cut_small globals 1024 le in
        omega (arith, none, few)

    by : (l q : Bool) → Takes (compartment_sizes (record { row = compartment_of_object (one (λ k. l) (λ k. q) (λ k. globals) i); built = built_with l size i } ∷ [])) 1720
    by true true = let few = few_text true size i in three _ _ _ (omega (arith, few)) (omega arith) (initial_small true)
    by true false = let few = few_text true size i in three _ _ _ (omega (arith, few)) (omega arith) (initial_small true)
    by false true = let few = few_text false size i in three _ _ _ (omega (arith, few)) (omega arith) (initial_small false)
    by false false = let few = few_text false size i in three _ _ _ (omega (arith, few)) (omega arith) (initial_small false)

own_take : (p : Plan) → IsSmall p → (a m : ℕ) → Takes (compartment_sizes (with_built p a m)) (1720 * m)
own_take p small a zero = takes_none
own_take p small a (suc m) =
    let here = one_takes (p.last a) (p.passes a) (p.globals a) (8 * (1 + p.units a)) a (small.globals a) in
    let both = takes_both _ _ 1720 (1720 * m) here (own_take p small (a + 1) m) in
    subst (Takes (compartment_sizes (with_built p a (suc m)))) (omega arith) both

-- ---- the whole

abbrev owners_of : Plan → List Data
owners_of p = map (one p.last p.passes p.globals) (range_with_len 0 p.count)

abbrev rows_in : Plan → DescRow
rows_in p = description_of (firmware_over p.count (array_data (owners_of p)))

abbrev sources_of : Plan → List (List ℕ)
sources_of p = map (source_at p) (range_with_len 0 p.count)

abbrev all_with : Plan → List BuiltCompartment
all_with p = with_built p 0 p.count

same_rows : (p : Plan) → (rows_in p).compartments ≡ map (row_at p) (range_with_len 0 p.count)
same_rows p = ap (map compartment_of_object) (list_items (owners_of p)) ∙ rows_map (one p.last p.passes p.globals) 0 p.count

all_are_built : (p : Plan) → IsSmall p → all_built (units_of (rows_in p)) (sources_of p) ≡ Ok (map (built_at p) (range_with_len 0 p.count))
all_are_built p small =
    let most : p.count ≤ 64 = small.most in
    ap (λ (us : List OwnerUnit). all_built us (sources_of p)) (append-nil (numbered compartment_unit 0 (rows_in p).compartments))
    ∙ ap (λ (rs : List DescCompartment). all_built (numbered compartment_unit 0 rs) (sources_of p)) (same_rows p)
    ∙ all_units p small 0 p.count (omega arith)

all_taken : (p : Plan) → compartments_with (rows_in p).compartments (take (length (rows_in p).compartments) (map (built_at p) (range_with_len 0 p.count))) ≡ all_with p
all_taken p =
    let bs : List Built = map (built_at p) (range_with_len 0 p.count) in
    let rs : List DescCompartment = map (row_at p) (range_with_len 0 p.count) in
    let few : length bs ≤ length rs =
    (let first : length bs ≡ p.count = length-map-range_with_len (built_at p) 0 p.count in
    let second : length rs ≡ p.count = length-map-range_with_len (row_at p) 0 p.count in
    omega (arith, first, second)) in
    ap (λ (l : List DescCompartment). compartments_with l (take (length l) bs)) (same_rows p)
    ∙ ap (compartments_with rs) (take_all (length rs) bs few)

nil_more : (ns : List ℕ) (a : ℕ) → Takes ns a → Takes (ns ++ []) a
nil_more ns a h = subst (λ (l : List ℕ). Takes l a) (sym (append-nil ns)) h

trusted_few : (n : ℕ) → n ≤ 65 → TRUSTED_HEAD + (area_length n + (area_length n + 0)) ≤ 8656
trusted_few n le = omega arith

sizes_take : (p : Plan) → IsSmall p → Takes (sizes_of (rows_in p) (all_with p) []) 135552
sizes_take p small =
    let most : p.count ≤ 64 = small.most in
    let own : List ℕ = compartment_sizes (all_with p) in
    let taken : Takes own (1720 * p.count) = own_take p small 0 p.count in
    let three : Takes (own ++ [] ++ [] ++ []) (1720 * p.count) = nil_more (own ++ [] ++ []) (1720 * p.count) (nil_more (own ++ []) (1720 * p.count) (nil_more own (1720 * p.count) taken)) in
    let stacks : Takes (8192 ∷ 8192 ∷ []) (8336 + 8336) = takes_both (8192 ∷ []) (8192 ∷ []) 8336 8336 (takes_one 8192 (omega arith)) (takes_one 8192 (omega arith)) in
    let frames : cut (p.count + 1) ≤ 65 = cut_small (p.count + 1) 65 (omega arith) in
    let trusted : ℕ = TRUSTED_HEAD + (area_length (cut (p.count + 1)) + (area_length (cut (p.count + 1)) + 0)) in
    let few : trusted ≤ 8656 = trusted_few (cut (p.count + 1)) frames in
    let last : Takes (trusted ∷ []) (trusted + 144) = takes_one trusted (omega arith) in
    let all = takes_both (own ++ [] ++ [] ++ [] ++ 8192 ∷ 8192 ∷ []) (trusted ∷ []) (1720 * p.count + (8336 + 8336)) (trusted + 144)
    (takes_both (own ++ [] ++ [] ++ []) (8192 ∷ 8192 ∷ []) (1720 * p.count) (8336 + 8336) three stacks) last in
    record {
      within = λ end. (
          let here = all.within end in
          omega (arith, here, few, most)
          );
    }

room : (p : Plan) → IsSmall p → nat_lt RAM_SIZE (needed RAM_BASE (sizes_of (rows_in p) (all_with p) [])) ≡ false
room p small =
    let within = (sizes_take p small).within RAM_BASE in
    le-ltb RAM_SIZE (needed RAM_BASE (sizes_of (rows_in p) (all_with p) [])) (omega (arith, within))

abbrev parts : Plan → PartsRow
parts p =
    let sizes = sizes_of (rows_in p) (all_with p) [] in
    parts_of (rows_in p) (all_with p) [] (placed RAM_BASE sizes) (last_end RAM_BASE sizes)

laid_in : (p : Plan) → IsSmall p → built_parts (rows_in p) (all_with p) [] ≡ Ok (parts p)
laid_in p small = rw (room p small) refl

links_in : (p : Plan) → IsSmall p → linked (rows_in p) (sources_of p) ≡ Ok (parts p)
unfolding linked
links_in p small =
    ap (linked_with (rows_in p)) (all_are_built p small)
    ∙ ap (λ (cs : List BuiltCompartment). built_parts (rows_in p) cs []) (all_taken p)
    ∙ laid_in p small

-- ---- of a number

abbrev pub plan : ℕ → Plan
plan seed = record {
  count = count_of seed;
  last = is_last (count_of seed);
  passes = λ i. passes_data (chosen seed i);
  globals = λ i. globals_of (chosen seed i);
  units = λ i. chosen seed i / 256 % 32;
}

globals_few : (y : ℕ) → globals_of y ≤ 1024
globals_few y = let rest : y % 64 < 64 = omega arith in omega (arith, rest)

units_few : (y : ℕ) → y / 256 % 32 < 32
units_few y = omega arith

small : (seed : ℕ) → IsSmall (plan seed)
small seed =
    let rest : seed % 63 < 63 = omega arith in
    record { most = omega (arith, rest); globals = λ i. globals_few (chosen seed i); units = λ i. units_few (chosen seed i) }

abbrev pub parts_of_seed : ℕ → PartsRow
parts_of_seed seed = parts (plan seed)

-- the owners are the compartments, each with its file
pub seed_units : (seed : ℕ) → units_of (description_of (firmware seed)) ≡ numbered compartment_unit 0 (map (row_at (plan seed)) (range_with_len 0 (count_of seed)))
unfolding firmware compartments
seed_units seed =
    append-nil (numbered compartment_unit 0 (rows_in (plan seed)).compartments)
    ∙ ap (λ (rs : List DescCompartment). numbered compartment_unit 0 rs) (same_rows (plan seed))

pub generated_links : (seed : ℕ) → linked (description_of (firmware seed)) (sources seed) ≡ Ok (parts_of_seed seed)
unfolding firmware compartments sources
generated_links seed = links_in (plan seed) (small seed)
