-- The regions of what is linked, list by list: each stands where placement puts it.
use Rattle.std.proofs.Common.{ℕ, zero, suc, ◌≡◌, ◌+◌, ◌*◌, ◌≤◌, max, List, [], ◌∷◌, ◌++◌, length, map, drop, refl, sym, ap, subst, arith}
use Rattle.std.specs.List.{AllByRecursion}
use Rattle.ct_entry.specs.declared.rows.Owner.TheVariants.{Compartment, Library}
use Rattle.def_layout.specs.declared.Region.{Region}
use Rattle.def_layout.specs.Placement.{region_length, region_base, placed, last_end}
use Rattle.def_image.specs.Sizes.{sum_of, sealed_size, compartment_size, library_size}
use Rattle.def_image.specs.Spelling.{raw_sealed, raw_compartment, raw_code}
use Rattle.def_image.specs.Regions.{CodeOf, TableOf, GlobalsOf, SharedOf, SealedOf, StackOf, region_row, table_length, area_size, shared_regions, sealed_regions, compartment_regions, library_regions, stack_regions}
use Rattle.def_image.specs.declared.format.TheConstants.{SHARED, THREAD}
use Rattle.def_desc.specs.Rows.{DescShared, DescSealed, DescThread, DescRow}
use Rattle.def_link.specs.Slots.{export_gate}
use Rattle.def_link.specs.Linked.{BuiltCompartment, BuiltLibrary, compartment_slot_count, compartment_code_size, library_code_size, compartment_sizes, saved_area_size as row_area, compartment_part, compartment_parts, built_compartment_entries, library_part, library_parts, built_library_entries, shared_parts, sealed_parts, thread_parts}
use Rattle.law_link.proofs.Indexed.{numbered_length}
use Rattle.law_link.proofs.Orders.{Stands, Between, stands}

-- ---- compartments

-- sizes that a region may have
pub record AreSized (x : BuiltCompartment) : Type 0 where
  pub code : compartment_code_size x ≤ 2097152
  pub table : 16 + 16 * length x.row.exports ≤ 2097152
  pub globals : max x.row.globals (length x.built.initial) ≤ 2097152

pub table_is : (d : DescRow) (entry : ℕ) (regions : List Region) (x : BuiltCompartment) → table_length (compartment_part d entry regions x) ≡ region_length (16 + 16 * length x.row.exports)
table_is d entry regions x =
    ap (λ n. region_length (16 + 16 * n)) (numbered_length (export_gate x.built) (entry + 2 + compartment_slot_count x.row) x.row.exports)

pub compartments_between : (d : DescRow) (entry end at b : ℕ) (rest : List ℕ) (cs : List BuiltCompartment) → AllByRecursion AreSized cs
    → Between end (compartment_regions at b (compartment_parts d entry (placed end (compartment_sizes cs ++ rest)) cs)) (last_end end (compartment_sizes cs))
unfolding compartment_parts placed last_end Between
compartments_between d entry end at b rest [] h = omega arith
compartments_between d entry end at b rest (x ∷ xs) h =
    let n1 = compartment_code_size x in
    let n2 = 16 + 16 * length x.row.exports in
    let n3 = max x.row.globals (length x.built.initial) in
    let e1 = region_base end n1 + region_length n1 in
    let e2 = region_base e1 n2 + region_length n2 in
    let e3 = region_base e2 n3 + region_length n3 in
    let regions = placed end (compartment_sizes (x ∷ xs) ++ rest) in
    let part = compartment_part d entry regions x in
    let is = table_is d entry regions x in
    let later = compartments_between d (entry + built_compartment_entries x) e3 (at + compartment_size (raw_compartment part)) (b + 1) rest xs h.1 in (
      stands end n1 (CodeOf (Compartment b)) (at + 32) (region_length n1) h.0.code refl,
      (
        stands e1 n2 (TableOf b) (at + 44) (table_length part) h.0.table is,
        (
          subst (λ l. Stands (region_base e1 n2 + l) (region_row (GlobalsOf b) (at + 48) (region_base e2 n3) (region_length n3))) (sym is)
              (stands e2 n3 (GlobalsOf b) (at + 48) (region_length n3) h.0.globals refl),
          later,
        ),
      ),
    )

-- ---- libraries, objects, stacks

pub libraries_between : (d : DescRow) (entry end at l : ℕ) (rest : List ℕ) (ls : List BuiltLibrary) → AllByRecursion (λ x. library_code_size x ≤ 2097152) ls
    → Between end (library_regions at l (library_parts d entry (placed end (map library_code_size ls ++ rest)) ls)) (last_end end (map library_code_size ls))
unfolding library_parts placed last_end Between
libraries_between d entry end at l rest [] h = omega arith
libraries_between d entry end at l rest (x ∷ xs) h =
    let n = library_code_size x in
    let next = region_base end n + region_length n in
    let part = library_part d entry (placed end (map library_code_size (x ∷ xs) ++ rest)) x in (
      stands end n (CodeOf (Library l)) (at + 32) (region_length n) h.0 refl,
      libraries_between d (entry + built_library_entries x) next (at + library_size (raw_code part)) (l + 1) rest xs h.1,
    )

pub shared_between : (end at k : ℕ) (rest : List ℕ) (ss : List DescShared) → AllByRecursion (λ (s : DescShared). s.size ≤ 2097152) ss
    → Between end (shared_regions at k (shared_parts (placed end (map (λ (s : DescShared). s.size) ss ++ rest)) ss)) (last_end end (map (λ (s : DescShared). s.size) ss))
unfolding shared_parts placed last_end Between
shared_between end at k rest [] h = omega arith
shared_between end at k rest (s ∷ ss) h = (
  stands end s.size (SharedOf k) (at + 32) (region_length s.size) h.0 refl,
  shared_between (region_base end s.size + region_length s.size) (at + SHARED) (k + 1) rest ss h.1,
)

pub sealed_between : (end at k : ℕ) (rest : List ℕ) (ss : List DescSealed) → AllByRecursion (λ (s : DescSealed). length s.bytes ≤ 2097152) ss
    → Between end (sealed_regions at k (sealed_parts (placed end (map (λ (s : DescSealed). length s.bytes) ss ++ rest)) ss)) (last_end end (map (λ (s : DescSealed). length s.bytes) ss))
unfolding sealed_parts placed last_end Between
sealed_between end at k rest [] h = omega arith
sealed_between end at k rest (s ∷ ss) h =
    let n = length s.bytes in
    let base = region_base end n in
    let size = region_length n in (
      stands end n (SealedOf k) (at + 32) size h.0 refl,
      sealed_between (base + size) (at + sealed_size (raw_sealed (record { name = s.name; base = base; length = size; seal = s.seal; bytes = s.bytes }))) (k + 1) rest ss h.1,
    )

pub stacks_between : (d : DescRow) (end at k : ℕ) (rest : List ℕ) (ts : List DescThread) → AllByRecursion (λ (t : DescThread). t.stack ≤ 2097152) ts
    → Between end (stack_regions at k (thread_parts d (placed end (map (λ (t : DescThread). t.stack) ts ++ rest)) ts)) (last_end end (map (λ (t : DescThread). t.stack) ts))
unfolding thread_parts placed last_end Between
stacks_between d end at k rest [] h = omega arith
stacks_between d end at k rest (t ∷ ts) h = (
  stands end t.stack (StackOf k) (at + 32) (region_length t.stack) h.0 refl,
  stacks_between d (region_base end t.stack + region_length t.stack) (at + THREAD) (k + 1) rest ts h.1,
)

-- ---- counts

pub compartment_count : (cs : List BuiltCompartment) → length (compartment_sizes cs) ≡ 3 * length cs
compartment_count [] = refl
compartment_count (x ∷ xs) = let rest = compartment_count xs in omega (arith, rest)

-- the trusted region's size is that of the threads' areas
pub areas : (d : DescRow) (regions : List Region) (ts : List DescThread) → sum_of area_size (thread_parts d regions ts) ≡ sum_of row_area ts
unfolding thread_parts
areas d regions [] = refl
areas d regions (t ∷ ts) = let rest = areas d (drop 1 regions) ts in ap (λ n. row_area t + n) rest

pub few_areas : (ts : List DescThread) (n : ℕ) → AllByRecursion (λ (t : DescThread). t.frames ≤ 96) ts → length ts ≤ n → sum_of row_area ts ≤ n * 6304
few_areas [] n h le = omega arith
few_areas (t ∷ ts) zero h le = absurd (omega (arith, le))
few_areas (t ∷ ts) (suc n) h le =
    let rest = few_areas ts n h.1 (omega (arith, le)) in
    let one = h.0 in
    omega (arith, rest, one)
