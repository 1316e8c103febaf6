-- Regions, devices, RAM and the heap of what is linked lie as those of an image may.
use Rattle.std.proofs.Common.{ℕ, zero, suc, ◌≡◌, ◌+◌, ◌*◌, ◌%◌, ◌<◌, ◌≤◌, ◌||◌, not, Bool, true, false, cond, nat_le, nat_lt, nat_eq, List, [], ◌∷◌, ◌++◌, length, map, take, drop, Some, None, slice_get, refl, sym, ap, ap₂, ◌∙◌, subst, append_assoc, arith, inl, inr}
use Rattle.std.specs.List.{AllByRecursion, list_any}
use Rattle.std.proofs.lemmas.List.{length-append, length-map}
use Rattle.std.proofs.lemmas.Bool.{le-leb, le-ltb, eq-eqb}
use Rattle.ct_entry.specs.Listed.{DeviceRow}
use Rattle.law_lists.proofs.Alls.{all_joined, all_so}
use Rattle.law_lists.proofs.Tests.{lt_tells}
use Rattle.def_layout.specs.Placement.{region_from, region_length, region_base, placed, last_end}
use Rattle.def_image.specs.declared.format.TheConstants.{DEVICE}
use Rattle.def_image.specs.Parts.{PartsRow}
use Rattle.def_image.specs.Spelling.{raw_of}
use Rattle.def_image.specs.Sizes.{sum_of, header_size, shared_at, sealed_at, compartments_at, libraries_at, threads_at}
use Rattle.def_image.specs.Regions.{RegionRow, TrustedPart, trusted_region, trusted_length, shared_regions, sealed_regions, compartment_regions, library_regions, stack_regions, later_regions}
use Rattle.def_image.specs.Regions as regions
use Rattle.def_image.specs.Checks.{first, walked, check}
use Rattle.def_image.specs.Lying.{overlaps, overlaps_native, is_laid, is_heap_laid, region_asked, overlaps_device, is_device_laid, device_asked, region_checks}
use Rattle.def_image.specs.Sound.{IsAway}
use Rattle.def_desc.specs.declared.Ram.{Ram}
use Rattle.def_desc.specs.Rows.{DescShared, DescSealed, DescThread, DescRow}
use Rattle.def_desc.specs.Lawful.{IsLawful, IsLawfulDevice, IsLawfulShared, IsLawfulSealed, IsLawfulThread, AreApart}
use Rattle.def_link.specs.Owners.{compartment_unit, library_unit}
use Rattle.def_link.specs.Linked.{BuiltCompartment, BuiltLibrary, library_code_size, compartment_sizes, saved_area_size, sizes_of, base_at, compartment_parts, built_compartment_entries, library_parts, shared_parts, sealed_parts, thread_parts, parts_of}
use Rattle.law_image.proofs.Limited.{threads_most}
use Rattle.law_image.proofs.Members.{all_at}
use Rattle.law_image.proofs.Passing.{joined_none, one_none}
use Rattle.def_link.specs.Links.{RowsLinkTo}
use Rattle.law_link.proofs.Walks.{next_none, walk_each, walk_joined}
use Rattle.law_link.proofs.Linkeds.{Parts, parts, GoodCompartment, GoodLibrary, compartments_good, libraries_good}
use Rattle.law_link.proofs.Builts.{unit_sound}
use Rattle.law_link.proofs.Orders.{third_false, fourth_false, last_joined, left_after, last_base, Stands, stands, Between, grows, all_from, all_to, clear_after, clear_before, clear_joined, laid_so, stretch_passes}
use Rattle.law_link.proofs.Placings.{AreSized, compartments_between, libraries_between, shared_between, sealed_between, stacks_between, compartment_count, areas, few_areas}

-- ---- sizes that regions may have

compartment_sized : (d : DescRow) (x : BuiltCompartment) → GoodCompartment d x → AreSized x
compartment_sized d x g =
    let row = g.row in
    let i = row.imports in
    let q = row.quotas in
    let k = row.keys in
    let e = row.exports in
    let globals = row.globals in
    let b = g.built in
    let s = unit_sound (compartment_unit b.index x.row) b.built.source x.built row.code b.built.built in
    let text = s.text.few in
    let initial = s.text.initial_few in
    record {
      code = omega (arith, i, q, k, text);
      table = omega (arith, e);
      globals = omega (arith, globals, initial);
    }

library_sized : (d : DescRow) (x : BuiltLibrary) → GoodLibrary d x → library_code_size x ≤ 2097152
library_sized d x g =
    let row = g.row in
    let i = row.imports in
    let b = g.built in
    let s = unit_sound (library_unit b.index x.row) b.built.source x.built row.code b.built.built in
    let text = s.text.few in
    omega (arith, i, text)

-- ---- the stretches of placement

-- the sizes of a list's regions
unfoldable pub shared_sizes : DescRow → List ℕ
shared_sizes d = map (λ (s : DescShared). s.size) d.shared

unfoldable pub sealed_sizes : DescRow → List ℕ
sealed_sizes d = map (λ (s : DescSealed). length s.bytes) d.sealed

unfoldable pub stack_sizes : DescRow → List ℕ
stack_sizes d = map (λ (t : DescThread). t.stack) d.threads

unfoldable pub trusted_size : DescRow → ℕ
trusted_size d = 16 + sum_of saved_area_size d.threads

-- five lists and a last size, cut after each list
cut_1 : (a b c e f z : List ℕ) → a ++ b ++ c ++ e ++ f ++ z ≡ a ++ (b ++ (c ++ (e ++ (f ++ z))))
cut_1 a b c e f z =
    append_assoc (a ++ b ++ c ++ e) f z ∙ append_assoc (a ++ b ++ c) e (f ++ z) ∙ append_assoc (a ++ b) c (e ++ (f ++ z)) ∙ append_assoc a b (c ++ (e ++ (f ++ z)))

cut_2 : (a b c e f z : List ℕ) → a ++ b ++ c ++ e ++ f ++ z ≡ (a ++ b) ++ (c ++ (e ++ (f ++ z)))
cut_2 a b c e f z = append_assoc (a ++ b ++ c ++ e) f z ∙ append_assoc (a ++ b ++ c) e (f ++ z) ∙ append_assoc (a ++ b) c (e ++ (f ++ z))

cut_3 : (a b c e f z : List ℕ) → a ++ b ++ c ++ e ++ f ++ z ≡ (a ++ b ++ c) ++ (e ++ (f ++ z))
cut_3 a b c e f z = append_assoc (a ++ b ++ c ++ e) f z ∙ append_assoc (a ++ b ++ c) e (f ++ z)

cut_4 : (a b c e f z : List ℕ) → a ++ b ++ c ++ e ++ f ++ z ≡ (a ++ b ++ c ++ e) ++ (f ++ z)
cut_4 a b c e f z = append_assoc (a ++ b ++ c ++ e) f z

-- where each list of regions ends, and what the parts are made of
pub record Ends (d : DescRow) (cs : List BuiltCompartment) (ls : List BuiltLibrary) : Type 0 where
  pub e1 : ℕ
  pub e2 : ℕ
  pub e3 : ℕ
  pub e4 : ℕ
  pub e5 : ℕ
  pub c_to : last_end d.ram.base (compartment_sizes cs) ≡ e1
  pub l_to : last_end e1 (map library_code_size ls) ≡ e2
  pub s_to : last_end e2 (shared_sizes d) ≡ e3
  pub x_to : last_end e3 (sealed_sizes d) ≡ e4
  pub t_to : last_end e4 (stack_sizes d) ≡ e5
  pub heap : last_end d.ram.base (sizes_of d cs ls) ≡ region_base e5 (trusted_size d) + region_length (trusted_size d)
  pub trusted : (base_at (placed d.ram.base (sizes_of d cs ls)) (3 * length cs + length ls + length d.shared + length d.sealed + length d.threads)) ≡ region_base e5 (trusted_size d)
  pub all : placed d.ram.base (sizes_of d cs ls) ≡ placed d.ram.base (compartment_sizes cs ++ (map library_code_size ls ++ (shared_sizes d ++ (sealed_sizes d ++ (stack_sizes d ++ trusted_size d ∷ [])))))
  pub libraries : drop (3 * length cs) (placed d.ram.base (sizes_of d cs ls)) ≡ placed e1 (map library_code_size ls ++ (shared_sizes d ++ (sealed_sizes d ++ (stack_sizes d ++ trusted_size d ∷ []))))
  pub shared : drop (3 * length cs + length ls) (placed d.ram.base (sizes_of d cs ls)) ≡ placed e2 (shared_sizes d ++ (sealed_sizes d ++ (stack_sizes d ++ trusted_size d ∷ [])))
  pub sealed : drop (3 * length cs + length ls + length d.shared) (placed d.ram.base (sizes_of d cs ls)) ≡ placed e3 (sealed_sizes d ++ (stack_sizes d ++ trusted_size d ∷ []))
  pub threads : drop (3 * length cs + length ls + length d.shared + length d.sealed) (placed d.ram.base (sizes_of d cs ls)) ≡ placed e4 (stack_sizes d ++ trusted_size d ∷ [])

pub ends : (d : DescRow) (cs : List BuiltCompartment) (ls : List BuiltLibrary) → Ends d cs ls
unfolding shared_sizes sealed_sizes stack_sizes trusted_size last_end
ends d cs ls =
    let b = d.ram.base in
    let c = compartment_sizes cs in
    let l = map library_code_size ls in
    let s = map (λ (s : DescShared). s.size) d.shared in
    let x = map (λ (s : DescSealed). length s.bytes) d.sealed in
    let t = map (λ (t : DescThread). t.stack) d.threads in
    let n = 16 + sum_of saved_area_size d.threads in
    let z = n ∷ [] in
    let count_c : length c ≡ 3 * length cs = compartment_count cs in
    let count_l : length l ≡ length ls = length-map ls library_code_size in
    let count_s : length s ≡ length d.shared = length-map d.shared (λ (s : DescShared). s.size) in
    let count_x : length x ≡ length d.sealed = length-map d.sealed (λ (s : DescSealed). length s.bytes) in
    let count_t : length t ≡ length d.threads = length-map d.threads (λ (t : DescThread). t.stack) in
    let n2 = length-append c l in
    let n3 = length-append (c ++ l) s in
    let n4 = length-append (c ++ l ++ s) x in
    let n5 = length-append (c ++ l ++ s ++ x) t in
    record {
      e1 = last_end b c;
      e2 = last_end b (c ++ l);
      e3 = last_end b (c ++ l ++ s);
      e4 = last_end b (c ++ l ++ s ++ x);
      e5 = last_end b (c ++ l ++ s ++ x ++ t);
      c_to = refl;
      l_to = sym (last_joined b c l);
      s_to = sym (last_joined b (c ++ l) s);
      x_to = sym (last_joined b (c ++ l ++ s) x);
      t_to = sym (last_joined b (c ++ l ++ s ++ x) t);
      heap = last_joined b (c ++ l ++ s ++ x ++ t) z;
      trusted = last_base b (3 * length cs + length ls + length d.shared + length d.sealed + length d.threads) (sizes_of d cs ls) (c ++ l ++ s ++ x ++ t) n (region_from 0 0) refl
          (omega (arith, count_c, count_l, count_s, count_x, count_t, n2, n3, n4, n5));
      all = ap (placed b) (cut_1 c l s x t z);
      libraries = left_after b (3 * length cs) (sizes_of d cs ls) c (l ++ (s ++ (x ++ (t ++ z)))) (cut_1 c l s x t z) (sym count_c);
      shared = left_after b (3 * length cs + length ls) (sizes_of d cs ls) (c ++ l) (s ++ (x ++ (t ++ z))) (cut_2 c l s x t z) (omega (arith, count_c, count_l, n2));
      sealed = left_after b (3 * length cs + length ls + length d.shared) (sizes_of d cs ls) (c ++ l ++ s) (x ++ (t ++ z)) (cut_3 c l s x t z) (omega (arith, count_c, count_l, count_s, n2, n3));
      threads = left_after b (3 * length cs + length ls + length d.shared + length d.sealed) (sizes_of d cs ls) (c ++ l ++ s ++ x) (t ++ z) (cut_4 c l s x t z) (omega (arith, count_c, count_l, count_s, count_x, n2, n3, n4));
    }

-- ---- the regions of the parts, stretch by stretch

-- the lists of regions, each between two addresses
pub record Stretches (p : PartsRow) : Type 0 where
  pub e1 : ℕ
  pub e2 : ℕ
  pub e3 : ℕ
  pub e4 : ℕ
  pub e5 : ℕ
  pub compartments : Between p.ram (compartment_regions (compartments_at (raw_of p)) 0 p.compartments) e1
  pub libraries : Between e1 (library_regions (libraries_at (raw_of p)) 0 p.libraries) e2
  pub shared : Between e2 (shared_regions (shared_at (raw_of p)) 0 p.shared) e3
  pub sealed : Between e3 (sealed_regions (sealed_at (raw_of p)) 0 p.sealed) e4
  pub stacks : Between e4 (stack_regions (threads_at (raw_of p)) 0 p.threads) e5
  pub trusted : Stands e5 (trusted_region p)
  pub heap : p.heap ≡ p.trusted + trusted_length p

pub stretches : (d : DescRow) (cs : List BuiltCompartment) (ls : List BuiltLibrary) → IsLawful d → AllByRecursion (GoodCompartment d) cs → AllByRecursion (GoodLibrary d) ls
    → Ends d cs ls → Stretches (parts_of d cs ls (placed d.ram.base (sizes_of d cs ls)) (last_end d.ram.base (sizes_of d cs ls)))
unfolding parts_of shared_sizes sealed_sizes stack_sizes trusted_size
stretches d cs ls law good_cs good_ls e =
    let sizes = sizes_of d cs ls in
    let all = placed d.ram.base sizes in
    let p = parts_of d cs ls all (last_end d.ram.base sizes) in
    let r = raw_of p in
    let n = 16 + sum_of saved_area_size d.threads in
    let z = n ∷ [] in
    let l = map library_code_size ls in
    let s = map (λ (s : DescShared). s.size) d.shared in
    let x = map (λ (s : DescSealed). length s.bytes) d.sealed in
    let t = map (λ (t : DescThread). t.stack) d.threads in
    let frames = all_so (IsLawfulThread d) (λ (t : DescThread). t.frames ≤ 96) d.threads (λ t h. h.frames.1) law.thread in
    let few = law.few.threads in
    let most = threads_most d.version in
    let small = few_areas d.threads 64 frames (omega (arith, few, most)) in
    let length_is : trusted_length p ≡ region_length n = ap (λ k. region_length (16 + k)) (areas d (drop (3 * length cs + length ls + length d.shared + length d.sealed) all) d.threads) in
    record {
      e1 = e.e1;
      e2 = e.e2;
      e3 = e.e3;
      e4 = e.e4;
      e5 = e.e5;
      compartments = subst (λ rs. Between d.ram.base (compartment_regions (compartments_at r) 0 (compartment_parts d 1 rs cs)) e.e1) (sym e.all)
          (subst (Between d.ram.base (compartment_regions (compartments_at r) 0 (compartment_parts d 1 (placed d.ram.base (compartment_sizes cs ++ (l ++ (s ++ (x ++ (t ++ z)))))) cs))) e.c_to
          (compartments_between d 1 d.ram.base (compartments_at r) 0 (l ++ (s ++ (x ++ (t ++ z)))) cs (all_so (GoodCompartment d) AreSized cs (λ y g. compartment_sized d y g) good_cs)));
      libraries = subst (λ rs. Between e.e1 (library_regions (libraries_at r) 0 (library_parts d (1 + sum_of built_compartment_entries cs) rs ls)) e.e2) (sym e.libraries)
          (subst (Between e.e1 (library_regions (libraries_at r) 0 (library_parts d (1 + sum_of built_compartment_entries cs) (placed e.e1 (l ++ (s ++ (x ++ (t ++ z))))) ls))) e.l_to
          (libraries_between d (1 + sum_of built_compartment_entries cs) e.e1 (libraries_at r) 0 (s ++ (x ++ (t ++ z))) ls (all_so (GoodLibrary d) (λ y. library_code_size y ≤ 2097152) ls (λ y g. library_sized d y g) good_ls)));
      shared = subst (λ rs. Between e.e2 (shared_regions (shared_at r) 0 (shared_parts rs d.shared)) e.e3) (sym e.shared)
          (subst (Between e.e2 (shared_regions (shared_at r) 0 (shared_parts (placed e.e2 (s ++ (x ++ (t ++ z)))) d.shared))) e.s_to
          (shared_between e.e2 (shared_at r) 0 (x ++ (t ++ z)) d.shared (all_so IsLawfulShared (λ (y : DescShared). y.size ≤ 2097152) d.shared (λ y h. let k = h.1 in omega (arith, k)) law.shared_object)));
      sealed = subst (λ rs. Between e.e3 (sealed_regions (sealed_at r) 0 (sealed_parts rs d.sealed)) e.e4) (sym e.sealed)
          (subst (Between e.e3 (sealed_regions (sealed_at r) 0 (sealed_parts (placed e.e3 (x ++ (t ++ z))) d.sealed))) e.x_to
          (sealed_between e.e3 (sealed_at r) 0 (t ++ z) d.sealed (all_so IsLawfulSealed (λ (y : DescSealed). length y.bytes ≤ 2097152) d.sealed (λ y h. let k = h.few.1 in omega (arith, k)) law.sealed_object)));
      stacks = subst (λ rs. Between e.e4 (stack_regions (threads_at r) 0 (thread_parts d rs d.threads)) e.e5) (sym e.threads)
          (subst (Between e.e4 (stack_regions (threads_at r) 0 (thread_parts d (placed e.e4 (t ++ z)) d.threads))) e.t_to
          (stacks_between d e.e4 (threads_at r) 0 z d.threads (all_so (IsLawfulThread d) (λ (y : DescThread). y.stack ≤ 2097152) d.threads (λ y h. let k = h.stack.1 in omega (arith, k)) law.thread)));
      trusted = subst (λ k. Stands e.e5 (regions.region_row TrustedPart 44 k (trusted_length p))) (sym e.trusted)
          (stands e.e5 n TrustedPart 44 (trusted_length p) (omega (arith, small)) length_is);
      heap = (let h = e.heap in let b = e.trusted in omega (arith, h, b, length_is));
    }

-- ---- all regions

raised : (a b : ℕ) (rs : List RegionRow) → a ≤ b → AllByRecursion (λ (r : RegionRow). r.base + r.length ≤ a) rs → AllByRecursion (λ (r : RegionRow). r.base + r.length ≤ b) rs
raised a b rs le h = all_so (λ (r : RegionRow). r.base + r.length ≤ a) (λ (r : RegionRow). r.base + r.length ≤ b) rs (λ r k. omega (arith, k, le)) h

lowered : (a b : ℕ) (rs : List RegionRow) → b ≤ a → AllByRecursion (λ (r : RegionRow). a ≤ r.base) rs → AllByRecursion (λ (r : RegionRow). b ≤ r.base) rs
lowered a b rs le h = all_so (λ (r : RegionRow). a ≤ r.base) (λ (r : RegionRow). b ≤ r.base) rs (λ r k. omega (arith, k, le)) h

pub record Orders (p : PartsRow) (s : Stretches p) : Type 0 where
  pub o0 : p.ram ≤ s.e1
  pub o1 : s.e1 ≤ s.e2
  pub o2 : s.e2 ≤ s.e3
  pub o3 : s.e3 ≤ s.e4
  pub o4 : s.e4 ≤ s.e5
  pub o5 : s.e5 ≤ p.trusted
  pub o6 : p.trusted ≤ p.heap

pub orders : (p : PartsRow) (s : Stretches p) → Orders p s
orders p s = record {
  o0 = grows p.ram s.e1 (compartment_regions (compartments_at (raw_of p)) 0 p.compartments) s.compartments;
  o1 = grows s.e1 s.e2 (library_regions (libraries_at (raw_of p)) 0 p.libraries) s.libraries;
  o2 = grows s.e2 s.e3 (shared_regions (shared_at (raw_of p)) 0 p.shared) s.shared;
  o3 = grows s.e3 s.e4 (sealed_regions (sealed_at (raw_of p)) 0 p.sealed) s.sealed;
  o4 = grows s.e4 s.e5 (stack_regions (threads_at (raw_of p)) 0 p.threads) s.stacks;
  o5 = s.trusted.low;
  o6 = (let h = s.heap in omega (arith, h));
}

-- RAM begins before the stacks end
begins_below : (p : PartsRow) (s : Stretches p) → p.ram ≤ s.e5
begins_below p s =
    let o = orders p s in
    up p.ram s.e1 s.e5 o.o0 (up s.e1 s.e2 s.e5 o.o1 (up s.e2 s.e3 s.e5 o.o2 (up s.e3 s.e4 s.e5 o.o3 o.o4)))
  where
    up : (a b c : ℕ) → a ≤ b → b ≤ c → a ≤ c
    up a b c low high = omega (arith, low, high)

later_pass : (p : PartsRow) (s : Stretches p) → p.heap ≤ p.ram + p.size → first (walked (region_asked p) (λ r. 0) 0 [] (later_regions p)) ≡ None
later_pass p s top =
    let o = orders p s in
    let o0 = o.o0 in
    let o1 = o.o1 in
    let o2 = o.o2 in
    let o3 = o.o3 in
    let o4 = o.o4 in
    let o5 = o.o5 in
    let o6 = o.o6 in
    let a = shared_regions (shared_at (raw_of p)) 0 p.shared in
    let b = sealed_regions (sealed_at (raw_of p)) 0 p.sealed in
    let c = compartment_regions (compartments_at (raw_of p)) 0 p.compartments in
    let l = library_regions (libraries_at (raw_of p)) 0 p.libraries in
    let t = stack_regions (threads_at (raw_of p)) 0 p.threads in
    let a_to = all_to s.e2 s.e3 a s.shared in
    let b_to = all_to s.e3 s.e4 b s.sealed in
    let c_to = all_to p.ram s.e1 c s.compartments in
    let l_to = all_to s.e1 s.e2 l s.libraries in
    let a_from = all_from s.e2 s.e3 a s.shared in
    let b_from = all_from s.e3 s.e4 b s.sealed in
    walk_joined (region_asked p) (λ r. 0) 0 [] (a ++ b ++ c ++ l) t
    (walk_joined (region_asked p) (λ r. 0) 0 [] (a ++ b ++ c) l
    (walk_joined (region_asked p) (λ r. 0) 0 [] (a ++ b) c
    (walk_joined (region_asked p) (λ r. 0) 0 [] a b
    (stretch_passes p s.e2 s.e3 0 [] a (record { ram = omega (arith, o0, o1); trusted = omega (arith, o3, o4, o5); heap = omega (arith, o3, o4, o5, o6); inside = top }) s.shared (clear_after s.e2 s.e3 [] tt))
    (λ at. stretch_passes p s.e3 s.e4 at a b (record { ram = omega (arith, o0, o1, o2); trusted = omega (arith, o4, o5); heap = omega (arith, o4, o5, o6); inside = top }) s.sealed (clear_after s.e3 s.e4 a a_to)))
    (λ at. stretch_passes p p.ram s.e1 at (a ++ b) c (record { ram = omega arith; trusted = omega (arith, o1, o2, o3, o4, o5); heap = omega (arith, o1, o2, o3, o4, o5, o6); inside = top }) s.compartments
    (clear_before p.ram s.e1 (a ++ b) (all_joined (λ (r : RegionRow). s.e1 ≤ r.base) a b (lowered s.e2 s.e1 a o1 a_from) (lowered s.e3 s.e1 b (omega (arith, o1, o2)) b_from)))))
    (λ at. stretch_passes p s.e1 s.e2 at (a ++ b ++ c) l (record { ram = o0; trusted = omega (arith, o2, o3, o4, o5); heap = omega (arith, o2, o3, o4, o5, o6); inside = top }) s.libraries
    (clear_joined s.e1 s.e2 (a ++ b) c
    (clear_before s.e1 s.e2 (a ++ b) (all_joined (λ (r : RegionRow). s.e2 ≤ r.base) a b a_from (lowered s.e3 s.e2 b o2 b_from)))
    (clear_after s.e1 s.e2 c c_to))))
    (λ at. stretch_passes p s.e4 s.e5 at (a ++ b ++ c ++ l) t (record { ram = omega (arith, o0, o1, o2, o3); trusted = o5; heap = omega (arith, o5, o6); inside = top }) s.stacks
    (clear_after s.e4 s.e5 (a ++ b ++ c ++ l)
    (all_joined (λ (r : RegionRow). r.base + r.length ≤ s.e4) (a ++ b ++ c) l
    (all_joined (λ (r : RegionRow). r.base + r.length ≤ s.e4) (a ++ b) c
    (all_joined (λ (r : RegionRow). r.base + r.length ≤ s.e4) a b (raised s.e3 s.e4 a o3 a_to) b_to)
    (raised s.e1 s.e4 c (omega (arith, o1, o2, o3)) c_to))
    (raised s.e2 s.e4 l (omega (arith, o2, o3)) l_to))))

-- ---- devices

away_meets : (a m b n : ℕ) → IsAway a m b (b + n) → overlaps a m b n ≡ false
away_meets a m b n (inl le) = rw (le-ltb b (a + m) le) (fourth_false (nat_lt 0 m) (nat_lt 0 n) (nat_lt a (b + n)))
away_meets a m b n (inr le) = rw (le-ltb a (b + n) le) (third_false (nat_lt 0 m) (nat_lt 0 n) (nat_lt b (a + m)))

-- two bases of whole units that differ
units_apart : (a b : ℕ) → a % 16 ≡ 0 → b % 16 ≡ 0 → (b ≡ a → ⊥) → overlaps a 16 b 16 ≡ false
units_apart a b ea eb unlike = elim (lt_tells a b) [
  | inl h ↦ (let lt = h.1 in away_meets a 16 b 16 (inl (omega (arith, lt, ea, eb))))
  | inr h ↦ elim (lt_tells b a) [
    | inl k ↦ (let lt = k.1 in away_meets a 16 b 16 (inr (omega (arith, lt, ea, eb))))
    | inr k ↦ absurd (let le = h.1 in let ge = k.1 in unlike (omega (arith, le, ge)))
  ]
]

none_taken : {A : Type 0} (f : A → Bool) (xs : List A) (i : ℕ) → ((k : ℕ) (y : A) → k < i → slice_get xs k ≡ Some y → f y ≡ false) → list_any f (take i xs) ≡ false
none_taken f [] zero h = refl
none_taken f [] (suc i) h = refl
none_taken f (x ∷ xs) zero h = refl
none_taken f (x ∷ xs) (suc i) h = ap₂ (λ a b. a || b) (h zero x (omega arith) refl) (none_taken f xs i (λ k y lt is. h (suc k) y (omega (arith, lt)) is))

device_passes : (q : PartsRow) (r : Ram) (ds : List DeviceRow) → q.ram ≡ r.base → q.size ≡ r.size → AllByRecursion (IsLawfulDevice r) ds → AreApart ds
    → (i : ℕ) (x : DeviceRow) → slice_get ds i ≡ Some x → is_device_laid q (take i ds) x ≡ true
device_passes q r ds base size each apart i x is =
    let h = all_at (IsLawfulDevice r) ds i x each is in
    let away : IsAway x.base 16 q.ram (q.ram + q.size) = subst (λ m. IsAway x.base 16 m (m + q.size)) (sym base) (subst (λ n. IsAway x.base 16 r.base (r.base + n)) (sym size) h.ram) in
    rw (
      eq-eqb (x.base % 16) 0 h.even,
      away_meets x.base 16 q.ram q.size away,
      away_meets x.base 16 65536 4096 h.native,
      none_taken (overlaps_device x.base) ds i (λ k y lt at.
          units_apart x.base y.base h.even (all_at (IsLawfulDevice r) ds k y each at).even
          (λ same. let one = apart k i y x at is same in omega (arith, one, lt))),
    ) refl

devices_pass : (q : PartsRow) (r : Ram) (ds : List DeviceRow) (at : ℕ) → q.ram ≡ r.base → q.size ≡ r.size → AllByRecursion (IsLawfulDevice r) ds → AreApart ds
    → first (walked (device_asked q) (λ d. DEVICE) at [] ds) ≡ None
devices_pass q r ds at base size each apart =
    walk_each (device_asked q) (λ d. DEVICE) at [] ds
    (λ i x is place. one_none (place + 36) (not (is_device_laid q (take i ds) x)) (ap not (device_passes q r ds base size each apart i x is)))

-- ---- all checks

all_pass : (p : PartsRow) (r : Ram) (s : Stretches p) → p.ram ≡ r.base → p.size ≡ r.size → p.heap ≤ p.ram + p.size → IsAway p.ram p.size 65536 69632
    → AllByRecursion (IsLawfulDevice r) p.devices → AreApart p.devices → first (region_checks p) ≡ None
unfolding region_checks
all_pass p r s base size top native each apart =
    let below = begins_below p s in
    let heap = s.heap in
    let even = s.trusted.even in
    let whole = s.trusted.whole in
    let laid : is_laid p [] (trusted_region p) ≡ true = laid_so p [] s.e5 (trusted_region p) s.trusted below (omega (arith, heap, top)) refl in
    let heap_laid : is_heap_laid p ≡ true = rw (eq-eqb (p.heap % 16) 0 (omega (arith, heap, even, whole)), le-leb p.heap (p.ram + p.size) top, le-leb (p.trusted + trusted_length p) p.heap (omega (arith, heap))) refl in
    let v = walked (device_asked p) (λ d. DEVICE) (header_size p.version) [] p.devices in
    let w = walked (region_asked p) (λ r. 0) 0 [] (later_regions p) in
    next_none (check 36 (overlaps_native p.ram p.size)) (check 44 (not (is_laid p [] (trusted_region p))) ∷ check 48 (not (is_heap_laid p)) ∷ v ++ w) (away_meets p.ram p.size 65536 4096 native)
    (next_none (check 44 (not (is_laid p [] (trusted_region p)))) (check 48 (not (is_heap_laid p)) ∷ v ++ w) (ap not laid)
    (next_none (check 48 (not (is_heap_laid p))) (v ++ w) (ap not heap_laid)
    (joined_none v w (devices_pass p r p.devices (header_size p.version) base size each apart) (later_pass p s top))))

-- the heap begins within RAM: the regions have room there
pub heap_inside : (d : DescRow) (p : PartsRow) (s : Parts d p) → Stretches (parts_of d s.cs s.ls (placed d.ram.base (sizes_of d s.cs s.ls)) (last_end d.ram.base (sizes_of d s.cs s.ls)))
    → last_end d.ram.base (sizes_of d s.cs s.ls) ≤ d.ram.base + d.ram.size
unfolding parts_of
heap_inside d p s x =
    let q = parts_of d s.cs s.ls (placed d.ram.base (sizes_of d s.cs s.ls)) (last_end d.ram.base (sizes_of d s.cs s.ls)) in
    let below = begins_below q x in
    let trusted = x.trusted.low in
    let heap = x.heap in
    let room = s.room in
    omega (arith, room, below, trusted, heap)

-- RAM, devices, the heap and every region lie where those of an image may
pub regions_pass : (d : DescRow) (sources : List (List ℕ)) (p : PartsRow) → RowsLinkTo d sources p → first (region_checks p) ≡ None
unfolding parts_of
regions_pass d sources p h =
    let s = parts d sources p h.linked in
    let law = h.lawful in
    let all = parts_of d s.cs s.ls (placed d.ram.base (sizes_of d s.cs s.ls)) (last_end d.ram.base (sizes_of d s.cs s.ls)) in
    let x = stretches d s.cs s.ls law (compartments_good d p law.compartment s) (libraries_good d p law.library s) (ends d s.cs s.ls) in
    subst (λ q. first (region_checks q) ≡ None) (sym s.parts)
    (all_pass all d.ram x refl refl (heap_inside d p s x) law.ram.native law.device law.apart)
