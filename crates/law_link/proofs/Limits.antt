-- Every limit of an image's fields holds of what is linked.
use Rattle.std.proofs.Common.{ℕ, suc, ◌≡◌, ◌+◌, ◌*◌, ◌%◌, ◌≤◌, ◌==◌, not, true, false, nat_lt, List, [], ◌∷◌, ◌++◌, length, map, drop, None, refl, sym, ap, ap₂, ◌∙◌, subst, append-nil, arith}
use Rattle.std.specs.List.{AllByRecursion}
use Rattle.std.proofs.lemmas.List.{length-map}
use Rattle.std.proofs.lemmas.Bool.{le-ltb, eq-eqb}
use Rattle.law_lists.proofs.Alls.{all_left, all_right, all_unmapped}
use Rattle.def_profile.specs.declared.limits.TheConstants.{RAM_END}
use Rattle.ct_entry.specs.Listed.{DeviceRow}
use Rattle.def_profile.specs.Versions as version
use Rattle.def_texts.specs.Names.{is_name, among}
use Rattle.def_layout.specs.declared.Region.{Region}
use Rattle.def_layout.specs.Placement.{placed, last_end}
use Rattle.def_image.specs.declared.format.TheConstants.{DEVICE, SHARED, THREAD}
use Rattle.def_image.specs.Raw.{RawImage}
use Rattle.def_image.specs.Parts.{CodeRow as CodePart, CompartmentRow as CompartmentPart, PartsRow}
use Rattle.def_image.specs.Spelling.{name_field, raw_device, raw_shared, raw_sealed, raw_code, raw_compartment, raw_thread, raw_of}
use Rattle.def_image.specs.Sizes.{sum_of, rate_size, sealed_size, compartment_size, library_size, devices_at, shared_at, sealed_at, compartments_at, libraries_at, threads_at}
use Rattle.def_image.specs.Profile.{outside}
use Rattle.def_image.specs.Checks.{first, walked, check}
use Rattle.def_image.specs.Limits as lim
use Rattle.def_image.specs.Limits.{name_checks, is_missized, header_limits, device_limits, shared_limits, sealed_limits, compartment_name, compartment_limits, library_name, first_library_entry, library_limits, thread_limits, limit_checks}
use Rattle.def_desc.specs.Rows.{DescCompartment, LibraryRow, DescShared, DescSealed, DescThread, DescRow}
use Rattle.def_desc.specs.Named.{device_names, shared_names, sealed_names}
use Rattle.def_desc.specs.Named as rows
use Rattle.def_desc.specs.Lawful.{IsLawful}
use Rattle.def_link.specs.Linked.{BuiltCompartment, BuiltLibrary, library_code_size, sizes_of, compartment_parts, built_compartment_entries, library_parts, built_library_entries, shared_parts, sealed_parts, thread_parts, parts_of}
use Rattle.def_link.specs.Links.{RowsLinkTo}
use Rattle.law_link.proofs.Walks.{next_none}
use Rattle.law_link.proofs.Linkeds.{parts, GoodCompartment, GoodLibrary, compartments_good, libraries_good}
use Rattle.law_link.proofs.Indexed.{shared_length, sealed_length}
use Rattle.law_link.proofs.Lying.{Ends, ends, shared_sizes, sealed_sizes, stack_sizes, trusted_size}
use Rattle.law_link.proofs.Fields.{inside, name_is, name_back, name_passes, New, all_new, new_left, new_right}
use Rattle.law_link.proofs.Along.{Along, walk_along, along_both, along_new, along_after}
use Rattle.law_link.proofs.Owners.{compartment_passes, library_passes}
use Rattle.law_link.proofs.Makings.{Numbered, compartments_along, NumberedAfter, libraries_along, entries_most, entries_same}
use Rattle.law_link.proofs.Lists.{device_title, devices_pass, shared_title, SharedGood, shared_good, shared_titles, shared_pass, sealed_title, SealedGood, sealed_good, sealed_titles, sealed_pass, thread_title, ThreadGood, threads_good, thread_titles, threads_pass}
use Rattle.law_image.proofs.Passing.{joined_none}

-- ---- names of owners

unfoldable pub owner_title : CompartmentPart → List ℕ
owner_title c = c.code.name

unfoldable pub library_title : CodePart → List ℕ
library_title c = c.name

owner_titles : (d : DescRow) (entry : ℕ) (regions : List Region) (cs : List BuiltCompartment) → map owner_title (compartment_parts d entry regions cs) ≡ map (λ (c : DescCompartment). c.name) (map (λ (x : BuiltCompartment). x.row) cs)
unfolding compartment_parts owner_title
owner_titles d entry regions [] = refl
owner_titles d entry regions (x ∷ xs) = ap (λ l. x.row.name ∷ l) (owner_titles d (entry + built_compartment_entries x) (drop 3 regions) xs)

library_titles : (d : DescRow) (entry : ℕ) (regions : List Region) (ls : List BuiltLibrary) → map library_title (library_parts d entry regions ls) ≡ map (λ (l : LibraryRow). l.name) (map (λ (x : BuiltLibrary). x.row) ls)
unfolding library_parts library_title
library_titles d entry regions [] = refl
library_titles d entry regions (x ∷ xs) = ap (λ l. x.row.name ∷ l) (library_titles d (entry + built_library_entries x) (drop 1 regions) xs)

AreNamed : List (List ℕ) → Type 0
AreNamed names = AllByRecursion (λ n. is_name n ≡ true) names

owners_back : (cs : List CompartmentPart) → AllByRecursion (λ n. is_name n ≡ true) (map owner_title cs) → AllByRecursion (λ c. compartment_name (raw_compartment c) ≡ owner_title c) cs
unfolding owner_title
owners_back [] h = tt
owners_back (c ∷ cs) h = (name_back c.code.name (name_is c.code.name h.0), owners_back cs h.1)

libraries_back : (ls : List CodePart) → AllByRecursion (λ n. is_name n ≡ true) (map library_title ls) → AllByRecursion (λ c. library_name (raw_code c) ≡ library_title c) ls
unfolding library_title
libraries_back [] h = tt
libraries_back (c ∷ cs) h = (name_back c.name (name_is c.name h.0), libraries_back cs h.1)

-- names that fields give back
names_back : {A B : Type 0} (raw : A → B) (name : B → List ℕ) (title : A → List ℕ) (xs : List A) → AllByRecursion (λ x. name (raw x) ≡ title x) xs → map name (map raw xs) ≡ map title xs
names_back raw name title [] h = refl
names_back raw name title (x ∷ xs) h = ap₂ (λ a b. a ∷ b) h.0 (names_back raw name title xs h.1)

-- ---- compartments and libraries

compartments_pass : (at : ℕ) (cs : List CompartmentPart) → Along raw_compartment Numbered [] cs → AllByRecursion (λ n. is_name n ≡ true) (map owner_title cs) → New [] (map owner_title cs)
    → first (walked compartment_limits compartment_size at [] (map raw_compartment cs)) ≡ None
unfolding owner_title Numbered
compartments_pass at cs numbered formed new =
    walk_along raw_compartment (λ before c. Numbered before c × (among c.code.name (map compartment_name before) ≡ false)) compartment_limits compartment_size
    (λ place before c k. compartment_passes (1 + sum_of lim.raw_compartment_entries before) place (map compartment_name before) c k.0 k.1) at [] cs
    (along_both raw_compartment Numbered (λ before (c : CompartmentPart). among c.code.name (map compartment_name before) ≡ false) [] cs numbered
    (along_new raw_compartment compartment_name owner_title [] [] cs refl (owners_back cs formed) new))

libraries_pass : (r : RawImage) (at : ℕ) (ls : List CodePart) → Along raw_code (NumberedAfter (first_library_entry r)) [] ls → AllByRecursion (λ n. is_name n ≡ true) (map library_title ls)
    → New (map compartment_name r.compartments) (map library_title ls) → first (walked (library_limits r) library_size at [] (map raw_code ls)) ≡ None
unfolding library_title NumberedAfter
libraries_pass r at ls numbered formed new =
    walk_along raw_code (λ before c. NumberedAfter (first_library_entry r) before c × (among c.name (map compartment_name r.compartments ++ map library_name before) ≡ false)) (library_limits r) library_size
    (λ place before c k. library_passes (first_library_entry r + sum_of lim.raw_library_entries before) place (map compartment_name r.compartments ++ map library_name before) c k.0 k.1) at [] ls
    (along_both raw_code (NumberedAfter (first_library_entry r)) (λ before (c : CodePart). among c.name (map compartment_name r.compartments ++ map library_name before) ≡ false) [] ls numbered
    (along_after raw_code library_name library_title (map compartment_name r.compartments) [] [] ls refl (libraries_back ls formed)
    (subst (λ l. New l (map library_title ls)) (sym (append-nil (map compartment_name r.compartments))) new)))

-- ---- the header

pub record HeaderGood (p : PartsRow) : Type 0 where
  pub devices : length p.devices ≤ 16
  pub shared : length p.shared ≤ 64
  pub sealed : length p.sealed ≤ 64
  pub compartments : length p.compartments ≤ 64
  pub libraries : length p.libraries ≤ 32
  pub threads : length p.threads ≤ version.most_threads p.version
  pub quantum : outside 1 1000000 p.quantum ≡ false
  pub ram : p.ram % 16 ≡ 0
  pub size : p.size % 16 ≡ 0
  pub sized : outside 256 (version.most_ram p.version) p.size ≡ false
  pub end : p.ram + p.size ≤ RAM_END
  pub sweep : outside (version.least_sweep p.version) (version.most_sweep p.version) p.sweep ≡ false
  pub named : is_name p.name ≡ true

few : {A B : Type 0} (f : A → B) (xs : List A) (n : ℕ) → length xs ≤ n → nat_lt n (length (map f xs)) ≡ false
few f xs n le = subst (λ k. nat_lt n k ≡ false) (sym (length-map xs f)) (le-ltb n (length xs) le)

header_pass : (p : PartsRow) → HeaderGood p → first (header_limits (raw_of p)) ≡ None
unfolding header_limits raw_of
header_pass p h =
    let r = raw_of p in
    let c1 = check 8 (nat_lt 16 (length r.devices)) in
    let c2 = check 12 (nat_lt 64 (length r.shared)) in
    let c3 = check 16 (nat_lt 64 (length r.sealed)) in
    let c4 = check 20 (nat_lt 64 (length r.compartments)) in
    let c5 = check 24 (nat_lt 32 (length r.libraries)) in
    let c6 = check 28 (nat_lt (version.most_threads p.version) (length r.threads)) in
    let c7 = check 32 (outside 1 1000000 p.quantum) in
    let c8 = check 36 (not (p.ram % 16 == 0)) in
    let c9 = check 40 (is_missized r) in
    let c10 = check 52 (outside (version.least_sweep p.version) (version.most_sweep p.version) p.sweep) in
    let n = name_checks (52 + rate_size p.version) false [] (name_field p.name) in
    let missized : is_missized r ≡ false = rw (h.sized, eq-eqb (p.size % 16) 0 h.size, le-ltb RAM_END (p.ram + p.size) h.end) refl in
    next_none c1 (c2 ∷ c3 ∷ c4 ∷ c5 ∷ c6 ∷ c7 ∷ c8 ∷ c9 ∷ c10 ∷ n) (few raw_device p.devices 16 h.devices)
    (next_none c2 (c3 ∷ c4 ∷ c5 ∷ c6 ∷ c7 ∷ c8 ∷ c9 ∷ c10 ∷ n) (few raw_shared p.shared 64 h.shared)
    (next_none c3 (c4 ∷ c5 ∷ c6 ∷ c7 ∷ c8 ∷ c9 ∷ c10 ∷ n) (few raw_sealed p.sealed 64 h.sealed)
    (next_none c4 (c5 ∷ c6 ∷ c7 ∷ c8 ∷ c9 ∷ c10 ∷ n) (few raw_compartment p.compartments 64 h.compartments)
    (next_none c5 (c6 ∷ c7 ∷ c8 ∷ c9 ∷ c10 ∷ n) (few raw_code p.libraries 32 h.libraries)
    (next_none c6 (c7 ∷ c8 ∷ c9 ∷ c10 ∷ n) (few raw_thread p.threads (version.most_threads p.version) h.threads)
    (next_none c7 (c8 ∷ c9 ∷ c10 ∷ n) h.quantum
    (next_none c8 (c9 ∷ c10 ∷ n) (ap not (eq-eqb (p.ram % 16) 0 h.ram))
    (next_none c9 (c10 ∷ n) missized
    (next_none c10 n h.sweep (name_passes (52 + rate_size p.version) false [] p.name h.named refl refl))))))))))

-- ---- the parts

pub compartments_length : (d : DescRow) (entry : ℕ) (regions : List Region) (cs : List BuiltCompartment) → length (compartment_parts d entry regions cs) ≡ length cs
unfolding compartment_parts
compartments_length d entry regions [] = refl
compartments_length d entry regions (x ∷ xs) = ap suc (compartments_length d (entry + built_compartment_entries x) (drop 3 regions) xs)

pub libraries_length : (d : DescRow) (entry : ℕ) (regions : List Region) (ls : List BuiltLibrary) → length (library_parts d entry regions ls) ≡ length ls
unfolding library_parts
libraries_length d entry regions [] = refl
libraries_length d entry regions (x ∷ xs) = ap suc (libraries_length d (entry + built_library_entries x) (drop 1 regions) xs)

pub threads_length : (d : DescRow) (regions : List Region) (ts : List DescThread) → length (thread_parts d regions ts) ≡ length ts
unfolding thread_parts
threads_length d regions [] = refl
threads_length d regions (t ∷ ts) = ap suc (threads_length d (drop 1 regions) ts)

-- what holds of the parts, list by list
pub record PartsGood (p : PartsRow) : Type 0 where
  pub header : HeaderGood p
  pub device_names : AllByRecursion (λ (d : DeviceRow). is_name d.name ≡ true) p.devices
  pub devices_new : New [] (map device_title p.devices)
  pub shared : AllByRecursion SharedGood p.shared
  pub shared_new : New [] (map shared_title p.shared)
  pub sealed : AllByRecursion SealedGood p.sealed
  pub sealed_new : New [] (map sealed_title p.sealed)
  pub compartments : Along raw_compartment Numbered [] p.compartments
  pub compartment_names : AllByRecursion (λ n. is_name n ≡ true) (map owner_title p.compartments)
  pub compartments_new : New [] (map owner_title p.compartments)
  pub libraries : Along raw_code (NumberedAfter (1 + sum_of lim.raw_compartment_entries (map raw_compartment p.compartments))) [] p.libraries
  pub library_names : AllByRecursion (λ n. is_name n ≡ true) (map library_title p.libraries)
  pub libraries_new : New (map owner_title p.compartments) (map library_title p.libraries)
  pub threads : AllByRecursion ThreadGood p.threads
  pub threads_new : New (map owner_title p.compartments ++ map library_title p.libraries) (map thread_title p.threads)

all_pass : (p : PartsRow) → PartsGood p → first (limit_checks (raw_of p)) ≡ None
unfolding limit_checks raw_of
all_pass p h =
    let r = raw_of p in
    let a = header_limits r in
    let v = walked device_limits (λ d. DEVICE) (devices_at r) [] r.devices in
    let s = walked shared_limits (λ s. SHARED) (shared_at r) [] r.shared in
    let x = walked sealed_limits sealed_size (sealed_at r) [] r.sealed in
    let c = walked compartment_limits compartment_size (compartments_at r) [] r.compartments in
    let l = walked (library_limits r) library_size (libraries_at r) [] r.libraries in
    let t = walked (thread_limits r) (λ t. THREAD) (threads_at r) [] r.threads in
    let owners : map compartment_name (map raw_compartment p.compartments) ≡ map owner_title p.compartments = names_back raw_compartment compartment_name owner_title p.compartments (owners_back p.compartments h.compartment_names) in
    let libs : map library_name (map raw_code p.libraries) ≡ map library_title p.libraries = names_back raw_code library_name library_title p.libraries (libraries_back p.libraries h.library_names) in
    joined_none (a ++ v ++ s ++ x ++ c ++ l) t
    (joined_none (a ++ v ++ s ++ x ++ c) l
    (joined_none (a ++ v ++ s ++ x) c
    (joined_none (a ++ v ++ s) x
    (joined_none (a ++ v) s
    (joined_none a v (header_pass p h.header) (devices_pass (devices_at r) p.devices h.device_names h.devices_new))
    (shared_pass (shared_at r) p.shared h.shared h.shared_new))
    (sealed_pass (sealed_at r) p.sealed h.sealed h.sealed_new))
    (compartments_pass (compartments_at r) p.compartments h.compartments h.compartment_names h.compartments_new))
    (libraries_pass r (libraries_at r) p.libraries h.libraries h.library_names (subst (λ z. New z (map library_title p.libraries)) (sym owners) h.libraries_new)))
    (threads_pass r (threads_at r) p.threads h.threads (subst (λ z. New z (map thread_title p.threads)) (sym (ap₂ (λ y z. y ++ z) owners libs)) h.threads_new))

-- ---- from the rows

-- names of owners, by their lists
record Named (d : DescRow) : Type 0 where
  pub c_formed : AllByRecursion (λ n. is_name n ≡ true) (map (λ (c : DescCompartment). c.name) d.compartments)
  pub l_formed : AllByRecursion (λ n. is_name n ≡ true) (map (λ (l : LibraryRow). l.name) d.libraries)
  pub t_formed : AllByRecursion (λ n. is_name n ≡ true) (map (λ (t : DescThread). t.name) d.threads)
  pub c_new : New [] (map (λ (c : DescCompartment). c.name) d.compartments)
  pub l_new : New (map (λ (c : DescCompartment). c.name) d.compartments) (map (λ (l : LibraryRow). l.name) d.libraries)
  pub t_new : New (map (λ (c : DescCompartment). c.name) d.compartments ++ map (λ (l : LibraryRow). l.name) d.libraries) (map (λ (t : DescThread). t.name) d.threads)

named_rows : (d : DescRow) → IsLawful d → Named d
named_rows d law =
    let c = map (λ (c : DescCompartment). c.name) d.compartments in
    let l = map (λ (l : LibraryRow). l.name) d.libraries in
    let t = map (λ (t : DescThread). t.name) d.threads in
    let good = λ (n : List ℕ). is_name n ≡ true in
    let formed = law.owners.formed in
    let new = all_new (rows.owner_names d) law.owners.once in
    let first = new_left [] (c ++ l) t new in
    record {
      c_formed = all_left good c l (all_left good (c ++ l) t formed);
      l_formed = all_right good c l (all_left good (c ++ l) t formed);
      t_formed = all_right good (c ++ l) t formed;
      c_new = new_left [] c l first;
      l_new = new_right [] c l first;
      t_new = new_right [] (c ++ l) t new;
    }

pub parts_good : (d : DescRow) (cs : List BuiltCompartment) (ls : List BuiltLibrary) → IsLawful d
    → map (λ (x : BuiltCompartment). x.row) cs ≡ d.compartments → map (λ (x : BuiltLibrary). x.row) ls ≡ d.libraries
    → AllByRecursion (GoodCompartment d) cs → AllByRecursion (GoodLibrary d) ls → (e : Ends d cs ls)
    → PartsGood (parts_of d cs ls (placed d.ram.base (sizes_of d cs ls)) (last_end d.ram.base (sizes_of d cs ls)))
unfolding parts_of shared_sizes sealed_sizes stack_sizes trusted_size device_title
parts_good d cs ls law rows library_rows good_cs good_ls e =
    let all = placed d.ram.base (sizes_of d cs ls) in
    let n = named_rows d law in
    let z = trusted_size d ∷ [] in
    let l = map library_code_size ls in
    let s = map (λ (s : DescShared). s.size) d.shared in
    let x = map (λ (s : DescSealed). length s.bytes) d.sealed in
    let t = map (λ (t : DescThread). t.stack) d.threads in
    let c_count : length cs ≡ length d.compartments = sym (length-map cs (λ (x : BuiltCompartment). x.row)) ∙ ap length rows in
    let l_count : length ls ≡ length d.libraries = sym (length-map ls (λ (x : BuiltLibrary). x.row)) ∙ ap length library_rows in
    let c_few = law.few.compartments in
    let l_few = law.few.libraries in
    let most = entries_most d cs good_cs in
    let c_names = owner_titles d 1 all cs ∙ ap (map (λ (c : DescCompartment). c.name)) rows in
    let l_names = library_titles d (1 + sum_of built_compartment_entries cs) (drop (3 * length cs) all) ls ∙ ap (map (λ (l : LibraryRow). l.name)) library_rows in
    let t_names = thread_titles d (drop (3 * length cs + length ls + length d.shared + length d.sealed) all) d.threads in
    let entry = entries_same d 1 all cs in
    let c_rows = all_unmapped (λ (c : DescCompartment). is_name c.name ≡ true) (λ (x : BuiltCompartment). x.row) cs
    (all_unmapped (λ n. is_name n ≡ true) (λ (c : DescCompartment). c.name) (map (λ (x : BuiltCompartment). x.row) cs) (subst (λ y. AllByRecursion (λ n. is_name n ≡ true) (map (λ (c : DescCompartment). c.name) y)) (sym rows) n.c_formed)) in
    let l_rows = all_unmapped (λ (l : LibraryRow). is_name l.name ≡ true) (λ (x : BuiltLibrary). x.row) ls
    (all_unmapped (λ n. is_name n ≡ true) (λ (l : LibraryRow). l.name) (map (λ (x : BuiltLibrary). x.row) ls) (subst (λ y. AllByRecursion (λ n. is_name n ≡ true) (map (λ (l : LibraryRow). l.name) y)) (sym library_rows) n.l_formed)) in
    record {
      header = record {
        devices = law.few.devices;
        shared = (let f = law.few.shared in let c = shared_length (drop (3 * length cs + length ls) all) d.shared in omega (arith, f, c));
        sealed = (let f = law.few.sealed in let c = sealed_length (drop (3 * length cs + length ls + length d.shared) all) d.sealed in omega (arith, f, c));
        compartments = (let c = compartments_length d 1 all cs in omega (arith, c_few, c_count, c));
        libraries = (let c = libraries_length d (1 + sum_of built_compartment_entries cs) (drop (3 * length cs) all) ls in omega (arith, l_few, l_count, c));
        threads = subst (λ k. k ≤ version.most_threads d.version) (sym (threads_length d (drop (3 * length cs + length ls + length d.shared + length d.sealed) all) d.threads)) law.few.threads;
        quantum = inside 1 1000000 d.quantum law.quantum;
        ram = law.ram.base;
        size = law.ram.size;
        sized = inside 256 (version.most_ram d.version) d.ram.size law.ram.sized;
        end = law.ram.end;
        sweep = inside (version.least_sweep d.version) (version.most_sweep d.version) d.sweep law.sweep;
        named = law.firmware;
      };
      device_names = all_unmapped (λ n. is_name n ≡ true) (λ (v : DeviceRow). v.name) d.devices law.devices.formed;
      devices_new = all_new (device_names d) law.devices.once;
      shared = subst (λ rs. AllByRecursion SharedGood (shared_parts rs d.shared)) (sym e.shared) (shared_good e.e2 (x ++ (t ++ z)) d.shared law.shared_object law.shared.formed);
      shared_new = subst (New []) (sym (shared_titles (drop (3 * length cs + length ls) all) d.shared)) (all_new (shared_names d) law.shared.once);
      sealed = subst (λ rs. AllByRecursion SealedGood (sealed_parts rs d.sealed)) (sym e.sealed) (sealed_good e.e3 (t ++ z) d.sealed law.sealed_object law.sealed.formed);
      sealed_new = subst (New []) (sym (sealed_titles (drop (3 * length cs + length ls + length d.shared) all) d.sealed)) (all_new (sealed_names d) law.sealed.once);
      compartments = subst (λ rs. Along raw_compartment Numbered [] (compartment_parts d 1 rs cs)) (sym e.all)
          (compartments_along d law 1 d.ram.base (l ++ (s ++ (x ++ (t ++ z)))) [] cs refl (omega (arith, c_few, c_count)) good_cs c_rows);
      compartment_names = subst (AllByRecursion (λ n. is_name n ≡ true)) (sym c_names) n.c_formed;
      compartments_new = subst (New []) (sym c_names) n.c_new;
      libraries = subst (λ rs. Along raw_code (NumberedAfter (1 + sum_of lim.raw_compartment_entries (map raw_compartment (compartment_parts d 1 all cs)))) [] (library_parts d (1 + sum_of built_compartment_entries cs) rs ls)) (sym e.libraries)
          (libraries_along d law (1 + sum_of lim.raw_compartment_entries (map raw_compartment (compartment_parts d 1 all cs))) (1 + sum_of built_compartment_entries cs) e.e1 (s ++ (x ++ (t ++ z))) [] ls
          (omega (arith, entry)) (omega (arith, most, c_few, c_count, l_few, l_count)) good_ls l_rows);
      library_names = subst (AllByRecursion (λ n. is_name n ≡ true)) (sym l_names) n.l_formed;
      libraries_new = rw (c_names, l_names) n.l_new;
      threads = subst (λ rs. AllByRecursion ThreadGood (thread_parts d rs d.threads)) (sym e.threads) (threads_good d e.e4 z d.threads law.thread n.t_formed);
      threads_new = rw (c_names, l_names, t_names) n.t_new;
    }

-- names, numbers, lengths, exports, slots and texts keep the limits of the version
pub limits_pass : (d : DescRow) (sources : List (List ℕ)) (p : PartsRow) → RowsLinkTo d sources p → first (limit_checks (raw_of p)) ≡ None
limits_pass d sources p h =
    let s = parts d sources p h.linked in
    subst (λ q. first (limit_checks (raw_of q)) ≡ None) (sym s.parts)
    (all_pass (parts_of d s.cs s.ls (placed d.ram.base (sizes_of d s.cs s.ls)) (last_end d.ram.base (sizes_of d s.cs s.ls)))
    (parts_good d s.cs s.ls h.lawful s.rows s.library_rows (compartments_good d p h.lawful.compartment s) (libraries_good d p h.lawful.library s) (ends d s.cs s.ls)))
