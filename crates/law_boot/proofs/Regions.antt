-- The regions of an image's lists: which lists they are, and that a region is among them.
use Rattle.std.proofs.Common.{ℕ, zero, suc, ◌≡◌, ◌+◌, List, [], ◌∷◌, ◌++◌, length, Some, slice_get, refl, sym, ◌∙◌, subst, arith}
use Rattle.std.proofs.lemmas.Option.{slice_get_within}
use Rattle.ct_entry.specs.declared.rows.Owner.TheVariants.{Compartment, Library}
use Rattle.def_image.specs.declared.format.TheConstants.{SHARED, THREAD}
use Rattle.def_image.specs.Parts.{SharedRow, SealedRow, CodeRow, CompartmentRow, ThreadRow, PartsRow}
use Rattle.def_image.specs.Sizes.{shared_at, sealed_at, sealed_size, compartments_at, compartment_size, libraries_at, library_size, threads_at}
use Rattle.def_image.specs.Spelling.{raw_of, raw_sealed, raw_compartment, raw_code}
use Rattle.def_image.specs.Regions.{Holder, CodeOf, TableOf, GlobalsOf, SharedOf, SealedOf, StackOf, RegionRow, region_row, shared_regions, sealed_regions, compartment_regions, library_regions, stack_regions, trusted_region, later_regions, regions_of, table_length}
use Rattle.law_boot.proofs.Blocks.{before, further}

-- ---- the lists

abbrev pub shared_part : PartsRow → List RegionRow
shared_part p = shared_regions (shared_at (raw_of p)) 0 p.shared

abbrev pub sealed_part : PartsRow → List RegionRow
sealed_part p = sealed_regions (sealed_at (raw_of p)) 0 p.sealed

abbrev pub own_part : PartsRow → List RegionRow
own_part p = compartment_regions (compartments_at (raw_of p)) 0 p.compartments

abbrev pub library_part : PartsRow → List RegionRow
library_part p = library_regions (libraries_at (raw_of p)) 0 p.libraries

abbrev pub stack_part : PartsRow → List RegionRow
stack_part p = stack_regions (threads_at (raw_of p)) 0 p.threads

-- the objects', and with the compartments', and with the libraries'
abbrev pub objects : PartsRow → List RegionRow
objects p = shared_part p ++ sealed_part p

abbrev pub with_own : PartsRow → List RegionRow
with_own p = objects p ++ own_part p

abbrev pub with_libraries : PartsRow → List RegionRow
with_libraries p = with_own p ++ library_part p

-- ---- a region among them

-- a region of this holder, base and length is among these
pub record Among (rs : List RegionRow) (h : Holder) (base size : ℕ) : Type 0 where
  pub index : ℕ
  pub place : ℕ
  pub is : slice_get rs index ≡ Some (region_row h place base size)

pub left : (xs ys : List RegionRow) (h : Holder) (base size : ℕ) → Among xs h base size → Among (xs ++ ys) h base size
left xs ys h base size a = record { index = a.index; place = a.place; is = before xs ys a.index (slice_get_within xs a.index (region_row h a.place base size) a.is) ∙ a.is }

pub right : (xs ys : List RegionRow) (h : Holder) (base size : ℕ) → Among ys h base size → Among (xs ++ ys) h base size
right xs ys h base size a = record { index = length xs + a.index; place = a.place; is = further xs ys a.index ∙ a.is }

pub next : (x : RegionRow) (xs : List RegionRow) (h : Holder) (base size : ℕ) → Among xs h base size → Among (x ∷ xs) h base size
next x xs h base size a = record { index = suc a.index; place = a.place; is = a.is }

-- ---- the region of each member of a list

-- lists that go through their members at places and with numbers, so many regions a member
member_in : {A : Type 0} (rows : ℕ → ℕ → List A → List RegionRow) (own : ℕ → ℕ → A → List RegionRow) (size : A → ℕ) (h : ℕ → Holder) (base wide : A → ℕ)
    → ((at n : ℕ) (x : A) (xs : List A) → rows at n (x ∷ xs) ≡ own at n x ++ rows (at + size x) (n + 1) xs) → ((at n : ℕ) (x : A) → Among (own at n x) (h n) (base x) (wide x))
    → (at n : ℕ) (xs : List A) (k : ℕ) (x : A) → slice_get xs k ≡ Some x → Among (rows at n xs) (h (n + k)) (base x) (wide x)
member_in rows own size h base wide split here at n [] k x is = cc
member_in rows own size h base wide split here at n (y ∷ ys) zero x is =
    let same : y ≡ x = cc in
    let index : n ≡ n + 0 = omega arith in
    let others = rows (at + size y) (n + 1) ys in
    subst (λ z. Among (rows at n (y ∷ ys)) (h (n + 0)) (base z) (wide z)) same
    (subst (λ m. Among (rows at n (y ∷ ys)) (h m) (base y) (wide y)) index
    (subst (λ rs. Among rs (h n) (base y) (wide y)) (sym (split at n y ys)) (left (own at n y) others (h n) (base y) (wide y) (here at n y))))
member_in rows own size h base wide split here at n (y ∷ ys) (suc k) x is =
    let index : n + 1 + k ≡ n + suc k = omega arith in
    let others = rows (at + size y) (n + 1) ys in
    let more = member_in rows own size h base wide split here (at + size y) (n + 1) ys k x is in
    subst (λ m. Among (rows at n (y ∷ ys)) (h m) (base x) (wide x)) index
    (subst (λ rs. Among rs (h (n + 1 + k)) (base x) (wide x)) (sym (split at n y ys)) (right (own at n y) others (h (n + 1 + k)) (base x) (wide x) more))

-- of a whole list, whose first member has number 0
abbrev Each : {A : Type 0} → List RegionRow → List A → (ℕ → Holder) → (A → ℕ) → (A → ℕ) → Type 0
Each {A = A} rs xs h base wide = (k : ℕ) (x : A) → slice_get xs k ≡ Some x → Among rs (h k) (base x) (wide x)

each_in : {A : Type 0} (rows : ℕ → ℕ → List A → List RegionRow) (own : ℕ → ℕ → A → List RegionRow) (size : A → ℕ) (h : ℕ → Holder) (base wide : A → ℕ)
    → ((at n : ℕ) (x : A) (xs : List A) → rows at n (x ∷ xs) ≡ own at n x ++ rows (at + size x) (n + 1) xs) → ((at n : ℕ) (x : A) → Among (own at n x) (h n) (base x) (wide x))
    → (at : ℕ) (xs : List A) → Each (rows at 0 xs) xs h base wide
each_in rows own size h base wide split here at xs k x is =
    let same : 0 + k ≡ k = omega arith in
    subst (λ m. Among (rows at 0 xs) (h m) (base x) (wide x)) same (member_in rows own size h base wide split here at 0 xs k x is)

shared_in : (at : ℕ) (ss : List SharedRow) → Each (shared_regions at 0 ss) ss SharedOf (λ s. s.base) (λ s. s.length)
shared_in = each_in shared_regions (λ at n s. region_row (SharedOf n) (at + 32) s.base s.length ∷ []) (λ s. SHARED) SharedOf (λ s. s.base) (λ s. s.length)
    (λ at n x xs. refl) (λ at n x. record { index = 0; place = at + 32; is = refl })

sealed_in : (at : ℕ) (ss : List SealedRow) → Each (sealed_regions at 0 ss) ss SealedOf (λ s. s.base) (λ s. s.length)
sealed_in = each_in sealed_regions (λ at n s. region_row (SealedOf n) (at + 32) s.base s.length ∷ []) (λ s. sealed_size (raw_sealed s)) SealedOf (λ s. s.base) (λ s. s.length)
    (λ at n x xs. refl) (λ at n x. record { index = 0; place = at + 32; is = refl })

-- the three of a compartment
abbrev own_regions : ℕ → ℕ → CompartmentRow → List RegionRow
own_regions at n c =
    region_row (CodeOf (Compartment n)) (at + 32) c.code.base c.code.length ∷ region_row (TableOf n) (at + 44) c.table (table_length c)
    ∷ region_row (GlobalsOf n) (at + 48) c.globals c.globals_length ∷ []

own_in : (h : ℕ → Holder) (base wide : CompartmentRow → ℕ) → ((at n : ℕ) (c : CompartmentRow) → Among (own_regions at n c) (h n) (base c) (wide c))
    → (at : ℕ) (cs : List CompartmentRow) → Each (compartment_regions at 0 cs) cs h base wide
own_in h base wide here = each_in compartment_regions own_regions (λ c. compartment_size (raw_compartment c)) h base wide (λ at n x xs. refl) here

library_in : (at : ℕ) (cs : List CodeRow) → Each (library_regions at 0 cs) cs (λ n. CodeOf (Library n)) (λ c. c.base) (λ c. c.length)
library_in = each_in library_regions (λ at n c. region_row (CodeOf (Library n)) (at + 32) c.base c.length ∷ []) (λ c. library_size (raw_code c)) (λ n. CodeOf (Library n)) (λ c. c.base) (λ c. c.length)
    (λ at n x xs. refl) (λ at n x. record { index = 0; place = at + 32; is = refl })

stack_in : (at : ℕ) (ts : List ThreadRow) → Each (stack_regions at 0 ts) ts StackOf (λ t. t.stack) (λ t. t.stack_length)
stack_in = each_in stack_regions (λ at n t. region_row (StackOf n) (at + 32) t.stack t.stack_length ∷ []) (λ t. THREAD) StackOf (λ t. t.stack) (λ t. t.stack_length)
    (λ at n x xs. refl) (λ at n x. record { index = 0; place = at + 32; is = refl })

-- ---- among all regions

module _ (p : PartsRow) where
  in_libraries : (h : Holder) (base size : ℕ) → Among (with_libraries p) h base size → Among (regions_of p) h base size
  unfolding regions_of
  in_libraries h base size a = next (trusted_region p) (later_regions p) h base size (left (with_libraries p) (stack_part p) h base size a)

  in_own : (h : Holder) (base size : ℕ) → Among (with_own p) h base size → Among (regions_of p) h base size
  in_own h base size a = in_libraries h base size (left (with_own p) (library_part p) h base size a)

  in_objects : (h : Holder) (base size : ℕ) → Among (objects p) h base size → Among (regions_of p) h base size
  in_objects h base size a = in_own h base size (left (objects p) (own_part p) h base size a)

  pub shared_there : Each (regions_of p) p.shared SharedOf (λ s. s.base) (λ s. s.length)
  shared_there n s is = in_objects _ _ _ (left (shared_part p) (sealed_part p) _ _ _ (shared_in (shared_at (raw_of p)) p.shared n s is))

  pub sealed_there : Each (regions_of p) p.sealed SealedOf (λ s. s.base) (λ s. s.length)
  sealed_there n s is = in_objects _ _ _ (right (shared_part p) (sealed_part p) _ _ _ (sealed_in (sealed_at (raw_of p)) p.sealed n s is))

  own_there : (h : ℕ → Holder) (base wide : CompartmentRow → ℕ) → ((at n : ℕ) (c : CompartmentRow) → Among (own_regions at n c) (h n) (base c) (wide c)) → Each (regions_of p) p.compartments h base wide
  own_there h base wide here b c is = in_own _ _ _ (right (objects p) (own_part p) _ _ _ (own_in h base wide here (compartments_at (raw_of p)) p.compartments b c is))

  pub code_there : Each (regions_of p) p.compartments (λ n. CodeOf (Compartment n)) (λ c. c.code.base) (λ c. c.code.length)
  code_there = own_there (λ n. CodeOf (Compartment n)) (λ c. c.code.base) (λ c. c.code.length) (λ at n c. record { index = 0; place = at + 32; is = refl })

  pub table_there : Each (regions_of p) p.compartments TableOf (λ c. c.table) (λ c. table_length c)
  table_there = own_there TableOf (λ c. c.table) (λ c. table_length c) (λ at n c. record { index = 1; place = at + 44; is = refl })

  pub globals_there : Each (regions_of p) p.compartments GlobalsOf (λ c. c.globals) (λ c. c.globals_length)
  globals_there = own_there GlobalsOf (λ c. c.globals) (λ c. c.globals_length) (λ at n c. record { index = 2; place = at + 48; is = refl })

  pub library_there : Each (regions_of p) p.libraries (λ n. CodeOf (Library n)) (λ c. c.base) (λ c. c.length)
  library_there l c is = in_libraries _ _ _ (right (with_own p) (library_part p) _ _ _ (library_in (libraries_at (raw_of p)) p.libraries l c is))

  pub stack_there : Each (regions_of p) p.threads StackOf (λ t. t.stack) (λ t. t.stack_length)
  unfolding regions_of
  stack_there t x is = next (trusted_region p) (later_regions p) _ _ _ (right (with_libraries p) (stack_part p) _ _ _ (stack_in (threads_at (raw_of p)) p.threads t x is))
