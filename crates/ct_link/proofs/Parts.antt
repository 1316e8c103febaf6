-- Parts of an image list by list, up to an index: each with its regions and entries.
use Rattle.std.proofs.Common.{ℕ, zero, suc, ◌≡◌, ◌+◌, ◌*◌, ◌<◌, max, List, [], ◌∷◌, ◌++◌, length, map, take, drop, get_or, refl, sym, ap, ap₂, ◌∙◌, arith, append_assoc, append-nil, add-zero}
use Rattle.std.proofs.Math.Nat.{mul-zero, mul-suc}
use Rattle.def_layout.specs.declared.Region.{Region}
use Rattle.def_image.specs.Parts.{SharedRow as SharedPart, SealedRow as SealedPart, CodeRow as CodePart, CompartmentRow as CompartmentPart, ThreadRow as ThreadPart}
use Rattle.def_image.specs.Sizes.{sum_of}
use Rattle.def_desc.specs.Rows.{DescShared, DescSealed, DescThread, DescCompartment, LibraryRow, DescRow}
use Rattle.def_link.specs.Slots.{compartment_export_named}
use Rattle.def_link.specs.Owners.{numbered}
use Rattle.def_link.specs.Linked.{compartment_code_size, library_code_size, compartment_sizes, base_at, length_at, compartment_part, compartment_parts, library_part, library_parts, shared_parts, sealed_parts, thread_part, thread_parts}
use Rattle.ct_asm.specs.Labels.{Assembled}
use Rattle.ct_link.specs.Rows.{own_built, lent_built, with_object, library_with_object, row_entries, library_row_entries}
use Rattle.ct_link.proofs.Places.{dropped}

-- ---- objects and threads: the part at an index has the region there

abbrev pub shared_of : Region → DescShared → SharedPart
shared_of r s = record { name = s.name; base = r.base; length = r.length }

abbrev pub sealed_of : Region → DescSealed → SealedPart
sealed_of r s = record { name = s.name; base = r.base; length = r.length; seal = s.seal; bytes = s.bytes }

abbrev pub shared_in : List Region → ℕ → DescShared → SharedPart
shared_in regions at s = record { name = s.name; base = base_at (drop at regions) 0; length = length_at (drop at regions) 0 }

abbrev pub sealed_in : List Region → ℕ → DescSealed → SealedPart
sealed_in regions at s = record {
  name = s.name;
  base = base_at (drop at regions) 0;
  length = length_at (drop at regions) 0;
  seal = s.seal;
  bytes = s.bytes;
}

abbrev pub thread_in : DescRow → List Region → ℕ → DescThread → ThreadPart
thread_in d regions at t = thread_part (drop at regions) (compartment_export_named d t.entry) t

pub shared_all : (regions : List Region) (at : ℕ) (ss : List DescShared) → numbered (shared_in regions) at ss ≡ shared_parts (drop at regions) ss
unfolding shared_parts
shared_all regions at [] = refl
shared_all regions at (s ∷ ss) = ap (λ l. shared_in regions at s ∷ l) (shared_all regions (at + 1) ss ∙ ap (λ rs. shared_parts rs ss) (sym (dropped at 1 regions)))

pub sealed_all : (regions : List Region) (at : ℕ) (ss : List DescSealed) → numbered (sealed_in regions) at ss ≡ sealed_parts (drop at regions) ss
unfolding sealed_parts
sealed_all regions at [] = refl
sealed_all regions at (s ∷ ss) = ap (λ l. sealed_in regions at s ∷ l) (sealed_all regions (at + 1) ss ∙ ap (λ rs. sealed_parts rs ss) (sym (dropped at 1 regions)))

pub thread_all : (d : DescRow) (regions : List Region) (at : ℕ) (ts : List DescThread) → numbered (thread_in d regions) at ts ≡ thread_parts d (drop at regions) ts
unfolding thread_parts
thread_all d regions at [] = refl
thread_all d regions at (t ∷ ts) = ap (λ l. thread_in d regions at t ∷ l) (thread_all d regions (at + 1) ts ∙ ap (λ rs. thread_parts d rs ts) (sym (dropped at 1 regions)))

-- ---- rows with their objects: each has entries of its own and so many regions

-- what comes of rows whose entries begin at `entry` and whose regions at `at`
abbrev pairs : {A B : Type 0} → (ℕ → ℕ → A → Assembled → List B) → (A → ℕ) → ℕ → ℕ → ℕ → List A → List Assembled → List B
pairs f size step entry at [] os = []
pairs f size step entry at (x ∷ xs) [] = []
pairs f size step entry at (x ∷ xs) (o ∷ os) = f entry at x o ++ pairs f size step (entry + size x) (at + step) xs os

pairs_suc : {A B : Type 0} (f : ℕ → ℕ → A → Assembled → List B) (size : A → ℕ) (step entry at : ℕ) (xs : List A) (os : List Assembled) (k : ℕ) (d : A) (p : Assembled) → k < length xs → k < length os
    → pairs f size step entry at (take (suc k) xs) (take (suc k) os)
    ≡ pairs f size step entry at (take k xs) (take k os) ++ f (entry + sum_of size (take k xs)) (at + step * k) (get_or xs k d) (get_or os k p)
pairs_suc f size step entry at [] os k d p low less = absurd (omega (arith, low))
pairs_suc f size step entry at (x ∷ xs) [] k d p low less = absurd (omega (arith, less))
pairs_suc f size step entry at (x ∷ xs) (o ∷ os) zero d p low less =
    append-nil (f entry at x o) ∙ ap₂ (λ n m. f n m x o) (let e : entry ≡ entry + 0 = omega arith in e) (sym (ap (λ n. at + n) (mul-zero step) ∙ add-zero at))
pairs_suc f size step entry at (x ∷ xs) (o ∷ os) (suc k) d p low less =
    let n = size x in
    let e : entry + n + sum_of size (take k xs) ≡ entry + (n + sum_of size (take k xs)) = omega arith in
    let on : step * suc k ≡ step * k + step = mul-suc step k in
    let a : at + step + step * k ≡ at + step * suc k = omega (arith, on) in
    ap (λ l. f entry at x o ++ l)
    (pairs_suc f size step (entry + n) (at + step) xs os k d p (omega (arith, low)) (omega (arith, less))
    ∙ ap₂ (λ m q. pairs f size step (entry + n) (at + step) (take k xs) (take k os) ++ f m q (get_or xs k d) (get_or os k p)) e a)
    ∙ sym (append_assoc (f entry at x o) (pairs f size step (entry + n) (at + step) (take k xs) (take k os)) (f (entry + (n + sum_of size (take k xs))) (at + step * suc k) (get_or xs k d) (get_or os k p)))

-- one more of a loop, pushed behind what was there
pairs_pushed : {A B : Type 0} (f : ℕ → ℕ → A → Assembled → List B) (size : A → ℕ) (step entry at : ℕ) (xs : List A) (os : List Assembled) (k index number place : ℕ) (d x : A) (p o : Assembled) (front old more new : List B)
    → index ≡ k → place ≡ at + step * k → number ≡ entry + sum_of size (take k xs) → old ≡ front ++ pairs f size step entry at (take k xs) (take k os)
    → k < length xs → length xs ≡ length os → x ≡ get_or xs k d → o ≡ get_or os index p → more ≡ f number place x o → new ≡ old ++ more
    → new ≡ front ++ pairs f size step entry at (take (k + 1) xs) (take (k + 1) os)
pairs_pushed f size step entry at xs os k index number place d x p o front old more new i a n before low each is there made pushed =
    let object : o ≡ get_or os k p = there ∙ ap (λ j. get_or os j p) i in
    let on : suc k ≡ k + 1 = omega arith in
    let so_far = pairs f size step entry at (take k xs) (take k os) in
    let last : more ≡ f (entry + sum_of size (take k xs)) (at + step * k) (get_or xs k d) (get_or os k p) = made ∙ ap₂ (λ e q. f e q x o) n a ∙ ap₂ (λ y z. f (entry + sum_of size (take k xs)) (at + step * k) y z) is object in
    pushed ∙ ap₂ (λ l z. l ++ z) before last ∙ append_assoc front so_far (f (entry + sum_of size (take k xs)) (at + step * k) (get_or xs k d) (get_or os k p))
    ∙ ap (λ l. front ++ l) (sym (pairs_suc f size step entry at xs os k d p low (omega (arith, low, each))) ∙ ap (λ m. pairs f size step entry at (take m xs) (take m os)) on)

-- ---- parts

abbrev own_in : DescRow → List Region → ℕ → ℕ → DescCompartment → Assembled → List CompartmentPart
own_in d regions n at c o = compartment_part d n (drop at regions) (with_object c o) ∷ []

own_pairs : (d : DescRow) (regions : List Region) (entry at : ℕ) (cs : List DescCompartment) (os : List Assembled)
    → compartment_parts d entry (drop at regions) (own_built cs os) ≡ pairs (own_in d regions) row_entries 3 entry at cs os
unfolding compartment_parts
own_pairs d regions entry at [] os = refl
own_pairs d regions entry at (c ∷ cs) [] = refl
own_pairs d regions entry at (c ∷ cs) (o ∷ os) =
    ap (λ l. compartment_part d entry (drop at regions) (with_object c o) ∷ l)
    (ap (λ rs. compartment_parts d (entry + row_entries c) rs (own_built cs os)) (dropped at 3 regions) ∙ own_pairs d regions (entry + row_entries c) (at + 3) cs os)

pub own_part_pushed : (d : DescRow) (regions : List Region) (cs : List DescCompartment) (os : List Assembled) (k index at entry : ℕ) (dc x : DescCompartment) (dp o : Assembled) (old new : List CompartmentPart) (y : CompartmentPart)
    → index ≡ k → at ≡ 3 * k → entry ≡ 1 + sum_of row_entries (take k cs) → old ≡ compartment_parts d 1 regions (own_built (take k cs) (take k os))
    → k < length cs → length cs ≡ length os → x ≡ get_or cs k dc → o ≡ get_or os index dp → y ≡ compartment_part d entry (drop at regions) (with_object x o) → new ≡ old ++ y ∷ []
    → new ≡ compartment_parts d 1 regions (own_built (take (k + 1) cs) (take (k + 1) os))
own_part_pushed d regions cs os k index at entry dc x dp o old new y i a n before low each is there made pushed =
    pairs_pushed (own_in d regions) row_entries 3 1 0 cs os k index entry at dc x dp o [] old (y ∷ []) new i (let e : at ≡ 0 + 3 * k = omega (arith, a) in e) n (before ∙ own_pairs d regions 1 0 (take k cs) (take k os))
    low each is there (ap (λ z. z ∷ []) made) pushed
    ∙ sym (own_pairs d regions 1 0 (take (k + 1) cs) (take (k + 1) os))

abbrev lent_in : DescRow → List Region → ℕ → ℕ → LibraryRow → Assembled → List CodePart
lent_in d regions n at l o = library_part d n (drop at regions) (library_with_object l o) ∷ []

lent_pairs : (d : DescRow) (regions : List Region) (entry at : ℕ) (ls : List LibraryRow) (os : List Assembled)
    → library_parts d entry (drop at regions) (lent_built ls os) ≡ pairs (lent_in d regions) library_row_entries 1 entry at ls os
unfolding library_parts
lent_pairs d regions entry at [] os = refl
lent_pairs d regions entry at (l ∷ ls) [] = refl
lent_pairs d regions entry at (l ∷ ls) (o ∷ os) =
    ap (λ r. library_part d entry (drop at regions) (library_with_object l o) ∷ r)
    (ap (λ rs. library_parts d (entry + library_row_entries l) rs (lent_built ls os)) (dropped at 1 regions) ∙ lent_pairs d regions (entry + library_row_entries l) (at + 1) ls os)

pub lent_part_pushed : (d : DescRow) (regions : List Region) (entry first : ℕ) (ls : List LibraryRow) (os : List Assembled) (k index at number : ℕ) (dl x : LibraryRow) (dp o : Assembled) (old new : List CodePart) (y : CodePart)
    → index ≡ k → at ≡ first + k → number ≡ entry + sum_of library_row_entries (take k ls) → old ≡ library_parts d entry (drop first regions) (lent_built (take k ls) (take k os))
    → k < length ls → length ls ≡ length os → x ≡ get_or ls k dl → o ≡ get_or os index dp → y ≡ library_part d number (drop at regions) (library_with_object x o) → new ≡ old ++ y ∷ []
    → new ≡ library_parts d entry (drop first regions) (lent_built (take (k + 1) ls) (take (k + 1) os))
lent_part_pushed d regions entry first ls os k index at number dl x dp o old new y i a n before low each is there made pushed =
    pairs_pushed (lent_in d regions) library_row_entries 1 entry first ls os k index number at dl x dp o [] old (y ∷ []) new i (let e : at ≡ first + 1 * k = omega (arith, a) in e) n (before ∙ lent_pairs d regions entry first (take k ls) (take k os))
    low each is there (ap (λ z. z ∷ []) made) pushed
    ∙ sym (lent_pairs d regions entry first (take (k + 1) ls) (take (k + 1) os))

-- ---- sizes, which ask for no entries and no places

abbrev own_size : ℕ → ℕ → DescCompartment → Assembled → List ℕ
own_size n at c o = compartment_code_size (with_object c o) ∷ (16 + 16 * length c.exports) ∷ max c.globals (length o.init) ∷ []

own_size_pairs : (cs : List DescCompartment) (os : List Assembled) → compartment_sizes (own_built cs os) ≡ pairs own_size (λ c. 0) 0 0 0 cs os
own_size_pairs [] os = refl
own_size_pairs (c ∷ cs) [] = refl
own_size_pairs (c ∷ cs) (o ∷ os) = ap (λ l. own_size 0 0 c o ++ l) (own_size_pairs cs os)

pub own_pushed : (cs : List DescCompartment) (os : List Assembled) (k index : ℕ) (dc x : DescCompartment) (dp o : Assembled) (front old one two new : List ℕ) (a b e : ℕ)
    → (index ≡ k) × (old ≡ front ++ compartment_sizes (own_built (take k cs) (take k os))) → k < length cs → length cs ≡ length os → x ≡ get_or cs k dc → o ≡ get_or os index dp
    → a ≡ compartment_code_size (with_object x o) → b ≡ 16 + 16 * length x.exports → e ≡ max x.globals (length o.init)
    → one ≡ old ++ a ∷ [] → two ≡ one ++ b ∷ [] → new ≡ two ++ e ∷ []
    → (index + 1 ≡ k + 1) × (new ≡ front ++ compartment_sizes (own_built (take (k + 1) cs) (take (k + 1) os)))
own_pushed cs os k index dc x dp o front old one two new a b e h low each is at code table globals first second third =
    let three : List ℕ = a ∷ b ∷ e ∷ [] in
    let all : new ≡ old ++ three = third ∙ ap (λ l. l ++ e ∷ []) (second ∙ ap (λ l. l ++ b ∷ []) first)
    ∙ ap (λ l. l ++ e ∷ []) (append_assoc old (a ∷ []) (b ∷ [])) ∙ append_assoc old (a ∷ b ∷ []) (e ∷ []) in
    let made : three ≡ own_size 0 0 x o = ap₂ (λ m n. m ∷ n ∷ e ∷ []) code table ∙ ap (λ n. compartment_code_size (with_object x o) ∷ (16 + 16 * length x.exports) ∷ n ∷ []) globals in (
      ap (λ n. n + 1) h.0,
      pairs_pushed own_size (λ c. 0) 0 0 0 cs os k index (0 + sum_of (λ (c : DescCompartment). 0) (take k cs)) (0 + 0 * k) dc x dp o front old three new h.0 refl refl
          (h.1 ∙ ap (λ l. front ++ l) (own_size_pairs (take k cs) (take k os))) low each is at made all
          ∙ ap (λ l. front ++ l) (sym (own_size_pairs (take (k + 1) cs) (take (k + 1) os))),
    )

abbrev lent_size : ℕ → ℕ → LibraryRow → Assembled → List ℕ
lent_size n at l o = library_code_size (library_with_object l o) ∷ []

lent_size_pairs : (ls : List LibraryRow) (os : List Assembled) → map library_code_size (lent_built ls os) ≡ pairs lent_size (λ l. 0) 0 0 0 ls os
lent_size_pairs [] os = refl
lent_size_pairs (l ∷ ls) [] = refl
lent_size_pairs (l ∷ ls) (o ∷ os) = ap (λ r. lent_size 0 0 l o ++ r) (lent_size_pairs ls os)

pub lent_pushed : (ls : List LibraryRow) (os : List Assembled) (k index : ℕ) (dl x : LibraryRow) (dp o : Assembled) (front old new : List ℕ) (y : ℕ)
    → (index ≡ k) × (old ≡ front ++ map library_code_size (lent_built (take k ls) (take k os))) → k < length ls → length ls ≡ length os → x ≡ get_or ls k dl → o ≡ get_or os index dp
    → y ≡ library_code_size (library_with_object x o) → new ≡ old ++ y ∷ []
    → (index + 1 ≡ k + 1) × (new ≡ front ++ map library_code_size (lent_built (take (k + 1) ls) (take (k + 1) os)))
lent_pushed ls os k index dl x dp o front old new y h low each is at made pushed = (
  ap (λ n. n + 1) h.0,
  pairs_pushed lent_size (λ l. 0) 0 0 0 ls os k index (0 + sum_of (λ (l : LibraryRow). 0) (take k ls)) (0 + 0 * k) dl x dp o front old (y ∷ []) new h.0 refl refl
      (h.1 ∙ ap (λ l. front ++ l) (lent_size_pairs (take k ls) (take k os))) low each is at (ap (λ z. z ∷ []) made) pushed
      ∙ ap (λ l. front ++ l) (sym (lent_size_pairs (take (k + 1) ls) (take (k + 1) os))),
)
