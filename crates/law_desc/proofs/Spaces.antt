-- Names that stand once: the names of each space, in the order of the walk, are fresh.
use Rattle.std.proofs.Common.{ℕ, ◌≡◌, ◌+◌, Bool, true, false, cond, List, [], ◌∷◌, ◌++◌, map, Option, Some, None, refl, ap, ap₂, ◌∙◌, subst}
use Rattle.std.specs.Prelude.{⊤, codes}
use Rattle.std.specs.List.{AllByRecursion}
use Rattle.serde_json.specs.Data.{Data}
use Rattle.serde_json.specs.Find.{get}
use Rattle.def_texts.specs.Names.{among, with_name}
use Rattle.def_desc.specs.declared.faults.PartWord.{PartWord}
use Rattle.def_desc.specs.declared.faults.PartWord.TheVariants as part
use Rattle.def_desc.specs.Members.{list_at}
use Rattle.def_desc.specs.Tables.{Inner, outer_lists, inner_lists}
use Rattle.def_desc.specs.Walk.{Spot, place, spot, items_from, inside, each_from, each, ram_spots, spots_of}
use Rattle.def_desc.specs.Names.{part_name, spot_name, Spaces, no_names, name_space, with_part_name, first_twice}
use Rattle.law_desc.proofs.Lists.{Fresh}
use Rattle.law_desc.proofs.Walked.{walk_is, devices_walk, shared_walk, sealed_walk, compartments_walk, libraries_walk, threads_walk}

-- ---- the walk with the names so far

pub head_new : (m : Spaces) (s : Spot) (ss : List Spot) → first_twice m (s ∷ ss) ≡ None
    → (among (spot_name s) (name_space s.place.part m) ≡ false) × (first_twice (with_part_name s.place.part (spot_name s) m) ss ≡ None)
head_new m s ss e = by (among (spot_name s) (name_space s.place.part m)) refl e
  where
    by : (b : Bool) → among (spot_name s) (name_space s.place.part m) ≡ b
        → cond b (Some s.place) (first_twice (with_part_name s.place.part (spot_name s) m) ss) ≡ None
        → (among (spot_name s) (name_space s.place.part m) ≡ false) × (first_twice (with_part_name s.place.part (spot_name s) m) ss ≡ None)
    by true is h = absurd (let no : Some s.place ≡ None = h in cc)
    by false is h = (is, h)

pub all_of : Spaces → List Spot → Spaces
all_of m [] = m
all_of m (s ∷ ss) = all_of (with_part_name s.place.part (spot_name s) m) ss

pub twice_right : (m : Spaces) (xs ys : List Spot) → first_twice m (xs ++ ys) ≡ None → first_twice (all_of m xs) ys ≡ None
unfolding all_of
twice_right m [] ys e = e
twice_right m (s ∷ ss) ys e = twice_right (with_part_name s.place.part (spot_name s) m) ss ys (head_new m s (ss ++ ys) e).1

pub twice_left : (m : Spaces) (xs ys : List Spot) → first_twice m (xs ++ ys) ≡ None → first_twice m xs ≡ None
twice_left m [] ys e = refl
twice_left m (s ∷ ss) ys e =
    let h = head_new m s (ss ++ ys) e in
    let rest = twice_left (with_part_name s.place.part (spot_name s) m) ss ys h.1 in
    ap (λ b. cond b (Some s.place) (first_twice (with_part_name s.place.part (spot_name s) m) ss)) h.0 ∙ rest

-- ---- one space

-- the names of the places of some parts
unfoldable pub taken_from : (PartWord → Bool) → List Spot → List (List ℕ)
taken_from mine [] = []
taken_from mine (s ∷ ss) = cond (mine s.place.part) (spot_name s ∷ taken_from mine ss) (taken_from mine ss)

-- a name of one of the space's own parts is sought and kept in it; of other fine parts none changes it
unfoldable pub Kept : (Spaces → List (List ℕ)) → PartWord → (mine fine : Bool) → Type 0
Kept space p true fine = (n : List ℕ) (m : Spaces) → (name_space p m ≡ space m) × (space (with_part_name p n m) ≡ with_name (space m) n)
Kept space p false true = (n : List ℕ) (m : Spaces) → space (with_part_name p n m) ≡ space m
Kept space p false false = ⊤

-- a space is of some parts, and of a walk over fine parts no other part changes it
abbrev pub IsSpace : (Spaces → List (List ℕ)) → (mine fine : PartWord → Bool) → Type 0
IsSpace space mine fine = (p : PartWord) → Kept space p (mine p) (fine p)

pub fresh_in : (space : Spaces → List (List ℕ)) (mine fine : PartWord → Bool) → IsSpace space mine fine → (m : Spaces) (ss : List Spot)
    → AllByRecursion (λ s. fine s.place.part ≡ true) ss → first_twice m ss ≡ None → Fresh (space m) (taken_from mine ss)
unfolding taken_from Fresh Kept
fresh_in space mine fine h m [] f e = tt
fresh_in space mine fine h m (s ∷ ss) f e =
    let new = head_new m s ss e in
    by (mine s.place.part) (subst (Kept space s.place.part (mine s.place.part)) f.0 (h s.place.part)) new.0
    (fresh_in space mine fine h (with_part_name s.place.part (spot_name s) m) ss f.1 new.1)
  where
    by : (b : Bool) → Kept space s.place.part b true → among (spot_name s) (name_space s.place.part m) ≡ false
        → Fresh (space (with_part_name s.place.part (spot_name s) m)) (taken_from mine ss)
        → Fresh (space m) (cond b (spot_name s ∷ taken_from mine ss) (taken_from mine ss))
    by true k new rest = (
      subst (λ l. among (spot_name s) l ≡ false) (k (spot_name s) m).0 new,
      subst (λ l. Fresh l (taken_from mine ss)) (k (spot_name s) m).1 rest,
    )
    by false k new rest = subst (λ l. Fresh l (taken_from mine ss)) (k (spot_name s) m) rest

-- ---- the names of pieces of a walk

taken_joined : (mine : PartWord → Bool) (xs ys : List Spot) → taken_from mine (xs ++ ys) ≡ taken_from mine xs ++ taken_from mine ys
unfolding taken_from
taken_joined mine [] ys = refl
taken_joined mine (s ∷ ss) ys = by (mine s.place.part) (taken_joined mine ss ys)
  where
    by : (b : Bool) → taken_from mine (ss ++ ys) ≡ taken_from mine ss ++ taken_from mine ys
        → cond b (spot_name s ∷ taken_from mine (ss ++ ys)) (taken_from mine (ss ++ ys)) ≡ cond b (spot_name s ∷ taken_from mine ss) (taken_from mine ss) ++ taken_from mine ys
    by true h = ap (λ l. spot_name s ∷ l) h
    by false h = h

-- the names of a list's elements, where these are of the space
abbrev taken_of : (PartWord → Bool) → PartWord → List Data → List (List ℕ)
taken_of mine part xs = cond (mine part) (map (part_name part) xs) []

-- the same of each list of an owner
abbrev pub taken_by : (PartWord → Bool) → Data → List Inner → List (List ℕ)
taken_by mine owner [] = []
taken_by mine owner (l ∷ ls) = taken_of mine l.part (list_at l.key owner) ++ taken_by mine owner ls

-- one more element
one_more : (b : Bool) (n : List ℕ) (ns : List (List ℕ)) → cond b (n ∷ cond b ns []) (cond b ns []) ≡ cond b (n ∷ ns) []
one_more true n ns = refl
one_more false n ns = refl

no_more : (b : Bool) → ◌≡◌ {A = List (List ℕ)} [] (cond b [] [])
no_more true = refl
no_more false = refl

items_taken : (mine : PartWord → Bool) (part : PartWord) (owner : Data) (i j : ℕ) (xs : List Data)
    → taken_from mine (items_from part owner i j xs) ≡ taken_of mine part xs
unfolding taken_from
items_taken mine part owner i j [] = no_more (mine part)
items_taken mine part owner i j (x ∷ xs) =
    ap (λ l. cond (mine part) (part_name part x ∷ l) l) (items_taken mine part owner i (j + 1) xs) ∙ one_more (mine part) (part_name part x) (map (part_name part) xs)

pub inside_taken : (mine : PartWord → Bool) (owner : Data) (i : ℕ) (lists : List Inner) → taken_from mine (inside owner i lists) ≡ taken_by mine owner lists
unfolding taken_from
inside_taken mine owner i [] = refl
inside_taken mine owner i (l ∷ ls) =
    taken_joined mine (items_from l.part owner i 0 (list_at l.key owner)) (inside owner i ls)
    ∙ ap₂ (λ a b. a ++ b) (items_taken mine l.part owner i 0 (list_at l.key owner)) (inside_taken mine owner i ls)

-- lists of other parts
unfoldable pub AreOthers : (PartWord → Bool) → List Inner → Type 0
AreOthers mine ls = AllByRecursion (λ (l : Inner). mine l.part ≡ false) ls

none_taken : (mine : PartWord → Bool) (owner : Data) (lists : List Inner) → AreOthers mine lists → taken_by mine owner lists ≡ []
unfolding AreOthers
none_taken mine owner [] h = refl
none_taken mine owner (l ∷ ls) h = ap₂ (λ b r. cond b (map (part_name l.part) (list_at l.key owner)) [] ++ r) h.0 (none_taken mine owner ls h.1)

each_taken : (mine : PartWord → Bool) (part : PartWord) (d : Data) (i : ℕ) (xs : List Data) → AreOthers mine (inner_lists part)
    → taken_from mine (each_from part d i xs) ≡ taken_of mine part xs
unfolding taken_from
each_taken mine part d i [] h = no_more (mine part)
each_taken mine part d i (x ∷ xs) h =
    let lists = inner_lists part in
    let later = each_from part d (i + 1) xs in
    let rest : taken_from mine (inside x i lists ++ later) ≡ taken_of mine part xs
    = taken_joined mine (inside x i lists) later ∙ ap₂ (λ a b. a ++ b) (inside_taken mine x i lists ∙ none_taken mine x lists h) (each_taken mine part d (i + 1) xs h) in
    ap (λ l. cond (mine part) (part_name part x ∷ l) l) rest ∙ one_more (mine part) (part_name part x) (map (part_name part) xs)

lists_taken : (mine : PartWord → Bool) (d : Data) (lists : List Inner) → AllByRecursion (λ (l : Inner). AreOthers mine (inner_lists l.part)) lists
    → taken_from mine (each d lists) ≡ taken_by mine d lists
unfolding taken_from
lists_taken mine d [] h = refl
lists_taken mine d (l ∷ ls) h =
    taken_joined mine (each_from l.part d 0 (list_at l.key d)) (each d ls)
    ∙ ap₂ (λ a b. a ++ b) (each_taken mine l.part d 0 (list_at l.key d) h.0) (lists_taken mine d ls h.1)

-- the names of the whole walk, list by list
pub whole_taken : (mine : PartWord → Bool) (d : Data) → mine part.Firmware ≡ false → mine part.Ram ≡ false
    → AllByRecursion (λ (l : Inner). AreOthers mine (inner_lists l.part)) outer_lists → taken_from mine (spots_of d) ≡ taken_by mine d outer_lists
unfolding taken_from spots_of
whole_taken mine d none bare h =
    let all = each d outer_lists in
    let ram = ram_spots d (get (codes "ram") d) in
    let tail = taken_from mine (ram ++ all) in
    ap (λ b. cond b (part_name part.Firmware d ∷ tail) tail) none
    ∙ taken_joined mine ram all
    ∙ ap₂ (λ a b. a ++ b) (ram_none (get (codes "ram") d)) (lists_taken mine d outer_lists h)
  where
    ram_none : (o : Option Data) → taken_from mine (ram_spots d o) ≡ []
    ram_none None = refl
    ram_none (Some r) = ap (λ b. cond b (part_name part.Ram r ∷ []) []) bare

-- ---- the walk of one owner's lists

pub record Segment (part : PartWord) (x : Data) : Type 0 where
  pub index : ℕ
  pub before : Spaces
  pub once : first_twice (with_part_name part (part_name part x) before) (inside x index (inner_lists part)) ≡ None

pub segments : (part : PartWord) (m : Spaces) (d : Data) (i : ℕ) (xs : List Data) → first_twice m (each_from part d i xs) ≡ None → AllByRecursion (Segment part) xs
segments part m d i [] e = tt
segments part m d i (x ∷ xs) e =
    let own = inside x i (inner_lists part) in
    let later = each_from part d (i + 1) xs in
    let new = (head_new m (spot (place part i 0) d x) (own ++ later) e).1 in (
      record { index = i; before = m; once = twice_left (with_part_name part (part_name part x) m) own later new },
      segments part (all_of (with_part_name part (part_name part x) m) own) d (i + 1) xs (twice_right (with_part_name part (part_name part x) m) own later new),
    )

pub record Segments (d : Data) : Type 0 where
  pub compartments : AllByRecursion (Segment part.Compartment) (list_at (codes "compartments") d)
  pub libraries : AllByRecursion (Segment part.Library) (list_at (codes "libraries") d)

pub all_segments : (d : Data) → first_twice no_names (spots_of d) ≡ None → Segments d
unfolding compartments_walk libraries_walk
all_segments d e =
    let fw = spot (place part.Firmware 0 0) d d in
    let r = ram_spots d (get (codes "ram") d) in
    let v = devices_walk d in
    let s = shared_walk d in
    let x = sealed_walk d in
    let c = compartments_walk d in
    let l = libraries_walk d in
    let t = threads_walk d in
    let m0 = with_part_name part.Firmware (spot_name fw) no_names in
    let h0 = (head_new no_names fw (r ++ (v ++ (s ++ (x ++ (c ++ (l ++ (t ++ []))))))) (subst (λ z. first_twice no_names z ≡ None) (walk_is d) e)).1 in
    let h1 = twice_right m0 r (v ++ (s ++ (x ++ (c ++ (l ++ (t ++ [])))))) h0 in
    let m1 = all_of m0 r in
    let h2 = twice_right m1 v (s ++ (x ++ (c ++ (l ++ (t ++ []))))) h1 in
    let m2 = all_of m1 v in
    let h3 = twice_right m2 s (x ++ (c ++ (l ++ (t ++ [])))) h2 in
    let m3 = all_of m2 s in
    let h4 = twice_right m3 x (c ++ (l ++ (t ++ []))) h3 in
    let m4 = all_of m3 x in
    let h5 = twice_right m4 c (l ++ (t ++ [])) h4 in
    record {
      compartments = segments part.Compartment m4 d 0 (list_at (codes "compartments") d) (twice_left m4 c (l ++ (t ++ [])) h4);
      libraries = segments part.Library (all_of m4 c) d 0 (list_at (codes "libraries") d) (twice_left (all_of m4 c) l (t ++ []) h5);
    }
