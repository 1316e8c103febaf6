-- From the walk of all places to what holds of each part.
use Rattle.std.proofs.Common.{ℕ, ◌≡◌, ◌+◌, Bool, true, false, cond, not, List, [], ◌∷◌, ◌++◌, Option, Some, None, refl}
use Rattle.std.specs.Prelude.{find, option_map, codes}
use Rattle.std.specs.List.{AllByRecursion}
use Rattle.serde_json.specs.Data.{Data}
use Rattle.serde_json.specs.Find.{get}
use Rattle.def_desc.specs.declared.faults.Place.{Place}
use Rattle.def_desc.specs.declared.faults.Fault.{Fault}
use Rattle.def_desc.specs.declared.faults.PartWord.{PartWord}
use Rattle.def_desc.specs.declared.faults.PartWord.TheVariants as part
use Rattle.def_desc.specs.Members.{list_at}
use Rattle.def_desc.specs.Tables.{outer_lists, inner_lists}
use Rattle.def_desc.specs.Walk.{Spot, place, spot, items_from, inside, each_from, ram_spots, spots_of}
use Rattle.def_desc.specs.Kinds.{has_kinds, has_only}
use Rattle.def_desc.specs.Names.{is_well_named, no_names, first_twice}
use Rattle.def_desc.specs.Limits.{keeps_limits}
use Rattle.def_desc.specs.References.{refers_at, rights_fit_at, is_served_at}
use Rattle.def_desc.specs.Addresses.{address_fault}
use Rattle.def_desc.specs.Reading.{description_of}
use Rattle.def_desc.specs.WellFormed.{spot_place, first_failing, fault, fault_or, first_fault, fault_of}
use Rattle.law_lists.proofs.Alls.{all_left, all_right}

-- ---- no fault

none_fails : (test : Spot → Bool) (ss : List Spot) → first_failing test ss ≡ None → AllByRecursion (λ s. test s ≡ true) ss
none_fails test [] e = tt
none_fails test (s ∷ ss) e = by (test s) refl e (λ h. none_fails test ss h)
  where
    by : (b : Bool) → test s ≡ b → option_map spot_place (cond (not b) (Some s) (find (λ s. not (test s)) ss)) ≡ None
        → (first_failing test ss ≡ None → AllByRecursion (λ s. test s ≡ true) ss) → (test s ≡ true) × AllByRecursion (λ s. test s ≡ true) ss
    by true is h rest = (is, rest h)
    by false is h rest = absurd (let no : Some (spot_place s) ≡ None = h in cc)

neither : (n : ℕ) (o : Option Place) (rest : Option Fault) → fault_or n o rest ≡ None → (o ≡ None) × (rest ≡ None)
neither n None rest e = (refl, e)
neither n (Some p) rest e = absurd (let no : Some (fault n p) ≡ None = e in cc)

-- what the tests of a place say
pub record Good (d : Data) (s : Spot) : Type 0 where
  pub kinds : has_kinds s ≡ true
  pub named : is_well_named s ≡ true
  pub limits : keeps_limits s ≡ true
  pub refers : refers_at d s ≡ true
  pub rights : rights_fit_at s ≡ true
  pub served : is_served_at s ≡ true

pub record Faultless (d : Data) : Type 0 where
  pub each : AllByRecursion (Good d) (spots_of d)
  pub once : first_twice no_names (spots_of d) ≡ None
  pub addresses : address_fault (description_of d) ≡ None

all_good : (d : Data) (ss : List Spot)
    → AllByRecursion (λ s. has_kinds s ≡ true) ss → AllByRecursion (λ s. is_well_named s ≡ true) ss
    → AllByRecursion (λ s. keeps_limits s ≡ true) ss → AllByRecursion (λ s. refers_at d s ≡ true) ss
    → AllByRecursion (λ s. rights_fit_at s ≡ true) ss → AllByRecursion (λ s. is_served_at s ≡ true) ss
    → AllByRecursion (Good d) ss
all_good d [] k n l f r s = tt
all_good d (x ∷ xs) k n l f r s =
    (record { kinds = k.0; named = n.0; limits = l.0; refers = f.0; rights = r.0; served = s.0 }, all_good d xs k.1 n.1 l.1 f.1 r.1 s.1)

pub faultless : (d : Data) → fault_of d ≡ None → Faultless d
unfolding first_fault
faultless d e =
    let ss = spots_of d in
    let a10 = fault_or 10 (address_fault (description_of d)) None in
    let a9 = fault_or 9 (first_failing is_served_at ss) a10 in
    let a8 = fault_or 8 (first_failing rights_fit_at ss) a9 in
    let a7 = fault_or 7 (first_failing (refers_at d) ss) a8 in
    let a6 = fault_or 6 (first_failing keeps_limits ss) a7 in
    let a5 = fault_or 5 (first_twice no_names ss) a6 in
    let a4 = fault_or 4 (first_failing is_well_named ss) a5 in
    let a3 = fault_or 3 (first_failing has_only ss) a4 in
    let h2 = neither 2 (first_failing has_kinds ss) a3 e in
    let h3 = neither 3 (first_failing has_only ss) a4 h2.1 in
    let h4 = neither 4 (first_failing is_well_named ss) a5 h3.1 in
    let h5 = neither 5 (first_twice no_names ss) a6 h4.1 in
    let h6 = neither 6 (first_failing keeps_limits ss) a7 h5.1 in
    let h7 = neither 7 (first_failing (refers_at d) ss) a8 h6.1 in
    let h8 = neither 8 (first_failing rights_fit_at ss) a9 h7.1 in
    let h9 = neither 9 (first_failing is_served_at ss) a10 h8.1 in
    record {
      each = all_good d ss (none_fails has_kinds ss h2.0) (none_fails is_well_named ss h4.0) (none_fails keeps_limits ss h6.0)
          (none_fails (refers_at d) ss h7.0) (none_fails rights_fit_at ss h8.0) (none_fails is_served_at ss h9.0);
      once = h5.0;
      addresses = (neither 10 (address_fault (description_of d)) None h9.1).0;
    }

-- ---- the parts of the walk

-- of an element of a list of the description: of itself at some index, and of what stands inside it
pub record At (P : Spot → Type 0) (part : PartWord) (d x : Data) : Type 0 where
  pub index : ℕ
  pub itself : P (spot (place part index 0) d x)
  pub inside : AllByRecursion P (inside x index (inner_lists part))

pub each_at : (P : Spot → Type 0) (part : PartWord) (d : Data) (i : ℕ) (xs : List Data) → AllByRecursion P (each_from part d i xs) → AllByRecursion (At P part d) xs
each_at P part d i [] h = tt
each_at P part d i (x ∷ xs) h =
    let own = inside x i (inner_lists part) in
    let later = each_from part d (i + 1) xs in
    (record { index = i; itself = h.0; inside = all_left P own later h.1 }, each_at P part d (i + 1) xs (all_right P own later h.1))

-- of an element of a list of a compartment or library
pub record In (P : Spot → Type 0) (part : PartWord) (owner : Data) (i : ℕ) (x : Data) : Type 0 where
  pub item : ℕ
  pub itself : P (spot (place part i item) owner x)

pub each_in : (P : Spot → Type 0) (part : PartWord) (owner : Data) (i j : ℕ) (xs : List Data) → AllByRecursion P (items_from part owner i j xs) → AllByRecursion (In P part owner i) xs
each_in P part owner i j [] h = tt
each_in P part owner i j (x ∷ xs) h = (record { item = j; itself = h.0 }, each_in P part owner i (j + 1) xs h.1)

pub record Walked (P : Spot → Type 0) (d : Data) : Type 0 where
  pub firmware : P (spot (place part.Firmware 0 0) d d)
  pub ram : AllByRecursion P (ram_spots d (get (codes "ram") d))
  pub devices : AllByRecursion (At P part.Device d) (list_at (codes "devices") d)
  pub shared : AllByRecursion (At P part.Shared d) (list_at (codes "shared") d)
  pub sealed : AllByRecursion (At P part.Sealed d) (list_at (codes "sealed") d)
  pub compartments : AllByRecursion (At P part.Compartment d) (list_at (codes "compartments") d)
  pub libraries : AllByRecursion (At P part.Library d) (list_at (codes "libraries") d)
  pub threads : AllByRecursion (At P part.Thread d) (list_at (codes "threads") d)

-- the walk of each list of the description
unfoldable pub devices_walk : Data → List Spot
devices_walk d = each_from part.Device d 0 (list_at (codes "devices") d)

unfoldable pub shared_walk : Data → List Spot
shared_walk d = each_from part.Shared d 0 (list_at (codes "shared") d)

unfoldable pub sealed_walk : Data → List Spot
sealed_walk d = each_from part.Sealed d 0 (list_at (codes "sealed") d)

unfoldable pub compartments_walk : Data → List Spot
compartments_walk d = each_from part.Compartment d 0 (list_at (codes "compartments") d)

unfoldable pub libraries_walk : Data → List Spot
libraries_walk d = each_from part.Library d 0 (list_at (codes "libraries") d)

unfoldable pub threads_walk : Data → List Spot
threads_walk d = each_from part.Thread d 0 (list_at (codes "threads") d)

pub walk_is : (d : Data) → spots_of d ≡ spot (place part.Firmware 0 0) d d ∷ (ram_spots d (get (codes "ram") d)
    ++ (devices_walk d ++ (shared_walk d ++ (sealed_walk d ++ (compartments_walk d ++ (libraries_walk d ++ (threads_walk d ++ [])))))))
unfolding spots_of outer_lists devices_walk shared_walk sealed_walk compartments_walk libraries_walk threads_walk
walk_is d = refl

pub walked : (P : Spot → Type 0) (d : Data) → AllByRecursion P (spots_of d) → Walked P d
unfolding spots_of outer_lists
walked P d h =
    let r = ram_spots d (get (codes "ram") d) in
    let v = each_from part.Device d 0 (list_at (codes "devices") d) in
    let s = each_from part.Shared d 0 (list_at (codes "shared") d) in
    let x = each_from part.Sealed d 0 (list_at (codes "sealed") d) in
    let c = each_from part.Compartment d 0 (list_at (codes "compartments") d) in
    let l = each_from part.Library d 0 (list_at (codes "libraries") d) in
    let t = each_from part.Thread d 0 (list_at (codes "threads") d) in
    let h1 = all_right P r (v ++ (s ++ (x ++ (c ++ (l ++ (t ++ [])))))) h.1 in
    let h2 = all_right P v (s ++ (x ++ (c ++ (l ++ (t ++ []))))) h1 in
    let h3 = all_right P s (x ++ (c ++ (l ++ (t ++ [])))) h2 in
    let h4 = all_right P x (c ++ (l ++ (t ++ []))) h3 in
    let h5 = all_right P c (l ++ (t ++ [])) h4 in
    let h6 = all_right P l (t ++ []) h5 in
    record {
      firmware = h.0;
      ram = all_left P r (v ++ (s ++ (x ++ (c ++ (l ++ (t ++ [])))))) h.1;
      devices = each_at P part.Device d 0 (list_at (codes "devices") d) (all_left P v (s ++ (x ++ (c ++ (l ++ (t ++ []))))) h1);
      shared = each_at P part.Shared d 0 (list_at (codes "shared") d) (all_left P s (x ++ (c ++ (l ++ (t ++ [])))) h2);
      sealed = each_at P part.Sealed d 0 (list_at (codes "sealed") d) (all_left P x (c ++ (l ++ (t ++ []))) h3);
      compartments = each_at P part.Compartment d 0 (list_at (codes "compartments") d) (all_left P c (l ++ (t ++ [])) h4);
      libraries = each_at P part.Library d 0 (list_at (codes "libraries") d) (all_left P l (t ++ []) h5);
      threads = each_at P part.Thread d 0 (list_at (codes "threads") d) (all_left P t [] h6);
    }

-- what stands inside a compartment and inside a library
pub record InCompartment (P : Spot → Type 0) (owner : Data) (i : ℕ) : Type 0 where
  pub imports : AllByRecursion (In P part.Import owner i) (list_at (codes "imports") owner)
  pub quotas : AllByRecursion (In P part.Quota owner i) (list_at (codes "quotas") owner)
  pub keys : AllByRecursion (In P part.Key owner i) (list_at (codes "keys") owner)
  pub exports : AllByRecursion (In P part.Export owner i) (list_at (codes "exports") owner)

pub in_compartment : (P : Spot → Type 0) (owner : Data) (i : ℕ) → AllByRecursion P (inside owner i (inner_lists part.Compartment)) → InCompartment P owner i
unfolding inner_lists
in_compartment P owner i h =
    let a = items_from part.Import owner i 0 (list_at (codes "imports") owner) in
    let b = items_from part.Quota owner i 0 (list_at (codes "quotas") owner) in
    let c = items_from part.Key owner i 0 (list_at (codes "keys") owner) in
    let e = items_from part.Export owner i 0 (list_at (codes "exports") owner) in
    let h1 = all_right P a (b ++ (c ++ (e ++ []))) h in
    let h2 = all_right P b (c ++ (e ++ [])) h1 in
    let h3 = all_right P c (e ++ []) h2 in
    record {
      imports = each_in P part.Import owner i 0 (list_at (codes "imports") owner) (all_left P a (b ++ (c ++ (e ++ []))) h);
      quotas = each_in P part.Quota owner i 0 (list_at (codes "quotas") owner) (all_left P b (c ++ (e ++ [])) h1);
      keys = each_in P part.Key owner i 0 (list_at (codes "keys") owner) (all_left P c (e ++ []) h2);
      exports = each_in P part.Export owner i 0 (list_at (codes "exports") owner) (all_left P e [] h3);
    }

pub record InLibrary (P : Spot → Type 0) (owner : Data) (i : ℕ) : Type 0 where
  pub imports : AllByRecursion (In P part.Limport owner i) (list_at (codes "imports") owner)
  pub exports : AllByRecursion (In P part.Lexport owner i) (list_at (codes "exports") owner)

pub in_library : (P : Spot → Type 0) (owner : Data) (i : ℕ) → AllByRecursion P (inside owner i (inner_lists part.Library)) → InLibrary P owner i
unfolding inner_lists
in_library P owner i h =
    let a = items_from part.Limport owner i 0 (list_at (codes "imports") owner) in
    let e = items_from part.Lexport owner i 0 (list_at (codes "exports") owner) in
    record {
      imports = each_in P part.Limport owner i 0 (list_at (codes "imports") owner) (all_left P a (e ++ []) h);
      exports = each_in P part.Lexport owner i 0 (list_at (codes "exports") owner) (all_left P e [] (all_right P a (e ++ []) h));
    }
