-- The reader of the whole is exact: fields that are read spell the bytes, and bytes that fields spell are read.
use Rattle.std.proofs.Common.{ℕ, ◌≡◌, Bool, true, false, cond, nat_eq, List, [], ◌∷◌, ◌++◌, length, Option, Some, None, refl, sym, ap, ◌∙◌, subst, append_assoc, arith, inl, inr}
use Rattle.std.specs.Prelude.{bytes_eq}
use Rattle.std.specs.List.{flat_map}
use Rattle.std.proofs.lemmas.Bool.{eqb-true}
use Rattle.std.proofs.lemmas.List.{append-nil, nil_from_length}
use Rattle.law_lists.proofs.Tests.{eq_tells, same_bytes, own_bytes}
use Rattle.def_image.specs.declared.format.TheConstants.{NAME}
use Rattle.def_image.specs.Raw.{RawImage}
use Rattle.def_image.specs.Spelling.{number, magic, device_spelled, shared_spelled, sealed_spelled, compartment_spelled, library_spelled, thread_spelled, spelled}
use Rattle.def_image.specs.Shapes.{IsField, IsNumber, IsDevice, IsShared, IsSealed, IsCode, IsCompartment, IsThread, IsShaped}
use Rattle.def_image.specs.Accepted.{Spells}
use Rattle.ct_image_fields.specs.declared.heads.Bases.{Bases}
use Rattle.ct_image_fields.specs.declared.heads.Counts.{Counts}
use Rattle.ct_image_fields.specs.Reading.{number_at, counts_at, bases_at, sweep_at, lists_at, image_at, all_of}
use Rattle.ct_image_fields.proofs.Turns.{six_in_turn, seven_in_turn, six_joined}
use Rattle.ct_image_fields.proofs.Exact.{IsBytes, Took, Exact, begin, then, made, on, AreSo, field_exact, number_exact, many_exact, bind_some}
use Rattle.ct_image_fields.proofs.Parts.{device_exact, shared_exact, sealed_exact, compartment_exact, library_exact, thread_exact}

-- ---- the counts, the numbers, the sweep rate

abbrev counts_spelled : Counts → List ℕ
counts_spelled c = number c.devices ++ number c.shared ++ number c.sealed ++ number c.compartments ++ number c.libraries ++ number c.threads

record AreCounts (c : Counts) : Type 0 where
  pub devices : IsNumber c.devices
  pub shared : IsNumber c.shared
  pub sealed : IsNumber c.sealed
  pub compartments : IsNumber c.compartments
  pub libraries : IsNumber c.libraries
  pub threads : IsNumber c.threads

counts_takes : (bytes : List ℕ) (x : Counts × List ℕ) → IsBytes bytes → counts_at bytes ≡ Some x → Took AreCounts counts_spelled bytes x
unfolding counts_at
counts_takes bytes x fits e =
    let a = begin number_exact bytes _ x fits e in
    let b = then number_exact a _ a.goes in
    let c = then number_exact b _ b.goes in
    let d = then number_exact c _ c.goes in
    let f = then number_exact d _ d.goes in
    let g = then number_exact f _ f.goes in
    made AreCounts counts_spelled (record { devices = a.found.0; shared = b.found.0; sealed = c.found.0; compartments = d.found.0; libraries = f.found.0; threads = g.found.0 }) bytes g.found.1 x g.whole
    (record { devices = a.holds; shared = b.holds; sealed = c.holds; compartments = d.holds; libraries = f.holds; threads = g.holds }) g.fits g.goes

counts_again : (c : Counts) (rest : List ℕ) → AreCounts c → counts_at (counts_spelled c ++ rest) ≡ Some (c, rest)
unfolding counts_at
counts_again c rest is =
    let r5 = number c.threads ++ rest in
    let r4 = number c.libraries ++ r5 in
    let r3 = number c.compartments ++ r4 in
    let r2 = number c.sealed ++ r3 in
    let r1 = number c.shared ++ r2 in
    on number_exact c.devices r1 _ is.devices ∙ on number_exact c.shared r2 _ is.shared ∙ on number_exact c.sealed r3 _ is.sealed
    ∙ on number_exact c.compartments r4 _ is.compartments ∙ on number_exact c.libraries r5 _ is.libraries ∙ on number_exact c.threads rest _ is.threads

counts_exact : Exact AreCounts counts_spelled counts_at
counts_exact = record { takes = counts_takes; again = counts_again }

abbrev bases_spelled : Bases → List ℕ
bases_spelled b = number b.quantum ++ number b.ram ++ number b.size ++ number b.trusted ++ number b.heap

record AreBases (b : Bases) : Type 0 where
  pub quantum : IsNumber b.quantum
  pub ram : IsNumber b.ram
  pub size : IsNumber b.size
  pub trusted : IsNumber b.trusted
  pub heap : IsNumber b.heap

bases_takes : (bytes : List ℕ) (x : Bases × List ℕ) → IsBytes bytes → bases_at bytes ≡ Some x → Took AreBases bases_spelled bytes x
unfolding bases_at
bases_takes bytes x fits e =
    let a = begin number_exact bytes _ x fits e in
    let b = then number_exact a _ a.goes in
    let c = then number_exact b _ b.goes in
    let d = then number_exact c _ c.goes in
    let f = then number_exact d _ d.goes in
    made AreBases bases_spelled (record { quantum = a.found.0; ram = b.found.0; size = c.found.0; trusted = d.found.0; heap = f.found.0 }) bytes f.found.1 x f.whole
    (record { quantum = a.holds; ram = b.holds; size = c.holds; trusted = d.holds; heap = f.holds }) f.fits f.goes

bases_again : (b : Bases) (rest : List ℕ) → AreBases b → bases_at (bases_spelled b ++ rest) ≡ Some (b, rest)
unfolding bases_at
bases_again b rest is =
    let r4 = number b.heap ++ rest in
    let r3 = number b.trusted ++ r4 in
    let r2 = number b.size ++ r3 in
    let r1 = number b.ram ++ r2 in
    on number_exact b.quantum r1 _ is.quantum ∙ on number_exact b.ram r2 _ is.ram ∙ on number_exact b.size r3 _ is.size
    ∙ on number_exact b.trusted r4 _ is.trusted ∙ on number_exact b.heap rest _ is.heap

bases_exact : Exact AreBases bases_spelled bases_at
bases_exact = record { takes = bases_takes; again = bases_again }

abbrev rate_spelled : ℕ → ℕ → List ℕ
rate_spelled version sweep = cond (nat_eq version 1) [] (number sweep)

record IsRate (version sweep : ℕ) : Type 0 where
  pub small : IsNumber sweep
  pub first : version ≡ 1 → sweep ≡ 64

none_there : (version : ℕ) → nat_eq version 1 ≡ false → version ≡ 1 → ⊥
none_there version other is = absurd (let clash : nat_eq 1 1 ≡ false = subst (λ v. nat_eq v 1 ≡ false) is other in cc)

sweep_takes : (version : ℕ) (bytes : List ℕ) (x : ℕ × List ℕ) → IsBytes bytes → sweep_at version bytes ≡ Some x → Took (IsRate version) (rate_spelled version) bytes x
unfolding sweep_at
sweep_takes version bytes x fits e = by (nat_eq version 1) refl e
  where
    by : (b : Bool) → nat_eq version 1 ≡ b → cond b (Some (64, bytes)) (number_at bytes) ≡ Some x → Took (IsRate version) (rate_spelled version) bytes x
    by true is f =
        let whole : bytes ≡ rate_spelled version 64 ++ bytes = rw is refl in
        made (IsRate version) (rate_spelled version) 64 bytes bytes x whole (record { small = omega arith; first = λ _. refl }) fits f
    by false is f =
        let t : Took IsNumber number bytes x = number_exact.takes bytes x fits f in
        record { parts = rw is t.parts; holds = record { small = t.holds; first = λ one. absurd (none_there version is one) }; fits = t.fits }

sweep_again : (version sweep : ℕ) (rest : List ℕ) → IsRate version sweep → sweep_at version (rate_spelled version sweep ++ rest) ≡ Some (sweep, rest)
unfolding sweep_at
sweep_again version sweep rest h = elim (eq_tells version 1) [
  | inl is ↦ (let rate = h.first is.1 in rw (is.0, rate) refl)
  | inr other ↦ rw other.0 (number_exact.again sweep rest h.small)
]

sweep_exact : (version : ℕ) → Exact (IsRate version) (rate_spelled version) (sweep_at version)
sweep_exact version = record { takes = sweep_takes version; again = sweep_again version }

-- ---- the lists

record Carries (v : ℕ) (b : Bases) (w : ℕ) (t : List ℕ) (c : Counts) (r : RawImage) : Type 0 where
  pub version : r.version ≡ v
  pub quantum : r.quantum ≡ b.quantum
  pub ram : r.ram ≡ b.ram
  pub size : r.size ≡ b.size
  pub trusted : r.trusted ≡ b.trusted
  pub heap : r.heap ≡ b.heap
  pub sweep : r.sweep ≡ w
  pub name : r.name ≡ t
  pub devices : AreSo IsDevice c.devices r.devices
  pub shared : AreSo IsShared c.shared r.shared
  pub sealed : AreSo IsSealed c.sealed r.sealed
  pub compartments : AreSo IsCompartment c.compartments r.compartments
  pub libraries : AreSo IsCode c.libraries r.libraries
  pub threads : AreSo IsThread c.threads r.threads

abbrev lists_spelled : RawImage → List ℕ
lists_spelled r =
    flat_map device_spelled r.devices ++ flat_map shared_spelled r.shared ++ flat_map sealed_spelled r.sealed
    ++ flat_map compartment_spelled r.compartments ++ flat_map library_spelled r.libraries ++ flat_map thread_spelled r.threads

lists_takes : (version : ℕ) (n : Bases) (sweep : ℕ) (name : List ℕ) (k : Counts) (bytes : List ℕ) (x : RawImage × List ℕ) → IsBytes bytes → lists_at version n sweep name k bytes ≡ Some x
    → Took (Carries version n sweep name k) lists_spelled bytes x
unfolding lists_at
lists_takes version n sweep name k bytes x fits e =
    let a = begin (many_exact device_exact k.devices) bytes _ x fits e in
    let b = then (many_exact shared_exact k.shared) a _ a.goes in
    let c = then (many_exact sealed_exact k.sealed) b _ b.goes in
    let d = then (many_exact compartment_exact k.compartments) c _ c.goes in
    let f = then (many_exact library_exact k.libraries) d _ d.goes in
    let g = then (many_exact thread_exact k.threads) f _ f.goes in
    let r : RawImage = record {
      version = version;
      quantum = n.quantum;
      ram = n.ram;
      size = n.size;
      trusted = n.trusted;
      heap = n.heap;
      sweep = sweep;
      name = name;
      devices = a.found.0;
      shared = b.found.0;
      sealed = c.found.0;
      compartments = d.found.0;
      libraries = f.found.0;
      threads = g.found.0;
    } in
    made (Carries version n sweep name k) lists_spelled r bytes g.found.1 x g.whole (record {
      version = refl;
      quantum = refl;
      ram = refl;
      size = refl;
      trusted = refl;
      heap = refl;
      sweep = refl;
      name = refl;
      devices = a.holds;
      shared = b.holds;
      sealed = c.holds;
      compartments = d.holds;
      libraries = f.holds;
      threads = g.holds;
    }) g.fits g.goes

abbrev headed : ℕ → Bases → ℕ → List ℕ → RawImage → RawImage
headed version n sweep name r = record r {
  version = version;
  quantum = n.quantum;
  ram = n.ram;
  size = n.size;
  trusted = n.trusted;
  heap = n.heap;
  sweep = sweep;
  name = name;
}

lists_again : (version : ℕ) (n : Bases) (sweep : ℕ) (name : List ℕ) (k : Counts) (r : RawImage) (rest : List ℕ) → Carries version n sweep name k r
    → lists_at version n sweep name k (lists_spelled r ++ rest) ≡ Some (r, rest)
unfolding lists_at
lists_again version n sweep name k r rest c =
    let r5 = flat_map thread_spelled r.threads ++ rest in
    let r4 = flat_map library_spelled r.libraries ++ r5 in
    let r3 = flat_map compartment_spelled r.compartments ++ r4 in
    let r2 = flat_map sealed_spelled r.sealed ++ r3 in
    let r1 = flat_map shared_spelled r.shared ++ r2 in
    let regrouped : lists_spelled r ++ rest ≡ flat_map device_spelled r.devices ++ r1 =
    six_in_turn (flat_map device_spelled r.devices) (flat_map shared_spelled r.shared) (flat_map sealed_spelled r.sealed) (flat_map compartment_spelled r.compartments) (flat_map library_spelled r.libraries) (flat_map thread_spelled r.threads) rest in
    let f0 = c.version in
    let f1 = c.quantum in
    let f2 = c.ram in
    let f3 = c.size in
    let f4 = c.trusted in
    let f5 = c.heap in
    let f6 = c.sweep in
    let f7 = c.name in
    let same : headed version n sweep name r ≡ record r { name = r.name } = cc in
    ap (lists_at version n sweep name k) regrouped ∙ on (many_exact device_exact k.devices) r.devices r1 _ c.devices ∙ on (many_exact shared_exact k.shared) r.shared r2 _ c.shared
    ∙ on (many_exact sealed_exact k.sealed) r.sealed r3 _ c.sealed ∙ on (many_exact compartment_exact k.compartments) r.compartments r4 _ c.compartments
    ∙ on (many_exact library_exact k.libraries) r.libraries r5 _ c.libraries ∙ on (many_exact thread_exact k.threads) r.threads rest _ c.threads
    ∙ ap (λ (y : RawImage). Some (y, rest)) same

-- ---- the whole

abbrev bases_of : RawImage → Bases
bases_of r = record { quantum = r.quantum; ram = r.ram; size = r.size; trusted = r.trusted; heap = r.heap }

abbrev counts_of : RawImage → Counts
counts_of r = record {
  devices = length r.devices;
  shared = length r.shared;
  sealed = length r.sealed;
  compartments = length r.compartments;
  libraries = length r.libraries;
  threads = length r.threads;
}

-- what is read, one after the other
abbrev image_parts : List ℕ → ℕ → Counts → Bases → ℕ → List ℕ → RawImage → List ℕ
image_parts begin version k n sweep name r =
    begin ++ number version ++ counts_spelled k ++ bases_spelled n ++ rate_spelled version sweep ++ name ++ lists_spelled r

flat_parts : (r : RawImage) → image_parts magic r.version (counts_of r) (bases_of r) r.sweep r.name r ≡ spelled r
unfolding spelled
flat_parts r =
    six_joined (magic ++ number r.version ++ counts_spelled (counts_of r) ++ bases_spelled (bases_of r) ++ rate_spelled r.version r.sweep ++ r.name)
    (flat_map device_spelled r.devices) (flat_map shared_spelled r.shared) (flat_map sealed_spelled r.sealed)
    (flat_map compartment_spelled r.compartments) (flat_map library_spelled r.libraries) (flat_map thread_spelled r.threads)

parts_are : (version : ℕ) (k : Counts) (n : Bases) (sweep : ℕ) (name : List ℕ) (r : RawImage) → Carries version n sweep name k r → image_parts magic version k n sweep name r ≡ spelled r
parts_are version k n sweep name r c =
    let f0 = c.version in
    let f1 = c.quantum in
    let f2 = c.ram in
    let f3 = c.size in
    let f4 = c.trusted in
    let f5 = c.heap in
    let f6 = c.sweep in
    let f7 = c.name in
    let n0 = c.devices.0 in
    let n1 = c.shared.0 in
    let n2 = c.sealed.0 in
    let n3 = c.compartments.0 in
    let n4 = c.libraries.0 in
    let n5 = c.threads.0 in
    let same : image_parts magic version k n sweep name r ≡ image_parts magic r.version (counts_of r) (bases_of r) r.sweep r.name r =
    rw (f0, f1, f2, f3, f4, f5, f6, f7, n0, n1, n2, n3, n4, n5) refl in
    same ∙ flat_parts r

abbrev IsIn : ℕ → Type 0
IsIn n = IsNumber n

shaped_is : (version : ℕ) (n : Bases) (sweep : ℕ) (name : List ℕ) (k : Counts) (r : RawImage) → IsNumber version → AreCounts k → AreBases n → IsRate version sweep → IsField NAME name
    → Carries version n sweep name k r → IsShaped r
shaped_is version n sweep name k r hv hk hn hs hm c = record {
  version = subst IsIn (sym c.version) hv;
  rate = λ one. c.sweep ∙ hs.first (sym c.version ∙ one);
  sweep = subst IsIn (sym c.sweep) hs.small;
  quantum = subst IsIn (sym c.quantum) hn.quantum;
  ram = subst IsIn (sym c.ram) hn.ram;
  size = subst IsIn (sym c.size) hn.size;
  trusted = subst IsIn (sym c.trusted) hn.trusted;
  heap = subst IsIn (sym c.heap) hn.heap;
  name = subst (λ (b : List ℕ). IsField NAME b) (sym c.name) hm;
  devices = (subst IsIn (sym c.devices.0) hk.devices, c.devices.1);
  shared = (subst IsIn (sym c.shared.0) hk.shared, c.shared.1);
  sealed = (subst IsIn (sym c.sealed.0) hk.sealed, c.sealed.1);
  compartments = (subst IsIn (sym c.compartments.0) hk.compartments, c.compartments.1);
  libraries = (subst IsIn (sym c.libraries.0) hk.libraries, c.libraries.1);
  threads = (subst IsIn (sym c.threads.0) hk.threads, c.threads.1);
}

chosen_some : {A : Type 0} (b : Bool) (r : Option A) (y : A) → cond b r None ≡ Some y → (b ≡ true) × (r ≡ Some y)
chosen_some true r y e = (refl, e)
chosen_some false r y e = absurd cc

image_takes : (bytes : List ℕ) (x : RawImage × List ℕ) → IsBytes bytes → image_at bytes ≡ Some x → Took IsShaped spelled bytes x
unfolding image_at
image_takes bytes x fits e =
    let m = begin (field_exact 4) bytes _ x fits e in
    let v = then number_exact m _ m.goes in
    let k = then counts_exact v _ v.goes in
    let n = then bases_exact k _ k.goes in
    let s = then (sweep_exact v.found.0) n _ n.goes in
    let a = then (field_exact NAME) s _ s.goes in
    let g = chosen_some (bytes_eq m.found.0 magic) (lists_at v.found.0 n.found.0 s.found.0 a.found.0 k.found.0 a.found.1) x a.goes in
    let begun : m.found.0 ≡ magic = same_bytes m.found.0 magic g.0 in
    let l : Took (Carries v.found.0 n.found.0 s.found.0 a.found.0 k.found.0) lists_spelled a.found.1 x = lists_takes v.found.0 n.found.0 s.found.0 a.found.0 k.found.0 a.found.1 x a.fits g.1 in
    let front = λ (b : List ℕ). b ++ number v.found.0 ++ counts_spelled k.found.0 ++ bases_spelled n.found.0 ++ rate_spelled v.found.0 s.found.0 ++ a.found.0 in
    record {
      parts = a.whole ∙ ap (λ (r : List ℕ). front m.found.0 ++ r) l.parts ∙ sym (append_assoc (front m.found.0) (lists_spelled x.0) x.1)
          ∙ ap (λ (b : List ℕ). (front b ++ lists_spelled x.0) ++ x.1) begun
          ∙ ap (λ (r : List ℕ). r ++ x.1) (parts_are v.found.0 k.found.0 n.found.0 s.found.0 a.found.0 x.0 l.holds);
      holds = shaped_is v.found.0 n.found.0 s.found.0 a.found.0 k.found.0 x.0 v.holds k.holds n.holds s.holds a.holds l.holds;
      fits = l.fits;
    }

own_carries : (r : RawImage) → IsShaped r → Carries r.version (bases_of r) r.sweep r.name (counts_of r) r
own_carries r is = record {
  version = refl;
  quantum = refl;
  ram = refl;
  size = refl;
  trusted = refl;
  heap = refl;
  sweep = refl;
  name = refl;
  devices = (refl, is.devices.1);
  shared = (refl, is.shared.1);
  sealed = (refl, is.sealed.1);
  compartments = (refl, is.compartments.1);
  libraries = (refl, is.libraries.1);
  threads = (refl, is.threads.1);
}

magic_is : IsField 4 magic
magic_is = record { size = refl; each = (omega arith, (omega arith, (omega arith, (omega arith, tt)))) }

image_again : (r : RawImage) (rest : List ℕ) → IsShaped r → image_at (spelled r ++ rest) ≡ Some (r, rest)
unfolding image_at
image_again r rest is =
    let r6 = lists_spelled r ++ rest in
    let r5 = r.name ++ r6 in
    let r4 = rate_spelled r.version r.sweep ++ r5 in
    let r3 = bases_spelled (bases_of r) ++ r4 in
    let r2 = counts_spelled (counts_of r) ++ r3 in
    let r1 = number r.version ++ r2 in
    let grouped : image_parts magic r.version (counts_of r) (bases_of r) r.sweep r.name r ++ rest ≡ magic ++ r1 =
    seven_in_turn magic (number r.version) (counts_spelled (counts_of r)) (bases_spelled (bases_of r)) (rate_spelled r.version r.sweep) r.name (lists_spelled r) rest in
    let regrouped : spelled r ++ rest ≡ magic ++ r1 = ap (λ (b : List ℕ). b ++ rest) (sym (flat_parts r)) ∙ grouped in
    let counts : AreCounts (counts_of r) = record { devices = is.devices.0; shared = is.shared.0; sealed = is.sealed.0; compartments = is.compartments.0; libraries = is.libraries.0; threads = is.threads.0 } in
    let bases : AreBases (bases_of r) = record { quantum = is.quantum; ram = is.ram; size = is.size; trusted = is.trusted; heap = is.heap } in
    let rate : IsRate r.version r.sweep = record { small = is.sweep; first = is.rate } in
    ap image_at regrouped ∙ on (field_exact 4) magic r1 _ magic_is ∙ on number_exact r.version r2 _ is.version ∙ on counts_exact (counts_of r) r3 _ counts
    ∙ on bases_exact (bases_of r) r4 _ bases ∙ on (sweep_exact r.version) r.sweep r5 _ rate ∙ on (field_exact NAME) r.name r6 _ is.name
    ∙ ap (λ b. cond b (lists_at r.version (bases_of r) r.sweep r.name (counts_of r) r6) None) (own_bytes magic)
    ∙ lists_again r.version (bases_of r) r.sweep r.name (counts_of r) r rest (own_carries r is)

-- ---- all of the bytes

abbrev the_image : RawImage → Option RawImage
the_image r = Some r

image_is : (x y : RawImage) → the_image x ≡ the_image y → x ≡ y
image_is x y e = cc

pub all_take : (bytes : List ℕ) (r : RawImage) → IsBytes bytes → all_of bytes ≡ Some r → Spells r bytes
unfolding all_of
all_take bytes r fits e =
    let a = bind_some (image_at bytes) (λ x. cond (nat_eq (length x.1) 0) (Some x.0) None) r e in
    let g = chosen_some (nat_eq (length a.0.1) 0) (Some a.0.0) r a.2 in
    let t : Took IsShaped spelled bytes a.0 = image_takes bytes a.0 fits a.1 in
    let nothing : a.0.1 ≡ [] = nil_from_length a.0.1 (eqb-true _ _ g.0) in
    let whole : bytes ≡ spelled a.0.0 = t.parts ∙ ap (λ (b : List ℕ). spelled a.0.0 ++ b) nothing ∙ append-nil (spelled a.0.0) in
    subst (λ (q : RawImage). Spells q bytes) (image_is a.0.0 r g.1) (t.holds, whole)

pub all_again : (bytes : List ℕ) (r : RawImage) → Spells r bytes → all_of bytes ≡ Some r
unfolding all_of
all_again bytes r is =
    let found : image_at bytes ≡ Some (r, []) = ap image_at (is.1 ∙ sym (append-nil (spelled r))) ∙ image_again r [] is.0 in
    rw found refl
