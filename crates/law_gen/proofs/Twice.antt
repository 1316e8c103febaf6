-- No name of a generated firmware stands twice.
use Rattle.std.proofs.Common.{ℕ, zero, suc, ◌≡◌, ◌+◌, ◌≤◌, Bool, true, false, List, [], ◌∷◌, ◌++◌, map, codes, None, refl, ap, sym, ◌∙◌, arith, append_assoc}
use Rattle.std.specs.List.{range_with_len}
use Rattle.std.proofs.lemmas.List.FromFn.{map-range_with_len_more}
use Rattle.serde_json.specs.Data.{Data}
use Rattle.def_texts.specs.Names.{among}
use Rattle.def_desc.specs.declared.faults.PartWord.TheVariants as part
use Rattle.def_desc.specs.Tables.{inner_lists}
use Rattle.def_desc.specs.Names.{Spaces, spot_name, name_space, with_part_name, first_twice}
use Rattle.def_desc.specs.Walk.{Spot, spot, place, inside, each_from}
use Rattle.def_gen.specs.Description.{compartment_with, name_of_compartment, thread_json}
use Rattle.law_gen.proofs.Lists.{own_spots}
use Rattle.law_gen.proofs.Named.{new_name, not_first, not_second, not_after, added}
use Rattle.law_gen.proofs.Owned.{one}

pub passes_on : (seen : Spaces) (s : Spot) (ss : List Spot) → among (spot_name s) (name_space s.place.part seen) ≡ false → first_twice seen (s ∷ ss) ≡ first_twice (with_part_name s.place.part (spot_name s) seen) ss
passes_on seen s ss h = rw h refl

abbrev pub slots_of : Bool → List (List ℕ)
slots_of true = codes "switch" ∷ codes "uart" ∷ codes "allocate" ∷ codes "free" ∷ codes "q" ∷ []
slots_of false = codes "switch" ∷ codes "uart" ∷ codes "allocate" ∷ codes "free" ∷ codes "next" ∷ codes "q" ∷ []

-- the names after a compartment
abbrev moved : Spaces → ℕ → Bool → Spaces
moved seen i last = record {
  devices = seen.devices;
  shared = seen.shared;
  sealed = seen.sealed;
  owners = seen.owners ++ name_of_compartment i ∷ [];
  slots = slots_of last;
  exports = codes "go" ∷ [];
}

abbrev begun : Spaces → List (List ℕ) → Spaces
begun seen owners = record {
  devices = seen.devices;
  shared = seen.shared;
  sealed = seen.sealed;
  owners = owners;
  slots = codes "switch" ∷ [];
  exports = [];
}

inside_twice : (seen : Spaces) (owners : List (List ℕ)) (last passes : Bool) (globals i : ℕ) (more : List Spot)
    → first_twice (begun seen owners) (inside (compartment_with last passes globals i) i (inner_lists part.Compartment) ++ more)
    ≡ first_twice (record (begun seen owners) { slots = slots_of last; exports = codes "go" ∷ [] }) more
unfolding inner_lists
inside_twice seen owners true true globals i more = refl
inside_twice seen owners true false globals i more = refl
inside_twice seen owners false true globals i more = refl
inside_twice seen owners false false globals i more = refl

own_twice : (d : Data) (last passes : Bool) (globals i : ℕ) (seen : Spaces) (more : List Spot)
    → among (name_of_compartment i) seen.owners ≡ false
    → first_twice seen (own_spots d i (compartment_with last passes globals i) ++ more) ≡ first_twice (moved seen i last) more
own_twice d last passes globals i seen more h =
    let rest : List Spot = inside (compartment_with last passes globals i) i (inner_lists part.Compartment) ++ more in
    passes_on seen (spot (place part.Compartment i 0) d (compartment_with last passes globals i)) rest h
    ∙ ap (λ (o : List (List ℕ)). first_twice (begun seen o) rest) (added seen.owners (name_of_compartment i) h)
    ∙ inside_twice seen (seen.owners ++ name_of_compartment i ∷ []) last passes globals i more

pub owners_twice : (d : Data) (last passes : ℕ → Bool) (globals : ℕ → ℕ) (a m : ℕ) (seen : Spaces) (more : List Spot)
    → a + m ≤ 64 → seen.owners ≡ map name_of_compartment (range_with_len 0 a)
    → ((now : Spaces) → now.owners ≡ map name_of_compartment (range_with_len 0 (a + m)) → first_twice now more ≡ None)
    → first_twice seen (each_from part.Compartment d a (map (one last passes globals) (range_with_len a m)) ++ more) ≡ None
owners_twice d last passes globals a zero seen more le e k =
    let same : a ≡ a + 0 = omega arith in
    k seen (e ∙ ap (λ n. map name_of_compartment (range_with_len 0 n)) same)
owners_twice d last passes globals a (suc m) seen more le e k =
    let own : List Spot = own_spots d a (one last passes globals a) in
    let rest : List Spot = each_from part.Compartment d (a + 1) (map (one last passes globals) (range_with_len (a + 1) m)) in
    let new : among (name_of_compartment a) seen.owners ≡ false = ap (among (name_of_compartment a)) e ∙ new_name a 0 a (omega arith) (omega arith) in
    let grown : seen.owners ++ name_of_compartment a ∷ [] ≡ map name_of_compartment (range_with_len 0 (a + 1)) =
    ap (λ (o : List (List ℕ)). o ++ name_of_compartment a ∷ []) e ∙ sym (map-range_with_len_more name_of_compartment 0 a a (omega arith)) in
    let same : (a + 1) + m ≡ a + suc m = omega arith in
    ap (first_twice seen) (append_assoc own rest more)
    ∙ own_twice d (last a) (passes a) (globals a) a seen (rest ++ more) new
    ∙ owners_twice d last passes globals (a + 1) m (moved seen a (last a)) more (omega arith) grown
    (λ now f. k now (f ∙ ap (λ n. map name_of_compartment (range_with_len 0 n)) same))

pub threads_twice : (d : Data) (count : ℕ) (now : Spaces) → now.owners ≡ map name_of_compartment (range_with_len 0 count)
    → first_twice now (spot (place part.Thread 0 0) d (thread_json count (codes "a")) ∷ spot (place part.Thread 1 0) d (thread_json count (codes "b")) ∷ []) ≡ None
threads_twice d count now e =
    let first : among (codes "a") now.owners ≡ false = ap (among (codes "a")) e ∙ not_first 0 count in
    let second : among (codes "b") (now.owners ++ codes "a" ∷ []) ≡ false =
    not_after (codes "b") (codes "a") now.owners (ap (among (codes "b")) e ∙ not_second 0 count) refl in
    let last : List Spot = spot (place part.Thread 1 0) d (thread_json count (codes "b")) ∷ [] in
    passes_on now (spot (place part.Thread 0 0) d (thread_json count (codes "a"))) last first
    ∙ ap (λ (o : List (List ℕ)). first_twice (record now { owners = o }) last) (added now.owners (codes "a") first)
    ∙ passes_on (record now { owners = now.owners ++ codes "a" ∷ [] }) (spot (place part.Thread 1 0) d (thread_json count (codes "b"))) [] second
