-- A generated firmware has no fault.
use Rattle.std.proofs.Common.{ℕ, ◌≡◌, ◌+◌, ◌%◌, ◌<◌, ◌≤◌, Bool, true, false, List, [], ◌∷◌, ◌++◌, length, map, codes, None, refl, ap, ◌∙◌, arith}
use Rattle.std.specs.Prelude.{nat_le}
use Rattle.std.specs.List.{list_all, range_with_len}
use Rattle.std.proofs.lemmas.Bool.{and_from, le-leb, eqb-false}
use Rattle.std.proofs.lemmas.List.FromFn.{length-map-range_with_len}
use Rattle.std.specs.Int.{is_in_range}
use Rattle.serde_json.specs.Data.{Data}
use Rattle.serde_json.specs.View.{items_of}
use Rattle.def_profile.specs.declared.limits.TheConstants.{MOST_BYTES}
use Rattle.def_desc.specs.declared.faults.PartWord.TheVariants as part
use Rattle.def_desc.specs.Members.{list_of}
use Rattle.def_desc.specs.Reading.{description_of}
use Rattle.def_desc.specs.Tables.{members_of, outer_lists, inner_lists, device_kind_named}
use Rattle.def_desc.specs.Walk.{Spot, spot, place, each_from, spots_of}
use Rattle.def_desc.specs.Kinds.{has_kinds, has_only}
use Rattle.def_desc.specs.Names.{is_well_named, no_names, first_twice}
use Rattle.def_desc.specs.Limits.{keeps_limits}
use Rattle.def_desc.specs.References.{refers_at, rights_fit_at, is_served_at}
use Rattle.def_desc.specs.Addresses.{address_fault}
use Rattle.def_desc.specs.WellFormed.{first_failing, first_fault, fault_of}
use Rattle.def_gen.specs.Numbers.{count_of, chosen, globals_of, passes_data, is_last}
use Rattle.def_gen.specs.Description.{name_of_compartment, firmware_over, array_data, ram, port, thread_json, compartments, firmware}
use Rattle.law_gen.proofs.Lists.{list_items, both, none_fails, none_or, all_own}
use Rattle.law_gen.proofs.Named.{names_formed, files_fit}
use Rattle.law_gen.proofs.Owned.{one, own_kinds, own_only, own_named, own_limits, own_refers, own_rights, own_served, entry_there}
use Rattle.law_gen.proofs.Twice.{owners_twice, threads_twice}

-- ---- the walk

abbrev head_spots : Data → List Spot
head_spots d =
    spot (place part.Firmware 0 0) d d ∷ spot (place part.Ram 0 0) d ram ∷ spot (place part.Device 0 0) d port ∷ []

abbrev thread_spots : Data → ℕ → List Spot
thread_spots d count =
    spot (place part.Thread 0 0) d (thread_json count (codes "a")) ∷ spot (place part.Thread 1 0) d (thread_json count (codes "b")) ∷ []

walked : (count : ℕ) (cs : List Data) → spots_of (firmware_over count (array_data cs))
    ≡ head_spots (firmware_over count (array_data cs)) ++ (each_from part.Compartment (firmware_over count (array_data cs)) 0 cs ++ thread_spots (firmware_over count (array_data cs)) count)
unfolding spots_of outer_lists inner_lists
walked count cs =
    let d : Data = firmware_over count (array_data cs) in
    ap (λ (l : List Data). head_spots d ++ (each_from part.Compartment d 0 l ++ thread_spots d count)) (list_items cs)

spread : (test : Spot → Bool) (count : ℕ) (cs : List Data)
    → list_all test (head_spots (firmware_over count (array_data cs))) ≡ true
    → list_all test (each_from part.Compartment (firmware_over count (array_data cs)) 0 cs) ≡ true
    → list_all test (thread_spots (firmware_over count (array_data cs)) count) ≡ true
    → first_failing test (spots_of (firmware_over count (array_data cs))) ≡ None
spread test count cs h k t =
    let d : Data = firmware_over count (array_data cs) in
    ap (first_failing test) (walked count cs)
    ∙ none_fails test (head_spots d ++ (each_from part.Compartment d 0 cs ++ thread_spots d count))
    (both test (head_spots d) (each_from part.Compartment d 0 cs ++ thread_spots d count) h
    (both test (each_from part.Compartment d 0 cs) (thread_spots d count) k t))

-- ---- the firmware, RAM, the port and the threads

head_kinds : (count : ℕ) (cs : List Data) → list_all has_kinds (head_spots (firmware_over count (array_data cs))) ≡ true
unfolding members_of device_kind_named
head_kinds count cs = refl

thread_kinds : (count : ℕ) (d : Data) → list_all has_kinds (thread_spots d count) ≡ true
unfolding members_of
thread_kinds count d = refl

head_only : (count : ℕ) (cs : List Data) → list_all has_only (head_spots (firmware_over count (array_data cs))) ≡ true
unfolding members_of
head_only count cs = refl

thread_only : (count : ℕ) (d : Data) → list_all has_only (thread_spots d count) ≡ true
unfolding members_of
thread_only count d = refl

head_limits : (count : ℕ) (cs : List Data) → nat_le (length (list_of (items_of cs))) 64 ≡ true → list_all keeps_limits (head_spots (firmware_over count (array_data cs))) ≡ true
unfolding members_of
head_limits count cs h = rw h refl

thread_limits : (count : ℕ) (d : Data) → is_in_range 1 96 (count + 1) ≡ true → list_all keeps_limits (thread_spots d count) ≡ true
unfolding members_of
thread_limits count d h = rw h refl

-- ---- the tests, of compartments by what each of them has

record Fits (count : ℕ) (globals : ℕ → ℕ) : Type 0 where
  least : 2 ≤ count
  most : count ≤ 64
  small : (i : ℕ) → is_in_range 0 MOST_BYTES (globals i) ≡ true

abbrev over : ℕ → (ℕ → Bool) → (ℕ → ℕ) → Data
over count passes globals = firmware_over count (array_data (map (one (is_last count) passes globals) (range_with_len 0 count)))

not_last : (count i : ℕ) → i < count → is_last count i ≡ false → i + 1 < count
not_last count i lt e = let ne : i + 1 ≡ count → ⊥ = eqb-false (i + 1) count e in grind arith

kinds : (count : ℕ) (passes : ℕ → Bool) (globals : ℕ → ℕ) → first_failing has_kinds (spots_of (over count passes globals)) ≡ None
kinds count passes globals =
    let cs : List Data = map (one (is_last count) passes globals) (range_with_len 0 count) in
    spread has_kinds count cs (head_kinds count cs)
    (all_own has_kinds (firmware_over count (array_data cs)) (one (is_last count) passes globals) count (λ i lt. own_kinds (firmware_over count (array_data cs)) (is_last count i) (passes i) (globals i) i) 0 count (omega arith))
    (thread_kinds count (firmware_over count (array_data cs)))

only : (count : ℕ) (passes : ℕ → Bool) (globals : ℕ → ℕ) → first_failing has_only (spots_of (over count passes globals)) ≡ None
only count passes globals =
    let cs : List Data = map (one (is_last count) passes globals) (range_with_len 0 count) in
    spread has_only count cs (head_only count cs)
    (all_own has_only (firmware_over count (array_data cs)) (one (is_last count) passes globals) count (λ i lt. own_only (firmware_over count (array_data cs)) (is_last count i) (passes i) (globals i) i) 0 count (omega arith))
    (thread_only count (firmware_over count (array_data cs)))

named : (count : ℕ) (passes : ℕ → Bool) (globals : ℕ → ℕ) → Fits count globals → first_failing is_well_named (spots_of (over count passes globals)) ≡ None
named count passes globals fits =
    let cs : List Data = map (one (is_last count) passes globals) (range_with_len 0 count) in
    let most : count ≤ 64 = fits.most in
    spread is_well_named count cs refl
    (all_own is_well_named (firmware_over count (array_data cs)) (one (is_last count) passes globals) count (λ i lt. own_named (firmware_over count (array_data cs)) (is_last count i) (passes i) (globals i) i (names_formed i (omega arith))) 0 count (omega arith))
    refl

limits : (count : ℕ) (passes : ℕ → Bool) (globals : ℕ → ℕ) → Fits count globals → first_failing keeps_limits (spots_of (over count passes globals)) ≡ None
limits count passes globals fits =
    let cs : List Data = map (one (is_last count) passes globals) (range_with_len 0 count) in
    let most : count ≤ 64 = fits.most in
    let few : nat_le (length (list_of (items_of cs))) 64 ≡ true =
    ap (λ (l : List Data). nat_le (length l) 64) (list_items cs)
    ∙ ap (λ n. nat_le n 64) (length-map-range_with_len (one (is_last count) passes globals) 0 count)
    ∙ le-leb count 64 most in
    let frames : is_in_range 1 96 (count + 1) ≡ true = and_from (nat_le 1 (count + 1)) (nat_le (count + 1) 96) (le-leb 1 (count + 1) (omega arith)) (le-leb (count + 1) 96 (omega arith)) in
    spread keeps_limits count cs (head_limits count cs few)
    (all_own keeps_limits (firmware_over count (array_data cs)) (one (is_last count) passes globals) count (λ i lt. own_limits (firmware_over count (array_data cs)) (is_last count i) (passes i) (globals i) i (files_fit i (omega arith)) (fits.small i)) 0 count (omega arith))
    (thread_limits count (firmware_over count (array_data cs)) frames)

refer : (count : ℕ) (passes : ℕ → Bool) (globals : ℕ → ℕ) → Fits count globals → first_failing (refers_at (over count passes globals)) (spots_of (over count passes globals)) ≡ None
refer count passes globals fits =
    let cs : List Data = map (one (is_last count) passes globals) (range_with_len 0 count) in
    let least : 2 ≤ count = fits.least in
    let first = entry_there (is_last count) passes globals count 0 (omega arith) in
    spread (refers_at (firmware_over count (array_data cs))) count cs refl
    (all_own (refers_at (firmware_over count (array_data cs))) (firmware_over count (array_data cs)) (one (is_last count) passes globals) count
    (λ i lt. own_refers count (array_data cs) (is_last count i) (passes i) (globals i) i (λ e. entry_there (is_last count) passes globals count (i + 1) (not_last count i lt e))) 0 count (omega arith))
    (and_from _ _ first (and_from _ _ first refl))

rights : (count : ℕ) (passes : ℕ → Bool) (globals : ℕ → ℕ) → first_failing rights_fit_at (spots_of (over count passes globals)) ≡ None
rights count passes globals =
    let cs : List Data = map (one (is_last count) passes globals) (range_with_len 0 count) in
    spread rights_fit_at count cs refl
    (all_own rights_fit_at (firmware_over count (array_data cs)) (one (is_last count) passes globals) count (λ i lt. own_rights (firmware_over count (array_data cs)) (is_last count i) (passes i) (globals i) i) 0 count (omega arith))
    refl

served : (count : ℕ) (passes : ℕ → Bool) (globals : ℕ → ℕ) → first_failing is_served_at (spots_of (over count passes globals)) ≡ None
served count passes globals =
    let cs : List Data = map (one (is_last count) passes globals) (range_with_len 0 count) in
    spread is_served_at count cs refl
    (all_own is_served_at (firmware_over count (array_data cs)) (one (is_last count) passes globals) count (λ i lt. own_served (firmware_over count (array_data cs)) (is_last count i) (passes i) (globals i) i) 0 count (omega arith))
    refl

twice : (count : ℕ) (passes : ℕ → Bool) (globals : ℕ → ℕ) → Fits count globals → first_twice no_names (spots_of (over count passes globals)) ≡ None
twice count passes globals fits =
    let cs : List Data = map (one (is_last count) passes globals) (range_with_len 0 count) in
    let d : Data = firmware_over count (array_data cs) in
    let most : count ≤ 64 = fits.most in
    ap (first_twice no_names) (walked count cs)
    ∙ owners_twice d (is_last count) passes globals 0 count (record no_names { devices = codes "uart0" ∷ [] }) (thread_spots d count) (omega arith) refl
    (λ now e. threads_twice d count now (e ∙ ap (λ n. map name_of_compartment (range_with_len 0 n)) (omega arith)))

addresses : (count : ℕ) (owners : Data) → address_fault (description_of (firmware_over count owners)) ≡ None
unfolding device_kind_named
addresses count owners = refl

-- ---- the whole

none : (d : Data) → first_failing has_kinds (spots_of d) ≡ None → first_failing has_only (spots_of d) ≡ None → first_failing is_well_named (spots_of d) ≡ None
    → first_twice no_names (spots_of d) ≡ None → first_failing keeps_limits (spots_of d) ≡ None → first_failing (refers_at d) (spots_of d) ≡ None
    → first_failing rights_fit_at (spots_of d) ≡ None → first_failing is_served_at (spots_of d) ≡ None → address_fault (description_of d) ≡ None
    → fault_of d ≡ None
unfolding first_fault
none d h2 h3 h4 h5 h6 h7 h8 h9 h10 =
    none_or 2 _ _ h2 (none_or 3 _ _ h3 (none_or 4 _ _ h4 (none_or 5 _ _ h5 (none_or 6 _ _ h6 (none_or 7 _ _ h7 (none_or 8 _ _ h8 (none_or 9 _ _ h9 (none_or 10 _ _ h10 refl))))))))

faultless_over : (count : ℕ) (passes : ℕ → Bool) (globals : ℕ → ℕ) → Fits count globals → fault_of (over count passes globals) ≡ None
faultless_over count passes globals fits =
    none (over count passes globals) (kinds count passes globals) (only count passes globals) (named count passes globals fits) (twice count passes globals fits)
    (limits count passes globals fits) (refer count passes globals fits) (rights count passes globals) (served count passes globals)
    (addresses count (array_data (map (one (is_last count) passes globals) (range_with_len 0 count))))

globals_small : (y : ℕ) → is_in_range 0 MOST_BYTES (globals_of y) ≡ true
globals_small y =
    let rest : y % 64 < 64 = omega arith in
    and_from (nat_le 0 (globals_of y)) (nat_le (globals_of y) MOST_BYTES) (le-leb 0 (globals_of y) (omega arith)) (le-leb (globals_of y) MOST_BYTES (omega arith))

fits : (seed : ℕ) → Fits (count_of seed) (λ i. globals_of (chosen seed i))
fits seed =
    let rest : seed % 63 < 63 = omega arith in
    record { least = omega arith; most = omega arith; small = λ i. globals_small (chosen seed i) }

pub faultless : (seed : ℕ) → fault_of (firmware seed) ≡ None
unfolding firmware compartments
faultless seed = faultless_over (count_of seed) (λ i. passes_data (chosen seed i)) (λ i. globals_of (chosen seed i)) (fits seed)
