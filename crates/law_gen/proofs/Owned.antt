-- Each compartment of a generated firmware, with its imports, quota and export, passes the tests of F2 to F4
-- and F6 to F9.
use Rattle.std.proofs.Common.{ℕ, zero, suc, ◌≡◌, ◌+◌, ◌<◌, ◌≤◌, Bool, true, false, List, [], ◌∷◌, ◌++◌, map, codes, Some, refl, ap, sym, ◌∙◌, arith, ◌⊎◌, inl, inr}
use Rattle.std.specs.Str.{bytes_eq}
use Rattle.std.specs.List.{list_all, flat_map, range_with_len}
use Rattle.std.proofs.lemmas.Bool.{and_from, or_left, or_right, cases_eq}
use Rattle.std.proofs.lemmas.Slice.Eq.{bytes_eq-Decides}
use Rattle.std.specs.Int.{is_in_range}
use Rattle.serde_json.specs.Data.{Data}
use Rattle.def_texts.specs.Names.{is_name, among}
use Rattle.def_profile.specs.declared.limits.TheConstants.{MOST_BYTES}
use Rattle.def_desc.specs.declared.faults.PartWord.TheVariants as part
use Rattle.def_desc.specs.Tables.{members_of, inner_lists, device_kind_named, posture_of, passes_of, service_of, form_names, righted_names, code_names, device_rights, shared_rights}
use Rattle.def_desc.specs.Walk.{spot, place, inside}
use Rattle.def_desc.specs.Kinds.{has_kinds, has_only}
use Rattle.def_desc.specs.Names.{is_well_named}
use Rattle.def_desc.specs.Limits.{keeps_limits, keeps_file}
use Rattle.def_desc.specs.References.{refers_at, rights_fit_at, is_served_at, exports_in, exports_at}
use Rattle.def_gen.specs.Description.{compartment_with, name_of_compartment, file_name, name_of_entry, firmware_over, array_data}
use Rattle.law_gen.proofs.Lists.{front, own_spots, list_items}

pub own_kinds : (d : Data) (last passes : Bool) (globals i : ℕ) → list_all has_kinds (own_spots d i (compartment_with last passes globals i)) ≡ true
unfolding members_of inner_lists device_kind_named posture_of passes_of service_of form_names righted_names code_names device_rights shared_rights
own_kinds d true true globals i = refl
own_kinds d true false globals i = refl
own_kinds d false true globals i = refl
own_kinds d false false globals i = refl

pub own_only : (d : Data) (last passes : Bool) (globals i : ℕ) → list_all has_only (own_spots d i (compartment_with last passes globals i)) ≡ true
unfolding members_of inner_lists device_kind_named posture_of passes_of service_of form_names righted_names code_names device_rights shared_rights
own_only d true true globals i = refl
own_only d true false globals i = refl
own_only d false true globals i = refl
own_only d false false globals i = refl

pub own_named : (d : Data) (last passes : Bool) (globals i : ℕ) → is_name (name_of_compartment i) ≡ true → list_all is_well_named (own_spots d i (compartment_with last passes globals i)) ≡ true
unfolding inner_lists
own_named d true true globals i h = and_from (is_name (name_of_compartment i)) true h refl
own_named d true false globals i h = and_from (is_name (name_of_compartment i)) true h refl
own_named d false true globals i h = and_from (is_name (name_of_compartment i)) true h refl
own_named d false false globals i h = and_from (is_name (name_of_compartment i)) true h refl

limits_kept : (d : Data) (last passes : Bool) (globals i : ℕ) → keeps_file (Some (file_name i)) ≡ true → is_in_range 0 MOST_BYTES globals ≡ true → keeps_limits (spot (place part.Compartment i 0) d (compartment_with last passes globals i)) ≡ true
unfolding members_of
limits_kept d true true globals i hf hg = rw (hf, hg) refl
limits_kept d true false globals i hf hg = rw (hf, hg) refl
limits_kept d false true globals i hf hg = rw (hf, hg) refl
limits_kept d false false globals i hf hg = rw (hf, hg) refl

inside_kept : (last passes : Bool) (globals i : ℕ) → list_all keeps_limits (inside (compartment_with last passes globals i) i (inner_lists part.Compartment)) ≡ true
unfolding members_of inner_lists
inside_kept true true globals i = refl
inside_kept true false globals i = refl
inside_kept false true globals i = refl
inside_kept false false globals i = refl

pub own_limits : (d : Data) (last passes : Bool) (globals i : ℕ) → keeps_file (Some (file_name i)) ≡ true → is_in_range 0 MOST_BYTES globals ≡ true → list_all keeps_limits (own_spots d i (compartment_with last passes globals i)) ≡ true
own_limits d last passes globals i hf hg =
    front keeps_limits (spot (place part.Compartment i 0) d (compartment_with last passes globals i)) (inside (compartment_with last passes globals i) i (inner_lists part.Compartment))
    (limits_kept d last passes globals i hf hg) (inside_kept last passes globals i)

pub own_rights : (d : Data) (last passes : Bool) (globals i : ℕ) → list_all rights_fit_at (own_spots d i (compartment_with last passes globals i)) ≡ true
unfolding inner_lists device_rights shared_rights
own_rights d true true globals i = refl
own_rights d true false globals i = refl
own_rights d false true globals i = refl
own_rights d false false globals i = refl

pub own_served : (d : Data) (last passes : Bool) (globals i : ℕ) → list_all is_served_at (own_spots d i (compartment_with last passes globals i)) ≡ true
unfolding inner_lists service_of
own_served d true true globals i = refl
own_served d true false globals i = refl
own_served d false true globals i = refl
own_served d false false globals i = refl

-- ---- the exports that are named

own_exports : (last passes : Bool) (globals i : ℕ) → exports_in (compartment_with last passes globals i) ≡ name_of_entry i ∷ []
own_exports last true globals i = refl
own_exports last false globals i = refl

abbrev pub one : (ℕ → Bool) → (ℕ → Bool) → (ℕ → ℕ) → ℕ → Data
one last passes globals i = compartment_with (last i) (passes i) (globals i) i

-- a name among others, the first of which it is or isn't
first_or_later : (j a : ℕ) (rest : List (List ℕ)) → ((j ≡ a → ⊥) → among (name_of_entry j) rest ≡ true) → (j ≡ a) ⊎ (j ≡ a → ⊥) → among (name_of_entry j) (name_of_entry a ∷ rest) ≡ true
first_or_later j a rest k (inl e) =
    or_left (bytes_eq (name_of_entry j) (name_of_entry a)) (among (name_of_entry j) rest)
    (ap (λ n. bytes_eq (name_of_entry j) (name_of_entry n)) (sym e) ∙ (bytes_eq-Decides (name_of_entry j) (name_of_entry j)).1 refl)
first_or_later j a rest k (inr ne) = or_right (bytes_eq (name_of_entry j) (name_of_entry a)) (among (name_of_entry j) rest) (k ne)

entry_among : (last passes : ℕ → Bool) (globals : ℕ → ℕ) (j a m : ℕ) → a ≤ j → j < a + m → among (name_of_entry j) (flat_map exports_in (map (one last passes globals) (range_with_len a m))) ≡ true
entry_among last passes globals j a zero le lt = absurd (omega arith)
entry_among last passes globals j a (suc m) le lt =
    let rest : List (List ℕ) = flat_map exports_in (map (one last passes globals) (range_with_len (a + 1) m)) in
    ap (λ (l : List (List ℕ)). among (name_of_entry j) (l ++ rest)) (own_exports (last a) (passes a) (globals a) a)
    ∙ first_or_later j a rest (λ ne. entry_among last passes globals j (a + 1) m (grind arith) (omega arith)) (cases_eq j a)

pub entry_there : (last passes : ℕ → Bool) (globals : ℕ → ℕ) (count j : ℕ) → j < count → among (name_of_entry j) (exports_at (codes "compartments") (firmware_over count (array_data (map (one last passes globals) (range_with_len 0 count))))) ≡ true
entry_there last passes globals count j lt =
    ap (λ (l : List Data). among (name_of_entry j) (flat_map exports_in l)) (list_items (map (one last passes globals) (range_with_len 0 count)))
    ∙ entry_among last passes globals j 0 count (omega arith) (omega arith)

pub own_refers : (count : ℕ) (owners : Data) (last passes : Bool) (globals i : ℕ)
    → (last ≡ false → among (name_of_entry (i + 1)) (exports_at (codes "compartments") (firmware_over count owners)) ≡ true)
    → list_all (refers_at (firmware_over count owners)) (own_spots (firmware_over count owners) i (compartment_with last passes globals i)) ≡ true
unfolding inner_lists
own_refers count owners true true globals i h = refl
own_refers count owners true false globals i h = refl
own_refers count owners false true globals i h = and_from (among (name_of_entry (i + 1)) (exports_at (codes "compartments") (firmware_over count owners))) true (h refl) refl
own_refers count owners false false globals i h = and_from (among (name_of_entry (i + 1)) (exports_at (codes "compartments") (firmware_over count owners))) true (h refl) refl
