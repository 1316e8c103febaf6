-- F4 and F5: each name of a space has the form of one, and stands there once.
use Rattle.std.proofs.Common.{ℕ, ◌≡◌, ◌+◌, Bool, true, false, List, [], ◌∷◌, ◌++◌, map, None, refl, sym, ap, ◌∙◌, subst, append_assoc, append-nil, arith, inl, inr}
use Rattle.std.specs.Prelude.{codes}
use Rattle.std.specs.List.{AllByRecursion}
use Rattle.std.specs.Fmt.{digits}
use Rattle.std.proofs.lemmas.Simd.{map-map}
use Rattle.serde_json.specs.Data.{Data}
use Rattle.ct_entry.specs.Listed.{DeviceRow}
use Rattle.law_lists.proofs.Alls.{all_joined, all_mapped, all_so}
use Rattle.law_lists.proofs.Tests.{le_tells}
use Rattle.def_texts.specs.Names.{is_name}
use Rattle.def_image.specs.Sound.{IsWithin}
use Rattle.def_desc.specs.declared.faults.PartWord.{PartWord}
use Rattle.def_desc.specs.declared.faults.PartWord.TheVariants as part
use Rattle.def_desc.specs.Members.{text_or, list_at}
use Rattle.def_desc.specs.Tables.{Inner, outer_lists, inner_lists}
use Rattle.def_desc.specs.Walk.{Spot, items_from, inside, spots_of}
use Rattle.def_desc.specs.Names.{key_name, part_name, Spaces, no_names, with_part_name, first_twice}
use Rattle.def_desc.specs.Limits.{number_or_zero}
use Rattle.def_desc.specs.References.{import_of}
use Rattle.def_desc.specs.Reading.{device_of, shared_of, sealed_of, compartment_of_object, quota_of, export_of, library_of, limport_of, lexport_of, thread_of, description_of}
use Rattle.def_desc.specs.Rows.{DescShared, DescSealed, ImportRow, QuotaRow, ExportRow, DescCompartment, LimportRow, LexportRow, LibraryRow, DescThread}
use Rattle.def_desc.specs.Named.{device_names, shared_names, sealed_names, owner_names, slot_names, export_names, library_slot_names, library_export_names}
use Rattle.def_desc.specs.Lawful.{AreNames}
use Rattle.law_desc.proofs.Lists.{Fresh, fresh_once}
use Rattle.law_desc.proofs.Walked.{Good, At, In, Walked, InCompartment, InLibrary}
use Rattle.law_desc.proofs.Spaces.{Kept, IsSpace, AreOthers, Segment, fresh_in, taken_by, inside_taken, whole_taken}

-- ---- the spaces

any_part : PartWord → Bool
any_part p = true

all_any : (ss : List Spot) → AllByRecursion (λ s. any_part s.place.part ≡ true) ss
unfolding any_part
all_any [] = tt
all_any (s ∷ ss) = (refl, all_any ss)

is_device : PartWord → Bool
is_device part.Device = true
is_device _ = false

is_shared : PartWord → Bool
is_shared part.Shared = true
is_shared _ = false

is_sealed : PartWord → Bool
is_sealed part.Sealed = true
is_sealed _ = false

is_owner : PartWord → Bool
is_owner part.Compartment = true
is_owner part.Library = true
is_owner part.Thread = true
is_owner _ = false

is_slot : PartWord → Bool
is_slot part.Import = true
is_slot part.Quota = true
is_slot part.Key = true
is_slot part.Limport = true
is_slot _ = false

is_gate : PartWord → Bool
is_gate part.Export = true
is_gate part.Lexport = true
is_gate _ = false

-- what stands inside a compartment or library
is_inner : PartWord → Bool
is_inner part.Import = true
is_inner part.Quota = true
is_inner part.Key = true
is_inner part.Export = true
is_inner part.Limport = true
is_inner part.Lexport = true
is_inner _ = false

devices_space : IsSpace (λ (m : Spaces). m.devices) is_device any_part
unfolding is_device any_part Kept
devices_space part.Device = λ n m. (refl, refl)
devices_space _ = λ n m. refl

shared_space : IsSpace (λ (m : Spaces). m.shared) is_shared any_part
unfolding is_shared any_part Kept
shared_space part.Shared = λ n m. (refl, refl)
shared_space _ = λ n m. refl

sealed_space : IsSpace (λ (m : Spaces). m.sealed) is_sealed any_part
unfolding is_sealed any_part Kept
sealed_space part.Sealed = λ n m. (refl, refl)
sealed_space _ = λ n m. refl

owners_space : IsSpace (λ (m : Spaces). m.owners) is_owner any_part
unfolding is_owner any_part Kept
owners_space part.Compartment = λ n m. (refl, refl)
owners_space part.Library = λ n m. (refl, refl)
owners_space part.Thread = λ n m. (refl, refl)
owners_space _ = λ n m. refl

slots_space : IsSpace (λ (m : Spaces). m.slots) is_slot is_inner
unfolding is_slot is_inner Kept
slots_space part.Import = λ n m. (refl, refl)
slots_space part.Quota = λ n m. (refl, refl)
slots_space part.Key = λ n m. (refl, refl)
slots_space part.Limport = λ n m. (refl, refl)
slots_space part.Export = λ n m. refl
slots_space part.Lexport = λ n m. refl
slots_space _ = tt

gates_space : IsSpace (λ (m : Spaces). m.exports) is_gate is_inner
unfolding is_gate is_inner Kept
gates_space part.Export = λ n m. (refl, refl)
gates_space part.Lexport = λ n m. (refl, refl)
gates_space part.Import = λ n m. refl
gates_space part.Quota = λ n m. refl
gates_space part.Key = λ n m. refl
gates_space part.Limport = λ n m. refl
gates_space _ = tt

-- ---- names of the description

-- names that are fresh, and have the form
named_by : (names : List (List ℕ)) → Fresh [] names → AllByRecursion (λ n. is_name n ≡ true) names → AreNames names
named_by names fresh formed = record { formed = formed; once = fresh_once [] names fresh }

formed_of : (P : Data → Type 0) (f : Data → List ℕ) (xs : List Data) → ((x : Data) → P x → is_name (f x) ≡ true)
    → AllByRecursion P xs → AllByRecursion (λ n. is_name n ≡ true) (map f xs)
formed_of P f xs so h = all_mapped (λ n. is_name n ≡ true) f xs (all_so P (λ x. is_name (f x) ≡ true) xs so h)

pub record OuterNames (d : Data) : Type 0 where
  pub devices : AreNames (device_names (description_of d))
  pub shared : AreNames (shared_names (description_of d))
  pub sealed : AreNames (sealed_names (description_of d))
  pub owners : AreNames (owner_names (description_of d))

outer_fresh : (space : Spaces → List (List ℕ)) (mine : PartWord → Bool) → IsSpace space mine any_part → (d : Data) → mine part.Firmware ≡ false → mine part.Ram ≡ false
    → AllByRecursion (λ (l : Inner). AreOthers mine (inner_lists l.part)) outer_lists → first_twice no_names (spots_of d) ≡ None → Fresh (space no_names) (taken_by mine d outer_lists)
outer_fresh space mine is d none bare h e =
    subst (Fresh (space no_names)) (whole_taken mine d none bare h) (fresh_in space mine any_part is no_names (spots_of d) (all_any (spots_of d)) e)

devices_fresh : (d : Data) → first_twice no_names (spots_of d) ≡ None → Fresh [] (map (text_or (codes "name")) (list_at (codes "devices") d))
unfolding is_device AreOthers outer_lists inner_lists
devices_fresh d e = subst (Fresh []) (append-nil (map (part_name part.Device) (list_at (codes "devices") d)))
    (outer_fresh (λ (m : Spaces). m.devices) is_device devices_space d refl refl (tt, (tt, (tt, ((refl, (refl, (refl, (refl, tt)))), ((refl, (refl, tt)), (tt, tt)))))) e)

shared_fresh : (d : Data) → first_twice no_names (spots_of d) ≡ None → Fresh [] (map (text_or (codes "name")) (list_at (codes "shared") d))
unfolding is_shared AreOthers outer_lists inner_lists
shared_fresh d e = subst (Fresh []) (append-nil (map (part_name part.Shared) (list_at (codes "shared") d)))
    (outer_fresh (λ (m : Spaces). m.shared) is_shared shared_space d refl refl (tt, (tt, (tt, ((refl, (refl, (refl, (refl, tt)))), ((refl, (refl, tt)), (tt, tt)))))) e)

sealed_fresh : (d : Data) → first_twice no_names (spots_of d) ≡ None → Fresh [] (map (text_or (codes "name")) (list_at (codes "sealed") d))
unfolding is_sealed AreOthers outer_lists inner_lists
sealed_fresh d e = subst (Fresh []) (append-nil (map (part_name part.Sealed) (list_at (codes "sealed") d)))
    (outer_fresh (λ (m : Spaces). m.sealed) is_sealed sealed_space d refl refl (tt, (tt, (tt, ((refl, (refl, (refl, (refl, tt)))), ((refl, (refl, tt)), (tt, tt)))))) e)

owners_fresh : (d : Data) → first_twice no_names (spots_of d) ≡ None → Fresh [] (map (text_or (codes "name")) (list_at (codes "compartments") d)
    ++ map (text_or (codes "name")) (list_at (codes "libraries") d) ++ map (text_or (codes "name")) (list_at (codes "threads") d))
unfolding is_owner AreOthers outer_lists inner_lists
owners_fresh d e =
    let c = map (part_name part.Compartment) (list_at (codes "compartments") d) in
    let l = map (part_name part.Library) (list_at (codes "libraries") d) in
    let t = map (part_name part.Thread) (list_at (codes "threads") d) in
    subst (Fresh []) (ap (λ z. c ++ (l ++ z)) (append-nil t) ∙ sym (append_assoc c l t))
    (outer_fresh (λ (m : Spaces). m.owners) is_owner owners_space d refl refl (tt, (tt, (tt, ((refl, (refl, (refl, (refl, tt)))), ((refl, (refl, tt)), (tt, tt)))))) e)

names_so : {A : Type 0} (name : A → List ℕ) (read : Data → A) (xs : List Data) → AreNames (map (λ x. name (read x)) xs) → AreNames (map name (map read xs))
names_so name read xs h = subst AreNames (sym (map-map name read xs)) h

pub outer_names : (d : Data) → Walked (Good d) d → first_twice no_names (spots_of d) ≡ None → OuterNames d
outer_names d w e =
    let name = text_or (codes "name") in
    let c = list_at (codes "compartments") d in
    let l = list_at (codes "libraries") d in
    let t = list_at (codes "threads") d in
    record {
      devices = names_so (λ (x : DeviceRow). x.name) device_of (list_at (codes "devices") d)
          (named_by (map name (list_at (codes "devices") d)) (devices_fresh d e) (formed_of (At (Good d) part.Device d) name (list_at (codes "devices") d) (λ x h. h.itself.named) w.devices));
      shared = names_so (λ (x : DescShared). x.name) shared_of (list_at (codes "shared") d)
          (named_by (map name (list_at (codes "shared") d)) (shared_fresh d e) (formed_of (At (Good d) part.Shared d) name (list_at (codes "shared") d) (λ x h. h.itself.named) w.shared));
      sealed = names_so (λ (x : DescSealed). x.name) sealed_of (list_at (codes "sealed") d)
          (named_by (map name (list_at (codes "sealed") d)) (sealed_fresh d e) (formed_of (At (Good d) part.Sealed d) name (list_at (codes "sealed") d) (λ x h. h.itself.named) w.sealed));
      owners = rw (map-map (λ (x : DescCompartment). x.name) compartment_of_object c, map-map (λ (x : LibraryRow). x.name) library_of l, map-map (λ (x : DescThread). x.name) thread_of t)
          (named_by (map name c ++ map name l ++ map name t) (owners_fresh d e)
          (all_joined (λ n. is_name n ≡ true) (map name c ++ map name l) (map name t)
          (all_joined (λ n. is_name n ≡ true) (map name c) (map name l)
          (formed_of (At (Good d) part.Compartment d) name c (λ x h. h.itself.named) w.compartments)
          (formed_of (At (Good d) part.Library d) name l (λ x h. h.itself.named) w.libraries))
          (formed_of (At (Good d) part.Thread d) name t (λ x h. h.itself.named) w.threads)));
    }

-- ---- names of one owner

inner_items : (part : PartWord) (owner : Data) (i j : ℕ) (xs : List Data) → is_inner part ≡ true → AllByRecursion (λ s. is_inner s.place.part ≡ true) (items_from part owner i j xs)
inner_items part owner i j [] e = tt
inner_items part owner i j (x ∷ xs) e = (e, inner_items part owner i (j + 1) xs e)

inner_all : (owner : Data) (i : ℕ) (lists : List Inner) → AllByRecursion (λ (l : Inner). is_inner l.part ≡ true) lists
    → AllByRecursion (λ s. is_inner s.place.part ≡ true) (inside owner i lists)
inner_all owner i [] h = tt
inner_all owner i (l ∷ ls) h =
    all_joined (λ s. is_inner s.place.part ≡ true) (items_from l.part owner i 0 (list_at l.key owner)) (inside owner i ls)
    (inner_items l.part owner i 0 (list_at l.key owner) h.0) (inner_all owner i ls h.1)

-- names of one space inside an owner
inner_fresh : (space : Spaces → List (List ℕ)) (mine : PartWord → Bool) → IsSpace space mine is_inner → (part : PartWord) (x : Data) → (s : Segment part x)
    → AllByRecursion (λ (l : Inner). is_inner l.part ≡ true) (inner_lists part) → Fresh (space (with_part_name part (part_name part x) s.before)) (taken_by mine x (inner_lists part))
inner_fresh space mine is part x s h =
    let m = with_part_name part (part_name part x) s.before in
    subst (Fresh (space m)) (inside_taken mine x s.index (inner_lists part))
    (fresh_in space mine is_inner is m (inside x s.index (inner_lists part)) (inner_all x s.index (inner_lists part) h) s.once)

slots_fresh : (x : Data) → Segment part.Compartment x → Fresh [] (codes "switch" ∷ map (text_or (codes "as")) (list_at (codes "imports") x)
    ++ map (text_or (codes "name")) (list_at (codes "quotas") x) ++ map (λ k. key_name (number_or_zero k)) (list_at (codes "keys") x))
unfolding is_slot is_inner inner_lists Fresh
slots_fresh x s =
    let a = map (part_name part.Import) (list_at (codes "imports") x) in
    let b = map (part_name part.Quota) (list_at (codes "quotas") x) in
    let c = map (part_name part.Key) (list_at (codes "keys") x) in (
      refl,
      subst (Fresh (codes "switch" ∷ [])) (ap (λ z. a ++ (b ++ z)) (append-nil c) ∙ sym (append_assoc a b c))
          (inner_fresh (λ (m : Spaces). m.slots) is_slot slots_space part.Compartment x s (refl, (refl, (refl, (refl, tt))))),
    )

gates_fresh : (x : Data) → Segment part.Compartment x → Fresh [] (map (text_or (codes "name")) (list_at (codes "exports") x))
unfolding is_gate is_inner inner_lists
gates_fresh x s = subst (Fresh []) (append-nil (map (part_name part.Export) (list_at (codes "exports") x)))
    (inner_fresh (λ (m : Spaces). m.exports) is_gate gates_space part.Compartment x s (refl, (refl, (refl, (refl, tt)))))

library_slots_fresh : (x : Data) → Segment part.Library x → Fresh [] (map (text_or (codes "as")) (list_at (codes "imports") x))
unfolding is_slot is_inner inner_lists
library_slots_fresh x s = subst (Fresh []) (append-nil (map (part_name part.Limport) (list_at (codes "imports") x)))
    (inner_fresh (λ (m : Spaces). m.slots) is_slot slots_space part.Library x s (refl, (refl, tt)))

library_gates_fresh : (x : Data) → Segment part.Library x → Fresh [] (map (text_or (codes "name")) (list_at (codes "exports") x))
unfolding is_gate is_inner inner_lists
library_gates_fresh x s = subst (Fresh []) (append-nil (map (part_name part.Lexport) (list_at (codes "exports") x)))
    (inner_fresh (λ (m : Spaces). m.exports) is_gate gates_space part.Library x s (refl, (refl, tt)))

-- a key's name has the form of one
key_formed : (n : ℕ) → IsWithin 13 15 n → is_name (key_name n) ≡ true
unfolding digits
key_formed n w = elim (le_tells n 13) [
  | inl h ↦ (let le = h.1 in let low = w.0 in let is : 13 ≡ n = omega (arith, le, low) in subst (λ k. is_name (key_name k) ≡ true) is refl)
  | inr h ↦ elim (le_tells n 14) [
    | inl k ↦ (let le = k.1 in let low = h.1 in let is : 14 ≡ n = omega (arith, le, low) in subst (λ k. is_name (key_name k) ≡ true) is refl)
    | inr k ↦ (let low = k.1 in let top = w.1 in let is : 15 ≡ n = omega (arith, low, top) in subst (λ k. is_name (key_name k) ≡ true) is refl)
  ]
]

pub slots_named : (d x : Data) (i : ℕ) → Segment part.Compartment x → InCompartment (Good d) x i → AllByRecursion (λ k. IsWithin 13 15 (number_or_zero k)) (list_at (codes "keys") x)
    → AreNames (slot_names (compartment_of_object x))
slots_named d x i s h keys =
    let a = list_at (codes "imports") x in
    let b = list_at (codes "quotas") x in
    let c = list_at (codes "keys") x in
    let an = map (text_or (codes "as")) a in
    let bn = map (text_or (codes "name")) b in
    let cn = map (λ k. key_name (number_or_zero k)) c in
    rw (map-map (λ (r : ImportRow). r.alias) import_of a, map-map (λ (r : QuotaRow). r.name) quota_of b, map-map key_name number_or_zero c)
    (named_by (codes "switch" ∷ an ++ bn ++ cn) (slots_fresh x s) (
      refl,
      all_joined (λ n. is_name n ≡ true) (an ++ bn) cn
          (all_joined (λ n. is_name n ≡ true) an bn
          (formed_of (In (Good d) part.Import x i) (text_or (codes "as")) a (λ y g. g.itself.named) h.imports)
          (formed_of (In (Good d) part.Quota x i) (text_or (codes "name")) b (λ y g. g.itself.named) h.quotas))
          (all_mapped (λ n. is_name n ≡ true) (λ k. key_name (number_or_zero k)) c
          (all_so (λ k. IsWithin 13 15 (number_or_zero k)) (λ k. is_name (key_name (number_or_zero k)) ≡ true) c (λ k w. key_formed (number_or_zero k) w) keys)),
    ))

pub gates_named : (d x : Data) (i : ℕ) → Segment part.Compartment x → InCompartment (Good d) x i → AreNames (export_names (compartment_of_object x))
gates_named d x i s h =
    let es = list_at (codes "exports") x in
    names_so (λ (r : ExportRow). r.name) export_of es
    (named_by (map (text_or (codes "name")) es) (gates_fresh x s) (formed_of (In (Good d) part.Export x i) (text_or (codes "name")) es (λ y g. g.itself.named) h.exports))

pub library_slots_named : (d x : Data) (i : ℕ) → Segment part.Library x → InLibrary (Good d) x i → AreNames (library_slot_names (library_of x))
library_slots_named d x i s h =
    let a = list_at (codes "imports") x in
    names_so (λ (r : LimportRow). r.alias) limport_of a
    (named_by (map (text_or (codes "as")) a) (library_slots_fresh x s) (formed_of (In (Good d) part.Limport x i) (text_or (codes "as")) a (λ y g. g.itself.named) h.imports))

pub library_gates_named : (d x : Data) (i : ℕ) → Segment part.Library x → InLibrary (Good d) x i → AreNames (library_export_names (library_of x))
library_gates_named d x i s h =
    let es = list_at (codes "exports") x in
    names_so (λ (r : LexportRow). r.name) lexport_of es
    (named_by (map (text_or (codes "name")) es) (library_gates_fresh x s) (formed_of (In (Good d) part.Lexport x i) (text_or (codes "name")) es (λ y g. g.itself.named) h.exports))
