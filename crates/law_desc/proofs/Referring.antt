-- F7, F8 and F9: what is named is there.
use Rattle.std.proofs.Common.{ℕ, ◌≡◌, ◌+◌, ◌≤◌, ◌==◌, Bool, true, false, cond, List, [], ◌∷◌, map, Option, Some, None, refl, sym, ap, subst, arith}
use Rattle.std.specs.Prelude.{codes, bytes_eq, option_and_then, is_some, unwrap_or}
use Rattle.std.specs.List.{AllByRecursion}
use Rattle.std.proofs.lemmas.Bool.{leb-true}
use Rattle.std.proofs.lemmas.Simd.{map-map}
use Rattle.serde_json.specs.Data.{Data}
use Rattle.serde_json.specs.Find.{as_str}
use Rattle.ct_entry.specs.Listed.{DeviceRow}
use Rattle.ct_entry.specs.declared.rows.Mode.{Mode}
use Rattle.ct_entry.specs.declared.rows.Mode.TheVariants.{Inherit, Enabled, Disabled}
use Rattle.def_texts.specs.Names.{among}
use Rattle.def_image.specs.Profile.{last_service}
use Rattle.def_desc.specs.declared.tables.Form.{Form}
use Rattle.def_desc.specs.declared.tables.Form.TheVariants as form
use Rattle.def_desc.specs.declared.tables.Shape.TheVariants as shape
use Rattle.def_desc.specs.declared.tables.TheConstants.{SERVICES, POSTURES}
use Rattle.def_desc.specs.Members.{text_or, list_at, says}
use Rattle.def_desc.specs.Tables.{row, service_of, posture_of}
use Rattle.def_desc.specs.Kinds.{is_kind_there}
use Rattle.def_desc.specs.Reading.{device_of, shared_of, sealed_of, compartment_of_object, export_of, library_of, lexport_of, description_of}
use Rattle.def_desc.specs.References.{target, target_or, names_at, export_name, exports_in, exports_at, resolves, is_service_taken, is_served}
use Rattle.def_desc.specs.Rows.{Target, DescShared, DescSealed}
use Rattle.def_desc.specs.Named.{device_names, shared_names, sealed_names}
use Rattle.def_desc.specs.Lawful.{Has, IsCallImport, IsLent, IsServed, Resolves}
use Rattle.law_desc.proofs.Lists.{has_mapped, among_maps, among_flat}

-- ---- tables

says_all : {R A : Type 0} (P : A → Type 0) (text : R → List ℕ) (value : R → A) (name : List ℕ) (rows : List R) (v : A)
    → AllByRecursion (λ r. P (value r)) rows → says text value name rows ≡ Some v → P v
says_all P text value name [] v h e = absurd (let no : None ≡ Some v = e in cc)
says_all P text value name (r ∷ rs) v h e = by (bytes_eq name (text r)) e (λ k. says_all P text value name rs v h.1 k)
  where
    by : (b : Bool) → cond b (Some (value r)) (says text value name rs) ≡ Some v → (says text value name rs ≡ Some v → P v) → P v
    by true k rest = let same : value r ≡ v = cc in subst P same h.0
    by false k rest = rest k

-- the first routine that a slot may name is `yield`
service_least : (name : List ℕ) (n : ℕ) → service_of name ≡ Some n → 2 ≤ n
unfolding service_of
service_least name n e = says_all (λ k. 2 ≤ k) (λ r. r.0.now) (λ r. r.1) name SERVICES n
    (omega arith, (omega arith, (omega arith, (omega arith, (omega arith, (omega arith, (omega arith, (omega arith, (omega arith, (omega arith, (omega arith, tt))))))))))) e

enabled_other : Enabled ≡ Inherit → ⊥
enabled_other e = absurd (let no : Enabled ≡ Inherit = e in cc)

disabled_other : Disabled ≡ Inherit → ⊥
disabled_other e = absurd (let no : Disabled ≡ Inherit = e in cc)

-- an export of a compartment never inherits its posture
pub posture_set : (name : List ℕ) → unwrap_or (posture_of name) Enabled ≡ Inherit → ⊥
unfolding posture_of
posture_set name = by (posture_of name) refl
  where
    by : (o : Option Mode) → posture_of name ≡ o → unwrap_or o Enabled ≡ Inherit → ⊥
    by None is e = enabled_other e
    by (Some m) is e = says_all (λ k. k ≡ Inherit → ⊥) (λ r. r.0.now) (λ r. r.1) name POSTURES m (enabled_other, (disabled_other, tt)) is e

-- ---- references

pub device_there : (d : Data) (name : List ℕ) → among name (names_at (codes "devices") d) ≡ true → Has (device_names (description_of d)) name
device_there d name e =
    let xs = list_at (codes "devices") d in
    let h = among_maps (text_or (codes "name")) name xs e in
    subst (Has (device_names (description_of d))) (sym h.gives) (has_mapped (λ (x : DeviceRow). x.name) (map device_of xs) (device_of h.from) (has_mapped device_of xs h.from h.listed))

pub shared_there : (d : Data) (name : List ℕ) → among name (names_at (codes "shared") d) ≡ true → Has (shared_names (description_of d)) name
shared_there d name e =
    let xs = list_at (codes "shared") d in
    let h = among_maps (text_or (codes "name")) name xs e in
    subst (Has (shared_names (description_of d))) (sym h.gives) (has_mapped (λ (x : DescShared). x.name) (map shared_of xs) (shared_of h.from) (has_mapped shared_of xs h.from h.listed))

pub sealed_there : (d : Data) (name : List ℕ) → among name (names_at (codes "sealed") d) ≡ true → Has (sealed_names (description_of d)) name
sealed_there d name e =
    let xs = list_at (codes "sealed") d in
    let h = among_maps (text_or (codes "name")) name xs e in
    subst (Has (sealed_names (description_of d))) (sym h.gives) (has_mapped (λ (x : DescSealed). x.name) (map sealed_of xs) (sealed_of h.from) (has_mapped sealed_of xs h.from h.listed))

full_name : Data → Data → List ℕ
full_name owner x = export_name (text_or (codes "name") owner) (text_or (codes "name") x)

exports_are : (owner : Data) → exports_in owner ≡ map (full_name owner) (list_at (codes "exports") owner)
unfolding full_name
exports_are owner = map-map (export_name (text_or (codes "name") owner)) (text_or (codes "name")) (list_at (codes "exports") owner)

pub call_there : (d : Data) (name : List ℕ) → among name (exports_at (codes "compartments") d) ≡ true → IsCallImport (description_of d) name
unfolding full_name
call_there d name e =
    let cs = list_at (codes "compartments") d in
    let h = among_flat exports_in name cs e in
    let es = list_at (codes "exports") h.from in
    let k = among_maps (full_name h.from) name es (subst (λ l. among name l ≡ true) (exports_are h.from) h.among_it) in
    record {
      owner = compartment_of_object h.from;
      gate = export_of k.from;
      listed = has_mapped compartment_of_object cs h.from h.listed;
      exported = has_mapped export_of es k.from k.listed;
      spelled = k.gives;
    }

pub lent_there : (d : Data) (name : List ℕ) → among name (exports_at (codes "libraries") d) ≡ true → IsLent (description_of d) name
unfolding full_name
lent_there d name e =
    let cs = list_at (codes "libraries") d in
    let h = among_flat exports_in name cs e in
    let es = list_at (codes "exports") h.from in
    let k = among_maps (full_name h.from) name es (subst (λ l. among name l ≡ true) (exports_are h.from) h.among_it) in
    record {
      owner = library_of h.from;
      gate = lexport_of k.from;
      listed = has_mapped library_of cs h.from h.listed;
      exported = has_mapped lexport_of es k.from k.listed;
      spelled = k.gives;
    }

pub served_there : (name : List ℕ) → is_service_taken (service_of name) ≡ true → IsServed name
served_there name e = by (service_of name) refl e
  where
    by : (o : Option ℕ) → service_of name ≡ o → is_service_taken o ≡ true → IsServed name
    by None is h = absurd (let no : false ≡ true = h in cc)
    by (Some n) is h = (n, is, (service_least name n is, leb-true n last_service h))

pub resolved : (d : Data) (f : Form) (name : List ℕ) → resolves d f name ≡ true → is_served f name ≡ true → Resolves (description_of d) f name
resolved d form.Device name e s = device_there d name e
resolved d form.Shared name e s = shared_there d name e
resolved d form.Sealed name e s = sealed_there d name e
resolved d form.Call name e s = call_there d name e
resolved d form.Service name e s = served_there name s
resolved d form.Library name e s = lent_there d name e

-- ---- an import names something

pub record Targeted (o : Option Target) : Type 0 where
  pub target : Target
  pub named : o ≡ Some target

text_there : (o : Option (List ℕ)) → is_some o ≡ true → (t : List ℕ) × (o ≡ Some t)
text_there None e = absurd (let no : false ≡ true = e in cc)
text_there (Some t) e = (t, refl)

-- a member that is there is what the import names, where none before it is
taken : (f : Form) (o : Option (List ℕ)) (rest : Option Target) → is_some o ≡ true → Targeted (target_or f o rest)
taken f o rest there =
    let t = text_there o there in
    record { target = target f t.0; named = ap (λ z. target_or f z rest) t.1 }

-- one of these is there
pub counted : (device shared sealed call service library : Option Data)
    → is_kind_there (row (codes "device") shape.Text false) device ≡ true
    → is_kind_there (row (codes "shared") shape.Text false) shared ≡ true
    → is_kind_there (row (codes "sealed") shape.Text false) sealed ≡ true
    → is_kind_there (row (codes "call") shape.Text false) call ≡ true
    → is_kind_there (row (codes "service") shape.Text false) service ≡ true
    → is_kind_there (row (codes "library") shape.Text false) library ≡ true
    → (0 + cond (is_some device) 1 0 + cond (is_some shared) 1 0 + cond (is_some sealed) 1 0 + cond (is_some call) 1 0 + cond (is_some service) 1 0 + cond (is_some library) 1 0 == 1) ≡ true
    → Targeted (target_or form.Device (option_and_then as_str device) (target_or form.Shared (option_and_then as_str shared)
    (target_or form.Sealed (option_and_then as_str sealed) (target_or form.Call (option_and_then as_str call)
    (target_or form.Service (option_and_then as_str service) (target_or form.Library (option_and_then as_str library) None))))))
counted (Some v) b c d e f ka kb kc kd ke kf one = taken form.Device (as_str v) (target_or form.Shared (option_and_then as_str b)
    (target_or form.Sealed (option_and_then as_str c) (target_or form.Call (option_and_then as_str d)
    (target_or form.Service (option_and_then as_str e) (target_or form.Library (option_and_then as_str f) None))))) ka
counted None (Some v) c d e f ka kb kc kd ke kf one = taken form.Shared (as_str v)
    (target_or form.Sealed (option_and_then as_str c) (target_or form.Call (option_and_then as_str d)
    (target_or form.Service (option_and_then as_str e) (target_or form.Library (option_and_then as_str f) None)))) kb
counted None None (Some v) d e f ka kb kc kd ke kf one = taken form.Sealed (as_str v) (target_or form.Call (option_and_then as_str d)
    (target_or form.Service (option_and_then as_str e) (target_or form.Library (option_and_then as_str f) None))) kc
counted None None None (Some v) e f ka kb kc kd ke kf one = taken form.Call (as_str v)
    (target_or form.Service (option_and_then as_str e) (target_or form.Library (option_and_then as_str f) None)) kd
counted None None None None (Some v) f ka kb kc kd ke kf one = taken form.Service (as_str v) (target_or form.Library (option_and_then as_str f) None) ke
counted None None None None None (Some v) ka kb kc kd ke kf one = taken form.Library (as_str v) None kf
counted None None None None None None ka kb kc kd ke kf one = absurd (let no : false ≡ true = one in cc)
