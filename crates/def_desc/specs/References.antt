-- F7, F8 and F9: what imports and threads name, rights, services.
use Rattle.std.specs.Prelude.{nat_le, false, ℕ, List, ◌∷◌, ◌++◌, map, Bool, true, Option, Some, None}
use Rattle.std.specs.Prelude.{codes}
use Rattle.std.specs.List.{flat_map}
use Rattle.serde_json.specs.Data.{Data}
use Rattle.def_texts.specs.Names.{among}
use Rattle.def_image.specs.Profile.{last_service}
use Rattle.def_desc.specs.declared.faults.PartWord.{PartWord}
use Rattle.def_desc.specs.declared.faults.PartWord.TheVariants as part
use Rattle.def_desc.specs.declared.tables.Form.{Form}
use Rattle.def_desc.specs.declared.tables.Form.TheVariants as form
use Rattle.def_desc.specs.Members.{text_at, text_or, list_at}
use Rattle.def_desc.specs.Tables.{device_rights, shared_rights, service_of}
use Rattle.def_desc.specs.Rows.{Target, ImportRow}
use Rattle.def_desc.specs.Walk.{Spot}

-- ---- what an import names

abbrev pub target : Form → List ℕ → Target
target form name = record { form = form; name = name }

abbrev pub target_or : Form → Option (List ℕ) → Option Target → Option Target
target_or form (Some name) rest = Some (target form name)
target_or form None rest = rest

-- by the first of its members that is there; a well-formed import has one
abbrev pub target_of : ImportRow → Option Target
target_of x =
    target_or form.Device x.device (target_or form.Shared x.shared (target_or form.Sealed x.sealed
    (target_or form.Call x.call
    (target_or form.Service x.service (target_or form.Library x.library None)))))

abbrev pub import_of : Data → ImportRow
import_of d = record {
  alias = text_or (codes "as") d;
  device = text_at (codes "device") d;
  rights = text_at (codes "rights") d;
  shared = text_at (codes "shared") d;
  sealed = text_at (codes "sealed") d;
  call = text_at (codes "call") d;
  service = text_at (codes "service") d;
  library = text_at (codes "library") d;
}

-- ---- F7: a reference to nothing

-- the names of the elements of a list of the description
abbrev pub names_at : List ℕ → Data → List (List ℕ)
names_at key d = map (text_or (codes "name")) (list_at key d)

-- `owner.export`
abbrev pub export_name : List ℕ → List ℕ → List ℕ
export_name owner name = owner ++ 46 ∷ name

-- the exports of an owner, each as `owner.export`
abbrev pub exports_in : Data → List (List ℕ)
exports_in c = map (export_name (text_or (codes "name") c)) (names_at (codes "exports") c)

abbrev pub exports_at : List ℕ → Data → List (List ℕ)
exports_at key d = flat_map exports_in (list_at key d)

-- whether a text names something of the description, by what it is to name
abbrev pub resolves : Data → Form → List ℕ → Bool
resolves d form.Device name = among name (names_at (codes "devices") d)
resolves d form.Shared name = among name (names_at (codes "shared") d)
resolves d form.Sealed name = among name (names_at (codes "sealed") d)
resolves d form.Call name = among name (exports_at (codes "compartments") d)
resolves d form.Service name = true
resolves d form.Library name = among name (exports_at (codes "libraries") d)

abbrev pub target_resolves : Data → Option Target → Bool
target_resolves d None = true
target_resolves d (Some t) = resolves d t.form t.name

abbrev pub refers : Data → PartWord → Data → Bool
refers d part.Import x = target_resolves d (target_of (import_of x))
refers d part.Limport x = resolves d form.Library (text_or (codes "library") x)
refers d part.Thread x = resolves d form.Call (text_or (codes "entry") x)
refers d _ x = true

abbrev pub refers_at : Data → Spot → Bool
refers_at d s = refers d s.place.part s.value

-- ---- F8: rights that aren't listed for the kind

abbrev pub rights_fit : Form → List ℕ → Bool
rights_fit form.Device rights = among rights device_rights
rights_fit form.Shared rights = among rights shared_rights
rights_fit _ rights = true

abbrev pub target_fits : Option Target → List ℕ → Bool
target_fits None rights = true
target_fits (Some t) rights = rights_fit t.form rights

abbrev pub rights_fit_in : PartWord → Data → Bool
rights_fit_in part.Import x = target_fits (target_of (import_of x)) (text_or (codes "rights") x)
rights_fit_in _ x = true

abbrev pub rights_fit_at : Spot → Bool
rights_fit_at s = rights_fit_in s.place.part s.value

-- ---- F9: a service that isn't listed

-- a service that is listed, of those that are taken
abbrev pub is_service_taken : Option ℕ → Bool
is_service_taken None = false
is_service_taken (Some n) = nat_le n last_service

abbrev pub is_served : Form → List ℕ → Bool
is_served form.Service name = is_service_taken (service_of name)
is_served _ name = true

abbrev pub target_is_served : Option Target → Bool
target_is_served None = true
target_is_served (Some t) = is_served t.form t.name

abbrev pub is_served_in : PartWord → Data → Bool
is_served_in part.Import x = target_is_served (target_of (import_of x))
is_served_in _ x = true

abbrev pub is_served_at : Spot → Bool
is_served_at s = is_served_in s.place.part s.value
