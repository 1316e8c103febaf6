-- An entry as a JSON object. Members stand in the order of their names' bytes.
use Rattle.std.specs.Prelude.{ℕ, ◌+◌, Bool, List, [], ◌∷◌, ◌++◌, filter, codes, if◌then◌else◌}
use Rattle.serde_json.specs.Data.{Data, Members, number, unsigned, string, object, no_members, member}
use Rattle.ct_entry.specs.declared.rows.Entry.{Entry}
use Rattle.ct_entry.specs.declared.rows.Kind.{Kind}
use Rattle.ct_entry.specs.declared.rows.Kind.TheVariants.{Code, Globals, Stack, Device, Shared, Sealed, Call, Library, Service, Quota, Key, Export}
use Rattle.ct_entry.specs.declared.rows.Owner.{Owner}
use Rattle.ct_entry.specs.declared.rows.Owner.TheVariants as owner
use Rattle.ct_entry.specs.declared.rows.Mode.{Mode}
use Rattle.ct_entry.specs.declared.rows.Mode.TheVariants as mode
use Rattle.def_texts.specs.Names.{among}
use Rattle.def_report.specs.Labels.{Label}
use Rattle.def_report.specs.Rights.{rights_text}

abbrev pub num : ℕ → Data
num n = number (unsigned n)

-- an entry with its number and its label
pub record Line : Type 0 where
  pub number : ℕ
  pub entry : Entry
  pub label : Label

abbrev pub posture_text : Mode → List ℕ
posture_text mode.Inherit = codes "inherit"
posture_text mode.Disabled = codes "disabled"
posture_text mode.Enabled = codes "enabled"

abbrev pub passes_text : Bool → List ℕ
passes_text capabilities = if capabilities then codes "capabilities" else codes "data"

-- the word of an entry's kind, and the names of the members that it has besides `every_entry`'s
abbrev pub entry_form : Owner → Kind → List ℕ × List (List ℕ)
entry_form o Code = (codes "code", [])
entry_form o Globals = (codes "globals", [])
entry_form o Stack = (codes "stack", [])
entry_form o Device = (codes "device", codes "name" ∷ codes "of" ∷ [])
entry_form o Shared = (codes "shared", codes "name" ∷ codes "of" ∷ [])
entry_form o Sealed = (codes "sealed", codes "name" ∷ codes "of" ∷ codes "type" ∷ [])
entry_form o Call = (codes "call", codes "name" ∷ codes "of" ∷ [])
entry_form o Library = (codes "library", codes "name" ∷ codes "of" ∷ [])
entry_form o Service = (codes "service", codes "name" ∷ codes "of" ∷ [])
entry_form o Quota = (codes "quota", codes "limit" ∷ codes "name" ∷ [])
entry_form o Key = (codes "key", codes "name" ∷ [])
entry_form (owner.Library n) Export = (codes "export", codes "name" ∷ codes "posture" ∷ [])
entry_form o Export = (
  codes "export",
  codes "args" ∷ codes "name" ∷ codes "passes" ∷ codes "posture" ∷ codes "stack" ∷ [],
)

abbrev pub every_entry : List (List ℕ)
every_entry =
    codes "base" ∷ codes "kind" ∷ codes "length" ∷ codes "number" ∷ codes "owner" ∷ codes "rights" ∷ []

-- each member that an entry may have, with its value; `of` is what a slot is of, `type` a sealed object's
abbrev pub all_members : List ℕ → Line → List (List ℕ × Data)
all_members kind l =
    (codes "args", num l.label.export.args)
    ∷ (codes "base", num l.entry.base)
    ∷ (codes "kind", string kind)
    ∷ (codes "length", num l.entry.length)
    ∷ (codes "limit", num l.entry.limit)
    ∷ (codes "name", string l.label.name)
    ∷ (codes "number", num l.number)
    ∷ (codes "of", string l.label.of)
    ∷ (codes "owner", string l.label.owner)
    ∷ (codes "passes", string (passes_text l.label.export.capabilities))
    ∷ (codes "posture", string (posture_text l.label.export.posture))
    ∷ (codes "rights", string (rights_text l.entry.rights))
    ∷ (codes "stack", num l.label.export.stack)
    ∷ (codes "type", num l.label.seal)
    ∷ []

abbrev pub members_from : List (List ℕ × Data) → Members
members_from [] = no_members
members_from (m ∷ ms) = member m.0 m.1 (members_from ms)

-- of all members those whose names the form has
unfoldable pub data_of : List ℕ × List (List ℕ) → Line → Data
data_of form l =
    object (members_from (filter (λ m. among m.0 (every_entry ++ form.1)) (all_members form.0 l)))

abbrev pub line_data : Line → Data
line_data l = data_of (entry_form l.entry.owner l.entry.kind) l

-- the entries and their labels, numbered from n
abbrev pub numbered_entries : ℕ → List Entry → List Label → List Data
numbered_entries n [] ls = []
numbered_entries n (r ∷ rs) [] = []
numbered_entries n (r ∷ rs) (l ∷ ls) =
    line_data (record { number = n; entry = r; label = l }) ∷ numbered_entries (n + 1) rs ls
