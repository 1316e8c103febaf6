-- What a rule means in an image: its names by what they stand for.
use Rattle.std.specs.Prelude.{ℕ, List, [], Option, Some, None, option_map}
use Rattle.ct_entry.specs.declared.rows.Owner.{Owner}
use Rattle.def_desc.specs.Tables.{service_of}
use Rattle.def_image.specs.Parts.{PartsRow}
use Rattle.def_policy.specs.declared.Subject.{Subject}
use Rattle.def_policy.specs.declared.Subject.TheVariants as subject
use Rattle.def_policy.specs.declared.Resource.{Resource}
use Rattle.def_policy.specs.declared.Resource.TheVariants as resource
use Rattle.def_policy.specs.Rules.{ResourceName, Device, Shared, Service, Call, Rule, Only, Disabled, Data, Total, Quota, Apart}
use Rattle.def_policy.specs.Names.{compartment_named, owner_named, owners_named, device_named, shared_named, export_named}

-- what a rule is about, and the owners that it lists
pub record Ruling : Type 0 where
  pub subject : Subject
  pub owners : List Owner

abbrev pub ruling : Subject → List Owner → Ruling
ruling s owners = record { subject = s; owners = owners }

-- ---- resources

abbrev pub resource_of : ResourceName → Resource
resource_of (Device name) = resource.Device
resource_of (Shared name) = resource.Shared
resource_of (Service name) = resource.Service
resource_of (Call compartment export) = resource.Call

-- its number, by what its name stands for
abbrev pub resource_named : PartsRow → ResourceName → Option ℕ
resource_named p (Device name) = device_named p name
resource_named p (Shared name) = shared_named p name
resource_named p (Service name) = service_of name
resource_named p (Call compartment export) = export_named p compartment export

-- ---- rules

-- both of them, or nothing
abbrev pub only : Option Subject → Option (List Owner) → Option Ruling
only None owners = None
only (Some s) owners = option_map (ruling s) owners

abbrev pub alone : Option Subject → Option Ruling
alone s = only s (Some [])

abbrev pub apart : Option Owner → Option ℕ → Option Subject
apart None b = None
apart (Some o) b = option_map (λ b. subject.Apart o b) b

-- nothing where a name stands for nothing
unfoldable pub meant : PartsRow → Rule → Option Ruling
meant p (Only name owners) =
    only (option_map (λ n. subject.Only (resource_of name) n) (resource_named p name))
    (owners_named p owners)
meant p (Disabled owners) = only (Some subject.Disabled) (owners_named p owners)
meant p (Data compartment export) =
    alone (option_map (λ n. subject.Data n) (export_named p compartment export))
meant p (Total n) = alone (Some (subject.Total n))
meant p (Quota owner n) = alone (option_map (λ o. subject.Quota o n) (owner_named p owner))
meant p (Apart owner compartment) =
    alone (apart (owner_named p owner) (compartment_named p compartment))
