-- What a rule keeps to some owners, and which imports are of it.
use Rattle.std.specs.Prelude.{Bool}
use Rattle.ct_entry.specs.declared.rows.Kind.{Kind}
use Rattle.ct_entry.specs.declared.rows.Kind.TheVariants as kind
use Rattle.ct_entry.specs.Kinds.{is_device, is_shared, is_call, is_service}
use Rattle.def_policy.specs.declared.Resource.{Resource}
use Rattle.def_policy.specs.declared.Resource.TheVariants.{Device, Shared, Service, Call}

-- the kind of its imports' entries
abbrev pub kind_of : Resource → Kind
kind_of Device = kind.Device
kind_of Shared = kind.Shared
kind_of Service = kind.Service
kind_of Call = kind.Call

-- whether an entry's kind is that of its imports
abbrev pub imports : Resource → Kind → Bool
imports Device k = is_device k
imports Shared k = is_shared k
imports Service k = is_service k
imports Call k = is_call k
