-- Tests of an entry's kind and of an owner's sort.
use Rattle.std.specs.Prelude.{Bool, true, false}
use Rattle.ct_entry.specs.declared.rows.Kind.{Kind}
use Rattle.ct_entry.specs.declared.rows.Kind.TheVariants as kind
use Rattle.ct_entry.specs.declared.rows.Owner.{Owner}
use Rattle.ct_entry.specs.declared.rows.Owner.TheVariants.{Compartment, Library}

abbrev pub is_device : Kind → Bool
is_device kind.Device = true
is_device _ = false

abbrev pub is_shared : Kind → Bool
is_shared kind.Shared = true
is_shared _ = false

abbrev pub is_call : Kind → Bool
is_call kind.Call = true
is_call _ = false

abbrev pub is_library_slot : Kind → Bool
is_library_slot kind.Library = true
is_library_slot _ = false

abbrev pub is_service : Kind → Bool
is_service kind.Service = true
is_service _ = false

abbrev pub is_quota : Kind → Bool
is_quota kind.Quota = true
is_quota _ = false

abbrev pub is_export : Kind → Bool
is_export kind.Export = true
is_export _ = false

abbrev pub is_compartment : Owner → Bool
is_compartment (Compartment b) = true
is_compartment _ = false

abbrev pub is_library : Owner → Bool
is_library (Library l) = true
is_library _ = false
