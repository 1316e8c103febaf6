-- The least fault, found in three steps.
use Rattle.std.proofs.Common.{◌≡◌, Option, Some, None, refl}
use Rattle.std.specs.Option.{option_or}
use Rattle.serde_json.specs.Data.{Data}
use Rattle.def_desc.specs.declared.faults.Place.{Place}
use Rattle.def_desc.specs.declared.faults.Fault.{Fault}
use Rattle.def_desc.specs.Kinds.{has_kinds, has_only}
use Rattle.def_desc.specs.Names.{is_well_named, no_names, first_twice}
use Rattle.def_desc.specs.Limits.{keeps_limits}
use Rattle.def_desc.specs.Reading.{description_of}
use Rattle.def_desc.specs.References.{refers_at, rights_fit_at, is_served_at}
use Rattle.def_desc.specs.Walk.{spots_of}
use Rattle.def_desc.specs.WellFormed.{first_failing, first_fault, fault_of, fault_or}
use Rattle.ct_desc.specs.Judged.{place_faults, name_faults, value_faults, row_faults}

in_steps : (a b c d e f g h : Option Place) (rest : Option Fault)
    → fault_or 2 a (fault_or 3 b (fault_or 4 c (fault_or 5 d (fault_or 6 e (fault_or 7 f (fault_or 8 g (fault_or 9 h rest)))))))
    ≡ option_or (option_or (fault_or 2 a (fault_or 3 b (fault_or 4 c (fault_or 5 d (fault_or 6 e None))))) (fault_or 7 f (fault_or 8 g (fault_or 9 h None)))) rest
in_steps (Some p) b c d e f g h rest = refl
in_steps None (Some p) c d e f g h rest = refl
in_steps None None (Some p) d e f g h rest = refl
in_steps None None None (Some p) e f g h rest = refl
in_steps None None None None (Some p) f g h rest = refl
in_steps None None None None None (Some p) g h rest = refl
in_steps None None None None None None (Some p) h rest = refl
in_steps None None None None None None None (Some p) rest = refl
in_steps None None None None None None None None rest = refl

pub fault_in_steps : (d : Data) → fault_of d ≡ option_or (value_faults d) (row_faults (description_of d))
unfolding first_fault place_faults name_faults
fault_in_steps d =
    let ss = spots_of d in
    in_steps (first_failing has_kinds ss) (first_failing has_only ss) (first_failing is_well_named ss) (first_twice no_names ss) (first_failing keeps_limits ss)
    (first_failing (refers_at d) ss) (first_failing rights_fit_at ss) (first_failing is_served_at ss) (row_faults (description_of d))
