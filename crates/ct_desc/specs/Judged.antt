-- The faults of a value in the three steps in which the code judges them: what needs the places
-- alone, what needs the names of the description too, and what needs its rows.
use Rattle.std.specs.Prelude.{Bool, Option, None, List}
use Rattle.std.specs.Option.{option_or}
use Rattle.serde_json.specs.Data.{Data}
use Rattle.def_desc.specs.declared.faults.Fault.{Fault}
use Rattle.def_desc.specs.Rows.{DescRow}
use Rattle.def_desc.specs.Walk.{Spot, spots_of}
use Rattle.def_desc.specs.Kinds.{has_kinds, has_only}
use Rattle.def_desc.specs.Names.{is_well_named, no_names, first_twice}
use Rattle.def_desc.specs.Limits.{keeps_limits}
use Rattle.def_desc.specs.References.{refers_at, rights_fit_at, is_served_at}
use Rattle.def_desc.specs.Addresses.{address_fault}
use Rattle.def_desc.specs.WellFormed.{first_failing, fault_or}
use Rattle.ct_desc.specs.declared.firsts.Firsts.{Firsts}
use Rattle.ct_desc.specs.declared.rules.Rule.{Rule}
use Rattle.ct_desc.specs.declared.rules.Rule.TheVariants as rule

-- the test that each rule makes at a place
abbrev pub test_of : Rule → Spot → Bool
test_of rule.Rights = rights_fit_at
test_of rule.Services = is_served_at

-- the least fault of the places that were judged and of those that follow, by the rules from one on
unfoldable pub after_limits : Firsts → List Spot → Option Fault
after_limits f ss = fault_or 6 (option_or f.limits (first_failing keeps_limits ss)) None

unfoldable pub after_twice : Firsts → List Spot → Option Fault
after_twice f ss = fault_or 5 (option_or f.twice (first_twice f.spaces ss)) (after_limits f ss)

unfoldable pub after_names : Firsts → List Spot → Option Fault
after_names f ss = fault_or 4 (option_or f.names (first_failing is_well_named ss)) (after_twice f ss)

unfoldable pub after_members : Firsts → List Spot → Option Fault
after_members f ss = fault_or 3 (option_or f.members (first_failing has_only ss)) (after_names f ss)

unfoldable pub after_kinds : Firsts → List Spot → Option Fault
after_kinds f ss = fault_or 2 (option_or f.kinds (first_failing has_kinds ss)) (after_members f ss)

unfoldable pub place_faults : List Spot → Option Fault
place_faults ss =
    fault_or 2 (first_failing has_kinds ss)
    (fault_or 3 (first_failing has_only ss)
    (fault_or 4 (first_failing is_well_named ss)
    (fault_or 5 (first_twice no_names ss)
    (fault_or 6 (first_failing keeps_limits ss) None))))

unfoldable pub name_faults : Data → List Spot → Option Fault
name_faults d ss =
    fault_or 7 (first_failing (refers_at d) ss)
    (fault_or 8 (first_failing rights_fit_at ss)
    (fault_or 9 (first_failing is_served_at ss) None))

abbrev pub value_faults : Data → Option Fault
value_faults d = option_or (place_faults (spots_of d)) (name_faults d (spots_of d))

abbrev pub row_faults : DescRow → Option Fault
row_faults rows = fault_or 10 (address_fault rows) None
