use Rattle.std.proofs.Common.{refl, inl}
use Rattle.def_desc.specs.WellFormed.{first_fault}
use Rattle.def_desc.specs.Walk.{spots_of}
use Rattle.def_desc.specs.Tables.{members_of, outer_lists, inner_lists, device_kind_named, posture_of, library_posture_of, passes_of, service_of, form_names, righted_names, code_names, device_rights, shared_rights}
use Rattle.std.specs.Fmt.{digits}
use Rattle.json.specs.Lex.{lex, punctuate}
use Rattle.json.specs.Json.{items, members, value}
use Rattle.law_desc.proofs.samples.samples_are_judged.Goals as goal

pub returns-clause-well_formed : goal.returns-clause-well_formed
unfolding first_fault spots_of members_of outer_lists inner_lists device_kind_named posture_of library_posture_of passes_of service_of form_names righted_names code_names device_rights shared_rights
returns-clause-well_formed c = refl

pub returns-clause-empty : goal.returns-clause-empty
unfolding first_fault spots_of members_of outer_lists inner_lists device_kind_named posture_of library_posture_of passes_of service_of form_names righted_names code_names device_rights shared_rights
returns-clause-empty c = refl

pub returns-clause-no_device : goal.returns-clause-no_device
unfolding first_fault spots_of members_of outer_lists inner_lists device_kind_named posture_of library_posture_of passes_of service_of form_names righted_names code_names device_rights shared_rights
returns-clause-no_device c = refl

pub returns-clause-sweep : goal.returns-clause-sweep
unfolding first_fault spots_of members_of outer_lists inner_lists device_kind_named posture_of library_posture_of passes_of service_of form_names righted_names code_names device_rights shared_rights
returns-clause-sweep c = refl

pub returns-clause-at : goal.returns-clause-at
unfolding first_fault spots_of members_of outer_lists inner_lists device_kind_named posture_of library_posture_of passes_of service_of form_names righted_names code_names device_rights shared_rights
returns-clause-at c = refl

pub returns-clause-keys : goal.returns-clause-keys
unfolding first_fault spots_of members_of outer_lists inner_lists device_kind_named posture_of library_posture_of passes_of service_of form_names righted_names code_names device_rights shared_rights digits
returns-clause-keys c = refl

pub returns-clause-no_text : goal.returns-clause-no_text
unfolding lex punctuate items members value
returns-clause-no_text c = inl (refl, λ utf8. refl)

pub returns-clause-unlisted : goal.returns-clause-unlisted
unfolding first_fault spots_of members_of outer_lists inner_lists device_kind_named posture_of library_posture_of passes_of service_of form_names righted_names code_names device_rights shared_rights
returns-clause-unlisted c = refl

pub returns-clause-beside_code : goal.returns-clause-beside_code
unfolding first_fault spots_of members_of outer_lists inner_lists device_kind_named posture_of library_posture_of passes_of service_of form_names righted_names code_names device_rights shared_rights
returns-clause-beside_code c = refl

pub returns-clause-rights_beside_a_service : goal.returns-clause-rights_beside_a_service
unfolding first_fault spots_of members_of outer_lists inner_lists device_kind_named posture_of library_posture_of passes_of service_of form_names righted_names code_names device_rights shared_rights
returns-clause-rights_beside_a_service c = refl

pub returns-clause-capital : goal.returns-clause-capital
unfolding first_fault spots_of members_of outer_lists inner_lists device_kind_named posture_of library_posture_of passes_of service_of form_names righted_names code_names device_rights shared_rights
returns-clause-capital c = refl

pub returns-clause-thread_as_compartment : goal.returns-clause-thread_as_compartment
unfolding first_fault spots_of members_of outer_lists inner_lists device_kind_named posture_of library_posture_of passes_of service_of form_names righted_names code_names device_rights shared_rights
returns-clause-thread_as_compartment c = refl

pub returns-clause-switch : goal.returns-clause-switch
unfolding first_fault spots_of members_of outer_lists inner_lists device_kind_named posture_of library_posture_of passes_of service_of form_names righted_names code_names device_rights shared_rights
returns-clause-switch c = refl

pub returns-clause-rights : goal.returns-clause-rights
unfolding first_fault spots_of members_of outer_lists inner_lists device_kind_named posture_of library_posture_of passes_of service_of form_names righted_names code_names device_rights shared_rights
returns-clause-rights c = refl

pub returns-clause-service : goal.returns-clause-service
unfolding first_fault spots_of members_of outer_lists inner_lists device_kind_named posture_of library_posture_of passes_of service_of form_names righted_names code_names device_rights shared_rights
returns-clause-service c = refl

pub returns-clause-odd_device : goal.returns-clause-odd_device
unfolding first_fault spots_of members_of outer_lists inner_lists device_kind_named posture_of library_posture_of passes_of service_of form_names righted_names code_names device_rights shared_rights
returns-clause-odd_device c = refl

pub returns-clause-two_devices : goal.returns-clause-two_devices
unfolding first_fault spots_of members_of outer_lists inner_lists device_kind_named posture_of library_posture_of passes_of service_of form_names righted_names code_names device_rights shared_rights
returns-clause-two_devices c = refl

pub returns-clause-ram_over_native : goal.returns-clause-ram_over_native
unfolding first_fault spots_of members_of outer_lists inner_lists device_kind_named posture_of library_posture_of passes_of service_of form_names righted_names code_names device_rights shared_rights
returns-clause-ram_over_native c = refl

pub returns-clause-lesser_number : goal.returns-clause-lesser_number
unfolding first_fault spots_of members_of outer_lists inner_lists device_kind_named posture_of library_posture_of passes_of service_of form_names righted_names code_names device_rights shared_rights
returns-clause-lesser_number c = refl

pub returns-clause-board : goal.returns-clause-board
unfolding first_fault spots_of members_of outer_lists inner_lists device_kind_named posture_of library_posture_of passes_of service_of form_names righted_names code_names device_rights shared_rights
returns-clause-board c = refl
