use Rattle.std.proofs.Common.{refl}
use Rattle.def_words.specs.LeastBounds.{exponent_for}
use Rattle.def_words.specs.Permissions.{bit, set_where, form_of, packed}
use Rattle.def_layout.specs.Placement.{placed, last_end}
use Rattle.def_source.specs.Source.{program_of, line_of, row_line, line_tokens, statement_head, directive_of, register_of, register_at, register_comma, address_at, two_registers, three_registers, two_registers_number, two_registers_target, register_number, register_and_target, register_name, register_address, one_register, one_number, one_target}
use Rattle.def_object.specs.Object.{label_in, fault_in, slot_of, text_of, initial_of}
use Rattle.def_desc.specs.Tables.{device_kind_named, posture_of, library_posture_of, passes_of, service_of, members_of, outer_lists, inner_lists, form_names, righted_names, code_names, device_rights, shared_rights}
use Rattle.def_link.specs.Owners.{all_built}
use Rattle.def_link.specs.Linked.{compartment_parts, library_parts, shared_parts, sealed_parts, thread_parts, parts_of, linked}
use Rattle.def_desc.specs.WellFormed.{first_fault}
use Rattle.def_desc.specs.Walk.{spots_of}
use Rattle.law_desc.specs.Samples.{tiny_of, board}
use Rattle.law_link_samples.specs.Samples.{tiny_app, from_file}
use Rattle.law_desc.proofs.Lawfuls.{value_lawful}
use Rattle.law_link_samples.proofs.samples_link.Goals as goal

pub returns-clause-words : goal.returns-clause-words
unfolding linked all_built parts_of compartment_parts library_parts shared_parts sealed_parts thread_parts placed last_end exponent_for packed set_where bit form_of device_kind_named posture_of library_posture_of passes_of service_of program_of line_of row_line line_tokens statement_head directive_of register_of register_at register_comma address_at two_registers three_registers two_registers_number two_registers_target register_number register_and_target register_name register_address one_register one_number one_target label_in fault_in slot_of text_of initial_of first_fault spots_of members_of outer_lists inner_lists form_names righted_names code_names device_rights shared_rights
returns-clause-words c = record { lawful = value_lawful (tiny_of tiny_app) refl; linked = refl }

pub returns-clause-source : goal.returns-clause-source
unfolding linked all_built parts_of compartment_parts library_parts shared_parts sealed_parts thread_parts placed last_end exponent_for packed set_where bit form_of device_kind_named posture_of library_posture_of passes_of service_of program_of line_of row_line line_tokens statement_head directive_of register_of register_at register_comma address_at two_registers three_registers two_registers_number two_registers_target register_number register_and_target register_name register_address one_register one_number one_target label_in fault_in slot_of text_of initial_of first_fault spots_of members_of outer_lists inner_lists form_names righted_names code_names device_rights shared_rights
returns-clause-source c = record { lawful = value_lawful (tiny_of from_file) refl; linked = refl }

pub returns-clause-board : goal.returns-clause-board
unfolding linked all_built parts_of compartment_parts library_parts shared_parts sealed_parts thread_parts placed last_end exponent_for packed set_where bit form_of device_kind_named posture_of library_posture_of passes_of service_of program_of line_of row_line line_tokens statement_head directive_of register_of register_at register_comma address_at two_registers three_registers two_registers_number two_registers_target register_number register_and_target register_name register_address one_register one_number one_target label_in fault_in slot_of text_of initial_of first_fault spots_of members_of outer_lists inner_lists form_names righted_names code_names device_rights shared_rights
returns-clause-board c = (_, record { lawful = value_lawful board refl; linked = refl })
