use Rattle.std.proofs.Common.{refl}
use Rattle.def_words.specs.LeastBounds.{exponent_for}
use Rattle.def_words.specs.Permissions.{bit, set_where, form_of, packed}
use Rattle.def_layout.specs.Placement.{placed, last_end}
use Rattle.def_source.specs.Source.{program_of, line_of, row_line, line_tokens, statement_head, directive_of, register_of, register_at, register_comma, address_at, two_registers, three_registers, two_registers_number, two_registers_target, register_number, register_and_target, register_name, register_address, one_register, one_number, one_target}
use Rattle.def_object.specs.Object.{label_in, fault_in, slot_of, text_of, initial_of}
use Rattle.def_desc.specs.Tables.{device_kind_named, posture_of, library_posture_of, passes_of, service_of}
use Rattle.def_link.specs.Owners.{all_built}
use Rattle.def_link.specs.Linked.{compartment_parts, library_parts, shared_parts, sealed_parts, thread_parts, parts_of, linked}
use Rattle.law_link_samples.proofs.samples.samples_are_linked.Goals as goal

pub returns-clause-words : goal.returns-clause-words
unfolding linked all_built parts_of compartment_parts library_parts shared_parts sealed_parts thread_parts placed last_end exponent_for packed set_where bit form_of device_kind_named posture_of library_posture_of passes_of service_of
returns-clause-words c = refl

pub returns-clause-source : goal.returns-clause-source
unfolding linked all_built parts_of compartment_parts library_parts shared_parts sealed_parts thread_parts placed last_end exponent_for packed set_where bit form_of device_kind_named posture_of library_posture_of passes_of service_of program_of line_of row_line line_tokens statement_head directive_of register_of register_at register_comma address_at two_registers three_registers two_registers_number two_registers_target register_number register_and_target register_name register_address one_register one_number one_target label_in fault_in slot_of text_of initial_of
returns-clause-source c = refl

pub returns-clause-room : goal.returns-clause-room
unfolding linked all_built parts_of compartment_parts library_parts shared_parts sealed_parts thread_parts placed last_end exponent_for packed set_where bit form_of device_kind_named posture_of library_posture_of passes_of service_of
returns-clause-room c = refl

pub returns-clause-no_room : goal.returns-clause-no_room
unfolding linked all_built parts_of compartment_parts library_parts shared_parts sealed_parts thread_parts placed last_end exponent_for packed set_where bit form_of device_kind_named posture_of library_posture_of passes_of service_of
returns-clause-no_room c = refl

pub returns-clause-board : goal.returns-clause-board
unfolding linked all_built parts_of compartment_parts library_parts shared_parts sealed_parts thread_parts placed last_end exponent_for packed set_where bit form_of device_kind_named posture_of library_posture_of passes_of service_of program_of line_of row_line line_tokens statement_head directive_of register_of register_at register_comma address_at two_registers three_registers two_registers_number two_registers_target register_number register_and_target register_name register_address one_register one_number one_target label_in fault_in slot_of text_of initial_of
returns-clause-board c = refl

pub returns-clause-mnemonic : goal.returns-clause-mnemonic
unfolding linked all_built parts_of compartment_parts library_parts shared_parts sealed_parts thread_parts placed last_end exponent_for packed set_where bit form_of device_kind_named posture_of library_posture_of passes_of service_of program_of line_of row_line line_tokens statement_head directive_of register_of register_at register_comma address_at two_registers three_registers two_registers_number two_registers_target register_number register_and_target register_name register_address one_register one_number one_target label_in fault_in slot_of text_of initial_of
returns-clause-mnemonic c = refl

pub returns-clause-import : goal.returns-clause-import
unfolding linked all_built parts_of compartment_parts library_parts shared_parts sealed_parts thread_parts placed last_end exponent_for packed set_where bit form_of device_kind_named posture_of library_posture_of passes_of service_of program_of line_of row_line line_tokens statement_head directive_of register_of register_at register_comma address_at two_registers three_registers two_registers_number two_registers_target register_number register_and_target register_name register_address one_register one_number one_target label_in fault_in slot_of text_of initial_of
returns-clause-import c = refl

pub returns-clause-label : goal.returns-clause-label
unfolding linked all_built parts_of compartment_parts library_parts shared_parts sealed_parts thread_parts placed last_end exponent_for packed set_where bit form_of device_kind_named posture_of library_posture_of passes_of service_of program_of line_of row_line line_tokens statement_head directive_of register_of register_at register_comma address_at two_registers three_registers two_registers_number two_registers_target register_number register_and_target register_name register_address one_register one_number one_target label_in fault_in slot_of text_of initial_of
returns-clause-label c = refl

pub returns-clause-past_the_text : goal.returns-clause-past_the_text
unfolding linked all_built parts_of compartment_parts library_parts shared_parts sealed_parts thread_parts placed last_end exponent_for packed set_where bit form_of device_kind_named posture_of library_posture_of passes_of service_of
returns-clause-past_the_text c = refl

pub returns-clause-odd_offset : goal.returns-clause-odd_offset
unfolding linked all_built parts_of compartment_parts library_parts shared_parts sealed_parts thread_parts placed last_end exponent_for packed set_where bit form_of device_kind_named posture_of library_posture_of passes_of service_of
returns-clause-odd_offset c = refl

pub returns-clause-no_label : goal.returns-clause-no_label
unfolding linked all_built parts_of compartment_parts library_parts shared_parts sealed_parts thread_parts placed last_end exponent_for packed set_where bit form_of device_kind_named posture_of library_posture_of passes_of service_of program_of line_of row_line line_tokens statement_head directive_of register_of register_at register_comma address_at two_registers three_registers two_registers_number two_registers_target register_number register_and_target register_name register_address one_register one_number one_target label_in fault_in slot_of text_of initial_of
returns-clause-no_label c = refl

pub returns-clause-initial : goal.returns-clause-initial
unfolding linked all_built parts_of compartment_parts library_parts shared_parts sealed_parts thread_parts placed last_end exponent_for packed set_where bit form_of device_kind_named posture_of library_posture_of passes_of service_of program_of line_of row_line line_tokens statement_head directive_of register_of register_at register_comma address_at two_registers three_registers two_registers_number two_registers_target register_number register_and_target register_name register_address one_register one_number one_target label_in fault_in slot_of text_of initial_of
returns-clause-initial c = refl

pub returns-clause-first_owner : goal.returns-clause-first_owner
unfolding linked all_built parts_of compartment_parts library_parts shared_parts sealed_parts thread_parts placed last_end exponent_for packed set_where bit form_of device_kind_named posture_of library_posture_of passes_of service_of program_of line_of row_line line_tokens statement_head directive_of register_of register_at register_comma address_at two_registers three_registers two_registers_number two_registers_target register_number register_and_target register_name register_address one_register one_number one_target label_in fault_in slot_of text_of initial_of
returns-clause-first_owner c = refl

pub returns-clause-text_first : goal.returns-clause-text_first
unfolding linked all_built parts_of compartment_parts library_parts shared_parts sealed_parts thread_parts placed last_end exponent_for packed set_where bit form_of device_kind_named posture_of library_posture_of passes_of service_of program_of line_of row_line line_tokens statement_head directive_of register_of register_at register_comma address_at two_registers three_registers two_registers_number two_registers_target register_number register_and_target register_name register_address one_register one_number one_target label_in fault_in slot_of text_of initial_of
returns-clause-text_first c = refl

pub returns-clause-import_next : goal.returns-clause-import_next
unfolding linked all_built parts_of compartment_parts library_parts shared_parts sealed_parts thread_parts placed last_end exponent_for packed set_where bit form_of device_kind_named posture_of library_posture_of passes_of service_of program_of line_of row_line line_tokens statement_head directive_of register_of register_at register_comma address_at two_registers three_registers two_registers_number two_registers_target register_number register_and_target register_name register_address one_register one_number one_target label_in fault_in slot_of text_of initial_of
returns-clause-import_next c = refl

pub returns-clause-export_next : goal.returns-clause-export_next
unfolding linked all_built parts_of compartment_parts library_parts shared_parts sealed_parts thread_parts placed last_end exponent_for packed set_where bit form_of device_kind_named posture_of library_posture_of passes_of service_of program_of line_of row_line line_tokens statement_head directive_of register_of register_at register_comma address_at two_registers three_registers two_registers_number two_registers_target register_number register_and_target register_name register_address one_register one_number one_target label_in fault_in slot_of text_of initial_of
returns-clause-export_next c = refl

pub returns-clause-room_last : goal.returns-clause-room_last
unfolding linked all_built parts_of compartment_parts library_parts shared_parts sealed_parts thread_parts placed last_end exponent_for packed set_where bit form_of device_kind_named posture_of library_posture_of passes_of service_of program_of line_of row_line line_tokens statement_head directive_of register_of register_at register_comma address_at two_registers three_registers two_registers_number two_registers_target register_number register_and_target register_name register_address one_register one_number one_target label_in fault_in slot_of text_of initial_of
returns-clause-room_last c = refl
