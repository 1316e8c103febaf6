use Rattle.std.proofs.Common.{refl}
use Rattle.std.specs.Fmt.{digits}
use Rattle.serde_json.proofs.OnLiterals.{serde_json_on_literals}
use Rattle.def_boot.specs.Entries.{entry_rows}
use Rattle.def_boot.specs.Gates.{gates_of, entries_of}
use Rattle.def_reach.specs.Roots.{gate_for, root_of}
use Rattle.def_words.specs.Permissions.{bit, set_where, unpacked}
use Rattle.def_report.specs.Edges.{are_joined, edges}
use Rattle.def_report.specs.Labels.{labels_of, service_name}
use Rattle.def_report.specs.Lines.{data_of}
use Rattle.def_report.specs.Rights.{rights_text}
use Rattle.def_report.specs.Report.{data_over, report_data, report_line}
use Rattle.def_report.specs.Parts.{entry_text, frame_text}
use Rattle.law_report.proofs.samples_are_reported.Goals as goal

pub returns-clause-tiny : goal.returns-clause-tiny
unfolding serde_json_on_literals digits entry_rows gates_of entries_of gate_for root_of bit set_where unpacked are_joined edges labels_of service_name rights_text data_of data_over report_data report_line
returns-clause-tiny c = refl

pub returns-clause-board_frame : goal.returns-clause-board_frame
unfolding frame_text serde_json_on_literals digits entry_rows gates_of entries_of gate_for root_of bit set_where unpacked are_joined edges labels_of service_name rights_text data_of data_over
returns-clause-board_frame c = refl

pub returns-clause-board_switch : goal.returns-clause-board_switch
unfolding entry_text serde_json_on_literals digits entry_rows gates_of entries_of gate_for root_of bit set_where unpacked are_joined edges labels_of service_name rights_text data_of data_over
returns-clause-board_switch c = refl

pub returns-clause-board_library : goal.returns-clause-board_library
unfolding entry_text serde_json_on_literals digits entry_rows gates_of entries_of gate_for root_of bit set_where unpacked are_joined edges labels_of service_name rights_text data_of data_over
returns-clause-board_library c = refl

pub returns-clause-board_call : goal.returns-clause-board_call
unfolding entry_text serde_json_on_literals digits entry_rows gates_of entries_of gate_for root_of bit set_where unpacked are_joined edges labels_of service_name rights_text data_of data_over
returns-clause-board_call c = refl

pub returns-clause-board_service : goal.returns-clause-board_service
unfolding entry_text serde_json_on_literals digits entry_rows gates_of entries_of gate_for root_of bit set_where unpacked are_joined edges labels_of service_name rights_text data_of data_over
returns-clause-board_service c = refl

pub returns-clause-board_quota : goal.returns-clause-board_quota
unfolding entry_text serde_json_on_literals digits entry_rows gates_of entries_of gate_for root_of bit set_where unpacked are_joined edges labels_of service_name rights_text data_of data_over
returns-clause-board_quota c = refl

pub returns-clause-board_data_export : goal.returns-clause-board_data_export
unfolding entry_text serde_json_on_literals digits entry_rows gates_of entries_of gate_for root_of bit set_where unpacked are_joined edges labels_of service_name rights_text data_of data_over
returns-clause-board_data_export c = refl

pub returns-clause-board_library_export : goal.returns-clause-board_library_export
unfolding entry_text serde_json_on_literals digits entry_rows gates_of entries_of gate_for root_of bit set_where unpacked are_joined edges labels_of service_name rights_text data_of data_over
returns-clause-board_library_export c = refl

pub returns-clause-board_stack : goal.returns-clause-board_stack
unfolding entry_text serde_json_on_literals digits entry_rows gates_of entries_of gate_for root_of bit set_where unpacked are_joined edges labels_of service_name rights_text data_of data_over
returns-clause-board_stack c = refl

pub returns-clause-whole_frame : goal.returns-clause-whole_frame
unfolding frame_text serde_json_on_literals digits entry_rows gates_of entries_of gate_for root_of bit set_where unpacked are_joined edges labels_of service_name rights_text data_of data_over
returns-clause-whole_frame c = refl

pub returns-clause-whole_shared : goal.returns-clause-whole_shared
unfolding entry_text serde_json_on_literals digits entry_rows gates_of entries_of gate_for root_of bit set_where unpacked are_joined edges labels_of service_name rights_text data_of data_over
returns-clause-whole_shared c = refl

pub returns-clause-whole_sealed : goal.returns-clause-whole_sealed
unfolding entry_text serde_json_on_literals digits entry_rows gates_of entries_of gate_for root_of bit set_where unpacked are_joined edges labels_of service_name rights_text data_of data_over
returns-clause-whole_sealed c = refl

pub returns-clause-whole_key : goal.returns-clause-whole_key
unfolding entry_text serde_json_on_literals digits entry_rows gates_of entries_of gate_for root_of bit set_where unpacked are_joined edges labels_of service_name rights_text data_of data_over
returns-clause-whole_key c = refl

pub returns-clause-whole_handler : goal.returns-clause-whole_handler
unfolding entry_text serde_json_on_literals digits entry_rows gates_of entries_of gate_for root_of bit set_where unpacked are_joined edges labels_of service_name rights_text data_of data_over
returns-clause-whole_handler c = refl
