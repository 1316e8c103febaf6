use Rattle.law_answers.proofs.Ends.{short, cut, appended, other_begin, other_version}
use Rattle.std.proofs.Common.{refl, inl, inr}
use Rattle.def_image.specs.Checks.{first, walked}
use Rattle.def_image.specs.Limits.{compartment_limits_by, device_limits, export_limits, gate_limits, header_limits, library_limits_by, limit_checks, name_checks, own_slot_limits, row_limits, sealed_limits, shared_limits, slot_limits, thread_limits_by}
use Rattle.def_image.specs.Raw.{RawImage}
use Rattle.def_image.specs.Spelling.{image_bytes, raw_of, spelled}
use Rattle.law_image_samples.specs.Tiny.{tiny, the_main, with_main, app, with_app, the_switch, the_uart, the_thread, with_switch, with_uart, with_thread}
use Rattle.law_answers.proofs.Facts.{plain_by, spelled_by}
use Rattle.def_words.specs.LeastBounds.{exponent_for}
use Rattle.def_words.specs.Permissions.{unpacked, set_where, bit}
use Rattle.def_image.specs.Lying.{region_checks}
use Rattle.def_image.specs.Indexes.{index_checks}
use Rattle.def_image.specs.Rights.{right_checks}
use Rattle.def_image.specs.Parts.{PartsRow, upgraded}
use Rattle.law_answers.proofs.answers_to_tiny.Goals as goal

pub returns-clause-short : goal.returns-clause-short
returns-clause-short c = short

pub returns-clause-cut : goal.returns-clause-cut
returns-clause-cut c = cut

pub returns-clause-appended : goal.returns-clause-appended
returns-clause-appended c = appended

pub returns-clause-version : goal.returns-clause-version
returns-clause-version c = other_version

pub returns-clause-begins : goal.returns-clause-begins
returns-clause-begins c = other_begin

pub returns-clause-quantum : goal.returns-clause-quantum
unfolding first limit_checks raw_of header_limits name_checks walked device_limits shared_limits sealed_limits compartment_limits_by library_limits_by own_slot_limits slot_limits row_limits export_limits gate_limits thread_limits_by image_bytes spelled
returns-clause-quantum c =
    let r : RawImage = raw_of (record tiny { quantum = 0 }) in
    inr (refl, inr (inl (refl, (r, (plain_by r refl, refl), refl))))

pub returns-clause-offset : goal.returns-clause-offset
unfolding first limit_checks raw_of header_limits name_checks walked device_limits shared_limits sealed_limits compartment_limits_by library_limits_by own_slot_limits slot_limits row_limits export_limits gate_limits thread_limits_by image_bytes spelled
returns-clause-offset c =
    let r : RawImage = raw_of (with_main (record the_main.row { offset = 20 })) in
    inr (refl, inr (inl (refl, (r, (plain_by r refl, refl), refl))))

pub returns-clause-entry : goal.returns-clause-entry
unfolding first limit_checks raw_of header_limits name_checks walked device_limits shared_limits sealed_limits compartment_limits_by library_limits_by own_slot_limits slot_limits row_limits export_limits gate_limits thread_limits_by image_bytes spelled
returns-clause-entry c =
    let r : RawImage = raw_of (with_main (record the_main.row { entry = 4 })) in
    inr (refl, inr (inl (refl, (r, (plain_by r refl, refl), refl))))

pub returns-clause-heap : goal.returns-clause-heap
unfolding first limit_checks raw_of header_limits name_checks walked device_limits shared_limits sealed_limits compartment_limits_by library_limits_by own_slot_limits slot_limits row_limits export_limits gate_limits thread_limits_by image_bytes spelled region_checks index_checks right_checks exponent_for unpacked set_where bit
returns-clause-heap c =
    let p : PartsRow = record tiny { heap = 0x80000280 } in
    inr (refl, inr (inr (inl (refl, (p, (spelled_by p tt tt tt refl, refl, refl), refl)))))

pub returns-clause-globals : goal.returns-clause-globals
unfolding first limit_checks raw_of header_limits name_checks walked device_limits shared_limits sealed_limits compartment_limits_by library_limits_by own_slot_limits slot_limits row_limits export_limits gate_limits thread_limits_by image_bytes spelled region_checks index_checks right_checks exponent_for unpacked set_where bit
returns-clause-globals c =
    let p : PartsRow = with_app (record app { globals = 0x80000030 }) in
    inr (refl, inr (inr (inl (refl, (p, (spelled_by p tt tt tt refl, refl, refl), refl)))))

pub returns-clause-service : goal.returns-clause-service
unfolding first limit_checks raw_of header_limits name_checks walked device_limits shared_limits sealed_limits compartment_limits_by library_limits_by own_slot_limits slot_limits row_limits export_limits gate_limits thread_limits_by image_bytes spelled region_checks index_checks right_checks exponent_for unpacked set_where bit
returns-clause-service c =
    let p : PartsRow = with_switch (record the_switch.row { first = 2 }) in
    inr (refl, inr (inr (inr (inl (refl, (p, (spelled_by p tt tt tt refl, refl, refl), refl, refl))))))

pub returns-clause-device : goal.returns-clause-device
unfolding first limit_checks raw_of header_limits name_checks walked device_limits shared_limits sealed_limits compartment_limits_by library_limits_by own_slot_limits slot_limits row_limits export_limits gate_limits thread_limits_by image_bytes spelled region_checks index_checks right_checks exponent_for unpacked set_where bit
returns-clause-device c =
    let p : PartsRow = with_uart (record the_uart.row { first = 1 }) in
    inr (refl, inr (inr (inr (inl (refl, (p, (spelled_by p tt tt tt refl, refl, refl), refl, refl))))))

pub returns-clause-compartment : goal.returns-clause-compartment
unfolding first limit_checks raw_of header_limits name_checks walked device_limits shared_limits sealed_limits compartment_limits_by library_limits_by own_slot_limits slot_limits row_limits export_limits gate_limits thread_limits_by image_bytes spelled region_checks index_checks right_checks exponent_for unpacked set_where bit
returns-clause-compartment c =
    let p : PartsRow = with_thread (record the_thread { compartment = 1 }) in
    inr (refl, inr (inr (inr (inl (refl, (p, (spelled_by p tt tt tt refl, refl, refl), refl, refl))))))

pub returns-clause-export : goal.returns-clause-export
unfolding first limit_checks raw_of header_limits name_checks walked device_limits shared_limits sealed_limits compartment_limits_by library_limits_by own_slot_limits slot_limits row_limits export_limits gate_limits thread_limits_by image_bytes spelled region_checks index_checks right_checks exponent_for unpacked set_where bit
returns-clause-export c =
    let p : PartsRow = with_thread (record the_thread { export = 1 }) in
    inr (refl, inr (inr (inr (inl (refl, (p, (spelled_by p tt tt tt refl, refl, refl), refl, refl))))))

pub returns-clause-right : goal.returns-clause-right
unfolding first limit_checks raw_of header_limits name_checks walked device_limits shared_limits sealed_limits compartment_limits_by library_limits_by own_slot_limits slot_limits row_limits export_limits gate_limits thread_limits_by image_bytes spelled region_checks index_checks right_checks exponent_for unpacked set_where bit
returns-clause-right c =
    let p : PartsRow = with_uart (record the_uart.row { rights = 40 }) in
    inr (refl, inr (inr (inr (inr (refl, (p, (spelled_by p tt tt tt refl, refl, refl), refl, refl, refl))))))

pub returns-clause-later_rate : goal.returns-clause-later_rate
unfolding first limit_checks raw_of header_limits name_checks walked device_limits shared_limits sealed_limits compartment_limits_by library_limits_by own_slot_limits slot_limits row_limits export_limits gate_limits thread_limits_by image_bytes spelled
returns-clause-later_rate c =
    let r : RawImage = raw_of (record (upgraded tiny) { sweep = 0 }) in
    inr (refl, inr (inl (refl, (r, (plain_by r refl, refl), refl))))

pub returns-clause-later_globals : goal.returns-clause-later_globals
unfolding first limit_checks raw_of header_limits name_checks walked device_limits shared_limits sealed_limits compartment_limits_by library_limits_by own_slot_limits slot_limits row_limits export_limits gate_limits thread_limits_by image_bytes spelled region_checks index_checks right_checks exponent_for unpacked set_where bit
returns-clause-later_globals c =
    let p : PartsRow = upgraded (with_app (record app { globals = 0x80000030 })) in
    inr (refl, inr (inr (inl (refl, (p, (spelled_by p tt tt tt refl, refl, refl), refl)))))
