use Rattle.std.proofs.Common.{◌≡◌, drop, arith}
use Rattle.std.proofs.lemmas.Result.{err_from_is_err_and}
use Rattle.def_link.specs.Owners.{units_of, unit_built, source_for}
use Rattle.ct_link_objects.specs.Objects.{file_of, unit_of, IsBuilt}
use Rattle.ct_link_objects.proofs.Lawfuls.{counted_at, texts_counted}
use Rattle.ct_link_objects.proofs.Progress.{none_done, one_done, fault_done, text_there}
use Rattle.ct_link_objects.proofs.built.objects.Goals as goal

pub loop-owner-init : goal.loop-owner-init
loop-owner-init c = rw c.new-all.ensures.items (none_done (units_of c.args.desc.now) c.args.sources.now)

pub source_for-source-requires-clause-there : goal.source_for-source-requires-clause-there
source_for-source-requires-clause-there c =
    let l = c.loop-owner in
    rw c.code.ensures
    (text_there (units_of c.args.desc.now) c.args.sources.now l.owner l.next (unit_of c.owner_row-row.result) l.all.items l.invariant c.owner_row-row.ensures c.requires.sourced.each)

pub unit_object-requires-clause-counted : goal.unit_object-requires-clause-counted
unit_object-requires-clause-counted c = counted_at c.args.desc.now c.args.sources.now c.loop-owner.owner (unit_of c.owner_row-row.result) c.requires c.owner_row-row.ensures

pub loop-owner-preserved : goal.loop-owner-preserved
loop-owner-preserved c =
    let l = c.loop-owner in
    let texts = c.args.sources.now in
    let u = unit_of c.owner_row-row.result in
    let o = c.in_ok-object.object in
    let value : c.source_for-source.result.now ≡ source_for u.code.file (drop l.next texts) = rw (← c.code.ensures) c.source_for-source.ensures.value in
    let one : IsBuilt (unit_built u (source_for u.code.file (drop l.next texts))) o = rw (← value) c.in_ok-object.ensures.ok in
    let sized : c.files_in-next.result ≡ file_of u.code.file = rw (← c.code-in-loop-owner.ensures) c.files_in-next.ensures in
    one_done (units_of c.args.desc.now) texts l.owner l.next c.files_in-next.result u o l.all.items c.push.new.self.items l.invariant c.owner_row-row.ensures one c.in-Ok.ensures.items sized

pub returns-in_err-object : goal.returns-in_err-object
returns-in_err-object c =
    let l = c.loop-owner in
    let texts = c.args.sources.now in
    let u = unit_of c.owner_row-row.result in
    let value : c.source_for-source.result.now ≡ source_for u.code.file (drop l.next texts) = rw (← c.code.ensures) c.source_for-source.ensures.value in
    let p = err_from_is_err_and c.from_residual.result c.from_residual.ensures.1 in
    rw (p.1, p.2)
    (fault_done (units_of c.args.desc.now) texts l.owner l.next u l.all.items c.in_err-object.field-0.0 l.invariant c.owner_row-row.ensures (rw (← value) c.in_err-object.ensures.err))

pub overflow_add-next : goal.overflow_add-next
overflow_add-next c =
    let l = c.loop-owner in
    let u = unit_of c.owner_row-row.result in
    let room = text_there (units_of c.args.desc.now) c.args.sources.now l.owner l.next u l.all.items l.invariant c.owner_row-row.ensures c.requires.sourced.each in
    let sized : c.files_in-next.result ≡ file_of u.code.file = rw (← c.code-in-loop-owner.ensures) c.files_in-next.ensures in
    let counted = texts_counted c.args.desc.now c.args.sources.now c.requires in
    omega (arith, room, sized, counted)
