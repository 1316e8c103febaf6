use Rattle.std.proofs.Common.{◌≡◌, ◌≤◌, ◌*◌, ◌∙◌, length, sym, ap, subst}
use Rattle.def_words.specs.declared.Cap.{Cap}
use Rattle.def_words.specs.Authority.{cap_address}
use Rattle.ct_areas.specs.Parts.{register_in}
use Rattle.ct_switch.specs.Calls.{decided, roomed, MayEnter, TopFits}
use Rattle.ct_switch.proofs.Failing.{checks_passed}
use Rattle.ct_switch.proofs.Coming.{looked, switch_deep, switch_rooms, may_enter}
use Rattle.ct_switch.proofs.deciding.past_checks.Goals as goal

pub returns-then-depth-most-clause-is : goal.returns-then-depth-most-clause-is
returns-then-depth-most-clause-is g c =
    switch_deep (g.M.Memory.granules c.args.mem.now) c.args.e.now c.args.t.now c.requires.may.ready.alive c.requires.passed
    (c.if-depth-most.true ∙ c.frames_most-most.ensures)

pub room-requires : goal.room-requires
room-requires g c =
    let t = c.args.t.now in
    let at : c.address.result ≡ cap_address (register_in t 2) = c.address.ensures ∙ ap (λ (k : Cap). cap_address k) c.register-stack.ensures in
    subst (λ a. t.area.stack ≤ a) (sym at)
    (checks_passed t.area.stack t.top (register_in t 1) (register_in t 6) (register_in t 2) c.requires.passed).low

pub returns-clause-is : goal.returns-clause-is
returns-clause-is g c =
    let t = c.args.t.now in
    let x = c.export_of-export.result in
    let l = looked c.args.e.now t x _ _ _ _ _ c.register-stack.ensures c.address.ensures c.register-import.ensures c.entry_of.ensures c.called-number.ensures c.export_of-export.ensures in
    ap (λ d. decided d) (c.room.ensures.is ∙ ap (λ a. roomed t.area.stack a x) l.at)
    ∙ switch_rooms (g.M.Memory.granules c.args.mem.now) c.args.e.now t x c.requires.may.ready.alive c.requires.passed
    (λ full. c.if-depth-most.false (full ∙ sym c.frames_most-most.ensures)) l.export

pub returns-clause-enters : goal.returns-clause-enters
returns-clause-enters g c =
    let gs = g.M.Memory.granules c.args.mem.now in
    let t = c.args.t.now in
    let x = c.export_of-export.result in
    let l = looked c.args.e.now t x _ _ _ _ _ c.register-stack.ensures c.address.ensures c.register-import.ensures c.entry_of.ensures c.called-number.ensures c.export_of-export.ensures in
    let fits : TopFits t.area.stack (cap_address (register_in t 2)) =
    subst (λ a. TopFits t.area.stack a) l.at (c.room.ensures.fits c.requires.may.ready.stack.even) in
    subst (λ d. MayEnter c.args.e.now (8 * length gs) t d) (sym (c.room.ensures.is ∙ ap (λ a. roomed t.area.stack a x) l.at))
    (may_enter gs c.args.e.now t x c.requires.may c.requires.passed
    (λ full. c.if-depth-most.false (full ∙ sym c.frames_most-most.ensures)) l.export fits)
