use Rattle.std.proofs.Common.{arith}
use Rattle.ct_machine.proofs.Picking.{may_carry_on, may_same, next_guarded, picked_ran, picked_so, told_ran}
use Rattle.ct_machine.proofs.parts.Parts.picked_rounds.Goals as goal

pub run_picked-made-requires-clause-may : goal.run_picked-made-requires-clause-may
run_picked-made-requires-clause-may g c =
    let p = picked_so c.requires.guarded c.requires.idle c.requires.rests c.count_rounds.ensures.state c.count_rounds.ensures.board c.schedule.ensures.state c.schedule.ensures.board in
    may_carry_on p

pub run_picked-made-requires-clause-next : goal.run_picked-made-requires-clause-next
run_picked-made-requires-clause-next g c =
    let p = picked_so c.requires.guarded c.requires.idle c.requires.rests c.count_rounds.ensures.state c.count_rounds.ensures.board c.schedule.ensures.state c.schedule.ensures.board in
    next_guarded p

pub returns-then-made-gt0-clause-ran : goal.returns-then-made-gt0-clause-ran
returns-then-made-gt0-clause-ran g c =
    let p = picked_so c.requires.guarded c.requires.idle c.requires.rests c.count_rounds.ensures.state c.count_rounds.ensures.board c.schedule.ensures.state c.schedule.ensures.board in
    let some = c.if-made-gt0.true in
    rw (c.silent.ensures.count, c.silent.ensures.told)
    (picked_ran p c.run_picked-made.new.self c.run_picked-made.result (omega (arith, some)) (c.run_picked-made.ensures.carried (omega (arith, some))))

pub go_on-deed-requires-clause-may : goal.go_on-deed-requires-clause-may
go_on-deed-requires-clause-may g c =
    let p = picked_so c.requires.guarded c.requires.idle c.requires.rests c.count_rounds.ensures.state c.count_rounds.ensures.board c.schedule.ensures.state c.schedule.ensures.board in
    let none = c.if-made-gt0.false in
    may_same c.schedule.new.self c.run_picked-made.new.self c.run_picked-made.ensures.board (c.run_picked-made.ensures.same (omega (arith, none))) (may_carry_on p)

pub returns-clause-ran : goal.returns-clause-ran
returns-clause-ran g c =
    let p = picked_so c.requires.guarded c.requires.idle c.requires.rests c.count_rounds.ensures.state c.count_rounds.ensures.board c.schedule.ensures.state c.schedule.ensures.board in
    let none = c.if-made-gt0.false in
    told_ran p c.run_picked-made.new.self c.go_on-deed.new.self c.go_on-deed.result c.begun-off.result
    c.run_picked-made.ensures.board (c.run_picked-made.ensures.same (omega (arith, none))) c.go_on-deed.ensures.is c.go_on-deed.ensures.board c.begun-off.ensures
