use Rattle.std.proofs.Common.{sym, arith}
use Rattle.std.proofs.lemmas.Result.{MatchResult-from_err}
use Rattle.ct_run.proofs.Going.{begins, ends, may_come, room_for}
use Rattle.ct_run.proofs.Onward.{fails_before, reached}
use Rattle.ct_run.proofs.Text.{text_at_end, text_at_limit}
use Rattle.ct_run.proofs.rounds.write_rounds.Goals as goal

pub loop-done-init : goal.loop-done-init
loop-done-init g c = begins _ c.requires.may.booted c.requires.script

pub write_before-requires : goal.write_before-requires
write_before-requires g c = rw c.given_before-givens.ensures (may_come _ _ _ _ c.loop-done.invariant _ c.loop-done-test.true c.requires.may.limit)

pub returns-in_err-write_before : goal.returns-in_err-write_before
returns-in_err-write_before g c =
    MatchResult-from_err c.from_residual.result _ _ c.from_residual.ensures.0
    (λ _. fails_before _ c.requires.may.quantum c.loop-done.invariant c.loop-done-test.true (sym c.in-None.ensures)
    (rw c.given_before-givens.ensures at c.in_err-write_before.ensures))

pub run_on-ran-requires : goal.run_on-ran-requires
run_on-ran-requires g c =
    let room = room_for _ _ _ _ c.loop-done.invariant _ _ _ (rw c.given_before-givens.ensures at c.in_ok-write_before.ensures.left) c.bare_rounds.ensures.few c.requires.may.limit in
    record { some = c.bare_rounds.ensures.some; steps = room.0; sweeps = room.1 }

pub loop-done-preserved : goal.loop-done-preserved
loop-done-preserved g c =
    (reached _ c.requires.may.quantum c.loop-done.invariant c.loop-done-test.true (sym c.in-None.ensures)
    c.given_before-givens.ensures c.in_ok-write_before.ensures c.up_to_tick-left.ensures c.bare_rounds.ensures
    c.run_on-ran.ensures.some c.run_on-ran.ensures.most c.run_on-ran.ensures.ran).whole _ c.in_ok-write_happened.ensures

pub returns-in_err-write_happened : goal.returns-in_err-write_happened
returns-in_err-write_happened g c =
    MatchResult-from_err c.from_residual-in_err-write_happened.result _ _ c.from_residual-in_err-write_happened.ensures.0
    (λ _. (reached _ c.requires.may.quantum c.loop-done.invariant c.loop-done-test.true (sym c.in-None.ensures)
    c.given_before-givens.ensures c.in_ok-write_before.ensures c.up_to_tick-left.ensures c.bare_rounds.ensures
    c.run_on-ran.ensures.some c.run_on-ran.ensures.most c.run_on-ran.ensures.ran).part _ c.in_err-write_happened.ensures)

pub returns-in-Some : goal.returns-in-Some
returns-in-Some g c = ends _ _ _ _ c.loop-done.invariant _ c.write_last.result (text_at_end _ _ _ _ _ _ c.in-Some.field-0 (sym c.in-Some.ensures)) c.write_last.ensures

pub returns : goal.returns
returns g c = ends _ _ _ _ c.loop-done.invariant _ c.write_last-2.result (text_at_limit _ _ _ _ _ _ (omega (arith, c.loop-done-test.false))) c.write_last-2.ensures
