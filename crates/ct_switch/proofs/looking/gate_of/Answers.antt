use Rattle.std.proofs.Common.{arith}
use Rattle.ct_switch.proofs.Rows.{gate_found, gate_none}
use Rattle.ct_switch.proofs.looking.gate_of.Goals.{else-place-gates-via-then-place-gates+else-gates-place, else-place-gates-via-else-place-gates}
use Rattle.ct_switch.proofs.looking.gate_of.Goals as goal

pub returns-then-gates-place : goal.returns-then-gates-place
returns-then-gates-place c =
    gate_found c.args.gates.now c.args.number c.place_of-place.result _ c.if-place-gates.true c.if-gates-place.true c.place_of-place.ensures.before

pub returns : goal.returns
returns c = gate_none c.args.gates.now c.args.number c.place_of-place.result c.requires c.place_of-place.ensures.before c.place_of-place.ensures.after
    (λ inside is. elim c.else-place-gates.branch [
      | else-place-gates-via-then-place-gates+else-gates-place w ↦ w.if-gates-place.false is
      | else-place-gates-via-else-place-gates w ↦ absurd (let out = w.if-place-gates.false in omega (arith, inside, out))
    ])
