use Rattle.std.proofs.Common.{◌≡◌, ◌+◌, ◌-◌, ◌<◌, ◌++◌, ◌∙◌, length, get_or, string_bytes, ap, sym, arith}
use Rattle.ct_entry.specs.Listed.{Listed}
use Rattle.ct_entry.specs.declared.rows.Entry.{Entry}
use Rattle.ct_entry.specs.declared.rows.Gate.{Gate}
use Rattle.def_reach.specs.Roots.{gate_for, no_gate}
use Rattle.def_policy.specs.Denials.{entry_line}
use Rattle.ct_policy.proofs.Judged.{one_breaks}
use Rattle.ct_policy.proofs.judging.add_one.Goals as goal

pub returns-in_ok-add_entry : goal.returns-in_ok-add_entry
returns-in_ok-add_entry c =
    let x : Entry = c.index.result.now in
    let g : Gate = get_or c.args.gates.now (c.args.number - 1) no_gate in
    let seen : length c.entries.inside.rows.items ≡ length c.args.entries.now.rows = ap (λ (e : Listed). length e.rows) c.entries.view_is in
    let counted : c.args.number ≡ c.args.number - 1 + 1 = omega (arith, c.if-number-eq0.false) in
    let inside : c.args.number - 1 < length c.args.entries.now.rows =
    omega (arith, seen, c.len.ensures, c.entries.inside.rows.ok, c.if-number-eq0.false, c.if-number-len.false) in
    let is : x ≡ get_or c.args.entries.now.rows (c.args.number - 1) x = c.index.ensures ∙ ap (λ (e : Listed). get_or e.rows (c.args.number - 1) x) c.entries.view_is in
    let gate : g ≡ gate_for c.args.entries.now.gates (c.args.number - 1 + 1) = c.requires.gates.each (c.args.number - 1) inside in
    let added : string_bytes c.add_entry.new.text ≡ string_bytes c.args.text.now ++ entry_line c.args.line c.args.number = c.in_ok-add_entry.ensures in
    one_breaks c.args.entries.now c.args.ruling.now c.args.line c.args.number (c.args.number - 1) (string_bytes c.args.text.now) (string_bytes c.add_entry.new.text)
    x g c.requires.data counted inside is gate (sym c.breaks.ensures ∙ c.if-breaks.true) added
