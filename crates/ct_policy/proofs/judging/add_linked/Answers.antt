use Rattle.std.proofs.Common.{◌≡◌, ◌+◌, ◌<◌, ◌++◌, ◌∙◌, length, get_or, string_bytes, ap, sym, subst, arith}
use Rattle.ct_entry.specs.Listed.{Listed}
use Rattle.ct_entry.specs.declared.rows.Entry.{Entry}
use Rattle.ct_entry.specs.declared.rows.Gate.{Gate}
use Rattle.def_reach.specs.Roots.{gate_for, no_gate}
use Rattle.def_policy.specs.Breaking.{counted}
use Rattle.def_policy.specs.Denials.{entry_line}
use Rattle.def_policy.specs.Rulings.{Ruling}
use Rattle.ct_policy.proofs.Judged.{Walks, has_next, is_after, next_breaks, next_holds, sets_out}
use Rattle.ct_policy.proofs.judging.add_linked.Goals.{then-breaks+in_ok-add_entry, else-breaks}
use Rattle.ct_policy.proofs.judging.add_linked.Goals as goal

pub loop-place-init : goal.loop-place-init
loop-place-init c =
    sets_out c.args.entries.now c.args.ruling.now c.args.links.now c.args.key c.args.line (string_bytes c.args.text.now) c.first-place.result c.requires.links c.first-place.ensures

pub after-place-requires : goal.after-place-requires
after-place-requires c =
    let seen : length c.entries.inside.rows.items ≡ length c.args.entries.now.rows = ap (λ (e : Listed). length e.rows) c.entries.view_is in
    let inside : c.loop-place.place < length c.args.entries.now.rows = omega (arith, seen, c.len.ensures, c.entries.inside.rows.ok, c.loop-place-test.true) in
    has_next c.args.entries.now c.args.ruling.now c.args.links.now c.args.key c.loop-place.place c.requires.links inside

pub loop-place-smaller : goal.loop-place-smaller
loop-place-smaller c =
    let seen : length c.entries.inside.rows.items ≡ length c.args.entries.now.rows = ap (λ (e : Listed). length e.rows) c.entries.view_is in
    let inside : c.loop-place.place < length c.args.entries.now.rows = omega (arith, seen, c.len.ensures, c.entries.inside.rows.ok, c.loop-place-test.true) in
    let after : c.loop-place.place < c.after-place.result =
    is_after c.args.entries.now c.args.ruling.now c.args.links.now c.args.key c.loop-place.place c.after-place.result c.requires.links inside c.after-place.ensures in
    omega (arith, inside, after)

pub loop-place-preserved : goal.loop-place-preserved
loop-place-preserved c =
    let x : Entry = c.index-entry.result.now in
    let g : Gate = get_or c.args.gates.now c.loop-place.place no_gate in
    let seen : length c.entries.inside.rows.items ≡ length c.args.entries.now.rows = ap (λ (e : Listed). length e.rows) c.entries.view_is in
    let inside : c.loop-place.place < length c.args.entries.now.rows = omega (arith, seen, c.len.ensures, c.entries.inside.rows.ok, c.loop-place-test.true) in
    let is : x ≡ get_or c.args.entries.now.rows c.loop-place.place x = c.index-entry.ensures ∙ ap (λ (e : Listed). get_or e.rows c.loop-place.place x) c.entries.view_is in
    let gate : g ≡ gate_for c.args.entries.now.gates (c.loop-place.place + 1) = c.requires.gates.each c.loop-place.place inside in
    let counts : c.counted-sum.result ≡ counted c.args.ruling.now.subject x = c.counted-sum.ensures.is ∙ ap (λ (r : Ruling). counted r.subject x) c.ruling.view_is in
    elim c.if-breaks.branch [
      | then-breaks+in_ok-add_entry w ↦
          let added : string_bytes w.add_entry.new.text ≡ string_bytes c.loop-place.text ++ entry_line c.args.line (c.loop-place.place + 1) = w.in_ok-add_entry.ensures in
          next_breaks c.args.entries.now c.args.ruling.now c.args.links.now c.args.key c.args.line (string_bytes c.args.text.now) (string_bytes c.loop-place.text) (string_bytes c.if-breaks.text)
          c.loop-place.place c.after-place.result c.loop-place.sum c.counted-sum.result x g c.requires.links inside is gate counts c.counted-sum.ensures.small
          (sym c.breaks.ensures ∙ w.if-breaks.true) (ap string_bytes w.text-is ∙ added) c.after-place.ensures c.loop-place.invariant
      | else-breaks w ↦
          subst (λ t. Walks c.args.entries.now c.args.ruling.now c.args.links.now c.args.key c.args.line (string_bytes c.args.text.now) c.after-place.result (c.loop-place.sum + c.counted-sum.result) t)
          (ap string_bytes (sym w.text-is))
          (next_holds c.args.entries.now c.args.ruling.now c.args.links.now c.args.key c.args.line (string_bytes c.args.text.now) (string_bytes c.loop-place.text)
          c.loop-place.place c.after-place.result c.loop-place.sum c.counted-sum.result x g c.requires.links inside is gate counts c.counted-sum.ensures.small
          (sym c.breaks.ensures ∙ w.if-breaks.false) c.after-place.ensures c.loop-place.invariant)
    ]
