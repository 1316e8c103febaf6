use Rattle.std.proofs.Common.{◌≡◌, ◌≤◌, length, ap, ◌∙◌, arith}
use Rattle.def_layout.specs.declared.Region.{Region}
use Rattle.ct_link.proofs.Parts.{sealed_of, sealed_in, sealed_all}
use Rattle.ct_link.proofs.Stretches.{numbered_pushed, all_numbered}
use Rattle.ct_link.proofs.objects.sealed_parts.Goals as goal

pub loop-sealed-preserved : goal.loop-sealed-preserved
loop-sealed-preserved c =
    let l = c.loop-sealed in
    let x = c.sealed-item.result in
    let made : c.in_ok-sealed_part.field-0 ≡ sealed_in c.args.regions.now l.at x = c.in_ok-sealed_part.ensures ∙ ap (λ (r : Region). sealed_of r x) c.region_at.ensures in
    numbered_pushed (sealed_in c.args.regions.now) c.args.first c.args.all.now l.sealed-index l.at _ x l.parts.items c.push.new.self.items c.in_ok-sealed_part.field-0
    l.invariant c.loop-sealed-test.true c.sealed-item.is made c.in_ok-push.ensures.items

pub returns : goal.returns
returns c =
    let l = c.loop-sealed in
    let past = c.loop-sealed-test.false in
    let end : length c.args.all.now ≤ l.sealed-index = omega (arith, past) in
    all_numbered (sealed_in c.args.regions.now) c.args.first c.args.all.now l.sealed-index l.parts.items l.invariant.1 end ∙ sealed_all c.args.regions.now c.args.first c.args.all.now
