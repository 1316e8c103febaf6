use Rattle.std.proofs.Common.{◌≡◌, ◌≤◌, length, ap, ◌∙◌, arith}
use Rattle.def_layout.specs.declared.Region.{Region}
use Rattle.ct_link.proofs.Parts.{shared_of, shared_in, shared_all}
use Rattle.ct_link.proofs.Stretches.{numbered_pushed, all_numbered}
use Rattle.ct_link.proofs.objects.shared_parts.Goals as goal

pub loop-shared-preserved : goal.loop-shared-preserved
loop-shared-preserved c =
    let l = c.loop-shared in
    let x = c.shared-item.result in
    let made : c.in_ok-shared_part.field-0 ≡ shared_in c.args.regions.now l.at x = c.in_ok-shared_part.ensures ∙ ap (λ (r : Region). shared_of r x) c.region_at.ensures in
    numbered_pushed (shared_in c.args.regions.now) c.args.first c.args.all.now l.shared-index l.at _ x l.parts.items c.push.new.self.items c.in_ok-shared_part.field-0
    l.invariant c.loop-shared-test.true c.shared-item.is made c.in_ok-push.ensures.items

pub returns : goal.returns
returns c =
    let l = c.loop-shared in
    let past = c.loop-shared-test.false in
    let end : length c.args.all.now ≤ l.shared-index = omega (arith, past) in
    all_numbered (shared_in c.args.regions.now) c.args.first c.args.all.now l.shared-index l.parts.items l.invariant.1 end ∙ shared_all c.args.regions.now c.args.first c.args.all.now
