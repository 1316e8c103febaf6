use Rattle.std.proofs.Common.{◌+◌, ◌<◌, List, length, refl, sym, ap, ◌∙◌, subst, arith}
use Rattle.def_desc.specs.Rows.{DescCompartment, DescRow}
use Rattle.def_link.specs.Linked.{compartment_parts}
use Rattle.ct_link.specs.Rows.{IsSized, IsSmallOwner, row_entries}
use Rattle.ct_link.proofs.Parts.{own_part_pushed}
use Rattle.ct_link.proofs.Stretches.{here, below_in, read_in}
use Rattle.ct_link.proofs.Sums.{sum_grown}
use Rattle.ct_link.proofs.owners.compartment_parts.Goals as goal

pub loop-compartment-init : goal.loop-compartment-init
unfolding compartment_parts
loop-compartment-init c = (refl, omega arith, omega arith, omega arith, c.new-parts.ensures.items)

pub compartment_part-requires-clause-row : goal.compartment_part-requires-clause-row
compartment_part-requires-clause-row c =
    let all = c.as_slice-compartment-items.ensures.value ∙ ap (λ (d : DescRow). d.compartments) c.desc.view_is in
    let k = c.loop-compartment.compartment-index in
    let low = below_in _ c.args.desc.now.compartments k all c.loop-compartment-test.true in
    let is = read_in _ c.args.desc.now.compartments k _ _ all c.compartment-item.is in
    here IsSmallOwner c.args.desc.now.compartments k _ c.compartment-item.result c.requires.own.rows low is

pub compartment_part-requires-clause-object : goal.compartment_part-requires-clause-object
compartment_part-requires-clause-object c =
    let l = c.loop-compartment in
    let all = c.as_slice-compartment-items.ensures.value ∙ ap (λ (d : DescRow). d.compartments) c.desc.view_is in
    let low : l.index < length c.args.objects.now =
    subst (λ n. l.index < n) (ap (λ (r : List DescCompartment). length r) all ∙ c.requires.own.each) (subst (λ n. n < length c.as_slice-compartment-items.result.now) (sym l.invariant.0) c.loop-compartment-test.true) in
    here IsSized c.args.objects.now l.index _ c.index-objects-index.result c.requires.own.objects low c.index-objects-index.is

pub entry_count-entry-requires : goal.entry_count-entry-requires
entry_count-entry-requires c =
    let all = c.as_slice-compartment-items.ensures.value ∙ ap (λ (d : DescRow). d.compartments) c.desc.view_is in
    let k = c.loop-compartment.compartment-index in
    let low = below_in _ c.args.desc.now.compartments k all c.loop-compartment-test.true in
    let is = read_in _ c.args.desc.now.compartments k _ _ all c.compartment-item.is in
    here IsSmallOwner c.args.desc.now.compartments k _ c.compartment-item.result c.requires.own.rows low is

pub loop-compartment-preserved : goal.loop-compartment-preserved
loop-compartment-preserved c =
    let l = c.loop-compartment in
    let h = l.invariant in
    let cs = c.args.desc.now.compartments in
    let x = c.compartment-item.result in
    let all = c.as_slice-compartment-items.ensures.value ∙ ap (λ (d : DescRow). d.compartments) c.desc.view_is in
    let k = c.loop-compartment.compartment-index in
    let low = below_in _ c.args.desc.now.compartments k all c.loop-compartment-test.true in
    let is = read_in _ c.args.desc.now.compartments k _ _ all c.compartment-item.is in
    let few = c.entry_count-entry.ensures.few in
    let at = h.1 in
    let most = h.3 in (
      ap (λ n. n + 1) h.0,
      omega (arith, at),
      sum_grown row_entries cs k _ x 1 l.entry c.entry_count-entry.result h.2 low is c.entry_count-entry.ensures.value,
      omega (arith, most, few),
      own_part_pushed c.args.desc.now c.args.regions.now cs c.args.objects.now k l.index l.at l.entry _ x _ c.index-objects-index.result l.parts.items c.push.new.self.items c.in_ok-part.part
          h.0 h.1 h.2 h.4 low c.requires.own.each is c.index-objects-index.is c.in_ok-part.ensures c.in_ok-push.ensures.items,
    )
