use Rattle.std.proofs.Common.{◌+◌, ◌<◌, List, length, refl, sym, ap, ◌∙◌, subst, arith}
use Rattle.def_desc.specs.Rows.{LibraryRow, DescRow}
use Rattle.def_link.specs.Linked.{library_parts}
use Rattle.ct_link.specs.Rows.{IsSized, IsSmallLibrary, library_row_entries}
use Rattle.ct_link.proofs.Parts.{lent_part_pushed}
use Rattle.ct_link.proofs.Stretches.{here, below_in, read_in}
use Rattle.ct_link.proofs.Sums.{sum_grown}
use Rattle.ct_link.proofs.owners.library_parts.Goals as goal

pub loop-library-init : goal.loop-library-init
unfolding library_parts
loop-library-init c = (refl, omega arith, omega arith, omega arith, c.new-parts.ensures.items)

pub library_part-requires-clause-row : goal.library_part-requires-clause-row
library_part-requires-clause-row c =
    let all = c.as_slice-library-items.ensures.value ∙ ap (λ (d : DescRow). d.libraries) c.desc.view_is in
    let k = c.loop-library.library-index in
    let low = below_in _ c.args.desc.now.libraries k all c.loop-library-test.true in
    let is = read_in _ c.args.desc.now.libraries k _ _ all c.library-item.is in
    here IsSmallLibrary c.args.desc.now.libraries k _ c.library-item.result c.requires.lent.rows low is

pub library_part-requires-clause-object : goal.library_part-requires-clause-object
library_part-requires-clause-object c =
    let l = c.loop-library in
    let all = c.as_slice-library-items.ensures.value ∙ ap (λ (d : DescRow). d.libraries) c.desc.view_is in
    let low : l.index < length c.args.objects.now =
    subst (λ n. l.index < n) (ap (λ (r : List LibraryRow). length r) all ∙ c.requires.lent.each) (subst (λ n. n < length c.as_slice-library-items.result.now) (sym l.invariant.0) c.loop-library-test.true) in
    here IsSized c.args.objects.now l.index _ c.index-objects-index.result c.requires.lent.objects low c.index-objects-index.is

pub library_entry_count-requires : goal.library_entry_count-requires
library_entry_count-requires c =
    let all = c.as_slice-library-items.ensures.value ∙ ap (λ (d : DescRow). d.libraries) c.desc.view_is in
    let k = c.loop-library.library-index in
    let low = below_in _ c.args.desc.now.libraries k all c.loop-library-test.true in
    let is = read_in _ c.args.desc.now.libraries k _ _ all c.library-item.is in
    here IsSmallLibrary c.args.desc.now.libraries k _ c.library-item.result c.requires.lent.rows low is

pub loop-library-preserved : goal.loop-library-preserved
loop-library-preserved c =
    let l = c.loop-library in
    let h = l.invariant in
    let ls = c.args.desc.now.libraries in
    let x = c.library-item.result in
    let all = c.as_slice-library-items.ensures.value ∙ ap (λ (d : DescRow). d.libraries) c.desc.view_is in
    let k = c.loop-library.library-index in
    let low = below_in _ c.args.desc.now.libraries k all c.loop-library-test.true in
    let is = read_in _ c.args.desc.now.libraries k _ _ all c.library-item.is in
    let few = c.library_entry_count.ensures.few in
    let at = h.1 in
    let most = h.3 in (
      ap (λ n. n + 1) h.0,
      omega (arith, at),
      sum_grown library_row_entries ls k _ x c.args.entry l.number c.library_entry_count.result h.2 low is c.library_entry_count.ensures.value,
      omega (arith, most, few),
      lent_part_pushed c.args.desc.now c.args.regions.now c.args.entry c.args.first ls c.args.objects.now k l.index l.at l.number _ x _ c.index-objects-index.result l.parts.items c.push.new.self.items c.in_ok-library_part.field-0
          h.0 h.1 h.2 h.4 low c.requires.lent.each is c.index-objects-index.is c.in_ok-library_part.ensures c.in_ok-push.ensures.items,
    )
