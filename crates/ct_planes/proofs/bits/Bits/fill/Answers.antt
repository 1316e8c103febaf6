use Rattle.std.proofs.Common.{◌≡◌, ◌≤◌, ◌∙◌, length, sym, ap, arith, subst}
use Rattle.std.specs.Vec.{with_items}
use Rattle.ct_planes.specs.Bits.{Kept, flags_of, Spells}
use Rattle.ct_planes.specs.Fills.{filled}
use Rattle.ct_planes.proofs.Fillings.{length_filled}
use Rattle.ct_planes.proofs.Spelling.{written_anew, length_flags}
use Rattle.ct_planes.proofs.bits.Bits.fill.Goals as goal

-- what the words spell then
filled_is : (c : goal.After-self-1)
    → Kept c.self.inside.count (with_items c.self.inside.words c.fill_in.new.words).items
    × (flags_of c.self.inside.count (with_items c.self.inside.words c.fill_in.new.words).items ≡ filled c.args.from c.args.to c.args.on (flags_of c.self.inside.count c.self.inside.words.items))
filled_is c =
    let v = c.self.inside.words in
    let flags = flags_of c.self.inside.count v.items in
    let old : Spells flags c.deref_mut.result.now = rw c.deref_mut.ensures.value c.self.invariant.1 in
    let inside : c.args.to ≤ length flags = subst (λ l. c.args.to ≤ length l) (sym c.self.view_is) c.requires.inside in
    written_anew c.self.inside.count v c.fill_in.new.words (filled c.args.from c.args.to c.args.on flags) c.self.invariant.0 (c.fill_in.ensures.size ∙ c.deref_mut.ensures.len)
    (length_filled c.args.from c.args.to c.args.on flags ∙ length_flags c.self.inside.count v.items) (c.fill_in.ensures.spells flags old inside)

pub invariant_of-self : goal.invariant_of-self
invariant_of-self c = (filled_is c).0

pub returns : goal.returns
returns c = (filled_is c).1 ∙ ap (λ l. filled c.args.from c.args.to c.args.on l) c.self.view_is

pub fill_in-requires-clause-small : goal.fill_in-requires-clause-small
fill_in-requires-clause-small c =
    let flags = flags_of c.self.inside.count c.self.inside.words.items in
    let inside : c.args.to ≤ length flags = subst (λ l. c.args.to ≤ length l) (sym c.self.view_is) c.requires.inside in
    omega (arith, inside, c.self.invariant.0, length_flags c.self.inside.count c.self.inside.words.items)
