use Rattle.std.proofs.Common.{◌≡◌, ◌<◌, ◌∙◌, length, sym, ap, subst}
use Rattle.std.proofs.Math.ListN.{set}
use Rattle.std.specs.Vec.{with_items}
use Rattle.std.proofs.lemmas.List.{length-set}
use Rattle.ct_planes.specs.Bits.{Kept, flags_of, Spells}
use Rattle.ct_planes.proofs.Spelling.{written_anew, length_flags}
use Rattle.ct_planes.proofs.bits.Bits.put.Goals as goal

-- what the words spell then
put_is : (c : goal.After-self-1)
    → Kept c.self.inside.count (with_items c.self.inside.words c.put_in.new.words).items
    × (flags_of c.self.inside.count (with_items c.self.inside.words c.put_in.new.words).items ≡ set (flags_of c.self.inside.count c.self.inside.words.items) c.args.i c.args.on)
put_is c =
    let v = c.self.inside.words in
    let flags = flags_of c.self.inside.count v.items in
    let old : Spells flags c.deref_mut.result.now = rw c.deref_mut.ensures.value c.self.invariant.1 in
    let inside : c.args.i < length flags = subst (λ l. c.args.i < length l) (sym c.self.view_is) c.requires in
    written_anew c.self.inside.count v c.put_in.new.words (set flags c.args.i c.args.on) c.self.invariant.0 (c.put_in.ensures.size ∙ c.deref_mut.ensures.len)
    (length-set flags c.args.i c.args.on ∙ length_flags c.self.inside.count v.items) (c.put_in.ensures.spells flags old inside)

pub invariant_of-self : goal.invariant_of-self
invariant_of-self c = (put_is c).0

pub returns : goal.returns
returns c = (put_is c).1 ∙ ap (λ l. set l c.args.i c.args.on) c.self.view_is
