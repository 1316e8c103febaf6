use Rattle.std.proofs.Common.{ℕ, ◌≡◌, ◌+◌, ◌/◌, false, replicate}
use Rattle.std.proofs.lemmas.List.{length-replicate}
use Rattle.ct_planes.proofs.Spelling.{spells_new, kept, kept_flags}
use Rattle.ct_planes.proofs.bits.Bits.new.Goals as goal

pub invariant_of-result : goal.invariant_of-result
invariant_of-result c =
    let zeros : c.in_ok-words.words.items ≡ replicate {A = ℕ} ((c.args.count + 63) / 64) 0 = c.in_ok-words.ensures.items_if_clones_equal (λ y h. h) in
    rw zeros (kept c.args.count (replicate ((c.args.count + 63) / 64) 0) (replicate c.args.count false) c.requires (length-replicate c.args.count false) (spells_new c.args.count))

pub returns : goal.returns
returns c =
    let zeros : c.in_ok-words.words.items ≡ replicate {A = ℕ} ((c.args.count + 63) / 64) 0 = c.in_ok-words.ensures.items_if_clones_equal (λ y h. h) in
    rw zeros (kept_flags c.args.count (replicate ((c.args.count + 63) / 64) 0) (replicate c.args.count false) (length-replicate c.args.count false) (spells_new c.args.count))
