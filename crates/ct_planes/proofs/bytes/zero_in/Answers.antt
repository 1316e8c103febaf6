use Rattle.std.proofs.Common.{ℕ, ◌≡◌, ◌-◌, ◌*◌, ◌∙◌, length, take, drop, replicate, ap, arith}
use Rattle.std.proofs.lemmas.List.{length-take-le, length-drop}
use Rattle.ct_planes.proofs.Holding.{holds_zeros}
use Rattle.ct_planes.proofs.bytes.zero_in.Goals as goal

pub returns-clause-holds : goal.returns-clause-holds
returns-clause-holds c ws h =
    let bs = c.args.bytes.now in
    let width = 8 * c.args.to - 8 * c.args.from in
    let many : length (take width (drop (8 * c.args.from) bs)) ≡ width = length-take-le width (drop (8 * c.args.from) bs) (omega (arith, length-drop (8 * c.args.from) bs, c.requires.inside)) in
    let new : c.fill.new.self ≡ replicate {A = ℕ} width 0 = c.fill.ensures.after (λ y same. same) ∙ ap (λ n. replicate {A = ℕ} n 0) many in
    holds_zeros ws bs c.fill.new.self c.args.from c.args.to h c.requires.order (omega (arith, c.requires.inside, h.size)) new
