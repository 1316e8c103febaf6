use Rattle.std.proofs.Common.{◌≡◌, ◌-◌, ◌∙◌, length, take, drop, replicate, ap, arith}
use Rattle.std.proofs.lemmas.List.{length-take-le, length-drop}
use Rattle.def_words.specs.Capability.{nowhere}
use Rattle.ct_planes.proofs.Fillings.{filled_mid}
use Rattle.ct_planes.proofs.shadows.clear_in.Goals as goal

pub returns : goal.returns
returns c =
    let xs = c.args.rows.now in
    let width = c.args.to - c.args.from in
    let many : length (take width (drop c.args.from xs)) ≡ width = length-take-le width (drop c.args.from xs) (omega (arith, length-drop c.args.from xs, c.requires.inside)) in
    let new : c.fill.new.self ≡ replicate width nowhere = c.fill.ensures.after (λ y same. same) ∙ ap (λ n. replicate n nowhere) many in
    filled_mid c.args.from c.args.to nowhere xs c.fill.new.self c.requires.order c.requires.inside new
