use Rattle.std.proofs.Common.{◌≡◌, ◌∙◌, ap, subst, rules}
use Rattle.def_reach.specs.Roots.{root_of}
use Rattle.ct_switch.specs.Exports.{IsCallable}
use Rattle.tests_machine.proofs.asked.names_callable.Goals as goal

pub returns : goal.returns
returns c =
    let root : c.import.inside.cap.shadow.root ≡ c.args.import.shadow.root = search rules in
    let number : c.called-number.result ≡ (root_of c.args.e.now c.args.import.shadow.root).of =
    c.called-number.ensures ∙ ap (λ r. (root_of c.args.e.now r).of) root in
    λ so tag seal. subst (λ n. IsCallable c.args.e.now c.args.ram c.args.size n) number (c.is_callable.ensures so)
