use Rattle.std.proofs.Common.{◌≡◌, ◌*◌, ◌/◌, ◌∙◌, List, length, replicate, sym, ap, subst, arith}
use Rattle.std.proofs.lemmas.List.{length-replicate}
use Rattle.def_memory.specs.declared.Granule.{Granule}
use Rattle.def_memory.specs.Granules.{plain, nothing, cap_in}
use Rattle.ct_areas.specs.Threads.{HasArea}
use Rattle.law_granules.proofs.Lists.{none_held}
use Rattle.tests_machine.proofs.firmware.thread.Goals as goal

pub new-t-requires-clause-area : goal.new-t-requires-clause-area
new-t-requires-clause-area c =
    let whole = c.requires.whole in
    let size : 8 * (c.args.size / 8) ≡ c.args.size = omega (arith, whole) in
    let long : 8 * length c.in_ok-mem.mem ≡ c.args.size = ap (λ (gs : List Granule). 8 * length gs) c.in_ok-mem.ensures ∙ (ap (λ n. 8 * n) (length-replicate (c.args.size / 8) nothing) ∙ size) in
    subst (λ n. HasArea n c.args.area) (sym long) c.requires.area

pub new-t-requires-clause-clear : goal.new-t-requires-clause-clear
new-t-requires-clause-clear c = λ k low high. subst (λ gs. cap_in gs k ≡ plain 0) (sym c.in_ok-mem.ensures) (none_held (c.args.size / 8) k)
