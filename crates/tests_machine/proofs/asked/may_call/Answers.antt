use Rattle.std.proofs.Common.{◌≡◌, ◌*◌, true, length, subst, rules}
use Rattle.def_profile.specs.declared.seals.TheConstants.{EXPORT_TYPE}
use Rattle.def_words.specs.declared.Cap.{Cap}
use Rattle.def_words.specs.Seals.{cap_seal}
use Rattle.def_reach.specs.Roots.{root_of}
use Rattle.ct_areas.specs.Parts.{register_in}
use Rattle.ct_switch.specs.Exports.{AreSorted, IsCallable}
use Rattle.tests_machine.proofs.asked.may_call.Goals as goal

pub names_callable-requires-clause-sorted : goal.names_callable-requires-clause-sorted
names_callable-requires-clause-sorted g c =
    let gates : c.as_slice.result.now ≡ c.args.e.now.gates = search rules in
    subst (λ gs. AreSorted gs) gates (c.are_sorted-sorted.ensures c.if-sorted.true)

pub returns-then-sorted : goal.returns-then-sorted
returns-then-sorted g c =
    let t = c.args.t.now in
    let e = c.args.e.now in
    let gates : c.as_slice.result.now ≡ e.gates = search rules in
    let import : c.import_of-import.result ≡ register_in t 6 = c.import_of-import.ensures in
    let size : c.size-size.result ≡ 8 * length (g.M.Memory.granules c.args.mem.now) = c.size-size.ensures in
    λ so. record {
      ready = c.is_ready-ready.ensures c.if-ready.true;
      sorted = subst (λ gs. AreSorted gs) gates (c.are_sorted-sorted.ensures c.if-sorted.true);
      import =
          subst (λ n. (register_in t 6).tag ≡ true → cap_seal (register_in t 6) ≡ EXPORT_TYPE → IsCallable e t.area.ram n (root_of e (register_in t 6).shadow.root).of) size
          (subst (λ (i : Cap). i.tag ≡ true → cap_seal i ≡ EXPORT_TYPE → IsCallable e t.area.ram c.size-size.result (root_of e i.shadow.root).of) import (c.names_callable.ensures so));
    }
