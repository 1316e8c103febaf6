use Rattle.std.proofs.Common.{◌≡◌, ◌*◌, ◌/◌, ◌∙◌, true, length, refl, sym, ap}
use Rattle.def_words.specs.declared.Cap.{Cap}
use Rattle.def_step.specs.Switch.{Trapped, TooDeep, NoStack, Enters}
use Rattle.def_machine.specs.Frames.{Given}
use Rattle.ct_areas.specs.Threads.{thread_of}
use Rattle.ct_switch.specs.declared.exports.Export.{Export}
use Rattle.ct_switch.specs.declared.calls.Called.TheVariants as called
use Rattle.ct_switch.specs.Calls.{decided, switch_in, given_from, given_in}
use Rattle.ct_switch.proofs.Entering.{refused_so, enterable, given_same, call_told, call_thread, call_memory, call_row}
use Rattle.ct_switch.proofs.Threads.{entered_others}
use Rattle.ct_switch.proofs.calls.call.Goals as goal

pub returns-in-Trapped : goal.returns-in-Trapped
returns-in-Trapped g c =
    let kept = refused_so (g.M.Memory.granules c.args.mem.now) c.args.e.now c.args.t.now (Trapped c.in-Trapped.trap) tt (sym (ap (λ d. decided d) c.in-Trapped.is) ∙ c.decide.ensures.is) in
    record { result = kept.result; thread = kept.thread; memory = kept.memory; row = kept.row; others = λ u runs other. refl }

pub returns-in-TooDeep : goal.returns-in-TooDeep
returns-in-TooDeep g c =
    let kept = refused_so (g.M.Memory.granules c.args.mem.now) c.args.e.now c.args.t.now TooDeep tt (sym (ap (λ d. decided d) c.in-TooDeep.is) ∙ c.decide.ensures.is) in
    record { result = kept.result; thread = kept.thread; memory = kept.memory; row = kept.row; others = λ u runs other. refl }

pub returns-in-NoStack : goal.returns-in-NoStack
returns-in-NoStack g c =
    let kept = refused_so (g.M.Memory.granules c.args.mem.now) c.args.e.now c.args.t.now NoStack tt (sym (ap (λ d. decided d) c.in-NoStack.is) ∙ c.decide.ensures.is) in
    record { result = kept.result; thread = kept.thread; memory = kept.memory; row = kept.row; others = λ u runs other. refl }

pub head_of-at-requires-clause-callable : goal.head_of-at-requires-clause-callable
head_of-at-requires-clause-callable g c = (enterable c.args.e.now (8 * length (g.M.Memory.granules c.args.mem.now)) c.args.t.now _ _ _ c.in-Enters.is c.decide.ensures.enters).callable

pub head_of-at-requires-clause-callee : goal.head_of-at-requires-clause-callee
head_of-at-requires-clause-callee g c = ap (λ (x : Export). x.callee) (enterable c.args.e.now (8 * length (g.M.Memory.granules c.args.mem.now)) c.args.t.now _ _ _ c.in-Enters.is c.decide.ensures.enters).is

pub enter-requires : goal.enter-requires
enter-requires g c =
    let may = enterable c.args.e.now (8 * length (g.M.Memory.granules c.args.mem.now)) c.args.t.now _ _ _ c.in-Enters.is c.decide.ensures.enters in
    record { ready = c.requires.ready; room = may.room; low = may.above; high = may.below; even = may.even }

pub returns-in-Enters : goal.returns-in-Enters
returns-in-Enters g c =
    let gs = g.M.Memory.granules c.args.mem.now in
    let t = c.args.t.now in
    let e = c.args.e.now in
    let x = c.in-Enters.export in
    let high = c.in-Enters.high in
    let hs = g.M.Memory.granules c.enter.new.mem in
    let is : Enters x.number high ≡ switch_in gs e t = sym (ap (λ d. decided d) c.in-Enters.is) ∙ c.decide.ensures.is in
    let may = enterable e (8 * length gs) t _ x high c.in-Enters.is c.decide.ensures.enters in
    let given : Given = given_from c.head_in-head.result t x.code high in
    let start : given ≡ given_in gs e t x.number high =
    given_same gs e t x (c.head_of-at.result / 8) high c.head_in-head.result may.is c.head_of-at.ensures.is c.head_in-head.ensures in
    record {
      result = ap (λ n. called.Entered n x.number) (c.entry_of-entry.ensures ∙ ap (λ (k : Cap). k.shadow.root) c.register-import.ensures)
          ∙ call_told gs e t x.number high is;
      thread = call_thread gs e t x high given (thread_of hs true c.enter.new.t) is may.is start c.enter.ensures.thread;
      memory = call_memory gs e t x.number high hs is c.enter.ensures.memory;
      row = call_row gs e t c.enter.new.t x high given is may.is start c.enter.ensures.row;
      others = λ u runs other. ap (λ l. thread_of l runs u) c.enter.ensures.memory
          ∙ entered_others gs t u runs x.number high c.requires.ready may.room may.above may.below may.even other;
    }
