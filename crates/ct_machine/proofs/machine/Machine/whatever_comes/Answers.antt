use Rattle.std.proofs.Common.{subst}
use Rattle.def_events.specs.Guarded.{Guarded}
use Rattle.law_events.proofs.Running.{told_licensed}
use Rattle.law_history.proofs.Locals.{run_local}
use Rattle.law_history.proofs.Running.{run_upholds, run_unused, run_reuses, run_charges}
use Rattle.law_integrity.proofs.Whole.{events_kept, each_homes_kept, homes_stay}
use Rattle.law_truly.proofs.Whole.{events_exact}
use Rattle.ct_machine.proofs.machine.Machine.whatever_comes.Goals as goal

pub returns-clause-safe : goal.returns-clause-safe
returns-clause-safe g c es =
    let h = subst Guarded c.self.view_is c.self.invariant in
    run_upholds c.args.self.now.board h.partitioned h.facts h.wired c.args.self.now.state es h.inside h.shut h.keeps h.blank h.rows h.tokened

pub returns-clause-exact : goal.returns-clause-exact
returns-clause-exact g c es =
    let h = subst Guarded c.self.view_is c.self.invariant in
    events_exact c.args.self.now.board c.args.self.now.state es h.partitioned h.facts h.wired h.keeps h.framed

pub returns-clause-integrity : goal.returns-clause-integrity
returns-clause-integrity g c es =
    let h = subst Guarded c.self.view_is c.self.invariant in
    events_kept c.args.self.now.board c.args.self.now.state es h.partitioned h.facts h.wired h.keeps

pub returns-clause-homes : goal.returns-clause-homes
returns-clause-homes g c es =
    let h = subst Guarded c.self.view_is c.self.invariant in
    each_homes_kept c.args.self.now.board c.args.self.now.state es h.partitioned h.facts h.wired h.keeps

pub returns-clause-stay : goal.returns-clause-stay
returns-clause-stay g c es =
    let h = subst Guarded c.self.view_is c.self.invariant in
    homes_stay c.args.self.now.board c.args.self.now.state es h.partitioned h.facts h.wired h.keeps

pub returns-clause-locals : goal.returns-clause-locals
returns-clause-locals g c es =
    let h = subst Guarded c.self.view_is c.self.invariant in
    run_local c.args.self.now.board c.args.self.now.state es h.partitioned h.facts h.wired h.keeps h.locals

pub returns-clause-licensed : goal.returns-clause-licensed
returns-clause-licensed g c es =
    let h = subst Guarded c.self.view_is c.self.invariant in
    told_licensed c.args.self.now.board c.args.self.now.state es h.partitioned h.facts h.wired h.keeps

pub returns-clause-unused : goal.returns-clause-unused
returns-clause-unused g c es fs d n base long live frees act =
    let h = subst Guarded c.self.view_is c.self.invariant in
    run_unused c.args.self.now.board h.partitioned h.facts h.wired c.args.self.now.state h.keeps es fs d n base long live frees act

pub returns-clause-swept : goal.returns-clause-swept
returns-clause-swept g c es fs d n base long live a number from size left free freed made allocated meets =
    let h = subst Guarded c.self.view_is c.self.invariant in
    run_reuses c.args.self.now.board h.partitioned h.facts h.wired c.args.self.now.state es fs d n base long live a number from size left h.shut h.keeps h.blank free freed made allocated meets

pub returns-clause-quotas : goal.returns-clause-quotas
returns-clause-quotas g c es q =
    let h = subst Guarded c.self.view_is c.self.invariant in
    run_charges c.args.self.now.board h.partitioned h.facts h.wired c.args.self.now.state es q h.keeps
