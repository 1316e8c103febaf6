-- What a native routine asks, and that what it came to is what the written one comes to.
use Rattle.std.proofs.Common.{ℕ, ◌%◌, ◌==◌, ◌≡◌, ◌≤◌, ◌<◌, Bool, length, inr, List, Option, Some, None, refl, sym, ap, ◌∙◌, subst}
use Rattle.std.proofs.lemmas.Bool.{eqb-true, and_parts}
use Rattle.ct_entry.specs.Listed.{Listed}
use Rattle.ct_entry.specs.declared.rows.Kind.TheVariants as kind
use Rattle.def_words.specs.declared.Cap.{Cap}
use Rattle.def_words.specs.Seals.{cap_seal}
use Rattle.def_sched.specs.declared.Status.{Status}
use Rattle.def_reach.specs.Roots.{Listing, is_quota}
use Rattle.def_confined.specs.Capabilities.{Rooted}
use Rattle.def_confined.specs.Confined.{Confined}
use Rattle.def_confined.specs.Facts.{Facts}
use Rattle.def_machine.specs.Image.{Image, root}
use Rattle.def_machine.specs.State.{State, Counts, thread, register}
use Rattle.def_machine.specs.Platform.{Platform, MachineRow}
use Rattle.def_step.specs.Devices.{DeviceStates}
use Rattle.def_step.specs.Quotas.{is_quota_cap}
use Rattle.def_step.specs.Native.{native}
use Rattle.def_step.specs.Routines as routine
use Rattle.def_step.specs.Instructions.{ran, served, trapped}
use Rattle.law_moves.proofs.JumpsMoves.{in_rooted}
use Rattle.ct_sched.specs.Sched as sched
use Rattle.ct_sched.specs.Sched.{SchedRow}
use Rattle.ct_engine.specs.Seen.{EngineRow}
use Rattle.ct_engine.specs.Calls.{MayCall, switch_at}
use Rattle.ct_execute.specs.declared.ran.Ran.{Ran}
use Rattle.ct_execute.specs.declared.ran.Ran.TheVariants.{Went, Returned, Native, Trapped}
use Rattle.ct_execute.specs.Deciding.{IfUnfinished}
use Rattle.ct_services.specs.Conditions.{MayServe}
use Rattle.ct_services.specs.Arguments.{NamesQuota}
use Rattle.ct_services.specs.Serves.{ComesTo, HoldsCallee, HoldsRoutine, IsServedOf, routine_or_trap}
use Rattle.ct_services.proofs.Serving.{register_alike}
use Rattle.law_callable.proofs.Calls.{may_call, entered_stands}
use Rattle.law_callable.proofs.Showing.{ShowsCaller}
use Rattle.ct_machine.specs.Starting.{IsOfSound}
use Rattle.ct_machine.specs.Parts.{state_by, IsKept, IsCounted}
use Rattle.ct_machine.specs.Going.{CameTo, IsDone, MayGoOn, Runs}
use Rattle.ct_machine.proofs.Taking.{ram_is}
use Rattle.ct_machine.proofs.Keeping.{machine_by, stays_kept, unfinished_map}
use Rattle.ct_machine.proofs.Opened.{is_open, shows_caller, some_seen}
use Rattle.ct_machine.proofs.Sizes.{few_by, made_by}

-- a number of none traps
ran_or_trap : (b : Platform) (s : State) (t : ℕ) (x : Option routine.Ran)
    → ran b s t (routine_or_trap x) ≡ served b s t x
ran_or_trap b s t (Some x) = refl
ran_or_trap b s t None = refl

-- it comes to no second routine, and to no return
done_by : (after : State) (q : Ran) (x : routine.Ran) → ComesTo after q x → IsDone q
done_by after (Went acted) x is = tt
done_by after (Trapped why) x is = tt
done_by after Returned x is = absurd is
done_by after (Native number) x is = absurd is

module _ (i : Image) (e : EngineRow) (r : SchedRow) (k : DeviceStates) (pending : Bool) (time : ℕ) (c : Counts) (t : ℕ)
    (kept : IsKept i e r) where
  abbrev here : State
  here = state_by e r pending k.states time c

  abbrev machine : EngineRow → SchedRow → MachineRow
  machine x y = machine_by i x y k pending time c

  abbrev board : Platform
  board = record { image = i; bases = k.bases }

  -- ---- what it asks

  -- c10 is a quota's capability only where its root is a quota of the image
  names_quota : Facts i → Confined i here → NamesQuota e t
  names_quota facts held is =
      let ten = register_alike here e r.statuses t 10 in
      let c10 : Cap = register (thread here t) 10 in
      let both = and_parts c10.tag (cap_seal c10 == 10) (ap is_quota_cap (sym ten) ∙ is) in
      let sealed : cap_seal c10 ≡ 10 = eqb-true (cap_seal c10) 10 both.1 in
      let rooted : Rooted i c10 = in_rooted i here.objects t (thread here t).frames c10 (held.registers t 10) both.0 in
      let origin : (root i c10.shadow.root).origin ≡ Listing kind.Quota =
      facts.quotas c10.shadow.root (sym (rooted.boot (inr (inr (inr (inr sealed))))).seal ∙ sealed) in
      subst (λ (z : Cap). z.shadow.root < length e.limits) (sym ten) (kept.quotas c10.shadow.root (ap is_quota origin))

  shows : IsOfSound i → MayGoOn (machine e r) → Runs (machine e r) t → ShowsCaller i here e t
  shows sound may runs =
      shows_caller i e r pending k.states time c t kept sound may.keeps.confined (some_seen i e r pending k.states time c t runs.some)

  pub may_serve : (ram number : ℕ) (entries : Listed) (m : MachineRow) → machine e r ≡ m → MayGoOn m → Runs m t
      → m.state.next ≤ m.state.counts.steps → IsCounted c time e.state.next → ram ≡ i.ram → entries ≡ i.entries → IsOfSound i
      → MayServe e r.statuses t ram entries number
  may_serve ram number entries m is may_now runs_now few_now counted place listed sound =
      let may = subst MayGoOn (sym is) may_now in
      let runs = subst (λ (x : MachineRow). Runs x t) (sym is) runs_now in
      let few = subst (λ (x : MachineRow). x.state.next ≤ x.state.counts.steps) (sym is) few_now in
      record {
        runs = runs.runs;
        ready = kept.ready t runs.runs;
        quota = names_quota may.facts may.keeps.confined;
        opens = is_open i e r pending k.states time c t kept may.shut may.keeps.confined runs.runs;
        few = few_by c time e.state.next counted few;
        rows = may.rows;
        place = place ∙ sym (ram_is i e r kept);
        even = subst (λ n. n % 16 ≡ 0) (sym place) kept.placed.even;
        call = λ is. subst (λ (es : Listed). MayCall e t es) (sym listed)
            (may_call i here e t (shows sound may runs) (some_seen i e r pending k.states time c t runs.some));
      }

  -- the engine holds what the image has of the thread that calls, and of the callee
  pub holds_callee : (entries : Listed) (m : MachineRow) → machine e r ≡ m → MayGoOn m → Runs m t → entries ≡ i.entries → IsOfSound i
      → HoldsCallee i e t entries
  holds_callee entries m is may runs listed sound =
      let caller = shows sound (subst MayGoOn (sym is) may) (subst (λ (x : MachineRow). Runs x t) (sym is) runs) in
      record {
        entries = listed;
        shows = record { ram = ram_is i e r kept; granules = refl; thread = refl; stack = caller.placed.base_is; frames = caller.placed.room_is };
        heads = λ export high enters. entered_stands i here e t export high caller (ap (λ (es : Listed). switch_at e es t) (sym listed) ∙ enters);
      }

  -- ---- what it came to

  came_ran : (new : EngineRow) (row : SchedRow) (q : Ran) (x : routine.Ran) → ComesTo (machine new row).state q x
      → IfUnfinished q (machine new row ≡ machine e r) → CameTo (machine e r) (machine new row) t q (ran board here t x)
  came_ran new row (Went None) x is same = rw is (record { is = refl; board = refl; counts = refl; unfinished = tt })
  came_ran new row (Went (Some d)) x is same = rw is (record { is = refl; board = refl; counts = refl; unfinished = tt })
  came_ran new row (Trapped why) x is same =
      rw is
      (record {
        is = ap (λ (m : MachineRow). trapped board m.state t why) same;
        board = refl;
        counts = refl;
        unfinished = same;
      })
  came_ran new row Returned x is same = absurd is
  came_ran new row (Native number) x is same = absurd is

  module _ (number : ℕ) (entries : Listed) (new : EngineRow) (row : SchedRow) (q : Ran) (turn : row ≡ sched.with_statuses r row.statuses)
      (h : IsServedOf (HoldsRoutine e r.statuses t entries number) e r.statuses new row.statuses q (λ j m. routine_or_trap (native j m t number))) where
    -- the machine that it left, and what the written routine comes to
    abbrev left : MachineRow
    left = machine new (sched.with_statuses r row.statuses)

    abbrev written : routine.Ran
    written = routine_or_trap (native i here t number)

    comes : HoldsCallee i e t entries → ComesTo left.state q written
    comes callee = h.comes i here (record { ram = ram_is i e r kept; heap = kept.heap; statuses = kept.statuses }, λ is. callee)

    -- where it traps nothing has changed
    stays : IfUnfinished q (left ≡ machine e r)
    stays =
        unfinished_map q _ _
        (λ same.
        ap (λ (x : EngineRow). machine x (sched.with_statuses r row.statuses)) same.0
        ∙ ap (λ (ss : List Status). machine e (sched.with_statuses r ss)) same.1)
        h.same

    pub came_served : HoldsCallee i e t entries → CameTo (machine e r) (machine new row) t q (served board here t (native i here t number))
    came_served callee =
        subst (CameTo (machine e r) (machine new row) t q) (ran_or_trap board here t (native i here t number))
        (subst (λ (y : SchedRow). CameTo (machine e r) (machine new y) t q (ran board here t written)) (sym turn)
        (came_ran new (sched.with_statuses r row.statuses) q written (comes callee) stays))

    pub served_done : HoldsCallee i e t entries → IsDone q
    served_done callee = done_by left.state q written (comes callee)

    -- one object is made at most
    pub served_kept : (m : MachineRow) → machine e r ≡ m → m.state.next ≤ m.state.counts.steps
        → IsCounted c time e.state.next → IsKept i new row × IsCounted c time new.state.next
    served_kept m is few counted = (
      subst (IsKept i new) (sym turn) (stays_kept i e new r row.statuses kept h.beside h.many (h.ready kept.ready)),
      made_by c time e.state.next new.state.next counted
          (subst (λ (x : MachineRow). x.state.next ≤ x.state.counts.steps) (sym is) few) h.made,
    )
