-- What an instruction came to, with what is left to do, is the written step.
use Rattle.std.proofs.Common.{ℕ, ◌≡◌, List, Option, Some, None, option_map, Result, Ok, Err, refl, sym, ap, ◌∙◌}
use Rattle.ct_entry.specs.Listed.{Listed}
use Rattle.ct_entry.specs.declared.acts.Act.{Act}
use Rattle.ct_entry.specs.declared.acts.Deed.{Deed}
use Rattle.def_words.specs.declared.Cap.{Cap}
use Rattle.def_words.specs.declared.Trap.{Trap}
use Rattle.def_words.specs.Authority.{cap_address}
use Rattle.def_instr.specs.declared.Instr.{Instr}
use Rattle.def_reach.specs.Roots.{root_of}
use Rattle.def_sched.specs.declared.Status.{Status}
use Rattle.def_sched.specs.declared.Status.TheVariants.{Ready}
use Rattle.def_machine.specs.Image.{Image}
use Rattle.def_machine.specs.Platform.{Platform}
use Rattle.def_machine.specs.State.{State, Thread, register}
use Rattle.def_machine.specs.State as state
use Rattle.def_machine.specs.Threads.{jumped}
use Rattle.def_step.specs.declared.Next.{Next}
use Rattle.def_step.specs.declared.Next.TheVariants.{Instruction}
use Rattle.def_step.specs.Accesses.{MemoryAndDevices}
use Rattle.def_step.specs.Checks.{first_failed}
use Rattle.def_step.specs.Devices.{DeviceStates}
use Rattle.def_step.specs.Instructions.{Effect, actor_of, after_fetch, carried_out, deed, executed, fetch_checks, goes_on, instructed, instruction_end, next_at, put_done, space_of}
use Rattle.def_step.specs.Operands.{class_of, operands_of}
use Rattle.ct_engine.specs.Seen.{EngineRow, thread, after_jump, with_granules}
use Rattle.ct_engine.specs.Steps.{next_in, space_in}
use Rattle.ct_execute.specs.declared.ran.Ran.{Ran}
use Rattle.ct_execute.specs.declared.ran.Ran.TheVariants.{Went, Trapped}
use Rattle.ct_execute.specs.Deciding.{act_by, deed_by, finished, platform_with, state_at, ExecutesAsWritten, IfUnfinished, IsCarriedOut, Leaves, RanInRange, Stays}
use Rattle.ct_execute.proofs.Statuses.{changed_with, like_with}

module _ (e : Listed) (t time : ℕ) (s : EngineRow) (k : DeviceStates) where
  -- what stands where the program counter capability points
  pub record Fetches (c : Cap) (at : ℕ) (n : Next) : Type 0 where
    pub pcc : c ≡ (thread s t).pcc
    pub passes : None ≡ first_failed (fetch_checks c)
    pub place : at ≡ cap_address c
    pub stands : n ≡ next_in s at

  stays_same : Stays s s
  stays_same = record { beside = refl; size = refl; threads = refl }

  module _ (i : Image) (m : State) (ss : List Status) (ram : s.region.ram ≡ i.ram) where
    abbrev b : Platform
    b = platform_with i k

    abbrev here : State
    here = state_at m s ss k time

    space_is : space_in s k time ≡ space_of b here
    space_is = rw ram refl

    -- the scheduler's status is no part of what a thread does
    pcc_is : (thread s t).pcc ≡ (state.thread here t).pcc
    pcc_is = ap (λ (u : Thread). u.pcc) (sym (like_with s.state.threads ss t Ready))

    fetched_is : (c : Cap) (o : Option Trap) → c ≡ (thread s t).pcc → o ≡ first_failed (fetch_checks c) → after_fetch b here t o ≡ executed b here t
    unfolding executed
    fetched_is c o here_is is = ap (after_fetch b here t) (is ∙ ap (λ (x : Cap). first_failed (fetch_checks x)) (here_is ∙ pcc_is))

    next_is : (c : Cap) (at : ℕ) (n : Next) → Fetches c at n → goes_on b here t n ≡ executed b here t
    next_is c at n f =
        ap (goes_on b here t)
        (f.stands ∙ ap (next_in s) (f.place ∙ ap cap_address (f.pcc ∙ pcc_is)) ∙ ap (λ (p : MemoryAndDevices). next_at p (cap_address (state.thread here t).pcc)) space_is)
        ∙ fetched_is c None f.pcc f.passes

    abbrev outcome_of : Instr → ℕ → Thread → MemoryAndDevices → Result Effect Trap
    outcome_of x named u p =
        carried_out (class_of x) x (operands_of x).to (register u (operands_of x).first) (register u (operands_of x).second) named
        (record { pcc = u.pcc; posture = u.posture; space = p })

    abbrev end_of : Instr → Listed → Thread → MemoryAndDevices → State × Option Deed
    end_of x es u p =
        let c : Cap = register u (operands_of x).first in
        instruction_end b here t c (outcome_of x (root_of es c.shadow.root).of u p)

    instructed_is : (x : Instr) → e ≡ i.entries → end_of x e (thread s t) (space_in s k time) ≡ instructed b here t x
    instructed_is x same =
        ap (λ (es : Listed). end_of x es (thread s t) (space_in s k time)) same
        ∙ ap (λ (p : MemoryAndDevices). end_of x i.entries (thread s t) p) space_is
        ∙ ap (λ (u : Thread). end_of x i.entries u (space_of b here)) (sym (like_with s.state.threads ss t Ready))

    done_is : (d : Effect) → state_at m (with_granules (after_jump s t d.pcc d.posture d.to d.value) d.granules) ss d.bank time ≡ put_done here t d
    done_is d =
        ap (λ (ts : List Thread). record here { granules = d.granules; threads = ts; devices = d.bank.states })
        (sym (changed_with (λ (u : Thread). jumped u d.pcc d.posture d.to d.value) (λ u q. refl) s.state.threads ss t))

    deed_is : (entry : ℕ) (act : Option Act) → deed_by t (actor_of (state.thread here t).frames) (Went (option_map (act_by entry) act)) ≡ option_map (deed here t entry) act
    deed_is entry None = refl
    deed_is entry (Some act) = refl

    left_is : (c : Cap) (r : Result Effect Trap) (new : EngineRow) (bank : DeviceStates) (ran : Ran) → Leaves r c.shadow.root t s k new bank ran
        → finished b t (actor_of (state.thread here t).frames) (state_at m new ss bank time) ran ≡ instruction_end b here t c r
    left_is c (Ok d) new bank ran h =
        rw (h.0, h.1, h.2)
        (ap (λ (o : Option Deed). (state_at m (with_granules (after_jump s t d.pcc d.posture d.to d.value) d.granules) ss d.bank time, o)) (deed_is c.shadow.root d.act)
        ∙ ap (λ (x : State). (x, option_map (deed here t c.shadow.root) d.act)) (done_is d))
    left_is c (Err why) new bank ran h = rw (h.0, h.1, h.2) refl

  leaves_same : (r : Result Effect Trap) (entry : ℕ) (new : EngineRow) (bank : DeviceStates) (ran : Ran) → Leaves r entry t s k new bank ran
      → IfUnfinished ran ((new ≡ s) × (bank ≡ k)) × RanInRange ran
  leaves_same (Ok d) entry new bank ran h = rw h.2 (tt, tt)
  leaves_same (Err why) entry new bank ran h = rw h.2 ((h.0, h.1), tt)

  -- an instruction
  pub executes_one : (pcc : Cap) (at : ℕ) (x : Instr) (new : EngineRow) (bank : DeviceStates) (ran : Ran) → Fetches pcc at (Instruction x)
      → IsCarriedOut (root_of e (register (thread s t) (operands_of x).first).shadow.root).of t time x s k new bank ran
      → Stays s new → bank.bases ≡ k.bases → ExecutesAsWritten e t time s k new bank ran × RanInRange ran
  executes_one pcc at x new bank ran f h stays bases =
      let c : Cap = register (thread s t) (operands_of x).first in
      let beside = leaves_same _ c.shadow.root new bank ran h in (
        record {
          comes = λ i m ss ram same.
              left_is i m ss ram c _ new bank ran h ∙ instructed_is i m ss ram x same ∙ next_is i m ss ram pcc at (Instruction x) f;
          same = beside.0;
          stays = stays;
          bases = bases;
        },
        beside.1,
      )

  -- a check of the fetch fails
  pub executes_trap : (pcc : Cap) (why : Trap) → pcc ≡ (thread s t).pcc → Some why ≡ first_failed (fetch_checks pcc) → ExecutesAsWritten e t time s k s k (Trapped why)
  executes_trap pcc why here_is fails = record {
    comes = λ i m ss ram same. fetched_is i m ss ram pcc (Some why) here_is fails;
    same = (refl, refl);
    stays = stays_same;
    bases = refl;
  }

  -- what stands there is no instruction
  pub executes_next : (pcc : Cap) (at : ℕ) (n : Next) (ran : Ran) → Fetches pcc at n
      → ((b : Platform) (m : State) → finished b t (actor_of (state.thread m t).frames) m ran ≡ goes_on b m t n) → IfUnfinished ran ((s ≡ s) × (k ≡ k)) → ExecutesAsWritten e t time s k s k ran
  executes_next pcc at n ran f left same = record {
    comes = λ i m ss ram entries. left (platform_with i k) (state_at m s ss k time) ∙ next_is i m ss ram pcc at n f;
    same = same;
    stays = stays_same;
    bases = refl;
  }
