-- What an image booted is read by no event: machines whose images differ in that alone do the same.
use Rattle.std.proofs.Common.{ℕ, ◌≡◌, ◌+◌, ◌==◌, List, [], ◌∷◌, Option, Some, None, Result, Ok, Err, refl, ap, ◌∙◌, if◌then◌else◌}
use Rattle.ct_entry.specs.declared.acts.Deed.{Deed}
use Rattle.def_memory.specs.declared.Granule.{Granule}
use Rattle.def_native.specs.declared.TheConstants.{SWITCH, YIELD, SLEEP, WAIT, WAKE, ALLOCATE, FREE, REMAINING, TOKEN_KEY, TOKEN_NEW, TOKEN_OPEN, TOKEN_FREE}
use Rattle.def_profile.specs.declared.native.TheConstants.{RETURN}
use Rattle.def_profile.specs.declared.traps.TheConstants.{ILLEGAL_INSTRUCTION}
use Rattle.def_words.specs.Authority.{cap_address}
use Rattle.def_words.specs.declared.Cap.{Cap}
use Rattle.def_words.specs.Traps.{plain_trap}
use Rattle.def_words.specs.declared.Trap.{Trap}
use Rattle.def_machine.specs.Heap.{sweep_on, sweep_began, swept}
use Rattle.def_machine.specs.Image.{Image, frames_most, stack_base}
use Rattle.def_machine.specs.Platform.{Platform}
use Rattle.def_machine.specs.State.{State, Frame, Object, thread, register}
use Rattle.def_sched.specs.Picks.{pick}
use Rattle.def_machine.specs.Threads.{statuses_of}
use Rattle.def_step.specs.declared.Event.{Event}
use Rattle.def_step.specs.declared.Event.TheVariants.{Step, Tick, Sweep, Input}
use Rattle.def_step.specs.declared.Next.{Next}
use Rattle.def_step.specs.declared.Next.TheVariants.{Returning, Instruction, Native, Nothing}
use Rattle.def_step.specs.Checks.{first_failed}
use Rattle.def_step.specs.Events.{continued, happens, noted, one_more_step, picked_as, picked_from, preempted, told_of}
use Rattle.def_step.specs.Handlers.{return_taken, trap_taken}
use Rattle.def_step.specs.Instructions.{Effect, after_fetch, around, carried_out, executed, fetch_checks, goes_on, instruction_end, named_by, next_at, operand, ran, served, space_of, trapped}
use Rattle.def_step.specs.Operands.{class_of, operands_of}
use Rattle.def_step.specs.Native.{native, native_return}
use Rattle.def_step.specs.Quotas.{allocate, by_quota, free, freed_as, quota_in, remaining, whole_of}
use Rattle.def_step.specs.Routines.{Ran, Traps, Leaves, sleep, switch, switched_to, wait, wake, yield}
use Rattle.def_step.specs.Switch.{Switched, Trapped, TooDeep, NoStack, Enters, frame_top, switch_of}
use Rattle.def_step.specs.Tokens.{by_key, frees_token, key_of, token_free, token_key, token_new, token_object, token_open}
use Rattle.def_safety.specs.Each.{ready}

-- the image and the platform, with other granules as those that it booted
abbrev pub booting : List Granule → Image → Image
booting gs i = record i { boot = gs }

abbrev pub with_boot : List Granule → Platform → Platform
with_boot gs b = record b { image = booting gs b.image }

module _ (gs : List Granule) (i : Image) (s : State) (t : ℕ) where
  switched_same : (z : Switched) → switched_to (booting gs i) s t z ≡ switched_to i s t z
  switched_same (Trapped why) = refl
  switched_same TooDeep = refl
  switched_same NoStack = refl
  switched_same (Enters export high) = refl

  return_same : (fs : List Frame) → return_taken (booting gs i) s t fs ≡ return_taken i s t fs
  return_same [] = refl
  return_same (f ∷ []) = refl
  return_same (f ∷ g ∷ fs) = refl

  trap_same : (why : Trap) (fs : List Frame) → trap_taken (booting gs i) s t why fs ≡ trap_taken i s t why fs
  trap_same why [] = refl
  trap_same why (f ∷ []) = refl
  trap_same why (f ∷ g ∷ fs) = refl

  freed_same : (o : Option Object) → freed_as (booting gs i) s t o ≡ freed_as i s t o
  freed_same None = refl
  freed_same (Some r) = refl

  frees_same : (quota : ℕ) (o : Option Object) → frees_token (booting gs i) s t quota o ≡ frees_token i s t quota o
  frees_same quota None = refl
  frees_same quota (Some r) = refl

  key_same : (o : Option Object)
      → by_key s t o (λ key. frees_token (booting gs i) s t (quota_in s t) (token_object s key (register (thread s t) 12)))
      ≡ by_key s t o (λ key. frees_token i s t (quota_in s t) (token_object s key (register (thread s t) 12)))
  key_same None = refl
  key_same (Some key) = frees_same (quota_in s t) (token_object s key.number (register (thread s t) 12))

  -- a routine by its number, where four are given
  abbrev native_by : ℕ → Ran → Ran → Ran → Ran → Option Ran
  native_by number calls back lets ends =
      if number == SWITCH then Some calls
      else if number == RETURN then Some back
      else if number == YIELD then Some (yield s t)
      else if number == SLEEP then Some (sleep s t)
      else if number == WAIT then Some (wait i s t)
      else if number == WAKE then Some (wake i s t)
      else if number == ALLOCATE then Some (allocate i s t)
      else if number == FREE then Some lets
      else if number == REMAINING then Some (remaining i s t)
      else if number == TOKEN_KEY then Some (token_key i s t)
      else if number == TOKEN_NEW then Some (token_new i s t)
      else if number == TOKEN_OPEN then Some (token_open s t)
      else if number == TOKEN_FREE then Some ends
      else None

  switch_same : switch (booting gs i) s t ≡ switch i s t
  switch_same = switched_same (switch_of i.entries (stack_base i t) (frame_top (thread s t).frames) (frames_most i t) (thread s t))

  back_same : native_return (booting gs i) s t ≡ native_return i s t
  back_same = ap (λ (z : State). Leaves z None) (return_same (thread s t).frames)

  free_same : free (booting gs i) s t ≡ free i s t
  free_same = ap (λ (r : Ran). by_quota s t r) (freed_same (whole_of s.objects (quota_in s t) (register (thread s t) 11)))

  end_same : token_free (booting gs i) s t ≡ token_free i s t
  end_same = ap (λ (r : Ran). by_quota s t r) (key_same (key_of s (register (thread s t) 11)))

  native_same : (number : ℕ) → native (booting gs i) s t number ≡ native i s t number
  native_same number =
      ap (λ (r : Ran). native_by number r (native_return (booting gs i) s t) (free (booting gs i) s t) (token_free (booting gs i) s t)) switch_same
      ∙ ap (λ (r : Ran). native_by number (switch i s t) r (free (booting gs i) s t) (token_free (booting gs i) s t)) back_same
      ∙ ap (λ (r : Ran). native_by number (switch i s t) (native_return i s t) r (token_free (booting gs i) s t)) free_same
      ∙ ap (λ (r : Ran). native_by number (switch i s t) (native_return i s t) (free i s t) r) end_same

module _ (gs : List Granule) (b : Platform) (s : State) (t : ℕ) where
  trapped_same : (why : Trap) → trapped (with_boot gs b) s t why ≡ trapped b s t why
  trapped_same why = ap (λ (z : State). (z, (trapped b s t why).1)) (trap_same gs b.image s t why (thread s t).frames)

  done_same : (x : Cap) (r : Result Effect Trap) → instruction_end (with_boot gs b) s t x r ≡ instruction_end b s t x r
  done_same x (Err why) = trapped_same why
  done_same x (Ok d) = refl

  ran_same : (r : Ran) → ran (with_boot gs b) s t r ≡ ran b s t r
  ran_same (Traps why) = trapped_same why
  ran_same (Leaves after told) = refl

  served_same : (o : Option Ran) → served (with_boot gs b) s t o ≡ served b s t o
  served_same None = trapped_same (plain_trap ILLEGAL_INSTRUCTION)
  served_same (Some r) = ran_same r

  goes_same : (n : Next) → goes_on (with_boot gs b) s t n ≡ goes_on b s t n
  goes_same Returning = ap (λ (z : State). (z, None)) (return_same gs b.image s t (thread s t).frames)
  goes_same (Instruction k) = done_same (operand s t (operands_of k).first)
      (carried_out (class_of k) k (operands_of k).to (operand s t (operands_of k).first) (operand s t (operands_of k).second) (named_by b.image (operand s t (operands_of k).first)) (around b s t))
  goes_same (Native number) = ap (λ (o : Option Ran). served (with_boot gs b) s t o) (native_same gs b.image s t number) ∙ served_same (native b.image s t number)
  goes_same Nothing = trapped_same (plain_trap ILLEGAL_INSTRUCTION)

  fetch_same : (o : Option Trap) → after_fetch (with_boot gs b) s t o ≡ after_fetch b s t o
  fetch_same (Some why) = trapped_same why
  fetch_same None = goes_same (next_at (space_of b s) (cap_address (thread s t).pcc))

  executed_same : executed (with_boot gs b) s t ≡ executed b s t
  unfolding executed
  executed_same = fetch_same (first_failed (fetch_checks (thread s t).pcc))

module _ (gs : List Granule) (b : Platform) where
  choice_same : (s : State) (o : Option ℕ) → picked_as (with_boot gs b) s o ≡ picked_as b s o
  choice_same s None = refl
  choice_same s (Some t) = refl

  picked_same : (s : State) (o : Option ℕ) → picked_from (with_boot gs b) s o ≡ picked_from b s o
  picked_same s (Some t) = refl
  picked_same s None = choice_same s (pick b.image.priorities (statuses_of s.threads) s.picks)

  pub ready_same : (s : State) → ready (with_boot gs b) s ≡ ready b s
  ready_same s = picked_same (preempted (one_more_step s)) (preempted (one_more_step s)).running

  continued_same : (s : State) (o : Option ℕ) → continued (with_boot gs b) s o ≡ continued b s o
  continued_same s None = refl
  continued_same s (Some t) = ap (λ (r : State × Option Deed). noted r) (executed_same gs b s t)

  on_same : (s : State) (o : Option ℕ) → sweep_on (booting gs b.image) s o ≡ sweep_on b.image s o
  on_same s None = refl
  on_same s (Some front) = refl

  swept_same : (s : State) → swept (booting gs b.image) s ≡ swept b.image s
  swept_same s = on_same (sweep_began s s.front) (sweep_began s s.front).front

  pub happens_same : (s : State) (e : Event) → happens (with_boot gs b) s e ≡ happens b s e
  happens_same s Step = ap (λ (r : State × Option Deed). told_of s r) (ap (λ (z : State). continued (with_boot gs b) z z.running) (ready_same s) ∙ continued_same (ready b s) (ready b s).running)
  happens_same s Tick = refl
  happens_same s Sweep = ap (λ (z : State). told_of s (z, None)) (swept_same (record s { counts = record s.counts { sweeps = s.counts.sweeps + 1 } }))
  happens_same s (Input n byte) = refl
