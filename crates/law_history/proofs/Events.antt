-- Each event: what it leaves anywhere comes of what stood there before. What a routine does to objects and rows is left
-- to who asks.
use Rattle.std.proofs.Common.{ℕ, ◌≡◌, ◌+◌, ◌-◌, ◌&&◌, ◌≤◌, ◌^◌, true, false, not, List, [], ◌∷◌, map, Option, Some, None, Ok, Err, Result, refl, sym, ap, ◌∙◌, subst, arith}
use Rattle.std.proofs.Math.Nat.{div-mul-le_self}
use Rattle.law_lists.proofs.Tests.{chosen}
use Rattle.def_words.specs.declared.Cap.{Cap}
use Rattle.std.specs.Prelude.{option_map}
use Rattle.ct_entry.specs.declared.acts.Deed.{Deed}
use Rattle.def_words.specs.declared.Trap.{Trap}
use Rattle.def_words.specs.declared.Posture.{Posture}
use Rattle.def_words.specs.Authority.{cap_address}
use Rattle.def_words.specs.Capability.{integer, raised}
use Rattle.def_memory.specs.Granules.{plain, granule_at}
use Rattle.def_instr.specs.declared.Instr.{Instr}
use Rattle.def_sched.specs.Picks.{pick}
use Rattle.ct_entry.specs.declared.rows.Owner.TheVariants.{Compartment}
use Rattle.def_machine.specs.Platform.{Platform}
use Rattle.def_machine.specs.Image.{Image, root, granule_of, handler_entry, stack_base}
use Rattle.def_machine.specs.Objects.{Each}
use Rattle.def_machine.specs.State.{State, Frame, Object, thread, register, granule}
use Rattle.def_machine.specs.Frames.{Given, callee_start, returned, ended_with}
use Rattle.def_machine.specs.Heap.{with_object, object_cap}
use Rattle.def_machine.specs.Threads.{timed, statuses_of}
use Rattle.def_confined.specs.Confined.{Confined}
use Rattle.def_confined.specs.Partitioned.{Partitioned}
use Rattle.def_confined.specs.Places.{Placed, InFrames, OwnStack}
use Rattle.def_confined.specs.Facts.{Facts}
use Rattle.def_safety.specs.Clean.{callee_of, high_of}
use Rattle.def_safety.specs.Each.{ready}
use Rattle.def_step.specs.declared.Class.{Class}
use Rattle.def_step.specs.declared.Class.TheVariants as class
use Rattle.def_memory.specs.Accesses.{loaded_cap}
use Rattle.def_step.specs.declared.Next.TheVariants.{Instruction}
use Rattle.def_step.specs.Accesses.{Accessed, access_of, access_checks, access_address}
use Rattle.def_step.specs.Checks.{first_failed}
use Rattle.def_step.specs.Events.{preempted_from, preempted, picked_as, picked_from, one_more_step, interrupted, ticked}
use Rattle.def_step.specs.Handlers.{handed, is_handled, handler_entered}
use Rattle.def_step.specs.Instructions.{Effect, carried_out, named_by, gives, flows, accesses, around, space_of, put_done, operand, executed, next_at, deed_told}
use Rattle.def_step.specs.Jumps.{Flowed}
use Rattle.def_step.specs.Operands.{operands_of, class_of}
use Rattle.def_step.specs.Quotas.{Made, allocation, is_quota_cap, quota_in, whole_of, let_go}
use Rattle.def_step.specs.Routines.{answers}
use Rattle.def_step.specs.Switch.{switch_checks, called, room_exponent, room_of, frame_top}
use Rattle.def_step.specs.Tokens.{with_row, sealed_token, opened_token, key_of, token_object}
use Rattle.def_safety.specs.Comes.{IsLoadedFrom}
use Rattle.def_safety.specs.Everywhere.{FrameHas, ThreadHas, Everywhere}
use Rattle.def_safety.specs.Gives.{IsGivenOwn, code, back, globals, TellsCall, Gives, to_callee, stack, to_handler}
use Rattle.def_safety.specs.Opening.{MayOpen}
use Rattle.def_safety.specs.Used.{access_start}
use Rattle.law_events.proofs.Entered.{says}
use Rattle.law_moves.proofs.JumpsMoves.{in_rooted}
use Rattle.law_moves.proofs.Entering.{back_made, globals_made, pcc_made}
use Rattle.law_moves.proofs.Makes.{stack_made}
use Rattle.law_moves.proofs.Results.{raised_result}
use Rattle.law_events.proofs.Switching.{checks_say, caller_of}
use Rattle.law_routines.proofs.Leaving.{entering, call_told, IsKeyOf}
use Rattle.law_routines.proofs.Stepping.{IfDone, carried}
use Rattle.def_events.specs.Passes.{Widens, Passes, PassesOn}
use Rattle.law_history.proofs.Given.{GivenKinds, kinds_given}
use Rattle.law_history.proofs.Values.{IfFlows, IfAccesses, result_has, flow_has, accessed_has}
use Rattle.law_history.proofs.Changes.{same_has, over_has, picked_has, slept_has, returned_back, ended_back, handler_has, put_has, answers_led, stops_has, wakes_has, enters_has}
use Rattle.law_history.proofs.Routines.{executed_goes, trap_told}

-- objects and rows are as they were, and what stands anywhere is so
pub record Regular (C : Cap → Type 0) (s z : State) : Type 0 where
  pub objects : z.objects ≡ s.objects
  pub tokens : z.tokens ≡ s.tokens
  pub has : Everywhere C z

-- what a step does to objects and rows: an object is handed out, or given back, as it is or as a token; token_open opens
-- a token
pub record Specials (Q : State → Type 0) (b : Platform) (s : State) (t : ℕ) : Type 0 where
  pub hands : is_quota_cap (register (thread s t) 10) ≡ true → (size : ℕ) (r : Object) → allocation b.image s (quota_in s t) size ≡ Made r → Q (answers (with_object s r) t (object_cap r))
  pub frees : (r : Object) → whole_of s.objects (quota_in s t) (register (thread s t) 11) ≡ Some r → Q (answers (let_go b.image s t r) t (integer 0))
  pub gives : (key : ℕ) (r : Object) → token_object s key (register (thread s t) 12) ≡ Some r → Q (answers (let_go b.image s t r) t (integer 0))
  pub seals : is_quota_cap (register (thread s t) 10) ≡ true → (size : ℕ) (key : Option ℕ) (r : Object) → allocation b.image s (quota_in s t) size ≡ Made r → IsKeyOf s key → Q (answers (with_object (with_row s r key) r) t (sealed_token r))
  pub opens : (s.running ≡ Some t → MayOpen b s t) → (k r : Object) → key_of s (register (thread s t) 10) ≡ Some k → token_object s k.number (register (thread s t) 11) ≡ Some r → Q (answers s t (opened_token (register (thread s t) 11)))

-- ---- what an instruction does

pub record DoneHas (C : Cap → Type 0) (d : Effect) : Type 0 where
  pub value : C d.value
  pub pcc : C d.pcc
  pub granules : (k : ℕ) → C (granule_at d.granules k).cap

abbrev pub DoneIf : (Cap → Type 0) → Result Effect Trap → Type 0
DoneIf C (Err w) = Unit {0}
DoneIf C (Ok d) = DoneHas C d

-- what holds of what the running thread has at hand, of what leads it on, and of its program counter under its posture
pub record Handy (R K : Cap → Type 0) (L : Cap → Posture → Type 0) (b : Platform) (s : State) (t : ℕ) : Type 0 where
  pub counter : R (thread s t).pcc
  pub own : (n : ℕ) → R (register (thread s t) n)
  pub loaded : (c : Cap) → IsLoadedFrom b s t c → R c
  pub leads : (n : ℕ) → K (register (thread s t) n)
  pub back : (f : Frame) (fs : List Frame) → (thread s t).frames ≡ f ∷ fs → K f.c1
  pub link : L (thread s t).pcc (thread s t).posture

-- what holds of what the switcher gives, for what is told
abbrev pub AllGiven : (Option Deed → Cap → Type 0) → Platform → State → ℕ → Type 0
AllGiven C b s t = (o : Option Deed) (d : Cap) → Gives b.image s t o d → C o d

-- what holds of what a handler and a callee are given
pub record HandlerGets (C : Cap → Type 0) (i : Image) (f : Frame) : Type 0 where
  pub pcc : C (handed i f.actor).pcc
  pub back : C (handed i f.actor).back
  pub globals : C (handed i f.actor).globals

pub record CalleeGets (C : Cap → Type 0) (g : Given) : Type 0 where
  pub pcc : C g.pcc
  pub back : C g.back
  pub stack : C g.stack
  pub globals : C g.globals

-- the deed of a call, and what its callee is given
abbrev pub call_of : Platform → State → ℕ → Option Deed
call_of b s t = Some (deed_told s t (call_told s t (called b.image.entries (thread s t))))

abbrev pub start_of : Platform → State → ℕ → Given
start_of b s t = callee_start b.image (thread s t) t (callee_of b.image (called b.image.entries (thread s t))) (called b.image.entries (thread s t)) (high_of b.image s t)

module _ (b : Platform) (C : Cap → Type 0) (s : State) (t : ℕ) (parts : Partitioned b.image) (facts : Facts b.image) (held : Confined b.image s) where
  pub handler_gets : (why : Trap) (f : Frame) (fs : List Frame) → ((d : Cap) → Gives b.image s t (trap_told s t why) d → C d) → (thread s t).frames ≡ f ∷ fs → is_handled b.image (stack_base b.image t) (thread s t) f ≡ true → HandlerGets C b.image f
  handler_gets why f fs given frames is =
      let owner = (facts.handlers f.actor (says b.image s t f is).some).owner_is in
      let gets : (d : Cap) → IsGivenOwn b.image f.actor (handler_entry b.image f.actor) d → C d =
      λ d g. given d (to_handler f fs (record { frames = frames; handled = is; cause = why.cause; code = why.code; number = why.register; tells = refl }) g) in
      record {
        pcc = gets _ (code refl (λ tagged. (pcc_made b.image f.actor (handler_entry b.image f.actor) parts owner tagged).0));
        back = gets _ (back refl (back_made b.image parts));
        globals = gets _ (globals refl (globals_made b.image f.actor (handler_entry b.image f.actor) parts owner));
      }

  pub callee_gets : ((d : Cap) → Gives b.image s t (call_of b s t) d → C d) → first_failed (switch_checks (stack_base b.image t) (frame_top (thread s t).frames) (thread s t)) ≡ None → CalleeGets C (start_of b s t)
  callee_gets given none =
      let passed = checks_say b.image s t none in
      let caller = caller_of b.image s t facts held passed in
      let owner : (root b.image (called b.image.entries (thread s t))).owner ≡ Compartment (callee_of b.image (called b.image.entries (thread s t))) = caller.owner_is ∙ ap (λ a. Compartment a) caller.callee_is in
      let placed : Placed b.image s.objects (λ d. d ≡ caller.frame.actor) (OwnStack b.image t (caller.frame ∷ caller.below)) (register (thread s t) 2) =
      (subst (λ (fs : List Frame). InFrames b.image s.objects t fs (register (thread s t) 2)) caller.frames (held.registers t 2)) passed.stack_tagged in
      let room : room_of (cap_address (register (thread s t) 2) - stack_base b.image t) ≤ cap_address (register (thread s t) 2) - stack_base b.image t = div-mul-le_self (cap_address (register (thread s t) 2) - stack_base b.image t) (2 ^ room_exponent (cap_address (register (thread s t) 2) - stack_base b.image t)) in
      let top = caller.top in
      let stack_low = passed.stack_low in
      let stack_high = passed.stack_high in
      let frame_high = caller.holds.0.high in
      let call : TellsCall b.image s t (call_of b s t) (callee_of b.image (called b.image.entries (thread s t))) (called b.image.entries (thread s t)) =
      record { tells = refl; names = refl; owner = owner } in
      let gets : (d : Cap) → IsGivenOwn b.image (callee_of b.image (called b.image.entries (thread s t))) (called b.image.entries (thread s t)) d → C d =
      λ d g. given d (to_callee (callee_of b.image (called b.image.entries (thread s t))) (called b.image.entries (thread s t)) call g) in
      record {
        pcc = gets _ (code refl (λ tagged. (pcc_made b.image (callee_of b.image (called b.image.entries (thread s t))) (called b.image.entries (thread s t)) parts owner tagged).0));
        back = gets _ (back refl (back_made b.image parts));
        stack = given _ (stack (callee_of b.image (called b.image.entries (thread s t))) (called b.image.entries (thread s t)) (high_of b.image s t) call (omega (arith, room, stack_low)) refl
            (stack_made b.image t (high_of b.image s t) (register (thread s t) 2).shadow parts caller.holds.0.stack (placed.own (placed.rooted.local passed.stack_local)).0 (omega arith) (omega (arith, room, top, stack_low, stack_high, frame_high))));
        globals = gets _ (globals refl (globals_made b.image (callee_of b.image (called b.image.entries (thread s t))) (called b.image.entries (thread s t)) parts owner));
      }

module _ (b : Platform) (S R K : Cap → Type 0) (L : Cap → Posture → Type 0) (C : Cap → Type 0) (x : Passes b.image S R K L C) (s : State) (t : ℕ) (parts : Partitioned b.image) (facts : Facts b.image) (held : Confined b.image s) (h : Everywhere S s) (hand : Handy R K L b s t) where
  done_regular : (r : Result Effect Trap) → DoneIf C r → IfDone (Regular C s) s t r
  done_regular (Err why) done = tt
  done_regular (Ok d) done = record { objects = refl; tokens = refl; has = put_has b.image S R K L C x s t d h done.value done.pcc done.granules }

  goes_on_has : C (raised (thread s t).pcc 4)
  goes_on_has = x.result (thread s t).pcc (raised (thread s t).pcc 4) (raised_result (thread s t).pcc 4) hand.counter

  gives_has : (to : ℕ) (value : Cap) → C value → DoneIf C (Ok (gives (around b s t) to value))
  gives_has to value has = record { value = has; pcc = goes_on_has; granules = λ k. x.widens.stays (granule s k).cap (h.granules k) }

  flows_have : (to : ℕ) (r : Result Flowed Trap) → IfFlows C r → DoneIf C (flows (around b s t) to r)
  flows_have to (Err w) f = tt
  flows_have to (Ok j) f = record { value = f.link; pcc = f.pcc; granules = λ k. x.widens.stays (granule s k).cap (h.granules k) }

  accesses_have : (to : ℕ) (r : Result Accessed Trap) → IfAccesses C r → DoneIf C (accesses (around b s t) to r)
  accesses_have to (Err w) f = tt
  accesses_have to (Ok m) f = record { value = f.value; pcc = goes_on_has; granules = f.granules }

  class_has : (c : Class) (k : Instr) (to m n : ℕ)
      → ((access_of k).loads ≡ true → first_failed (access_checks (access_of k) (operand s t m) (operand s t n) (access_address (access_of k) (operand s t m))) ≡ None → R (loaded_cap s.granules (access_address (access_of k) (operand s t m) - b.image.ram)))
      → DoneIf C (carried_out c k to (operand s t m) (operand s t n) (named_by b.image (operand s t m)) (around b s t))
  class_has class.Integer k to m n reads = gives_has to _ (x.widens.none _ refl)
  class_has class.Capability k to m n reads = gives_has to _ (result_has b.image S R K L C x k (operand s t m) (operand s t n) (thread s t).pcc parts
      (in_rooted b.image s.objects t (thread s t).frames (register (thread s t) n) (held.registers t n)) ((h.threads t).registers m) (hand.own m) hand.counter)
  class_has class.System k to m n reads = tt
  class_has class.Jump k to m n reads = flows_have to _ (flow_has b.image S R K L C x k (operand s t m) (operand s t n) (thread s t).pcc (thread s t).posture (named_by b.image (operand s t m)) (held.runs t) (hand.leads m) hand.counter hand.link)
  class_has class.Access k to m n reads = accesses_have to _ (accessed_has b.image S R K L C x k (operand s t m) (operand s t n) (space_of b s) ((h.threads t).registers n) h.granules reads)
  class_has class.Fence k to m n reads = gives_has 0 (plain 0) (x.widens.none (plain 0) refl)
  class_has class.Call k to m n reads = tt
  class_has class.Break k to m n reads = tt

  done_has : (k : Instr) → next_at (space_of b s) (cap_address (thread s t).pcc) ≡ Instruction k → IfDone (Regular C s) s t (carried b s t k)
  done_has k at = done_regular (carried b s t k) (class_has (class_of k) k (operands_of k).to (operands_of k).first (operands_of k).second
      (λ loads passes. hand.loaded (loaded_cap s.granules (access_start s t k - b.image.ram)) (record { instruction = k; stands = at; loads = loads; passes = passes; from = refl })))

  -- ---- frames that end

  ended_regular : (value : ℕ) (fs : List Frame) → (thread s t).frames ≡ fs → Regular C s (ended_with b.image s t value fs)
  ended_regular value [] e = record { objects = refl; tokens = refl; has = same_has S C x.widens s h }
  ended_regular value (f ∷ []) e = record { objects = refl; tokens = refl; has = over_has S C x.widens b.image s t f.top h }
  ended_regular value (f ∷ g ∷ gs) e = record { objects = refl; tokens = refl; has = ended_back b.image S R K L C x s t value f g gs h (hand.back f (g ∷ gs) e) e }

  returned_regular : (fs : List Frame) → (thread s t).frames ≡ fs → Regular C s (returned b.image s t fs)
  returned_regular [] e = record { objects = refl; tokens = refl; has = same_has S C x.widens s h }
  returned_regular (f ∷ []) e = record { objects = refl; tokens = refl; has = over_has S C x.widens b.image s t f.top h }
  returned_regular (f ∷ g ∷ gs) e = record { objects = refl; tokens = refl; has = returned_back b.image S R K L C x s t f g gs h (hand.back f (g ∷ gs) e) e }

  handler_regular : (why : Trap) (f : Frame) (fs : List Frame) → ((d : Cap) → Gives b.image s t (trap_told s t why) d → C d) → (thread s t).frames ≡ f ∷ fs → is_handled b.image (stack_base b.image t) (thread s t) f ≡ true → Regular C s (handler_entered b.image s t why f fs)
  handler_regular why f fs given frames is =
      let g = handler_gets b C s t parts facts held why f fs given frames is in
      record { objects = refl; tokens = refl; has = handler_has b.image S R K L C x s t why f fs frames g.pcc g.back g.globals h (hand.own 2) }

  -- ---- a call

  enters_regular : ((d : Cap) → Gives b.image s t (call_of b s t) d → C d) → first_failed (switch_checks (stack_base b.image t) (frame_top (thread s t).frames) (thread s t)) ≡ None → Regular C s (entering b.image s t (called b.image.entries (thread s t)) (high_of b.image s t))
  enters_regular given none =
      let g = callee_gets b C s t parts facts held given none in
      record {
        objects = refl;
        tokens = refl;
        has = enters_has b.image S R K L C x s t (callee_of b.image (called b.image.entries (thread s t))) (called b.image.entries (thread s t)) (high_of b.image s t) (start_of b s t) g.pcc g.back g.stack g.globals h;
      }

-- what a thread carries on with: C holds for what is told
module _ (b : Platform) (S R K : Cap → Type 0) (L : Cap → Posture → Type 0) (C : Option Deed → Cap → Type 0) (x : (o : Option Deed) → Passes b.image S R K L (C o)) (s : State) (t : ℕ) (given : AllGiven C b s t) (parts : Partitioned b.image) (facts : Facts b.image) (held : Confined b.image s) (h : Everywhere S s) (hand : Handy R K L b s t) where
  pub carried_on : (Q : State → Option Deed → Type 0) → ((z : State) (o : Option Deed) → Regular (C o) s z → Q z o) → Specials (λ z. (o : Option Deed) → Q z o) b s t → Q (executed b s t).0 (executed b s t).1
  carried_on Q regular special = executed_goes Q b s t (record {
    handles = λ why f fs frames is. regular _ (trap_told s t why) (handler_regular b S R K L (C (trap_told s t why)) (x (trap_told s t why)) s t parts facts held h hand why f fs (given (trap_told s t why)) frames is);
    ends = λ value o. regular _ o (ended_regular b S R K L (C o) (x o) s t parts facts held h hand value (thread s t).frames refl);
    back = regular _ None (returned_regular b S R K L (C None) (x None) s t parts facts held h hand (thread s t).frames refl);
    done = λ k at. done_q (carried b s t k) (λ o. done_has b S R K L (C o) (x o) s t parts facts held h hand k at);
    deals = record {
      tells = λ n. regular _ None (record { objects = refl; tokens = refl; has = answers_led b.image S R K L (C None) (x None) s t (integer n) h (hand.leads 1) ((x None).widens.none (integer n) refl) });
      enters = λ none. regular _ (call_of b s t) (enters_regular b S R K L (C (call_of b s t)) (x (call_of b s t)) s t parts facts held h hand (given (call_of b s t)) none);
      stops = λ status. regular _ None (record { objects = refl; tokens = refl; has = stops_has b.image S R K L (C None) (x None) s t status h (hand.leads 1) });
      wakes = λ address most. regular _ None (record { objects = refl; tokens = refl; has = wakes_has b.image S R K L (C None) (x None) s t address most h (hand.leads 1) });
      hands = λ quota size r is o. special.hands quota size r is (option_map (deed_told s t) o);
      frees = λ r is o. special.frees r is (option_map (deed_told s t) o);
      gives = λ key r is o. special.gives key r is (option_map (deed_told s t) o);
      seals = λ quota size key r is named o. special.seals quota size key r is named (option_map (deed_told s t) o);
      opens = λ at returns k r key token. special.opens (λ runs. record { routine = at runs; returns = returns }) k r key token None;
    };
  })
    where
      done_q : (r : Result Effect Trap) → ((o : Option Deed) → IfDone (Regular (C o) s) s t r) → IfDone (λ z. (o : Option Deed) → Q z o) s t r
      done_q (Err why) d = tt
      done_q (Ok d) r = λ o. regular (put_done s t d) o (r o)

-- ---- where one predicate is all that is asked

-- what holds everywhere holds of what is at hand
pub handy : (S : Cap → Type 0) (b : Platform) (s : State) (t : ℕ) → Everywhere S s → Handy S S (λ c before. S c) b s t
handy S b s t h = record {
  counter = (h.threads t).pcc;
  own = (h.threads t).registers;
  loaded = λ c l. subst S (sym l.from) (h.granules (granule_of b.image (access_start s t l.instruction)));
  leads = (h.threads t).registers;
  back = λ f fs e. (let all : Each (FrameHas S) (f ∷ fs) = subst (Each (FrameHas S)) e (h.threads t).frames in all.0.c1);
  link = (h.threads t).pcc;
}

pub executed_has : (b : Platform) (S C : Cap → Type 0) → PassesOn b.image S C → GivenKinds b.image C → (s : State) (t : ℕ) → Partitioned b.image → Facts b.image → Confined b.image s → Everywhere S s → (Q : State → Type 0) → ((z : State) → Regular C s z → Q z) → Specials Q b s t → Q (executed b s t).0
executed_has b S C x kinds s t parts facts held h Q regular special =
    carried_on b S S S (λ c before. S c) (λ o c. C c) (λ o. x) s t (kinds_given b.image C s t kinds) parts facts held h (handy S b s t h) (λ z o. Q z) (λ z o. regular z)
    (record {
      hands = λ quota size r is o. special.hands quota size r is;
      frees = λ r is o. special.frees r is;
      gives = λ key r is o. special.gives key r is;
      seals = λ quota size key r is named o. special.seals quota size key r is named;
      opens = λ may k r key is o. special.opens may k r key is;
    })

-- ---- before a step, and a tick

module _ (S C : Cap → Type 0) (w : Widens S C) where
  pub again : (s z : State) → z.granules ≡ s.granules → z.threads ≡ s.threads → z.objects ≡ s.objects → z.tokens ≡ s.tokens → Everywhere S s → Regular C s z
  again s z granules threads objects tokens h =
      let same = same_has S C w s h in
      record {
        objects = objects;
        tokens = tokens;
        has = record {
          granules = λ k. subst (λ gs. C (granule_at gs k).cap) (sym granules) (same.granules k);
          threads = λ t. subst (λ ts. ThreadHas C (thread (record s { threads = ts }) t)) (sym threads) (same.threads t);
        };
      }

  interrupted_regular : (s : State) (o : Option ℕ) → Everywhere S s → Regular C s (interrupted s o)
  interrupted_regular s None h = again s s refl refl refl refl h
  interrupted_regular s (Some t) h = chosen (Regular C s) (thread s t).posture.off (record s { pending = true }) (record s { running = None })
      (λ is. again s (record s { pending = true }) refl refl refl refl h)
      (λ not. again s (record s { running = None }) refl refl refl refl h)

  preempted_regular : (s : State) (o : Option ℕ) → Everywhere S s → Regular C s (preempted_from s o)
  preempted_regular s None h = again s s refl refl refl refl h
  preempted_regular s (Some t) h = chosen (Regular C s) (s.pending && not (thread s t).posture.off) (record s { running = None; pending = false }) s
      (λ is. again s (record s { running = None; pending = false }) refl refl refl refl h)
      (λ not. again s s refl refl refl refl h)

  picked_regular : (b : Platform) (s : State) (o : Option ℕ) → Everywhere S s → Regular C s (picked_as b s o)
  picked_regular b s None h = again s s refl refl refl refl h
  picked_regular b s (Some t) h = record { objects = refl; tokens = refl; has = record { granules = λ k. w.stays (granule s k).cap (h.granules k); threads = picked_has S C w b.image s t h } }

  scheduled_regular : (b : Platform) (s : State) (o : Option ℕ) → Everywhere S s → Regular C s (picked_from b s o)
  scheduled_regular b s (Some t) h = again s s refl refl refl refl h
  scheduled_regular b s None h = picked_regular b s (pick b.image.priorities (statuses_of s.threads) s.picks) h

-- one after the other
module _ (S : Cap → Type 0) (w : Widens S S) where
  then_ : (s y z : State) → Regular S s y → (Everywhere S y → Regular S y z) → Regular S s z
  then_ s y z one two = let more = two one.has in record { objects = more.objects ∙ one.objects; tokens = more.tokens ∙ one.tokens; has = more.has }

  pub ready_regular : (b : Platform) (s : State) → Everywhere S s → Regular S s (ready b s)
  ready_regular b s h =
      then_ s (preempted (one_more_step s)) (ready b s)
      (then_ s (one_more_step s) (preempted (one_more_step s)) (again S S w s (one_more_step s) refl refl refl refl h) (preempted_regular S S w (one_more_step s) (one_more_step s).running))
      (scheduled_regular S S w b (preempted (one_more_step s)) (preempted (one_more_step s)).running)

  pub ticked_regular : (s : State) → Everywhere S s → Regular S s (ticked s)
  ticked_regular s h =
      let slept : State = record s { threads = map timed s.threads; time = s.time + 1; counts = record s.counts { ticks = s.counts.ticks + 1 } } in
      then_ s (record s { threads = map timed s.threads; time = s.time + 1; counts = record s.counts { ticks = s.counts.ticks + 1 } }) (ticked s)
      (record { objects = refl; tokens = refl; has = record { granules = h.granules; threads = slept_has S S w s h } })
      (interrupted_regular S S w (record s { threads = map timed s.threads; time = s.time + 1; counts = record s.counts { ticks = s.counts.ticks + 1 } }) s.running)
