-- Native routines of the switcher and the scheduler, and what all routines share: of two states that agree, each does
-- the same.
use Rattle.std.proofs.Common.{ℕ, zero, suc, ◌≡◌, ◌+◌, ◌-◌, ◌%◌, ◌<◌, ◌==◌, ◌&&◌, ◌++◌, inl, inr, Bool, true, cond, List, [], ◌∷◌, length, map, Option, Some, None, refl, sym, ap, ◌∙◌, subst, arith, slice_index_or, slice_set}
use Rattle.std.proofs.Math.ListN.{get_or}
use Rattle.std.proofs.lemmas.List.{get_or-set_same}
use Rattle.std.proofs.lemmas.Bool.{and_parts, eqb-true}
use Rattle.def_profile.specs.declared.answers.TheConstants.{NO_STACK, TOO_DEEP, DIFFERS, NO_QUOTA, NO_KEY, NO_TOKEN}
use Rattle.def_profile.specs.declared.traps.TheConstants.{TAG_CODE, SEAL_CODE, LOAD_CODE, BOUNDS_CODE, MISALIGNED_LOAD}
use Rattle.ct_entry.specs.declared.acts.Act.TheVariants as acts
use Rattle.def_words.specs.declared.Cap.{Cap}
use Rattle.def_words.specs.declared.Trap.{Trap}
use Rattle.def_words.specs.Authority.{cap_address}
use Rattle.def_words.specs.Capability.{integer, is_range_inside}
use Rattle.def_words.specs.Jumped.{opened}
use Rattle.def_words.specs.Permissions.{has, load_data}
use Rattle.def_words.specs.Seals.{cap_seal, is_unsealed, posture_through}
use Rattle.def_words.specs.Traps.{capability_trap, plain_trap}
use Rattle.def_memory.specs.Granules.{plain}
use Rattle.def_memory.specs.Accesses.{loaded}
use Rattle.def_reach.specs.Roots.{compartment_of}
use Rattle.def_sched.specs.declared.Status.{Status}
use Rattle.def_sched.specs.Statuses.{asleep, awaiting, woken, woken_count}
use Rattle.def_machine.specs.Frames.{switched, entered, callee_start}
use Rattle.def_machine.specs.Image.{root, stack_base, frames_most}
use Rattle.def_machine.specs.Objects.{charges}
use Rattle.def_machine.specs.Platform.{Platform}
use Rattle.def_machine.specs.Registers.{written}
use Rattle.def_machine.specs.State.{State, Thread, Frame, Object, nobody, thread, register}
use Rattle.def_machine.specs.Threads.{with_status, with_statuses, statuses_of}
use Rattle.def_confined.specs.Confined.{Confined}
use Rattle.def_confined.specs.Partitioned.{Partitioned}
use Rattle.def_step.specs.Accesses.{is_ram}
use Rattle.def_step.specs.Checks.{Check, first_failed}
use Rattle.def_step.specs.Instructions.{space_of}
use Rattle.def_step.specs.Quotas.{by_quota, is_quota_cap, quota_in, remaining}
use Rattle.def_step.specs.Routines.{Ran, Traps, Leaves, answers, answered, checked, code, sleep, stops, switch, switched_to, tells, wait, waits, wake, threads_woken, word_checks, yield}
use Rattle.def_step.specs.Switch.{Switched, Trapped, TooDeep, NoStack, Enters, frame_top, gate_checks, new_top, past_checks, return_checks, stack_checks, switch_of, with_room}
use Rattle.def_step.specs.Tokens.{by_key, key_of, as_key, as_token, opened_token, opens, sealed_object, token_object, token_open}
use Rattle.def_safety.specs.Wired.{Wired}
use Rattle.def_secrecy.specs.View.{Sees, SeesDevice}
use Rattle.def_secrecy.specs.Agreeing.{SameMemory, AgreeingThread, Shape, frame_shape, shapes, Agree}
use Rattle.def_secrecy.specs.Secrecy.{StaysIn}
use Rattle.law_moves.proofs.Authorities.{headed}
use Rattle.law_moves.proofs.Checks.{all_pass}
use Rattle.law_moves.proofs.Deeds.{register_used}
use Rattle.law_routines.proofs.Accesses.{ram_begins}
use Rattle.law_routines.proofs.Leaving.{option_tells}
use Rattle.law_events.proofs.Accesses.{range_says}
use Rattle.law_events.proofs.Cleans.{framed_there}
use Rattle.law_secrecy.proofs.Frames.{moved}
use Rattle.law_secrecy.proofs.Puts.{put_agree, same_holder, same_status}
use Rattle.law_secrecy.proofs.Two.{two_choices, two_options}
use Rattle.law_secrecy.proofs.Views.{run_of, same_bytes, same_ram, seen}

-- ---- statuses that are given to all

-- what of a thread a status doesn't change
pub kept_by_statuses : {A : Type 0} (f : Thread → A) → ((x : Thread) (v : Status) → f (with_status x v) ≡ f x) → (ts : List Thread) (vs : List Status) (t : ℕ) → f (get_or (with_statuses ts vs) t nobody) ≡ f (get_or ts t nobody)
kept_by_statuses f same [] vs t = refl
kept_by_statuses f same (x ∷ xs) [] t = refl
kept_by_statuses f same (x ∷ xs) (v ∷ vs) zero = same x v
kept_by_statuses f same (x ∷ xs) (v ∷ vs) (suc t) = kept_by_statuses f same xs vs t

-- the first statuses of a list are these
abbrev begun_with : List Status → List Status → List Status
begun_with [] vs = []
begun_with (x ∷ xs) [] = x ∷ xs
begun_with (x ∷ xs) (v ∷ vs) = v ∷ begun_with xs vs

statuses_given : (ts : List Thread) (vs : List Status) → statuses_of (with_statuses ts vs) ≡ begun_with (statuses_of ts) vs
statuses_given [] vs = refl
statuses_given (x ∷ xs) [] = refl
statuses_given (x ∷ xs) (v ∷ vs) = ap (λ zs. v ∷ zs) (statuses_given xs vs)

-- ---- an answer

answered_same : (x y : Thread) (v w : Cap) → AgreeingThread x y → v ≡ w → AgreeingThread (answered x v) (answered y w)
answered_same x y v w same value = record {
  pcc = ap (λ rs. opened (slice_index_or rs 1 (plain 0))) same.registers;
  registers = ap (λ rs. written (written rs 10 v) 11 (plain 0)) same.registers ∙ ap (λ u. written (written y.registers 10 u) 11 (plain 0)) value;
  posture = ap (λ p. posture_through p (cap_seal (register x 1)) 0 (register x 1).shadow.source) same.posture
      ∙ ap (λ rs. posture_through y.posture (cap_seal (slice_index_or rs 1 (plain 0))) 0 (slice_index_or rs 1 (plain 0)).shadow.source) same.registers;
  frames = same.frames;
}

pub answers_agree : (b : Platform) (t : ℕ) (a c : State) (v w : Cap) → t < length a.threads → t < length c.threads → a.running ≡ Some t → Agree b t a c → v ≡ w → Agree b t (answers a t v) (answers c t w)
answers_agree b t a c v w there there_too runs agree value =
    put_agree b t a c (answered (thread a t) v) (answered (thread c t) w) there there_too agree.public runs (same_status a c t agree.public)
    (answered_same (thread a t) (thread c t) v w agree.self value) agree.memory agree.devices agree.banks

-- the thread stops running
pub halted_agree : (b : Platform) (t : ℕ) (a c : State) → Agree b t a c → Agree b t (record a { running = None }) (record c { running = None })
halted_agree b t a c agree =
    let p = agree.public in
    record {
      public = record { running = refl; holder = refl; pending = p.pending; time = p.time; statuses = p.statuses; picks = p.picks; objects = p.objects; next = p.next; tokens = p.tokens; front = p.front };
      self = agree.self;
      memory = agree.memory;
      devices = agree.devices;
      banks = agree.banks;
    }

stops_agree : (b : Platform) (t : ℕ) (a c : State) (v w : Status) → t < length a.threads → t < length c.threads → a.running ≡ Some t → Agree b t a c → v ≡ w
    → Agree b t (record (record a { threads = slice_set a.threads t (with_status (answered (thread a t) (integer 0)) v) }) { running = None }) (record (record c { threads = slice_set c.threads t (with_status (answered (thread c t) (integer 0)) w) }) { running = None })
stops_agree b t a c v w there there_too runs agree same =
    let answer = answered_same (thread a t) (thread c t) (integer 0) (integer 0) agree.self refl in
    halted_agree b t _ _ (put_agree b t a c (with_status (answered (thread a t) (integer 0)) v) (with_status (answered (thread c t) (integer 0)) w) there there_too agree.public runs same
    (record { pcc = answer.pcc; registers = answer.registers; posture = answer.posture; frames = answer.frames }) agree.memory agree.devices agree.banks)

-- statuses are given to all threads
given_agree : (b : Platform) (t : ℕ) (a c : State) (vs ws : List Status) → a.running ≡ Some t → Agree b t a c → vs ≡ ws → Agree b t (record a { threads = with_statuses a.threads vs }) (record c { threads = with_statuses c.threads ws })
given_agree b t a c vs ws runs agree same =
    let p = agree.public in
    let framed : (thread (record a { threads = with_statuses a.threads vs }) t).frames ≡ (thread a t).frames = kept_by_statuses (λ x. x.frames) (λ x v. refl) a.threads vs t in
    let posture : (thread (record a { threads = with_statuses a.threads vs }) t).posture ≡ (thread (record c { threads = with_statuses c.threads ws }) t).posture =
    kept_by_statuses (λ x. x.posture) (λ x v. refl) a.threads vs t ∙ agree.self.posture ∙ sym (kept_by_statuses (λ x. x.posture) (λ x v. refl) c.threads ws t) in
    record {
      public = record {
        running = p.running;
        holder = same_holder (record a { threads = with_statuses a.threads vs }) (record c { threads = with_statuses c.threads ws }) t runs (sym p.running ∙ runs) posture;
        pending = p.pending;
        time = p.time;
        statuses = statuses_given a.threads vs ∙ ap (λ os. begun_with os vs) p.statuses ∙ ap (λ os. begun_with (statuses_of c.threads) os) same ∙ sym (statuses_given c.threads ws);
        picks = p.picks;
        objects = p.objects;
        next = p.next;
        tokens = p.tokens;
        front = p.front;
      };
      self = record {
        pcc = kept_by_statuses (λ x. x.pcc) (λ x v. refl) a.threads vs t ∙ agree.self.pcc ∙ sym (kept_by_statuses (λ x. x.pcc) (λ x v. refl) c.threads ws t);
        registers = kept_by_statuses (λ x. x.registers) (λ x v. refl) a.threads vs t ∙ agree.self.registers ∙ sym (kept_by_statuses (λ x. x.registers) (λ x v. refl) c.threads ws t);
        posture = posture;
        frames = kept_by_statuses shapes (λ x v. refl) a.threads vs t ∙ agree.self.frames ∙ sym (kept_by_statuses shapes (λ x v. refl) c.threads ws t);
      };
      memory = subst (λ fs. SameMemory b.image (Sees b.image a.objects t fs) a.granules c.granules) (sym framed) agree.memory;
      devices = λ m seen. agree.devices m (subst (λ fs. SeesDevice b fs m) framed seen);
      banks = agree.banks;
    }

-- ---- two runs of a routine

-- they trap for the same, or tell the same, and where the thread stays in its frame it sees the same of what they leave
abbrev pub SameRan : Platform → State → ℕ → Ran → Ran → Type 0
SameRan b s t (Traps w) (Traps v) = w ≡ v
SameRan b s t (Traps w) (Leaves c p) = ⊥
SameRan b s t (Leaves a o) (Traps v) = ⊥
SameRan b s t (Leaves a o) (Leaves c p) = (o ≡ p) × (StaysIn s a t → Agree b t a c)

abbrev top_of : List Shape → ℕ
top_of [] = 0
top_of (x ∷ xs) = x.top

top_by : (fs : List Frame) → frame_top fs ≡ top_of (map frame_shape fs)
top_by [] = refl
top_by (f ∷ fs) = refl

depth_by : (fs : List Frame) → length fs ≡ length (map frame_shape fs)
depth_by [] = refl
depth_by (f ∷ fs) = ap (λ n. suc n) (depth_by fs)

-- the checks of a word, by whether it lies in RAM
abbrev word_checks_by : Bool → Cap → List Check
word_checks_by inside c =
    (c.tag, capability_trap TAG_CODE 10)
    ∷ (is_unsealed c, capability_trap SEAL_CODE 10)
    ∷ (has c load_data, capability_trap LOAD_CODE 10)
    ∷ (is_range_inside c (cap_address c) (cap_address c + 4) && inside, capability_trap BOUNDS_CODE 10)
    ∷ (cap_address c % 4 == 0, plain_trap MISALIGNED_LOAD)
    ∷ []

module _ (b : Platform) (s z : State) (t : ℕ) (parts : Partitioned b.image) (wired : Wired b) (one : Confined b.image s) (two : Confined b.image z) (runs : s.running ≡ Some t) (agree : Agree b t s z) (tagged : (thread s t).pcc.tag ≡ true) where
  pub same_register : (n : ℕ) → register (thread s t) n ≡ register (thread z t) n
  same_register n = ap (λ rs. slice_index_or rs n (plain 0)) agree.self.registers

  pub framed : (f : Frame) × ((fs : List Frame) × ((thread s t).frames ≡ f ∷ fs))
  framed = headed b.image s.objects t (thread s t).frames (thread s t).pcc (one.pcc t) tagged

  framed_too : (f : Frame) × ((fs : List Frame) × ((thread z t).frames ≡ f ∷ fs))
  framed_too = headed b.image z.objects t (thread z t).frames (thread z t).pcc (two.pcc t) (subst (λ (c : Cap). c.tag ≡ true) agree.self.pcc tagged)

  pub inside : t < length s.threads
  inside = framed_there s t framed.0 framed.1.0 framed.1.1

  pub inside_too : t < length z.threads
  inside_too = framed_there z t framed_too.0 framed_too.1.0 framed_too.1.1

  pub checked_two : (cs ds : List Check) (p q : Ran) → cs ≡ ds → (first_failed cs ≡ None → SameRan b s t p q) → SameRan b s t (checked cs p) (checked ds q)
  checked_two cs ds p q e so = subst (λ es. SameRan b s t (checked cs p) (checked es q)) e (elim (option_tells (first_failed cs)) [
    | inl none ↦ rw none (so none)
    | inr failed ↦ rw failed.1 refl
  ])

  pub tells_two : (v w : Cap) → v ≡ w → SameRan b s t (tells s t v) (tells z t w)
  tells_two v w e = (refl, λ stays. answers_agree b t s z v w inside inside_too runs agree e)

  same_quota : quota_in s t ≡ quota_in z t
  same_quota = ap (λ (c : Cap). c.shadow.root) (same_register 10)

  pub by_quota_two : (p q : Ran) → SameRan b s t p q → SameRan b s t (by_quota s t p) (by_quota z t q)
  by_quota_two p q so = checked_two (return_checks (register (thread s t) 1)) (return_checks (register (thread z t) 1)) _ _ (ap return_checks (same_register 1))
      (λ none. two_choices (SameRan b s t) (is_quota_cap (register (thread s t) 10)) (is_quota_cap (register (thread z t) 10)) p (tells s t (code NO_QUOTA)) q (tells z t (code NO_QUOTA)) (ap is_quota_cap (same_register 10))
      (λ is. so) (λ not. tells_two (code NO_QUOTA) (code NO_QUOTA) refl))

  -- ---- yield, sleep, remaining

  stops_two : (v w : Status) → v ≡ w → SameRan b s t (stops s t v) (stops z t w)
  stops_two v w e = (refl, λ stays. stops_agree b t s z v w inside inside_too runs agree e)

  pub yield_two : SameRan b s t (yield s t) (yield z t)
  yield_two = checked_two (return_checks (register (thread s t) 1)) (return_checks (register (thread z t) 1)) _ _ (ap return_checks (same_register 1)) (λ none. stops_two (asleep 0) (asleep 0) refl)

  pub sleep_two : SameRan b s t (sleep s t) (sleep z t)
  sleep_two = checked_two (return_checks (register (thread s t) 1)) (return_checks (register (thread z t) 1)) _ _ (ap return_checks (same_register 1)) (λ none. stops_two _ _ (ap (λ c. asleep (cap_address c)) (same_register 10)))

  pub remaining_two : SameRan b s t (remaining b.image s t) (remaining b.image z t)
  remaining_two = by_quota_two _ _ (tells_two _ _
      (ap (λ q. integer ((root b.image q).limit - charges q s.objects)) same_quota ∙ ap (λ os. integer ((root b.image (quota_in z t)).limit - charges (quota_in z t) os)) agree.public.objects))

  -- ---- wait and wake

  same_word_checks : word_checks b.image s (register (thread s t) 10) ≡ word_checks b.image z (register (thread z t) 10)
  same_word_checks = ap (λ m. word_checks_by m (register (thread s t) 10)) (same_ram b s z t parts wired one two runs agree (cap_address (register (thread s t) 10)) 4)
      ∙ ap (λ c. word_checks b.image z c) (same_register 10)

  -- the word that is waited for is in view
  same_word : first_failed (word_checks b.image s (register (thread s t) 10)) ≡ None → loaded s.granules (cap_address (register (thread s t) 10) - b.image.ram) 4 ≡ loaded z.granules (cap_address (register (thread z t) 10) - b.image.ram) 4
  same_word passes =
      let all = all_pass (word_checks b.image s (register (thread s t) 10)) passes in
      let both = and_parts (is_range_inside (register (thread s t) 10) (cap_address (register (thread s t) 10)) (cap_address (register (thread s t) 10) + 4)) (is_ram (space_of b s) (cap_address (register (thread s t) 10)) 4) all.1.1.1.0 in
      let range = range_says (register (thread s t) 10) (cap_address (register (thread s t) 10)) (cap_address (register (thread s t) 10) + 4) both.0 in
      let low = range.0 in
      let high = range.1 in
      let head = headed b.image s.objects t (thread s t).frames (register (thread s t) 10) (one.registers t 10) all.0 in
      let u = register_used b.image s t 10 head.0 head.1.0 one runs head.1.1 all.0 in
      same_bytes b s z t parts wired one two runs agree (cap_address (register (thread s t) 10)) 4 (ram_begins (space_of b s) (cap_address (register (thread s t) 10)) 4 both.1) (inr (inr refl)) (eqb-true (cap_address (register (thread s t) 10) % 4) 0 all.1.1.1.1.0)
      (λ x from to. seen b s z t parts wired one two runs agree (register (thread s t) 10) head.0 head.1.0 head.1.1 u (run_of b s z t parts wired one two runs agree (register (thread s t) 10) head.0 head.1.0 head.1.1 (one.registers t 10) all.0) (inl all.1.1.0) x (omega (arith, low, from)) (omega (arith, high, to)))
      ∙ ap (λ c. loaded z.granules (cap_address c - b.image.ram) 4) (same_register 10)

  waits_two : (at held wanted other word value : ℕ) → at ≡ other → held ≡ word → wanted ≡ value → SameRan b s t (waits s t at held wanted) (waits z t other word value)
  waits_two at held wanted other word value place holds wants =
      subst (λ n. SameRan b s t (waits s t at held wanted) (waits z t n word value)) place
      (subst (λ n. SameRan b s t (waits s t at held wanted) (waits z t at n value)) holds
      (subst (λ n. SameRan b s t (waits s t at held wanted) (waits z t at held n)) wants
      (two_choices (SameRan b s t) (held == wanted) (held == wanted) _ _ _ _ refl (λ is. stops_two (awaiting at held wanted) (awaiting at held wanted) refl) (λ not. tells_two (code DIFFERS) (code DIFFERS) refl))))

  pub wait_two : SameRan b s t (wait b.image s t) (wait b.image z t)
  wait_two = checked_two (return_checks (register (thread s t) 1)) (return_checks (register (thread z t) 1)) _ _ (ap return_checks (same_register 1))
      (λ none. checked_two (word_checks b.image s (register (thread s t) 10)) (word_checks b.image z (register (thread z t) 10)) _ _ same_word_checks
      (λ passes. waits_two _ _ _ _ _ _ (ap cap_address (same_register 10)) (same_word passes) (ap cap_address (same_register 11))))

  -- the same threads are woken, and as many
  wakes_two : (at most other number : ℕ) → at ≡ other → most ≡ number → Agree b t (threads_woken s t at most) (threads_woken z t other number)
  wakes_two at most other number place many =
      subst (λ n. Agree b t (threads_woken s t at most) (threads_woken z t n number)) place
      (subst (λ n. Agree b t (threads_woken s t at most) (threads_woken z t at n)) many
      (given_agree b t (answers s t (integer (woken_count at most (statuses_of s.threads)))) (answers z t (integer (woken_count at most (statuses_of z.threads)))) (woken at most (statuses_of s.threads)) (woken at most (statuses_of z.threads)) runs
      (answers_agree b t s z _ _ inside inside_too runs agree (ap (λ vs. integer (woken_count at most vs)) agree.public.statuses))
      (ap (λ vs. woken at most vs) agree.public.statuses)))

  pub wake_two : SameRan b s t (wake b.image s t) (wake b.image z t)
  wake_two = checked_two (return_checks (register (thread s t) 1)) (return_checks (register (thread z t) 1)) _ _ (ap return_checks (same_register 1))
      (λ none. checked_two (word_checks b.image s (register (thread s t) 10)) (word_checks b.image z (register (thread z t) 10)) _ _ same_word_checks
      (λ passes. (refl, λ stays. wakes_two _ _ _ _ (ap cap_address (same_register 10)) (ap cap_address (same_register 11)))))

  -- ---- token_open, and what the routines of tokens share

  pub same_key : (c d : Cap) → c ≡ d → key_of s c ≡ key_of z d
  same_key c d e = ap (λ u. key_of s u) e ∙ ap (λ os. as_key s.tokens (sealed_object os d)) agree.public.objects ∙ ap (λ ts. as_key ts (sealed_object z.objects d)) agree.public.tokens

  pub same_token : (key : ℕ) (c d : Cap) → c ≡ d → token_object s key c ≡ token_object z key d
  same_token key c d e = ap (λ u. token_object s key u) e ∙ ap (λ os. as_token s.tokens key (sealed_object os d)) agree.public.objects ∙ ap (λ ts. as_token ts key (sealed_object z.objects d)) agree.public.tokens

  pub by_key_two : (o p : Option Object) (ran run : ℕ → Ran) → o ≡ p → ((n : ℕ) → SameRan b s t (ran n) (run n)) → SameRan b s t (by_key s t o ran) (by_key z t p run)
  by_key_two o p ran run e so = two_options (λ x y. SameRan b s t (by_key s t x ran) (by_key z t y run)) o p e (tells_two (code NO_KEY) (code NO_KEY) refl) (λ key is. so key.number)

  opens_two : (c d : Cap) (o p : Option Object) → c ≡ d → o ≡ p → SameRan b s t (opens s t c o) (opens z t d p)
  opens_two c d o p same e = two_options (λ x y. SameRan b s t (opens s t c x) (opens z t d y)) o p e (tells_two (code NO_TOKEN) (code NO_TOKEN) refl) (λ r is. tells_two (opened_token c) (opened_token d) (ap opened_token same))

  pub token_open_two : SameRan b s t (token_open s t) (token_open z t)
  token_open_two = checked_two (return_checks (register (thread s t) 1)) (return_checks (register (thread z t) 1)) _ _ (ap return_checks (same_register 1))
      (λ none. by_key_two _ _ _ _ (same_key _ _ (same_register 10)) (λ key. opens_two _ _ _ _ (same_register 11) (same_token key _ _ (same_register 11))))

  -- ---- the switch

  same_top : frame_top (thread s t).frames ≡ frame_top (thread z t).frames
  same_top =
      let shaped : map frame_shape (thread s t).frames ≡ map frame_shape (thread z t).frames = agree.self.frames in
      top_by (thread s t).frames ∙ ap top_of shaped ∙ sym (top_by (thread z t).frames)

  same_depth : length (thread s t).frames ≡ length (thread z t).frames
  same_depth =
      let shaped : map frame_shape (thread s t).frames ≡ map frame_shape (thread z t).frames = agree.self.frames in
      depth_by (thread s t).frames ∙ ap (λ (xs : List Shape). length xs) shaped ∙ sym (depth_by (thread z t).frames)

  -- what the switch comes to, by what it reads
  abbrev checks_by : ℕ → List Cap → List Check
  checks_by top rs = return_checks (slice_index_or rs 1 (plain 0)) ++ gate_checks (slice_index_or rs 6 (plain 0)) ++ stack_checks (stack_base b.image t) top (slice_index_or rs 2 (plain 0))

  abbrev depth_of : ℕ → List Cap → Switched
  depth_of depth rs =
      cond (depth == frames_most b.image t) TooDeep
      (with_room b.image.entries (stack_base b.image t) (new_top (stack_base b.image t) (cap_address (slice_index_or rs 2 (plain 0)))) (root b.image (slice_index_or rs 6 (plain 0)).shadow.root).of)

  same_past : (o : Option Trap) → past_checks b.image.entries (stack_base b.image t) (frames_most b.image t) (thread s t) o ≡ past_checks b.image.entries (stack_base b.image t) (frames_most b.image t) (thread z t) o
  same_past (Some why) = refl
  same_past None = ap (λ n. depth_of n (thread s t).registers) same_depth ∙ ap (λ rs. depth_of (length (thread z t).frames) rs) agree.self.registers

  same_switch : switch_of b.image.entries (stack_base b.image t) (frame_top (thread s t).frames) (frames_most b.image t) (thread s t) ≡ switch_of b.image.entries (stack_base b.image t) (frame_top (thread z t).frames) (frames_most b.image t) (thread z t)
  same_switch = same_past (first_failed (checks_by (frame_top (thread s t).frames) (thread s t).registers))
      ∙ ap (λ top. past_checks b.image.entries (stack_base b.image t) (frames_most b.image t) (thread z t) (first_failed (checks_by top (thread s t).registers))) same_top
      ∙ ap (λ rs. past_checks b.image.entries (stack_base b.image t) (frames_most b.image t) (thread z t) (first_failed (checks_by (frame_top (thread z t).frames) rs))) agree.self.registers

  abbrev callee : ℕ → ℕ → Thread
  callee export high =
      let actor : ℕ = compartment_of (root b.image export).owner in
      entered b.image (thread s t) actor export high (callee_start b.image (thread s t) t actor export high)

  switched_two : (w : Switched) → SameRan b s t (switched_to b.image s t w) (switched_to b.image z t w)
  switched_two (Trapped why) = refl
  switched_two TooDeep = tells_two (code TOO_DEEP) (code TOO_DEEP) refl
  switched_two NoStack = tells_two (code NO_STACK) (code NO_STACK) refl
  switched_two (Enters export high) = (
    ap (λ (c : Cap). Some (c.shadow.root, acts.Call export)) (same_register 6),
    λ stays. absurd (omega (arith, moved b.image s t framed.0 framed.1.0 framed.1.1 (callee export high) (switched b.image s t high (callee export high) s.running) (get_or-set_same s.threads t (callee export high) nobody inside) stays, ap (λ (fs : List Frame). length fs) framed.1.1)),
  )

  pub switch_two : SameRan b s t (switch b.image s t) (switch b.image z t)
  switch_two = subst (λ w. SameRan b s t (switch b.image s t) (switched_to b.image z t w)) same_switch
      (switched_two (switch_of b.image.entries (stack_base b.image t) (frame_top (thread s t).frames) (frames_most b.image t) (thread s t)))
