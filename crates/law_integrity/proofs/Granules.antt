-- What a step of a thread changes of RAM: by a store whose checks pass, in the thread's own stack, or by a free.
use Rattle.std.proofs.Common.{ℕ, zero, suc, ◌≡◌, ◌+◌, ◌-◌, ◌/◌, ◌%◌, ◌^◌, ◌≤◌, ◌<◌, ◌⊎◌, inl, inr, true, false, List, [], ◌∷◌, length, Option, Some, None, Result, Ok, Err, refl, sym, ap, ◌∙◌, subst, arith, slice_set, option_map}
use Rattle.std.proofs.Math.Nat.{div-mul-le_self}
use Rattle.std.proofs.Math.ListN.{get_or}
use Rattle.std.proofs.lemmas.List.{get_or_past, get_or-set_same, length-set}
use Rattle.law_lists.proofs.Sets.{after_set_split}
use Rattle.law_lists.proofs.Tests.{chosen, lt_tells}
use Rattle.ct_entry.specs.declared.acts.Act.TheVariants as acts
use Rattle.ct_entry.specs.declared.acts.Deed.{Deed}
use Rattle.def_instr.specs.declared.Instr.{Instr}
use Rattle.def_words.specs.declared.Cap.{Cap}
use Rattle.def_words.specs.declared.Trap.{Trap}
use Rattle.def_words.specs.Authority.{cap_address}
use Rattle.def_words.specs.Capability.{integer}
use Rattle.def_words.specs.Loaded.{stored_through}
use Rattle.def_memory.specs.declared.Granule.{Granule}
use Rattle.def_memory.specs.Granules.{plain, nothing, granule_at}
use Rattle.def_memory.specs.Accesses.{with_part, byte_of}
use Rattle.def_memory.specs.Ranges.{zeroed_from}
use Rattle.def_reach.specs.Roots.{compartment_of}
use Rattle.law_granules.proofs.Bytes.{put_byte_below, put_byte_above}
use Rattle.law_granules.proofs.Lists.{zeroed_at, zeroed_length, marked_at, marked_length}
use Rattle.def_machine.specs.Platform.{Platform}
use Rattle.def_machine.specs.Image.{root, granule_of, address_of, stack_base}
use Rattle.def_machine.specs.Memory.{cap_stored, bytes_stored}
use Rattle.def_machine.specs.Objects.{charges}
use Rattle.def_machine.specs.State.{State, Thread, Frame, Object, nobody, thread, register, granule}
use Rattle.def_machine.specs.Frames.{returned, ended_with, switched, entered, pushed_frame, callee_start}
use Rattle.def_confined.specs.Confined.{Confined}
use Rattle.def_confined.specs.Facts.{Facts}
use Rattle.def_confined.specs.Keeps.{Keeps}
use Rattle.def_confined.specs.Partitioned.{Partitioned}
use Rattle.def_step.specs.declared.TheConstants.{TRAP_RECORD}
use Rattle.def_step.specs.declared.Class.{Class}
use Rattle.def_step.specs.declared.Class.TheVariants as class
use Rattle.def_step.specs.declared.Next.TheVariants.{Instruction}
use Rattle.def_step.specs.Accesses.{Accessed, access_of, access_checks, access_address, access_result, accessed, ram_stored, unless}
use Rattle.def_step.specs.Checks.{first_failed}
use Rattle.def_step.specs.Handlers.{record_end, record_words, words_written, is_handled, handler_entered}
use Rattle.def_step.specs.Instructions.{Effect, carried_out, named_by, flows, accesses, around, space_of, operand, deed, deed_told, executed, fetch_checks, next_at, actor_of}
use Rattle.def_step.specs.Jumps.{Flowed}
use Rattle.def_step.specs.Operands.{operands_of, class_of}
use Rattle.def_step.specs.Quotas.{let_go, quota_in}
use Rattle.def_step.specs.Routines.{answers}
use Rattle.def_step.specs.Switch.{switch_checks, called, room_exponent, room_of, frame_top}
use Rattle.def_safety.specs.Accesses.{IsUseAt}
use Rattle.def_safety.specs.Clean.{high_of}
use Rattle.def_safety.specs.Used.{authority_of, access_start, AccessPasses, used_right}
use Rattle.def_integrity.specs.Acting.{Acting, IsAuthority}
use Rattle.def_integrity.specs.Touched.{IsStored, ClearsForCall, ClearsAtEnd, IsCleared, record_start, record_word, IsRecorded, IsFreed}
use Rattle.law_moves.proofs.Authorities.{headed}
use Rattle.law_moves.proofs.Checks.{all_pass}
use Rattle.law_routines.proofs.Accesses.{by_access, ram_begins}
use Rattle.law_routines.proofs.Leaving.{entering, call_told, free_told}
use Rattle.law_routines.proofs.Objects.{Found}
use Rattle.law_routines.proofs.Stepping.{carried}
use Rattle.law_events.proofs.Checking.{fetch_passes}
use Rattle.law_events.proofs.Cleans.{framed_there}
use Rattle.law_events.proofs.Begins.{record_ends, words_rest}
use Rattle.law_events.proofs.Entered.{says, lies}
use Rattle.law_events.proofs.Switching.{checks_say, caller_of}
use Rattle.law_events.proofs.Whole.{handler_begins, stack_in_ram}
use Rattle.law_integrity.proofs.Accesses.{authority_says, granule_says, whole_says}
use Rattle.law_integrity.proofs.Cases.{executed_case}
use Rattle.law_history.proofs.Routines.{IfEffect, Both, MayFetch, trap_told}

-- ---- what a granule may be after a step of a thread

-- in the state s, which its thread leaves as z with what is told
pub data Left (b : Platform) (s : State) (told : Option Deed) (z : State) (k : ℕ) (g : Granule) : Type 0 where
  same : g ≡ granule s k → Left b s told z k g
  of_store : IsStored b s k g → Left b s told z k g
  of_switch : IsCleared b s told z k g → Left b s told z k g
  of_trap : IsRecorded b s told k g → Left b s told z k g
  of_free : IsFreed b s told k g → Left b s told z k g

abbrev pub AllLeft : Platform → State → State → Option Deed → Type 0
AllLeft b s z told = (k : ℕ) → Left b s told z k (granule z k)

-- what the running thread's accesses are uses of
abbrev pub Uses : Platform → State → ℕ → Type 0
Uses b s t =
    (k : Instr) (f : Frame) (fs : List Frame) → (thread s t).frames ≡ f ∷ fs → AccessPasses s t k
    → IsUseAt b.image s.objects t f.actor (authority_of s t k) (access_start s t k) (access_of k).width (used_right (access_of k))

pub record Running (b : Platform) (s : State) (t : ℕ) : Type 0 where
  pub parts : Partitioned b.image
  pub facts : Facts b.image
  pub keeps : Keeps b.image s
  pub runs : s.running ≡ Some t
  pub uses : Uses b s t

-- ---- who acts

abbrev pub acting : (s : State) (t : ℕ) (f : Frame) (fs : List Frame) → s.running ≡ Some t → (thread s t).frames ≡ f ∷ fs → Acting s
acting s t f fs runs frames = record { thread_is = t; frame = f; below = fs; running = runs; frames = frames }

-- a thread whose fetch passes has a frame
pub head_of : (b : Platform) (s : State) (t : ℕ) → Confined b.image s → MayFetch s t → (f : Frame) × ((fs : List Frame) × ((thread s t).frames ≡ f ∷ fs))
head_of b s t h fetched =
    headed b.image s.objects t (thread s t).frames (thread s t).pcc (h.pcc t) (fetch_passes (thread s t).pcc (all_pass (fetch_checks (thread s t).pcc) fetched)).tagged

-- ---- words in a row

words_length : (gs : List Granule) (k : ℕ) (ws : List ℕ) → length (words_written gs k ws) ≡ length gs
words_length gs k [] = refl
words_length gs k (w ∷ ws) = words_length (slice_set gs k (record { cap = plain w; mark = (granule_at gs k).mark })) (k + 1) ws ∙ length-set gs k (record { cap = plain w; mark = (granule_at gs k).mark })

-- each granule holds its word
words_have : (gs : List Granule) (k : ℕ) (ws : List ℕ) (j n : ℕ) → j ≡ k + n → n < length ws → j < length gs → (granule_at (words_written gs k ws) j).cap ≡ plain (get_or ws n 0)
words_have gs k [] j n at lt there = absurd (omega (arith, lt))
words_have gs k (w ∷ ws) j zero at lt there =
    let new : Granule = record { cap = plain w; mark = (granule_at gs k).mark } in
    let here : k ≡ j = omega (arith, at) in
    ap (λ (g : Granule). g.cap) (words_rest (slice_set gs k new) (k + 1) ws j (inl (omega (arith, at))))
    ∙ ap (λ (g : Granule). g.cap) (subst (λ m. granule_at (slice_set gs k new) m ≡ new) here (get_or-set_same gs k new nothing (omega (arith, at, there))))
words_have gs k (w ∷ ws) j (suc n) at lt there =
    let size : length (slice_set gs k (record { cap = plain w; mark = (granule_at gs k).mark })) ≡ length gs = length-set gs k (record { cap = plain w; mark = (granule_at gs k).mark }) in
    words_have (slice_set gs k (record { cap = plain w; mark = (granule_at gs k).mark })) (k + 1) ws j n (omega (arith, at)) (omega (arith, lt)) (omega (arith, size, there))

upto_10 : (Q : ℕ → Type 0) → Q 0 → Q 1 → Q 2 → Q 3 → Q 4 → Q 5 → Q 6 → Q 7 → Q 8 → Q 9 → (j : ℕ) → j < 10 → Q j
upto_10 Q q0 q1 q2 q3 q4 q5 q6 q7 q8 q9 zero lt = q0
upto_10 Q q0 q1 q2 q3 q4 q5 q6 q7 q8 q9 (suc zero) lt = q1
upto_10 Q q0 q1 q2 q3 q4 q5 q6 q7 q8 q9 (suc (suc zero)) lt = q2
upto_10 Q q0 q1 q2 q3 q4 q5 q6 q7 q8 q9 (suc (suc (suc zero))) lt = q3
upto_10 Q q0 q1 q2 q3 q4 q5 q6 q7 q8 q9 (suc (suc (suc (suc zero)))) lt = q4
upto_10 Q q0 q1 q2 q3 q4 q5 q6 q7 q8 q9 (suc (suc (suc (suc (suc zero))))) lt = q5
upto_10 Q q0 q1 q2 q3 q4 q5 q6 q7 q8 q9 (suc (suc (suc (suc (suc (suc zero)))))) lt = q6
upto_10 Q q0 q1 q2 q3 q4 q5 q6 q7 q8 q9 (suc (suc (suc (suc (suc (suc (suc zero))))))) lt = q7
upto_10 Q q0 q1 q2 q3 q4 q5 q6 q7 q8 q9 (suc (suc (suc (suc (suc (suc (suc (suc zero)))))))) lt = q8
upto_10 Q q0 q1 q2 q3 q4 q5 q6 q7 q8 q9 (suc (suc (suc (suc (suc (suc (suc (suc (suc zero))))))))) lt = q9
upto_10 Q q0 q1 q2 q3 q4 q5 q6 q7 q8 q9 (suc (suc (suc (suc (suc (suc (suc (suc (suc (suc j)))))))))) lt = absurd (omega (arith, lt))

record_says : (old : Thread) (why : Trap) (n : ℕ) → n < 10 → get_or (record_words old why) n 0 ≡ record_word old why n
record_says old why = upto_10 (λ n. get_or (record_words old why) n 0 ≡ record_word old why n) refl refl refl refl refl refl refl refl refl refl

-- ---- the thread's own stack is cleared

module _ (b : Platform) (s : State) (t : ℕ) (r : Running b s t) where
  -- up to an address no further than the top of its innermost frame
  cleared : (f : Frame) (fs : List Frame) (frames : (thread s t).frames ≡ f ∷ fs) (high : ℕ) (new : Thread) (run : Option ℕ) (told : Option Deed) → high ≤ f.top
      → ((x : ℕ) → x < high → ClearsForCall s (acting s t f fs r.runs frames) told (switched b.image s t high new run) x ⊎ ClearsAtEnd s (acting s t f fs r.runs frames) (switched b.image s t high new run) x)
      → AllLeft b s (switched b.image s t high new run) told
  cleared f fs frames high new run told under why k =
      zeroed_at (stack_base b.image t) high b.image.ram s.granules k (Left b s told (switched b.image s t high new run) k)
      (λ low below. of_switch (record { by = acting s t f fs r.runs frames; low = low; high = omega (arith, below, under); why = why (address_of b.image k) below; new_is = refl }))
      (λ outside. same refl)

  -- its frames are those of what is put in its place
  frames_left : (f : Frame) (fs : List Frame) → (thread s t).frames ≡ f ∷ fs → (high : ℕ) (new : Thread) (run : Option ℕ) (gs : List Frame) → new.frames ≡ gs → (thread (switched b.image s t high new run) t).frames ≡ gs
  frames_left f fs frames high new run gs is = ap (λ (x : Thread). x.frames) (get_or-set_same s.threads t new nobody (framed_there s t f fs frames)) ∙ is

  -- up to the top of its innermost frame, where that ended
  cleared_whole : (f : Frame) (fs : List Frame) → (thread s t).frames ≡ f ∷ fs → (new : Thread) (run : Option ℕ) (told : Option Deed) → new.frames ≡ fs → AllLeft b s (switched b.image s t f.top new run) told
  cleared_whole f fs frames new run told is = cleared f fs frames f.top new run told (omega arith) (λ x below. inr (record { ends = frames_left f fs frames f.top new run fs is; high = below }))

  ended_left : (value : ℕ) (told : Option Deed) (fs : List Frame) → (thread s t).frames ≡ fs → AllLeft b s (ended_with b.image s t value fs) told
  ended_left value told [] e = λ k. same refl
  ended_left value told (f ∷ []) e = cleared_whole f [] e nobody None told refl
  ended_left value told (f ∷ g ∷ gs) e = cleared_whole f (g ∷ gs) e _ s.running told refl

  returned_left : (fs : List Frame) → (thread s t).frames ≡ fs → AllLeft b s (returned b.image s t fs) None
  returned_left [] e = λ k. same refl
  returned_left (f ∷ []) e = cleared_whole f [] e nobody None None refl
  returned_left (f ∷ g ∷ gs) e = cleared_whole f (g ∷ gs) e _ s.running None refl

  -- a call is told by the caller
  entered_left : MayFetch s t → first_failed (switch_checks (stack_base b.image t) (frame_top (thread s t).frames) (thread s t)) ≡ None
      → AllLeft b s (entering b.image s t (called b.image.entries (thread s t)) (high_of b.image s t)) (option_map (deed_told s t) (Some (call_told s t (called b.image.entries (thread s t)))))
  entered_left fetched none =
      let passed = checks_say b.image s t none in
      let caller = caller_of b.image s t r.facts r.keeps.confined passed in
      let top = caller.top in
      let stack_low = passed.stack_low in
      let stack_high = passed.stack_high in
      let room : room_of (cap_address (register (thread s t) 2) - stack_base b.image t) ≤ cap_address (register (thread s t) 2) - stack_base b.image t = div-mul-le_self (cap_address (register (thread s t) 2) - stack_base b.image t) (2 ^ room_exponent (cap_address (register (thread s t) 2) - stack_base b.image t)) in
      let export : ℕ = called b.image.entries (thread s t) in
      let callee : ℕ = compartment_of (root b.image (called b.image.entries (thread s t))).owner in
      let begun : Thread = entered b.image (thread s t) callee export (high_of b.image s t) (callee_start b.image (thread s t) t callee export (high_of b.image s t)) in
      cleared caller.frame caller.below caller.frames (high_of b.image s t) begun s.running _ (omega (arith, top, stack_low, stack_high, room))
      (λ x below. inl (record {
        export = export;
        why = record {
          deed = deed_told s t (call_told s t (called b.image.entries (thread s t)));
          is_told = refl;
          by_thread = refl;
          by_actor = ap actor_of caller.frames;
          act_is = refl;
        };
        callee = pushed_frame (thread s t) callee export (high_of b.image s t);
        pushes = frames_left caller.frame caller.below caller.frames (high_of b.image s t) begun s.running _ (ap (λ (hs : List Frame). pushed_frame (thread s t) callee export (high_of b.image s t) ∷ hs) caller.frames);
        room = omega (arith, stack_low, room);
        high = below;
      }))

  -- ---- an error handler

  -- the word of the record that lies at a granule
  word_left : (why : Trap) (f : Frame) (fs : List Frame) → (thread s t).frames ≡ f ∷ fs → is_handled b.image (stack_base b.image t) (thread s t) f ≡ true → (k : ℕ) → k < length s.granules
      → record_start (register (thread s t) 2) ≤ address_of b.image k → address_of b.image k < record_end (register (thread s t) 2)
      → (granule (handler_entered b.image s t why f fs) k).cap ≡ plain (record_word (thread s t) why ((address_of b.image k - record_start (register (thread s t) 2)) / 8))
  word_left why f fs frames is k there from to =
      let say = says b.image s t f is in
      let room = say.room in
      let at = (lies b.image s t f fs r.parts (stack_in_ram b.image s t f fs r.parts r.keeps.confined frames say) r.keeps.confined frames say).at in
      words_have s.granules ((record_start (register (thread s t) 2) - b.image.ram) / 8) (record_words (thread s t) why) k ((address_of b.image k - record_start (register (thread s t) 2)) / 8)
      (omega (arith, at, from)) (omega (arith, from, to, room)) there
      ∙ ap (λ w. plain w) (record_says (thread s t) why ((address_of b.image k - record_start (register (thread s t) 2)) / 8) (omega (arith, from, to, room)))

  handled_left : (why : Trap) (f : Frame) (fs : List Frame) → (thread s t).frames ≡ f ∷ fs → is_handled b.image (stack_base b.image t) (thread s t) f ≡ true → AllLeft b s (handler_entered b.image s t why f fs) (trap_told s t why)
  handled_left why f fs frames is k =
      let begins = handler_begins b.image s t why f fs r.parts r.facts r.keeps frames is in
      let ends = record_ends (stack_base b.image t) f.top (cap_address (register (thread s t) 2)) begins.at begins.place in
      let say = says b.image s t f is in
      let room = say.room in
      let top = say.high in
      elim (lt_tells (address_of b.image k) (record_start (register (thread s t) 2))) [
        | inl before ↦ same (begins.rest k (inl (let under : address_of b.image k < record_end (register (thread s t) 2) - TRAP_RECORD = before.1 in omega (arith, ends, under))))
        | inr after ↦ elim (lt_tells (address_of b.image k) (record_end (register (thread s t) 2))) [
          | inl inside ↦
              let at_least = after.1 in
              let less = inside.1 in
              elim (lt_tells k (length s.granules)) [
                | inl there ↦ of_trap (record {
                  by = acting s t f fs r.runs frames;
                  trap = why;
                  why = record {
                    deed = deed s t 0 (acts.Trap why.cause why.code why.register);
                    is_told = refl;
                    by_thread = refl;
                    by_actor = ap actor_of frames;
                    act_is = refl;
                  };
                  enters = is;
                  low = omega (arith, room, at_least);
                  from = after.1;
                  to = inside.1;
                  high = omega (arith, top, less);
                  word = word_left why f fs frames is k there.1 after.1 inside.1;
                  mark = begins.marks k;
                })
                | inr none ↦
                    let none_le = none.1 in
                    same (get_or_past (handler_entered b.image s t why f fs).granules k nothing (rw (words_length s.granules ((record_start (register (thread s t) 2) - b.image.ram) / 8) (record_words (thread s t) why)) none_le) ∙ sym (get_or_past s.granules k nothing none_le))
              ]
          | inr past ↦ same (begins.rest k (inr (let over = past.1 in omega (arith, ends, over))))
        ]
      ]

  -- ---- a free

  freed_left : MayFetch s t → (o : Object) (c : Cap) → Found (quota_in s t) c s.objects o → AllLeft b s (answers (let_go b.image s t o) t (integer 0)) (option_map (deed_told s t) (Some (free_told b.image s t o)))
  freed_left fetched o c found k =
      let head = head_of b s t r.keeps.confined fetched in
      let told : Option Deed = option_map (deed_told s t) (Some (free_told b.image s t o)) in
      let z : State = answers (let_go b.image s t o) t (integer 0) in
      let middle : List Granule = zeroed_from o.base (o.base + o.length) b.image.ram s.granules in
      let size : length middle ≡ length s.granules = zeroed_length o.base (o.base + o.length) b.image.ram s.granules in
      let free_of : (g : Granule) → o.base ≤ address_of b.image k + 8 → address_of b.image k < o.base + o.length → (address_of b.image k < o.base → g.cap ≡ (granule s k).cap) → (o.base ≤ address_of b.image k → g.cap ≡ plain 0) → g.mark ≡ true
      → Left b s told z k g =
      λ g low high before body marked. of_free (record {
        by = acting s t head.0 head.1.0 r.runs head.1.1;
        object = o;
        there = found.there;
        live = found.live;
        left = charges o.quota (let_go b.image s t o).objects;
        why = record { deed = deed_told s t (free_told b.image s t o); is_told = refl; by_thread = refl; by_actor = ap actor_of head.1.1; act_is = refl };
        quota = refl;
        chunk = (low, high);
        head = before;
        body = body;
        mark = marked;
      }) in
      elim (lt_tells k (length s.granules)) [
        | inl there ↦
            let there_lt = there.1 in
            marked_at (o.base - 8) (o.base + o.length) true b.image.ram middle k (Left b s told z k) (omega (arith, size, there_lt))
            (λ low high. zeroed_at o.base (o.base + o.length) b.image.ram s.granules k (λ g. Left b s told z k (record g { mark = true }))
            (λ inside under. free_of _ (omega (arith, inside)) under (λ before. absurd (omega (arith, before, inside))) (λ body. refl) refl)
            (λ outside. free_of _ (omega (arith, low)) high (λ before. refl) (λ body. absurd (elim outside [ inl a ↦ omega (arith, a, body) | inr a ↦ omega (arith, a, high) ])) refl))
            (λ outside. zeroed_at o.base (o.base + o.length) b.image.ram s.granules k (Left b s told z k)
            (λ inside under. absurd (elim outside [ inl a ↦ omega (arith, a, inside) | inr a ↦ omega (arith, a, under) ]))
            (λ out. same refl))
        | inr past ↦
            let past_le = past.1 in
            same (get_or_past z.granules k nothing (rw (marked_length (o.base - 8) (o.base + o.length) true b.image.ram middle ∙ size) past_le) ∙ sym (get_or_past s.granules k nothing past_le))
      ]

  -- ---- an instruction

  abbrev Effects : Instr → Result Effect Trap → Type 0
  Effects k e = IfEffect (AllLeft b s) s t (operand s t (operands_of k).first) e

  flows_left : (k : Instr) (to : ℕ) (f : Result Flowed Trap) → Effects k (flows (around b s t) to f)
  flows_left k to (Err w) = tt
  flows_left k to (Ok j) = λ n. same refl

  -- a store in RAM
  module _ (k : Instr) (f : Frame) (fs : List Frame) (frames : (thread s t).frames ≡ f ∷ fs) (stands : next_at (space_of b s) (cap_address (thread s t).pcc) ≡ Instruction k) (is : class_of k ≡ class.Access) where
    -- what the store leaves
    abbrev after_store : List Granule
    after_store = ram_stored (access_of k) (operand s t (operands_of k).first) (operand s t (operands_of k).second) (access_start s t k) b.image.ram s.granules

    set_left : AccessPasses s t k → (access_of k).loads ≡ false → b.image.ram ≤ access_start s t k → (j : ℕ) (told : Option Deed) (z : State) (g : Granule) → g.mark ≡ (granule s (granule_of b.image (access_start s t k))).mark
        → ((n : ℕ) → n < 8 → (n < (access_start s t k - b.image.ram) % 8) ⊎ ((access_start s t k - b.image.ram) % 8 + (access_of k).width ≤ n) → byte_of g.cap.word n ≡ byte_of (granule s (granule_of b.image (access_start s t k))).cap.word n)
        → granule_at (slice_set s.granules (granule_of b.image (access_start s t k)) g) j ≡ granule_at after_store j
        → Left b s told z j (granule_at (slice_set s.granules (granule_of b.image (access_start s t k)) g) j)
    set_left passes stores inside j told z g mark rest leaves =
        after_set_split (λ (h : Granule). h ≡ granule_at after_store j → Left b s told z j h) s.granules (granule_of b.image (access_start s t k)) j g nothing
        (λ here new. of_store (record {
          by = acting s t f fs r.runs frames;
          instruction = k;
          stands = stands;
          accesses = is;
          stores = stores;
          passes = passes;
          uses = subst (λ n. IsUseAt b.image s.objects t f.actor (authority_of s t k) (access_start s t k) (access_of k).width n) (rw stores refl) (r.uses k f fs frames passes);
          authority = subst (λ n. IsAuthority (authority_of s t k) (access_start s t k) (access_of k).width n) (rw stores refl) (authority_says s t k passes);
          inside = inside;
          here = here;
          whole = granule_says b.image s t k j r.parts.even.0 passes inside here;
          new_is = new;
          rest = λ n lt out. subst (λ m. byte_of g.cap.word n ≡ byte_of (granule s m).cap.word n) here
              (rest n lt (elim out [ inl low ↦ inl (omega (arith, low, inside, here)) | inr high ↦ inr (omega (arith, high, inside, here)) ]));
          mark = mark ∙ ap (λ n. (granule s n).mark) here;
        }))
        (λ here none new. same (sym none))
        (λ other new. same refl)
        leaves

    ram_left : AccessPasses s t k → (access_of k).loads ≡ false → b.image.ram ≤ access_start s t k → (j : ℕ) (told : Option Deed) (z : State) → Left b s told z j (granule_at after_store j)
    ram_left passes stores inside j told z =
        let at : ℕ = access_start s t k in
        let x : Cap = operand s t (operands_of k).first in
        let y : Cap = operand s t (operands_of k).second in
        let old : Granule = granule s (granule_of b.image (access_start s t k)) in
        chosen (λ (gs : List Granule). granule_at gs j ≡ granule_at after_store j → Left b s told z j (granule_at gs j)) (access_of k).whole (cap_stored b.image s at x y).granules (bytes_stored b.image s at (access_of k).width (cap_address y)).granules
        (λ whole. set_left passes stores inside j told z (record { cap = stored_through x y; mark = old.mark }) refl
        (λ n lt out.
        let says = whole_says s t k b.image.ram r.parts.even.0 passes whole inside in
        let start = says.0 in
        let width = says.1 in
        absurd (elim out [ inl low ↦ omega (arith, low, start) | inr high ↦ omega (arith, high, start, width, lt) ])))
        (λ part. set_left passes stores inside j told z (record { cap = plain (with_part old.cap.word ((at - b.image.ram) % 8) (access_of k).width (cap_address y)); mark = old.mark }) refl
        (λ n lt out. elim out [
          | inl low ↦ put_byte_below old.cap.word ((at - b.image.ram) % 8) (access_of k).width (cap_address y) n low
          | inr high ↦ put_byte_above old.cap.word ((at - b.image.ram) % 8) (access_of k).width (cap_address y) n high
        ]))
        refl

    accessed_left : AccessPasses s t k → Effects k (accesses (around b s t) (operands_of k).to (Ok (accessed (access_of k) (operand s t (operands_of k).first) (operand s t (operands_of k).second) (access_start s t k) (space_of b s))))
    accessed_left passes = by_access (λ (m : Accessed). Effects k (accesses (around b s t) (operands_of k).to (Ok m))) (access_of k) (operand s t (operands_of k).first) (operand s t (operands_of k).second) (access_start s t k) (space_of b s) (record {
      loads = λ ram loads j. same refl;
      stores = λ ram stores j. ram_left passes stores (ram_begins (space_of b s) (access_start s t k) (access_of k).width ram) j _ _;
      reads = λ loads j. same refl;
      writes = λ stores j. same refl;
    })

    access_left : Effects k (accesses (around b s t) (operands_of k).to (access_result k (operand s t (operands_of k).first) (operand s t (operands_of k).second) (space_of b s)))
    unfolding access_result
    access_left = by_failed (first_failed (access_checks (access_of k) (operand s t (operands_of k).first) (operand s t (operands_of k).second) (access_address (access_of k) (operand s t (operands_of k).first)))) refl
      where
        by_failed : (o : Option Trap) → first_failed (access_checks (access_of k) (operand s t (operands_of k).first) (operand s t (operands_of k).second) (access_address (access_of k) (operand s t (operands_of k).first))) ≡ o
            → Effects k (accesses (around b s t) (operands_of k).to (unless o (accessed (access_of k) (operand s t (operands_of k).first) (operand s t (operands_of k).second) (access_address (access_of k) (operand s t (operands_of k).first)) (space_of b s))))
        by_failed (Some w) e = tt
        by_failed None e = accessed_left e

  done_left : MayFetch s t → (k : Instr) → next_at (space_of b s) (cap_address (thread s t).pcc) ≡ Instruction k → Effects k (carried b s t k)
  done_left fetched k stands =
      let head = head_of b s t r.keeps.confined fetched in
      by_class (class_of k) refl head.0 head.1.0 head.1.1
    where
      by_class : (c : Class) → class_of k ≡ c → (f : Frame) (fs : List Frame) → (thread s t).frames ≡ f ∷ fs
          → Effects k (carried_out c k (operands_of k).to (operand s t (operands_of k).first) (operand s t (operands_of k).second) (named_by b.image (operand s t (operands_of k).first)) (around b s t))
      by_class class.Integer e f fs frames = λ j. same refl
      by_class class.Capability e f fs frames = λ j. same refl
      by_class class.System e f fs frames = tt
      by_class class.Jump e f fs frames = flows_left k (operands_of k).to _
      by_class class.Access e f fs frames = access_left k f fs frames stands e
      by_class class.Fence e f fs frames = λ j. same refl
      by_class class.Call e f fs frames = tt
      by_class class.Break e f fs frames = tt

  -- ---- whole

  pub executed_granules : Both (AllLeft b s) (executed b s t)
  executed_granules = executed_case (AllLeft b s) b s t (record {
    handles = λ why f fs frames is. handled_left why f fs frames is;
    ends = λ value told. ended_left value told (thread s t).frames refl;
    back = returned_left (thread s t).frames refl;
    done = λ fetched k stands. done_left fetched k stands;
    routines = λ fetched. record {
      tells = λ n k. same refl;
      enters = λ none. entered_left fetched none;
      stops = λ status k. same refl;
      wakes = λ none k. same refl;
      hands = λ size o is k. same refl;
      gives = λ o c found. freed_left fetched o c found;
      seals = λ size key o is named k. same refl;
      opens = λ key o is k. same refl;
    };
  })
