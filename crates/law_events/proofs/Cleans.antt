-- *Clean calls*: the switch, and the end of a frame.
use Rattle.std.proofs.Common.{ℕ, zero, suc, ◌≡◌, ◌+◌, ◌-◌, ◌/◌, ◌^◌, ◌≤◌, ◌<◌, ◌⊎◌, true, false, inl, inr, cond, List, [], ◌∷◌, length, Option, Some, refl, sym, ap, ◌∙◌, subst, arith}
use Rattle.std.proofs.Math.ListN.{get_or}
use Rattle.std.proofs.lemmas.List.{get_or_past, get_or-set_same}
use Rattle.std.proofs.Math.Nat.{div-mul-le_self, lt-div-mul-add}
use Rattle.std.proofs.lemmas.Nat.{pow_pos}
use Rattle.def_profile.specs.declared.answers.TheConstants.{UNWOUND}
use Rattle.def_profile.specs.declared.limits.TheConstants.{MOST_STACK_REGION}
use Rattle.law_lists.proofs.Tests.{lt_tells, chosen}
use Rattle.ct_entry.specs.declared.acts.Act.TheVariants.{Call}
use Rattle.def_words.specs.declared.Cap.{Cap}
use Rattle.def_words.specs.Authority.{cap_address}
use Rattle.def_words.specs.Capability.{untagged, with_address}
use Rattle.def_words.specs.Jumped.{opened}
use Rattle.def_memory.specs.Granules.{plain}
use Rattle.def_reach.specs.Roots.{gate_for}
use Rattle.def_machine.specs.Image.{Image, root, made_cap, code_entry, globals_entry, stack_base, stack_entry, stack_top}
use Rattle.def_machine.specs.State.{State, Thread, Frame, thread, register, nobody, interrupts_on}
use Rattle.def_machine.specs.Memory.{filtered}
use Rattle.def_words.specs.Seals.{cap_seal, posture_through}
use Rattle.def_machine.specs.Frames.{Given, switched, entered, argument, answer, callee_start, cap_passed, left_by, returned, ended_with, unwound}
use Rattle.def_confined.specs.Keeps.{Keeps}
use Rattle.def_confined.specs.Partitioned.{Partitioned}
use Rattle.def_step.specs.Switch.{called, new_top, room_of, room_exponent}
use Rattle.def_step.specs.Routines.{Leaves, switch}
use Rattle.law_moves.proofs.Cleans.{EachAt, stack_zero}
use Rattle.def_safety.specs.Calling.{stack_up_to}
use Rattle.def_safety.specs.Clean.{AnswersNumber, CleanEntry, CleanReturn, HandsBack, IsArgument, IsCalleeEnd, IsPostureOf, LetsThrough, StackZero, TakesNone, arguments_of, callee_of, frame_of_call, high_of, minus_one, off, on, plainly, whole}
use Rattle.def_confined.specs.Facts.{Facts}
use Rattle.law_events.proofs.Calling.{room_is, code_tagged, globals_tagged, sentry_tagged, stack_tagged}
use Rattle.law_events.proofs.Switching.{entered_state, switch_told, checks_say, caller_of}

-- ---- a thread that changed

-- a thread with frames is one of the list
pub framed_there : (s : State) (t : ℕ) (f : Frame) (fs : List Frame) → (thread s t).frames ≡ f ∷ fs → t < length s.threads
framed_there s t f fs e = elim (lt_tells t (length s.threads)) [
  | inl is ↦ is.1
  | inr past ↦
      let none : thread s t ≡ nobody = get_or_past s.threads t nobody past.1 in
      absurd (let clash : (f ∷ fs) ≡ [] = sym e ∙ ap (λ (z : Thread). z.frames) none in cc)
]

-- and its new self is what it was set to
pub switched_thread : (i : Image) (s : State) (t high : ℕ) (new : Thread) (run : Option ℕ) (f : Frame) (fs : List Frame) → (thread s t).frames ≡ f ∷ fs → thread (switched i s t high new run) t ≡ new
switched_thread i s t high new run f fs e = get_or-set_same s.threads t new nobody (framed_there s t f fs e)

-- ---- registers by their numbers

-- what holds of each place of a list, and of those past its end
pub at_each : (P : ℕ → Cap → Type 0) (xs : List Cap) (z : Cap) → ((n : ℕ) → length xs ≤ n → P n z) → EachAt P xs → (n : ℕ) → P n (get_or xs n z)
at_each P [] z past h n = past n (omega arith)
at_each P (x ∷ xs) z past h zero = h.0
at_each P (x ∷ xs) z past h (suc n) = at_each (λ m. P (suc m)) xs z (λ m far. past (suc m) (omega (arith, far))) h.1 n

-- ---- entry

-- what a callee's register is
record EntryRegister (i : Image) (s : State) (t export n : ℕ) (c : Cap) : Type 0 where
  pub argument : 10 ≤ n → n ≤ 15 → n < 10 + arguments_of i export → LetsThrough i export (register (thread s t) n) c
  pub zeroed : (n ≡ 0) ⊎ ((4 ≤ n) × (n < 10)) ⊎ (10 + arguments_of i export ≤ n) → c ≡ plain 0
  pub tagged : c.tag ≡ true → ((1 ≤ n) × (n ≤ 3)) ⊎ IsArgument i s t export n c

module _ (i : Image) (s : State) (t export : ℕ) where
  abbrev At : ℕ → Cap → Type 0
  At n c = EntryRegister i s t export n c

  no_argument : (n : ℕ) → (n < 10) ⊎ (16 ≤ n) ⊎ (10 + arguments_of i export ≤ n) → At n (plain 0)
  no_argument n out = record {
    argument = λ low high fits. absurd (elim out [ inl few ↦ omega (arith, few, low) | inr more ↦ elim more [ inl past ↦ omega (arith, past, high) | inr other ↦ omega (arith, other, fits) ] ]);
    zeroed = λ is. refl;
    tagged = λ is. absurd (let clash : false ≡ true = is in cc);
  }

  given : (n : ℕ) (c : Cap) → 1 ≤ n → n ≤ 3 → At n c
  given n c low high = record {
    argument = λ from to fits. absurd (omega (arith, from, high));
    zeroed = λ out. absurd (elim out [ inl none ↦ omega (arith, none, low) | inr more ↦ elim more [ inl mid ↦ (let four = mid.0 in omega (arith, four, high)) | inr far ↦ omega (arith, far, high) ] ]);
    tagged = λ is. inl (low, high);
  }

  passed : (m : ℕ) → m < arguments_of i export → At (10 + m) (cap_passed i export (register (thread s t) (10 + m)))
  passed m fits = chosen (λ c. At (10 + m) c) (root i export).passes (register (thread s t) (10 + m)) (untagged (register (thread s t) (10 + m)))
      (λ is. record {
        argument = λ low high there. whole is refl;
        zeroed = λ out. absurd (outside out);
        tagged = λ tag. inr ((omega arith, omega (arith, fits)), is, refl);
      })
      (λ not. record {
        argument = λ low high there. plainly not refl;
        zeroed = λ out. absurd (outside out);
        tagged = λ tag. absurd (let clash : false ≡ true = tag in cc);
      })
    where
      outside : (10 + m ≡ 0) ⊎ ((4 ≤ 10 + m) × (10 + m < 10)) ⊎ (10 + arguments_of i export ≤ 10 + m) → ⊥
      outside out = elim out [ inl none ↦ omega (arith, none) | inr more ↦ elim more [ inl mid ↦ (let under = mid.1 in omega (arith, under)) | inr far ↦ omega (arith, far, fits) ] ]

  handed : (m : ℕ) → At (10 + m) (argument i (thread s t) export m)
  handed m = elim (lt_tells m (arguments_of i export)) [
    | inl is ↦ subst (λ x. At (10 + m) (cond x (cap_passed i export (register (thread s t) (10 + m))) (plain 0))) (sym is.0) (passed m is.1)
    | inr past ↦ subst (λ x. At (10 + m) (cond x (cap_passed i export (register (thread s t) (10 + m))) (plain 0))) (sym past.0) (no_argument (10 + m) (inr (inr (let far = past.1 in omega (arith, far)))))
  ]

  none_at : (n : ℕ) → n < 10 → At n (plain 0)
  none_at n few = no_argument n (inl few)

  entry_registers : (high : ℕ) (w : Given) (n : ℕ) → At n (register (entered i (thread s t) (callee_of i export) export high w) n)
  entry_registers high w n = at_each (λ m c. At m c) (entered i (thread s t) (callee_of i export) export high w).registers (plain 0) (λ m far. no_argument m (inr (inl far))) (
    none_at 0 (omega arith),
    (
      given 1 w.back (omega arith) (omega arith),
      (
        given 2 w.stack (omega arith) (omega arith),
        (
          given 3 w.globals (omega arith) (omega arith),
          (
            none_at 4 (omega arith),
            (
              none_at 5 (omega arith),
              (
                none_at 6 (omega arith),
                (
                  none_at 7 (omega arith),
                  (none_at 8 (omega arith), (none_at 9 (omega arith), (handed 0, (handed 1, (handed 2, (handed 3, (handed 4, (handed 5, tt)))))))),
                ),
              ),
            ),
          ),
        ),
      ),
    ),
  ) n

abbrev start_of : Image → State → ℕ → ℕ → Given
start_of i s t export = callee_start i (thread s t) t (callee_of i export) export (high_of i s t)

-- where the callee's stack ends, of a stack that isn't longer than one may be
callee_ends : (base address : ℕ) → base ≤ address → address ≤ base + MOST_STACK_REGION → IsCalleeEnd base address (new_top base address)
callee_ends base address low short =
    let room = room_is (address - base) (omega (arith, short)) in
    let within : room_of (address - base) ≤ address - base = div-mul-le_self (address - base) (2 ^ room_exponent (address - base)) in
    let past : address - base < room_of (address - base) + 2 ^ room_exponent (address - base) = lt-div-mul-add (pow_pos (room_exponent (address - base))) in
    record {
      exponent = room_exponent (address - base);
      units = (address - base) / 2 ^ room_exponent (address - base);
      is = refl;
      under = omega (arith, within, low);
      near = omega (arith, past, low);
      few = room.few;
      from = room.low;
      least = room.least;
    }

-- all of it but the stack, of the thread as it is set
record Entered (i : Image) (s : State) (t export : ℕ) (new : Thread) : Type 0 where
  pub code : (new.pcc.tag ≡ true) × (new.pcc ≡ with_address (made_cap i (code_entry i (callee_of i export))) (gate_for i.entries.gates export).code)
  pub back : ((made_cap i 0).tag ≡ true) × (register new 1 ≡ made_cap i 0)
  pub stack : ((stack_up_to i t (high_of i s t) (register (thread s t) 2).shadow).tag ≡ true) × (register new 2 ≡ stack_up_to i t (high_of i s t) (register (thread s t) 2).shadow)
  pub globals : ((made_cap i (globals_entry i (callee_of i export))).tag ≡ true) × (register new 3 ≡ made_cap i (globals_entry i (callee_of i export)))
  pub registers : (n : ℕ) → EntryRegister i s t export n (register new n)
  pub frames : new.frames ≡ frame_of_call i s t export ∷ (thread s t).frames
  pub posture : IsPostureOf i export new.posture

pub enters_clean : (i : Image) (s after : State) (t entry export : ℕ) → Partitioned i → Facts i → Keeps i s → s.running ≡ Some t → switch i s t ≡ Leaves after (Some (entry, Call export)) → CleanEntry i s t export after
enters_clean i s after t entry export parts facts k runs e =
    let told = switch_told i s after t entry export e in
    let says = checks_say i s t told.passes in
    let caller = caller_of i s t facts k.confined says in
    let below : cap_address (register (thread s t) 2) ≤ stack_top i t = (let top = caller.top in let high = caller.holds.0.high in let under = says.stack_high in omega (arith, top, high, under)) in
    let code_there : (start_of i s t (called i.entries (thread s t))).pcc.tag ≡ true = subst (λ b. (with_address (made_cap i (code_entry i b)) (gate_for i.entries.gates (called i.entries (thread s t))).code).tag ≡ true) caller.callee_is (code_tagged i (register (thread s t) 6).shadow.root caller.callee facts caller.call_is caller.owner_is) in
    let globals_there : (start_of i s t (called i.entries (thread s t))).globals.tag ≡ true = subst (λ b. (made_cap i (globals_entry i b)).tag ≡ true) caller.callee_is (globals_tagged i (root i (register (thread s t) 6).shadow.root).of caller.callee parts facts caller.owner_is) in
    let stack_there : (start_of i s t (called i.entries (thread s t))).stack.tag ≡ true = stack_tagged i t (cap_address (register (thread s t) 2)) (register (thread s t) 2).shadow parts facts caller.holds.0.stack says.stack_low below in
    let same : called i.entries (thread s t) ≡ export = sym told.export_is in
    let fresh : Entered i s t export (entered i (thread s t) (callee_of i export) export (high_of i s t) (start_of i s t export)) = record {
      code = (subst (λ x. (start_of i s t x).pcc.tag ≡ true) same code_there, refl);
      back = (sentry_tagged i facts, refl);
      stack = (stack_there, refl);
      globals = (subst (λ x. (start_of i s t x).globals.tag ≡ true) same globals_there, refl);
      registers = entry_registers i s t export (high_of i s t) (start_of i s t export);
      frames = refl;
      posture = chosen (IsPostureOf i export) (root i export).disabled (record { off = true; source = export }) interrupts_on (λ is. off is refl) (λ not. on not refl);
    } in
    let there : thread (entered_state i s t export) t ≡ entered i (thread s t) (callee_of i export) export (high_of i s t) (start_of i s t export) =
    switched_thread i s t (high_of i s t) (entered i (thread s t) (callee_of i export) export (high_of i s t) (start_of i s t export)) s.running caller.frame caller.below caller.frames in
    let fits = (facts.stacks (stack_entry i t) caller.holds.0.stack).short in
    let low = says.stack_low in
    let ends = callee_ends (stack_base i t) (cap_address (register (thread s t) 2)) says.stack_low (omega (arith, fits, below)) in
    subst (CleanEntry i s t export) (sym told.after_is) (clean_of (entered_state i s t export) (subst (Entered i s t export) (sym there) fresh) ends told.enough
    (λ j from to. stack_zero i s t (high_of i s t) (entered i (thread s t) (callee_of i export) export (high_of i s t) (start_of i s t export)) s.running j from to))
  where
    clean_of : (z : State) → Entered i s t export (thread z t) → IsCalleeEnd (stack_base i t) (cap_address (register (thread s t) 2)) (high_of i s t) → (gate_for i.entries.gates export).stack ≤ high_of i s t - stack_base i t → StackZero i s z t (high_of i s t) → CleanEntry i s t export z
    clean_of z n ends enough empty = record {
      code = n.code;
      back = n.back;
      stack = n.stack;
      globals = n.globals;
      arguments = λ m. (n.registers m).argument;
      zero = λ m. (n.registers m).zeroed;
      tagged = λ m. (n.registers m).tagged;
      frames = n.frames;
      end_is = ends;
      asked = enough;
      below = empty;
      posture = n.posture;
    }

-- an export that passes plain values takes no capability along
pub takes_none : (i : Image) (s after : State) (t export : ℕ) → (root i export).passes ≡ false → CleanEntry i s t export after → TakesNone after t
takes_none i s after t export not clean n tagged = elim (clean.tagged n tagged) [
  | inl given ↦ given
  | inr own ↦ absurd (let clash : true ≡ false = sym own.1 ∙ not in cc)
]

-- ---- return and unwind

abbrev ZeroAt : ℕ → Cap → Type 0
ZeroAt n c = (n ≤ 1) ⊎ ((4 ≤ n) × (n ≤ 7)) ⊎ (12 ≤ n) → c ≡ plain 0

abbrev IsOther : ℕ → Type 0
IsOther n = ((2 ≤ n) × (n ≤ 3)) ⊎ ((8 ≤ n) × (n ≤ 11))

-- of a register that is given back, or holds a result, nothing is asked
any_at : (n : ℕ) (c : Cap) → IsOther n → ZeroAt n c
any_at n c is out = absurd (elim is [
  | inl low ↦ (let a = low.0 in let b = low.1 in elim out [ inl few ↦ omega (arith, a, few) | inr more ↦ elim more [ inl mid ↦ (let four = mid.0 in omega (arith, b, four)) | inr far ↦ omega (arith, b, far) ] ])
  | inr high ↦ (let a = high.0 in let b = high.1 in elim out [ inl few ↦ omega (arith, a, few) | inr more ↦ elim more [ inl mid ↦ (let seven = mid.1 in omega (arith, a, seven)) | inr far ↦ omega (arith, b, far) ] ])
])

left_zero : (i : Image) (s : State) (old : Thread) (f : Frame) (fs : List Frame) (first second : Cap) (n : ℕ) → ZeroAt n (register (left_by i s old f fs first second) n)
left_zero i s old f fs first second n = at_each ZeroAt (left_by i s old f fs first second).registers (plain 0) (λ m far out. refl) (
  gone 0,
  (
    gone 1,
    (
      low 2 (filtered i s f.c2) (omega arith) (omega arith),
      (
        low 3 (filtered i s f.c3) (omega arith) (omega arith),
        (
          gone 4,
          (
            gone 5,
            (
              gone 6,
              (
                gone 7,
                (high 8 (filtered i s f.c8) (omega arith) (omega arith), (high 9 (filtered i s f.c9) (omega arith) (omega arith), (high 10 first (omega arith) (omega arith), (high 11 second (omega arith) (omega arith), (gone 12, (gone 13, (gone 14, (gone 15, tt)))))))),
              ),
            ),
          ),
        ),
      ),
    ),
  ),
) n
  where
    gone : (m : ℕ) → ZeroAt m (plain 0)
    gone m out = refl

    low : (m : ℕ) (c : Cap) → 2 ≤ m → m ≤ 3 → ZeroAt m c
    low m c from to = any_at m c (inl (from, to))

    high : (m : ℕ) (c : Cap) → 8 ≤ m → m ≤ 11 → ZeroAt m c
    high m c from to = any_at m c (inr (from, to))

-- all of it but the stack, of the thread as it is set
record Led (i : Image) (s : State) (t : ℕ) (f : Frame) (fs : List Frame) (first second : Cap) (new : Thread) : Type 0 where
  pub frames : new.frames ≡ fs
  pub pcc : new.pcc ≡ opened (filtered i s f.c1)
  pub c2 : register new 2 ≡ filtered i s f.c2
  pub c3 : register new 3 ≡ filtered i s f.c3
  pub c8 : register new 8 ≡ filtered i s f.c8
  pub c9 : register new 9 ≡ filtered i s f.c9
  pub zeroed : (n : ℕ) → ZeroAt n (register new n)
  pub posture : new.posture ≡ posture_through (thread s t).posture (cap_seal f.c1) 0 f.c1.shadow.source
  pub c10 : register new 10 ≡ first
  pub c11 : register new 11 ≡ second

-- with its results
record Back (i : Image) (s : State) (t : ℕ) (f : Frame) (fs : List Frame) (first second : Cap) (z : State) : Type 0 where
  pub clean : CleanReturn i s t f fs z
  pub c10 : register (thread z t) 10 ≡ first
  pub c11 : register (thread z t) 11 ≡ second

left_clean : (i : Image) (s : State) (t : ℕ) (f g : Frame) (gs : List Frame) (first second : Cap) → (thread s t).frames ≡ f ∷ g ∷ gs
    → Back i s t f (g ∷ gs) first second (switched i s t f.top (left_by i s (thread s t) f (g ∷ gs) first second) s.running)
left_clean i s t f g gs first second frames =
    let there : thread (switched i s t f.top (left_by i s (thread s t) f (g ∷ gs) first second) s.running) t ≡ left_by i s (thread s t) f (g ∷ gs) first second =
    switched_thread i s t f.top (left_by i s (thread s t) f (g ∷ gs) first second) s.running f (g ∷ gs) frames in
    let leads : Led i s t f (g ∷ gs) first second (left_by i s (thread s t) f (g ∷ gs) first second) = record {
      frames = refl;
      pcc = refl;
      c2 = refl;
      c3 = refl;
      c8 = refl;
      c9 = refl;
      zeroed = left_zero i s (thread s t) f (g ∷ gs) first second;
      posture = refl;
      c10 = refl;
      c11 = refl;
    } in
    back_of (switched i s t f.top (left_by i s (thread s t) f (g ∷ gs) first second) s.running) (subst (Led i s t f (g ∷ gs) first second) (sym there) leads)
    (λ j low high. stack_zero i s t f.top (left_by i s (thread s t) f (g ∷ gs) first second) s.running j low high)
  where
    back_of : (z : State) → Led i s t f (g ∷ gs) first second (thread z t) → StackZero i s z t f.top → Back i s t f (g ∷ gs) first second z
    back_of z n empty = record {
      clean = record {
        frames = n.frames;
        pcc = n.pcc;
        c2 = n.c2;
        c3 = n.c3;
        c8 = n.c8;
        c9 = n.c9;
        zero = n.zeroed;
        stack = empty;
        posture = n.posture;
        disabled = λ is. n.posture ∙ ap (λ k. posture_through (thread s t).posture k 0 f.c1.shadow.source) is;
        enabled = λ is. n.posture ∙ ap (λ k. posture_through (thread s t).posture k 0 f.c1.shadow.source) is;
      };
      c10 = n.c10;
      c11 = n.c11;
    }

lets : (i : Image) (export : ℕ) (from to : Cap) → to ≡ cap_passed i export from → LetsThrough i export from to
lets i export from to is = subst (LetsThrough i export from) (sym is) (chosen (LetsThrough i export from) (root i export).passes from (untagged from) (λ yes. whole yes refl) (λ not. plainly not refl))

pub back_clean : (i : Image) (s : State) (t : ℕ) (f g : Frame) (gs : List Frame) → (thread s t).frames ≡ f ∷ g ∷ gs → CleanReturn i s t f (g ∷ gs) (returned i s t (f ∷ g ∷ gs)) × HandsBack i s t f (returned i s t (f ∷ g ∷ gs))
back_clean i s t f g gs frames =
    let b = left_clean i s t f g gs (answer i (thread s t) f 10) (answer i (thread s t) f 11) frames in
    (b.clean, (lets i f.export (register (thread s t) 10) (register (thread (returned i s t (f ∷ g ∷ gs)) t) 10) b.c10, lets i f.export (register (thread s t) 11) (register (thread (returned i s t (f ∷ g ∷ gs)) t) 11) b.c11))

pub value_clean : (i : Image) (s : State) (t value : ℕ) (f g : Frame) (gs : List Frame) → (thread s t).frames ≡ f ∷ g ∷ gs → CleanReturn i s t f (g ∷ gs) (ended_with i s t value (f ∷ g ∷ gs)) × AnswersNumber (ended_with i s t value (f ∷ g ∷ gs)) t value
value_clean i s t value f g gs frames = (let b = left_clean i s t f g gs (plain value) (plain 0) frames in (b.clean, (b.c10, b.c11)))

pub unwind_clean : (i : Image) (s : State) (t : ℕ) (f g : Frame) (gs : List Frame) → (thread s t).frames ≡ f ∷ g ∷ gs → CleanReturn i s t f (g ∷ gs) (unwound i s t (f ∷ g ∷ gs)) × AnswersNumber (unwound i s t (f ∷ g ∷ gs)) t minus_one
unwind_clean i s t f g gs frames = value_clean i s t UNWOUND f g gs frames
