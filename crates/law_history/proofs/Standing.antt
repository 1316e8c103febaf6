-- What rows and objects that stood become, by each event and by any list of them.
use Rattle.std.proofs.Common.{ℕ, ◌≡◌, ◌+◌, ◌≤◌, ◌<◌, ◌⊎◌, ◌&&◌, inl, inr, true, false, not, List, [], ◌∷◌, map, Option, Some, None, Result, Ok, Err, refl, sym, ap, ◌∙◌, arith}
use Rattle.law_lists.proofs.Tests.{chosen, eq_tells}
use Rattle.def_words.specs.declared.Trap.{Trap}
use Rattle.def_sched.specs.Picks.{pick}
use Rattle.def_machine.specs.Platform.{Platform}
use Rattle.def_machine.specs.Image.{Image}
use Rattle.def_machine.specs.State.{State, Frame, Object, Token, thread}
use Rattle.def_machine.specs.Objects.{Any, painted, placed_among, quarantine, unpainted}
use Rattle.def_machine.specs.Heap.{swept}
use Rattle.def_machine.specs.Frames.{returned, ended_with}
use Rattle.def_machine.specs.Rows.{IsLiveOf, RowsFit}
use Rattle.def_machine.specs.Threads.{timed, statuses_of}
use Rattle.def_confined.specs.Confined.{ObjectFits}
use Rattle.def_confined.specs.Keeps.{Keeps}
use Rattle.def_step.specs.declared.Event.{Event}
use Rattle.def_step.specs.declared.Event.TheVariants.{Step, Tick, Sweep, Input}
use Rattle.def_step.specs.Events.{preempted_from, preempted, picked_as, picked_from, scheduled, continued, one_more_step, stepped, interrupted, happens, run}
use Rattle.def_step.specs.Instructions.{Effect}
use Rattle.def_step.specs.Quotas.{quota_in, without_row}
use Rattle.def_step.specs.Tokens.{row_among}
use Rattle.def_safety.specs.Tokened.{IsKeyRow, IsTokenRow}
use Rattle.law_moves.proofs.Quarantines.{any_quarantine}
use Rattle.law_moves.proofs.Rows.{any_among, any_left, any_map, each_take}
use Rattle.law_history.proofs.Sweeping.{swept_case, sliced_case}
use Rattle.law_routines.proofs.Leaving.{Moves}
use Rattle.law_routines.proofs.Objects.{made_says}
use Rattle.law_routines.proofs.Stepping.{Steps, IfDone, carried, executed_left}
use Rattle.law_history.proofs.Keying.{among_row, row_of_among, left_row, row_left}
use Rattle.law_moves.proofs.Objects.{each_unit}
use Rattle.law_moves.proofs.Begins.{begun}

-- a row of the object of a number, with what it says of it
abbrev Says : Option ℕ → ℕ → Token → Type 0
Says key n k = (k.number ≡ n) × (k.key ≡ key)

-- What rows say of objects that there were in a state they said then; those that are live were live then; and each row
-- stands, or its object isn't live.
pub record Lasts (s : State) (next : ℕ) (objects : List Object) (tokens : List Token) : Type 0 where
  pub later : s.next ≤ next
  pub said : (key : Option ℕ) (n : ℕ) → n < s.next → Any (Says key n) tokens → Any (Says key n) s.tokens
  pub lived : (n : ℕ) → n < s.next → Any (IsLiveOf n) objects → Any (IsLiveOf n) s.objects
  pub kept : (key : Option ℕ) (n : ℕ) → n < s.next → Any (Says key n) s.tokens → Any (Says key n) tokens ⊎ (Any (IsLiveOf n) objects → ⊥)

abbrev Last : State → State → Type 0
Last s z = Lasts s z.next z.objects z.tokens

same : (s : State) → Last s s
same s = record { later = omega arith; said = λ key n below row. row; lived = λ n below live. live; kept = λ key n below row. inl row }

both : (s y z : State) → Last s y → Last y z → Last s z
both s y z a b =
    let first = a.later in
    let second = b.later in
    record {
      later = omega (arith, first, second);
      said = λ key n below row. a.said key n below (b.said key n (omega (arith, first, below)) row);
      lived = λ n below live. a.lived n below (b.lived n (omega (arith, first, below)) live);
      kept = λ key n below row. elim (a.kept key n below row) [
        | inl stands ↦ b.kept key n (omega (arith, first, below)) stands
        | inr dead ↦ inr (λ live. dead (b.lived n (omega (arith, first, below)) live))
      ];
    }

module _ (s : State) (next : ℕ) (objects : List Object) (tokens : List Token) (h : Lasts s next objects tokens) where
  -- a new object
  older : (r : Object) → r.number ≡ next → (n : ℕ) → n < s.next → Any (IsLiveOf n) (placed_among r objects) → Any (IsLiveOf n) objects
  older r new n below live = elim (any_among (IsLiveOf n) r objects live) [
    | inl own ↦ (let later = h.later in let number = own.1 in absurd (omega (arith, later, number, new, below)))
    | inr old ↦ old
  ]

  added_last : (r : Object) → r.number ≡ next → Lasts s (next + 1) (placed_among r objects) tokens
  added_last r new = record {
    later = (let later = h.later in omega (arith, later));
    said = h.said;
    lived = λ n below live. h.lived n below (older r new n below live);
    kept = λ key n below row. elim (h.kept key n below row) [
      | inl stands ↦ inl stands
      | inr dead ↦ inr (λ live. dead (older r new n below live))
    ];
  }

  sealed_last : (r : Object) (k : Token) → r.number ≡ next → k.number ≡ r.number → Lasts s (next + 1) (placed_among r objects) (row_among k tokens)
  sealed_last r k new named =
      let a = added_last r new in
      record {
        later = a.later;
        said = λ key n below row. elim (row_of_among (Says key n) k tokens row) [
          | inl own ↦ (let later = h.later in let number = own.0 in absurd (omega (arith, later, number, named, new, below)))
          | inr old ↦ h.said key n below old
        ];
        lived = a.lived;
        kept = λ key n below row. elim (a.kept key n below row) [
          | inl stands ↦ inl (among_row (Says key n) k tokens (inr stands))
          | inr dead ↦ inr dead
        ];
      }

  -- an object that goes, with its row
  was_live : (m n : ℕ) → Any (IsLiveOf n) (quarantine m objects) → Any (λ r. IsLiveOf n r × (r.number ≡ m → ⊥)) objects
  was_live m n live = any_quarantine (λ r. Unit {0}) (λ r. IsLiveOf n r × (r.number ≡ m → ⊥)) (IsLiveOf n) m objects
      (λ r u is other. (is, other))
      (λ r u is named. absurd (let clash : false ≡ true = is.0 in cc))
      (each_unit objects) live

  is_live : (m n : ℕ) → Any (IsLiveOf n) (quarantine m objects) → Any (IsLiveOf n) objects
  is_live m n live = any_map (λ r. IsLiveOf n r × (r.number ≡ m → ⊥)) (IsLiveOf n) objects (λ r both. both.0) (was_live m n live)

  gone_last : (m : ℕ) → Lasts s next (quarantine m objects) (without_row m tokens)
  gone_last m = record {
    later = h.later;
    said = λ key n below row. h.said key n below (row_left (Says key n) m tokens row);
    lived = λ n below live. h.lived n below (is_live m n live);
    kept = λ key n below row. elim (eq_tells n m) [
      | inl one ↦ inr (λ live. none m n one.1 objects (was_live m n live))
      | inr other ↦ elim (h.kept key n below row) [
        | inl stands ↦ inl (left_row (Says key n) m tokens (λ k own is. other.1 (sym own.0 ∙ is)) stands)
        | inr dead ↦ inr (λ live. dead (is_live m n live))
      ]
    ];
  }
    where
      none : (m n : ℕ) → n ≡ m → (rs : List Object) → Any (λ r. IsLiveOf n r × (r.number ≡ m → ⊥)) rs → ⊥
      none m n one [] any = any
      none m n one (r ∷ rs) (inl is) = is.1 (is.0.1 ∙ one)
      none m n one (r ∷ rs) (inr any) = none m n one rs any

  -- a sweep
  of_painted : (n : ℕ) (rs : List Object) → Any (IsLiveOf n) (painted rs) → Any (IsLiveOf n) rs
  of_painted n [] any = any
  of_painted n (r ∷ rs) (inl is) = inl is
  of_painted n (r ∷ rs) (inr any) = inr (of_painted n rs any)

  painted_last : Lasts s next (painted objects) tokens
  painted_last = record {
    later = h.later;
    said = h.said;
    lived = λ n below live. h.lived n below (of_painted n objects live);
    kept = λ key n below row. elim (h.kept key n below row) [
      | inl stands ↦ inl stands
      | inr dead ↦ inr (λ live. dead (of_painted n objects live))
    ];
  }

  of_left : (n : ℕ) → Any (IsLiveOf n) (unpainted objects) → Any (IsLiveOf n) objects
  of_left n live = any_map (λ (r : Object). (r.painted ≡ false) × IsLiveOf n r) (IsLiveOf n) objects (λ r both. both.1) (any_left (IsLiveOf n) objects live)

  left_last : Lasts s next (unpainted objects) tokens
  left_last = record {
    later = h.later;
    said = h.said;
    lived = λ n below live. h.lived n below (of_left n live);
    kept = λ key n below row. elim (h.kept key n below row) [
      | inl stands ↦ inl stands
      | inr dead ↦ inr (λ live. dead (of_left n live))
    ];
  }

-- ---- a step

returned_last : (i : Image) (s z : State) (t : ℕ) (fs : List Frame) → Last s z → Last s (returned i z t fs)
returned_last i s z t [] h = h
returned_last i s z t (f ∷ []) h = h
returned_last i s z t (f ∷ g ∷ gs) h = h

ended_last : (i : Image) (s z : State) (t value : ℕ) (fs : List Frame) → Last s z → Last s (ended_with i z t value fs)
ended_last i s z t value [] h = h
ended_last i s z t value (f ∷ []) h = h
ended_last i s z t value (f ∷ g ∷ gs) h = h

done_last : (s z : State) (t : ℕ) (r : Result Effect Trap) → Last s z → IfDone (Last s) z t r
done_last s z t (Err why) h = tt
done_last s z t (Ok d) h = h

moves_last : (i : Image) (s z : State) (t : ℕ) → Last s z → Moves (λ y told. Last s y) i z t
moves_last i s z t h = record {
  tells = λ n. h;
  enters = λ high. h;
  stops = λ status. h;
  wakes = λ address most. h;
  hands = λ size r is. added_last s z.next z.objects z.tokens h r (ap (λ (o : Object). o.number) (made_says i z (quota_in z t) size r is).is);
  gives = λ r c is. gone_last s z.next z.objects z.tokens h r.number;
  seals = λ size key r is k. sealed_last s z.next z.objects z.tokens h r (record { number = r.number; key = key }) (ap (λ (o : Object). o.number) (made_says i z (quota_in z t) size r is).is) refl;
  opens = λ key r is. h;
}

steps_last : (b : Platform) (s z : State) (t : ℕ) → Last s z → Steps (Last s) b z t
steps_last b s z t h = record {
  handles = λ why f fs frames is. h;
  ends = λ value. ended_last b.image s z t value (thread z t).frames h;
  back = λ plain_one. returned_last b.image s z t (thread z t).frames h;
  done = λ k. done_last s z t (carried b z t k) h;
  moves = moves_last b.image s z t h;
}

continued_last : (b : Platform) (s z : State) (o : Option ℕ) → Last s z → Last s (continued b z o).0
continued_last b s z None h = h
continued_last b s z (Some t) h = executed_left (Last s) b z t (steps_last b s z t h)

preempted_last : (s z : State) (o : Option ℕ) → Last s z → Last s (preempted_from z o)
preempted_last s z None h = h
preempted_last s z (Some t) h = chosen (Last s) (z.pending && not (thread z t).posture.off) (record z { running = None; pending = false }) z (λ is. h) (λ not. h)

picked_last : (b : Platform) (s z : State) (o : Option ℕ) → Last s z → Last s (picked_as b z o)
picked_last b s z None h = h
picked_last b s z (Some t) h = h

scheduled_last : (b : Platform) (s z : State) (o : Option ℕ) → Last s z → Last s (picked_from b z o)
scheduled_last b s z (Some t) h = h
scheduled_last b s z None h = picked_last b s z (pick b.image.priorities (statuses_of z.threads) z.picks) h

stepped_last : (b : Platform) (s : State) → Last s (stepped b s).0
stepped_last b s =
    continued_last b s (scheduled b (preempted (one_more_step s))) (scheduled b (preempted (one_more_step s))).running
    (scheduled_last b s (preempted (one_more_step s)) (preempted (one_more_step s)).running (preempted_last s (one_more_step s) s.running (same s)))

-- ---- a tick, and a sweep

interrupted_last : (s z : State) (o : Option ℕ) → Last s z → Last s (interrupted z o)
interrupted_last s z None h = h
interrupted_last s z (Some t) h = chosen (Last s) (thread z t).posture.off (record z { pending = true }) (record z { running = None }) (λ is. h) (λ not. h)

swept_last : (i : Image) (s z : State) → Last s z → Last s (swept i z)
swept_last i s z h = swept_case (Last s) i z
    (λ idle none. h)
    (λ idle some. sliced_case (Last s) i (begun z) 0
    (λ whole. left_last s z.next (painted z.objects) z.tokens (painted_last s z.next z.objects z.tokens h))
    (λ part. painted_last s z.next z.objects z.tokens h))
    (λ x runs. sliced_case (Last s) i z x (λ whole. left_last s z.next z.objects z.tokens h) (λ part. h))

-- ---- whole

event_last : (b : Platform) (s : State) (e : Event) → Last s (happens b s e).0
event_last b s Step = stepped_last b s
event_last b s Tick = interrupted_last s (record s { threads = map timed s.threads; time = s.time + 1; counts = record s.counts { ticks = s.counts.ticks + 1 } }) s.running (same s)
event_last b s (Input n byte) = same s
event_last b s Sweep = swept_last b.image s (record s { counts = record s.counts { sweeps = s.counts.sweeps + 1 } }) (same s)

run_last : (b : Platform) (s : State) (es : List Event) → Last s (run b s es)
unfolding run
run_last b s [] = same s
run_last b s (e ∷ es) = both s (happens b s e).0 (run b (happens b s e).0 es) (event_last b s e) (run_last b (happens b s e).0 es)

-- the object of a row was there
row_below : (i : Image) (s : State) (key n : ℕ) → Keeps i s → RowsFit s.objects s.tokens → Any (IsTokenRow key n) s.tokens → n < s.next
row_below i s key n k rows row =
    each_take (λ (z : Token). Any (IsLiveOf z.number) s.objects) (IsTokenRow key n) (n < s.next) s.tokens
    (λ z any is. each_take (ObjectFits i s.next) (IsLiveOf z.number) (n < s.next) s.objects (λ r f one. (let small = f.number in let number = one.1 in let named = is.0 in omega (arith, small, number, named))) k.confined.fits any)
    rows.live row

pub run_named : (b : Platform) (s : State) (es : List Event) (key n : ℕ) → n < s.next → Any (IsTokenRow key n) (run b s es).tokens → Any (IsTokenRow key n) s.tokens
run_named b s es key n below row = (run_last b s es).said (Some key) n below row

pub run_keys : (b : Platform) (s : State) (es : List Event) (n : ℕ) → n < s.next → Any (IsKeyRow n) (run b s es).tokens → Any (IsKeyRow n) s.tokens
run_keys b s es n below row = (run_last b s es).said None n below row

pub run_kept : (b : Platform) (s : State) (es : List Event) (key n : ℕ) → Keeps b.image s → RowsFit s.objects s.tokens → Any (IsTokenRow key n) s.tokens → Any (IsTokenRow key n) (run b s es).tokens ⊎ (Any (IsLiveOf n) (run b s es).objects → ⊥)
run_kept b s es key n k rows row = (run_last b s es).kept (Some key) n (row_below b.image s key n k rows row) row
