-- A step makes and frees no object that a thread may read, where that and the step's thread share no quota.
use Rattle.std.proofs.Common.{ℕ, ◌≡◌, ◌+◌, ◌<◌, ◌==◌, ◌&&◌, inl, inr, Bool, true, false, cond, nat_eq, nat_lt, List, [], ◌∷◌, Option, Some, Result, Ok, Err, refl, sym, ap, ◌∙◌, subst, arith, if◌then◌else◌}
use Rattle.std.proofs.lemmas.Bool.{and_parts, eqb-true, eqb-false}
use Rattle.law_lists.proofs.Tests.{bool_tells, chosen}
use Rattle.ct_entry.specs.declared.acts.Act.{Act}
use Rattle.def_profile.specs.declared.answers.TheConstants.{NO_QUOTA}
use Rattle.def_profile.specs.declared.seals.TheConstants.{QUOTA_TYPE}
use Rattle.def_words.specs.declared.Cap.{Cap}
use Rattle.def_words.specs.declared.Trap.{Trap}
use Rattle.def_words.specs.Seals.{cap_seal}
use Rattle.def_events.specs.Leaving.{Left}
use Rattle.def_reach.specs.Roots.{is_owned}
use Rattle.def_reach.specs.Sharing.{Reaches}
use Rattle.def_machine.specs.Frames.{returned, ended_with}
use Rattle.def_machine.specs.Image.{Image, root}
use Rattle.def_machine.specs.Objects.{Any, Each, charges, placed_among, quarantine}
use Rattle.def_machine.specs.Platform.{Platform}
use Rattle.def_machine.specs.State.{State, Frame, Object, thread, register}
use Rattle.def_confined.specs.Confined.{AllApart, Apart, Confined, ObjectFits}
use Rattle.def_step.specs.Instructions.{Effect, actor_of, executed}
use Rattle.def_step.specs.Quotas.{Made, allocation, by_quota, is_quota_cap, quota_in}
use Rattle.def_step.specs.Routines.{Ran, code, tells}
use Rattle.def_step.specs.Switch.{return_checks}
use Rattle.def_secrecy.specs.View.{ReadsObject}
use Rattle.def_secrecy.specs.Others.{MayCharge}
use Rattle.law_moves.proofs.Authorities.{headed}
use Rattle.law_moves.proofs.Deeds.{register_used}
use Rattle.law_moves.proofs.Rows.{each_map, each_take}
use Rattle.law_routines.proofs.Cases.{Routines}
use Rattle.law_routines.proofs.Leaving.{allocate_left, checked_left, free_left, remaining_left, sleep_left, switch_left, token_free_left, token_key_left, token_new_left, token_open_left, wait_left, wake_left, yield_left}
use Rattle.law_routines.proofs.Objects.{Found, made_says}
use Rattle.law_routines.proofs.Stepping.{IfDone, carried}
use Rattle.law_secrecy.proofs.Freeing.{quarantine_reads}
use Rattle.law_secrecy.proofs.Handing.{among}
use Rattle.law_secrecy.proofs.Routed.{executed_goes}

-- ---- rows

among_old : (P : Object → Type 0) (r : Object) (qs : List Object) → Any P qs → Any P (placed_among r qs)
among_old P r [] h = absurd h
among_old P r (q ∷ qs) h = chosen (λ (xs : List Object). Any P xs) (nat_lt r.base q.base) (r ∷ q ∷ qs) (q ∷ placed_among r qs) (λ is. inr h) (λ not. elim h [ inl here ↦ inl here | inr later ↦ inr (among_old P r qs later) ])

others_stay : (P : Object → Type 0) (n : ℕ) (qs : List Object) → Each (λ (q : Object). q.number ≡ n → ⊥) qs → Any P qs → Any P (quarantine n qs)
others_stay P n [] each h = absurd h
others_stay P n (q ∷ qs) each (inl here) = inl (chosen P (nat_eq q.number n) (record q { live = false }) q (λ is. absurd (each.0 (eqb-true q.number n is))) (λ not. here))
others_stay P n (q ∷ qs) each (inr later) = inr (others_stay P n qs each.1 later)

-- of what isn't quarantined all stays
rest_stays : (P : Object → Type 0) (r : Object) (rs : List Object) → AllApart rs → Any (λ q. q ≡ r) rs → (P r → ⊥) → Any P rs → Any P (quarantine r.number rs)
rest_stays P r [] apart there never h = absurd h
rest_stays P r (q ∷ qs) apart (inl is) never (inl here) = absurd (never (subst P is here))
rest_stays P r (q ∷ qs) apart (inl is) never (inr later) = inr (others_stay P r.number qs (each_map (Apart q) (λ (z : Object). z.number ≡ r.number → ⊥) qs (λ z a e. a.0 (ap (λ (y : Object). y.number) is ∙ sym e)) apart.0) later)
rest_stays P r (q ∷ qs) apart (inr there) never (inl here) = inl (chosen P (nat_eq q.number r.number) (record q { live = false }) q
    (λ is. absurd (each_take (Apart q) (λ z. z ≡ r) ⊥ qs (λ z a e. a.0 (eqb-true q.number r.number is ∙ sym (ap (λ (y : Object). y.number) e))) apart.0 there))
    (λ not. here))
rest_stays P r (q ∷ qs) apart (inr there) never (inr later) = inr (rest_stays P r qs apart.1 there never later)

-- the quota of a live object has a limit
live_charged : (i : Image) (next : ℕ) (r : Object) (rs : List Object) → Each (ObjectFits i next) rs → Any (λ q. q ≡ r) rs → r.live ≡ true → 0 < charges r.quota rs
live_charged i next r [] fits there live = absurd there
live_charged i next r (q ∷ qs) fits (inl is) live = subst (λ (z : Object). z.live ≡ true → 0 < charges z.quota (q ∷ qs)) is (λ lives. here lives (q.live && nat_eq q.quota q.quota) refl) live
  where
    here : q.live ≡ true → (c : Bool) → (q.live && nat_eq q.quota q.quota) ≡ c → 0 < cond c q.charge 0 + charges q.quota qs
    here lives true e = (let some = fits.0.charge in omega (arith, some))
    here lives false e = absurd (eqb-false q.quota q.quota (ap (λ l. l && nat_eq q.quota q.quota) (sym lives) ∙ e) refl)
live_charged i next r (q ∷ qs) fits (inr there) live = (let rest = live_charged i next r qs fits.1 there live in omega (arith, rest))

-- ---- a step

module _ (b : Platform) (s : State) (u d : ℕ) (held : Confined b.image s) (runs : s.running ≡ Some u) (quotas : (q : ℕ) → 0 < (root b.image q).limit → MayCharge b.image d q → MayCharge b.image (actor_of (thread s u).frames) q → ⊥) where
  -- compartment d may read in the same objects
  abbrev Same : State → Type 0
  Same a = (x : ℕ) → (Any (ReadsObject b.image d x) s.objects → Any (ReadsObject b.image d x) a.objects) × (Any (ReadsObject b.image d x) a.objects → Any (ReadsObject b.image d x) s.objects)

  same : Same s
  same x = ((λ h. h), (λ h. h))

  -- what is charged to c10 the other compartment may not read
  unread : (register (thread s u) 10).tag ≡ true → (x : ℕ) (r : Object) → r.quota ≡ quota_in s u → 0 < (root b.image r.quota).limit → ReadsObject b.image d x r → ⊥
  unread tagged x r is limit read =
      let head = headed b.image s.objects u (thread s u).frames (register (thread s u) 10) (held.registers u 10) tagged in
      let v = register_used b.image s u 10 head.0 head.1.0 held runs head.1.1 tagged in
      let actor : head.0.actor ≡ actor_of (thread s u).frames = sym (ap actor_of head.1.1) in
      let may : MayCharge b.image (actor_of (thread s u).frames) r.quota = λ owned. subst (λ a. Reaches b.image.entries (root b.image r.quota).owner a) actor (subst (λ n. Reaches b.image.entries (root b.image n).owner head.0.actor) (sym is) (v.owner (subst (λ n. is_owned (root b.image n).origin ≡ true) is owned))) in
      quotas r.quota limit read.reached may

  made_same : (register (thread s u) 10).tag ≡ true → (size : ℕ) (r : Object) → allocation b.image s (quota_in s u) size ≡ Made r → (x : ℕ) → (Any (ReadsObject b.image d x) s.objects → Any (ReadsObject b.image d x) (placed_among r s.objects)) × (Any (ReadsObject b.image d x) (placed_among r s.objects) → Any (ReadsObject b.image d x) s.objects)
  made_same tagged size r made x =
      let m = made_says b.image s (quota_in s u) size r made in
      let is : r.quota ≡ quota_in s u = ap (λ (z : Object). z.quota) m.is in
      let bound = m.limit in
      let limit : 0 < (root b.image r.quota).limit = subst (λ q. 0 < (root b.image q).limit) (sym is) (omega (arith, bound)) in (
        among_old (ReadsObject b.image d x) r s.objects,
        λ h. elim (among (ReadsObject b.image d x) r s.objects h) [ inl new ↦ absurd (unread tagged x r is limit new) | inr old ↦ old ],
      )

  freed_same : (register (thread s u) 10).tag ≡ true → (r : Object) (c : Cap) → Found (quota_in s u) c s.objects r → (x : ℕ) → (Any (ReadsObject b.image d x) s.objects → Any (ReadsObject b.image d x) (quarantine r.number s.objects)) × (Any (ReadsObject b.image d x) (quarantine r.number s.objects) → Any (ReadsObject b.image d x) s.objects)
  freed_same tagged r c f x =
      let some = live_charged b.image s.next r s.objects held.fits f.there f.live in
      let limit = held.limits r.quota in (
        rest_stays (ReadsObject b.image d x) r s.objects held.apart f.there (unread tagged x r f.charged (omega (arith, some, limit))),
        quarantine_reads b.image d x r.number s.objects,
      )

  abbrev Goes : Ran → Type 0
  Goes r = Left (λ z told. Same z) r

  refused : (ran : Ran) → (register (thread s u) 10).tag ≡ false → Goes (by_quota s u ran)
  refused ran none = checked_left (λ z told. Same z) (return_checks (register (thread s u) 1)) (if is_quota_cap (register (thread s u) 10) then ran else tells s u (code NO_QUOTA))
      (chosen Goes (is_quota_cap (register (thread s u) 10)) ran (tells s u (code NO_QUOTA))
      (λ is. absurd (let clash : true ≡ false = sym (and_parts (register (thread s u) 10).tag (cap_seal (register (thread s u) 10) == QUOTA_TYPE) is).0 ∙ none in cc))
      (λ not. same))

  routines : Routines Goes b.image s u
  routines = elim (bool_tells (register (thread s u) 10).tag) [
    | inl tagged ↦ (let Q : State → Option (ℕ × Act) → Type 0 = λ z told. Same z in record {
      switch = switch_left Q b.image s u (λ n. same) (λ high. same);
      yield = yield_left Q b.image s u (λ v. same);
      sleep = sleep_left Q b.image s u (λ v. same);
      wait = wait_left Q b.image s u (λ n. same) (λ v. same);
      wake = wake_left Q b.image s u (λ at most. same);
      allocate = allocate_left Q b.image s u (λ n. same) (λ size r made. made_same tagged size r made);
      free = free_left Q b.image s u (λ n. same) (freed_same tagged);
      remaining = remaining_left Q b.image s u (λ n. same);
      token_key = token_key_left Q b.image s u (λ n. same) (λ r made. made_same tagged 8 r made);
      token_new = token_new_left Q b.image s u (λ n. same) (λ size key r made row. made_same tagged size r made);
      token_open = token_open_left Q b.image s u (λ n. same) (λ key r is. same);
      token_free = token_free_left Q b.image s u (λ n. same) (freed_same tagged);
    })
    | inr none ↦ (let Q : State → Option (ℕ × Act) → Type 0 = λ z told. Same z in record {
      switch = switch_left Q b.image s u (λ n. same) (λ high. same);
      yield = yield_left Q b.image s u (λ v. same);
      sleep = sleep_left Q b.image s u (λ v. same);
      wait = wait_left Q b.image s u (λ n. same) (λ v. same);
      wake = wake_left Q b.image s u (λ at most. same);
      allocate = refused _ none;
      free = refused _ none;
      remaining = remaining_left Q b.image s u (λ n. same);
      token_key = refused _ none;
      token_new = refused _ none;
      token_open = token_open_left Q b.image s u (λ n. same) (λ key r is. same);
      token_free = refused _ none;
    })
  ]

  ended_same : (value : ℕ) (fs : List Frame) → Same (ended_with b.image s u value fs)
  ended_same value [] = same
  ended_same value (f ∷ []) = same
  ended_same value (f ∷ g ∷ gs) = same

  returned_same : (fs : List Frame) → Same (returned b.image s u fs)
  returned_same [] = same
  returned_same (f ∷ []) = same
  returned_same (f ∷ g ∷ gs) = same

  done_same : (r : Result Effect Trap) → IfDone Same s u r
  done_same (Err why) = tt
  done_same (Ok e) = same

  pub executed_same : Same (executed b s u).0
  executed_same = executed_goes Same b s u (record {
    handles = λ why f fs frames is. same;
    ends = λ value. ended_same value (thread s u).frames;
    back = returned_same (thread s u).frames;
    done = λ k. done_same (carried b s u k);
    routines = routines;
  })
