-- The keeper's thread acts away from what the prowler's sees, and so the two runs tell the prowler's the same.
use Rattle.std.proofs.Common.{ℕ, ◌≡◌, ◌<◌, List, [], ◌∷◌, refl, sym, ap, ◌∙◌, subst, arith}
use Rattle.ct_entry.specs.declared.acts.Happened.{Happened}
use Rattle.def_memory.specs.declared.Granule.{Granule}
use Rattle.def_machine.specs.Memory.{bytes_stored}
use Rattle.def_machine.specs.Platform.{Platform}
use Rattle.def_machine.specs.State.{State, thread}
use Rattle.def_confined.specs.Keeps.{Keeps}
use Rattle.def_image.specs.Sound.{Sound}
use Rattle.def_boot.specs.Boot.{boot_state, image_of, platform_of}
use Rattle.def_boot.specs.Contents.{boot_granules}
use Rattle.def_events.specs.Running.{RunsFramed}
use Rattle.def_step.specs.declared.Event.{Event}
use Rattle.def_step.specs.declared.Event.TheVariants.{Step, Tick, Sweep, Input}
use Rattle.def_step.specs.Events.{happens, run}
use Rattle.def_step.specs.Instructions.{actor_of}
use Rattle.def_safety.specs.Each.{EachEvent, ready}
use Rattle.def_secrecy.specs.Agreeing.{SamePublic}
use Rattle.def_secrecy.specs.Others.{ApartInReport, ByOthers}
use Rattle.def_secrecy.specs.Runs.{AlikeInAll, Moment, Both, Others, OthersStayAway}
use Rattle.def_secrecy.specs.Turns.{ByThread, TakesTurns, TellsAlike}
use Rattle.law_boot.proofs.Holding.{holds}
use Rattle.law_boot.proofs.Whole.{partitioned}
use Rattle.law_boot.proofs.Wiring.{wired}
use Rattle.law_events.proofs.Events.{event_keeps}
use Rattle.law_started.proofs.Whole.{keeps}
use Rattle.law_truly.proofs.Running.{event_framed, ready_framed}
use Rattle.law_truly.proofs.Whole.{boots_framed}
use Rattle.law_secrecy.proofs.Images.{other_boot}
use Rattle.law_secrecy.proofs.Unseen.{bytes_keep}
use Rattle.law_secrecy.proofs.Unshared.{steps_away}
use Rattle.law_secret_samples.specs.Walls.{secret_at, walls}
use Rattle.law_secret_samples.proofs.Actors.{AreOf, actor_is, first_acts, frames_of, ready_of}
use Rattle.law_secret_samples.proofs.AnyBoot.{with_boot, happens_same, ready_same}
use Rattle.law_secret_samples.proofs.Booted.{apart, boot_is, platform_same, sees_no_device, unseen}

-- ---- the machine of the other image does the same

module _ (gs : List Granule) (b : Platform) where
  run_same : (z : State) (es : List Event) → run (with_boot gs b) z es ≡ run b z es
  unfolding run
  run_same z [] = refl
  run_same z (e ∷ es) = ap (λ (r : State × Happened). run (with_boot gs b) r.0 es) (happens_same gs b z e) ∙ run_same (happens b z e).0 es

  keeper_same : (z : State) (e : Event) → ByThread (with_boot gs b) 1 z e → ByThread b 1 z e
  keeper_same z Step h = ap (λ (y : State). y.running) (sym (ready_same gs b z)) ∙ h
  keeper_same z Tick h = h
  keeper_same z Sweep h = h
  keeper_same z (Input n byte) h = h

  each_same : (z : State) (es : List Event) → EachEvent (ByThread (with_boot gs b) 1) (with_boot gs b) z es → EachEvent (ByThread b 1) b z es
  each_same z [] h = tt
  each_same z (e ∷ es) h = (
    keeper_same z e h.0,
    each_same (happens b z e).0 es (subst (λ (r : State × Happened). EachEvent (ByThread (with_boot gs b) 1) (with_boot gs b) r.0 es) (happens_same gs b z e) h.1),
  )

  turns_same : (ms : List Moment) (s z : State) → TakesTurns b (with_boot gs b) 0 1 s z ms → TakesTurns b b 0 1 s z ms
  turns_same [] s z h = tt
  turns_same (Both e ∷ ms) s z h = (
    h.0,
    λ stays. turns_same ms (happens b s e).0 (happens b z e).0 (subst (λ (r : State × Happened). TakesTurns b (with_boot gs b) 0 1 (happens b s e).0 r.0 ms) (happens_same gs b z e) (h.1 stays)),
  )
  turns_same (Others es fs ∷ ms) s z h = (
    h.0,
    each_same z fs h.1,
    subst (λ (y : State). SamePublic (run b s es) y) (run_same z fs) h.2,
    turns_same ms (run b s es) (run b z fs) (subst (λ (y : State). TakesTurns b (with_boot gs b) 0 1 (run b s es) y ms) (run_same z fs) h.3),
  )

  tells_same : (ms : List Moment) (s z : State) → AlikeInAll b 0 s z ms → TellsAlike b (with_boot gs b) 0 s z ms
  tells_same [] s z h = h
  tells_same (Both e ∷ ms) s z h = (
    h.0,
    h.1 ∙ ap (λ (r : State × Happened). r.1.deed) (sym (happens_same gs b z e)),
    λ stays. (
      (h.2 stays).0 ∙ ap (λ (r : State × Happened). r.1) (sym (happens_same gs b z e)),
      subst (λ (r : State × Happened). TellsAlike b (with_boot gs b) 0 (happens b s e).0 r.0 ms) (sym (happens_same gs b z e)) (tells_same ms (happens b s e).0 (happens b z e).0 (h.2 stays).1),
    ),
  )
  tells_same (Others es fs ∷ ms) s z h = (
    h.0,
    subst (λ (y : State). TellsAlike b (with_boot gs b) 0 (run b s es) y ms) (sym (run_same z fs)) (tells_same ms (run b s es) (run b z fs) h.1),
  )

-- ---- the keeper's thread stays away

-- what every event keeps
record Stands (n : ℕ) (z : State) : Type 0 where
  pub keeps : Keeps (image_of (walls n)) z
  pub framed : RunsFramed z
  pub first : AreOf 0 (thread z 0).frames
  pub second : AreOf 1 (thread z 1).frames

module _ (n : ℕ) (sound : Sound (walls n)) where
  abbrev b : Platform
  b = platform_of (walls n)

  event_stands : (z : State) (e : Event) → Stands n z → Stands n (happens b z e).0
  event_stands z e h = record {
    keeps = event_keeps b z e (partitioned (walls n) sound) (holds (walls n) sound) (wired (walls n) sound) h.keeps;
    framed = event_framed b z e h.keeps h.framed;
    first = frames_of n sound z e 0 0 h.keeps h.first;
    second = frames_of n sound z e 1 1 h.keeps h.second;
  }

  run_stands : (z : State) (es : List Event) → Stands n z → Stands n (run b z es)
  unfolding run
  run_stands z [] h = h
  run_stands z (e ∷ es) h = run_stands (happens b z e).0 es (event_stands z e h)

  keeper_away : (z : State) (e : Event) → Stands n z → ByThread b 1 z e → ByOthers b 0 z e
  keeper_away z Step h runs =
      let first : actor_of (thread (ready b z) 0).frames ≡ 0 = first_acts (thread (ready b z) 0).frames (ready_of b z 0 0 h.first) in
      let second : actor_of (thread (ready b z) 1).frames ≡ 1 = actor_is 1 (thread (ready b z) 1).frames (ready_framed b z h.keeps h.framed 1 runs) (ready_of b z 1 1 h.second) in
      let both : ApartInReport b.image 0 (actor_of (thread (ready b z) 0).frames) 1 (actor_of (thread (ready b z) 1).frames) =
      subst (λ d. ApartInReport b.image 0 d 1 (actor_of (thread (ready b z) 1).frames)) (sym first) (subst (λ a. ApartInReport b.image 0 0 1 a) (sym second) (apart n)) in
      steps_away b z 0 1 (partitioned (walls n) sound) (holds (walls n) sound) (wired (walls n) sound) h.keeps.confined runs (λ same. omega (arith, same)) both (λ m seen access. sees_no_device n m (thread (ready b z) 0).frames first seen)
  keeper_away z Tick h runs = tt
  keeper_away z Sweep h runs = runs
  keeper_away z (Input m byte) h runs = λ seen. sees_no_device n m (thread z 0).frames (first_acts (thread z 0).frames h.first) seen

  each_away : (z : State) (es : List Event) → Stands n z → EachEvent (ByThread b 1) b z es → EachEvent (ByOthers b 0) b z es
  each_away z [] h k = tt
  each_away z (e ∷ es) h k = (keeper_away z e h k.0, each_away (happens b z e).0 es (event_stands z e h) k.1)

  turns_away : (ms : List Moment) (s z : State) → Stands n s → Stands n z → TakesTurns b b 0 1 s z ms → OthersStayAway b 0 s z ms
  turns_away [] s z one two h = tt
  turns_away (Both e ∷ ms) s z one two h = (h.0, λ stays. turns_away ms (happens b s e).0 (happens b z e).0 (event_stands s e one) (event_stands z e two) (h.1 stays))
  turns_away (Others es fs ∷ ms) s z one two h = (each_away s es one h.0, each_away z fs two h.1, h.2, turns_away ms (run b s es) (run b z fs) (run_stands s es one) (run_stands z fs two) h.3)

  -- ---- from boot

  boot_stands : Stands n (boot_state (walls n))
  unfolding boot_state
  boot_stands = record { keeps = keeps (walls n) sound; framed = boots_framed (walls n); first = (refl, tt); second = (refl, tt) }

  -- booted with another secret
  abbrev other : ℕ → State
  other m = bytes_stored (image_of (walls n)) (boot_state (walls n)) secret_at 1 m

  other_stands : (m : ℕ) → Stands n (other m)
  other_stands m = record {
    keeps = bytes_keep (image_of (walls n)) (boot_state (walls n)) 0 secret_at 1 m (unseen n) boot_stands.keeps;
    framed = boots_framed (walls n);
    first = boot_stands.first;
    second = boot_stands.second;
  }

  told_alike : (m : ℕ) (ms : List Moment) → TakesTurns b (with_boot (boot_granules (walls m)) b) 0 1 (boot_state (walls n)) (other m) ms → TellsAlike b (with_boot (boot_granules (walls m)) b) 0 (boot_state (walls n)) (other m) ms
  told_alike m ms h =
      let one = turns_same (boot_granules (walls m)) b ms (boot_state (walls n)) (other m) h in
      tells_same (boot_granules (walls m)) b ms (boot_state (walls n)) (other m)
      (other_boot (walls n) sound 0 secret_at 1 m ms (unseen n) (turns_away ms (boot_state (walls n)) (other m) boot_stands (other_stands m) one))

pub secrets_differ_untold : (n m : ℕ) (ms : List Moment) → n < 256 → m < 256 → Sound (walls n)
    → TakesTurns (platform_of (walls n)) (platform_of (walls m)) 0 1 (boot_state (walls n)) (boot_state (walls m)) ms
    → TellsAlike (platform_of (walls n)) (platform_of (walls m)) 0 (boot_state (walls n)) (boot_state (walls m)) ms
secrets_differ_untold n m ms few less sound h =
    let b = platform_of (walls n) in
    let at : boot_state (walls m) ≡ bytes_stored (image_of (walls n)) (boot_state (walls n)) secret_at 1 m = boot_is n m few less in
    let machine : platform_of (walls m) ≡ with_boot (boot_granules (walls m)) (platform_of (walls n)) = platform_same n m in
    subst (λ (c : Platform). TellsAlike b c 0 (boot_state (walls n)) (boot_state (walls m)) ms) (sym machine)
    (subst (λ (z : State). TellsAlike b (with_boot (boot_granules (walls m)) b) 0 (boot_state (walls n)) z ms) (sym at)
    (told_alike n sound m ms
    (subst (λ (z : State). TakesTurns b (with_boot (boot_granules (walls m)) b) 0 1 (boot_state (walls n)) z ms) at
    (subst (λ (c : Platform). TakesTurns b c 0 1 (boot_state (walls n)) (boot_state (walls m)) ms) machine h))))
