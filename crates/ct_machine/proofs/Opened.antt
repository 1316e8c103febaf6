-- Of a confined state: the running thread is open to the engine, and its innermost frame's top lies in its stack.
use Rattle.std.proofs.Common.{ℕ, zero, suc, ◌≡◌, ◌*◌, ◌<◌, Bool, List, [], ◌∷◌, length, Some, refl, sym, ap, subst, arith}
use Rattle.std.proofs.Math.ListN.{get_or}
use Rattle.def_sched.specs.declared.Status.TheVariants.{Ready}
use Rattle.def_confined.specs.Confined.{Confined}
use Rattle.def_hidden.specs.Hidden.{Shut}
use Rattle.def_machine.specs.Image.{Image, stack_base}
use Rattle.def_machine.specs.State.{Thread, Frame, DeviceState, Counts, thread, nobody}
use Rattle.ct_sched.specs.Sched.{SchedRow}
use Rattle.ct_engine.specs.Seen as engine
use Rattle.ct_engine.specs.Seen.{area_at, EngineRow}
use Rattle.ct_engine.specs.Calls.{TopLies}
use Rattle.ct_engine.specs.Bursts.{IsOpen}
use Rattle.ct_execute.proofs.Opens.{running_open}
use Rattle.ct_boot.specs.Placed.{IsPlaced}
use Rattle.law_callable.proofs.Showing.{ShowsCaller, top_lies}
use Rattle.ct_machine.specs.Parts.{state_by, IsKept}
use Rattle.ct_machine.specs.Starting.{IsOfSound}
use Rattle.ct_execute.proofs.Statuses.{like_with}
use Rattle.ct_machine.proofs.Taking.{frames_with}

some_within : (ts : List Thread) (t : ℕ) → 0 < length (get_or ts t nobody).frames → t < length ts
some_within [] t some = absurd (omega (arith, some))
some_within (x ∷ ts) zero some = omega arith
some_within (x ∷ ts) (suc t) some = let rest = some_within ts t some in omega (arith, rest)

module _ (i : Image) (e : EngineRow) (r : SchedRow) (pending : Bool) (devices : List DeviceState) (time : ℕ) (c : Counts) (t : ℕ) where
  pub is_open : IsKept i e r → Shut i → Confined i (state_by e r pending devices time c) → e.state.running ≡ Some t → IsOpen e t
  is_open kept shut held runs =
      running_open i (state_by e r pending devices time c) e t shut held
      (record {
        running = runs;
        region = kept.region;
        heap_base = sym kept.heap.base;
        heap_end = sym kept.heap.end;
        objects = refl;
        registers = sym (ap (λ (u : Thread). u.registers) (like_with e.state.threads r.statuses t Ready));
        pcc = sym (ap (λ (u : Thread). u.pcc) (like_with e.state.threads r.statuses t Ready));
      })

  pub some_seen : 0 < length (thread (state_by e r pending devices time c) t).frames → 0 < length (engine.thread e t).frames
  some_seen some = subst (λ (fs : List Frame). 0 < length fs) (frames_with e.state.threads r.statuses t) some

  pub placed_at : IsKept i e r → 0 < length (engine.thread e t).frames → IsPlaced i (8 * length e.state.granules) t (area_at e t)
  placed_at kept some =
      let within : t < length e.state.threads = some_within e.state.threads t some in
      let count : length e.areas ≡ length e.state.threads = kept.threads in
      kept.areas.each t (omega (arith, within, count))

  pub base_of : IsKept i e r → 0 < length (engine.thread e t).frames → (area_at e t).stack ≡ stack_base i t
  base_of kept some = (placed_at kept some).base_is

  pub tops : IsKept i e r → Confined i (state_by e r pending devices time c) → 0 < length (engine.thread e t).frames → TopLies e t
  tops kept held some =
      top_lies i (state_by e r pending devices time c) e (8 * length e.state.granules) t held (placed_at kept some) (sym (frames_with e.state.threads r.statuses t)) some

  -- what the engine shows of the thread that calls
  pub shows_caller : IsKept i e r → IsOfSound i → Confined i (state_by e r pending devices time c) → 0 < length (engine.thread e t).frames
      → ShowsCaller i (state_by e r pending devices time c) e t
  shows_caller kept sound confined some = record {
    parts = sound.parts;
    sound = sound.sound;
    is = sound.is;
    confined = confined;
    region = kept.region;
    heap = kept.heap.base;
    granules = refl;
    placed = placed_at kept some;
    registers = ap (λ (u : Thread). u.registers) (sym (like_with e.state.threads r.statuses t Ready));
    frames = sym (frames_with e.state.threads r.statuses t);
  }
