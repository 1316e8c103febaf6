-- Turns of threads.
use Rattle.std.proofs.Common.{ℕ, ◌≡◌, true, false, Option, Some, refl}
use Rattle.def_words.specs.declared.Cap.{Cap}
use Rattle.def_memory.specs.Granules.{plain}
use Rattle.def_machine.specs.Image.{Image}
use Rattle.def_machine.specs.State.{State, thread, register}
use Rattle.def_sched.specs.declared.Status.{Status}
use Rattle.def_machine.specs.Memory.{filtered}
use Rattle.def_machine.specs.Threads.{Clockwork, changed, picked, with_status}
use Rattle.def_confined.specs.Capabilities.{Kept}
use Rattle.def_confined.specs.Places.{InFrames, HasLive}
use Rattle.def_confined.specs.Confined.{Confined, IsPcc}
use Rattle.def_confined.specs.Partitioned.{Partitioned}
use Rattle.law_moves.proofs.Places.{plain_in}
use Rattle.law_moves.proofs.Puts.{plain_kept}
use Rattle.law_moves.proofs.Turns.{changed_confined, fits_as, beside_confined}
use Rattle.law_moves.proofs.Filters.{filter_case, filter_in, filter_kept, filter_live, in_object}
use Rattle.law_lists.proofs.Maps.{at_map}

pub pick_confined : (i : Image) (s : State) (t : ℕ) (w : Clockwork) → Partitioned i → Confined i s → Confined i (changed s t (picked i s (thread s t)) (Some t) w)
pick_confined i s t w p h = changed_confined i s t (picked i s (thread s t)) (Some t) w h (record {
  frames = refl;
  pcc = filter_in i s s.objects t (thread s t).frames (thread s t).pcc (h.pcc t);
  registers = λ n. at_map (λ c. InFrames i s.objects t (thread s t).frames c) (filtered i s) (thread s t).registers n (plain 0) (plain_in i s.objects t (thread s t).frames (plain 0) refl)
      (filter_in i s s.objects t (thread s t).frames (register (thread s t) n) (h.registers t n));
  kept = λ n. at_map (Kept i) (filtered i s) (thread s t).registers n (plain 0) (plain_kept i (plain 0) refl) (filter_kept i s (register (thread s t) n) (h.kept.registers t n));
  posture = fits_as i (thread s t) (picked i s (thread s t)) (thread s t).frames refl (h.postures t);
  runs = filter_case (λ (z : Cap). z.tag ≡ true → IsPcc i z) i s (thread s t).pcc (λ tagged. absurd (let clash : false ≡ true = tagged in cc)) (λ not. h.runs t);
  live = λ runs n. at_map (HasLive i s.objects) (filtered i s) (thread s t).registers n (plain 0) (λ tagged. absurd (let clash : false ≡ true = tagged in cc))
      (filter_live i s (register (thread s t) n) p h (in_object i s.objects t (thread s t).frames (register (thread s t) n) (h.registers t n)));
  others = λ u other is. absurd (other (let same : Some t ≡ Some u = is in cc));
})

pub turn_confined : (i : Image) (s : State) (t : ℕ) (status : Status) (run : Option ℕ) (w : Clockwork) → Confined i s → ((u : ℕ) → run ≡ Some u → s.running ≡ Some u) → Confined i (changed s t (with_status (thread s t) status) run w)
turn_confined i s t status run w h stays = changed_confined i s t (with_status (thread s t) status) run w h (record {
  frames = refl;
  pcc = h.pcc t;
  registers = λ n. h.registers t n;
  kept = λ n. h.kept.registers t n;
  posture = fits_as i (thread s t) (with_status (thread s t) status) (thread s t).frames refl (h.postures t);
  runs = h.runs t;
  live = λ runs n. h.live t (stays t runs) n;
  others = λ u other is. stays u is;
})

pub clock_confined : (i : Image) (s : State) (w : Clockwork) → Confined i s → Confined i (record s { pending = w.pending; devices = w.devices; time = w.time; picks = w.picks; counts = w.counts })
clock_confined i s w h = beside_confined i s s.tokens s.running w (λ u runs. runs) h
