-- Jumps, picks, stops and the clockwork's course, whole.
use Rattle.std.proofs.Common.{ℕ, ◌≡◌, [], Some, None, refl, ◌∙◌, arith}
use Rattle.def_words.specs.declared.Cap.{Cap}
use Rattle.def_words.specs.declared.Posture.{Posture}
use Rattle.def_machine.specs.Image.{Image}
use Rattle.def_machine.specs.State.{State, thread}
use Rattle.def_machine.specs.Threads.{Clockwork, changed, jumped, picked}
use Rattle.def_confined.specs.Changes.{Jumps}
use Rattle.def_confined.specs.Keeps.{Keeps}
use Rattle.def_confined.specs.Partitioned.{Partitioned}
use Rattle.law_moves.proofs.Turns.{beside_confined}
use Rattle.law_moves.proofs.JumpsMoves.{jumps_confined}
use Rattle.def_confined.specs.Clock.{with_clock}
use Rattle.law_moves.proofs.TurnsMoves.{pick_confined, clock_confined}
use Rattle.law_moves.proofs.SweepsMoves.{ram_same, running_left, moved_beside, clock_beside, stopped_beside, picked_left}
use Rattle.law_moves.proofs.Threads.{written_length}

pub jump_keeps : (i : Image) (s : State) (t to : ℕ) (pcc : Cap) (posture : Posture) (link : Cap) (w : Clockwork) → Keeps i s → s.running ≡ Some t → ((thread s t).frames ≡ [] → ⊥) → Jumps i s t pcc posture link
    → Keeps i (changed s t (jumped (thread s t) pcc posture to link) s.running w)
jump_keeps i s t to pcc posture link w k runs some j = record {
  confined = jumps_confined i s t to pcc posture link w j;
  beside = moved_beside i s t s.granules (jumped (thread s t) pcc posture to link) s.running w (ram_same i s)
      (running_left i s t (jumped (thread s t) pcc posture to link) runs refl (omega (arith, k.beside.bounded.few t, written_length (thread s t).registers to link)) (λ e. record { over = e.over; none = λ none. absurd (some none) }) k.beside)
      k.beside;
}

pub pick_keeps : (i : Image) (s : State) (t : ℕ) (w : Clockwork) → Partitioned i → Keeps i s → s.running ≡ None → Keeps i (changed s t (picked i s (thread s t)) (Some t) w)
pick_keeps i s t w parts k idle = record {
  confined = pick_confined i s t w parts k.confined;
  beside = moved_beside i s t s.granules (picked i s (thread s t)) (Some t) w (ram_same i s) (picked_left i s t idle k.beside) k.beside;
}

pub stop_keeps : (i : Image) (s : State) (w : Clockwork) → Keeps i s → Keeps i (with_clock (record s { running = None }) w)
stop_keeps i s w k = record {
  confined = beside_confined i s s.tokens None w (λ u e. absurd (let clash : None ≡ Some u = e in cc)) k.confined;
  beside = stopped_beside i s w k.confined k.beside;
}

pub clock_keeps : (i : Image) (s : State) (w : Clockwork) → Keeps i s → Keeps i (with_clock s w)
clock_keeps i s w k = record { confined = clock_confined i s w k.confined; beside = clock_beside i s w k.beside }
