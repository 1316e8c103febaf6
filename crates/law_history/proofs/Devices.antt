-- Ticks and sweeps leave the devices as they are.
use Rattle.std.proofs.Common.{ℕ, ◌≡◌, nat_le, true, Option, Some, None, refl, ◌∙◌}
use Rattle.law_lists.proofs.Tests.{chosen}
use Rattle.def_machine.specs.Image.{Image}
use Rattle.def_machine.specs.State.{State, thread}
use Rattle.def_machine.specs.Objects.{has_quarantined, painted}
use Rattle.def_machine.specs.Heap.{with_slice, slice_end, sweep_over, ram_size, sweep_began, sweep_on, swept}
use Rattle.def_step.specs.Events.{interrupted}

pub interrupted_devices : (s : State) (o : Option ℕ) → (interrupted s o).devices ≡ s.devices
interrupted_devices s None = refl
interrupted_devices s (Some t) = chosen (λ (z : State). z.devices ≡ s.devices) (thread s t).posture.off (record s { pending = true }) (record s { running = None }) (λ is. refl) (λ not. refl)

on_devices : (i : Image) (s : State) (o : Option ℕ) → (sweep_on i s o).devices ≡ s.devices
on_devices i s None = refl
on_devices i s (Some front) = chosen (λ (z : State). z.devices ≡ s.devices) (nat_le (ram_size (with_slice i s front (slice_end i s front))) (slice_end i s front)) (sweep_over i (with_slice i s front (slice_end i s front))) (with_slice i s front (slice_end i s front)) (λ is. refl) (λ not. refl)

began_devices : (s : State) (o : Option ℕ) → (sweep_began s o).devices ≡ s.devices
began_devices s None = chosen (λ (z : State). z.devices ≡ s.devices) (has_quarantined s.objects) (record s { objects = painted s.objects; front = Some 0 }) s (λ is. refl) (λ not. refl)
began_devices s (Some front) = refl

pub swept_devices : (i : Image) (s : State) → (swept i s).devices ≡ s.devices
swept_devices i s = on_devices i (sweep_began s s.front) (sweep_began s s.front).front ∙ began_devices s s.front
