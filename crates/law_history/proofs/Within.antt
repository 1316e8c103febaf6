-- *Machine stays inside*: what threads hold reaches RAM, devices and native entries alone.
use Rattle.std.proofs.Common.{ℕ, ◌≡◌, ◌+◌, ◌≤◌, ◌<◌, inl, inr, false, arith}
use Rattle.law_lists.proofs.Tests.{bool_tells}
use Rattle.def_words.specs.declared.Cap.{Cap}
use Rattle.def_words.specs.Authority.{cap_base, cap_top}
use Rattle.def_words.specs.Permissions.{load_data, store_data, execute}
use Rattle.def_confined.specs.Facts.{GrantsAccess}
use Rattle.def_machine.specs.Platform.{Platform}
use Rattle.def_machine.specs.Heap.{ram_size}
use Rattle.def_machine.specs.Image.{root}
use Rattle.def_machine.specs.State.{State, register, thread}
use Rattle.def_safety.specs.Inside.{Inside, IsReachable}
use Rattle.def_confined.specs.Capabilities.{Rooted, heap_cap}
use Rattle.def_confined.specs.Confined.{Confined}
use Rattle.def_confined.specs.Keeps.{Keeps}
use Rattle.def_confined.specs.Partitioned.{Partitioned}
use Rattle.law_moves.proofs.JumpsMoves.{in_rooted}
use Rattle.law_events.proofs.Events.{ready_keeps}
use Rattle.def_safety.specs.Each.{ready}
use Rattle.def_safety.specs.Within.{MayTouch, ThreadsWithin}

module _ (b : Platform) (s : State) (inside : Inside b) (parts : Partitioned b.image) (h : Confined b.image s) where
  -- the rights of a capability are its root's
  reads : (c : Cap) → Rooted b.image c → heap_cap b.image c ≡ false → MayTouch c → GrantsAccess (root b.image c.shadow.root)
  reads c r other (inl loads) = inl (r.rights other load_data loads)
  reads c r other (inr (inl stores)) = inr (inl (r.rights other store_data stores))
  reads c r other (inr (inr runs)) = inr (inr (r.rights other execute runs))

  -- the heap ends in RAM
  within_ram : (x : ℕ) → IsReachable b b.image.heap_end x → IsReachable b (b.image.ram + ram_size s) x
  within_ram x (inl ram) = let size = h.size in inl (ram.0, omega (arith, ram.1, size))
  within_ram x (inr other) = inr other

  cap_within : (c : Cap) (x : ℕ) → Rooted b.image c → MayTouch c → cap_base c ≤ x → x < cap_top c → IsReachable b (b.image.ram + ram_size s) x
  cap_within c x r any low high = elim (bool_tells (heap_cap b.image c)) [
    | inl heap ↦
        let range = r.heap heap in
        let size = h.size in
        let above : x < b.image.heap_end = omega (arith, range.1, high) in
        inl ((parts.heap x (omega (arith, range.0, low)) above).0, omega (arith, above, size))
    | inr other ↦
        let range = r.range other in
        within_ram x (inside.roots c.shadow.root x r.from (reads c r other any) (omega (arith, range.0, low)) (omega (arith, range.1, high)))
  ]

  pub state_within : ThreadsWithin b s
  state_within = record {
    registers = λ t n tagged any x low high. cap_within (register (thread s t) n) x (in_rooted b.image s.objects t (thread s t).frames (register (thread s t) n) (h.registers t n) tagged) any low high;
    counters = λ t tagged any x low high. cap_within (thread s t).pcc x (in_rooted b.image s.objects t (thread s t).frames (thread s t).pcc (h.pcc t) tagged) any low high;
  }

pub ready_within : (b : Platform) (s : State) → Inside b → Partitioned b.image → Keeps b.image s → ThreadsWithin b (ready b s)
ready_within b s inside parts k = state_within b (ready b s) inside parts (ready_keeps b s parts k).confined
