-- A window of a row's program counter capability stays one where the row goes on by the address rule.
use Rattle.std.proofs.Common.{ℕ, ◌+◌, ◌*◌, ◌%◌, ◌^◌, ◌<◌, ◌≡◌, List, length, arith, sym, subst}
use Rattle.def_memory.specs.declared.Granule.{Granule}
use Rattle.def_words.specs.declared.Cap.{Cap}
use Rattle.def_words.specs.declared.Posture.{Posture}
use Rattle.def_words.specs.Authority.{cap_address}
use Rattle.def_words.specs.Capability.{raised, with_address}
use Rattle.ct_areas.specs.declared.thread.Thread as row
use Rattle.ct_threads.specs.declared.window.Window.{Window}
use Rattle.ct_threads.specs.Rows.{row_gone}
use Rattle.ct_threads.specs.Windows.{Suits, IsWindow}
use Rattle.ct_threads.proofs.Windows.{suits_moved}
use Rattle.ct_burst.specs.Carrying.{HasWindow}

-- past an instruction, a register gets a value
pub put_suits : (w : Window) (r new : row.Thread) (posture : Posture) (to : ℕ) (value : Cap) → new ≡ row_gone r (raised r.pcc 4) posture to value → Suits w r.pcc → Suits w new.pcc
put_suits w r new posture to value is suits =
    subst (λ (q : row.Thread). Suits w q.pcc) (sym is) (suits_moved w r.pcc ((cap_address r.pcc + 4) % 2 ^ 32) (omega arith) suits)

-- at an address, whatever a register gets
pub moved_suits : (w : Window) (r new : row.Thread) (at : ℕ) (posture : Posture) (to : ℕ) (value : Cap) → new ≡ row_gone r (with_address r.pcc at) posture to value → at < 2 ^ 32 → Suits w r.pcc → Suits w new.pcc
moved_suits w r new at posture to value is small suits =
    subst (λ (q : row.Thread). Suits w q.pcc) (sym is) (suits_moved w r.pcc at small suits)

-- where RAM keeps its size
pub window_kept : (ram : ℕ) (r new : row.Thread) (gs after : List Granule) (w : Window) → HasWindow ram r gs w → length after ≡ length gs → Suits w new.pcc → HasWindow ram new after w
window_kept ram r new gs after w has size suits = subst (λ n. IsWindow w new.pcc ram (8 * n)) (sym size) (record { suits = suits; lies = has.lies })
