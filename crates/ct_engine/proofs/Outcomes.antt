-- An instruction that tells nothing, over granules of which some are hidden: it comes to what it comes to over all, and
-- leaves what is hidden.
use Rattle.std.proofs.Common.{ℕ, ◌≡◌, Bool, true, None, List, length, Result, Ok, Err, refl, sym, ap, ◌∙◌, subst}
use Rattle.def_words.specs.declared.Cap.{Cap}
use Rattle.def_words.specs.declared.Trap.{Trap}
use Rattle.def_words.specs.Authority.{cap_address}
use Rattle.def_memory.specs.declared.Granule.{Granule}
use Rattle.def_memory.specs.Granules.{cap_in}
use Rattle.def_instr.specs.declared.Instr.{Instr}
use Rattle.def_machine.specs.State.{Thread, register}
use Rattle.def_machine.specs.Threads.{jumped}
use Rattle.def_step.specs.declared.Class.{Class}
use Rattle.def_step.specs.declared.Class.TheVariants as class
use Rattle.def_step.specs.Accesses.{Accessed, access_result}
use Rattle.def_step.specs.Checks.{first_failed}
use Rattle.def_step.specs.Devices.{DeviceStates}
use Rattle.def_step.specs.Instructions.{Effect, accesses, carried_out, fetch_checks, flows}
use Rattle.def_step.specs.Jumps.{flow_result, Flowed}
use Rattle.def_step.specs.Operands.{class_of, operands_of}
use Rattle.def_hidden.specs.Hiding.{with_hidden}
use Rattle.def_safety.specs.HiddenSteps.{hide_result, IsSeen, SeesAccess}
use Rattle.law_hidden.proofs.Steps.{access_same, next_same}
use Rattle.ct_loadstore.specs.Shapes.{space_of}
use Rattle.ct_threads.specs.Steps.{no_bank}
use Rattle.ct_burst.specs.Going.{context, outcome, GoesOnce, IsQuiet}
use Rattle.ct_engine.proofs.Instructions.{result_size, result_stays}

-- of RAM that begins at `ram`, nothing is hidden that thread w may reach by an access or a fetch whose checks pass
pub record Sees (h : ℕ → Bool) (ram : ℕ) (w : Thread) : Type 0 where
  pub accesses : (n : ℕ) (i : Instr) (y : Cap) → SeesAccess h ram i (register w n) y
  pub fetches : first_failed (fetch_checks w.pcc) ≡ None → IsSeen h ram (cap_address w.pcc)

-- ---- what it comes to

abbrev hide_outcome : (ℕ → Bool) → Result Effect Trap → Result Effect Trap
hide_outcome h (Ok d) = Ok (record d { granules = with_hidden h d.granules })
hide_outcome h (Err why) = Err why

flows_same : (h : ℕ → Bool) (ram : ℕ) (w : Thread) (gs : List Granule) (k : DeviceStates) (time to : ℕ) (r : Result Flowed Trap)
    → flows (context ram w (with_hidden h gs) k time) to r ≡ hide_outcome h (flows (context ram w gs k time) to r)
flows_same h ram w gs k time to (Ok f) = refl
flows_same h ram w gs k time to (Err why) = refl

accesses_same : (h : ℕ → Bool) (ram : ℕ) (w : Thread) (gs : List Granule) (k : DeviceStates) (time to : ℕ) (r : Result Accessed Trap)
    → accesses (context ram w (with_hidden h gs) k time) to (hide_result h r) ≡ hide_outcome h (accesses (context ram w gs k time) to r)
accesses_same h ram w gs k time to (Ok m) = refl
accesses_same h ram w gs k time to (Err why) = refl

class_same : (h : ℕ → Bool) (ram : ℕ) (w : Thread) (gs : List Granule) (k : DeviceStates) (time : ℕ) (c : Class) (i : Instr) (to : ℕ) (x y : Cap) (named : ℕ) → SeesAccess h ram i x y
    → carried_out c i to x y named (context ram w (with_hidden h gs) k time) ≡ hide_outcome h (carried_out c i to x y named (context ram w gs k time))
class_same h ram w gs k time class.Integer i to x y named sees = refl
class_same h ram w gs k time class.Capability i to x y named sees = refl
class_same h ram w gs k time class.System i to x y named sees = refl
class_same h ram w gs k time class.Jump i to x y named sees = flows_same h ram w gs k time to (flow_result i x y w.pcc w.posture named)
class_same h ram w gs k time class.Access i to x y named sees =
    ap (λ (r : Result Accessed Trap). accesses (context ram w (with_hidden h gs) k time) to r) (access_same h i x y (space_of ram gs k time) sees)
    ∙ accesses_same h ram w gs k time to (access_result i x y (space_of ram gs k time))
class_same h ram w gs k time class.Fence i to x y named sees = refl
class_same h ram w gs k time class.Call i to x y named sees = refl
class_same h ram w gs k time class.Break i to x y named sees = refl

outcome_same : (h : ℕ → Bool) (ram : ℕ) (w : Thread) (gs : List Granule) (i : Instr) (named : ℕ) (k : DeviceStates) (time : ℕ) → Sees h ram w
    → outcome ram w (with_hidden h gs) i named k time ≡ hide_outcome h (outcome ram w gs i named k time)
outcome_same h ram w gs i named k time sees =
    class_same h ram w gs k time (class_of i) i (operands_of i).to (register w (operands_of i).first) (register w (operands_of i).second) named
    (sees.accesses (operands_of i).first i (register w (operands_of i).second))

quiet_same : (h : ℕ → Bool) (w : Thread) (k : DeviceStates) (new : Thread) (after : List Granule) (r : Result Effect Trap) → IsQuiet w k r new after → IsQuiet w k (hide_outcome h r) new (with_hidden h after)
quiet_same h w k new after (Ok d) q = (q.0, ap (λ (gs : List Granule). with_hidden h gs) q.1, q.2, q.3, q.4)
quiet_same h w k new after (Err why) q = q

pub once_seen : (h : ℕ → Bool) (ram : ℕ) (w : Thread) (gs : List Granule) (new : Thread) (after : List Granule) → Sees h ram w → GoesOnce ram w gs new after
    → GoesOnce ram w (with_hidden h gs) new (with_hidden h after)
once_seen h ram w gs new after sees g = record {
  instruction = g.instruction;
  checks = g.checks;
  stands = next_same h (space_of ram gs no_bank 0) (cap_address w.pcc) (sees.fetches g.checks) ∙ g.stands;
  carries = λ named k time. subst (λ (r : Result Effect Trap). IsQuiet w k r new (with_hidden h after)) (sym (outcome_same h ram w gs g.instruction named k time sees))
      (quiet_same h w k new after (outcome ram w gs g.instruction named k time) (g.carries named k time));
}

-- ---- what it leaves of memory

flows_left : (P : List Granule → Type 0) (ram : ℕ) (w : Thread) (gs : List Granule) (to : ℕ) (r : Result Flowed Trap) (new : Thread) (after : List Granule) → P gs
    → IsQuiet w no_bank (flows (context ram w gs no_bank 0) to r) new after → P after
flows_left P ram w gs to (Ok f) new after h q = subst P (sym q.1) h
flows_left P ram w gs to (Err why) new after h q = absurd q

accesses_left : (P : List Granule → Type 0) (ram : ℕ) (w : Thread) (gs : List Granule) (to : ℕ) (r : Result Accessed Trap) (new : Thread) (after : List Granule) → ((m : Accessed) → r ≡ Ok m → P m.granules)
    → IsQuiet w no_bank (accesses (context ram w gs no_bank 0) to r) new after → P after
accesses_left P ram w gs to (Ok m) new after h q = subst P (sym q.1) (h m refl)
accesses_left P ram w gs to (Err why) new after h q = absurd q

-- what holds of the granules, and of what an access leaves of them, holds after
class_left : (P : List Granule → Type 0) (ram : ℕ) (w : Thread) (gs : List Granule) (c : Class) (i : Instr) (to : ℕ) (x y : Cap) (new : Thread) (after : List Granule) → P gs
    → ((m : Accessed) → access_result i x y (space_of ram gs no_bank 0) ≡ Ok m → P m.granules)
    → IsQuiet w no_bank (carried_out c i to x y 0 (context ram w gs no_bank 0)) new after → P after
class_left P ram w gs class.Integer i to x y new after h moved q = subst P (sym q.1) h
class_left P ram w gs class.Capability i to x y new after h moved q = subst P (sym q.1) h
class_left P ram w gs class.System i to x y new after h moved q = absurd q
class_left P ram w gs class.Jump i to x y new after h moved q = flows_left P ram w gs to (flow_result i x y w.pcc w.posture 0) new after h q
class_left P ram w gs class.Access i to x y new after h moved q = accesses_left P ram w gs to (access_result i x y (space_of ram gs no_bank 0)) new after moved q
class_left P ram w gs class.Fence i to x y new after h moved q = subst P (sym q.1) h
class_left P ram w gs class.Call i to x y new after h moved q = absurd q
class_left P ram w gs class.Break i to x y new after h moved q = absurd q

once_left : (P : List Granule → Type 0) (ram : ℕ) (w : Thread) (gs : List Granule) (new : Thread) (after : List Granule) → P gs
    → ((i : Instr) (n : ℕ) (y : Cap) (m : Accessed) → access_result i (register w n) y (space_of ram gs no_bank 0) ≡ Ok m → P m.granules)
    → GoesOnce ram w gs new after → P after
once_left P ram w gs new after h moved g =
    let i : Instr = g.instruction in
    class_left P ram w gs (class_of i) i (operands_of i).to (register w (operands_of i).first) (register w (operands_of i).second) new after h
    (moved i (operands_of i).first (register w (operands_of i).second)) (g.carries 0 no_bank 0)

pub once_size : (ram : ℕ) (w : Thread) (gs : List Granule) (new : Thread) (after : List Granule) → GoesOnce ram w gs new after → length after ≡ length gs
once_size ram w gs new after g =
    once_left (λ (hs : List Granule). length hs ≡ length gs) ram w gs new after refl (λ i n y m is. result_size i (register w n) y (space_of ram gs no_bank 0) m is) g

pub once_stays : (h : ℕ → Bool) (ram : ℕ) (w : Thread) (gs : List Granule) (new : Thread) (after : List Granule) → Sees h ram w → GoesOnce ram w gs new after
    → (k : ℕ) → h k ≡ true → cap_in after k ≡ cap_in gs k
once_stays h ram w gs new after sees g k hidden =
    once_left (λ (hs : List Granule). cap_in hs k ≡ cap_in gs k) ram w gs new after refl
    (λ i n y m is. result_stays h i (register w n) y (space_of ram gs no_bank 0) m k (sees.accesses n i y) is hidden) g

-- ---- what it leaves of the thread

-- its program counter capability is another, and a register gets a value
pub record Gone (w new : Thread) : Type 0 where
  pub pcc : Cap
  pub to : ℕ
  pub value : Cap
  pub is : new ≡ jumped w pcc w.posture to value

quiet_gone : (w : Thread) (k : DeviceStates) (new : Thread) (after : List Granule) (r : Result Effect Trap) → IsQuiet w k r new after → Gone w new
quiet_gone w k new after (Ok d) q =
    record { pcc = d.pcc; to = d.to; value = d.value; is = q.0 ∙ ap (λ p. jumped w d.pcc p d.to d.value) q.4 }
quiet_gone w k new after (Err why) q = absurd q

pub once_gone : (ram : ℕ) (w : Thread) (gs : List Granule) (new : Thread) (after : List Granule) → GoesOnce ram w gs new after → Gone w new
once_gone ram w gs new after g = quiet_gone w no_bank new after (outcome ram w gs g.instruction 0 no_bank 0) (g.carries 0 no_bank 0)
