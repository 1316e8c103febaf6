-- An access that reaches a device is told, whether it changes the device or not.
use Rattle.std.specs.Prelude.{ℕ, ◌≡◌, false, Some, None, if◌then◌else◌}
use Rattle.ct_entry.specs.declared.acts.Act.{Act}
use Rattle.ct_entry.specs.declared.acts.Act.TheVariants.{Load, Store}
use Rattle.ct_entry.specs.declared.acts.Deed.{Deed}
use Rattle.def_words.specs.Authority.{cap_address}
use Rattle.def_instr.specs.declared.Instr.{Instr}
use Rattle.def_machine.specs.Platform.{Platform}
use Rattle.def_machine.specs.State.{State, thread}
use Rattle.def_step.specs.declared.Class.TheVariants as class
use Rattle.def_step.specs.declared.Event.TheVariants.{Step}
use Rattle.def_step.specs.declared.Next.TheVariants.{Instruction}
use Rattle.def_step.specs.Accesses.{access_of, is_ram}
use Rattle.def_step.specs.Checks.{first_failed}
use Rattle.def_step.specs.Devices.{found}
use Rattle.def_step.specs.Events.{happens}
use Rattle.def_step.specs.Instructions.{actor_of, fetch_checks, next_at, space_of}
use Rattle.def_step.specs.Operands.{class_of}
use Rattle.def_safety.specs.Each.{ready}
use Rattle.def_safety.specs.Used.{authority_of, access_start, AccessPasses}

-- Thread t runs, and at its program counter stands an access whose checks pass, outside RAM, at an
-- address of a device.
pub record ReachesDevice (b : Platform) (s : State) (t : ℕ) (k : Instr) (n : ℕ) : Type 0 where
  pub runs : s.running ≡ Some t
  pub fetched : first_failed (fetch_checks (thread s t).pcc) ≡ None
  pub stands : next_at (space_of b s) (cap_address (thread s t).pcc) ≡ Instruction k
  pub accesses : class_of k ≡ class.Access
  pub passes : AccessPasses s t k
  pub outside : is_ram (space_of b s) (access_start s t k) (access_of k).width ≡ false
  pub here : found b.bases (access_start s t k) ≡ Some n

-- the act of such an access, with its value
abbrev pub access_act : State → ℕ → Instr → ℕ → Act
access_act s t k value =
    if (access_of k).loads then Load (access_start s t k) (access_of k).width value
    else Store (access_start s t k) (access_of k).width value

-- the deed of such an access by thread t
abbrev pub access_deed : State → ℕ → Instr → ℕ → Deed
access_deed s t k value = record {
  thread = t;
  actor = actor_of (thread s t).frames;
  entry = (authority_of s t k).shadow.root;
  act = access_act s t k value;
}

-- it is told, with some value: what that is, what is told says itself
abbrev pub AccessesTold : Platform → State → Type 0
AccessesTold b s =
    (t : ℕ) (k : Instr) (n : ℕ)
    → ReachesDevice b (ready b s) t k n
    → (value : ℕ)
    × ((happens b s Step).1.deed ≡ Some (access_deed (ready b s) t k value))
