-- Loads attenuate, and what is local is stored through a stack's capability alone: in plain facts of one event.
use Rattle.std.specs.Prelude.{ℕ, ◌≡◌, ◌≢◌, ◌<◌, ◌⊎◌, true, false, Some, None}
use Rattle.def_instr.specs.declared.Instr.{Instr}
use Rattle.def_words.specs.declared.Cap.{Cap}
use Rattle.def_words.specs.Authority.{cap_address}
use Rattle.def_words.specs.Narrows.{Narrows, SameSeal}
use Rattle.def_words.specs.Permissions.{has, global, load_global, load_mutable, memory_capability, store_data, store_local}
use Rattle.def_words.specs.Seals.{cap_seal}
use Rattle.def_machine.specs.Image.{Image, Stack, granule_of, region}
use Rattle.def_machine.specs.Platform.{Platform}
use Rattle.def_machine.specs.State.{State, granule, register, thread}
use Rattle.def_step.specs.declared.Class.TheVariants as class
use Rattle.def_step.specs.declared.Event.TheVariants.{Step}
use Rattle.def_step.specs.declared.Next.TheVariants.{Instruction}
use Rattle.def_step.specs.Accesses.{access_of, is_ram}
use Rattle.def_step.specs.Checks.{first_failed}
use Rattle.def_step.specs.Events.{happens}
use Rattle.def_step.specs.Instructions.{fetch_checks, next_at, space_of}
use Rattle.def_step.specs.Operands.{class_of, operands_of}
use Rattle.def_safety.specs.Each.{ready}
use Rattle.def_safety.specs.Used.{authority_of, value_of, access_start, AccessPasses}

-- thread t runs, and stands at this load or store, which it may fetch, and whose checks pass
pub record CarriesOut (b : Platform) (s : State) (t : ℕ) (k : Instr) : Type 0 where
  pub runs : s.running ≡ Some t
  pub fetched : first_failed (fetch_checks (thread s t).pcc) ≡ None
  pub stands : next_at (space_of b s) (cap_address (thread s t).pcc) ≡ Instruction k
  pub accesses : class_of k ≡ class.Access
  pub passes : AccessPasses s t k

-- d, which is tagged, is c as it is loaded through `by`, which may load capabilities: it has c's root, source and
-- seal, and no more bounds and rights. What is unsealed has neither SD nor LM where `by` has no LM, and neither GL
-- nor LG where `by` has no LG. What is sealed is as it was, but that it has no GL where `by` has no LG.
pub record Attenuates (by c d : Cap) : Type 0 where
  pub carries : has by memory_capability ≡ true
  pub narrows : Narrows c d
  pub same_seal : cap_seal d ≡ cap_seal c
  pub no_store : has by load_mutable ≡ false → cap_seal c ≡ 0 → has d store_data ≡ false
  pub no_mutable : has by load_mutable ≡ false → cap_seal c ≡ 0 → has d load_mutable ≡ false
  pub no_global : has by load_global ≡ false → has d global ≡ false
  pub no_capture : has by load_global ≡ false → cap_seal c ≡ 0 → has d load_global ≡ false
  pub sealed : cap_seal c ≢ 0 → SameSeal c d

-- Whatever a load, of any width, of RAM or of a device, leaves tagged in its register, other than c0, is the
-- capability of the granule where the access begins, so attenuated.
abbrev pub LoadsAttenuate : Platform → State → Type 0
LoadsAttenuate b s =
    (t : ℕ) (k : Instr) → CarriesOut b (ready b s) t k → (access_of k).loads ≡ true
    → 0 < (operands_of k).to
    → (register (thread (happens b s Step).0 t) (operands_of k).to).tag ≡ true
    → Attenuates (authority_of (ready b s) t k)
    (granule (ready b s) (granule_of b.image (access_start (ready b s) t k))).cap
    (register (thread (happens b s Step).0 t) (operands_of k).to)

-- d, which is tagged, is the value v as it is stored through `by`: as it is, and either it has GL or `by` has SL
pub record IsStoredThrough (by v d : Cap) : Type 0 where
  pub carries : has by memory_capability ≡ true
  pub same : d ≡ v
  pub local : (has d global ≡ true) ⊎ (has by store_local ≡ true)

-- Whatever a store leaves tagged in the granule where the access begins, in RAM, is the value so stored.
abbrev pub StoresLocal : Platform → State → Type 0
StoresLocal b s =
    (t : ℕ) (k : Instr) → CarriesOut b (ready b s) t k → (access_of k).loads ≡ false
    → is_ram (space_of b (ready b s)) (access_start (ready b s) t k) (access_of k).width ≡ true
    → (granule (happens b s Step).0
    (granule_of b.image (access_start (ready b s) t k))).cap.tag
    ≡ true
    → IsStoredThrough (authority_of (ready b s) t k) (value_of (ready b s) t k)
    (granule (happens b s Step).0 (granule_of b.image (access_start (ready b s) t k))).cap

-- A granule that holds a capability without GL is of a thread's stack.
abbrev pub LocalsInStacks : Image → State → Type 0
LocalsInStacks i s =
    (k : ℕ) → (granule s k).cap.tag ≡ true → has (granule s k).cap global ≡ false
    → (t : ℕ) × (region i k ≡ Stack t)
