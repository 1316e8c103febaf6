-- The causes of answers.
use Rattle.std.specs.Prelude.{ℕ, zero, suc, ◌≡◌, ◌+◌, ◌-◌, ◌≤◌, ◌<◌, true, false, None}
use Rattle.def_profile.specs.declared.seals.TheConstants.{QUOTA_TYPE}
use Rattle.def_words.specs.declared.Cap.{Cap}
use Rattle.def_words.specs.Authority.{cap_base, cap_top}
use Rattle.def_words.specs.Seals.{cap_seal}
use Rattle.def_sched.specs.declared.Status.{Status}
use Rattle.def_sched.specs.Statuses.{after_tick}
use Rattle.def_machine.specs.Image.{Image, root}
use Rattle.def_machine.specs.State.{State, Object, thread, register}
use Rattle.def_machine.specs.Objects.{Any, charges}
use Rattle.def_machine.specs.Heap.{Fits, length_for, charge_for}
use Rattle.def_confined.specs.Capabilities.{IsReturnType}

-- ---- what a caller holds

-- c1 is a return sentry, as every routine but the return asks
abbrev pub MayReturn : State → ℕ → Type 0
MayReturn s t =
    ((register (thread s t) 1).tag ≡ true) × IsReturnType (cap_seal (register (thread s t) 1))

-- c10 is a quota
abbrev pub HasQuota : State → ℕ → Type 0
HasQuota s t =
    ((register (thread s t) 10).tag ≡ true) × (cap_seal (register (thread s t) 10) ≡ QUOTA_TYPE)

-- ---- an allocation

-- a size above 0, no longer than the heap
abbrev pub SizeFits : Image → ℕ → Type 0
SizeFits i size = (0 < size) × (size ≤ i.heap_end - i.heap_base)

-- the live charges with the new one are at most the quota's limit
abbrev pub IsWithinLimit : Image → State → ℕ → ℕ → Type 0
IsWithinLimit i s quota size = charges quota s.objects + charge_for size ≤ (root i quota).limit

-- no place is lawful
abbrev pub HasNoPlace : Image → State → ℕ → Type 0
HasNoPlace i s size = (base : ℕ) → Fits i s.objects (length_for size) base → ⊥

-- a chunk is quarantined
abbrev pub HasQuarantined : State → Type 0
HasQuarantined s = Any (λ (r : Object). r.live ≡ false) s.objects

-- ---- a free

-- a live object of this quota has exactly these bounds
pub record IsWholeOf (quota : ℕ) (c : Cap) (r : Object) : Type 0 where
  pub live : r.live ≡ true
  pub quota_is : r.quota ≡ quota
  pub base_is : r.base ≡ cap_base c
  pub top_is : r.base + r.length ≡ cap_top c

-- a tagged, unsealed capability of a whole live object of the quota
pub record NamesObject (s : State) (quota : ℕ) (c : Cap) : Type 0 where
  pub tagged : c.tag ≡ true
  pub unsealed : cap_seal c ≡ 0
  pub object : Any (IsWholeOf quota c) s.objects

-- ---- a sleep

-- what so many ticks leave of a status
abbrev pub after_ticks : ℕ → Status → Status
after_ticks zero x = x
after_ticks (suc n) x = after_ticks n (after_tick x)
