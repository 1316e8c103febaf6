-- *Integrity*, of granules: what an event may change in RAM, and by what.
use Rattle.std.specs.Prelude.{ℕ, ◌≡◌, ◌+◌, ◌-◌, ◌*◌, ◌/◌, ◌^◌, ◌==◌, ◌≤◌, ◌<◌, ◌⊎◌, true, false, nat_lt, List, ◌∷◌, Option, if◌then◌else◌}
use Rattle.ct_entry.specs.declared.acts.Act.TheVariants as acts
use Rattle.ct_entry.specs.declared.acts.Deed.{Deed}
use Rattle.def_instr.specs.declared.Instr.{Instr}
use Rattle.def_words.specs.declared.Cap.{Cap}
use Rattle.def_words.specs.declared.Trap.{Trap}
use Rattle.def_words.specs.Authority.{cap_address, cap_base}
use Rattle.def_words.specs.Capability.{untagged}
use Rattle.def_words.specs.Permissions.{store_data}
use Rattle.def_memory.specs.declared.Granule.{Granule}
use Rattle.def_memory.specs.Accesses.{byte_of}
use Rattle.def_memory.specs.Granules.{plain, blank, granule_at}
use Rattle.def_machine.specs.Image.{Image, granule_of, address_of, stack_base}
use Rattle.def_machine.specs.Memory.{is_marked}
use Rattle.def_machine.specs.Objects.{Any, InChunk}
use Rattle.def_machine.specs.Platform.{Platform}
use Rattle.def_machine.specs.State.{State, Thread, Frame, Object, thread, register, granule}
use Rattle.def_confined.specs.Confined.{MarksAt}
use Rattle.def_step.specs.declared.Class.TheVariants as class
use Rattle.def_step.specs.declared.Event.{Event}
use Rattle.def_step.specs.declared.Event.TheVariants.{Step, Sweep}
use Rattle.def_step.specs.declared.Next.TheVariants.{Instruction}
use Rattle.def_step.specs.declared.TheConstants.{TRAP_RECORD}
use Rattle.def_step.specs.Accesses.{access_of, ram_stored}
use Rattle.def_step.specs.Events.{happens}
use Rattle.def_step.specs.Handlers.{is_handled, record_end}
use Rattle.def_step.specs.Instructions.{next_at, space_of}
use Rattle.def_step.specs.Operands.{class_of}
use Rattle.def_safety.specs.Accesses.{IsUseAt}
use Rattle.def_safety.specs.Each.{ready}
use Rattle.def_safety.specs.Used.{authority_of, value_of, access_start, AccessPasses}
use Rattle.def_integrity.specs.Acting.{Acting, TellsAct, IsAuthority}

-- ---- by a store

-- A store of the running thread. It stands at the program counter, and its checks pass. What it goes through is tagged
-- and unsealed, has these bytes in its own bounds and the right to store; it is of a root whose owner reaches the actor,
-- and that has them in its range, or of a live object of such a quota, or of the thread's own stack. All of them lie in
-- this granule. It holds what the instruction stores there; each other byte of it is as it was, and so is its mark.
pub record IsStored (b : Platform) (s : State) (k : ℕ) (new : Granule) : Type 0 where
  pub by : Acting s
  pub instruction : Instr
  pub stands : next_at (space_of b s) (cap_address (thread s by.thread_is).pcc)
      ≡ Instruction instruction
  pub accesses : class_of instruction ≡ class.Access
  pub stores : (access_of instruction).loads ≡ false
  pub passes : AccessPasses s by.thread_is instruction
  pub uses : IsUseAt b.image s.objects by.thread_is by.frame.actor
      (authority_of s by.thread_is instruction) (access_start s by.thread_is instruction)
      (access_of instruction).width store_data
  pub authority : IsAuthority (authority_of s by.thread_is instruction)
      (access_start s by.thread_is instruction) (access_of instruction).width store_data
  pub inside : b.image.ram ≤ access_start s by.thread_is instruction
  pub here : granule_of b.image (access_start s by.thread_is instruction) ≡ k
  pub whole : access_start s by.thread_is instruction + (access_of instruction).width
      ≤ address_of b.image k + 8
  pub new_is : new
      ≡ granule_at
      (ram_stored (access_of instruction) (authority_of s by.thread_is instruction)
      (value_of s by.thread_is instruction) (access_start s by.thread_is instruction)
      b.image.ram s.granules)
      k
  pub rest : (n : ℕ) → n < 8
      → (address_of b.image k + n < access_start s by.thread_is instruction)
      ⊎ (access_start s by.thread_is instruction + (access_of instruction).width
      ≤ address_of b.image k + n)
      → byte_of new.cap.word n ≡ byte_of (granule s k).cap.word n
  pub mark : new.mark ≡ (granule s k).mark

-- ---- by the switcher

-- A call that is told cleared it: it lies below the callee's top, which is no further than the caller's c2.
pub record ClearsForCall (s : State) (by : Acting s) (told : Option Deed) (after : State)
    (address : ℕ) : Type 0 where
  pub export : ℕ
  pub why : TellsAct s by told (acts.Call export)
  pub callee : Frame
  pub pushes : (thread after by.thread_is).frames ≡ callee ∷ by.frame ∷ by.below
  pub room : callee.top ≤ cap_address (register (thread s by.thread_is) 2)
  pub high : address < callee.top

-- The end of the innermost frame cleared it: it lies below that frame's top.
pub record ClearsAtEnd (s : State) (by : Acting s) (after : State) (address : ℕ) : Type 0 where
  pub ends : (thread after by.thread_is).frames ≡ by.below
  pub high : address < by.frame.top

-- The switcher cleared it: it lies in the running thread's own stack, where a callee's begins or the innermost frame
-- ended; so below that frame's top.
pub record IsCleared (b : Platform) (s : State) (told : Option Deed) (after : State) (k : ℕ)
    (new : Granule) : Type 0 where
  pub by : Acting s
  pub low : stack_base b.image by.thread_is ≤ address_of b.image k
  pub high : address_of b.image k < by.frame.top
  pub why : ClearsForCall s by told after (address_of b.image k)
      ⊎ ClearsAtEnd s by after (address_of b.image k)
  pub new_is : new ≡ blank (granule s k)

-- ---- by a trap

-- where the record of a trap begins, by the c2 of the thread that traps
abbrev pub record_start : Cap → ℕ
record_start c = record_end c - TRAP_RECORD

-- Word n of a trap's record, each of two 32-bit numbers, the first in its low half: words 0 to 7 are the addresses of c0
-- to c15; word 8 is that of the program counter, and the cause; word 9 is the code and the register.
abbrev pub record_word : Thread → Trap → ℕ → ℕ
record_word old why n =
    if nat_lt n 8
    then cap_address (register old (2 * n)) + cap_address (register old (2 * n + 1)) * 2 ^ 32
    else if n == 8 then cap_address old.pcc + why.cause * 2 ^ 32
    else why.code + why.register * 2 ^ 32

-- A trap that is told, and that enters an error handler, wrote it: it lies in the trap's record, in the running
-- thread's own stack, below its c2, and so below the innermost frame's top. It holds the record's word there,
-- untagged; its mark stays.
pub record IsRecorded (b : Platform) (s : State) (told : Option Deed) (k : ℕ)
    (new : Granule) : Type 0 where
  pub by : Acting s
  pub trap : Trap
  pub why : TellsAct s by told (acts.Trap trap.cause trap.code trap.register)
  pub enters : is_handled b.image (stack_base b.image by.thread_is) (thread s by.thread_is) by.frame
      ≡ true
  pub low : stack_base b.image by.thread_is ≤ address_of b.image k
  pub from : record_start (register (thread s by.thread_is) 2) ≤ address_of b.image k
  pub to : address_of b.image k < record_end (register (thread s by.thread_is) 2)
  pub high : address_of b.image k < by.frame.top
  pub word : new.cap
      ≡ plain
      (record_word (thread s by.thread_is) trap
      ((address_of b.image k - record_start (register (thread s by.thread_is) 2)) / 8))
  pub mark : new.mark ≡ (granule s k).mark

-- ---- by a free

-- A free that is told gave back its object, a live one, whose quota's entry the deed names. All of its chunk is
-- marked, and all of it but its head is zero and untagged.
pub record IsFreed (b : Platform) (s : State) (told : Option Deed) (k : ℕ)
    (new : Granule) : Type 0 where
  pub by : Acting s
  pub object : Object
  pub there : Any (λ q. q ≡ object) s.objects
  pub live : object.live ≡ true
  pub left : ℕ
  pub why : TellsAct s by told (acts.Free object.number object.base object.length left)
  pub quota : why.deed.entry ≡ object.quota
  pub chunk : InChunk object (address_of b.image k)
  pub head : address_of b.image k < object.base → new.cap ≡ (granule s k).cap
  pub body : object.base ≤ address_of b.image k → new.cap ≡ plain 0
  pub mark : new.mark ≡ true

-- ---- by a sweep

-- A capability is as it was, or it was tagged and its base lay in a marked granule, and it lost its tag and nothing
-- else. Marked are the chunks of quarantined objects alone.
abbrev pub IsFiltered : Platform → State → Cap → Cap → Type 0
IsFiltered b s c d =
    (d ≡ c)
    ⊎ ((c.tag ≡ true) × (is_marked b.image s (cap_base c) ≡ true) × (d ≡ untagged c))

-- no quarantined object's chunk has granule k
abbrev pub NoneQuarantined : Image → State → ℕ → Type 0
NoneQuarantined i s k = Any (MarksAt (address_of i k)) s.objects → ⊥

-- A granule as a sweep leaves it: it holds the word that it held. Its tag goes for a mark alone, and its mark only
-- where afterwards no quarantined object's chunk has it.
pub record IsSwept (b : Platform) (s after : State) (k : ℕ) : Type 0 where
  pub cap : IsFiltered b s (granule s k).cap (granule after k).cap
  pub mark : ((granule after k).mark ≡ (granule s k).mark)
      ⊎ (((granule after k).mark ≡ false) × NoneQuarantined b.image after k)

-- ---- whole

-- A granule is as it was before an event, or a step did one of four things, or a sweep passed it. Steps are told of
-- in the state in which their thread carries on.
pub data Touched (b : Platform) (s : State) (e : Event) (k : ℕ) : Type 0 where
  as_before : granule (happens b s e).0 k ≡ granule s k → Touched b s e k
  by_store : e ≡ Step → IsStored b (ready b s) k (granule (happens b s e).0 k) → Touched b s e k
  by_clearing : e ≡ Step
      → IsCleared b (ready b s) (happens b s e).1.deed (happens b s e).0 k
      (granule (happens b s e).0 k)
      → Touched b s e k
  by_record : e ≡ Step
      → IsRecorded b (ready b s) (happens b s e).1.deed k (granule (happens b s e).0 k)
      → Touched b s e k
  by_free : e ≡ Step → IsFreed b (ready b s) (happens b s e).1.deed k (granule (happens b s e).0 k)
      → Touched b s e k
  by_sweep : e ≡ Sweep → IsSwept b s (happens b s e).0 k → Touched b s e k

-- *Integrity*, of granules: whatever an event changes in RAM it changes so.
abbrev pub GranulesKept : Platform → State → Event → Type 0
GranulesKept b s e = (k : ℕ) → Touched b s e k
