-- Where a value comes from that stands anywhere after an event.
use Rattle.std.specs.Prelude.{ℕ, ◌≡◌, ◌⊎◌, true, false, List, ◌∷◌, Option, Some}
use Rattle.ct_entry.specs.declared.acts.Deed.{Deed}
use Rattle.def_profile.specs.declared.seals.TheConstants.{TOKEN_TYPE}
use Rattle.def_instr.specs.declared.Instr.{Instr}
use Rattle.def_words.specs.declared.Cap.{Cap}
use Rattle.def_words.specs.Authority.{cap_address}
use Rattle.def_words.specs.Narrows.{IsOpened}
use Rattle.def_words.specs.Seals.{cap_seal}
use Rattle.def_machine.specs.Heap.{object_cap}
use Rattle.def_machine.specs.Image.{granule_of}
use Rattle.def_machine.specs.Objects.{Any}
use Rattle.def_machine.specs.Platform.{Platform}
use Rattle.def_machine.specs.State.{State, Thread, Frame, Object, granule, register, thread}
use Rattle.def_confined.specs.Made.{Links}
use Rattle.def_step.specs.declared.Event.{Event}
use Rattle.def_step.specs.declared.Event.TheVariants.{Step}
use Rattle.def_step.specs.declared.Next.TheVariants.{Instruction}
use Rattle.def_step.specs.Accesses.{access_of}
use Rattle.def_step.specs.Events.{happens}
use Rattle.def_step.specs.Instructions.{next_at, space_of}
use Rattle.def_step.specs.Tokens.{opened_token, sealed_token}
use Rattle.def_safety.specs.Each.{ready}
use Rattle.def_safety.specs.Gives.{Gives}
use Rattle.def_safety.specs.Results.{ResultOf}
use Rattle.def_safety.specs.Used.{AccessPasses, access_start}

-- ---- what stood

-- a frame saved it
abbrev pub Saves : Cap → Frame → Type 0
Saves c f = (c ≡ f.c1) ⊎ (c ≡ f.c2) ⊎ (c ≡ f.c3) ⊎ (c ≡ f.c8) ⊎ (c ≡ f.c9)

-- it is in a granule, in a program counter, in a register, or in a frame
pub data Stands (s : State) (c : Cap) : Type 0 where
  in_granule : (k : ℕ) → c ≡ (granule s k).cap → Stands s c
  in_counter : (t : ℕ) → c ≡ (thread s t).pcc → Stands s c
  in_register : (t n : ℕ) → c ≡ register (thread s t) n → Stands s c
  in_frame : (t : ℕ) → Any (Saves c) (thread s t).frames → Stands s c

-- if it is tagged, it stood there
abbrev pub Stood : State → Cap → Type 0
Stood s c = c.tag ≡ true → Stands s c

-- ---- what a thread takes values from, in the state in which it carries on

-- the granule where the load begins at which thread t stands, and whose checks pass
pub record IsLoadedFrom (b : Platform) (s : State) (t : ℕ) (c : Cap) : Type 0 where
  pub instruction : Instr
  pub stands : next_at (space_of b s) (cap_address (thread s t).pcc) ≡ Instruction instruction
  pub loads : (access_of instruction).loads ≡ true
  pub passes : AccessPasses s t instruction
  pub from : c ≡ (granule s (granule_of b.image (access_start s t instruction))).cap

-- it is thread t's program counter, in one of its registers, or in the granule that its load reads
pub data AtHand (b : Platform) (s : State) (t : ℕ) (c : Cap) : Type 0 where
  counter : c ≡ (thread s t).pcc → AtHand b s t c
  in_own : (n : ℕ) → c ≡ register (thread s t) n → AtHand b s t c
  loaded : IsLoadedFrom b s t c → AtHand b s t c

-- what a jump, a routine or a return of a thread may open: it is in one of its registers, or is the way back that its
-- innermost frame saved
pub data LeadsOn (t : Thread) (c : Cap) : Type 0 where
  by_register : (n : ℕ) → c ≡ register t n → LeadsOn t c
  by_frame : (f : Frame) (fs : List Frame) → t.frames ≡ f ∷ fs → c ≡ f.c1 → LeadsOn t c

-- ---- what comes of it

-- What thread t makes in the step in which it carries on, from values that it has at hand and of which P holds: a
-- result of an operation on one; one opened, as a jump or a return opens it; the link that its program counter leaves
-- under its posture; or what the switcher gives it, for what is told.
pub data Makes (b : Platform) (P : Cap → Type 0) (s : State) (t : ℕ) (told : Option Deed)
    (d : Cap) : Type 0 where
  result : (c : Cap) → P c → AtHand b s t c → ResultOf c d → Makes b P s t told d
  opened : (c : Cap) → P c → LeadsOn (thread s t) c → (d.tag ≡ true → IsOpened c d)
      → Makes b P s t told d
  linked : P (thread s t).pcc → Links (thread s t).pcc (thread s t).posture d
      → Makes b P s t told d
  given : Gives b.image s t told d → Makes b P s t told d

-- By instructions, calls, returns and traps: P holds of it, or it is untagged; or the running thread of a step made
-- it.
pub data Derives (b : Platform) (P : Cap → Type 0) (s : State) (e : Event) (d : Cap) : Type 0 where
  untagged : d.tag ≡ false → Derives b P s e d
  stood : P d → Derives b P s e d
  made : e ≡ Step → (t : ℕ) → (ready b s).running ≡ Some t
      → Makes b P (ready b s) t (happens b s e).1.deed d → Derives b P s e d

-- the object that an event handed out: it has the next number, and stands among the others
pub record IsNew (before after : State) (r : Object) : Type 0 where
  pub number : r.number ≡ before.next
  pub there : Any (λ q. q ≡ r) after.objects

-- or by a routine of the heap: it is the capability of a new object, as it is or sealed as a token, or a token that
-- was opened
pub data Comes (b : Platform) (P : Cap → Type 0) (s : State) (e : Event) (d : Cap) : Type 0 where
  derived : Derives b P s e d → Comes b P s e d
  object : (r : Object) → IsNew s (happens b s e).0 r → d ≡ object_cap r → Comes b P s e d
  sealed : (r : Object) → IsNew s (happens b s e).0 r → d ≡ sealed_token r → Comes b P s e d
  token : (c : Cap) → P c → c.tag ≡ true → cap_seal c ≡ TOKEN_TYPE → d ≡ opened_token c
      → Comes b P s e d
