-- What a step of another thread may change, and when that is nothing that a thread sees.
use Rattle.std.specs.Prelude.{ℕ, ◌≡◌, ◌≤◌, ◌<◌, ◌⊎◌, true, false, List, length, Some}
use Rattle.ct_entry.specs.declared.rows.Kind.TheVariants as kind
use Rattle.def_words.specs.Permissions.{bit, load_data, store_data}
use Rattle.def_reach.specs.Roots.{Listing, is_owned, is_stack}
use Rattle.def_reach.specs.Sharing.{Reaches}
use Rattle.def_machine.specs.Image.{Image, root, stack_entry, stack_base, stack_top}
use Rattle.def_machine.specs.Objects.{Any}
use Rattle.def_machine.specs.Platform.{Platform}
use Rattle.def_machine.specs.State.{State, Frame, Object, thread}
use Rattle.def_step.specs.declared.Event.{Event}
use Rattle.def_step.specs.declared.Event.TheVariants.{Step, Tick, Sweep, Input}
use Rattle.def_step.specs.Devices.{device, found}
use Rattle.def_step.specs.Events.{happens}
use Rattle.def_step.specs.Instructions.{actor_of}
use Rattle.def_safety.specs.Each.{ready}
use Rattle.def_secrecy.specs.View.{ReadsThrough, ReadsObject, InView, SeesDevice}
use Rattle.def_secrecy.specs.Agreeing.{SameMemory, AgreeingThread}

-- ---- what a thread may change

-- address x is compartment d's to store to through entry n, which is no thread's stack
pub record StoresThrough (i : Image) (d n x : ℕ) : Type 0 where
  pub no_stack : is_stack (root i n).origin ≡ false
  pub reached : is_owned (root i n).origin ≡ true → Reaches i.entries (root i n).owner d
  pub may : bit (root i n).rights store_data ≡ true
  pub low : (root i n).base ≤ x
  pub high : x < (root i n).top

-- An address whose byte a step of thread u with these frames may change: through an entry, in an object that its actor
-- may read, or in its own stack.
abbrev pub MayChange : Image → List Object → ℕ → List Frame → ℕ → Type 0
MayChange i objects u fs x =
    ((n : ℕ) × StoresThrough i (actor_of fs) n x)
    ⊎ Any (ReadsObject i (actor_of fs) x) objects
    ⊎ ((stack_base i u ≤ x) × (x < stack_top i u))

-- device m is one that a thread with these frames may load from or store to; a load may change it too
pub record MayAccess (b : Platform) (fs : List Frame) (m : ℕ) : Type 0 where
  pub entry : ℕ
  pub address : ℕ
  pub reached : is_owned (root b.image entry).origin ≡ true
      → Reaches b.image.entries (root b.image entry).owner (actor_of fs)
  pub may : (bit (root b.image entry).rights load_data ≡ true)
      ⊎ (bit (root b.image entry).rights store_data ≡ true)
  pub low : (root b.image entry).base ≤ address
  pub high : address < (root b.image entry).top
  pub here : found b.bases address ≡ Some m

-- ---- when it is nothing that another sees

-- thread u may change no byte and no device that thread t sees
pub record OutOfReach (b : Platform) (s : State) (t u : ℕ) : Type 0 where
  pub bytes : (x : ℕ) → InView b.image s t x
      → MayChange b.image s.objects u (thread s u).frames x → ⊥
  pub devices : (m : ℕ) → SeesDevice b (thread s t).frames m → MayAccess b (thread s u).frames m
      → ⊥

-- what thread t sees of a state beside what is public, is afterwards as it was
pub record ViewStays (b : Platform) (t : ℕ) (s after : State) : Type 0 where
  pub self : AgreeingThread (thread s t) (thread after t)
  pub memory : SameMemory b.image (InView b.image s t) s.granules after.granules
  pub devices : (m : ℕ) → SeesDevice b (thread s t).frames m
      → device s.devices m ≡ device after.devices m
  pub banks : length s.devices ≡ length after.devices

-- thread t sees the same addresses as before: nobody made or freed an object that it may read
abbrev pub SeesAlike : Platform → ℕ → State → State → Type 0
SeesAlike b t s after =
    (x : ℕ) → (InView b.image s t x → InView b.image after t x)
    × (InView b.image after t x → InView b.image s t x)

-- ---- events by which others act

-- a step of another thread, which may change nothing that thread t sees, and makes and frees no object that t may read
pub record StepsAway (b : Platform) (t : ℕ) (s : State) : Type 0 where
  pub other : ℕ
  pub runs : (ready b s).running ≡ Some other
  pub is_other : t ≡ other → ⊥
  pub away : OutOfReach b (ready b s) t other
  pub alike : SeesAlike b t s (happens b s Step).0

-- By this event others act, away from what thread t sees: such a step, a tick, or an input to a device that t may not
-- load from. A slice of a sweep isn't one, since it takes tags in view.
abbrev pub ByOthers : Platform → ℕ → State → Event → Type 0
ByOthers b t s Step = StepsAway b t s
ByOthers b t s Tick = Unit {0}
ByOthers b t s Sweep = ⊥
ByOthers b t s (Input n byte) = SeesDevice b (thread s t).frames n → ⊥

-- ---- what the report says of it

abbrev pub InStack : Image → ℕ → ℕ → Type 0
InStack i t x = (stack_base i t ≤ x) × (x < stack_top i t)

-- a quota whose owner, if it has one, reaches compartment d
abbrev pub MayCharge : Image → ℕ → ℕ → Type 0
MayCharge i d q =
    is_owned (root i q).origin ≡ true → Reaches i.entries (root i q).owner d

-- As the report has them, thread u, while its actor is compartment a, is apart from thread t, while its is d: no entry
-- through which d may read meets one through which a may store, or the stack of u; none through which a may store meets
-- the stack of t; and no quota with a limit is for both to charge.
pub record ApartInReport (i : Image) (t d u a : ℕ) : Type 0 where
  pub stacks : ((root i (stack_entry i t)).origin ≡ Listing kind.Stack)
      × ((root i (stack_entry i u)).origin ≡ Listing kind.Stack)
  pub entries : (n m x : ℕ) → ReadsThrough i d n x → StoresThrough i a m x → ⊥
  pub other_stack : (n x : ℕ) → ReadsThrough i d n x → InStack i u x → ⊥
  pub own_stack : (m x : ℕ) → StoresThrough i a m x → InStack i t x → ⊥
  pub quotas : (q : ℕ) → 0 < (root i q).limit → MayCharge i d q → MayCharge i a q → ⊥
