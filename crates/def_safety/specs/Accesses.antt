-- *Licensed accesses*, of one event: what the running thread may fetch, load and store through.
use Rattle.std.specs.Prelude.{ℕ, ◌≡◌, ◌+◌, ◌≤◌, ◌<◌, ◌⊎◌, true, false, List, ◌∷◌, Some, None, if◌then◌else◌}
use Rattle.ct_entry.specs.declared.rows.Kind.TheVariants.{Code, Library}
use Rattle.def_instr.specs.declared.Instr.{Instr}
use Rattle.def_profile.specs.declared.rights.TheConstants.{HEAP_RIGHTS}
use Rattle.def_words.specs.declared.Cap.{Cap}
use Rattle.def_words.specs.Authority.{cap_address, cap_base, cap_top}
use Rattle.def_words.specs.Permissions.{Within, bit, cap_perms, has, load_data, execute, memory_capability}
use Rattle.def_words.specs.Seals.{cap_seal}
use Rattle.def_reach.specs.Roots.{Listing, is_native, is_owned}
use Rattle.def_reach.specs.Sharing.{Reaches}
use Rattle.def_machine.specs.Image.{Image, root, stack_entry}
use Rattle.def_machine.specs.State.{State, Frame, Object, register, thread}
use Rattle.def_machine.specs.Objects.{Any}
use Rattle.def_machine.specs.Platform.{Platform}
use Rattle.def_confined.specs.Capabilities.{heap_cap, stack_cap}
use Rattle.def_confined.specs.Confined.{IsPcc}
use Rattle.def_confined.specs.Places.{LiveCovers, WithinRun}
use Rattle.def_step.specs.Accesses.{access_of}
use Rattle.def_step.specs.Checks.{first_failed}
use Rattle.def_step.specs.Instructions.{fetch_checks, space_of}
use Rattle.def_step.specs.Routines.{word_checks}
use Rattle.def_safety.specs.Each.{ready}
use Rattle.def_safety.specs.Used.{authority_of, value_of, access_start, AccessPasses, used_right, moves_capability}

-- A capability that code of a compartment uses: its root's owner reaches the compartment, or the root is the
-- thread's own stack; range and rights are within the root's. A heap capability lies in the heap, and, where it
-- isn't empty, in a live object.
pub record IsUse (i : Image) (objects : List Object) (t actor : ℕ) (c : Cap) : Type 0 where
  pub owner : is_owned (root i c.shadow.root).origin ≡ true
      → Reaches i.entries (root i c.shadow.root).owner actor
  pub own : stack_cap i c ≡ true → c.shadow.root ≡ stack_entry i t
  pub range : heap_cap i c ≡ false
      → ((root i c.shadow.root).base ≤ cap_base c) × (cap_top c ≤ (root i c.shadow.root).top)
  pub rights : heap_cap i c ≡ false → Within (cap_perms c) (root i c.shadow.root).rights
  pub heap : heap_cap i c ≡ true → (i.heap_base ≤ cap_base c) × (cap_top c ≤ i.heap_end)
  pub heap_rights : heap_cap i c ≡ true → Within (cap_perms c) HEAP_RIGHTS
  pub live : heap_cap i c ≡ true → cap_base c < cap_top c → Any (LiveCovers c) objects

-- the rights that a capability is held to: its root's, and of a heap capability the heap's
abbrev pub root_rights : Image → Cap → ℕ
root_rights i c = if heap_cap i c then HEAP_RIGHTS else (root i c.shadow.root).rights

-- the live object of a heap capability, with so many bytes from an address
pub record SpansLive (c : Cap) (at width : ℕ) (r : Object) : Type 0 where
  pub live : r.live ≡ true
  pub number : r.number ≡ c.shadow.source
  pub quota : r.quota ≡ c.shadow.root
  pub low : r.base ≤ at
  pub high : at + width ≤ r.base + r.length

-- What code of a compartment does through such a capability, by a right, with so many bytes from an address. It is
-- unsealed, has the right, and the bytes lie in its own bounds; so they lie in the range of its root, or in the live
-- object of a heap capability, and the right is among those that it is held to.
pub record IsUseAt (i : Image) (objects : List Object) (t actor : ℕ) (c : Cap)
    (at width needed : ℕ) : Type 0 where
  pub uses : IsUse i objects t actor c
  pub unsealed : cap_seal c ≡ 0
  pub allows : has c needed ≡ true
  pub inside : (cap_base c ≤ at) × (at + width ≤ cap_top c)
  pub right : bit (root_rights i c) needed ≡ true
  pub range : heap_cap i c ≡ false
      → ((root i c.shadow.root).base ≤ at) × (at + width ≤ (root i c.shadow.root).top)
  pub object : heap_cap i c ≡ true → Any (SpansLive c at width) objects

-- Code that runs through a root: of a compartment that reaches the actor; of a library, by an import of its export,
-- that reaches the actor; or a native routine.
abbrev pub RunsFor : Image → ℕ → ℕ → Type 0
RunsFor i n actor =
    (((root i n).origin ≡ Listing Code) × Reaches i.entries (root i n).owner actor)
    ⊎ (((root i n).origin ≡ Listing Library)
    × Reaches i.entries (root i (root i n).of).owner actor)
    ⊎ (is_native (root i n).origin ≡ true)

-- Of the thread that carries on, whose top frame is f. Each tagged register, and its program counter, is authority of
-- a root whose owner reaches the compartment of f, or of its own stack, within the root's range and rights; and the
-- code that runs reaches it. Where the checks of a fetch pass, of a load or store, or of the word of a wait or wake,
-- the bytes lie in the bounds of the capability, and in the range of the root, or in a live object, and its rights
-- and the root's hold what is used, for a capability that is moved too. Through a stack's they end no further than
-- the run of frames of the actor goes.
pub record UsesReach (b : Platform) (s : State) : Type 0 where
  pub registers : (t n : ℕ) (f : Frame) (fs : List Frame) → (ready b s).running ≡ Some t
      → (thread (ready b s) t).frames ≡ f ∷ fs → (register (thread (ready b s) t) n).tag ≡ true
      → IsUse b.image (ready b s).objects t f.actor (register (thread (ready b s) t) n)
  pub counter : (t : ℕ) (f : Frame) (fs : List Frame) → (ready b s).running ≡ Some t
      → (thread (ready b s) t).frames ≡ f ∷ fs → (thread (ready b s) t).pcc.tag ≡ true
      → IsUse b.image (ready b s).objects t f.actor (thread (ready b s) t).pcc
      × IsPcc b.image (thread (ready b s) t).pcc
  pub runs : (t : ℕ) (f : Frame) (fs : List Frame) → (ready b s).running ≡ Some t
      → (thread (ready b s) t).frames ≡ f ∷ fs → (thread (ready b s) t).pcc.tag ≡ true
      → RunsFor b.image (thread (ready b s) t).pcc.shadow.root f.actor
  pub fetch : (t : ℕ) (f : Frame) (fs : List Frame) → (ready b s).running ≡ Some t
      → (thread (ready b s) t).frames ≡ f ∷ fs
      → first_failed (fetch_checks (thread (ready b s) t).pcc) ≡ None
      → IsUseAt b.image (ready b s).objects t f.actor (thread (ready b s) t).pcc
      (cap_address (thread (ready b s) t).pcc) 4 execute
  pub access : (t : ℕ) (k : Instr) (f : Frame) (fs : List Frame) → (ready b s).running ≡ Some t
      → (thread (ready b s) t).frames ≡ f ∷ fs → AccessPasses (ready b s) t k
      → IsUseAt b.image (ready b s).objects t f.actor (authority_of (ready b s) t k)
      (access_start (ready b s) t k) (access_of k).width (used_right (access_of k))
  pub moves : (t : ℕ) (k : Instr) (f : Frame) (fs : List Frame) → (ready b s).running ≡ Some t
      → (thread (ready b s) t).frames ≡ f ∷ fs → AccessPasses (ready b s) t k
      → moves_capability (access_of k) (authority_of (ready b s) t k) (value_of (ready b s) t k)
      (access_start (ready b s) t k) (space_of b (ready b s))
      ≡ true
      → (has (authority_of (ready b s) t k) memory_capability ≡ true)
      × (bit (root_rights b.image (authority_of (ready b s) t k)) memory_capability ≡ true)
  pub run : (t : ℕ) (k : Instr) (f : Frame) (fs : List Frame) → (ready b s).running ≡ Some t
      → (thread (ready b s) t).frames ≡ f ∷ fs → AccessPasses (ready b s) t k
      → stack_cap b.image (authority_of (ready b s) t k) ≡ true
      → WithinRun b.image (f ∷ fs) (access_start (ready b s) t k + (access_of k).width)
  pub word : (t : ℕ) (f : Frame) (fs : List Frame) → (ready b s).running ≡ Some t
      → (thread (ready b s) t).frames ≡ f ∷ fs
      → first_failed (word_checks b.image (ready b s) (register (thread (ready b s) t) 10)) ≡ None
      → IsUseAt b.image (ready b s).objects t f.actor (register (thread (ready b s) t) 10)
      (cap_address (register (thread (ready b s) t) 10)) 4 load_data
  pub word_run : (t : ℕ) (f : Frame) (fs : List Frame) → (ready b s).running ≡ Some t
      → (thread (ready b s) t).frames ≡ f ∷ fs
      → first_failed (word_checks b.image (ready b s) (register (thread (ready b s) t) 10)) ≡ None
      → stack_cap b.image (register (thread (ready b s) t) 10) ≡ true
      → WithinRun b.image (f ∷ fs) (cap_address (register (thread (ready b s) t) 10) + 4)
