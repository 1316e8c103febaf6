-- What the laws of the moves ask of an image: how its regions, the ranges and rights of its entries, and the
-- capabilities that boot makes stand to one another. All x are addresses.
use Rattle.std.specs.Prelude.{ℕ, ◌≡◌, ◌%◌, ◌^◌, ◌≤◌, ◌<◌, ◌⊎◌, true, false}
use Rattle.def_profile.specs.declared.seals.TheConstants.{SENTRY_INHERIT, SENTRY_DISABLE, SENTRY_ENABLE, RETURN_DISABLE, RETURN_ENABLE, FIRST_KEY_TYPE}
use Rattle.def_words.specs.declared.Cap.{Cap}
use Rattle.def_words.specs.Authority.{cap_base}
use Rattle.def_words.specs.Permissions.{bit, has, store_data, load_data, memory_capability, execute, unsealing, sealing}
use Rattle.def_words.specs.Seals.{cap_seal}
use Rattle.ct_entry.specs.declared.rows.Owner.TheVariants.{Compartment}
use Rattle.ct_entry.specs.declared.rows.Owner.TheVariants as owner
use Rattle.ct_entry.specs.declared.rows.Kind.{Kind}
use Rattle.ct_entry.specs.declared.rows.Kind.TheVariants as kind
use Rattle.def_reach.specs.Roots.{Listing, is_owned, is_root, is_code, gate_for}
use Rattle.def_reach.specs.Sharing.{SharesC, Reaches}
use Rattle.def_machine.specs.Image.{Image, Region, Fixed, Globals, Shared, HeapRam, Stack, Bare, root, made_cap, region, booted, granule_of, address_of, stack_entry, stack_base, stack_top, code_entry, globals_entry}
use Rattle.def_profile.specs.declared.limits.TheConstants.{RAM_END}
use Rattle.def_profile.specs.declared.rights.TheConstants.{STACK_RIGHTS}
use Rattle.def_confined.specs.Capabilities.{Rooted, heap_cap, stack_cap}

-- entry n is a compartment's globals, or its import with letter C of a shared object, or a thread's stack
abbrev pub IsGlobalsOf : Image → ℕ → ℕ → Type 0
IsGlobalsOf i n o = ((root i n).origin ≡ Listing kind.Globals) × ((root i n).owner ≡ Compartment o)

abbrev pub IsShareOf : Image → ℕ → ℕ → Type 0
IsShareOf i n object =
    ((root i n).origin ≡ Listing kind.Shared)
    × ((a : ℕ) × ((root i n).owner ≡ Compartment a) × SharesC i.entries object a)

abbrev pub IsStackOfThread : Image → ℕ → ℕ → Type 0
IsStackOfThread i n t = ((root i n).origin ≡ Listing kind.Stack) × (n ≡ stack_entry i t)

-- What an entry reaches through which bytes may be stored: each region has entries of its own, and what boot made and
-- the heap have none. What is bare is stored into through imports of sealed objects and of devices alone.
abbrev pub StoresInto : Image → ℕ → Region → Type 0
StoresInto i n Fixed = ⊥
StoresInto i n (Globals o) = IsGlobalsOf i n o
StoresInto i n (Shared object) =
    ((root i n).origin ≡ Listing kind.Shared) × ((root i n).of ≡ object)
StoresInto i n HeapRam = ⊥
StoresInto i n (Stack t) = IsStackOfThread i n t
StoresInto i n Bare =
    ((root i n).origin ≡ Listing kind.Sealed) ⊎ ((root i n).origin ≡ Listing kind.Device)

-- what an entry reaches through which capabilities may be stored
abbrev pub Carries : Image → ℕ → Region → Type 0
Carries i n Fixed = ⊥
Carries i n (Globals o) = IsGlobalsOf i n o
Carries i n (Shared object) = IsShareOf i n object
Carries i n HeapRam = ⊥
Carries i n (Stack t) = IsStackOfThread i n t
Carries i n Bare = ⊥

abbrev pub AwayFromHeap : Image → ℕ → Type 0
AwayFromHeap i x = (x < i.heap_base) ⊎ (i.heap_end ≤ x)

-- a capability that boot put where a capability of entry n may load it
pub record BootHeld (i : Image) (n : ℕ) (c : Cap) : Type 0 where
  pub no_stack : stack_cap i c ≡ false
  pub no_heap : heap_cap i c ≡ false
  pub owner : is_owned (root i c.shadow.root).origin ≡ true → (d : ℕ)
      → Reaches i.entries (root i n).owner d → Reaches i.entries (root i c.shadow.root).owner d
  pub no_source : cap_seal c ≡ RETURN_DISABLE → ⊥

-- what an entry reaches through which capabilities may be loaded
abbrev pub Loads : Image → ℕ → Cap → Region → Type 0
Loads i n c Fixed = (is_owned (root i n).origin ≡ true) × (c.tag ≡ true → BootHeld i n c)
Loads i n c (Globals o) = IsGlobalsOf i n o
Loads i n c (Shared object) = IsShareOf i n object
Loads i n c HeapRam = ⊥
Loads i n c (Stack t) = IsStackOfThread i n t
Loads i n c Bare = Unit {0}

-- a capability that boot made carries its entry's number and no source
pub record BootMade (i : Image) (n : ℕ) (c : Cap) : Type 0 where
  pub from : c.shadow.root ≡ n
  pub source : c.shadow.source ≡ 0
  pub rooted : Rooted i c

-- what boot made of a compartment's code or globals is unsealed
pub record IsOwnEntry (i : Image) (b n : ℕ) (k : Kind) : Type 0 where
  pub kind_is : (root i n).origin ≡ Listing k
  pub owner_is : (root i n).owner ≡ Compartment b
  pub unsealed : cap_seal (made_cap i n) ≡ 0

pub record Partitioned (i : Image) : Type 0 where
  pub stores : (n x : ℕ) → i.ram ≤ x → bit (root i n).rights store_data ≡ true → (root i n).base ≤ x
      → x < (root i n).top → StoresInto i n (region i (granule_of i x))
  pub carries : (n x : ℕ) → bit (root i n).rights store_data ≡ true
      → bit (root i n).rights memory_capability ≡ true → (root i n).base ≤ x → x < (root i n).top
      → (i.ram ≤ x) × Carries i n (region i (granule_of i x))
  pub loads : (n x : ℕ) → i.ram ≤ x → bit (root i n).rights load_data ≡ true
      → bit (root i n).rights memory_capability ≡ true → (root i n).base ≤ x → x < (root i n).top
      → Loads i n (booted i (granule_of i x)).cap (region i (granule_of i x))
  pub heap : (x : ℕ) → i.heap_base ≤ x → x < i.heap_end
      → (i.ram ≤ x) × (region i (granule_of i x) ≡ HeapRam)
  pub even : (i.ram % 8 ≡ 0) × (i.heap_base % 8 ≡ 0) × (i.heap_end % 8 ≡ 0)
  pub stack_home : (k t : ℕ) → region i k ≡ Stack t → stack_base i t ≤ address_of i k
  pub stack_span : (k t : ℕ) → (root i (stack_entry i t)).origin ≡ Listing kind.Stack
      → stack_base i t ≤ address_of i k → address_of i k < stack_top i t → region i k ≡ Stack t
  pub stacks_differ : (t u : ℕ) → (root i (stack_entry i t)).origin ≡ Listing kind.Stack
      → stack_entry i t ≡ stack_entry i u → t ≡ u
  pub libraries : (n : ℕ) → (root i n).origin ≡ Listing kind.Library
      → (l : ℕ) × ((root i (root i n).of).owner ≡ owner.Library l)
  pub quotas : (n : ℕ) → (root i n).origin ≡ Listing kind.Quota
      → (a : ℕ) × ((root i n).owner ≡ Compartment a)
  pub calls : (n : ℕ) → (root i n).origin ≡ Listing kind.Call
      → (a : ℕ) × ((root i n).owner ≡ Compartment a)
  pub keys : (n : ℕ) → is_root (root i n).origin ≡ true
      → (bit (root i n).rights sealing ≡ true) ⊎ (bit (root i n).rights unsealing ≡ true)
      → FIRST_KEY_TYPE ≤ (root i n).base
  pub executes : (n : ℕ) → is_root (root i n).origin ≡ true → bit (root i n).rights execute ≡ true
      → is_code (root i n).origin ≡ true
  pub runs_away : (n x : ℕ) → bit (root i n).rights execute ≡ true → (root i n).base ≤ x
      → x < (root i n).top → AwayFromHeap i x
  pub forwards : (n : ℕ)
      → (cap_seal (made_cap i n) ≡ SENTRY_INHERIT)
      ⊎ (cap_seal (made_cap i n) ≡ SENTRY_DISABLE)
      ⊎ (cap_seal (made_cap i n) ≡ SENTRY_ENABLE)
      → ((root i n).origin ≡ Listing kind.Library) ⊎ ((root i n).origin ≡ Listing kind.Service)
  pub disables : (n : ℕ) → cap_seal (made_cap i n) ≡ SENTRY_DISABLE
      → ((root i (root i n).of).disabled ≡ true)
      × ((d : ℕ) → Reaches i.entries (root i n).owner d
      → Reaches i.entries (root i (root i n).of).owner d)
  pub made : (n : ℕ) → is_root (root i n).origin ≡ true → (made_cap i n).tag ≡ true
      → BootMade i n (made_cap i n)
  pub own_code : (b n : ℕ) → (root i n).owner ≡ Compartment b
      → IsOwnEntry i b (code_entry i b) kind.Code
      × (has (made_cap i (code_entry i b)) execute ≡ true)
  pub own_globals : (b n : ℕ) → (root i n).owner ≡ Compartment b
      → IsOwnEntry i b (globals_entry i b) kind.Globals
  pub stacks_are : (n : ℕ) → (root i n).origin ≡ Listing kind.Stack
      → ((root i n).rights ≡ STACK_RIGHTS) × ((root i n).top ≤ RAM_END)
  pub heap_small : i.heap_end ≤ 2 ^ 32
  pub gates_small : (n : ℕ) → (gate_for i.entries.gates n).code < 2 ^ 32
  pub sentry : (made_cap i 0).tag ≡ true → cap_seal (made_cap i 0) ≡ RETURN_ENABLE
  pub boot_rooted : (k : ℕ) → region i k ≡ Fixed → (booted i k).cap.tag ≡ true
      → Rooted i (booted i k).cap
  pub boot_away : (k : ℕ) → region i k ≡ Fixed → (booted i k).cap.tag ≡ true
      → AwayFromHeap i (cap_base (booted i k).cap)
  pub boot_no_heap : (k : ℕ) → region i k ≡ Fixed → (booted i k).cap.tag ≡ true
      → heap_cap i (booted i k).cap ≡ false
