-- What holds of an image's entries and of the capabilities that boot makes for them. All x are addresses.
use Rattle.std.specs.Prelude.{ℕ, ◌≡◌, ◌+◌, ◌%◌, ◌≤◌, ◌<◌, ◌⊎◌, true, false}
use Rattle.ct_entry.specs.declared.rows.Owner.TheVariants.{Compartment, Library}
use Rattle.ct_entry.specs.declared.rows.Kind.TheVariants as kind
use Rattle.def_profile.specs.declared.layout.TheConstants.{REGION_UNIT}
use Rattle.def_profile.specs.declared.limits.TheConstants.{MOST_STACK_REGION}
use Rattle.def_profile.specs.declared.native.TheConstants.{NATIVE_BASE, NATIVE_END}
use Rattle.def_profile.specs.declared.seals.TheConstants.{EXPORT_TYPE, QUOTA_TYPE}
use Rattle.def_words.specs.Capability.{IsSettled, with_address}
use Rattle.def_words.specs.LeastBounds.{rounded_of}
use Rattle.def_words.specs.Permissions.{bit, load_data, store_data, execute}
use Rattle.def_words.specs.Seals.{cap_seal}
use Rattle.def_reach.specs.Roots.{Root, Listing, is_root, is_native, gate_for}
use Rattle.def_machine.specs.Image.{Image, root, made_cap, code_entry, handler_entry}

-- ---- what is named

-- number m is an export of a compartment
pub record IsCompartmentExport (i : Image) (m : ℕ) : Type 0 where
  pub kind_is : (root i m).origin ≡ Listing kind.Export
  pub owner_is : (a : ℕ) × ((root i m).owner ≡ Compartment a)

-- number m is an export of a library, with the range of entry n
pub record IsLibraryExport (i : Image) (n m : ℕ) : Type 0 where
  pub kind_is : (root i m).origin ≡ Listing kind.Export
  pub owner_is : (l : ℕ) × ((root i m).owner ≡ Library l)
  pub base_is : (root i n).base ≡ (root i m).base
  pub top_is : (root i n).top ≡ (root i m).top

-- ---- where gates lie

abbrev pub gate_code : Image → ℕ → ℕ
gate_code i n = (gate_for i.entries.gates n).code

abbrev pub LiesInRoot : Root → ℕ → Type 0
LiesInRoot r x = (r.base ≤ x) × (x < r.top)

-- ---- where stacks lie

-- its bounds are ones that a word can spell, it begins at a whole unit, and it isn't longer than a stack may be: so what
-- a call leaves of it to a callee has bounds that a word can spell too
pub record StackFits (r : Root) : Type 0 where
  pub order : r.base ≤ r.top
  pub exact : (rounded_of r.base r.top).exact ≡ true
  pub even : r.base % REGION_UNIT ≡ 0
  pub short : r.top ≤ r.base + MOST_STACK_REGION

-- a word of its owner's code: a library's export has the range of that code itself, and a compartment's code is tagged at
-- that word
pub record GateFits (i : Image) (n : ℕ) : Type 0 where
  pub even : gate_code i n % 4 ≡ 0
  pub compartment : (b : ℕ) → (root i n).owner ≡ Compartment b
      → LiesInRoot (root i (code_entry i b)) (gate_code i n)
  pub begins : (b : ℕ) → (root i n).owner ≡ Compartment b
      → (with_address (made_cap i (code_entry i b)) (gate_code i n)).tag ≡ true
  pub library : (l : ℕ) → (root i n).owner ≡ Library l → LiesInRoot (root i n) (gate_code i n)

-- ---- error handlers

-- the error handler of compartment b is an export of its own
pub record HandlerFits (i : Image) (b : ℕ) : Type 0 where
  pub kind_is : (root i (handler_entry i b)).origin ≡ Listing kind.Export
  pub owner_is : (root i (handler_entry i b)).owner ≡ Compartment b

-- ---- what boot makes

-- entry n has a capability of its own: a library's code has none, since it runs by its importers' sentries
pub record HasCapability (i : Image) (n : ℕ) : Type 0 where
  pub rooted : is_root (root i n).origin ≡ true
  pub owned : (root i n).origin ≡ Listing kind.Code → (b : ℕ) × ((root i n).owner ≡ Compartment b)

-- what may load, store or run through an entry
abbrev pub GrantsAccess : Root → Type 0
GrantsAccess r =
    (bit r.rights load_data ≡ true) ⊎ (bit r.rights store_data ≡ true)
    ⊎ (bit r.rights execute ≡ true)

-- no root's range meets the heap
abbrev pub RootsAway : Image → Type 0
RootsAway i =
    (n : ℕ) → is_root (root i n).origin ≡ true
    → ((root i n).top ≤ i.heap_base) ⊎ (i.heap_end ≤ (root i n).base)

-- what boot makes for no entry, or for one that has no capability, has no root and no source
abbrev pub MadeSettled : Image → Type 0
MadeSettled i = (n : ℕ) → IsSettled (made_cap i n)

-- ---- all of them, each with who needs it

pub record Facts (i : Image) : Type 0 where
  -- calls: the callee's code, globals and stack capabilities, which the switcher hands out, are tagged
  pub made : (n : ℕ) → HasCapability i n → (made_cap i n).tag ≡ true
  -- allocations and frees: what a native routine takes for a quota is one
  pub quotas : (n : ℕ) → cap_seal (made_cap i n) ≡ QUOTA_TYPE
      → (root i n).origin ≡ Listing kind.Quota
  -- calls: what the switcher takes for a sealed export is a call's import
  pub calls : (n : ℕ) → cap_seal (made_cap i n) ≡ EXPORT_TYPE
      → (root i n).origin ≡ Listing kind.Call
  -- calls: the callee is a compartment
  pub called : (n : ℕ) → (root i n).origin ≡ Listing kind.Call → IsCompartmentExport i (root i n).of
  -- jumps: what is entered through a library's sentry is that library's code
  pub imported : (n : ℕ) → (root i n).origin ≡ Listing kind.Library
      → IsLibraryExport i n (root i n).of
  -- calls: the callee begins at a word of its own code
  pub gates : (n : ℕ) → (root i n).origin ≡ Listing kind.Export → GateFits i n
  -- calls: a callee's stack ends at a multiple of 16, and has bounds that a word can spell
  pub stacks : (n : ℕ) → (root i n).origin ≡ Listing kind.Stack → StackFits (root i n)
  -- traps: the record of a trap lies in RAM
  pub stacks_low : (n : ℕ) → (root i n).origin ≡ Listing kind.Stack → (root i n).top ≤ i.heap_end
  -- fetches: a native routine runs through a capability of its own alone
  pub natives : (n x : ℕ) → is_native (root i n).origin ≡ false → GrantsAccess (root i n)
      → LiesInRoot (root i n) x → (x < NATIVE_BASE) ⊎ (NATIVE_END ≤ x)
  -- loads, stores and fetches: what lies in the heap is reached through heap capabilities alone
  pub heap : (n x : ℕ) → GrantsAccess (root i n) → LiesInRoot (root i n) x
      → (x < i.heap_base) ⊎ (i.heap_end ≤ x)
  -- allocations: a new object is covered by no capability
  pub away : RootsAway i
  -- traps: an error handler begins at a word of its compartment's own code
  pub handlers : (b : ℕ) → (handler_entry i b ≡ 0 → ⊥) → HandlerFits i b
  -- calls: what the switcher hands out is settled
  pub settled : MadeSettled i
