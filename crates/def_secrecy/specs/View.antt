-- What a thread may see of a state: which bytes of RAM, and which devices.
use Rattle.std.specs.Prelude.{ℕ, ◌≡◌, ◌+◌, ◌≤◌, ◌<◌, ◌⊎◌, true, false, List, Some}
use Rattle.ct_entry.specs.declared.rows.Kind.TheVariants as kind
use Rattle.def_words.specs.Permissions.{bit, load_data, execute}
use Rattle.def_reach.specs.Roots.{Listing, is_owned, is_stack}
use Rattle.def_reach.specs.Sharing.{Reaches}
use Rattle.def_machine.specs.Image.{Image, Fixed, root, region, granule_of, stack_base}
use Rattle.def_machine.specs.Objects.{Any}
use Rattle.def_machine.specs.Platform.{Platform}
use Rattle.def_machine.specs.State.{State, Frame, Object, thread}
use Rattle.def_confined.specs.Places.{WithinRun}
use Rattle.def_hidden.specs.Hidden.{is_hidden}
use Rattle.def_step.specs.Devices.{found}
use Rattle.def_step.specs.Instructions.{actor_of}

-- Address x is compartment d's to read through entry n: globals, code of the compartment or of a library, imports of
-- shared and sealed objects and of devices.
pub record ReadsThrough (i : Image) (d n x : ℕ) : Type 0 where
  -- a stack is seen by its own thread alone, as far as `Sees` says
  pub no_stack : is_stack (root i n).origin ≡ false
  -- the entry's owner reaches the compartment; the entries of native routines, which nobody owns, are everybody's
  pub reached : is_owned (root i n).origin ≡ true → Reaches i.entries (root i n).owner d
  -- what is fetched is read too
  pub may : (bit (root i n).rights load_data ≡ true) ⊎ (bit (root i n).rights execute ≡ true)
  pub low : (root i n).base ≤ x
  pub high : x < (root i n).top

-- address x is compartment d's to read in object r, which is live, and whose quota's owner reaches the compartment
pub record ReadsObject (i : Image) (d x : ℕ) (r : Object) : Type 0 where
  pub live : r.live ≡ true
  pub reached : is_owned (root i r.quota).origin ≡ true
      → Reaches i.entries (root i r.quota).owner d
  pub low : r.base ≤ x
  pub high : x < r.base + r.length

-- An address that thread t with these frames may see: through an entry, in an object, or in its own stack, as far as
-- the run of its innermost frame goes. Its actor is the compartment of the innermost frame.
abbrev pub Sees : Image → List Object → ℕ → List Frame → ℕ → Type 0
Sees i objects t fs x =
    ((n : ℕ) × ReadsThrough i (actor_of fs) n x)
    ⊎ Any (ReadsObject i (actor_of fs) x) objects
    ⊎ ((stack_base i t ≤ x) × WithinRun i fs (x + 1))

abbrev pub InView : Image → State → ℕ → ℕ → Type 0
InView i s t x = Sees i s.objects t (thread s t).frames x

-- device m is one that a thread with these frames may load from
pub record SeesDevice (b : Platform) (fs : List Frame) (m : ℕ) : Type 0 where
  pub entry : ℕ
  pub address : ℕ
  pub reads : ReadsThrough b.image (actor_of fs) entry address
  pub is_device : (root b.image entry).origin ≡ Listing kind.Device
  pub here : found b.bases address ≡ Some m

-- So many bytes from address x on that thread t doesn't see, and that may be anything.
pub record UnseenBytes (i : Image) (s : State) (t x width : ℕ) : Type 0 where
  pub inside : i.ram ≤ x
  pub some : 0 < width
  -- they don't stay as boot made them, as code and export tables do
  pub changing : region i (granule_of i x) ≡ Fixed → ⊥
  -- they aren't kept zero, as the threads' areas and the heap outside of live objects are
  pub free : is_hidden i s.objects (granule_of i x) ≡ false
  pub unseen : (y : ℕ) → x ≤ y → y < x + width → InView i s t y → ⊥
