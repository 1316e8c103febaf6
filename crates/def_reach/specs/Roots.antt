-- What the root number of a capability stands for: an entry of the report, or the trusted part.
use Rattle.std.specs.Prelude.{ℕ, zero, suc, ◌+◌, ◌==◌, Bool, true, false, List, [], ◌∷◌, Option, Some, None, slice_get, if◌then◌else◌}
use Rattle.def_profile.specs.declared.native.TheConstants.{NATIVE_LENGTH, RETURN_ENTRY}
use Rattle.def_profile.specs.declared.rights.TheConstants.{SERVICE_RIGHTS}
use Rattle.ct_entry.specs.declared.rows.Owner.{Owner}
use Rattle.ct_entry.specs.declared.rows.Owner.TheVariants.{Trusted, Compartment, Library, Thread}
use Rattle.ct_entry.specs.declared.rows.Kind.{Kind}
use Rattle.ct_entry.specs.declared.rows.Kind.TheVariants.{Code, Stack, Library, Service, Quota, Export}
use Rattle.ct_entry.specs.declared.rows.Mode.{Mode}
use Rattle.ct_entry.specs.declared.rows.Mode.TheVariants.{Inherit, Disabled, Enabled}
use Rattle.ct_entry.specs.declared.rows.Entry.{Entry}
use Rattle.ct_entry.specs.declared.rows.Gate.{Gate}
use Rattle.ct_entry.specs.Listed.{Listed}

-- a number is none of the report's, is the trusted part's, or names an entry of this kind
pub data Origin : Type 0 where
  Unknown : Origin
  TrustedPart : Origin
  Listing : Kind → Origin

-- an entry with what its gate adds: whether a call of the export passes capabilities, and whether it
-- runs with interrupts disabled
pub record Root : Type 0 where
  pub origin : Origin
  pub owner : Owner
  pub base : ℕ
  pub top : ℕ
  pub rights : ℕ
  pub of : ℕ
  pub limit : ℕ
  pub passes : Bool
  pub disabled : Bool

-- no entry has this number
abbrev pub no_root : Root
no_root = record {
  origin = Unknown;
  owner = Trusted;
  base = 0;
  top = 0;
  rights = 0;
  of = 0;
  limit = 0;
  passes = false;
  disabled = false;
}

-- The trusted part has number 0. The one capability of it that running code holds is the return sentry,
-- so it has the range of the return's native entry, and the rights of one.
abbrev pub trusted_root : Root
trusted_root = record {
  origin = TrustedPart;
  owner = Trusted;
  base = RETURN_ENTRY;
  top = RETURN_ENTRY + NATIVE_LENGTH;
  rights = SERVICE_RIGHTS;
  of = 0;
  limit = 0;
  passes = false;
  disabled = false;
}

abbrev pub no_gate : Gate
no_gate = record {
  entry = 0;
  code = 0;
  stack = 0;
  args = 0;
  posture = Inherit;
  capabilities = false;
}

-- the gate of the export with this entry number
unfoldable pub gate_for : List Gate → ℕ → Gate
gate_for [] n = no_gate
gate_for (g ∷ gs) n = if g.entry == n then g else gate_for gs n

abbrev pub turns_interrupts_off : Mode → Bool
turns_interrupts_off Inherit = false
turns_interrupts_off Disabled = true
turns_interrupts_off Enabled = false

abbrev pub listed_root : Option Entry → Gate → Root
listed_root None g = no_root
listed_root (Some r) g = record {
  origin = Listing r.kind;
  owner = r.owner;
  base = r.base;
  top = r.base + r.length;
  rights = r.rights;
  of = r.of;
  limit = r.limit;
  passes = g.capabilities;
  disabled = turns_interrupts_off g.posture;
}

-- what a number stands for: entries are numbered from 1
unfoldable pub root_of : Listed → ℕ → Root
root_of e zero = trusted_root
root_of e (suc n) = listed_root (slice_get e.rows n) (gate_for e.gates (suc n))

-- the index of an owner, among those of its sort
abbrev pub compartment_of : Owner → ℕ
compartment_of Trusted = 0
compartment_of (Compartment b) = b
compartment_of (Library l) = l
compartment_of (Thread t) = t

-- ---- tests of the kind

abbrev pub is_quota : Origin → Bool
is_quota (Listing Quota) = true
is_quota _ = false

abbrev pub is_stack : Origin → Bool
is_stack (Listing Stack) = true
is_stack _ = false

-- a native routine's own: a service of a slot, or the return
abbrev pub is_native : Origin → Bool
is_native TrustedPart = true
is_native (Listing Service) = true
is_native _ = false

-- one of whose owner a place's domain must be reached: neither the trusted part nor a thread's stack
abbrev pub is_owned : Origin → Bool
is_owned Unknown = false
is_owned TrustedPart = false
is_owned (Listing Stack) = false
is_owned (Listing _) = true

-- one from which capabilities are derived: the trusted part, a compartment's code or globals, a slot, a stack
abbrev pub is_root : Origin → Bool
is_root Unknown = false
is_root (Listing Export) = false
is_root TrustedPart = true
is_root (Listing _) = true

-- one that code may be fetched through
abbrev pub is_code : Origin → Bool
is_code TrustedPart = true
is_code (Listing Code) = true
is_code (Listing Library) = true
is_code (Listing Service) = true
is_code _ = false
