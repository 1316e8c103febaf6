-- What the laws of the moves take of newly made capabilities. Each holds under the new one's tag, and each is
-- proved of the capabilities that the written operations make.
use Rattle.std.specs.Prelude.{ℕ, ◌≡◌, ◌+◌, ◌≤◌, ◌⊎◌, true}
use Rattle.def_profile.specs.declared.seals.TheConstants.{TOKEN_TYPE, RETURN_ENABLE}
use Rattle.def_words.specs.declared.Cap.{Cap}
use Rattle.def_words.specs.declared.Posture.{Posture}
use Rattle.def_words.specs.Authority.{cap_address, cap_base, cap_top}
use Rattle.def_words.specs.Seals.{cap_seal}
use Rattle.def_words.specs.Narrows.{Narrows, SameSeal, IsOpened, IsLink}
use Rattle.ct_entry.specs.declared.rows.Owner.TheVariants.{Compartment}
use Rattle.ct_entry.specs.declared.rows.Kind.TheVariants.{Code, Globals, Stack}
use Rattle.def_reach.specs.Roots.{TrustedPart, Listing}
use Rattle.def_machine.specs.Image.{Image, root, stack_entry}
use Rattle.def_machine.specs.State.{Object}
use Rattle.def_confined.specs.Capabilities.{Rooted, heap_cap}

-- unsealed, or sealed by a key or as a token
abbrev pub Loose : ℕ → Type 0
Loose n = (n ≡ 0) ⊎ (TOKEN_TYPE ≤ n)

-- d is a result of an operation on c: within c's authority and rights, and either sealed or opened by a key,
-- or sealed as c is
pub record IsDerived (c d : Cap) : Type 0 where
  pub narrows : Narrows c d
  pub seal : (Loose (cap_seal c) × Loose (cap_seal d)) ⊎ SameSeal c d

abbrev pub Derived : Cap → Cap → Type 0
Derived c d = d.tag ≡ true → IsDerived c d

-- p is c without its seal, as a jump or a return takes it
pub record IsTarget (c p : Cap) : Type 0 where
  pub opened : IsOpened c p
  pub same_address : cap_address p ≡ cap_address c

abbrev pub Opens : Cap → Cap → Type 0
Opens c p = p.tag ≡ true → IsTarget c p

-- l is the link that a jump leaves
abbrev pub Links : Cap → Posture → Cap → Type 0
Links pcc before l = l.tag ≡ true → IsLink pcc before l

-- a compartment's own code or globals
pub record IsOwn (i : Image) (b : ℕ) (c : Cap) : Type 0 where
  pub rooted : Rooted i c
  pub owner : (root i c.shadow.root).owner ≡ Compartment b
  pub kind : ((root i c.shadow.root).origin ≡ Listing Code)
      ⊎ ((root i c.shadow.root).origin ≡ Listing Globals)
  pub unsealed : cap_seal c ≡ 0

-- the switcher's return sentry
pub record IsReturnSentry (i : Image) (c : Cap) : Type 0 where
  pub rooted : Rooted i c
  pub kind : (root i c.shadow.root).origin ≡ TrustedPart
  pub sealed : cap_seal c ≡ RETURN_ENABLE

-- thread t's stack up to an address
pub record IsStackUpTo (i : Image) (t high : ℕ) (c : Cap) : Type 0 where
  pub rooted : Rooted i c
  pub from : c.shadow.root ≡ stack_entry i t
  pub kind : (root i c.shadow.root).origin ≡ Listing Stack
  pub unsealed : cap_seal c ≡ 0
  pub ends : cap_top c ≡ high

-- an object of the heap, whole
pub record IsObjectCap (i : Image) (r : Object) (c : Cap) : Type 0 where
  pub rooted : Rooted i c
  pub from : c.shadow.root ≡ r.quota
  pub source : c.shadow.source ≡ r.number
  pub low : cap_base c ≡ r.base
  pub high : cap_top c ≡ r.base + r.length
  pub heap : heap_cap i c ≡ true
  pub unsealed : cap_seal c ≡ 0
