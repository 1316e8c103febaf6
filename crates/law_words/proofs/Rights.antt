-- The roots, and the rights of each kind of entry: they are legal, and the root that they are taken from spells them.
use Rattle.std.proofs.Common.{ℕ, ◌≡◌, ◌+◌, refl, false}
use Rattle.def_profile.specs.declared.rights.TheConstants.{CODE_RIGHTS, GLOBALS_RIGHTS, HEAP_RIGHTS, STACK_RIGHTS, SERVICE_RIGHTS, SEALED_RIGHTS, EXPORT_RIGHTS, QUOTA_RIGHTS, KEY_RIGHTS, GL, LD, LG, LM, MC, SD}
use Rattle.def_words.specs.Derive.{memory_root, executable_root, sealing_root}
use Rattle.def_words.specs.Permissions.{IsLegal, bit, form_of, global, normal_set, set_where, store_local, unpacked}
use Rattle.def_words.specs.Facts.{IsRoot, SpellsPermissions}

pub memory_is_root : IsRoot memory_root
unfolding memory_root
memory_is_root = record { low = refl; unsealed = refl }

pub executable_is_root : IsRoot executable_root
unfolding executable_root
executable_is_root = record { low = refl; unsealed = refl }

pub sealing_is_root : IsRoot sealing_root
unfolding sealing_root
sealing_is_root = record { low = refl; unsealed = refl }

-- legal, and spelled by the root
abbrev pub Taken : ℕ → ℕ → Type 0
Taken root set = IsLegal set × SpellsPermissions root set

-- the rights of each kind of entry, and those that a row of a device or a shared object may have
pub record KindsTaken : Type 0 where
  pub code : Taken executable_root CODE_RIGHTS
  pub service : Taken executable_root SERVICE_RIGHTS
  pub globals : Taken memory_root GLOBALS_RIGHTS
  pub heap : Taken memory_root HEAP_RIGHTS
  pub stack : Taken memory_root STACK_RIGHTS
  pub sealed : Taken memory_root SEALED_RIGHTS
  pub export : Taken memory_root EXPORT_RIGHTS
  pub quota : Taken memory_root QUOTA_RIGHTS
  pub key : Taken sealing_root KEY_RIGHTS
  pub read : Taken memory_root (GL + LD)
  pub write : Taken memory_root (GL + SD)
  pub read_write : Taken memory_root (GL + LD + SD)
  pub carry : Taken memory_root (GL + LD + MC + LM + LG)
  pub put : Taken memory_root (GL + SD + MC)

pub taken : KindsTaken
unfolding executable_root memory_root sealing_root unpacked normal_set set_where form_of bit
taken = record {
  code = (refl, refl);
  service = (refl, refl);
  globals = (refl, refl);
  heap = (refl, refl);
  stack = (refl, refl);
  sealed = (refl, refl);
  export = (refl, refl);
  quota = (refl, refl);
  key = (refl, refl);
  read = (refl, refl);
  write = (refl, refl);
  read_write = (refl, refl);
  carry = (refl, refl);
  put = (refl, refl);
}

-- ---- what only a stack may be

pub stack_not_global : bit STACK_RIGHTS global ≡ false
unfolding bit
stack_not_global = refl

pub heap_not_local : bit HEAP_RIGHTS store_local ≡ false
unfolding bit
heap_not_local = refl
