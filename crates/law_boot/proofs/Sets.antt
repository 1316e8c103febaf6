-- The rights of each kind of entry, and what they let a capability do.
use Rattle.std.proofs.Common.{ℕ, ◌≡◌, ◌+◌, ◌⊎◌, inl, inr, Bool, true, false, ◌||◌, List, [], ◌∷◌, refl, sym, ap, ◌∙◌, subst}
use Rattle.law_lists.proofs.Tests.{eq_tells, bool_tells}
use Rattle.ct_entry.specs.declared.rows.Kind.TheVariants as kind
use Rattle.def_profile.specs.declared.rights.TheConstants.{MC, LM, LG, CODE_RIGHTS, GLOBALS_RIGHTS, STACK_RIGHTS, SERVICE_RIGHTS, SEALED_RIGHTS, EXPORT_RIGHTS, QUOTA_RIGHTS, KEY_RIGHTS}
use Rattle.def_words.specs.Derive.{memory_root, executable_root}
use Rattle.def_words.specs.Permissions.{IsLegal, bit, form_of, global, store_data, store_local, load_data, execute, unsealing, sealing, normal_set, set_where}
use Rattle.def_words.specs.Facts.{SpellsPermissions}
use Rattle.law_words.proofs.Rights.{taken}
use Rattle.def_reach.specs.Roots.{Origin, Unknown, Listing, is_root, is_code, is_stack}
use Rattle.def_image.specs.Rights.{is_one_of, device_right_sets, carrying_rights, read_rights, write_rights, both_rights}

pub clash_of : {G : Type 0} (b : Bool) → b ≡ true → b ≡ false → G
clash_of b up down = absurd (let clash : true ≡ false = sym up ∙ down in cc)

pub no_way : {G : Type 0} → false ≡ true → G
no_way e = absurd (let clash : false ≡ true = e in cc)

-- ---- what an entry's rights owe of its kind

abbrev pub is_key : Origin → Bool
is_key (Listing kind.Key) = true
is_key _ = false

pub record RightsFit (o : Origin) (s : ℕ) : Type 0 where
  pub legal : IsLegal s
  pub local : bit s store_local ≡ true → is_stack o ≡ true
  pub held : is_stack o ≡ true → bit s global ≡ false
  pub runs : bit s execute ≡ true → is_root o ≡ true → is_code o ≡ true
  pub keys : (bit s sealing ≡ true) ⊎ (bit s unsealing ≡ true) → o ≡ Listing kind.Key
  pub no_data : o ≡ Listing kind.Key → (bit s load_data ≡ true) ⊎ (bit s store_data ≡ true) → ⊥
  pub stacks : o ≡ Listing kind.Stack → s ≡ STACK_RIGHTS

-- rights that neither run, nor seal, nor store what is local
pub record DataRights (s : ℕ) : Type 0 where
  pub legal : IsLegal s
  pub spelled : SpellsPermissions memory_root s
  pub not_local : bit s store_local ≡ false
  pub not_run : bit s execute ≡ false
  pub not_seal : bit s sealing ≡ false
  pub not_unseal : bit s unsealing ≡ false

pub read_set : DataRights read_rights
unfolding bit
read_set = record { legal = taken.read.0; spelled = taken.read.1; not_local = refl; not_run = refl; not_seal = refl; not_unseal = refl }

pub write_set : DataRights write_rights
unfolding bit
write_set = record { legal = taken.write.0; spelled = taken.write.1; not_local = refl; not_run = refl; not_seal = refl; not_unseal = refl }

pub both_set : DataRights both_rights
unfolding bit
both_set = record { legal = taken.read_write.0; spelled = taken.read_write.1; not_local = refl; not_run = refl; not_seal = refl; not_unseal = refl }

carry_set : DataRights (read_rights + MC + LM + LG)
unfolding bit
carry_set = record { legal = taken.carry.0; spelled = taken.carry.1; not_local = refl; not_run = refl; not_seal = refl; not_unseal = refl }

put_set : DataRights (write_rights + MC)
unfolding bit
put_set = record { legal = taken.put.0; spelled = taken.put.1; not_local = refl; not_run = refl; not_seal = refl; not_unseal = refl }

pub globals_set : DataRights GLOBALS_RIGHTS
unfolding bit
globals_set = record { legal = taken.globals.0; spelled = taken.globals.1; not_local = refl; not_run = refl; not_seal = refl; not_unseal = refl }

pub sealed_set : DataRights SEALED_RIGHTS
unfolding bit
sealed_set = record { legal = taken.sealed.0; spelled = taken.sealed.1; not_local = refl; not_run = refl; not_seal = refl; not_unseal = refl }

pub export_set : DataRights EXPORT_RIGHTS
unfolding bit
export_set = record { legal = taken.export.0; spelled = taken.export.1; not_local = refl; not_run = refl; not_seal = refl; not_unseal = refl }

pub quota_set : DataRights QUOTA_RIGHTS
unfolding bit
quota_set = record { legal = taken.quota.0; spelled = taken.quota.1; not_local = refl; not_run = refl; not_seal = refl; not_unseal = refl }

-- ---- one of several sets

-- what holds of each set of a list holds of one of them
abbrev pub Each : (ℕ → Type 0) → List ℕ → Type 0
Each Q [] = Unit {0}
Each Q (x ∷ xs) = Q x × Each Q xs

pub one_of : (Q : ℕ → Type 0) (s : ℕ) (xs : List ℕ) → is_one_of s xs ≡ true → Each Q xs → Q s
one_of Q s [] is each = no_way is
one_of Q s (x ∷ xs) is each = elim (eq_tells s x) [
  | inl same ↦ subst Q (sym same.1) each.0
  | inr other ↦ one_of Q s xs (let P : Bool → Type 0 = λ b. (b || is_one_of s xs) ≡ true in subst P other.0 is) each.1
]

devices_each : Each DataRights device_right_sets
devices_each = (read_set, (write_set, (both_set, tt)))

carrying_each : Each DataRights carrying_rights
carrying_each = (carry_set, (put_set, (globals_set, tt)))

pub device_set : (s : ℕ) → is_one_of s device_right_sets ≡ true → DataRights s
device_set s is = one_of DataRights s device_right_sets is devices_each

pub shared_set : (s : ℕ) → (is_one_of s device_right_sets || is_one_of s carrying_rights) ≡ true → DataRights s
shared_set s is = elim (bool_tells (is_one_of s device_right_sets)) [
  | inl plain ↦ device_set s plain
  | inr other ↦ one_of DataRights s carrying_rights (let P : Bool → Type 0 = λ b. (b || is_one_of s carrying_rights) ≡ true in subst P other is) carrying_each
]

-- ---- by kind

pub data_fit : (o : Origin) (s : ℕ) → DataRights s → is_stack o ≡ false → is_key o ≡ false → RightsFit o s
data_fit o s d no_stack no_key = record {
  legal = d.legal;
  local = λ local. clash_of (bit s store_local) local d.not_local;
  held = λ stack. clash_of (is_stack o) stack no_stack;
  runs = λ runs root. clash_of (bit s execute) runs d.not_run;
  keys = λ any. elim any [ inl seals ↦ clash_of (bit s sealing) seals d.not_seal | inr unseals ↦ clash_of (bit s unsealing) unseals d.not_unseal ];
  no_data = λ key any. no_way (sym no_key ∙ ap is_key key);
  stacks = λ stack. clash_of (is_stack o) (ap is_stack stack) no_stack;
}

-- rights to run
pub record RunRights (s : ℕ) : Type 0 where
  pub legal : IsLegal s
  pub spelled : SpellsPermissions executable_root s
  pub not_local : bit s store_local ≡ false
  pub not_seal : bit s sealing ≡ false
  pub not_unseal : bit s unsealing ≡ false
  pub run : bit s execute ≡ true

pub code_set : RunRights CODE_RIGHTS
unfolding bit
code_set = record { legal = taken.code.0; spelled = taken.code.1; not_local = refl; not_seal = refl; not_unseal = refl; run = refl }

pub service_set : RunRights SERVICE_RIGHTS
unfolding bit
service_set = record { legal = taken.service.0; spelled = taken.service.1; not_local = refl; not_seal = refl; not_unseal = refl; run = refl }

pub run_fit : (o : Origin) (s : ℕ) → RunRights s → is_stack o ≡ false → is_key o ≡ false → (is_root o ≡ true → is_code o ≡ true) → RightsFit o s
run_fit o s d no_stack no_key code = record {
  legal = d.legal;
  local = λ local. clash_of (bit s store_local) local d.not_local;
  held = λ stack. clash_of (is_stack o) stack no_stack;
  runs = λ runs root. code root;
  keys = λ any. elim any [ inl seals ↦ clash_of (bit s sealing) seals d.not_seal | inr unseals ↦ clash_of (bit s unsealing) unseals d.not_unseal ];
  no_data = λ key any. no_way (sym no_key ∙ ap is_key key);
  stacks = λ stack. clash_of (is_stack o) (ap is_stack stack) no_stack;
}

pub stack_fit : RightsFit (Listing kind.Stack) STACK_RIGHTS
unfolding bit
stack_fit = record {
  legal = taken.stack.0;
  local = λ local. refl;
  held = λ stack. refl;
  runs = λ runs root. no_way runs;
  keys = λ any. elim any [ inl seals ↦ no_way seals | inr unseals ↦ no_way unseals ];
  no_data = λ key any. no_way (ap is_key key);
  stacks = λ stack. refl;
}

pub key_fit : RightsFit (Listing kind.Key) KEY_RIGHTS
unfolding bit
key_fit = record {
  legal = taken.key.0;
  local = λ local. no_way local;
  held = λ stack. no_way stack;
  runs = λ runs root. no_way runs;
  keys = λ any. refl;
  no_data = λ key any. elim any [ inl loads ↦ no_way loads | inr stores ↦ no_way stores ];
  stacks = λ stack. no_way (ap is_stack stack);
}

none_legal : IsLegal 0
unfolding normal_set set_where form_of bit
none_legal = refl

-- of a number that stands for nothing
pub none_fit : RightsFit Unknown 0
unfolding bit
none_fit = record {
  legal = none_legal;
  local = λ local. no_way local;
  held = λ stack. no_way stack;
  runs = λ runs root. no_way runs;
  keys = λ any. elim any [ inl seals ↦ no_way seals | inr unseals ↦ no_way unseals ];
  no_data = λ key any. elim any [ inl loads ↦ no_way loads | inr stores ↦ no_way stores ];
  stacks = λ stack. no_way (ap is_stack stack);
}
