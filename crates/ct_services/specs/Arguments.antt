-- What a routine of the heap is asked, over what is seen.
use Rattle.std.specs.Prelude.{ℕ, ◌≡◌, ◌<◌, true, length, Some, None}
use Rattle.std.specs.List.{list_any}
use Rattle.def_machine.specs.State.{Object, register}
use Rattle.def_step.specs.Checks.{first_failed}
use Rattle.def_step.specs.Quotas.{is_quota_cap}
use Rattle.def_step.specs.Switch.{return_checks}
use Rattle.def_step.specs.Tokens.{is_key_row, as_key, sealed_object}
use Rattle.ct_engine.specs.Seen.{EngineRow, thread}

-- where c10 is a quota's capability, it names one of the heap's quotas
abbrev pub NamesQuota : EngineRow → ℕ → Type 0
NamesQuota s t =
    is_quota_cap (register (thread s t) 10) ≡ true
    → (register (thread s t) 10).shadow.root < length s.limits

-- c1 leads back, and c10 is a capability of this quota; nothing changes
pub record NamesThisQuota (s new : EngineRow) (t quota : ℕ) : Type 0 where
  pub returns : first_failed (return_checks (register (thread s t) 1)) ≡ None
  pub is : is_quota_cap (register (thread s t) 10) ≡ true
  pub entry : quota ≡ (register (thread s t) 10).shadow.root
  pub same : new ≡ s

-- register n is of this live key; nothing changes
pub record NamesThisKey (s new : EngineRow) (t n key : ℕ) : Type 0 where
  pub object : Object
  pub is : as_key s.state.tokens (sealed_object s.state.objects (register (thread s t) n))
      ≡ Some object
  pub number : key ≡ object.number
  pub row : list_any (is_key_row key) s.state.tokens ≡ true
  pub same : new ≡ s
