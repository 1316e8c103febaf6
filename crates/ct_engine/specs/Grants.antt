-- What an allocation, with a row or without one, and a free leave of an engine.
use Rattle.std.specs.Prelude.{ℕ, ◌+◌, ◌-◌, ◌≡◌, Bool, true, if◌then◌else◌, List, Option, Some, None, Result, Ok, Err, IfOk}
use Rattle.def_profile.specs.declared.answers.TheConstants.{PAST_LIMIT, NO_PLACE, NO_SIZE, NO_PLACE_YET}
use Rattle.def_profile.specs.declared.layout.TheConstants.{CHUNK_HEAD}
use Rattle.def_memory.specs.Ranges.{zeroed_from, marked_from}
use Rattle.def_machine.specs.Image.{Image}
use Rattle.def_machine.specs.State as state
use Rattle.def_machine.specs.State.{State, Token}
use Rattle.def_machine.specs.Objects.{charges, quarantine, has_quarantined}
use Rattle.def_machine.specs.Heap.{new_object, with_object}
use Rattle.def_step.specs.Quotas.{Allocation, Refused, Made, allocation, without_row}
use Rattle.ct_heap.specs.declared.rows.Object.{Object}
use Rattle.ct_heap.specs.declared.rows.HeapRefusal.{HeapRefusal}
use Rattle.ct_heap.specs.declared.rows.HeapRefusal.TheVariants.{Size, Quota, NoGap}
use Rattle.ct_heap.specs.Lookups.{whole_of}
use Rattle.ct_engine.specs.Seen.{EngineRow, after_filter}
use Rattle.ct_engine.specs.Written.{HasQuota, SharesObjects}

-- an object as the heap tells it, after the call
pub record IsTold (s : EngineRow) (o : Object) (r : state.Object) : Type 0 where
  pub number : o.number ≡ r.number
  pub base : o.base ≡ r.base
  pub length : o.length ≡ r.length
  pub live : o.live ≡ charges r.quota s.state.objects

-- ---- allocate

-- The object stands among the others, and these are the rows of keys and tokens then. It reads as zero, as what is
-- hidden does: memory stays as it is seen.
abbrev pub after_allocation : State → List Token → ℕ → ℕ → Result Object HeapRefusal → State
after_allocation s rows quota size (Ok o) =
    with_object (record s { tokens = rows }) (new_object s quota size o.base)
after_allocation s rows quota size (Err why) = s

-- A refusal's code: -4 where the size is 0 or above the heap's length; else -2 where the quota's limit would be passed;
-- else, where there is no place, -5 where something is quarantined, as `waits` tells, and -3 where nothing is.
abbrev pub refusal_code : HeapRefusal → Bool → ℕ
refusal_code Size waits = NO_SIZE
refusal_code Quota waits = PAST_LIMIT
refusal_code NoGap waits = if waits then NO_PLACE_YET else NO_PLACE

-- what an allocation came to, as the written one says it
abbrev pub allocation_told : State → ℕ → ℕ → Result Object HeapRefusal → Allocation
allocation_told s quota size (Ok o) = Made (new_object s quota size o.base)
allocation_told s quota size (Err why) = Refused (refusal_code why (has_quarantined s.objects))

-- An allocation, after which these are the rows of keys and tokens, comes to what the written one does, of each image
-- with this heap and this quota, in each state of the machine with these objects. A refusal changes nothing.
pub record AllocatesAsWritten (s new : EngineRow) (quota size : ℕ) (rows : List Token)
    (result : Result Object HeapRefusal) : Type 0 where
  pub is : new ≡ record s { state = after_allocation s.state rows quota size result }
  pub answer : (i : Image) (m : State) → HasQuota i s quota → SharesObjects m s
      → allocation i m quota size ≡ allocation_told s.state quota size result
  pub told : IfOk result (λ o. IsTold new o (new_object s.state quota size o.base))

-- ---- free

-- there was a live object of this quota with exactly these bounds, which was freed, and it is told so
pub record WasWhole (s new : EngineRow) (quota base top : ℕ) (o : Object) : Type 0 where
  pub object : state.Object
  pub is : whole_of quota base top s.state.objects ≡ Some object
  pub told : IsTold new o object

-- the object is zeroed, its chunk marked, and it is quarantined; its row goes, where it has one
abbrev pub let_go : EngineRow → state.Object → EngineRow
let_go s r = record s {
  state = record s.state {
    granules = marked_from (r.base - CHUNK_HEAD) (r.base + r.length) true s.region.ram
        (zeroed_from r.base (r.base + r.length) s.region.ram s.state.granules);
    objects = quarantine r.number s.state.objects;
    tokens = without_row r.number s.state.tokens;
  };
}

-- and the running thread's registers pass the load filter
abbrev pub freed : EngineRow → ℕ → state.Object → EngineRow
freed s t r = after_filter (let_go s r) t

abbrev pub freed_by : EngineRow → ℕ → Option state.Object → EngineRow
freed_by s t None = s
freed_by s t (Some r) = freed s t r
