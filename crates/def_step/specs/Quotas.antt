-- Native routines of the heap: allocate, free, remaining. c10 is the quota.
use Rattle.std.specs.Prelude.{ℕ, ◌+◌, ◌-◌, ◌==◌, ◌&&◌, ◌||◌, Bool, not, nat_lt, filter, find, List, Option, Some, None, if◌then◌else◌}
use Rattle.def_profile.specs.declared.answers.TheConstants.{NO_QUOTA, PAST_LIMIT, NO_PLACE, NO_SIZE, NO_PLACE_YET, NO_OBJECT}
use Rattle.def_profile.specs.declared.seals.TheConstants.{QUOTA_TYPE}
use Rattle.ct_entry.specs.declared.acts.Act.TheVariants.{Allocate, Free}
use Rattle.def_words.specs.declared.Cap.{Cap}
use Rattle.def_words.specs.Authority.{cap_address, cap_base, cap_top}
use Rattle.def_words.specs.Capability.{integer}
use Rattle.def_words.specs.Seals.{cap_seal, is_unsealed}
use Rattle.def_machine.specs.Image.{Image, root}
use Rattle.def_machine.specs.State.{State, Object, Token, thread, register}
use Rattle.def_machine.specs.Objects.{charges, has_quarantined}
use Rattle.def_machine.specs.Heap.{length_for, charge_for, place_of, new_object, object_cap, with_object, freed}
use Rattle.def_step.specs.Switch.{return_checks}
use Rattle.def_step.specs.Routines.{Ran, Leaves, answers, tells, checked, code}

-- a refusal by its code, or the object
pub data Allocation : Type 0 where
  Refused : ℕ → Allocation
  Made : Object → Allocation

abbrev pub at_place : State → ℕ → ℕ → Option ℕ → Allocation
at_place s quota size None = Refused (if has_quarantined s.objects then NO_PLACE_YET else NO_PLACE)
at_place s quota size (Some base) = Made (new_object s quota size base)

-- -4 where the size is 0 or above the heap's length; else -2 where the quota's limit would be passed; else, where
-- there is no place, -5 where a chunk is quarantined and -3 where none is
abbrev pub allocation : Image → State → ℕ → ℕ → Allocation
allocation i s quota size =
    if (size == 0) || nat_lt (i.heap_end - i.heap_base) size then Refused NO_SIZE
    else if nat_lt (root i quota).limit (charges quota s.objects + charge_for size) then Refused PAST_LIMIT
    else at_place s quota size (place_of i s.objects (length_for size))

abbrev pub is_quota_cap : Cap → Bool
is_quota_cap c = c.tag && (cap_seal c == QUOTA_TYPE)

-- -1 where c10 is no quota; else what comes by it
abbrev pub by_quota : State → ℕ → Ran → Ran
by_quota s t ran =
    checked (return_checks (register (thread s t) 1))
    (if is_quota_cap (register (thread s t) 10) then ran else tells s t (code NO_QUOTA))

-- the entry of the quota
abbrev pub quota_in : State → ℕ → ℕ
quota_in s t = (register (thread s t) 10).shadow.root

-- ---- 6, allocate

-- the object stands among the others, and its capability, as it is handed out, is the answer
abbrev pub hands_out : State → ℕ → Object → Cap → Ran
hands_out s t r c = Leaves (answers (with_object s r) t c)
    (Some (r.quota, Allocate r.number r.base r.length (charges r.quota (with_object s r).objects)))

abbrev pub allocated : State → ℕ → Allocation → Ran
allocated s t (Refused n) = tells s t (code n)
allocated s t (Made r) = hands_out s t r (object_cap r)

abbrev pub allocate : Image → State → ℕ → Ran
allocate i s t =
    by_quota s t
    (allocated s t (allocation i s (quota_in s t) (cap_address (register (thread s t) 11))))

-- ---- 7, free

-- a live object of this quota with exactly these bounds
abbrev pub is_whole : ℕ → Cap → Object → Bool
is_whole quota c r =
    r.live && (r.quota == quota) && (r.base == cap_base c) && (r.base + r.length == cap_top c)

abbrev pub whole_of : List Object → ℕ → Cap → Option Object
whole_of objects quota c = if c.tag && is_unsealed c then find (is_whole quota c) objects else None

-- an object that is freed loses its row
abbrev pub without_row : ℕ → List Token → List Token
without_row n tokens = filter (λ (k : Token). not (k.number == n)) tokens

abbrev pub let_go : Image → State → ℕ → Object → State
let_go i s t r = record (freed i s t r) { tokens = without_row r.number s.tokens }

abbrev pub gives_back : Image → State → ℕ → Object → Ran
gives_back i s t r = Leaves (answers (let_go i s t r) t (integer 0))
    (Some (r.quota, Free r.number r.base r.length (charges r.quota (let_go i s t r).objects)))

abbrev pub freed_as : Image → State → ℕ → Option Object → Ran
freed_as i s t None = tells s t (code NO_OBJECT)
freed_as i s t (Some r) = gives_back i s t r

abbrev pub free : Image → State → ℕ → Ran
free i s t =
    by_quota s t (freed_as i s t (whole_of s.objects (quota_in s t) (register (thread s t) 11)))

-- ---- 8, remaining

abbrev pub remaining : Image → State → ℕ → Ran
remaining i s t =
    by_quota s t
    (tells s t (integer ((root i (quota_in s t)).limit - charges (quota_in s t) s.objects)))
