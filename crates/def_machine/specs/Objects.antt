-- Objects of the heap as rows: what is live, what is quarantined, what a quota is charged with.
use Rattle.std.specs.Prelude.{ℕ, ◌+◌, ◌≤◌, ◌<◌, ◌⊎◌, ◌&&◌, ◌||◌, Bool, true, false, not, List, [], ◌∷◌, cond, map, nat_eq, nat_le, nat_lt}
use Rattle.def_profile.specs.declared.layout.TheConstants.{CHUNK_HEAD}
use Rattle.def_machine.specs.State.{Object}

-- a live object of so many bytes, with its number, its quota and where it begins
abbrev pub live_object : ℕ → ℕ → ℕ → ℕ → Object
live_object number quota base length = record {
  number = number;
  quota = quota;
  base = base;
  length = length;
  charge = length + CHUNK_HEAD;
  live = true;
  painted = false;
}

-- one of the elements
abbrev pub Any : {A : Type 0} → (A → Type 0) → List A → Type 0
Any P [] = ⊥
Any P (x ∷ xs) = P x ⊎ Any P xs

-- each of the elements
abbrev pub Each : {A : Type 0} → (A → Type 0) → List A → Type 0
Each P [] = Unit {0}
Each P (x ∷ xs) = P x × Each P xs

-- a granule of an object's chunk: the header's granule, or one of the object
abbrev pub InChunk : Object → ℕ → Type 0
InChunk r x = (r.base ≤ x + CHUNK_HEAD) × (x < r.base + r.length)

-- chunks that don't meet
abbrev pub ApartFrom : Object → Object → Type 0
ApartFrom r q =
    (r.base + r.length + CHUNK_HEAD ≤ q.base) ⊎ (q.base + q.length + CHUNK_HEAD ≤ r.base)

-- the live charges on a quota
abbrev pub charges : ℕ → List Object → ℕ
charges quota [] = 0
charges quota (r ∷ rs) = cond (r.live && nat_eq r.quota quota) r.charge 0 + charges quota rs

-- the object of this number is quarantined
abbrev pub quarantine : ℕ → List Object → List Object
quarantine n [] = []
quarantine n (r ∷ rs) = cond (nat_eq r.number n) (record r { live = false }) r ∷ quarantine n rs

-- an object among those that stand by their bases
abbrev pub placed_among : Object → List Object → List Object
placed_among r [] = r ∷ []
placed_among r (q ∷ qs) = cond (nat_lt r.base q.base) (r ∷ q ∷ qs) (q ∷ placed_among r qs)

-- one is quarantined
abbrev pub has_quarantined : List Object → Bool
has_quarantined [] = false
has_quarantined (r ∷ rs) = not r.live || has_quarantined rs

-- the quarantined are painted
abbrev pub painted : List Object → List Object
painted rs = map (λ (r : Object). record r { painted = not r.live }) rs

-- the painted leave
abbrev pub unpainted : List Object → List Object
unpainted [] = []
unpainted (r ∷ rs) = cond r.painted (unpainted rs) (r ∷ unpainted rs)

-- an address of a painted chunk
abbrev pub is_painted_at : List Object → ℕ → Bool
is_painted_at [] x = false
is_painted_at (r ∷ rs) x =
    (r.painted && nat_le r.base (x + 8) && nat_lt x (r.base + r.length)) || is_painted_at rs x
