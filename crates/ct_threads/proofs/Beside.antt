-- What is kept of a row where its area stays, and where its stack is zeroed.
use Rattle.std.proofs.Common.{ℕ, ◌≡◌, ◌+◌, ◌-◌, ◌*◌, ◌/◌, ◌%◌, ◌<◌, ◌≤◌, inl, inr, Bool, List, length, refl, arith}
use Rattle.def_profile.specs.Areas.{area_length}
use Rattle.def_memory.specs.declared.Granule.{Granule}
use Rattle.def_memory.specs.Granules.{cap_in, plain}
use Rattle.def_memory.specs.Ranges.{zeroed_from}
use Rattle.law_granules.proofs.Lists.{zeroed_length, zeroed_at}
use Rattle.ct_areas.specs.declared.thread.Area.{Area}
use Rattle.ct_areas.specs.declared.thread.Thread as row
use Rattle.ct_areas.specs.Threads.{HasArea, area_begin, area_end, frames_most}
use Rattle.ct_areas.specs.Parts.{register_in}
use Rattle.ct_switch.specs.Ready.{IsReady}
use Rattle.ct_threads.specs.Kept.{IsKept}

-- ---- granules as addresses

within_numbers : (ram trusted len most m : ℕ) → ram % 16 ≡ 0 → trusted % 16 ≡ 0 → ram ≤ trusted → len ≡ area_length most
    → (trusted - ram) / 8 ≤ m → m < (trusted + len - ram) / 8 → (trusted ≤ ram + 8 * m) × (ram + 8 * m < trusted + len)
within_numbers ram trusted len most m r t low is from to = (omega (arith, r, t, low, from), omega (arith, r, t, low, is, to))

-- a granule of an area lies in it
pub within : (size : ℕ) (a : Area) (m : ℕ) → HasArea size a → area_begin a ≤ m → m < area_end a
    → (a.trusted ≤ a.ram + 8 * m) × (a.ram + 8 * m < a.trusted + a.trusted_length)
within size a m has from to = within_numbers a.ram a.trusted a.trusted_length (frames_most a) m has.ram has.even has.low has.whole from to

-- ---- the area stays

pub kept_same : (gs hs : List Granule) (runs : Bool) (t : row.Thread) → length hs ≡ length gs
    → ((m : ℕ) → area_begin t.area ≤ m → m < area_end t.area → cap_in hs m ≡ cap_in gs m) → IsKept gs runs t → IsKept hs runs t
kept_same gs hs runs t size same k = record {
  area = rw size k.area;
  room = k.room;
  zero = k.zero;
  alive = k.alive;
  clean = λ m lo hi. elim (k.clean m lo hi) [ inl s ↦ inl s | inr p ↦ inr (rw (same m lo hi) p) ];
}

-- it goes by the area, the number of frames and register 0
pub kept_as : (gs : List Granule) (runs : Bool) (t q : row.Thread) → IsKept gs runs t → q.area ≡ t.area → q.depth ≡ t.depth → register_in q 0 ≡ plain 0 → IsKept gs runs q
kept_as gs runs t q k place deep zero_ = record {
  area = rw place k.area;
  room = rw (place, deep) k.room;
  zero = zero_;
  alive = λ e. rw deep (k.alive e);
  clean = λ m lo hi. rw (place, deep) (k.clean m (rw place at lo) (rw place at hi));
}

-- zeroing the stack up to an address leaves the area
pub beside_stack : (gs : List Granule) (t : row.Thread) (high m : ℕ) → IsReady gs t → high ≤ t.area.stack + t.area.stack_length → (ms : List Granule)
    → area_begin t.area ≤ m → m < area_end t.area → cap_in (zeroed_from t.area.stack high t.area.ram ms) m ≡ cap_in ms m
beside_stack gs t high m ready le ms lo hi =
    let w = within (8 * length gs) t.area m ready.area lo hi in
    let from = w.0 in
    let to = w.1 in
    zeroed_at t.area.stack high t.area.ram ms m (λ (g : Granule). g.cap ≡ cap_in ms m)
    (λ a b. absurd (elim ready.stack.apart [ inl x ↦ omega (arith, x, le, from, b) | inr x ↦ omega (arith, x, to, a) ]))
    (λ out. refl)

pub kept_beside : (gs ms : List Granule) (t u : row.Thread) (high : ℕ) (runs : Bool) → IsReady gs t → high ≤ t.area.stack + t.area.stack_length
    → u.area ≡ t.area → IsKept ms runs u → IsKept (zeroed_from t.area.stack high t.area.ram ms) runs u
kept_beside gs ms t u high runs ready le place k =
    kept_same ms (zeroed_from t.area.stack high t.area.ram ms) runs u (zeroed_length t.area.stack high t.area.ram ms)
    (λ m lo hi. beside_stack gs t high m ready le ms (rw place at lo) (rw place at hi)) k
