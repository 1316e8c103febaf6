-- A walk along the list of free chunks.
use Rattle.std.proofs.Common.{ℕ, ◌≡◌, ◌+◌, ◌-◌, ◌*◌, ◌/◌, ◌%◌, ◌^◌, ◌<◌, ◌≤◌, ◌⊎◌, inl, inr, Bool, true, false, List, [], ◌∷◌, ◌++◌, length, refl, sym, ap, ◌∙◌, arith, subst}
use Rattle.std.proofs.lemmas.List.{append_assoc}
use Rattle.law_lists.proofs.Tests.{bool_tells}
use Rattle.def_memory.specs.declared.Granule.{Granule}
use Rattle.def_chunks.specs.declared.heads.TheConstants.{NO_CHUNK}
use Rattle.def_chunks.specs.declared.rows.Range.{Range}
use Rattle.def_chunks.specs.declared.rows.Gap.{Gap}
use Rattle.def_chunks.specs.declared.rows.Head.{Head}
use Rattle.def_chunks.specs.Chunks.{Chunk, is_free, total_size, first_free, head_of, head_at, head_in}
use Rattle.def_chunks.specs.Tiles.{chunks, Tiled}
use Rattle.def_chunks.specs.Gaps.{HasRoomAt, NoFree, LastFree, ChunkStands, FreeLinked, IsGap, NoGap}
use Rattle.law_chunks.proofs.Lays.{total_both}
use Rattle.law_chunks.proofs.Reading.{sits, head_tells}
use Rattle.law_chunks.proofs.Places.{room_low, room_split}
use Rattle.ct_chunks.specs.Multiples.{up}
use Rattle.ct_chunks.proofs.Multiples.{up_least, up_above, up_even}

-- ---- the last free chunk

no_free_more : (xs : List Chunk) (c : Chunk) → NoFree xs → is_free c ≡ false → NoFree (xs ++ c ∷ [])
no_free_more [] c h used = (used, tt)
no_free_more (x ∷ xs) c h used = (h.0, no_free_more xs c h.1 used)

-- a used chunk more
pub last_used : (xs : List Chunk) (c : Chunk) (before size : ℕ) → LastFree xs before size → is_free c ≡ false → LastFree (xs ++ c ∷ []) before size
last_used xs c before size h used = elim h [
  | inl n ↦ inl (n.0, no_free_more xs c n.1 used)
  | inr l ↦ inr (record {
    above = l.above;
    chunk = l.chunk;
    used = l.used ++ c ∷ [];
    whole = ap (λ k. k ++ c ∷ []) l.whole ∙ append_assoc l.above (l.chunk ∷ l.used) (c ∷ []);
    is = l.is;
    others = no_free_more l.used c l.others used;
    link = l.link;
    size_is = l.size_is;
  })
]

-- a free chunk more
pub last_free : (xs : List Chunk) (c : Chunk) (before size : ℕ) → is_free c ≡ true → before ≡ total_size xs → size ≡ c.size → LastFree (xs ++ c ∷ []) before size
last_free xs c before size is link size_is = inr (record { above = xs; chunk = c; used = []; whole = refl; is = is; others = tt; link = link; size_is = size_is })

-- ---- places among those that were passed

pub none_more : (base length at : ℕ) (xs : List Chunk) (c : Chunk) → (HasRoomAt base length at xs → ⊥) → ((is_free c ≡ true) → at + total_size xs + 8 ≤ base → base + length ≤ at + total_size xs + c.size → ⊥) → HasRoomAt base length at (xs ++ c ∷ []) → ⊥
none_more base length at xs c none here h = elim (room_split base length at xs (c ∷ []) h) [
  | inl k ↦ none k
  | inr k ↦ elim k [ inl m ↦ here m.0 m.1 m.2 | inr m ↦ absurd m ]
]

none_free : (base length at : ℕ) (cs : List Chunk) → NoFree cs → HasRoomAt base length at cs → ⊥
none_free base length at [] none h = absurd h
none_free base length at (c ∷ cs) none (inl h) = let free_ = h.0 in let used = none.0 in let clash : true ≡ false = sym free_ ∙ used in cc
none_free base length at (c ∷ cs) none (inr h) = none_free base length (at + c.size) cs none.1 h

-- a free chunk's place is no `none`
free_end : (base at : ℕ) (cs : List Chunk) → base ≤ at → (at - base ≤ first_free base at cs NO_CHUNK) ⊎ (first_free base at cs NO_CHUNK ≡ NO_CHUNK)
free_end base at [] above = inr refl
free_end base at (c ∷ cs) above = elim (bool_tells (is_free c)) [
  | inl e ↦ inl (rw e (omega arith))
  | inr e ↦ rw e (elim (free_end base (at + c.size) cs (omega (arith, above))) [ inl a ↦ inl (omega (arith, a)) | inr b ↦ inr b ])
]

free_bound : (base at : ℕ) (cs : List Chunk) → base ≤ at → at - base + total_size cs < NO_CHUNK → first_free base at cs NO_CHUNK ≤ NO_CHUNK
free_bound base at [] above h = omega arith
free_bound base at (c ∷ cs) above h = elim (bool_tells (is_free c)) [ inl e ↦ rw e (omega (arith, h)) | inr e ↦ rw e (free_bound base (at + c.size) cs (omega (arith, above)) (omega (arith, h, above))) ]

all_used : (base at : ℕ) (cs : List Chunk) → base ≤ at → at - base + total_size cs < NO_CHUNK → first_free base at cs NO_CHUNK ≡ NO_CHUNK → NoFree cs
all_used base at [] above h is = tt
all_used base at (c ∷ cs) above h is = elim (bool_tells (is_free c)) [
  | inl e ↦ absurd (let here : at - base ≡ NO_CHUNK = rw e at is in omega (arith, here, h))
  | inr e ↦ (e, all_used base (at + c.size) cs (omega (arith, above)) (omega (arith, h, above)) (rw e at is))
]

-- ---- the walk

-- what a walk keeps: the chunks behind it, of which none has room, and where the next free one is
pub record Walk (r : Range) (gs : List Granule) (unit length before size link : ℕ) : Type 0 where
  pub above : List Chunk
  pub rest : List Chunk
  pub whole : chunks r gs ≡ above ++ rest
  pub last : LastFree above before size
  pub none : (b : ℕ) → b % unit ≡ 0 → HasRoomAt b length r.base above → ⊥
  pub here : link ≡ first_free r.base (r.base + total_size above) rest NO_CHUNK

-- the free chunk that it comes to
pub record Comes (r : Range) (gs : List Granule) (unit length before size link : ℕ) : Type 0 where
  pub stands : ChunkStands r gs (r.base + link)
  pub is : is_free stands.chunk ≡ true
  pub last : LastFree stands.above before size
  pub none : (b : ℕ) → b % unit ≡ 0 → HasRoomAt b length r.base stands.above → ⊥

pub starts : (r : Range) (gs : List Granule) (unit length : ℕ) → Tiled r gs → Walk r gs unit length NO_CHUNK 0 r.first
starts r gs unit length h = record {
  above = [];
  rest = chunks r gs;
  whole = refl;
  last = inl (refl, tt);
  none = λ b even held. absurd held;
  here = let same : r.base + 0 ≡ r.base = omega arith in rw same h.first;
}

skip : (r : Range) (gs : List Granule) (unit length before size link : ℕ) (above rest : List Chunk) → chunks r gs ≡ above ++ rest → LastFree above before size → ((b : ℕ) → b % unit ≡ 0 → HasRoomAt b length r.base above → ⊥) → link ≡ first_free r.base (r.base + total_size above) rest NO_CHUNK → (link ≡ NO_CHUNK → ⊥) → Comes r gs unit length before size link
skip r gs unit length before size link above [] whole last none here some = absurd (some here)
skip r gs unit length before size link above (c ∷ cs) whole last none here some = elim (bool_tells (is_free c)) [
  | inl free_ ↦
      let link_is : link ≡ r.base + total_size above - r.base = rw free_ at here in
      record {
        stands = record { above = above; chunk = c; below = cs; whole = whole; place = omega (arith, link_is) };
        is = free_;
        last = last;
        none = none;
      }
  | inr used ↦
      let more : total_size (above ++ c ∷ []) ≡ total_size above + c.size = total_both above (c ∷ []) ∙ omega arith in
      let there : r.base + total_size above + c.size ≡ r.base + total_size (above ++ c ∷ []) = omega (arith, more) in
      skip r gs unit length before size link (above ++ c ∷ []) cs
      (whole ∙ sym (append_assoc above (c ∷ []) cs))
      (last_used above c before size last used)
      (λ b even held. none_more b length r.base above c (none b even) (λ free_ low high. (let clash : true ≡ false = sym free_ ∙ used in cc)) held)
      (rw there at rw used at here)
      some
]

pub comes : (r : Range) (gs : List Granule) (unit length before size link : ℕ) → Walk r gs unit length before size link → (link ≡ NO_CHUNK → ⊥) → Comes r gs unit length before size link
comes r gs unit length before size link w some = skip r gs unit length before size link w.above w.rest w.whole w.last w.none w.here some

-- what the code has to know of it
pub record Known (r : Range) (granules link : ℕ) : Type 0 where
  pub fits : link + 8 ≤ r.length
  pub ends : r.base + r.length ≤ 2 ^ 32
  pub above : r.ram ≤ r.base
  pub even : (r.base + link - r.ram) % 8 ≡ 0
  pub inside : r.base + link - r.ram + 8 ≤ 8 * granules

pub known : (r : Range) (gs : List Granule) (unit extent before size link : ℕ) → Tiled r gs → Comes r gs unit extent before size link → Known r (length gs) link
known r gs unit extent before size link h w =
    let k = sits r gs (r.base + link) h w.stands in
    let place = w.stands.place in
    let sum = k.sum in
    let some = k.shape.some in
    let above = h.above in
    let inside = k.inside in
    record { fits = omega (arith, place, sum, some); ends = h.small; above = above; even = k.even; inside = omega (arith, inside, some, above) }

-- what its head says
pub record Says (r : Range) (gs : List Granule) (unit length before size link : ℕ) (head : Head) : Type 0 where
  pub linked : FreeLinked r gs (r.base + link) head.size head.rest before size
  pub some : 8 ≤ head.size
  pub fits : link + head.size ≤ r.length
  pub further : (link < head.rest) × (head.rest ≤ NO_CHUNK)
  pub none : (b : ℕ) → b % unit ≡ 0 → HasRoomAt b length r.base linked.free_stands.stands.above → ⊥

pub says : (r : Range) (gs : List Granule) (unit length before size link : ℕ) (head : Head) → Tiled r gs → Comes r gs unit length before size link → head ≡ head_in (head_at gs r.ram (r.base + link)) → Says r gs unit length before size link head
says r gs unit length before size link head h w head_is =
    let s = w.stands in
    let k = sits r gs (r.base + link) h s in
    let c : Chunk = s.chunk in
    let next : ℕ = first_free r.base (r.base + link + c.size) s.below NO_CHUNK in
    let told = head_tells c next k.shape k.small in
    let of_head : head ≡ head_in (head_of c next) = head_is ∙ ap head_in k.head in
    let size_is : head.size ≡ c.size = ap (λ (x : Head). x.size) of_head ∙ told.size in
    let rest_is : head.rest ≡ next = ap (λ (x : Head). x.rest) of_head ∙ told.rest ∙ (let free_ = w.is in rw free_ refl) in
    let place = s.place in
    let sum = k.sum in
    let some = k.shape.some in
    let short = h.short in
    let whole = h.even.2 in
    let end = free_end r.base (r.base + link + c.size) s.below (omega arith) in
    record {
      linked = record {
        free_stands = record { stands = s; is = w.is; size_is = sym size_is; link = rest_is ∙ ap (λ n. first_free r.base (r.base + link + n) s.below NO_CHUNK) (sym size_is) };
        last = w.last;
      };
      some = omega (arith, size_is, some);
      fits = omega (arith, size_is, place, sum);
      further = elim end [
        | inl a ↦ (omega (arith, a, rest_is, some), (let bound = free_bound r.base (r.base + link + c.size) s.below (omega arith) (omega (arith, place, sum, short, whole)) in omega (arith, rest_is, bound)))
        | inr b ↦ (omega (arith, b, rest_is, place, sum, some, short, whole), omega (arith, b, rest_is))
      ];
      none = w.none;
    }

-- ---- one step

-- with room
pub found : (r : Range) (gs : List Granule) (unit length before size link : ℕ) (head : Head) (g : Gap) → 0 < unit → Says r gs unit length before size link head → up unit (r.base + link + 8) + length ≤ r.base + link + head.size
    → g ≡ record { at = r.base + link; size = head.size; base = up unit (r.base + link + 8); before = before; before_size = size; next = head.rest } → IsGap r gs unit length g
found r gs unit length before size link head g some w room is = subst (IsGap r gs unit length) (sym is) gap
  where
    least : (s : ChunkStands r gs (r.base + link)) → s.chunk.size ≡ head.size → ((b : ℕ) → b % unit ≡ 0 → HasRoomAt b length r.base s.above → ⊥) → (b : ℕ) → b < up unit (r.base + link + 8) → b % unit ≡ 0 → HasRoomAt b length r.base (chunks r gs) → ⊥
    least s size_is none b lt even held =
        let place = s.place in
        elim (room_split b length r.base s.above (s.chunk ∷ s.below) (subst (HasRoomAt b length r.base) s.whole held)) [
          | inl k ↦ none b even k
          | inr k ↦ elim k [
            | inl m ↦ (let low = m.1 in let up_ = up_least unit (r.base + link + 8) b some even (omega (arith, low, place)) in omega (arith, up_, lt))
            | inr m ↦ (let low = room_low b length (r.base + total_size s.above + s.chunk.size) s.below m in omega (arith, low, place, size_is, lt, room))
          ]
        ]

    gap : IsGap r gs unit length (record { at = r.base + link; size = head.size; base = up unit (r.base + link + 8); before = before; before_size = size; next = head.rest })
    gap = record {
      linked = w.linked;
      aligned = up_even unit (r.base + link + 8) some;
      low = up_above unit (r.base + link + 8) some;
      high = room;
      least = least w.linked.free_stands.stands w.linked.free_stands.size_is w.none;
    }

-- without
pub goes_on : (r : Range) (gs : List Granule) (unit length before size link : ℕ) (head : Head) → 0 < unit → Says r gs unit length before size link head → r.base + link + head.size < up unit (r.base + link + 8) + length → Walk r gs unit length link head.size head.rest
goes_on r gs unit length before size link head some w full =
    let f = w.linked.free_stands in
    let s = f.stands in
    let place = s.place in
    let size_is = f.size_is in
    let more : total_size (s.above ++ s.chunk ∷ []) ≡ total_size s.above + s.chunk.size = total_both s.above (s.chunk ∷ []) ∙ omega arith in
    let there : r.base + link + head.size ≡ r.base + total_size (s.above ++ s.chunk ∷ []) = omega (arith, more, place, size_is) in
    record {
      above = s.above ++ s.chunk ∷ [];
      rest = s.below;
      whole = s.whole ∙ sym (append_assoc s.above (s.chunk ∷ []) s.below);
      last = last_free s.above s.chunk link head.size f.is (omega (arith, place)) (sym size_is);
      none = λ b even held. none_more b length r.base s.above s.chunk (w.none b even)
          (λ free_ low high. (let up_ = up_least unit (r.base + link + 8) b some even (omega (arith, low, place)) in omega (arith, up_, high, full, place, size_is))) held;
      here = f.link ∙ ap (λ n. first_free r.base n s.below NO_CHUNK) there;
    }

-- at the end of the list
pub ended : (r : Range) (gs : List Granule) (unit length before size link : ℕ) → Tiled r gs → Walk r gs unit length before size link → link ≡ NO_CHUNK → NoGap r gs unit length
ended r gs unit length before size link h w is b even held =
    let both = total_both w.above w.rest in
    let sum = sym (ap total_size w.whole) ∙ h.size in
    let short = h.short in
    let whole = h.even.2 in
    let used = all_used r.base (r.base + total_size w.above) w.rest (omega arith) (omega (arith, both, sum, short, whole)) (sym w.here ∙ is) in
    elim (room_split b length r.base w.above w.rest (subst (HasRoomAt b length r.base) w.whole held)) [
      | inl k ↦ w.none b even k
      | inr k ↦ none_free b length (r.base + total_size w.above) w.rest used k
    ]
