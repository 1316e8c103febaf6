-- A slice of a sweep takes the same tags of what two states that agree have in common.
use Rattle.std.proofs.Common.{ℕ, suc, ◌≡◌, ◌+◌, ◌-◌, ◌*◌, ◌/◌, ◌%◌, ◌&&◌, inl, inr, nat_le, nat_lt, min, List, [], ◌∷◌, length, Option, Some, None, refl, sym, ap, ◌∙◌, subst}
use Rattle.std.proofs.Math.ListN.{get_or}
use Rattle.law_lists.proofs.Tests.{chosen}
use Rattle.def_words.specs.declared.Cap.{Cap}
use Rattle.def_memory.specs.declared.Granule.{Granule}
use Rattle.def_memory.specs.Accesses.{byte_of}
use Rattle.def_memory.specs.Granules.{granule_at}
use Rattle.def_machine.specs.Heap.{area_offset, ended_sweep, ram_size, slice_end, sliced, sweep_began, sweep_on, sweep_over, swept, with_slice}
use Rattle.def_machine.specs.Image.{Image}
use Rattle.def_machine.specs.Memory.{filtered_in}
use Rattle.def_machine.specs.Objects.{Any, has_quarantined, painted, unpainted}
use Rattle.def_machine.specs.Platform.{Platform}
use Rattle.def_machine.specs.Slices.{kept_threads, marks_cleared}
use Rattle.def_machine.specs.State.{State, Status, Object, nobody, thread, granule}
use Rattle.def_step.specs.Events.{holder, holder_by, swept_on}
use Rattle.def_step.specs.Instructions.{actor_of}
use Rattle.def_secrecy.specs.View.{ReadsObject, Sees, InView}
use Rattle.def_secrecy.specs.Agreeing.{SameMemory, AgreeingThread, shapes, Agree}
use Rattle.law_moves.proofs.Ends.{unmarked_cap}
use Rattle.law_secrecy.proofs.Frames.{less_seen}
use Rattle.law_secrecy.proofs.Puts.{held_by}
use Rattle.law_secrecy.proofs.Shapes.{device_shaped, sees_shaped}
use Rattle.law_secrecy.proofs.Slices.{between_word, kept_memory, kept_of, kept_shapes, kept_statuses, statuses_length, threads_two}
use Rattle.law_secrecy.proofs.Turns.{counted_agree}
use Rattle.law_secrecy.proofs.Two.{two_choices}
use Rattle.law_secrecy.proofs.Views.{filter_same}

-- ---- rows

painted_reads : (i : Image) (d x : ℕ) (rs : List Object) → Any (ReadsObject i d x) (painted rs) → Any (ReadsObject i d x) rs
painted_reads i d x [] h = h
painted_reads i d x (r ∷ rs) (inl here) = inl (record { live = here.live; reached = here.reached; low = here.low; high = here.high })
painted_reads i d x (r ∷ rs) (inr later) = inr (painted_reads i d x rs later)

unpainted_reads : (i : Image) (d x : ℕ) (rs : List Object) → Any (ReadsObject i d x) (unpainted rs) → Any (ReadsObject i d x) rs
unpainted_reads i d x [] h = h
unpainted_reads i d x (r ∷ rs) h = chosen (λ (qs : List Object). Any (ReadsObject i d x) qs → Any (ReadsObject i d x) (r ∷ rs)) r.painted (unpainted rs) (r ∷ unpainted rs)
    (λ is k. inr (unpainted_reads i d x rs k))
    (λ not k. elim k [ inl here ↦ inl here | inr later ↦ inr (unpainted_reads i d x rs later) ])
    h

-- ---- marks that are cleared

cleared_length : (os : List Object) (x : ℕ) (gs : List Granule) → length (marks_cleared os x gs) ≡ length gs
cleared_length os x [] = refl
cleared_length os x (g ∷ gs) = ap (λ n. suc n) (cleared_length os (x + 8) gs)

cleared_memory : (i : Image) (sees : ℕ → Type 0) (os qs : List Object) (gs hs : List Granule) → SameMemory i sees gs hs → SameMemory i sees (marks_cleared os i.ram gs) (marks_cleared qs i.ram hs)
cleared_memory i sees os qs gs hs same = record {
  size = cleared_length os i.ram gs ∙ same.size ∙ sym (cleared_length qs i.ram hs);
  bytes = λ x above seen. ap (λ (c : Cap). byte_of c.word ((x - i.ram) % 8)) (unmarked_cap os i.ram gs ((x - i.ram) / 8)) ∙ same.bytes x above seen ∙ sym (ap (λ (c : Cap). byte_of c.word ((x - i.ram) % 8)) (unmarked_cap qs i.ram hs ((x - i.ram) / 8)));
  whole = λ k seen. unmarked_cap os i.ram gs k ∙ same.whole k seen ∙ sym (unmarked_cap qs i.ram hs k);
}

-- ---- of two states

module _ (b : Platform) (t : ℕ) (s z : State) (agree : Agree b t s z) where
  -- a sweep begins
  painted_agree : Agree b t (record s { objects = painted s.objects; front = Some 0 }) (record z { objects = painted z.objects; front = Some 0 })
  painted_agree =
      let p = agree.public in
      record {
        public = record { running = p.running; holder = p.holder; pending = p.pending; time = p.time; statuses = p.statuses; picks = p.picks; objects = ap painted p.objects; next = p.next; tokens = p.tokens; front = refl };
        self = agree.self;
        memory = less_seen b.image (InView b.image s t) (Sees b.image (painted s.objects) t (thread s t).frames) s.granules z.granules less agree.memory;
        devices = agree.devices;
        banks = agree.banks;
      }
    where
      less : (x : ℕ) → Sees b.image (painted s.objects) t (thread s t).frames x → InView b.image s t x
      less x (inl entry) = inl entry
      less x (inr (inl object)) = inr (inl (painted_reads b.image (actor_of (thread s t).frames) x s.objects object))
      less x (inr (inr own)) = inr (inr own)

  began_two : (o p : Option ℕ) → o ≡ p → Agree b t (sweep_began s o) (sweep_began z p)
  began_two (Some m) (Some n) e = agree
  began_two None None e = two_choices (Agree b t) (has_quarantined s.objects) (has_quarantined z.objects) _ _ _ _ (ap has_quarantined agree.public.objects) (λ is. painted_agree) (λ not. agree)
  began_two None (Some n) e = absurd (let clash : None ≡ Some n = e in cc)
  began_two (Some m) None e = absurd (let clash : Some m ≡ None = e in cc)

  -- it ends
  over_agree : Agree b t (sweep_over b.image s) (sweep_over b.image z)
  over_agree =
      let p = agree.public in
      record {
        public = record { running = p.running; holder = p.holder; pending = p.pending; time = p.time; statuses = p.statuses; picks = p.picks; objects = ap unpainted p.objects; next = p.next; tokens = p.tokens; front = refl };
        self = agree.self;
        memory = less_seen b.image (InView b.image s t) (Sees b.image (unpainted s.objects) t (thread s t).frames) _ _ less (cleared_memory b.image (InView b.image s t) s.objects z.objects s.granules z.granules agree.memory);
        devices = agree.devices;
        banks = agree.banks;
      }
    where
      less : (x : ℕ) → Sees b.image (unpainted s.objects) t (thread s t).frames x → InView b.image s t x
      less x (inl entry) = inl entry
      less x (inr (inl object)) = inr (inl (unpainted_reads b.image (actor_of (thread s t).frames) x s.objects object))
      less x (inr (inr own)) = inr (inr own)

  ended_two : (high : ℕ) → Agree b t (ended_sweep b.image s high) (ended_sweep b.image z high)
  ended_two high = two_choices (Agree b t) (nat_le (ram_size s) high) (nat_le (ram_size z) high) _ _ _ _ (ap (λ n. nat_le (8 * n) high) agree.memory.size) (λ is. over_agree) (λ not. agree)

-- ---- a slice

-- what holds interrupts off still does
sliced_holder : (i : Image) (s : State) (low high : ℕ) (o : Option ℕ) → holder_by (with_slice i s low high) o ≡ holder_by s o
sliced_holder i s low high None = refl
sliced_holder i s low high (Some u) = ap (held_by u) (kept_of (sliced i s low high) (sliced i s low high) (λ n c. refl) (between_word i.ram s.granules low high) (λ x. x.posture) (λ area runs x. refl) (area_offset i) s.running 0 s.threads u)

module _ (b : Platform) (t : ℕ) (s z : State) (marks : (k : ℕ) → (granule s k).mark ≡ (granule z k).mark) (agree : Agree b t s z) (low high : ℕ) where
  same_slice : (n : ℕ) (c : Cap) → sliced b.image s low high n c ≡ sliced b.image z low high n c
  same_slice n c = two_choices (λ (x y : Cap). x ≡ y) (nat_le low n && nat_lt n high) (nat_le low n && nat_lt n high) (filtered_in b.image.ram s.granules c) c (filtered_in b.image.ram z.granules c) c refl
      (λ is. filter_same b.image.ram s.granules z.granules marks c) (λ not. refl)

  many : length s.threads ≡ length z.threads
  many = sym (statuses_length s.threads) ∙ ap (λ (vs : List Status). length vs) agree.public.statuses ∙ statuses_length z.threads

  slice_agree : Agree b t (with_slice b.image s low high) (with_slice b.image z low high)
  slice_agree =
      let p = agree.public in
      let f : ℕ → Cap → Cap = sliced b.image s low high in
      let g : ℕ → Cap → Cap = sliced b.image z low high in
      let words = between_word b.image.ram s.granules low high in
      let words_too = between_word b.image.ram z.granules low high in
      let still : shapes (thread (with_slice b.image s low high) t) ≡ shapes (thread s t) = kept_of (sliced b.image s low high) (sliced b.image z low high) same_slice words shapes (λ area runs x. kept_shapes (sliced b.image s low high) (sliced b.image z low high) same_slice words (sliced b.image s low high) area x.frames) (area_offset b.image) s.running 0 s.threads t in
      record {
        public = record {
          running = p.running;
          holder = sliced_holder b.image s low high s.running ∙ p.holder ∙ sym (sliced_holder b.image z low high z.running);
          pending = p.pending;
          time = p.time;
          statuses = kept_statuses (sliced b.image s low high) (sliced b.image z low high) same_slice words (area_offset b.image) s.running 0 s.threads ∙ p.statuses
              ∙ sym (kept_statuses (sliced b.image z low high) (sliced b.image z low high) (λ n c. refl) words_too (area_offset b.image) z.running 0 z.threads);
          picks = p.picks;
          objects = p.objects;
          next = p.next;
          tokens = p.tokens;
          front = refl;
        };
        self = subst (λ o. AgreeingThread (thread (with_slice b.image s low high) t) (get_or (kept_threads (sliced b.image z low high) (area_offset b.image) o 0 z.threads) t nobody)) p.running
            (threads_two (sliced b.image s low high) (sliced b.image z low high) same_slice words (area_offset b.image) s.running 0 s.threads z.threads t many agree.self);
        memory = less_seen b.image (InView b.image s t) (InView b.image (with_slice b.image s low high) t) _ _ (λ x. sees_shaped b.image s.objects t (thread (with_slice b.image s low high) t).frames (thread s t).frames x still)
            (kept_memory (sliced b.image s low high) (sliced b.image z low high) same_slice words b.image (InView b.image s t) 0 s.granules z.granules agree.memory);
        devices = λ m seen. agree.devices m (device_shaped b (thread (with_slice b.image s low high) t).frames (thread s t).frames m still seen);
        banks = agree.banks;
      }

module _ (b : Platform) (t : ℕ) (s z : State) (marks : (k : ℕ) → (granule s k).mark ≡ (granule z k).mark) (agree : Agree b t s z) where
  same_end : (front : ℕ) → slice_end b.image s front ≡ slice_end b.image z front
  same_end front = ap (λ n. min (front + 8 * b.image.sweep) (8 * n)) agree.memory.size

  on_two : (o p : Option ℕ) → o ≡ p → Agree b t (sweep_on b.image s o) (sweep_on b.image z p)
  on_two None None e = agree
  on_two (Some m) (Some n) e =
      let heads : m ≡ n = cc in
      subst (λ w. Agree b t (sweep_on b.image s (Some m)) (sweep_on b.image z (Some w))) heads
      (subst (λ w. Agree b t (ended_sweep b.image (with_slice b.image s m (slice_end b.image s m)) (slice_end b.image s m)) (ended_sweep b.image (with_slice b.image z m w) w)) (same_end m)
      (ended_two b t (with_slice b.image s m (slice_end b.image s m)) (with_slice b.image z m (slice_end b.image s m)) (slice_agree b t s z marks agree m (slice_end b.image s m)) (slice_end b.image s m)))
  on_two None (Some n) e = absurd (let clash : None ≡ Some n = e in cc)
  on_two (Some m) None e = absurd (let clash : Some m ≡ None = e in cc)

began_granules : (s : State) (o : Option ℕ) → (sweep_began s o).granules ≡ s.granules
began_granules s (Some front) = refl
began_granules s None = chosen (λ (a : State). a.granules ≡ s.granules) (has_quarantined s.objects) (record s { objects = painted s.objects; front = Some 0 }) s (λ is. refl) (λ not. refl)

swept_agree : (b : Platform) (t : ℕ) (s z : State) → ((k : ℕ) → (granule s k).mark ≡ (granule z k).mark) → Agree b t s z → Agree b t (swept b.image s) (swept b.image z)
swept_agree b t s z marks agree =
    let began : Agree b t (sweep_began s s.front) (sweep_began z z.front) = began_two b t s z agree s.front z.front agree.public.front in
    on_two b t (sweep_began s s.front) (sweep_began z z.front)
    (λ k. ap (λ gs. (granule_at gs k).mark) (began_granules s s.front) ∙ marks k ∙ sym (ap (λ gs. (granule_at gs k).mark) (began_granules z z.front)))
    began (sweep_began s s.front).front (sweep_began z z.front).front began.public.front

pub swept_on_agree : (b : Platform) (t : ℕ) (s z : State) → ((k : ℕ) → (granule s k).mark ≡ (granule z k).mark) → Agree b t s z → Agree b t (swept_on b s) (swept_on b z)
swept_on_agree b t s z marks agree = swept_agree b t (record s { counts = record s.counts { sweeps = s.counts.sweeps + 1 } }) (record z { counts = record z.counts { sweeps = z.counts.sweeps + 1 } }) marks (counted_agree b t s z agree _ _)

-- ---- who holds interrupts off stays so

began_holder : (s : State) (o : Option ℕ) → holder (sweep_began s o) ≡ holder s
began_holder s (Some front) = refl
began_holder s None = chosen (λ (a : State). holder a ≡ holder s) (has_quarantined s.objects) (record s { objects = painted s.objects; front = Some 0 }) s (λ is. refl) (λ not. refl)

on_holder : (i : Image) (s : State) (o : Option ℕ) → holder (sweep_on i s o) ≡ holder s
on_holder i s None = refl
on_holder i s (Some front) = chosen (λ (a : State). holder a ≡ holder s) (nat_le (ram_size (with_slice i s front (slice_end i s front))) (slice_end i s front)) (sweep_over i (with_slice i s front (slice_end i s front))) (with_slice i s front (slice_end i s front))
    (λ is. sliced_holder i s front (slice_end i s front) s.running) (λ not. sliced_holder i s front (slice_end i s front) s.running)

pub swept_holder : (b : Platform) (s : State) → holder (swept_on b s) ≡ holder s
swept_holder b s =
    let a : State = record s { counts = record s.counts { sweeps = s.counts.sweeps + 1 } } in
    on_holder b.image (sweep_began a a.front) (sweep_began a a.front).front ∙ began_holder a a.front
