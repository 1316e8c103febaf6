-- What a free comes to stands: the object is quarantined, the running thread's registers pass the load filter, and the
-- return sentry in c1 stays what it was.
use Rattle.std.proofs.Common.{ℕ, zero, suc, ◌≡◌, ◌≤◌, ◌<◌, ◌&&◌, ◌⊎◌, true, false, inl, inr, nat_le, nat_lt, List, [], ◌∷◌, map, Option, Some, None, refl, sym, ap, ◌∙◌, subst, arith}
use Rattle.std.proofs.Math.ListN.{get_or}
use Rattle.std.proofs.lemmas.List.{get_or-set_same}
use Rattle.std.proofs.lemmas.Bool.{and_parts}
use Rattle.law_lists.proofs.Tests.{chosen, le_tells, lt_tells}
use Rattle.def_words.specs.declared.Cap.{Cap}
use Rattle.def_words.specs.Authority.{cap_base}
use Rattle.def_words.specs.Capability.{integer, untagged}
use Rattle.def_words.specs.Seals.{cap_seal}
use Rattle.def_memory.specs.Granules.{plain}
use Rattle.def_machine.specs.Image.{Image}
use Rattle.def_machine.specs.State.{State, Thread, Object, Token, thread, register, nobody}
use Rattle.def_machine.specs.Memory.{is_marked, filtered}
use Rattle.def_machine.specs.Objects.{charges}
use Rattle.def_machine.specs.Heap.{quarantined, freed}
use Rattle.def_confined.specs.Capabilities.{Rooted, IsReturnType}
use Rattle.def_confined.specs.Confined.{Confined}
use Rattle.def_confined.specs.Keeps.{Keeps}
use Rattle.def_confined.specs.Partitioned.{Partitioned, AwayFromHeap}
use Rattle.def_step.specs.Routines.{answers, code}
use Rattle.def_step.specs.Quotas.{quota_in, whole_of, without_row, let_go, gives_back, freed_as, free}
use Rattle.law_moves.proofs.Turns.{beside_confined, clock_of}
use Rattle.law_moves.proofs.Moves.{untagged_puts}
use Rattle.law_moves.proofs.JumpsMoves.{in_rooted}
use Rattle.law_moves.proofs.Authorities.{headed}
use Rattle.law_moves.proofs.Filtering.{filter_is_heaps}
use Rattle.def_confined.specs.Filters.{heap_filtered}
use Rattle.law_moves.proofs.Objects.{free_keeps}
use Rattle.law_routines.proofs.Objects.{Found, whole_found}
use Rattle.def_events.specs.Stands.{RoutineKeeps}
use Rattle.law_events.proofs.Cleans.{framed_there}
use Rattle.ct_entry.specs.declared.acts.Act.TheVariants as acts
use Rattle.def_confined.specs.Facts.{Facts}
use Rattle.law_moves.proofs.Deeds.{free_licensed}
use Rattle.law_events.proofs.Answering.{answers_keeps}
use Rattle.law_events.proofs.Charging.{Charging, quota_stands, quota_licensed}

-- ---- rows of keys and tokens

pub tokens_keeps : (i : Image) (s : State) (ts : List Token) → Keeps i s → Keeps i (record s { tokens = ts })
tokens_keeps i s ts k =
    let b = k.beside in
    record {
      confined = beside_confined i s ts s.running (clock_of s) (λ u runs. runs) k.confined;
      beside = record {
        swept = record { granules = b.swept.granules; registers = b.swept.registers; frames = b.swept.frames; idle = b.swept.idle };
        bounded = record { deep = b.bounded.deep; few = b.bounded.few; many = b.bounded.many; areas = b.bounded.areas; fits = b.bounded.fits };
        ends = b.ends;
      };
    }

-- ---- the return sentry

heap_stays : (i : Image) (s : State) (c : Cap) → AwayFromHeap i (cap_base c) → heap_filtered i s c ≡ c
heap_stays i s c away = chosen (λ (z : Cap). z ≡ c) (c.tag && nat_le i.heap_base (cap_base c) && nat_lt (cap_base c) i.heap_end && is_marked i s (cap_base c)) (untagged c) c
    (λ is.
    let rest = and_parts (c.tag && nat_le i.heap_base (cap_base c) && nat_lt (cap_base c) i.heap_end) (is_marked i s (cap_base c)) is in
    let ends = and_parts (c.tag && nat_le i.heap_base (cap_base c)) (nat_lt (cap_base c) i.heap_end) rest.0 in
    let starts = and_parts c.tag (nat_le i.heap_base (cap_base c)) ends.0 in
    absurd (inside away (le_tells i.heap_base (cap_base c)) (lt_tells (cap_base c) i.heap_end) starts.1 ends.1))
    (λ not. refl)
  where
    inside : AwayFromHeap i (cap_base c) → ((nat_le i.heap_base (cap_base c) ≡ true) × (i.heap_base ≤ cap_base c)) ⊎ ((nat_le i.heap_base (cap_base c) ≡ false) × (cap_base c < i.heap_base)) → ((nat_lt (cap_base c) i.heap_end ≡ true) × (cap_base c < i.heap_end)) ⊎ ((nat_lt (cap_base c) i.heap_end ≡ false) × (i.heap_end ≤ cap_base c))
        → nat_le i.heap_base (cap_base c) ≡ true → nat_lt (cap_base c) i.heap_end ≡ true → ⊥
    inside away (inr a) b low high = let clash : true ≡ false = sym low ∙ a.0 in cc
    inside away (inl a) (inr b) low high = let clash : true ≡ false = sym high ∙ b.0 in cc
    inside away (inl a) (inl b) low high = elim away [ inl below ↦ (let from = a.1 in omega (arith, below, from)) | inr above ↦ (let to = b.1 in omega (arith, above, to)) ]

sentry_stays : (i : Image) (s : State) (c : Cap) → Partitioned i → Confined i s → Rooted i c → IsReturnType (cap_seal c) → filtered i s c ≡ c
sentry_stays i s c parts h r is =
    let says = r.returns is in
    let some = says.0 in
    let range = r.range says.2 in
    let low = range.0 in
    let high = range.1 in
    filter_is_heaps i s c parts h ∙ heap_stays i s c (parts.runs_away c.shadow.root (cap_base c) (r.rights says.2 8 says.1) low (omega (arith, some, high)))

-- a map that leaves zero, at any place
map_at : (f : Cap → Cap) (xs : List Cap) (k : ℕ) → f (plain 0) ≡ plain 0 → get_or (map f xs) k (plain 0) ≡ f (get_or xs k (plain 0))
map_at f [] k e = sym e
map_at f (x ∷ xs) zero e = refl
map_at f (x ∷ xs) (suc k) e = map_at f xs k e

-- ---- the free

gone_keeps : (i : Image) (s : State) (t : ℕ) (o : Object) (by : Cap) → Charging i s t → Found (quota_in s t) by s.objects o → Keeps i (answers (let_go i s t o) t (integer 0))
gone_keeps i s t o by c f =
    let parts = c.returning.parts in
    let k = c.returning.keeps in
    let runs = c.returning.runs in
    let after : Keeps i (freed i s t o) = free_keeps i s t o parts k (record { running = runs; there = f.there; live = f.live }) in
    let here : Rooted i (register (thread s t) 1) = in_rooted i s.objects t (thread s t).frames (register (thread s t) 1) (k.confined.registers t 1) c.returning.tagged in
    let stays : filtered i (quarantined i s o) (register (thread s t) 1) ≡ register (thread s t) 1 = sentry_stays i (freed i s t o) (register (thread s t) 1) parts after.confined here c.returning.sealed in
    let head = headed i s.objects t (thread s t).frames (register (thread s t) 1) (k.confined.registers t 1) c.returning.tagged in
    let there : thread (let_go i s t o) t ≡ record (thread s t) { registers = map (filtered i (quarantined i s o)) (thread s t).registers } =
    get_or-set_same s.threads t (record (thread s t) { registers = map (filtered i (quarantined i s o)) (thread s t).registers }) nobody (framed_there s t head.0 head.1.0 head.1.1) in
    let mapped : get_or (map (filtered i (quarantined i s o)) (thread s t).registers) 1 (plain 0) ≡ register (thread s t) 1 =
    map_at (filtered i (quarantined i s o)) (thread s t).registers 1 refl ∙ stays in
    answers_keeps i (let_go i s t o) t (integer 0)
    (record {
      parts = parts;
      keeps = tokens_keeps i (freed i s t o) (without_row o.number s.tokens) after;
      runs = runs;
      tagged = ap (λ (z : Cap). z.tag) (ap (λ (th : Thread). register th 1) there ∙ mapped) ∙ c.returning.tagged;
      sealed = subst (λ (z : Cap). IsReturnType (cap_seal z)) (sym (ap (λ (th : Thread). register th 1) there ∙ mapped)) c.returning.sealed;
    })
    (untagged_puts i (let_go i s t o) t (integer 0) refl)

pub given_stands : (i : Image) (s : State) (t : ℕ) (o : Object) (by : Cap) → Charging i s t → Found (quota_in s t) by s.objects o → RoutineKeeps i s t (gives_back i s t o)
given_stands i s t o by c f =
    let after = gone_keeps i s t o by c f in (
      after,
      quota_licensed i s t o.quota (λ q. acts.Free o.number o.base o.length (charges q (let_go i s t o).objects)) c f.charged
          (λ f fs frames. free_licensed i s (answers (let_go i s t o) t (integer 0)) t 10 o.number o.base o.length f fs c.returning.keeps.confined after.confined frames c.tagged c.quota),
    )

pub freed_stands : (i : Image) (s : State) (t : ℕ) (o : Option Object) → Charging i s t → whole_of s.objects (quota_in s t) (register (thread s t) 11) ≡ o → RoutineKeeps i s t (freed_as i s t o)
freed_stands i s t None c is = (answers_keeps i s t (code 6) c.returning (untagged_puts i s t (code 6) refl), tt)
freed_stands i s t (Some o) c is = given_stands i s t o (register (thread s t) 11) c (whole_found s.objects (quota_in s t) (register (thread s t) 11) o is)

pub free_stands : (i : Image) (s : State) (t : ℕ) → Partitioned i → Facts i → Keeps i s → s.running ≡ Some t → RoutineKeeps i s t (free i s t)
free_stands i s t parts facts k runs = quota_stands i s t (freed_as i s t (whole_of s.objects (quota_in s t) (register (thread s t) 11))) parts facts k runs
    (λ c. freed_stands i s t (whole_of s.objects (quota_in s t) (register (thread s t) 11)) c refl)
