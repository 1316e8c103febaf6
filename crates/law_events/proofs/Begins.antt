-- How a handler begins.
use Rattle.std.proofs.Common.{ℕ, zero, suc, ◌≡◌, ◌+◌, ◌*◌, ◌/◌, ◌-◌, ◌≤◌, ◌<◌, ◌⊎◌, true, false, inl, inr, List, [], ◌∷◌, length, refl, sym, ap, ◌∙◌, subst, arith, slice_set}
use Rattle.std.proofs.lemmas.Bool.{cases_eq, eq-eqb, le-leb, ne_eqb}
use Rattle.std.proofs.lemmas.List.{get_or-set_same, length-set}
use Rattle.std.proofs.Math.ListN.{get_or}
use Rattle.law_lists.proofs.Sets.{after_set_split}
use Rattle.ct_entry.specs.declared.rows.Kind.TheVariants as kind
use Rattle.ct_entry.specs.declared.rows.Owner.TheVariants.{Compartment}
use Rattle.def_words.specs.declared.Cap.{Cap}
use Rattle.def_words.specs.declared.Trap.{Trap}
use Rattle.def_words.specs.Authority.{cap_address, cap_base}
use Rattle.def_words.specs.Capability.{with_address}
use Rattle.def_words.specs.Seals.{cap_seal}
use Rattle.def_memory.specs.declared.Granule.{Granule}
use Rattle.def_memory.specs.Granules.{plain, granule_at, nothing}
use Rattle.def_reach.specs.Roots.{Listing, is_root, gate_for}
use Rattle.def_machine.specs.Image.{Image, root, made_cap, address_of, code_entry, globals_entry, stack_base, stack_entry, stack_top}
use Rattle.def_machine.specs.State.{State, Thread, Frame, thread, register, nobody}
use Rattle.def_confined.specs.Confined.{Confined}
use Rattle.def_confined.specs.Partitioned.{Partitioned}
use Rattle.def_confined.specs.Facts.{Facts}
use Rattle.def_machine.specs.Image.{handler_entry}
use Rattle.def_step.specs.declared.TheConstants.{TRAP_RECORD}
use Rattle.def_step.specs.Handlers.{is_handled, pair, record_end, record_words, words_written, handled, handler_stack, handler_entered}
use Rattle.law_words.proofs.Lowered.{lowered}
use Rattle.def_safety.specs.Handlers.{DueHandler, HandlerBegins, IsRecordPlace, RecordIs}
use Rattle.law_events.proofs.Entered.{Says, says, lies}
use Rattle.law_moves.proofs.Cleans.{all_at}
use Rattle.law_events.proofs.Cleans.{framed_there}
use Rattle.law_events.proofs.Calling.{sentry_tagged}

-- ---- words in a row

-- outside of them all stays
pub words_rest : (gs : List Granule) (k : ℕ) (ws : List ℕ) (j : ℕ) → (j < k) ⊎ (k + length ws ≤ j) → granule_at (words_written gs k ws) j ≡ granule_at gs j
words_rest gs k [] j out = refl
words_rest gs k (w ∷ ws) j out =
    words_rest (slice_set gs k (record { cap = plain w; mark = (granule_at gs k).mark })) (k + 1) ws j (elim out [ inl low ↦ inl (omega (arith, low)) | inr high ↦ inr (omega (arith, high)) ])
    ∙ after_set_split (λ g. g ≡ granule_at gs j) gs k j (record { cap = plain w; mark = (granule_at gs k).mark }) nothing
    (λ same. absurd (elim out [ inl low ↦ omega (arith, low, same) | inr high ↦ omega (arith, high, same) ]))
    (λ same none. absurd (elim out [ inl low ↦ omega (arith, low, same) | inr high ↦ omega (arith, high, same) ]))
    (λ other. refl)

-- and among them none is tagged
words_plain : (gs : List Granule) (k : ℕ) (ws : List ℕ) (j : ℕ) → k ≤ j → j < k + length ws → (granule_at (words_written gs k ws) j).cap.tag ≡ false
words_plain gs k [] j low high = absurd (omega (arith, low, high))
words_plain gs k (w ∷ ws) j low high = elim (cases_eq k j) [
  | inl same ↦
      let stays : granule_at (words_written (slice_set gs k (record { cap = plain w; mark = (granule_at gs k).mark })) (k + 1) ws) j ≡ granule_at (slice_set gs k (record { cap = plain w; mark = (granule_at gs k).mark })) j =
      words_rest (slice_set gs k (record { cap = plain w; mark = (granule_at gs k).mark })) (k + 1) ws j (inl (omega (arith, same))) in
      ap (λ (g : Granule). g.cap.tag) stays
      ∙ after_set_split (λ (g : Granule). g.cap.tag ≡ false) gs k j (record { cap = plain w; mark = (granule_at gs k).mark }) nothing (λ is. refl) (λ is none. refl) (λ other. absurd (other same))
  | inr other ↦ words_plain (slice_set gs k (record { cap = plain w; mark = (granule_at gs k).mark })) (k + 1) ws j (omega (arith, low, other)) (omega (arith, high))
]

-- each mark stays
words_marks : (gs : List Granule) (k : ℕ) (ws : List ℕ) (j : ℕ) → (granule_at (words_written gs k ws) j).mark ≡ (granule_at gs j).mark
words_marks gs k [] j = refl
words_marks gs k (w ∷ ws) j =
    words_marks (slice_set gs k (record { cap = plain w; mark = (granule_at gs k).mark })) (k + 1) ws j
    ∙ after_set_split (λ (g : Granule). g.mark ≡ (granule_at gs j).mark) gs k j (record { cap = plain w; mark = (granule_at gs k).mark }) nothing
    (λ same. ap (λ n. (granule_at gs n).mark) same)
    (λ same none. sym (ap (λ (g : Granule). g.mark) none))
    (λ other. refl)

-- ---- what a handler gets is tagged

globals_there : (i : Image) (b : ℕ) → Partitioned i → Facts i → (root i (handler_entry i b)).owner ≡ Compartment b → (made_cap i (globals_entry i b)).tag ≡ true
globals_there i b p facts owner =
    let own = p.own_globals b (handler_entry i b) owner in
    facts.made (globals_entry i b) (record {
      rooted = ap is_root own.kind_is;
      owned = λ code. absurd (let clash : Listing kind.Globals ≡ Listing kind.Code = sym own.kind_is ∙ code in cc);
    })

stack_there : (i : Image) (s : State) (t : ℕ) (f : Frame) → Says i s t f → (handler_stack (register (thread s t) 2)).tag ≡ true
stack_there i s t f say =
    let room = say.room in
    let base = say.base in
    lowered (register (thread s t) 2) (record_end (register (thread s t) 2) - TRAP_RECORD) say.tagged say.unsealed (omega (arith, room, base)) (omega arith)

-- ---- the record

-- a word stands where it was written, where there is a granule
words_at : (gs : List Granule) (k : ℕ) (ws : List ℕ) (j m : ℕ) → m ≡ k + j → j < length ws → m < length gs → (granule_at (words_written gs k ws) m).cap ≡ plain (get_or ws j 0)
words_at gs k [] j m at few there = absurd (omega (arith, few))
words_at gs k (w ∷ ws) zero m at few there =
    ap (λ (g : Granule). g.cap) (words_rest (slice_set gs k (record { cap = plain w; mark = (granule_at gs k).mark })) (k + 1) ws m (inl (omega (arith, at))))
    ∙ ap (λ (g : Granule). g.cap) (subst (λ n. granule_at (slice_set gs k (record { cap = plain w; mark = (granule_at gs k).mark })) n ≡ record { cap = plain w; mark = (granule_at gs k).mark }) (let same : k ≡ m = omega (arith, at) in same)
    (get_or-set_same gs k (record { cap = plain w; mark = (granule_at gs k).mark }) nothing (omega (arith, at, there))))
words_at gs k (w ∷ ws) (suc j) m at few there =
    let size : length (slice_set gs k (record { cap = plain w; mark = (granule_at gs k).mark })) ≡ length gs = length-set gs k (record { cap = plain w; mark = (granule_at gs k).mark }) in
    words_at (slice_set gs k (record { cap = plain w; mark = (granule_at gs k).mark })) (k + 1) ws j m (omega (arith, at)) (omega (arith, few)) (omega (arith, there, size))

-- the first eight granules have two registers' addresses each
registers_at : (old : Thread) (why : Trap) (n : ℕ) → n < 8 → get_or (record_words old why) n 0 ≡ pair (cap_address (register old (2 * n))) (cap_address (register old (2 * n + 1)))
registers_at old why zero few = refl
registers_at old why (suc zero) few = refl
registers_at old why (suc (suc zero)) few = refl
registers_at old why (suc (suc (suc zero))) few = refl
registers_at old why (suc (suc (suc (suc zero)))) few = refl
registers_at old why (suc (suc (suc (suc (suc zero))))) few = refl
registers_at old why (suc (suc (suc (suc (suc (suc zero)))))) few = refl
registers_at old why (suc (suc (suc (suc (suc (suc (suc zero))))))) few = refl
registers_at old why (suc (suc (suc (suc (suc (suc (suc (suc n)))))))) few = absurd (omega (arith, few))

place_of : (ram at k0 k n : ℕ) → ram + 8 * k0 ≡ at → ram + 8 * k ≡ at + 8 * n → k ≡ k0 + n
place_of ram at k0 k n first is = omega (arith, first, is)

record_is : (i : Image) (s after : State) (t : ℕ) (why : Trap) (at k0 : ℕ) → address_of i k0 ≡ at → at + 80 ≤ i.ram + 8 * length s.granules → after.granules ≡ words_written s.granules k0 (record_words (thread s t) why) → RecordIs i s t why at after
record_is i s after t why at k0 first ends is = record {
  registers = λ k n few place. word k n (omega (arith, few)) place ∙ ap plain (registers_at (thread s t) why n few);
  cause = λ k place. word k 8 (omega arith) place;
  code = λ k place. word k 9 (omega arith) place;
  untagged = λ k low high. ap (λ gs. (granule_at gs k).cap.tag) is ∙ words_plain s.granules k0 (record_words (thread s t) why) k (omega (arith, first, low)) (omega (arith, first, high));
}
  where
    word : (k n : ℕ) → n < 10 → address_of i k ≡ at + 8 * n → (granule_at after.granules k).cap ≡ plain (get_or (record_words (thread s t) why) n 0)
    word k n few place = ap (λ gs. (granule_at gs k).cap) is ∙ words_at s.granules k0 (record_words (thread s t) why) n k (place_of i.ram at k0 k n first place) few (omega (arith, few, place, ends))

-- ---- registers

abbrev HandlerZero : ℕ → Cap → Type 0
HandlerZero n c = (n ≡ 0) ⊎ ((4 ≤ n) × (n < 10)) ⊎ (13 ≤ n) → c ≡ plain 0

-- of c1 to c3 and c10 to c12 nothing is asked
no_zero : (n : ℕ) (c : Cap) → ((1 ≤ n) × (n ≤ 3)) ⊎ ((10 ≤ n) × (n ≤ 12)) → HandlerZero n c
no_zero n c is out = absurd (elim is [
  | inl low ↦ (let a = low.0 in let b = low.1 in elim out [ inl none ↦ omega (arith, a, none) | inr more ↦ elim more [ inl mid ↦ (let four = mid.0 in omega (arith, b, four)) | inr far ↦ omega (arith, b, far) ] ])
  | inr high ↦ (let a = high.0 in let b = high.1 in elim out [ inl none ↦ omega (arith, a, none) | inr more ↦ elim more [ inl mid ↦ (let ten = mid.1 in omega (arith, a, ten)) | inr far ↦ omega (arith, b, far) ] ])
])

registers_zero : (i : Image) (s : State) (t : ℕ) (why : Trap) (f : Frame) (fs : List Frame) (n : ℕ) → HandlerZero n (register (handled i (thread s t) why f fs) n)
registers_zero i s t why f fs n = all_at HandlerZero (handled i (thread s t) why f fs).registers (plain 0) (λ m. gone m) (
  gone 0,
  (
    low 1 _ (omega arith) (omega arith),
    (
      low 2 _ (omega arith) (omega arith),
      (
        low 3 _ (omega arith) (omega arith),
        (
          gone 4,
          (
            gone 5,
            (
              gone 6,
              (
                gone 7,
                (
                  gone 8,
                  (
                    gone 9,
                    (high 10 _ (omega arith) (omega arith), (high 11 _ (omega arith) (omega arith), (high 12 _ (omega arith) (omega arith), (gone 13, (gone 14, (gone 15, tt)))))),
                  ),
                ),
              ),
            ),
          ),
        ),
      ),
    ),
  ),
) n
  where
    gone : (m : ℕ) → HandlerZero m (plain 0)
    gone m out = refl

    low : (m : ℕ) (c : Cap) → 1 ≤ m → m ≤ 3 → HandlerZero m c
    low m c from to = no_zero m c (inl (from, to))

    high : (m : ℕ) (c : Cap) → 10 ≤ m → m ≤ 12 → HandlerZero m c
    high m c from to = no_zero m c (inr (from, to))

-- ---- where it is entered

place_is : (base top a : ℕ) → base + 80 ≤ a / 16 * 16 → a ≤ top → IsRecordPlace base top a (a / 16 * 16 - 80)
place_is base top a room high = record {
  sixteens = a / 16;
  aligned = omega (arith, room);
  under = omega (arith, room);
  last = omega (arith, room);
  low = omega (arith, room);
  high = omega (arith, room, high);
}

-- the record ends at the address that has been rounded down
pub record_ends : (base top a at : ℕ) → IsRecordPlace base top a at → a / 16 * 16 ≡ at + 80
record_ends base top a at p = (let aligned = p.aligned in let under = p.under in let last = p.last in omega (arith, aligned, under, last))

pub due : (i : Image) (s : State) (t : ℕ) (f : Frame) → is_handled i (stack_base i t) (thread s t) f ≡ true → DueHandler i s t f
due i s t f is = (let say = says i s t f is in record {
  some = say.some;
  fresh = say.fresh;
  tagged = say.tagged;
  unsealed = say.unsealed;
  stores = say.local;
  base = say.base;
  high = say.high;
  at = record_end (register (thread s t) 2) - TRAP_RECORD;
  place = place_is (stack_base i t) f.top (cap_address (register (thread s t) 2)) say.room say.high;
})

pub due_enters : (i : Image) (s : State) (t : ℕ) (f : Frame) → DueHandler i s t f → is_handled i (stack_base i t) (thread s t) f ≡ true
due_enters i s t f d =
    let ends = record_ends (stack_base i t) f.top (cap_address (register (thread s t) 2)) d.at d.place in
    let low = d.place.low in
    let high = d.high in
    let room : stack_base i t + TRAP_RECORD ≤ record_end (register (thread s t) 2) = omega (arith, ends, low) in
    let under : stack_base i t ≤ cap_address (register (thread s t) 2) = (let below = d.place.under in omega (arith, low, below)) in
    rw (ne_eqb (handler_entry i f.actor) 0 d.some, d.fresh, d.tagged, eq-eqb (cap_seal (register (thread s t) 2)) 0 d.unsealed, d.stores, eq-eqb (cap_base (register (thread s t) 2)) (stack_base i t) d.base, le-leb (stack_base i t) (cap_address (register (thread s t) 2)) under, le-leb (cap_address (register (thread s t) 2)) f.top high, le-leb (stack_base i t + TRAP_RECORD) (record_end (register (thread s t) 2)) room) refl

-- ---- whole

pub begins : (i : Image) (s : State) (t : ℕ) (why : Trap) (f : Frame) (fs : List Frame) → Partitioned i → Facts i → i.ram ≤ stack_base i t → Confined i s → (thread s t).frames ≡ f ∷ fs → Says i s t f
    → HandlerBegins i s t why f fs (handler_entered i s t why f fs)
begins i s t why f fs p facts above h frames say =
    let there : thread (handler_entered i s t why f fs) t ≡ handled i (thread s t) why f fs = get_or-set_same s.threads t (handled i (thread s t) why f fs) nobody (framed_there s t f fs frames) in
    let l = lies i s t f fs p above h frames say in
    let at = l.at in
    let room = say.room in
    let high = l.high in
    let below : stack_top i t ≤ i.heap_end = facts.stacks_low (stack_entry i t) l.stack in
    let size = h.size in
    let inside : record_end (register (thread s t) 2) - TRAP_RECORD + 80 ≤ i.ram + 8 * length s.granules = omega (arith, at, high, below, size) in
    record {
      at = record_end (register (thread s t) 2) - TRAP_RECORD;
      place = place_is (stack_base i t) f.top (cap_address (register (thread s t) 2)) say.room say.high;
      pcc = subst (λ (z : Thread). (z.pcc.tag ≡ true) × (z.pcc ≡ with_address (made_cap i (code_entry i f.actor)) (gate_for i.entries.gates (handler_entry i f.actor)).code)) (sym there) ((facts.gates (handler_entry i f.actor) (facts.handlers f.actor say.some).kind_is).begins f.actor (facts.handlers f.actor say.some).owner_is, refl);
      back = (sentry_tagged i facts, ap (λ (z : Thread). register z 1) there);
      stack = (stack_there i s t f say, ap (λ (z : Thread). register z 2) there);
      globals = (globals_there i f.actor p facts (facts.handlers f.actor say.some).owner_is, ap (λ (z : Thread). register z 3) there);
      c10 = ap (λ (z : Thread). register z 10) there;
      c11 = ap (λ (z : Thread). register z 11) there;
      c12 = ap (λ (z : Thread). register z 12) there;
      zero = subst (λ (z : Thread). (n : ℕ) → HandlerZero n (register z n)) (sym there) (registers_zero i s t why f fs);
      posture = ap (λ (z : Thread). z.posture) there;
      frames = ap (λ (z : Thread). z.frames) there;
      words = record_is i s (handler_entered i s t why f fs) t why (record_end (register (thread s t) 2) - TRAP_RECORD) ((record_end (register (thread s t) 2) - TRAP_RECORD - i.ram) / 8) at inside refl;
      marks = λ k. words_marks s.granules ((record_end (register (thread s t) 2) - TRAP_RECORD - i.ram) / 8) (record_words (thread s t) why) k;
      rest = λ k out. words_rest s.granules ((record_end (register (thread s t) 2) - TRAP_RECORD - i.ram) / 8) (record_words (thread s t) why) k
          (elim out [ inl low ↦ inl (omega (arith, at, low)) | inr high ↦ inr (omega (arith, at, high, room)) ]);
    }
