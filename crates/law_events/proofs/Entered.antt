-- A handler is entered, whole.
use Rattle.std.proofs.Common.{ℕ, zero, suc, ◌≡◌, ◌+◌, ◌*◌, ◌/◌, ◌-◌, ◌%◌, ◌^◌, ◌≤◌, ◌<◌, ◌==◌, ◌&&◌, not, nat_le, Bool, true, false, inr, List, [], ◌∷◌, length, Some, refl, sym, ◌∙◌, subst, arith, slice_set}
use Rattle.std.proofs.Math.ListN.{get_or, set}
use Rattle.std.proofs.lemmas.Bool.{eqb-true, eqb-false, leb-true, and_parts, not-true}
use Rattle.std.specs.Prelude.{is_none}
use Rattle.std.specs.Int.{is_in_range}
use Rattle.law_lists.proofs.Tests.{none_is}
use Rattle.ct_entry.specs.declared.rows.Kind.TheVariants.{Stack as StackKind}
use Rattle.def_words.specs.declared.Cap.{Cap}
use Rattle.def_words.specs.declared.Trap.{Trap}
use Rattle.def_words.specs.Authority.{cap_address, cap_base}
use Rattle.def_words.specs.Capability.{integer, with_address}
use Rattle.def_words.specs.Permissions.{has, store_local}
use Rattle.def_words.specs.Seals.{cap_seal}
use Rattle.law_words.proofs.Words.{address_small}
use Rattle.def_memory.specs.Granules.{plain}
use Rattle.def_reach.specs.Roots.{TrustedPart, Listing}
use Rattle.def_machine.specs.Image.{Image, root, made_cap, globals_entry, address_of, stack_entry, stack_base, stack_top, area_of, frames_most}
use Rattle.def_machine.specs.State.{State, Thread, Frame, Object, thread, register, granule, nobody}
use Rattle.def_machine.specs.Threads.{changed}
use Rattle.def_confined.specs.Capabilities.{Kept}
use Rattle.def_confined.specs.Places.{InFrames, HasLive, OwnStack}
use Rattle.def_confined.specs.Confined.{Confined, FramesHold, PostureFits}
use Rattle.def_confined.specs.Changes.{Fades, ThreadFades, Puts}
use Rattle.def_confined.specs.Keeps.{Beside, Keeps}
use Rattle.def_confined.specs.Partitioned.{Partitioned}
use Rattle.def_confined.specs.Swept.{FramesSwept}
use Rattle.def_confined.specs.Facts.{Facts}
use Rattle.def_step.specs.Checks.{first_failed}
use Rattle.def_step.specs.Switch.{stack_checks}
use Rattle.def_machine.specs.Image.{handler_entry}
use Rattle.def_step.specs.declared.TheConstants.{TRAP_RECORD}
use Rattle.def_step.specs.Handlers.{record_end, has_room, is_handled, record_words, words_written, handled, handler_entered}
use Rattle.law_moves.proofs.Places.{plain_in, all_of}
use Rattle.law_moves.proofs.Puts.{plain_kept}
use Rattle.law_moves.proofs.Turns.{changed_confined, clock_of}
use Rattle.law_moves.proofs.Fades.{faded_confined}
use Rattle.law_moves.proofs.Moves.{register_puts}
use Rattle.law_moves.proofs.Checks.{AllPass, all_pass}
use Rattle.law_moves.proofs.Results.{address_derived}
use Rattle.law_moves.proofs.Entering.{back_made, globals_made, pcc_made}
use Rattle.law_moves.proofs.Givens.{own_placed, own_live, own_kept, sentry_placed, sentry_kept, no_live_of}
use Rattle.law_moves.proofs.SweepsMoves.{ram_same, moved_beside}
use Rattle.law_events.proofs.Written.{written_confined, written_left}
use Rattle.law_moves.proofs.Ticks.{same_frames}

-- ---- what the conditions say

pub record Says (i : Image) (s : State) (t : ℕ) (f : Frame) : Type 0 where
  pub some : handler_entry i f.actor ≡ 0 → ⊥
  pub fresh : f.handling ≡ false
  pub tagged : (register (thread s t) 2).tag ≡ true
  pub unsealed : cap_seal (register (thread s t) 2) ≡ 0
  pub local : has (register (thread s t) 2) store_local ≡ true
  pub base : cap_base (register (thread s t) 2) ≡ stack_base i t
  pub high : cap_address (register (thread s t) 2) ≤ f.top
  pub room : stack_base i t + TRAP_RECORD ≤ record_end (register (thread s t) 2)

pub says : (i : Image) (s : State) (t : ℕ) (f : Frame) → is_handled i (stack_base i t) (thread s t) f ≡ true → Says i s t f
says i s t f is =
    let c : Cap = register (thread s t) 2 in
    let outer_parts = and_parts (not (handler_entry i f.actor == 0) && not f.handling) (has_room (stack_base i t) f.top (register (thread s t) 2)) is in
    let inner_parts = and_parts (not (handler_entry i f.actor == 0)) (not f.handling) outer_parts.0 in
    let room = and_parts (is_none (first_failed (stack_checks (stack_base i t) f.top (register (thread s t) 2)))) (nat_le (stack_base i t + TRAP_RECORD) (record_end (register (thread s t) 2))) outer_parts.1 in
    let all : AllPass (stack_checks (stack_base i t) f.top (register (thread s t) 2)) =
    all_pass (stack_checks (stack_base i t) f.top (register (thread s t) 2)) (none_is (first_failed (stack_checks (stack_base i t) f.top (register (thread s t) 2))) room.0) in
    let range = and_parts (cap_base (register (thread s t) 2) == stack_base i t) (is_in_range (stack_base i t) f.top (cap_address (register (thread s t) 2))) all.1.1.1.0 in
    let ends = and_parts (nat_le (stack_base i t) (cap_address (register (thread s t) 2))) (nat_le (cap_address (register (thread s t) 2)) f.top) range.1 in
    record {
      some = eqb-false (handler_entry i f.actor) 0 (not-true (handler_entry i f.actor == 0) inner_parts.0);
      fresh = not-true f.handling inner_parts.1;
      tagged = all.0;
      unsealed = eqb-true (cap_seal (register (thread s t) 2)) 0 all.1.0;
      local = all.1.1.0;
      base = eqb-true (cap_base (register (thread s t) 2)) (stack_base i t) range.0;
      high = leb-true (cap_address (register (thread s t) 2)) f.top ends.1;
      room = leb-true (stack_base i t + TRAP_RECORD) (record_end (register (thread s t) 2)) room.1;
    }

-- ---- the mark of the innermost frame

-- the thread with what its handler gets, before its frame is marked
abbrev before_mark : Image → Thread → Trap → Frame → List Frame → Thread
before_mark i old why f fs = record (handled i old why f fs) { frames = f ∷ fs }

same_fades : (i : Image) (objects : List Object) (c : Cap) → Fades i objects objects c c
same_fades i objects c = inr (refl, λ tagged has_. has_)

same_thread : (i : Image) (objects : List Object) (t : Thread) → ThreadFades i objects objects t t
same_thread i objects t = record {
  pcc = same_fades i objects t.pcc;
  registers = λ n. same_fades i objects (register t n);
  frames = same_frames i objects t.frames;
  posture = refl;
}

marked_thread : (i : Image) (objects : List Object) (old : Thread) (why : Trap) (f : Frame) (fs : List Frame) → ThreadFades i objects objects (before_mark i old why f fs) (handled i old why f fs)
marked_thread i objects old why f fs = record {
  pcc = same_fades i objects (handled i old why f fs).pcc;
  registers = λ n. same_fades i objects (register (handled i old why f fs) n);
  frames = (
    record {
      actor = refl;
      export = refl;
      same_top = refl;
      c1 = same_fades i objects f.c1;
      c2 = same_fades i objects f.c2;
      c3 = same_fades i objects f.c3;
      c8 = same_fades i objects f.c8;
      c9 = same_fades i objects f.c9;
      returns = λ tagged sealed rooted. refl;
    },
    same_frames i objects fs,
  );
  posture = refl;
}

-- two threads in one place of a list
two_sets : (P : Thread → Thread → Type 0) (ts : List Thread) (t u : ℕ) (x y : Thread) → P x y → ((v : Thread) → P v v) → P (get_or (set ts t x) u nobody) (get_or (set ts t y) u nobody)
two_sets P [] t u x y new same = same nobody
two_sets P (v ∷ vs) zero zero x y new same = new
two_sets P (v ∷ vs) zero (suc u) x y new same = same (get_or vs u nobody)
two_sets P (v ∷ vs) (suc t) zero x y new same = same v
two_sets P (v ∷ vs) (suc t) (suc u) x y new same = two_sets P vs t u x y new same

marked_confined : (i : Image) (s : State) (t : ℕ) (old : Thread) (why : Trap) (f : Frame) (fs : List Frame)
    → Confined i (changed s t (before_mark i old why f fs) s.running (clock_of s)) → Confined i (record s { threads = slice_set s.threads t (handled i old why f fs) })
marked_confined i s t old why f fs h = faded_confined i (changed s t (before_mark i old why f fs) s.running (clock_of s)) (record s { threads = slice_set s.threads t (handled i old why f fs) }) h (record {
  caps = λ k. same_fades i s.objects (granule s k).cap;
  fixed = λ k fixed is. refl;
  domains = λ k tagged d. (λ here. here, λ here. here);
  threads = λ u. two_sets (λ x y. ThreadFades i s.objects s.objects x y) s.threads t u (before_mark i old why f fs) (handled i old why f fs) (marked_thread i s.objects old why f fs) (same_thread i s.objects);
  live = λ u runs n. two_sets (λ x y. HasLive i s.objects (register x n) → HasLive i s.objects (register y n)) s.threads t u (before_mark i old why f fs) (handled i old why f fs) (λ l. l) (λ v l. l) (h.live u runs n);
  apart = h.apart;
  numbered = h.numbered;
  fits = h.fits;
  marks = h.marks;
  limits = h.limits;
  size = refl;
})

-- ---- the thread

record_start : (i : Image) (s : State) (t : ℕ) (f : Frame) → Says i s t f → record_end (register (thread s t) 2) - TRAP_RECORD < 2 ^ 32
record_start i s t f say = let small = address_small (register (thread s t) 2) in omega (arith, small)

handed_confined : (i : Image) (s : State) (t : ℕ) (why : Trap) (f : Frame) (fs : List Frame) → Partitioned i → Facts i → Confined i s → s.running ≡ Some t → (thread s t).frames ≡ f ∷ fs → Says i s t f
    → Confined i (changed s t (before_mark i (thread s t) why f fs) s.running (clock_of s))
handed_confined i s t why f fs p facts h runs frames say =
    let owner = (facts.handlers f.actor say.some).owner_is in
    let pcc_is = pcc_made i f.actor (handler_entry i f.actor) p owner in
    let globals_is = globals_made i f.actor (handler_entry i f.actor) p owner in
    let back_is = back_made i p in
    let stack_puts : Puts i s t (with_address (register (thread s t) 2) (record_end (register (thread s t) 2) - TRAP_RECORD)) =
    register_puts i s t 2 (with_address (register (thread s t) 2) (record_end (register (thread s t) 2) - TRAP_RECORD)) h runs
    (address_derived (register (thread s t) 2) (record_end (register (thread s t) 2) - TRAP_RECORD) (record_start i s t f say)) in
    let whole : (w : ℕ) → InFrames i s.objects t (f ∷ fs) (integer w) = λ w. plain_in i s.objects t (f ∷ fs) (integer w) refl in
    let none : InFrames i s.objects t (f ∷ fs) (plain 0) = plain_in i s.objects t (f ∷ fs) (plain 0) refl in
    let none_kept : Kept i (plain 0) = plain_kept i (plain 0) refl in
    let whole_kept : (w : ℕ) → Kept i (integer w) = λ w. plain_kept i (integer w) refl in
    let none_live : HasLive i s.objects (plain 0) = λ tagged. absurd (let clash : false ≡ true = tagged in cc) in
    let whole_live : (w : ℕ) → HasLive i s.objects (integer w) = λ w tagged. absurd (let clash : false ≡ true = tagged in cc) in
    let into : (c : Cap) → InFrames i s.objects t (f ∷ fs) c → InFrames i s.objects t (thread s t).frames c = λ c k. subst (λ (gs : List Frame). InFrames i s.objects t gs c) (sym frames) k in
    let back_in : InFrames i s.objects t (f ∷ fs) (made_cap i 0) = λ tagged. sentry_placed i s.objects (λ d. d ≡ f.actor) (OwnStack i t (f ∷ fs)) (made_cap i 0) (back_is tagged) in
    let globals_in : InFrames i s.objects t (f ∷ fs) (made_cap i (globals_entry i f.actor)) = λ tagged. own_placed i s.objects t f.actor (f ∷ fs) (made_cap i (globals_entry i f.actor)) (globals_is tagged) in
    let stack_in : InFrames i s.objects t (f ∷ fs) (with_address (register (thread s t) 2) (record_end (register (thread s t) 2) - TRAP_RECORD)) =
    subst (λ (gs : List Frame). InFrames i s.objects t gs (with_address (register (thread s t) 2) (record_end (register (thread s t) 2) - TRAP_RECORD))) frames stack_puts.there in
    let pcc_in : InFrames i s.objects t (f ∷ fs) (handled i (thread s t) why f fs).pcc = λ tagged. own_placed i s.objects t f.actor (f ∷ fs) (handled i (thread s t) why f fs).pcc (pcc_is tagged).0 in
    let back_live : HasLive i s.objects (made_cap i 0) = λ tagged. no_live_of i s.objects (made_cap i 0) TrustedPart (back_is tagged).kind refl tagged in
    changed_confined i s t (before_mark i (thread s t) why f fs) s.running (clock_of s) h (record {
      frames = sym frames;
      pcc = into (handled i (thread s t) why f fs).pcc pcc_in;
      registers = λ n. into (register (handled i (thread s t) why f fs) n)
          (all_of (λ c. InFrames i s.objects t (f ∷ fs) c) (handled i (thread s t) why f fs).registers (plain 0) none
          (none, (back_in, (stack_in, (globals_in, (none, (none, (none, (none, (none, (none, (whole why.cause, (whole why.code, (whole why.register, (none, (none, (none, tt)))))))))))))))) n);
      kept = all_of (Kept i) (handled i (thread s t) why f fs).registers (plain 0) none_kept
          (none_kept, (sentry_kept i (made_cap i 0) back_is, (stack_puts.kept, (own_kept i f.actor (made_cap i (globals_entry i f.actor)) globals_is, (none_kept, (none_kept, (none_kept, (none_kept, (none_kept, (none_kept, (whole_kept why.cause, (whole_kept why.code, (whole_kept why.register, (none_kept, (none_kept, (none_kept, tt))))))))))))))));
      posture = on_fits (thread s t).frames;
      runs = λ tagged. (pcc_is tagged).1;
      live = λ is. all_of (HasLive i s.objects) (handled i (thread s t) why f fs).registers (plain 0) none_live
          (none_live, (back_live, (stack_puts.live, (own_live i s.objects f.actor (made_cap i (globals_entry i f.actor)) globals_is, (none_live, (none_live, (none_live, (none_live, (none_live, (none_live, (whole_live why.cause, (whole_live why.code, (whole_live why.register, (none_live, (none_live, (none_live, tt))))))))))))))));
      others = λ u other is. is;
    })
  where
    -- the posture is on
    on_fits : (gs : List Frame) → PostureFits i (before_mark i (thread s t) why f fs) gs
    on_fits [] = tt
    on_fits (g ∷ gs) = λ off. absurd (let clash : false ≡ true = off in cc)

-- ---- whole

-- the granules of the record lie in the stack
pub record Lies (i : Image) (s : State) (t : ℕ) (f : Frame) : Type 0 where
  pub stack : (root i (stack_entry i t)).origin ≡ Listing StackKind
  pub low : stack_base i t ≤ address_of i ((record_end (register (thread s t) 2) - TRAP_RECORD - i.ram) / 8)
  pub high : address_of i ((record_end (register (thread s t) 2) - TRAP_RECORD - i.ram) / 8) + 80 ≤ stack_top i t
  pub at : address_of i ((record_end (register (thread s t) 2) - TRAP_RECORD - i.ram) / 8) ≡ record_end (register (thread s t) 2) - TRAP_RECORD

place_at : (ram base top a k : ℕ) → ram % 8 ≡ 0 → ram ≤ base → base + 80 ≤ a / 16 * 16 → a ≤ top → k ≡ (a / 16 * 16 - 80 - ram) / 8 → ram + 8 * k ≡ a / 16 * 16 - 80
place_at ram base top a k even low room high is = omega (arith, even, low, room, high, is)

pub lies : (i : Image) (s : State) (t : ℕ) (f : Frame) (fs : List Frame) → Partitioned i → i.ram ≤ stack_base i t → Confined i s → (thread s t).frames ≡ f ∷ fs → Says i s t f → Lies i s t f
lies i s t f fs p above h frames say =
    let below : FramesHold i s.objects t (f ∷ fs) = subst (λ (gs : List Frame). FramesHold i s.objects t gs) frames (h.frames t) in
    let top = below.0.high in
    let high = say.high in
    let room = say.room in
    let is : address_of i ((record_end (register (thread s t) 2) - TRAP_RECORD - i.ram) / 8) ≡ record_end (register (thread s t) 2) - TRAP_RECORD =
    place_at i.ram (stack_base i t) f.top (cap_address (register (thread s t) 2)) ((record_end (register (thread s t) 2) - TRAP_RECORD - i.ram) / 8) p.even.0 above room high refl in
    record {
      stack = below.0.stack;
      low = omega (arith, is, room);
      high = omega (arith, is, room, high, top);
      at = is;
    }

pub entered_confined : (i : Image) (s : State) (t : ℕ) (why : Trap) (f : Frame) (fs : List Frame) → Partitioned i → Facts i → i.ram ≤ stack_base i t → Confined i s → s.running ≡ Some t → (thread s t).frames ≡ f ∷ fs → Says i s t f
    → Confined i (handler_entered i s t why f fs)
entered_confined i s t why f fs p facts above h runs frames say =
    let l = lies i s t f fs p above h frames say in
    let one = handed_confined i s t why f fs p facts h runs frames say in
    let two : Confined i (record s { threads = slice_set s.threads t (handled i (thread s t) why f fs) }) = marked_confined i s t (thread s t) why f fs one in
    written_confined i (record s { threads = slice_set s.threads t (handled i (thread s t) why f fs) }) t ((record_end (register (thread s t) 2) - TRAP_RECORD - i.ram) / 8) (record_words (thread s t) why) p two l.stack l.low l.high

pub entered_beside : (i : Image) (s : State) (t : ℕ) (why : Trap) (f : Frame) (fs : List Frame) → s.running ≡ Some t → (thread s t).frames ≡ f ∷ fs → Beside i s → Beside i (handler_entered i s t why f fs)
entered_beside i s t why f fs runs frames b =
    moved_beside i s t (words_written s.granules ((record_end (register (thread s t) 2) - TRAP_RECORD - i.ram) / 8) (record_words (thread s t) why)) (handled i (thread s t) why f fs) s.running (clock_of s)
    (written_left i s s.granules ((record_end (register (thread s t) 2) - TRAP_RECORD - i.ram) / 8) (record_words (thread s t) why) (ram_same i s))
    (record {
      sweeps = λ h.
          let q = subst (λ (gs : List Frame). FramesSwept i s.objects s.front (area_of i t - i.ram) gs) frames (h.frames t) in
          record {
            frames = (record { c1 = q.0.c1; c2 = q.0.c2; c3 = q.0.c3; c8 = q.0.c8; c9 = q.0.c9 }, q.1);
            registers = λ idle. absurd (idle runs);
            others = λ u other idle is. idle is;
          };
      deep = subst (λ (gs : List Frame). length gs ≤ frames_most i t) frames (b.bounded.deep t);
      few = omega arith;
      ends = λ e. record {
        over = λ is. absurd (let clash : (f ∷ fs) ≡ [] = sym frames ∙ e.over is in cc);
        none = λ is. absurd (let clash : (record f { handling = true } ∷ fs) ≡ [] = is in cc);
      };
    })
    b

pub entered_keeps : (i : Image) (s : State) (t : ℕ) (why : Trap) (f : Frame) (fs : List Frame) → Partitioned i → Facts i → i.ram ≤ stack_base i t → Keeps i s → s.running ≡ Some t → (thread s t).frames ≡ f ∷ fs
    → is_handled i (stack_base i t) (thread s t) f ≡ true → Keeps i (handler_entered i s t why f fs)
entered_keeps i s t why f fs p facts above k runs frames is = record {
  confined = entered_confined i s t why f fs p facts above k.confined runs frames (says i s t f is);
  beside = entered_beside i s t why f fs runs frames k.beside;
}
