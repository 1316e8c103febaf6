-- What a switch comes to, by its checks, the depth and the room.
use Rattle.std.proofs.Common.{ℕ, ◌≡◌, ◌-◌, ◌*◌, ◌==◌, ◌≤◌, ◌<◌, ◌++◌, inl, inr, true, false, nat_lt, List, length, Option, Some, None, refl, sym, ap, ◌∙◌, arith}
use Rattle.law_lists.proofs.Tests.{bool_tells, eq_tells, lt_tells}
use Rattle.ct_entry.specs.Listed.{Listed}
use Rattle.def_words.specs.declared.Cap.{Cap}
use Rattle.def_words.specs.declared.Trap.{Trap}
use Rattle.def_words.specs.Authority.{cap_address}
use Rattle.def_memory.specs.declared.Granule.{Granule}
use Rattle.def_reach.specs.Roots.{root_of, gate_for}
use Rattle.def_step.specs.Checks.{first_failed}
use Rattle.def_step.specs.Switch.{Trapped, TooDeep, switch_of, return_checks, gate_checks, stack_checks, past_checks, with_depth, with_room, new_top}
use Rattle.law_areas.proofs.Frames.{frames_count}
use Rattle.ct_areas.specs.declared.thread.Thread as row
use Rattle.ct_areas.specs.Threads.{area_begin, frames_most, living}
use Rattle.ct_areas.specs.Parts.{register_in}
use Rattle.ct_areas.proofs.Places.{alive_is}
use Rattle.ct_switch.specs.declared.exports.Export.{Export}
use Rattle.ct_switch.specs.Exports.{export_of}
use Rattle.ct_switch.specs.Ready.{MayCall}
use Rattle.ct_switch.specs.Calls.{failed_in, switch_in, decided, roomed, Enterable, MayEnter, TopFits}
use Rattle.ct_switch.proofs.Failing.{checks_passed}

-- by what the registers hold
pub failed_so : (t : row.Thread) (c1 c6 c2 : Cap) (o : Option Trap) → c1 ≡ register_in t 1 → c6 ≡ register_in t 6 → c2 ≡ register_in t 2
    → o ≡ first_failed (return_checks c1 ++ gate_checks c6 ++ stack_checks t.area.stack t.top c2) → o ≡ failed_in t
failed_so t c1 c6 c2 o one six two is =
    is ∙ ap (λ c. first_failed (return_checks c ++ gate_checks c6 ++ stack_checks t.area.stack t.top c2)) one
    ∙ ap (λ c. first_failed (return_checks (register_in t 1) ++ gate_checks c ++ stack_checks t.area.stack t.top c2)) six
    ∙ ap (λ c. first_failed (return_checks (register_in t 1) ++ gate_checks (register_in t 6) ++ stack_checks t.area.stack t.top c)) two

-- the stack's address and the export that the switch looks up, by what it reads
pub record Looked (e : Listed) (t : row.Thread) (x : Export) (address : ℕ) : Type 0 where
  pub at : address ≡ cap_address (register_in t 2)
  pub export : x ≡ export_of e (root_of e (register_in t 6).shadow.root).of

pub looked : (e : Listed) (t : row.Thread) (x : Export) (address entry number : ℕ) (stack import : Cap)
    → stack ≡ register_in t 2 → address ≡ cap_address stack
    → import ≡ register_in t 6 → entry ≡ import.shadow.root → number ≡ (root_of e entry).of → x ≡ export_of e number
    → Looked e t x address
looked e t x address entry number stack import two at six root of is = record {
  at = at ∙ ap (λ (k : Cap). cap_address k) two;
  export = is ∙ ap (λ n. export_of e n) (of ∙ ap (λ n. (root_of e n).of) (root ∙ ap (λ (k : Cap). k.shadow.root) six));
}

by_checks : (gs : List Granule) (e : Listed) (t : row.Thread) → 0 < t.depth
    → switch_in gs e t ≡ past_checks e t.area.stack (frames_most t.area) (living gs true t) (failed_in t)
by_checks gs e t alive = ap (λ l. switch_of e t.area.stack t.top (frames_most t.area) l) (alive_is gs true t alive)

pub switch_traps : (gs : List Granule) (e : Listed) (t : row.Thread) (why : Trap) → 0 < t.depth → failed_in t ≡ Some why → Trapped why ≡ switch_in gs e t
switch_traps gs e t why alive some =
    sym (by_checks gs e t alive ∙ ap (λ o. past_checks e t.area.stack (frames_most t.area) (living gs true t) o) some)

by_depth : (gs : List Granule) (e : Listed) (t : row.Thread) → 0 < t.depth → failed_in t ≡ None
    → switch_in gs e t ≡ with_depth e t.area.stack (frames_most t.area) (living gs true t)
by_depth gs e t alive none = by_checks gs e t alive ∙ ap (λ o. past_checks e t.area.stack (frames_most t.area) (living gs true t) o) none

count : (gs : List Granule) (t : row.Thread) → length (living gs true t).frames ≡ t.depth
count gs t = frames_count gs (area_begin t.area) t.actor t.top t.handling t.depth

pub switch_deep : (gs : List Granule) (e : Listed) (t : row.Thread) → 0 < t.depth → failed_in t ≡ None → t.depth ≡ frames_most t.area → TooDeep ≡ switch_in gs e t
switch_deep gs e t alive none full =
    let deep : (length (living gs true t).frames == frames_most t.area) ≡ true = elim (eq_tells (length (living gs true t).frames) (frames_most t.area)) [
      | inl e ↦ e.0
      | inr e ↦ absurd (e.1 (count gs t ∙ full))
    ] in
    sym (by_depth gs e t alive none ∙ rw deep refl)

pub switch_rooms : (gs : List Granule) (e : Listed) (t : row.Thread) (x : Export) → 0 < t.depth → failed_in t ≡ None
    → (t.depth ≡ frames_most t.area → ⊥) → x ≡ export_of e (root_of e (register_in t 6).shadow.root).of
    → decided (roomed t.area.stack (cap_address (register_in t 2)) x) ≡ switch_in gs e t
switch_rooms gs e t x alive none free is =
    let n : ℕ = (root_of e (register_in t 6).shadow.root).of in
    let high : ℕ = new_top t.area.stack (cap_address (register_in t 2)) in
    let open_ : (length (living gs true t).frames == frames_most t.area) ≡ false = elim (eq_tells (length (living gs true t).frames) (frames_most t.area)) [
      | inl e ↦ absurd (free (sym (count gs t) ∙ e.1))
      | inr e ↦ e.0
    ] in
    let rooms : decided (roomed t.area.stack (cap_address (register_in t 2)) (export_of e n)) ≡ with_room e t.area.stack high n =
    elim (bool_tells (nat_lt (high - t.area.stack) (gate_for e.gates n).stack)) [ inl e ↦ rw e refl | inr e ↦ rw e refl ] in
    ap (λ y. decided (roomed t.area.stack (cap_address (register_in t 2)) y)) is ∙ rooms ∙ sym (by_depth gs e t alive none ∙ rw open_ refl)

pub may_enter : (gs : List Granule) (e : Listed) (t : row.Thread) (x : Export) → MayCall gs t e → failed_in t ≡ None
    → (t.depth ≡ frames_most t.area → ⊥) → x ≡ export_of e (root_of e (register_in t 6).shadow.root).of
    → TopFits t.area.stack (cap_address (register_in t 2))
    → MayEnter e (8 * length gs) t (roomed t.area.stack (cap_address (register_in t 2)) x)
may_enter gs e t x may none free is fits =
    let passed = checks_passed t.area.stack t.top (register_in t 1) (register_in t 6) (register_in t 2) none in
    let number : x.number ≡ (root_of e (register_in t 6).shadow.root).of = ap (λ (y : Export). y.number) is in
    let callable = may.import passed.tagged passed.import in
    let room : t.depth ≤ frames_most t.area = may.ready.room in
    let low = fits.low in
    let high = fits.high in
    let top = passed.high in
    let enterable : Enterable e (8 * length gs) t x (new_top t.area.stack (cap_address (register_in t 2))) = record {
      is = is ∙ ap (λ n. export_of e n) (sym number);
      callable = rw number callable;
      above = low;
      below = omega (arith, high, top);
      even = fits.even;
      room = less t.depth (frames_most t.area) room free;
    } in
    elim (bool_tells (nat_lt (new_top t.area.stack (cap_address (register_in t 2)) - t.area.stack) x.stack)) [
      | inl e ↦ rw e tt
      | inr e ↦ rw e enterable
    ]
  where
    less : (a b : ℕ) → a ≤ b → (a ≡ b → ⊥) → a < b
    less a b le other = elim (lt_tells a b) [
      | inl e ↦ e.1
      | inr e ↦ absurd (let same : a ≡ b = omega (arith, le, e.1) in other same)
    ]
