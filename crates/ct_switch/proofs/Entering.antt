-- What a call leaves, by what the switch comes to.
use Rattle.std.proofs.Common.{ℕ, ◌≡◌, ◌+◌, ◌-◌, ◌%◌, ◌≤◌, true, List, refl, sym, ap, ◌∙◌, arith, subst}
use Rattle.ct_entry.specs.Listed.{Listed}
use Rattle.def_memory.specs.declared.Granule.{Granule}
use Rattle.def_memory.specs.Ranges.{zeroed_from}
use Rattle.def_machine.specs.State.{Thread}
use Rattle.def_machine.specs.Frames.{Given, entered_by}
use Rattle.def_step.specs.Switch.{Switched, Trapped, TooDeep, NoStack, Enters, new_top}
use Rattle.ct_areas.specs.declared.thread.Thread as row
use Rattle.ct_areas.specs.Threads.{thread_of}
use Rattle.ct_areas.specs.Parts.{register_in, with_frame}
use Rattle.ct_switch.specs.declared.exports.Export.{Export}
use Rattle.ct_switch.specs.declared.given.Head.{Head}
use Rattle.ct_switch.specs.Exports.{AreTogether, HeadLies, IsCallable, row_at, is_export_of, table_of, callee_of, export_of}
use Rattle.ct_switch.specs.declared.calls.Called.TheVariants as called
use Rattle.ct_switch.specs.declared.deciding.Decision.{Decision}
use Rattle.ct_switch.specs.declared.deciding.Decision.TheVariants as decision
use Rattle.ct_switch.specs.Calls.{TopFits, Enterable, MayEnter, call_outcome, head_of, switch_in, memory_after, thread_after, row_after, given_from, given_by, head_at, given_in, entered_row, entered_thread}
use Rattle.ct_switch.proofs.Threads.{entered_same}

-- ---- the room

pub top_fits : (base address high : ℕ) → high ≡ new_top base address → base ≤ high → high ≤ address → high % 16 ≡ 0 → TopFits base address
top_fits base address high is low top even = record {
  low = subst (λ h. base ≤ h) is low;
  high = subst (λ h. h ≤ address) is top;
  even = subst (λ h. h % 16 ≡ 0) is even;
}

-- ---- the head of the callee's export table

pub export_here : (e : Listed) (ram size n callee : ℕ) → IsCallable e ram size n → callee ≡ callee_of e n → is_export_of callee (row_at e.rows (n - 1)) ≡ true
export_here e ram size n callee h is = subst (λ b. is_export_of b (row_at e.rows (n - 1)) ≡ true) (sym is) h.export.is

pub together_here : (e : Listed) (ram size n callee : ℕ) → IsCallable e ram size n → callee ≡ callee_of e n → AreTogether e.rows callee
together_here e ram size n callee h is = subst (λ b. AreTogether e.rows b) (sym is) h.together

pub head_here : (e : Listed) (ram size n callee : ℕ) → IsCallable e ram size n → callee ≡ callee_of e n → HeadLies ram size (table_of e callee)
head_here e ram size n callee h is = subst (λ b. HeadLies ram size (table_of e b)) (sym is) h.head

pub head_even : (ram size table : ℕ) → HeadLies ram size table → ram % 16 ≡ 0 → (table - ram) % 8 ≡ 0
head_even ram size table h even = go ram table h.low h.even even
  where
    go : (r t : ℕ) → r ≤ t → t % 8 ≡ r % 8 → r % 16 ≡ 0 → (t - r) % 8 ≡ 0
    go r t low same even = omega (arith, low, same, even)

pub head_inside : (ram size table : ℕ) → HeadLies ram size table → table - ram + 16 ≤ size
head_inside ram size table h = go ram table size h.low h.high
  where
    go : (r t s : ℕ) → r ≤ t → t + 16 ≤ r + s → t - r + 16 ≤ s
    go r t s low high = omega (arith, low, high)

-- ---- a call that enters

pub enterable : (e : Listed) (size : ℕ) (t : row.Thread) (d : Decision) (x : Export) (high : ℕ) → d ≡ decision.Enters x high → MayEnter e size t d → Enterable e size t x high
enterable e size t d x high is may = subst (λ k. MayEnter e size t k) is may

pub given_same : (gs : List Granule) (e : Listed) (t : row.Thread) (x : Export) (at high : ℕ) (h : Head) → x ≡ export_of e x.number
    → at ≡ head_of e t.area x.callee → h ≡ head_at gs at
    → given_from h t x.code high ≡ given_in gs e t x.number high
given_same gs e t x at high h is place made =
    ap (λ k. given_from k t x.code high) made
    ∙ ap (λ k. given_by gs t k x.code high) place
    ∙ ap (λ (y : Export). given_by gs t (head_of e t.area y.callee) y.code high) is

pub call_told : (gs : List Granule) (e : Listed) (t : row.Thread) (export high : ℕ) → Enters export high ≡ switch_in gs e t
    → called.Entered (register_in t 6).shadow.root export ≡ call_outcome (register_in t 6) (switch_in gs e t)
call_told gs e t export high is = ap (λ s. call_outcome (register_in t 6) s) is

pub call_thread : (gs : List Granule) (e : Listed) (t : row.Thread) (x : Export) (high : ℕ) (g : Given) (new : Thread)
    → Enters x.number high ≡ switch_in gs e t → x ≡ export_of e x.number → g ≡ given_in gs e t x.number high
    → new ≡ entered_thread (thread_of gs true t) x high g → new ≡ thread_after gs e t (switch_in gs e t)
call_thread gs e t x high g new is export given made =
    made ∙ entered_same e (thread_of gs true t) x x.number high g export
    ∙ ap (λ y. entered_by e (thread_of gs true t) (callee_of e x.number) x.number high y) given
    ∙ ap (λ s. thread_after gs e t s) is

pub call_memory : (gs : List Granule) (e : Listed) (t : row.Thread) (export high : ℕ) (new : List Granule) → Enters export high ≡ switch_in gs e t
    → new ≡ with_frame (zeroed_from t.area.stack high t.area.ram gs) t export → new ≡ memory_after gs t (switch_in gs e t)
call_memory gs e t export high new is made = made ∙ ap (λ s. memory_after gs t s) is

pub call_row : (gs : List Granule) (e : Listed) (t new : row.Thread) (x : Export) (high : ℕ) (g : Given)
    → Enters x.number high ≡ switch_in gs e t → x ≡ export_of e x.number → g ≡ given_in gs e t x.number high
    → new ≡ entered_row t x high g → new ≡ row_after gs e t (switch_in gs e t)
call_row gs e t new x high g is export given made =
    made ∙ ap (λ y. entered_row t y high g) export
    ∙ ap (λ y. entered_row t (export_of e x.number) high y) given
    ∙ ap (λ s. row_after gs e t s) is

-- ---- one that doesn't

abbrev pub Refuses : Switched → Type 0
Refuses (Enters export high) = ⊥
Refuses _ = Unit {0}

record Kept (gs : List Granule) (e : Listed) (t : row.Thread) (s : Switched) : Type 0 where
  pub thread : thread_of gs true t ≡ thread_after gs e t s
  pub memory : gs ≡ memory_after gs t s
  pub row : t ≡ row_after gs e t s

kept_at : (gs : List Granule) (e : Listed) (t : row.Thread) (s : Switched) → Refuses s → Kept gs e t s
kept_at gs e t (Trapped why) r = record { thread = refl; memory = refl; row = refl }
kept_at gs e t TooDeep r = record { thread = refl; memory = refl; row = refl }
kept_at gs e t NoStack r = record { thread = refl; memory = refl; row = refl }
kept_at gs e t (Enters export high) r = absurd r

-- a switch that comes to this refusal answers it, and all stays
pub record Refused (gs : List Granule) (e : Listed) (t : row.Thread) (s : Switched) : Type 0 where
  pub result : call_outcome (register_in t 6) s ≡ call_outcome (register_in t 6) (switch_in gs e t)
  pub thread : thread_of gs true t ≡ thread_after gs e t (switch_in gs e t)
  pub memory : gs ≡ memory_after gs t (switch_in gs e t)
  pub row : t ≡ row_after gs e t (switch_in gs e t)

pub refused_so : (gs : List Granule) (e : Listed) (t : row.Thread) (s : Switched) → Refuses s → s ≡ switch_in gs e t → Refused gs e t s
refused_so gs e t s r is =
    let kept = subst (λ k. Kept gs e t k) is (kept_at gs e t s r) in
    record { result = ap (λ k. call_outcome (register_in t 6) k) is; thread = kept.thread; memory = kept.memory; row = kept.row }
