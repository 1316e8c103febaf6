-- A slice of the revoker over what is seen, as the machine's definition has it over a state that holds it.
use Rattle.std.proofs.Common.{ℕ, ◌≡◌, ◌*◌, inl, inr, nat_le, List, length, Option, Some, None, refl, sym, ap, ◌∙◌}
use Rattle.law_lists.proofs.Tests.{bool_tells, chosen}
use Rattle.def_memory.specs.declared.Granule.{Granule}
use Rattle.def_machine.specs.Image.{Image}
use Rattle.def_machine.specs.State.{State, Status}
use Rattle.def_machine.specs.Objects.{has_quarantined, painted}
use Rattle.def_machine.specs.Slices.{marks_cleared}
use Rattle.def_machine.specs.Heap as machine
use Rattle.ct_engine.specs.Seen.{EngineRow, with_granules}
use Rattle.ct_engine.specs.Sweeps.{began, begun, over, with_slice, ended, slice_end, passed_on, swept_by}
use Rattle.ct_engine.specs.Written.{HasAreas, state_with}
use Rattle.ct_engine.proofs.Sliced.{slice_written}

-- ---- it begins

begun_shown : (i : Image) (m : State) (s : EngineRow) (ss : List Status) → machine.begun_sweep (state_with m s ss) ≡ state_with m (begun s) ss
begun_shown i m s ss = elim (bool_tells (has_quarantined s.state.objects)) [ inl e ↦ rw e refl | inr e ↦ rw e refl ]

pub began_shown : (i : Image) (m : State) (s : EngineRow) (ss : List Status) (front : Option ℕ) → machine.sweep_began (state_with m s ss) front ≡ state_with m (began s front) ss
began_shown i m s ss None = begun_shown i m s ss
began_shown i m s ss (Some front) = refl

pub began_areas : (i : Image) (s : EngineRow) (front : Option ℕ) → HasAreas i s → HasAreas i (began s front)
began_areas i s None h =
    chosen (λ (x : EngineRow). HasAreas i x) (has_quarantined s.state.objects) (record s { state = record s.state { objects = painted s.state.objects; front = Some 0 } }) s
    (λ e. record { ram = h.ram; count = h.count; begins = h.begins }) (λ e. h)
began_areas i s (Some front) h = h

-- ---- it ends

over_shown : (i : Image) (m : State) (s : EngineRow) (ss : List Status) → s.region.ram ≡ i.ram → machine.sweep_over i (state_with m s ss) ≡ state_with m (over s) ss
over_shown i m s ss ram =
    let put : List Granule → State = λ gs. state_with m (with_granules (over s) gs) ss in
    ap (λ a. put (marks_cleared s.state.objects a s.state.granules)) (sym ram)

ended_shown : (i : Image) (m : State) (s : EngineRow) (ss : List Status) (front : ℕ) → s.region.ram ≡ i.ram → machine.ended_sweep i (state_with m s ss) front ≡ state_with m (ended s front) ss
ended_shown i m s ss front ram = elim (bool_tells (nat_le (8 * length s.state.granules) front)) [ inl e ↦ rw e (over_shown i m s ss ram) | inr e ↦ rw e refl ]

-- ---- one slice

on_shown : (i : Image) (m : State) (s : EngineRow) (ss : List Status) (front : Option ℕ) → HasAreas i s → machine.sweep_on i (state_with m s ss) front ≡ state_with m (passed_on s i.sweep front) ss
on_shown i m s ss None h = refl
on_shown i m s ss (Some front) h =
    let high : ℕ = slice_end s i.sweep front in
    ap (λ x. machine.ended_sweep i x high) (slice_written i m s ss front high h)
    ∙ ended_shown i m (with_slice s front high) ss high h.ram

pub swept_shown : (i : Image) (m : State) (s : EngineRow) (ss : List Status) → HasAreas i s → machine.swept i (state_with m s ss) ≡ state_with m (swept_by s i.sweep) ss
swept_shown i m s ss h =
    ap (λ (x : State). machine.sweep_on i x x.front) (began_shown i m s ss s.state.front)
    ∙ on_shown i m (began s s.state.front) ss (began s s.state.front).state.front (began_areas i s s.state.front h)
