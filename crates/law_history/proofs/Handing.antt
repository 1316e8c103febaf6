-- What holds of what each routine that may tell a free or an allocation leaves and tells holds where one is told.
use Rattle.std.proofs.Common.{ℕ, ◌≡◌, inl, inr, Option, Some, subst}
use Rattle.ct_entry.specs.declared.acts.Act.{Act}
use Rattle.ct_entry.specs.declared.acts.Act.TheVariants as acts
use Rattle.ct_entry.specs.declared.acts.Deed.{Deed}
use Rattle.def_machine.specs.Image.{Image}
use Rattle.def_machine.specs.State.{State, Counts}
use Rattle.def_machine.specs.Platform.{Platform}
use Rattle.def_step.specs.Events.{noted, stepped, with_deed}
use Rattle.def_step.specs.Instructions.{executed}
use Rattle.def_step.specs.Quotas.{allocate, free}
use Rattle.def_step.specs.Tokens.{token_key, token_new, token_free}
use Rattle.def_events.specs.Leaving.{Left}
use Rattle.def_safety.specs.Each.{ready}
use Rattle.law_history.proofs.Steps.{none_told, step_case}
use Rattle.law_history.proofs.Telling.{ToldBy, Tells, executed_tells}
use Rattle.law_events.proofs.Handing.{left_by}

-- of both routines that free, and of those three that allocate, run by thread t
abbrev pub BothFree : (State → Option (ℕ × Act) → Type 0) → Image → State → ℕ → Type 0
BothFree Q i s t = Left Q (free i s t) × Left Q (token_free i s t)

abbrev pub AllAllocate : (State → Option (ℕ × Act) → Type 0) → Image → State → ℕ → Type 0
AllAllocate Q i s t = Left Q (allocate i s t) × (Left Q (token_key i s t) × Left Q (token_new i s t))

module _ (P : State → Type 0) (Q : State → Option (ℕ × Act) → Type 0) (b : Platform) (s : State) (d : Deed) (number base long live : ℕ) where
  pub free_told_case : ((t : ℕ) → BothFree Q b.image (ready b s) t) → d.act ≡ acts.Free number base long live
      → ((z : State) (c : Counts) → Q z (Some (d.entry, acts.Free number base long live)) → P (record z { counts = c })) → (stepped b s).1 ≡ Some d → P (stepped b s).0
  free_told_case h act so = step_case (λ (r : State × Option Deed). r.1 ≡ Some d → P r.0) b s
      (λ idle e. none_told d e)
      (λ t runs e. at t (executed_tells b (ready b s) t d e))
    where
      at : (t : ℕ) → Tells b (ready b s) t (executed b (ready b s) t).0 d → P (noted (executed b (ready b s) t)).0
      at t told =
          let by : ToldBy b (ready b s) t (executed b (ready b s) t).0 d.entry (acts.Free number base long live) = subst (λ (a : Act). ToldBy b (ready b s) t (executed b (ready b s) t).0 d.entry a) act told.by in
          so (executed b (ready b s) t).0 (with_deed (executed b (ready b s) t).0.counts (executed b (ready b s) t).1)
          (elim by [
            | inl plain ↦ left_by Q (free b.image (ready b s) t) (executed b (ready b s) t).0 (Some (d.entry, acts.Free number base long live)) plain (h t).0
            | inr token ↦ left_by Q (token_free b.image (ready b s) t) (executed b (ready b s) t).0 (Some (d.entry, acts.Free number base long live)) token (h t).1
          ])

  pub allocate_told_case : ((t : ℕ) → AllAllocate Q b.image (ready b s) t) → d.act ≡ acts.Allocate number base long live
      → ((z : State) (c : Counts) → Q z (Some (d.entry, acts.Allocate number base long live)) → P (record z { counts = c })) → (stepped b s).1 ≡ Some d → P (stepped b s).0
  allocate_told_case h act so = step_case (λ (r : State × Option Deed). r.1 ≡ Some d → P r.0) b s
      (λ idle e. none_told d e)
      (λ t runs e. at t (executed_tells b (ready b s) t d e))
    where
      at : (t : ℕ) → Tells b (ready b s) t (executed b (ready b s) t).0 d → P (noted (executed b (ready b s) t)).0
      at t told =
          let by : ToldBy b (ready b s) t (executed b (ready b s) t).0 d.entry (acts.Allocate number base long live) = subst (λ (a : Act). ToldBy b (ready b s) t (executed b (ready b s) t).0 d.entry a) act told.by in
          so (executed b (ready b s) t).0 (with_deed (executed b (ready b s) t).0.counts (executed b (ready b s) t).1)
          (elim by [
            | inl plain ↦ left_by Q (allocate b.image (ready b s) t) (executed b (ready b s) t).0 (Some (d.entry, acts.Allocate number base long live)) plain.1 (h t).0
            | inr sealed ↦ elim sealed [
              | inl key ↦ left_by Q (token_key b.image (ready b s) t) (executed b (ready b s) t).0 (Some (d.entry, acts.Allocate number base long live)) key.1 (h t).1.0
              | inr token ↦ left_by Q (token_new b.image (ready b s) t) (executed b (ready b s) t).0 (Some (d.entry, acts.Allocate number base long live)) token.1 (h t).1.1
            ]
          ])
