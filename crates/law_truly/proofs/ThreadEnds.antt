-- The end of a thread: where its only frame returns, or traps unhandled.
use Rattle.std.proofs.Common.{ℕ, ◌≡◌, inl, inr, true, false, [], ◌∷◌, Option, Some, None, refl, sym, ap, ◌∙◌, subst, arith}
use Rattle.std.proofs.lemmas.List.{get_or-set_same}
use Rattle.law_lists.proofs.Tests.{chosen}
use Rattle.law_granules.proofs.Lists.{zeroed_at}
use Rattle.ct_entry.specs.declared.acts.Deed.{Deed}
use Rattle.def_words.specs.declared.Trap.{Trap}
use Rattle.def_words.specs.Authority.{cap_address}
use Rattle.def_memory.specs.declared.Granule.{Granule}
use Rattle.def_memory.specs.Granules.{blank}
use Rattle.def_machine.specs.Platform.{Platform}
use Rattle.def_machine.specs.Image.{stack_base}
use Rattle.def_machine.specs.State.{State, Frame, nobody, thread, granule}
use Rattle.def_machine.specs.Frames.{ended_with, returned, switched, unwound}
use Rattle.def_step.specs.declared.Next.TheVariants.{Returning}
use Rattle.def_step.specs.Checks.{first_failed}
use Rattle.def_step.specs.Events.{continued, noted}
use Rattle.def_step.specs.Handlers.{is_handled, handler_entered, handler_value, return_taken, trap_taken}
use Rattle.def_step.specs.Instructions.{after_fetch, executed, fetch_checks, goes_on, next_at, space_of, trapped}
use Rattle.def_safety.specs.Each.{ready}
use Rattle.def_safety.specs.Traps.{step_checks}
use Rattle.def_truly.specs.ThreadEnds.{IsOver, EndsThread}
use Rattle.law_events.proofs.Cleans.{framed_there}
use Rattle.law_truly.proofs.FailedChecks.{executed_fails}

module _ (b : Platform) (s : State) (t : ℕ) (f : Frame) (frames : (thread s t).frames ≡ f ∷ []) where
  there : IsOver b s t f (switched b.image s t f.top nobody None)
  there = record {
    idle = refl;
    gone = get_or-set_same s.threads t nobody nobody (framed_there s t f [] frames);
    stack = λ k low below. zeroed_at (stack_base b.image t) f.top b.image.ram s.granules k (λ (g : Granule). g ≡ blank (granule s k)) (λ from to. refl) (λ outside. absurd (elim outside [ inl under ↦ omega (arith, low, under) | inr over ↦ omega (arith, below, over) ]));
  }

  noted_over : (z : State) (told : Option Deed) → IsOver b s t f z → IsOver b s t f (noted (z, told)).0
  noted_over z told h = record { idle = h.idle; gone = h.gone; stack = h.stack }

  returns_over : IsOver b s t f (return_taken b.image s t (thread s t).frames)
  returns_over = subst (λ fs. IsOver b s t f (return_taken b.image s t fs)) (sym frames)
      (chosen (IsOver b s t f) f.handling (ended_with b.image s t (handler_value (thread s t)) (f ∷ [])) (returned b.image s t (f ∷ [])) (λ is. there) (λ not. there))

  traps_over : (why : Trap) → is_handled b.image (stack_base b.image t) (thread s t) f ≡ false → IsOver b s t f (trap_taken b.image s t why (thread s t).frames)
  traps_over why not = subst (λ fs. IsOver b s t f (trap_taken b.image s t why fs)) (sym frames)
      (chosen (IsOver b s t f) (is_handled b.image (stack_base b.image t) (thread s t) f) (handler_entered b.image s t why f []) (unwound b.image s t (f ∷ []))
      (λ is. absurd (let clash : false ≡ true = sym not ∙ is in cc))
      (λ other. there))

  executed_returns : first_failed (fetch_checks (thread s t).pcc) ≡ None → next_at (space_of b s) (cap_address (thread s t).pcc) ≡ Returning → executed b s t ≡ (return_taken b.image s t (thread s t).frames, None)
  unfolding executed
  executed_returns fetched stands = ap (after_fetch b s t) fetched ∙ ap (goes_on b s t) stands

  abbrev Ends : State × Option Deed → Type 0
  Ends r = (r.1 ≡ None) × IsOver b s t f r.0

  continued_returns : s.running ≡ Some t → first_failed (fetch_checks (thread s t).pcc) ≡ None → next_at (space_of b s) (cap_address (thread s t).pcc) ≡ Returning → Ends (continued b s s.running)
  continued_returns runs fetched stands =
      let path : continued b s s.running ≡ noted (return_taken b.image s t (thread s t).frames, None) = ap (continued b s) runs ∙ ap noted (executed_returns fetched stands) in
      subst Ends (sym path) (refl, noted_over (return_taken b.image s t (thread s t).frames) None returns_over)

  continued_traps : (why : Trap) → s.running ≡ Some t → first_failed (step_checks b s t) ≡ Some why → is_handled b.image (stack_base b.image t) (thread s t) f ≡ false → IsOver b s t f (continued b s s.running).0
  continued_traps why runs fails not =
      let path : continued b s s.running ≡ noted (trapped b s t why) = ap (continued b s) runs ∙ ap noted (executed_fails b s t why fails) in
      subst (λ (r : State × Option Deed). IsOver b s t f r.0) (sym path) (noted_over (trapped b s t why).0 (trapped b s t why).1 (traps_over why not))

pub ends_thread : (b : Platform) (s : State) → EndsThread b s
ends_thread b s = record {
  returns = λ t f runs frames fetched stands. continued_returns b (ready b s) t f frames runs fetched stands;
  traps = λ t f why runs frames fails not. continued_traps b (ready b s) t f frames why runs fails not;
}
