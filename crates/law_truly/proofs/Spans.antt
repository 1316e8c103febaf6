-- Spans with interrupts off: what is told of one, and what it says of both states that none is.
use Rattle.std.proofs.Common.{ℕ, ◌≡◌, ◌==◌, true, false, if◌then◌else◌, inl, inr, Option, Some, None, refl, sym, ap, ◌∙◌}
use Rattle.std.proofs.lemmas.Bool.{eqb-true, and_parts}
use Rattle.law_lists.proofs.Tests.{chosen, eq_tells}
use Rattle.ct_entry.specs.declared.acts.Owned.{Owned}
use Rattle.def_words.specs.declared.Posture.{Posture}
use Rattle.def_machine.specs.State.{State, thread}
use Rattle.def_step.specs.Events.{holder_by, holder, is_holder, begun_since, begun}
use Rattle.def_step.specs.Instructions.{actor_of}
use Rattle.law_events.proofs.Fairness.{some_same}
use Rattle.law_truly.proofs.Same.{Calm}

posture_is : (p q : Posture) → p.off ≡ q.off → p.source ≡ q.source → p ≡ q
posture_is p q off source =
    let first : p ≡ record { off = q.off; source = p.source } = ap (λ o. (let x : Posture = record { off = o; source = p.source } in x)) off in
    first ∙ ap (λ n. (let x : Posture = record { off = q.off; source = n } in x)) source

-- who holds interrupts off, and by what
record Holds (s : State) (h : ℕ × ℕ) : Type 0 where
  runs : s.running ≡ Some h.0
  off : (thread s h.0).posture.off ≡ true
  source : (thread s h.0).posture.source ≡ h.1

holder_says : (s : State) (h : ℕ × ℕ) → holder s ≡ Some h → Holds s h
holder_says s h = by s.running refl
  where
    by : (o : Option ℕ) → s.running ≡ o → holder_by s o ≡ Some h → Holds s h
    by None runs e = absurd (let clash : None ≡ Some h = e in cc)
    by (Some t) runs e = chosen (λ (o : Option (ℕ × ℕ)). o ≡ Some h → Holds s h) (thread s t).posture.off (Some (t, (thread s t).posture.source)) None
        (λ off same. some_same (Holds s) (t, (thread s t).posture.source) h same (record { runs = runs; off = off; source = refl }))
        (λ not none. absurd (let clash : None ≡ Some h = none in cc))
        e

held_by : (s : State) (t : ℕ) → s.running ≡ Some t → (thread s t).posture.off ≡ true → holder s ≡ Some (t, (thread s t).posture.source)
held_by s t runs off =
    let first : holder s ≡ holder_by s (Some t) = ap (holder_by s) runs in
    let second : holder_by s (Some t) ≡ Some (t, (thread s t).posture.source) = ap (λ o. if o then Some (t, (thread s t).posture.source) else None) off in
    first ∙ second

is_holder_says : (o : Option (ℕ × ℕ)) (t source : ℕ) → is_holder o t source ≡ true → o ≡ Some (t, source)
is_holder_says None t source e = absurd (let clash : false ≡ true = e in cc)
is_holder_says (Some h) t source e =
    let parts = and_parts (h.0 == t) (h.1 == source) e in
    let first = eqb-true h.0 t parts.0 in
    let second = eqb-true h.1 source parts.1 in
    ap (λ n. Some (n, h.1)) first ∙ ap (λ n. Some (t, n)) second

itself_eq : (n : ℕ) → (n == n) ≡ true
itself_eq n = elim (eq_tells n n) [ inl is ↦ is.0 | inr not ↦ absurd (not.1 refl) ]

-- where none is told, a thread that holds them off held them off
pub none_begun : (s z : State) → begun s z ≡ None → (t : ℕ) → z.running ≡ Some t → (thread z t).posture.off ≡ true → (s.running ≡ Some t) × ((thread s t).posture ≡ (thread z t).posture)
none_begun s z none t runs off =
    let source : ℕ = (thread z t).posture.source in
    let same : begun s z ≡ begun_since (holder s) z (Some (t, source)) = ap (begun_since (holder s) z) (held_by z t runs off) in
    by (sym same ∙ none)
  where
    by : begun_since (holder s) z (Some (t, (thread z t).posture.source)) ≡ None → (s.running ≡ Some t) × ((thread s t).posture ≡ (thread z t).posture)
    by e = chosen (λ (o : Option Owned). o ≡ None → (s.running ≡ Some t) × ((thread s t).posture ≡ (thread z t).posture)) (is_holder (holder s) t (thread z t).posture.source) None (Some (record { thread = t; actor = actor_of (thread z t).frames; export = (thread z t).posture.source }))
        (λ is e. (let held = holder_says s (t, (thread z t).posture.source) (is_holder_says (holder s) t (thread z t).posture.source is) in (held.runs, posture_is (thread s t).posture (thread z t).posture (held.off ∙ sym off) held.source)))
        (λ not e. absurd (let clash : Some (let o : Owned = record { thread = t; actor = actor_of (thread z t).frames; export = (thread z t).posture.source } in o) ≡ None = e in cc))
        e

-- what is told of one
pub record Begins (s z : State) (o : Owned) : Type 0 where
  pub runs : z.running ≡ Some o.thread
  pub off : (thread z o.thread).posture.off ≡ true
  pub source : (thread z o.thread).posture.source ≡ o.export
  pub actor : o.actor ≡ actor_of (thread z o.thread).frames
  pub fresh : s.running ≡ Some o.thread → (thread s o.thread).posture ≡ (thread z o.thread).posture → ⊥

pub some_begun : (s z : State) (o : Owned) → begun s z ≡ Some o → Begins s z o
some_begun s z o = by (holder z) refl
  where
    by : (h : Option (ℕ × ℕ)) → holder z ≡ h → begun_since (holder s) z h ≡ Some o → Begins s z o
    by None is e = absurd (let clash : None ≡ Some o = e in cc)
    by (Some h) is e =
        let held = holder_says z h is in
        chosen (λ (x : Option Owned). x ≡ Some o → Begins s z o) (is_holder (holder s) h.0 h.1) None (Some (record { thread = h.0; actor = actor_of (thread z h.0).frames; export = h.1 }))
        (λ yes_held none. absurd (let clash : None ≡ Some o = none in cc))
        (λ other same. some_same (Begins s z) (record { thread = h.0; actor = actor_of (thread z h.0).frames; export = h.1 }) o same (record {
          runs = held.runs;
          off = held.off;
          source = held.source;
          actor = refl;
          fresh = λ ran posture.
              let off : (thread s h.0).posture.off ≡ true = ap (λ (p : Posture). p.off) posture ∙ held.off in
              let source : (thread s h.0).posture.source ≡ h.1 = ap (λ (p : Posture). p.source) posture ∙ held.source in
              let was : holder s ≡ Some (h.0, h.1) = held_by s h.0 ran off ∙ ap (λ n. Some (h.0, n)) source in
              let test : is_holder (Some (h.0, h.1)) h.0 h.1 ≡ true = rw (itself_eq h.0, itself_eq h.1) refl in
              let clash : false ≡ true = sym other ∙ ap (λ (x : Option (ℕ × ℕ)). is_holder x h.0 h.1) was ∙ test in
              cc;
        }))
        e

-- none begins where nothing carries on
pub calm_begins_none : {G : Type 0} (s z : State) (o : Owned) → Calm s z → begun s z ≡ Some o → G
calm_begins_none s z o c e =
    let b = some_begun s z o e in
    absurd (b.fresh (c.runs o.thread b.runs) (sym (c.threads o.thread).posture))
