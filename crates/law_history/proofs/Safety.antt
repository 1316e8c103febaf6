-- *Temporal safety*, of one event.
use Rattle.std.proofs.Common.{ℕ, ◌≡◌, ◌+◌, ◌<◌, ◌&&◌, true, inl, inr, nat_le, List, Option, Some, sym, ap, ◌∙◌, subst, arith}
use Rattle.std.proofs.lemmas.Bool.{leb-true, and_parts}
use Rattle.law_lists.proofs.Tests.{chosen}
use Rattle.ct_entry.specs.declared.acts.Act.{Act}
use Rattle.ct_entry.specs.declared.acts.Act.TheVariants as acts
use Rattle.ct_entry.specs.declared.acts.Deed.{Deed}
use Rattle.def_words.specs.declared.Cap.{Cap}
use Rattle.def_words.specs.Authority.{cap_address, cap_base, cap_top}
use Rattle.def_words.specs.Capability.{is_range_inside}
use Rattle.def_machine.specs.Image.{Image}
use Rattle.def_machine.specs.State.{State, Counts, Object, register, thread}
use Rattle.def_confined.specs.Keeps.{Keeps}
use Rattle.def_confined.specs.Partitioned.{Partitioned}
use Rattle.def_confined.specs.Facts.{Facts}
use Rattle.def_hidden.specs.Hidden.{Blank}
use Rattle.def_step.specs.declared.Access.{Access}
use Rattle.def_step.specs.declared.Event.{Event}
use Rattle.def_step.specs.declared.Event.TheVariants.{Step, Tick, Sweep, Input}
use Rattle.def_step.specs.Accesses.{access_of, access_checks, load_checks, store_checks}
use Rattle.def_step.specs.Checks.{Check}
use Rattle.def_step.specs.Events.{noted, stepped, with_act, with_deed}
use Rattle.def_step.specs.Instructions.{executed}
use Rattle.def_machine.specs.Platform.{Platform}
use Rattle.def_step.specs.Operands.{operands_of}
use Rattle.def_step.specs.Routines.{word_checks, lies_in_ram}
use Rattle.law_moves.proofs.Checks.{AllPass, all_pass}
use Rattle.law_events.proofs.Accesses.{load_passes, store_passes, width_of}
use Rattle.law_events.proofs.Events.{ready_keeps}
use Rattle.law_events.proofs.BlankEvents.{ready_blank}
use Rattle.def_safety.specs.Fresh.{HandsOut, AsHanded}
use Rattle.law_events.proofs.Handing.{hands_fresh, key_fresh, token_fresh}
use Rattle.def_safety.specs.Each.{ready}
use Rattle.def_safety.specs.Used.{authority_of, value_of, access_start}
use Rattle.def_safety.specs.Temporal.{OfLive, UsesLive, AllocatesFresh}
use Rattle.law_history.proofs.Steps.{none_told, step_case}
use Rattle.law_history.proofs.Telling.{ToldBy, Tells, executed_tells}

-- ---- what is used

abbrev Used : Cap → Type 0
Used x = (x.tag ≡ true) × (cap_base x < cap_top x)

access_uses : (a : Access) (x y : Cap) (at : ℕ) → 0 < a.width → AllPass (access_checks a x y at) → Used x
access_uses a x y at some = chosen (λ (cs : List Check). AllPass cs → Used x) a.loads (load_checks a x at) (store_checks a x at (a.whole && y.tag))
    (λ loads h. (let p = load_passes a x at h in let low = p.low in let high = p.high in (p.tagged, omega (arith, some, low, high))))
    (λ stores h. (let p = store_passes a x at (a.whole && y.tag) h in let low = p.low in let high = p.high in (p.tagged, omega (arith, some, low, high))))

word_uses : (i : Image) (s : State) (c : Cap) → AllPass (word_checks i s c) → Used c
word_uses i s c h =
    let both = and_parts (is_range_inside c (cap_address c) (cap_address c + 4)) (lies_in_ram i s (cap_address c) 4) h.1.1.1.0 in
    let ends = and_parts (nat_le (cap_base c) (cap_address c)) (nat_le (cap_address c + 4) (cap_top c)) both.0 in
    let low = leb-true (cap_base c) (cap_address c) ends.0 in
    let high = leb-true (cap_address c + 4) (cap_top c) ends.1 in
    (h.0, omega (arith, low, high))

pub uses_live : (b : Platform) (s : State) → Partitioned b.image → Keeps b.image s → UsesLive b s
uses_live b s parts k = record {
  access = λ t i runs passes. of_register t (operands_of i).first runs (access_uses (access_of i) (authority_of (ready b s) t i) (value_of (ready b s) t i) (access_start (ready b s) t i) (width_of i).some (all_pass (access_checks (access_of i) (authority_of (ready b s) t i) (value_of (ready b s) t i) (access_start (ready b s) t i)) passes));
  word = λ t runs passes. of_register t 10 runs (word_uses b.image (ready b s) (register (thread (ready b s) t) 10) (all_pass (word_checks b.image (ready b s) (register (thread (ready b s) t) 10)) passes));
}
  where
    of_register : (t n : ℕ) → (ready b s).running ≡ Some t → Used (register (thread (ready b s) t) n) → OfLive b.image (ready b s).objects (register (thread (ready b s) t) n)
    of_register t n runs used heap = (ready_keeps b s parts k).confined.live t runs n used.0 heap used.1

-- ---- what is handed out

-- an object is handed out by one of three routines
handed_as : {P R : Object → Type 0} (i : Image) (s : State) (number base long : ℕ) → ((r : Object) → P r → R r) → HandsOut i s number base long P → HandsOut i s number base long R
handed_as i s number base long wider out = record { object = out.object; told = out.told; fresh = out.fresh; after_is = wider out.object out.after_is }

pub step_allocates : (b : Platform) (s : State) (d : Deed) (number base bytes charged : ℕ) → Partitioned b.image → Facts b.image → Keeps b.image s → Blank b.image s → d.act ≡ acts.Allocate number base bytes charged → (stepped b s).1 ≡ Some d
    → HandsOut b.image (ready b s) number base bytes (AsHanded b (ready b s) d.thread (stepped b s).0)
step_allocates b s d number base bytes charged parts facts k blank act = step_case (λ (r : State × Option Deed). r.1 ≡ Some d → HandsOut b.image (ready b s) number base bytes (AsHanded b (ready b s) d.thread r.0)) b s
    (λ idle e. none_told d e)
    (λ t runs e. subst (λ (z : State). HandsOut b.image (ready b s) number base bytes (AsHanded b (ready b s) d.thread z)) (sym (uncounted t e)) (at t runs (executed_tells b (ready b s) t d e)))
  where
    -- an allocation is no deed that is counted
    uncounted : (t : ℕ) → (executed b (ready b s) t).1 ≡ Some d → (noted (executed b (ready b s) t)).0 ≡ (executed b (ready b s) t).0
    uncounted t e = ap (λ (c : Counts). record (executed b (ready b s) t).0 { counts = c })
        (ap (with_deed (executed b (ready b s) t).0.counts) e ∙ ap (with_act (executed b (ready b s) t).0.counts) act)

    at : (t : ℕ) → (ready b s).running ≡ Some t → Tells b (ready b s) t (executed b (ready b s) t).0 d → HandsOut b.image (ready b s) number base bytes (AsHanded b (ready b s) d.thread (executed b (ready b s) t).0)
    at t runs told =
        let by : ToldBy b (ready b s) t (executed b (ready b s) t).0 d.entry (acts.Allocate number base bytes charged) = subst (λ (a : Act). ToldBy b (ready b s) t (executed b (ready b s) t).0 d.entry a) act told.by in
        let keeps = ready_keeps b s parts k in
        let zero = ready_blank b s blank in
        subst (λ u. HandsOut b.image (ready b s) number base bytes (AsHanded b (ready b s) u (executed b (ready b s) t).0)) (sym told.thread)
        (elim by [
          | inl plain ↦ handed_as b.image (ready b s) number base bytes (λ r is. inl (plain.0 runs, is)) (hands_fresh b.image (ready b s) (executed b (ready b s) t).0 t d.entry number base bytes charged parts facts.away keeps zero plain.1)
          | inr sealed ↦ elim sealed [
            | inl key ↦ handed_as b.image (ready b s) number base bytes (λ r is. inr (inl (key.0 runs, is))) (key_fresh b.image (ready b s) (executed b (ready b s) t).0 t d.entry number base bytes charged parts facts.away keeps zero key.1)
            | inr token ↦ handed_as b.image (ready b s) number base bytes (λ r is. inr (inr (token.0 runs, is))) (token_fresh b.image (ready b s) (executed b (ready b s) t).0 t d.entry number base bytes charged parts facts.away keeps zero token.1)
          ]
        ])

pub allocates_fresh : (b : Platform) (s : State) (e : Event) → Partitioned b.image → Facts b.image → Keeps b.image s → Blank b.image s → AllocatesFresh b s e
allocates_fresh b s Step parts facts k blank d number base long live is act = step_allocates b s d number base long live parts facts k blank act is
allocates_fresh b s Tick parts facts k blank d number base long live is act = none_told d is
allocates_fresh b s Sweep parts facts k blank d number base long live is act = none_told d is
allocates_fresh b s (Input n byte) parts facts k blank d number base long live is act = none_told d is
