-- The laws of single events, over runs.
use Rattle.std.proofs.Common.{ℕ, ◌≡◌, ◌≤◌, List, [], ◌∷◌, Some}
use Rattle.ct_entry.specs.declared.acts.Act.TheVariants as acts
use Rattle.ct_entry.specs.declared.acts.Deed.{Deed}
use Rattle.def_machine.specs.Image.{root}
use Rattle.def_machine.specs.Objects.{charges}
use Rattle.def_machine.specs.State.{State}
use Rattle.def_confined.specs.Keeps.{Keeps}
use Rattle.def_confined.specs.Partitioned.{Partitioned}
use Rattle.def_confined.specs.Facts.{Facts}
use Rattle.def_safety.specs.Inside.{Inside}
use Rattle.def_safety.specs.Wired.{Wired}
use Rattle.def_hidden.specs.Hidden.{Shut, Blank}
use Rattle.def_step.specs.declared.Event.{Event}
use Rattle.def_step.specs.declared.Event.TheVariants.{Step}
use Rattle.def_step.specs.Events.{happens, run}
use Rattle.def_machine.specs.Platform.{Platform}
use Rattle.law_events.proofs.Events.{event_keeps, ready_keeps}
use Rattle.law_events.proofs.Running.{run_keeps}
use Rattle.law_events.proofs.BlankEvents.{event_blank, run_blank}
use Rattle.def_safety.specs.Reuse.{SweepsWhole}
use Rattle.def_safety.specs.Each.{EachEvent, ready}
use Rattle.def_safety.specs.Calls.{CleanEvent}
use Rattle.def_events.specs.Tokens.{KeepsTokens}
use Rattle.def_events.specs.Upheld.{Upholds}
use Rattle.def_machine.specs.Rows.{RowsFit}
use Rattle.def_safety.specs.Tokened.{Tokened}
use Rattle.law_history.proofs.Attenuating.{loads_attenuate, stores_local}
use Rattle.law_history.proofs.Deriving.{all_opened}
use Rattle.law_history.proofs.Holdings.{running_holds}
use Rattle.law_history.proofs.TokensEvents.{event_fit}
use Rattle.law_history.proofs.Lasting.{key_lasts, stays_shut}
use Rattle.law_history.proofs.Openings.{finds_sealed, opens_tokens}
use Rattle.law_history.proofs.Whole.{event_tokened, ready_tokened}
use Rattle.law_history.proofs.HandlesOnce.{handling_goes, handles_by, enters_fresh}
use Rattle.def_safety.specs.Accesses.{UsesReach}
use Rattle.def_safety.specs.Temporal.{UsesLive, AllocatesFresh}
use Rattle.def_safety.specs.Chunks.{ChunksMeet, SweptBeforeReuse, UnusedAfterFree}
use Rattle.def_safety.specs.Charges.{ChargesFollow}
use Rattle.def_safety.specs.Traps.{TrapsFirst}
use Rattle.def_safety.specs.Within.{ThreadsWithin}
use Rattle.law_history.proofs.Steps.{each_event}
use Rattle.law_history.proofs.Cleaning.{clean_event, last_ends}
use Rattle.law_history.proofs.Reaching.{uses_reach}
use Rattle.law_history.proofs.Safety.{uses_live, allocates_fresh}
use Rattle.law_history.proofs.Reusing.{free_then_allocate, free_then_use}
use Rattle.law_history.proofs.Charging.{charges_follow}
use Rattle.law_history.proofs.Trapping.{traps_first}
use Rattle.law_history.proofs.Within.{ready_within}

-- what stands of a state from event to event
record IsUpheld (b : Platform) (z : State) : Type 0 where
  keeps : Keeps b.image z
  blank : Blank b.image z
  rows : RowsFit z.objects z.tokens
  tokened : Tokened b.image z

module _ (b : Platform) (parts : Partitioned b.image) (facts : Facts b.image) (wired : Wired b) where
  next_keeps : (z : State) (e : Event) → Keeps b.image z → Keeps b.image (happens b z e).0
  next_keeps z e k = event_keeps b z e parts facts wired k

  -- keys and tokens
  keeps_tokens : (z : State) (e : Event) → Keeps b.image z → RowsFit z.objects z.tokens → Tokened b.image z → KeepsTokens b z e
  unfolding run
  keeps_tokens z e k rows held = record {
    rows = event_fit b z e parts k rows;
    tokened = event_tokened b z e parts facts wired k rows held;
    found = finds_sealed b.image (ready b z) (ready_keeps b z parts k).confined (ready_tokened b z held);
    opens = opens_tokens b z parts k held;
    shut = stays_shut b z e parts facts k rows;
    keys = λ n is. key_lasts b z (e ∷ []) n parts facts wired k rows held is;
  }

  -- what holds of one event
  upholds : (z : State) (e : Event) → Inside b → IsUpheld b z → Upholds b z e
  upholds z e inside h = let k = h.keeps in let blank = h.blank in record {
    safe = record {
      calls = clean_event b z e parts facts k;
      accesses = uses_reach b z parts k;
      unused = uses_live b z parts k;
      fresh = allocates_fresh b z e parts facts k blank;
      traps = traps_first b z e;
      charged = charges_follow b z e parts k;
      within = ready_within b z inside parts k;
    };
    once = handling_goes b z e;
    by_traps = handles_by b z e;
    fresh = enters_fresh b z e;
    last = last_ends b z e;
    tokens = keeps_tokens z e k h.rows h.tokened;
    derives = all_opened b z e parts facts k h.tokened;
    holds = running_holds b z parts facts k;
    attenuates = loads_attenuate b z;
    local = stores_local b z;
  }

  next_upheld : Shut b.image → (z : State) (e : Event) → IsUpheld b z → IsUpheld b (happens b z e).0
  next_upheld shut z e h = record {
    keeps = next_keeps z e h.keeps;
    blank = event_blank b z e parts wired shut h.keeps h.blank;
    rows = event_fit b z e parts h.keeps h.rows;
    tokened = event_tokened b z e parts facts wired h.keeps h.rows h.tokened;
  }

  pub run_upholds : (s : State) (es : List Event) → Inside b → Shut b.image → Keeps b.image s → Blank b.image s → RowsFit s.objects s.tokens → Tokened b.image s → EachEvent (Upholds b) b s es
  run_upholds s es inside shut k blank rows held = each_event (Upholds b) (IsUpheld b) b s es (next_upheld shut) (λ z e h. upholds z e inside h)
      (record { keeps = k; blank = blank; rows = rows; tokened = held })

  pub run_clean : (s : State) (es : List Event) → Keeps b.image s → EachEvent (CleanEvent b) b s es
  run_clean s es k = each_event (CleanEvent b) (Keeps b.image) b s es next_keeps (λ z e kept. clean_event b z e parts facts kept) k

  pub run_uses_live : (s : State) (es : List Event) → Keeps b.image s → EachEvent (λ z e. UsesLive b z) b s es
  run_uses_live s es k = each_event (λ z e. UsesLive b z) (Keeps b.image) b s es next_keeps (λ z e kept. uses_live b z parts kept) k

  pub run_uses_reach : (s : State) (es : List Event) → Keeps b.image s → EachEvent (λ z e. UsesReach b z) b s es
  run_uses_reach s es k = each_event (λ z e. UsesReach b z) (Keeps b.image) b s es next_keeps (λ z e kept. uses_reach b z parts kept) k

  pub run_charges_follow : (s : State) (es : List Event) → Keeps b.image s → EachEvent (ChargesFollow b) b s es
  run_charges_follow s es k = each_event (ChargesFollow b) (Keeps b.image) b s es next_keeps (λ z e kept. charges_follow b z e parts kept) k

  pub run_within : (s : State) (es : List Event) → Inside b → Keeps b.image s → EachEvent (λ z e. ThreadsWithin b (ready b z)) b s es
  run_within s es inside k = each_event (λ z e. ThreadsWithin b (ready b z)) (Keeps b.image) b s es next_keeps (λ z e kept. ready_within b z inside parts kept) k

  pub run_charges : (s : State) (es : List Event) (q : ℕ) → Keeps b.image s → charges q (run b s es).objects ≤ (root b.image q).limit
  run_charges s es q k = (run_keeps b s es parts facts wired k).confined.limits q

  pub run_fresh : (s : State) (es : List Event) → Shut b.image → Keeps b.image s → Blank b.image s → EachEvent (AllocatesFresh b) b s es
  run_fresh s es shut k blank = each_event (AllocatesFresh b) (λ z. Keeps b.image z × Blank b.image z) b s es
      (λ z e kept. (next_keeps z e kept.0, event_blank b z e parts wired shut kept.0 kept.1))
      (λ z e kept. allocates_fresh b z e parts facts kept.0 kept.1)
      (k, blank)

  pub run_reuses : (s : State) (es fs : List Event) (d : Deed) (n base long live : ℕ) (c : Deed) (number from size left : ℕ) → Shut b.image → Keeps b.image s → Blank b.image s → (happens b (run b s es) Step).1.deed ≡ Some d → d.act ≡ acts.Free n base long live
      → (happens b (run b (happens b (run b s es) Step).0 fs) Step).1.deed ≡ Some c → c.act ≡ acts.Allocate number from size left → ChunksMeet from size base long → SweepsWhole b (happens b (run b s es) Step).0 fs
  run_reuses s es fs d n base long live c number from size left shut k blank =
      let kept = run_keeps b s es parts facts wired k in
      let hidden = run_blank b s es parts facts wired shut k blank in
      free_then_allocate b (run b s es) fs d n base long live c number from size left
      (record { parts = parts; facts = facts; wired = wired; shut = shut; keeps = kept; blank = hidden })
      (record { parts = parts; facts = facts; wired = wired; shut = shut; keeps = next_keeps (run b s es) Step kept; blank = event_blank b (run b s es) Step parts wired shut kept hidden })

  pub run_swept : (s : State) → Shut b.image → Keeps b.image s → Blank b.image s → SweptBeforeReuse b s
  run_swept s shut k blank = λ es fs d n base long live c number from size left. run_reuses s es fs d n base long live c number from size left shut k blank

  pub run_unused : (s : State) → Keeps b.image s → UnusedAfterFree b s
  run_unused s k = λ es fs d n base long live frees act.
      (let kept = run_keeps b s es parts facts wired k in
      free_then_use b (run b s es) fs d n base long live parts kept frees act
      (uses_live b (run b (happens b (run b s es) Step).0 fs) parts (run_keeps b (happens b (run b s es) Step).0 fs parts facts wired (next_keeps (run b s es) Step kept))))

-- whatever the board and the state
pub run_traps : (b : Platform) (s : State) (es : List Event) → EachEvent (TrapsFirst b) b s es
run_traps b s [] = tt
run_traps b s (e ∷ es) = (traps_first b s e, run_traps b (happens b s e).0 es)
