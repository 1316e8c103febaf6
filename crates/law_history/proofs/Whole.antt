-- Every event, and every list of events, keeps what holds of keys and tokens.
use Rattle.std.proofs.Common.{ℕ, ◌≡◌, ◌+◌, List, [], ◌∷◌, Option, Some, None, refl, sym, subst}
use Rattle.def_machine.specs.Platform.{Platform}
use Rattle.def_machine.specs.Image.{Image}
use Rattle.def_machine.specs.State.{State}
use Rattle.def_machine.specs.Heap.{swept}
use Rattle.def_machine.specs.Rows.{RowsFit}
use Rattle.def_safety.specs.Wired.{Wired}
use Rattle.def_confined.specs.Confined.{Confined}
use Rattle.def_confined.specs.Keeps.{Keeps}
use Rattle.def_confined.specs.Partitioned.{Partitioned}
use Rattle.def_confined.specs.Facts.{Facts}
use Rattle.def_step.specs.declared.Event.{Event}
use Rattle.def_step.specs.declared.Event.TheVariants.{Step, Tick, Sweep, Input}
use Rattle.def_step.specs.Events.{preempted, scheduled, continued, one_more_step, stepped, ticked, received, happens, run}
use Rattle.def_step.specs.Instructions.{executed}
use Rattle.def_safety.specs.Everywhere.{Everywhere}
use Rattle.def_safety.specs.Tokened.{TokenFits, KeysShut, Tokened}
use Rattle.law_history.proofs.Events.{Regular, again, ready_regular, ticked_regular}
use Rattle.law_events.proofs.Events.{ready_keeps, event_keeps}
use Rattle.law_moves.proofs.Turns.{clock_of}
use Rattle.law_moves.proofs.TurnsMoves.{clock_confined}
use Rattle.law_history.proofs.TokensEvents.{event_fit, ready_fit}
use Rattle.law_history.proofs.Fitting.{AllFit, regular_fit, executed_fit}
use Rattle.law_history.proofs.Naming.{Named, executed_named}
use Rattle.law_history.proofs.Passing.{keys_pass, fits_pass}
use Rattle.law_history.proofs.Shutting.{AllShut, Standing, executed_shut}
use Rattle.law_history.proofs.Sweeps.{swept_fit, swept_has, swept_rows, swept_named}

tokened_of : (i : Image) (z : State) → Named z.objects z.tokens → AllFit i z → AllShut i z → Tokened i z
tokened_of i z n f k = record { some = n.some; named = n.named; tokens = f; keys = k }

named_in : (i : Image) (s : State) → Tokened i s → Named s.objects s.tokens
named_in i s h = record { some = h.some; named = h.named }

shut_by : (i : Image) (s z : State) → z.tokens ≡ s.tokens → Everywhere (KeysShut i s.tokens) z → AllShut i z
shut_by i s z same h = subst (λ ks. Everywhere (KeysShut i ks) z) (sym same) h

-- where objects and rows are as they were
regular_tokened : (i : Image) (s z : State) → Regular (TokenFits i s.objects s.tokens) s z → Regular (KeysShut i s.tokens) s z → Tokened i s → Tokened i z
regular_tokened i s z f k h = tokened_of i z
    (subst (λ os. Named os z.tokens) (sym f.objects) (subst (λ ks. Named s.objects ks) (sym f.tokens) (named_in i s h)))
    (regular_fit i s z f)
    (shut_by i s z k.tokens k.has)

-- ---- a step

-- so it is where the thread of a step carries on
pub ready_tokened : (b : Platform) (s : State) → Tokened b.image s → Tokened b.image (scheduled b (preempted (one_more_step s)))
ready_tokened b s h = regular_tokened b.image s (scheduled b (preempted (one_more_step s)))
    (ready_regular (TokenFits b.image s.objects s.tokens) (fits_pass b.image s.objects s.tokens).widens b s h.tokens)
    (ready_regular (KeysShut b.image s.tokens) (keys_pass b.image s.tokens).widens b s h.keys)
    h

pub executed_tokened : (b : Platform) (s : State) (t : ℕ) → Standing b s t → Tokened b.image s → Tokened b.image (executed b s t).0
executed_tokened b s t g h = tokened_of b.image (executed b s t).0
    (executed_named b s t g h.some h.keys (named_in b.image s h))
    (executed_fit b s t g.parts g.facts g.held h.tokens)
    (executed_shut b s t g h.keys)

continued_tokened : (b : Platform) (s : State) (o : Option ℕ) → s.running ≡ o → Partitioned b.image → Facts b.image → Confined b.image s → RowsFit s.objects s.tokens → Tokened b.image s → Tokened b.image (continued b s o).0
continued_tokened b s None runs parts facts held rows h = h
continued_tokened b s (Some t) runs parts facts held rows h =
    let after = executed_tokened b s t (record { parts = parts; facts = facts; held = held; runs = runs; rows = rows }) h in
    record {
      some = after.some;
      named = after.named;
      tokens = record { granules = after.tokens.granules; threads = after.tokens.threads };
      keys = record { granules = after.keys.granules; threads = after.keys.threads };
    }

stepped_tokened : (b : Platform) (s : State) → Partitioned b.image → Facts b.image → Keeps b.image s → RowsFit s.objects s.tokens → Tokened b.image s → Tokened b.image (stepped b s).0
stepped_tokened b s parts facts k rows h =
    continued_tokened b (scheduled b (preempted (one_more_step s))) (scheduled b (preempted (one_more_step s))).running refl parts facts (ready_keeps b s parts k).confined (ready_fit b s rows) (ready_tokened b s h)

-- ---- a tick, and a sweep

ticked_tokened : (i : Image) (s : State) → Tokened i s → Tokened i (ticked s)
ticked_tokened i s h = regular_tokened i s (ticked s)
    (ticked_regular (TokenFits i s.objects s.tokens) (fits_pass i s.objects s.tokens).widens s h.tokens)
    (ticked_regular (KeysShut i s.tokens) (keys_pass i s.tokens).widens s h.keys)
    h

swept_tokened : (i : Image) (s : State) → Partitioned i → Confined i s → Confined i (swept i s) → Tokened i s → Tokened i (swept i s)
swept_tokened i s parts held after h = tokened_of i (swept i s)
    (swept_named i s (named_in i s h))
    (swept_fit i s parts held h.some h.tokens after)
    (shut_by i s (swept i s) (swept_rows i s) (swept_has (KeysShut i s.tokens) (keys_pass i s.tokens).widens i s h.keys))

-- ---- whole

counted : (i : Image) (s z : State) → z.objects ≡ s.objects → z.tokens ≡ s.tokens → z.granules ≡ s.granules → z.threads ≡ s.threads → Tokened i s → Tokened i z
counted i s z objects tokens granules threads h = tokened_of i z
    (subst (λ os. Named os z.tokens) (sym objects) (subst (λ ks. Named s.objects ks) (sym tokens) (named_in i s h)))
    (regular_fit i s z (again (TokenFits i s.objects s.tokens) (TokenFits i s.objects s.tokens) (fits_pass i s.objects s.tokens).widens s z granules threads objects tokens h.tokens))
    (shut_by i s z tokens (again (KeysShut i s.tokens) (KeysShut i s.tokens) (keys_pass i s.tokens).widens s z granules threads objects tokens h.keys).has)

pub event_tokened : (b : Platform) (s : State) (e : Event) → Partitioned b.image → Facts b.image → Wired b → Keeps b.image s → RowsFit s.objects s.tokens → Tokened b.image s → Tokened b.image (happens b s e).0
event_tokened b s Step parts facts wired k rows h = stepped_tokened b s parts facts k rows h
event_tokened b s Tick parts facts wired k rows h = ticked_tokened b.image s h
event_tokened b s (Input n byte) parts facts wired k rows h = counted b.image s (received s n byte) refl refl refl refl h
event_tokened b s Sweep parts facts wired k rows h =
    swept_tokened b.image (record s { counts = record s.counts { sweeps = s.counts.sweeps + 1 } }) parts (counts_confined k.confined) (event_keeps b s Sweep parts facts wired k).confined
    (counted b.image s (record s { counts = record s.counts { sweeps = s.counts.sweeps + 1 } }) refl refl refl refl h)
  where
    counts_confined : Confined b.image s → Confined b.image (record s { counts = record s.counts { sweeps = s.counts.sweeps + 1 } })
    counts_confined c = clock_confined b.image s (record (clock_of s) { counts = record s.counts { sweeps = s.counts.sweeps + 1 } }) c

-- any list of events keeps what holds of keys and tokens
pub run_tokened : (b : Platform) (s : State) (es : List Event) → Partitioned b.image → Facts b.image → Wired b → Keeps b.image s → RowsFit s.objects s.tokens → Tokened b.image s → Tokened b.image (run b s es)
unfolding run
run_tokened b s [] parts facts wired k rows h = h
run_tokened b s (e ∷ es) parts facts wired k rows h =
    run_tokened b (happens b s e).0 es parts facts wired (event_keeps b s e parts facts wired k) (event_fit b s e parts k rows) (event_tokened b s e parts facts wired k rows h)
