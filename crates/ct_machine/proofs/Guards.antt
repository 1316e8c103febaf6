-- A machine that starts is guarded, and every event keeps it so.
use Rattle.std.proofs.Common.{◌≡◌, ◌∙◌, ap, subst, sym}
use Rattle.ct_entry.specs.declared.acts.Happened.{Happened}
use Rattle.def_events.specs.Guarded.{Guarded}
use Rattle.def_confined.specs.Telling.{IsLicensedEvent}
use Rattle.def_machine.specs.State.{State}
use Rattle.def_step.specs.declared.Event.{Event}
use Rattle.def_machine.specs.Platform.{Platform, MachineRow}
use Rattle.def_step.specs.Events.{happens}
use Rattle.def_image.specs.Parts.{PartsRow}
use Rattle.def_image.specs.Sound.{Sound}
use Rattle.def_boot.specs.Boot.{booted_machine}
use Rattle.ct_machine.specs.Going.{MayGoOn}
use Rattle.law_boot.proofs.Wiring.{wired}
use Rattle.law_boot.proofs.Ranges.{inside}
use Rattle.law_boot.proofs.Holding.{holds}
use Rattle.law_boot.proofs.Whole.{partitioned}
use Rattle.law_started.proofs.Shutting.{shut}
use Rattle.law_started.proofs.Whole.{keeps}
use Rattle.law_started.proofs.Settling.{boot_settles}
use Rattle.law_started.proofs.Blanking.{blank}
use Rattle.law_started.proofs.Tokening.{boot_tokened}
use Rattle.law_routines.proofs.Events.{event_settles}
use Rattle.law_events.proofs.BlankEvents.{event_blank}
use Rattle.law_history.proofs.Locals.{event_local}
use Rattle.law_history.proofs.TokensEvents.{event_fit}
use Rattle.law_history.proofs.Whole.{event_tokened}
use Rattle.law_events.proofs.Events.{event_keeps, deed_licensed, span_licensed}
use Rattle.law_started.proofs.Globality.{boots_local}
use Rattle.law_started.proofs.Starting.{no_rows}
use Rattle.law_truly.proofs.Running.{event_framed}
use Rattle.law_truly.proofs.Whole.{boots_framed}

pub at_boot : (p : PartsRow) → Sound p → Guarded (booted_machine p)
at_boot p s = record {
  partitioned = partitioned p s;
  facts = holds p s;
  wired = wired p s;
  inside = inside p s;
  shut = shut p s;
  keeps = keeps p s;
  settled = boot_settles p;
  blank = blank p s;
  rows = no_rows p;
  tokened = boot_tokened p s;
  framed = boots_framed p;
  locals = boots_local p s;
}

pub after_event : (m : MachineRow) (e : Event) → Guarded m → Guarded (record { board = m.board; state = (happens m.board m.state e).0 })
after_event m e g = record {
  partitioned = g.partitioned;
  facts = g.facts;
  wired = g.wired;
  inside = g.inside;
  shut = g.shut;
  keeps = event_keeps m.board m.state e g.partitioned g.facts g.wired g.keeps;
  settled = event_settles m.board m.state e g.facts.settled g.settled;
  blank = event_blank m.board m.state e g.partitioned g.wired g.shut g.keeps g.blank;
  rows = event_fit m.board m.state e g.partitioned g.keeps g.rows;
  tokened = event_tokened m.board m.state e g.partitioned g.facts g.wired g.keeps g.rows g.tokened;
  framed = event_framed m.board m.state e g.keeps g.framed;
  locals = event_local m.board m.state e g.partitioned g.keeps g.locals;
}

pub event_licensed : (m : MachineRow) (e : Event) → Guarded m → IsLicensedEvent m.board.image.entries (happens m.board m.state e).1
event_licensed m e g = record {
  deed = λ d is. deed_licensed m.board m.state e d g.partitioned g.facts g.wired g.keeps is;
  off = λ o is. span_licensed m.board m.state e o g.partitioned g.facts g.wired g.keeps is;
}

pub guarded_may : {m : MachineRow} → Guarded m → MayGoOn m
guarded_may g = record { shut = g.shut; facts = g.facts; keeps = g.keeps; rows = g.rows }

pub same_machine : (m n : MachineRow) → m.board ≡ n.board → m.state ≡ n.state → m ≡ n
same_machine m n board state =
    ap (λ (b : Platform). let x : MachineRow = record { board = b; state = m.state } in x) board ∙ ap (λ (s : State). let x : MachineRow = record { board = n.board; state = s } in x) state

pub kept_by : (m n : MachineRow) (e : Event) → Guarded m → n.state ≡ (happens m.board m.state e).0 → n.board ≡ m.board → Guarded n
kept_by m n e g state board = subst Guarded (sym (same_machine n (record { board = m.board; state = (happens m.board m.state e).0 }) board state)) (after_event m e g)

pub told_by : (m n : MachineRow) (e : Event) (h : Happened) → Guarded m → m ≡ n → h ≡ (happens m.board m.state e).1 → IsLicensedEvent n.board.image.entries h
told_by m n e h g same told =
    let here : IsLicensedEvent m.board.image.entries h = subst (λ (x : Happened). IsLicensedEvent m.board.image.entries x) (sym told) (event_licensed m e g) in
    subst (λ (x : MachineRow). IsLicensedEvent x.board.image.entries h) same here

pub booted_by : (p : PartsRow) (m : MachineRow) → Sound p → m ≡ booted_machine p → Guarded m
booted_by p m s is = subst Guarded (sym is) (at_boot p s)

pub told_guarded : {m n : MachineRow} (e : Event) {h : Happened} → Guarded m → (n.state, h) ≡ happens m.board m.state e → n.board ≡ m.board → Guarded n
told_guarded {m} {n} e g is board = kept_by m n e g (ap (λ (r : State × Happened). r.0) is) board

pub same_by : (m n : MachineRow) → n.state ≡ m.state → n.board ≡ m.board → Guarded m → Guarded n
same_by m n state board h = subst Guarded (sym (same_machine n m board state)) h
