use Rattle.std.proofs.Common.{◌∙◌, ◌<◌, ap, length, sym, subst}
use Rattle.def_machine.specs.State.{thread}
use Rattle.def_boot.specs.Boot.{boot_state}
use Rattle.def_image.specs.Parts.{PartsRow}
use Rattle.def_image.specs.Sound.{Sound}
use Rattle.law_image.proofs.Sounds.{sound}
use Rattle.law_started.proofs.Starting.{thread_starts}
use Rattle.ct_boot.specs.Starts.{start_of}
use Rattle.ct_boot.proofs.Ranges.{got_of}
use Rattle.ct_boot.proofs.starting.thread_start.Goals as goal

pub first_at-requires-clause-sound : goal.first_at-requires-clause-sound
first_at-requires-clause-sound c = subst (λ p. Sound p) (sym c.parts-parts.ensures.parts) (sound c.args.image.now c.parts-parts.ensures.faultless)

pub first_at-requires-clause-one : goal.first_at-requires-clause-one
first_at-requires-clause-one c =
    let lt = subst (λ (p : PartsRow). c.args.index < length p.threads) (sym c.parts-parts.ensures.parts) c.requires in
    got_of c.parts.inside.threads.items c.parts-parts.result.now.threads c.args.index c.index.result.now (ap (λ p. p.threads) c.parts.view_is) lt c.index.ensures

pub returns : goal.returns
returns c =
    let lt = subst (λ (p : PartsRow). c.args.index < length p.threads) (sym c.parts-parts.ensures.parts) c.requires in
    let there = got_of c.parts.inside.threads.items c.parts-parts.result.now.threads c.args.index c.index.result.now (ap (λ p. p.threads) c.parts.view_is) lt c.index.ensures in
    c.first_at.ensures ∙ sym (ap (λ t. start_of t) (thread_starts c.parts-parts.result.now c.args.index c.index.result.now there)) ∙ ap (λ p. start_of (thread (boot_state p) c.args.index)) c.parts-parts.ensures.parts
