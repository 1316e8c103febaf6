use Rattle.std.proofs.Common.{subst, List}
use Rattle.ct_token.specs.declared.rows.Row.{Row}
use Rattle.ct_token.specs.Kept.{IsAt, IsGapFor}
use Rattle.ct_token.proofs.Kept.{rise_set, rise_insert, revived, inserted, gone_at}
use Rattle.ct_token.proofs.putting.put.Goals as goal

pub returns-in-Ok-clause-rise : goal.returns-in-Ok-clause-rise
returns-in-Ok-clause-rise c =
    let found = subst (λ (l : List Row). IsAt l c.args.number c.in-Ok.at) c.deref.ensures.value c.in-Ok.ensures.found in
    rise_set c.args.number _ c.args.rows.now.items c.in-Ok.at found c.requires.rise

pub returns-in-Ok-clause-tokens : goal.returns-in-Ok-clause-tokens
returns-in-Ok-clause-tokens c =
    let found = subst (λ (l : List Row). IsAt l c.args.number c.in-Ok.at) c.deref.ensures.value c.in-Ok.ensures.found in
    rw c.standing_for.ensures (revived c.args.number c.args.key c.args.rows.now.items c.in-Ok.at c.requires.rise found (gone_at c.args.number c.in-Ok.at c.args.rows.now.items c.requires.rise found c.requires.absent))

pub returns-in-Ok-insert-clause-rise : goal.returns-in-Ok-insert-clause-rise
returns-in-Ok-insert-clause-rise c =
    let gap = subst (λ (l : List Row). IsGapFor l c.args.number c.in-Err.at) c.deref.ensures.value c.in-Err.ensures.absent in
    rw c.in-Ok-insert.ensures.items (rise_insert c.args.number _ c.args.rows.now.items c.in-Err.at gap c.requires.rise)

pub returns-in-Ok-insert-clause-tokens : goal.returns-in-Ok-insert-clause-tokens
returns-in-Ok-insert-clause-tokens c =
    let gap = subst (λ (l : List Row). IsGapFor l c.args.number c.in-Err.at) c.deref.ensures.value c.in-Err.ensures.absent in
    rw (c.in-Ok-insert.ensures.items, c.standing_for.ensures) (inserted c.args.number c.args.key c.args.rows.now.items c.in-Err.at gap)
