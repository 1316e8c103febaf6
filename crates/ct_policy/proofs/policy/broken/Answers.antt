use Rattle.std.proofs.Common.{◌≡◌, ◌+◌, ◌<◌, ◌∙◌, ℕ, List, suc, length, get_or, string_bytes, ap, subst, arith}
use Rattle.def_image.specs.Parts.{PartsRow}
use Rattle.def_policy.specs.Denials.{Denies}
use Rattle.def_policy.specs.Rulings.{Ruling}
use Rattle.ct_policy.specs.Kept.{Adds}
use Rattle.ct_policy.proofs.Denying.{Sofar, next_rule}
use Rattle.ct_policy.proofs.policy.broken.Goals as goal

pub loop-place-preserved : goal.loop-place-preserved
loop-place-preserved c =
    let x : Ruling = c.index-ruling.result.now in
    let place : ℕ = c.loop-place.place in
    let kept : c.rules.inside.rows.items ≡ c.args.rules.now = c.rules.view_is in
    let is : x ≡ get_or c.args.rules.now place x = c.index-ruling.ensures ∙ ap (λ (rs : List Ruling). get_or rs place x) kept in
    let inside : place < length c.args.rules.now = omega (arith, c.loop-place-test.true, c.len-place-end.ensures, ap (λ (rs : List Ruling). length rs) kept, c.rules.inside.rows.ok) in
    let adds : Adds (Denies c.args.image.now (place + 1) x x.subject) (string_bytes c.loop-place.text) (string_bytes c.add_ruling.new.text) =
    subst (λ (p : PartsRow). Adds (Denies p (place + 1) x x.subject) (string_bytes c.loop-place.text) (string_bytes c.add_ruling.new.text)) c.parts-parts.ensures.parts c.in_ok-add_ruling.ensures in
    let on : suc place ≡ place + 1 = omega arith in
    subst (λ n. Sofar c.args.image.now c.args.rules.now n (string_bytes c.add_ruling.new.text)) on
    (next_rule c.args.image.now c.args.rules.now place x (string_bytes c.loop-place.text) (string_bytes c.add_ruling.new.text) inside is adds c.loop-place.invariant)
